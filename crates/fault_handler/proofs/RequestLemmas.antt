-- The pages that were asked for, as the set of the library has them: it compares the page first, and the machine the request.
use Rattle.std.proofs.Common.{◌≡◌, ℕ, zero, suc, ◌+◌, ◌<◌, ◌∙◌, ◌||◌, false, eqb, List, [], ◌∷◌, ◌++◌, length, get_or, map, take, if◌then◌else◌, refl, sym, ap, arith}
use Rattle.std.proofs.lemmas.Bool.Decides.{nat_tests}
use Rattle.std.proofs.Math.Seq.{take-suc}
use Rattle.std.specs.FinSet.{FinSet}
use Rattle.std.specs.List.{AllByRecursion, IsDistinct, list_any}
use Rattle.std.specs.Ordering.{nat_cmp}
use Rattle.std.specs.Set.{remove_key}
use Rattle.mig_base.specs.declared.phase.Received.{Received}
use Rattle.mig_model.specs.Bounds.{AreListed, IsFrame}
use Rattle.mig_model.specs.Owed.{is_requested, requesting, without_request}
use Rattle.mig_model.specs.Wire as wire
use Rattle.page_stream.specs.Frames.{frame_of}
use Rattle.page_stream.specs.declared.frame.Frame.{Frame}
use Rattle.fault_handler.specs.Requests.{StandOnce}

pub same_requested : (pages : List ℕ) (origin : ℕ) → list_any (λ page. eqb origin page) pages ≡ is_requested pages origin
same_requested [] origin = refl
same_requested (page ∷ pages) origin = grind (arith, nat_tests, same_requested pages origin)

pub same_requesting : (pages : List ℕ) (origin : ℕ) → (if list_any (λ page. eqb origin page) pages then pages else pages ++ origin ∷ []) ≡ requesting pages origin
same_requesting pages origin = ap (λ b. if b then pages else pages ++ origin ∷ []) (same_requested pages origin)

pub same_ended : (pages : List ℕ) (origin : ℕ) → remove_key (λ page. eqb origin page) pages ≡ without_request pages origin
same_ended [] origin = refl
same_ended (page ∷ pages) origin = grind (arith, nat_tests, same_ended pages origin)

-- A copy, page by page

other : (page : ℕ) (pages : List ℕ) (i d : ℕ) → AllByRecursion (λ later. eqb page later ≡ false) pages → i < length pages → eqb page (get_or pages i d) ≡ false
other page [] i d all inside = absurd (omega arith)
other page (later ∷ pages) zero d all inside = all.0
other page (later ∷ pages) (suc i) d all inside = other page pages i d all.1 (omega arith)

not_yet : (pages : List ℕ) (i d : ℕ) → StandOnce pages → i < length pages → is_requested (take i pages) (get_or pages i d) ≡ false
unfolding IsDistinct
not_yet [] i d once inside = absurd (omega arith)
not_yet (page ∷ pages) zero d once inside = refl
not_yet (page ∷ pages) (suc i) d once inside = λ k. other page pages i d once.0 (omega arith) k || not_yet pages i d once.1 (omega arith) k

-- the next of pages that stand once is appended
pub copied_more : (pages copy new : List ℕ) (i d : ℕ) → StandOnce pages → i < length pages → copy ≡ take i pages → new ≡ requesting copy (get_or pages i d) → new ≡ take (i + 1) pages
copied_more pages copy new i d once inside so_far added =
    let next : suc i ≡ i + 1 = omega arith in
    added
    ∙ ap (λ c. requesting c (get_or pages i d)) so_far
    ∙ ap (λ b. if b then take i pages else take i pages ++ get_or pages i d ∷ []) (not_yet pages i d once inside)
    ∙ sym (take-suc pages i d inside)
    ∙ ap (λ n. take n pages) next

-- The requests once more, as frames

pub asked_again : (pages : List ℕ) → map frame_of (map Frame.Request pages) ≡ map wire.Frame.Request pages
asked_again [] = refl
asked_again (page ∷ pages) = ap (λ frames. wire.Frame.Request page ∷ frames) (asked_again pages)

pub asked_right : (pages : List ℕ) → AreListed pages → AllByRecursion IsFrame (map wire.Frame.Request pages)
asked_right [] are = tt
asked_right (page ∷ pages) are = (are.0, asked_right pages are.1)

-- the answer of a destination that runs
pub reported : (frames : List Frame) (owed : FinSet nat_cmp) (pages : List ℕ) → frames ≡ Frame.Recv Received.Running owed ∷ map Frame.Request pages
    → map frame_of frames ≡ wire.Frame.Recv Received.Running owed ∷ map wire.Frame.Request pages
reported frames owed pages is = ap (map frame_of) is ∙ ap (λ rest. wire.Frame.Recv Received.Running owed ∷ rest) (asked_again pages)
