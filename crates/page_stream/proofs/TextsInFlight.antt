-- The frames in flight carry whole pages, so each is as long as the machine counts.
use Rattle.std.proofs.lemmas.Bool.Decides.{nat_tests}
use Rattle.std.proofs.Common.{◌≡◌, ℕ, ◌+◌, ◌&&◌, ◌||◌, Bool, true, false, Some, List, [], ◌∷◌, length, refl, sym, subst, arith}
use Rattle.std.specs.List.{AllByRecursion}
use Rattle.std.specs.Ordering.{nat_cmp}
use Rattle.std.specs.FinMap.{FinMap, get}
use Rattle.mig_base.specs.declared.phase.DestPhase.{DestPhase}
use Rattle.mig_base.specs.declared.phase.SourcePhase.{SourcePhase}
use Rattle.foundation.specs.Tests.{is_empty}
use Rattle.page_stream.specs.Texts.{HasWholePages}
use Rattle.page_stream.specs.Flight.{AreCounted}
use Rattle.page_stream.specs.Texts.Version.{Two}
use Rattle.mig_model.specs.Wire.{Frame, Sent, Copy, copies_in, run_copies}
use Rattle.mig_model.specs.Migration.{World}
use Rattle.mig_model.specs.Whereabouts.{AreFaithful, copies_of, is_request, are_requests}
use Rattle.mig_model.specs.Invariant.{AreWhole, IsSoundWorld, is_done, are_requests_and_done}
use Rattle.mig_model.specs.Promises.{IsReached}
use Rattle.mig_model.proofs.invariant.Delivery.{whole_parts}
use Rattle.mig_model.proofs.steps.EveryStep.{kept-reached, urgent-reached}
use Rattle.mig_model.proofs.memory.Facts.{none_absurd}
use Rattle.page_stream.proofs.TextLemmas.{length-text}

-- Whole copies

run_pages : (first : ℕ) (pages : List (List ℕ)) → AreWhole (run_copies first pages) → AllByRecursion (λ bytes. length bytes ≡ 4096) pages
run_pages first [] whole = tt
run_pages first (bytes ∷ pages) whole = (whole.0, run_pages (1 + first) pages whole.1)

whole_pages : (frame : Frame) → AreWhole (copies_in frame) → HasWholePages frame
whole_pages frame whole = grind (arith, nat_tests, run_pages)

counted : (frames : List Sent) → AreWhole (copies_of frames) → AreCounted frames
counted [] whole = tt
counted (sent ∷ rest) whole =
    let parts = whole_parts (copies_in sent.frame) (copies_of rest) whole in
    (length-text Two sent.epoch sent.frame refl (whole_pages sent.frame parts.0), counted rest parts.1)

-- copies of whole pages
faithful_whole : (held : FinMap nat_cmp (List ℕ)) (copies : List Copy) → ((page : ℕ) (bytes : List ℕ) → get held page ≡ Some bytes → length bytes ≡ 4096) → AreFaithful held copies → AreWhole copies
faithful_whole held [] whole faithful = tt
faithful_whole held (copy ∷ copies) whole faithful = (whole copy.page copy.bytes faithful.0, faithful_whole held copies whole faithful.1)

-- The wire back carries no copy

none_back : (back : List Sent) → back ≡ [] → AreWhole (copies_of back)
none_back back none = subst (λ frames. AreWhole (copies_of frames)) (sym none) tt

requests_by : (frame : Frame) (more : Bool) (rest : List Sent) → (more ≡ true → AreWhole (copies_of rest)) → (is_request frame && more) ≡ true → AreWhole (copies_of (record { epoch = 0; frame = frame } ∷ rest))
requests_by frame more rest then_so h = grind (arith, nat_tests)

requests_whole : (back : List Sent) → are_requests back ≡ true → AreWhole (copies_of back)
requests_whole [] h = tt
requests_whole (sent ∷ rest) h = requests_by sent.frame (are_requests rest) rest (requests_whole rest) h

done_by : (frame : Frame) (more : Bool) (rest : List Sent) → (more ≡ true → AreWhole (copies_of rest)) → (is_request frame && more || is_done frame && is_empty rest) ≡ true → AreWhole (copies_of (record { epoch = 0; frame = frame } ∷ rest))
done_by frame more rest then_so h = grind (arith, nat_tests)

requests_and_done_whole : (back : List Sent) → are_requests_and_done back ≡ true → AreWhole (copies_of back)
requests_and_done_whole [] h = none_absurd h
requests_and_done_whole (sent ∷ rest) h = done_by sent.frame (are_requests_and_done rest) rest (requests_and_done_whole rest) h

-- the world with its nodes in these phases
abbrev in_phases : SourcePhase → DestPhase → World → World
in_phases from to world = record world { source = record world.source { phase = from }; destination = record world.destination { phase = to } }

back_whole_in : (from : SourcePhase) (to : DestPhase) (world : World) → world.up ≡ true → IsSoundWorld (in_phases from to world) → AreWhole (copies_of world.back.frames)
back_whole_in from to world up kept = grind (arith, nat_tests, requests_whole, requests_and_done_whole, none_back)

back_whole : (up : Bool) (world : World) → world.up ≡ up → IsSoundWorld world → AreWhole (copies_of world.back.frames)
back_whole true world up kept = back_whole_in world.source.phase world.destination.phase world up kept
back_whole false world up kept = none_back world.back.frames (kept.flight.down up).1

-- The three wires

pub forward_counted : (world : World) → IsReached world → AreCounted world.forward.frames
forward_counted world reached = counted world.forward.frames (kept-reached world reached).copies.copies_whole

pub back_counted : (world : World) → IsReached world → AreCounted world.back.frames
back_counted world reached = counted world.back.frames (back_whole world.up world refl (kept-reached world reached))

pub urgent_counted : (world : World) → IsReached world → AreCounted world.urgent.frames
urgent_counted world reached =
    counted world.urgent.frames (faithful_whole _ (copies_of world.urgent.frames) (kept-reached world reached).spaces.source_space.host.whole (urgent-reached world reached).faithful)
