-- A text determines its version, its epoch and its frame, whatever bytes follow.
use Rattle.std.proofs.lemmas.Bool.Decides.{nat_tests}
use Rattle.std.proofs.Common.{◌≡◌, ℕ, zero, suc, ◌^◌, ◌<◌, Bool, true, Option, List, [], ◌∷◌, ◌++◌, length, map, take, get_or, refl, sym, ap, ◌∙◌, arith, append_assoc}
use Rattle.std.specs.List.{flat_map, AllByRecursion}
use Rattle.std.specs.Int.{w32, to_be_bytes, from_be_bytes}
use Rattle.std.specs.Ordering.{nat_cmp}
use Rattle.std.specs.FinMap.{FinMap}
use Rattle.std.specs.FinSet.{FinSet}
use Rattle.std.proofs.lemmas.List.{append_cancel_left, length-map, take_at}
use Rattle.std.proofs.lemmas.List.Concat.{flat_map-cons}
use Rattle.std.proofs.lemmas.Nat.{from_be_bytes-to_be_bytes_4}
use Rattle.mig_base.specs.declared.Area.{Area}
use Rattle.mig_base.specs.declared.Prot.{Prot}
use Rattle.mig_base.specs.declared.Run.{Run as PageRun}
use Rattle.mig_base.specs.declared.TheConstants.{HIGH_PAGE}
use Rattle.mig_base.specs.declared.command.Command.{Command}
use Rattle.mig_base.specs.declared.phase.Received.{Received}
use Rattle.mig_base.specs.Sets.{pages_where}
use Rattle.foundation.proofs.RangeLemmas.{count_below-few}
use Rattle.mig_base.proofs.SetLemmas.{run_length-most}
use Rattle.mig_model.specs.Lengths.{begins_run, begins_area}
use Rattle.page_stream.specs.Texts.{list_below, run_at, runs_of, area_at, areas_of, Version, has_frame, tag_code, runs_text, areas_text, commands_text, state_code, body_text, header_text, text, HasWholePages, AreBelow, AreMappedBelow, FitsCommand, FitsText, IsEncodable}
use Rattle.mig_model.specs.Ioctls.{same_protection}
use Rattle.std.specs.FinMap.{get}
use Rattle.mig_model.specs.Wire.{Frame}
use Rattle.mig_model.specs.Wire.Frame.{Advise, Page, Zero, Run, Discard, Package, End, Resume, Request, Recv, Done}
use Rattle.page_stream.proofs.RunsAndAreas.{all_listed, runs_of-same, areas_of-same}
use Rattle.page_stream.proofs.TextLemmas.{length-list_below}

-- Numbers

same_first : (m n : ℕ) (s r : List ℕ) → m ∷ s ≡ n ∷ r → m ≡ n
same_first m n s r e = ap (λ (bytes : List ℕ). get_or bytes 0 0) e

same_front : (a b s r : List ℕ) (n : ℕ) → length a ≡ n → length b ≡ n → a ++ s ≡ b ++ r → a ≡ b
same_front a b s r n la lb e = sym (take_at a s n la) ∙ ap (take n) e ∙ take_at b r n lb

same_w32 : (m n : ℕ) (s r : List ℕ) → m < 2 ^ 32 → n < 2 ^ 32 → to_be_bytes w32 m ++ s ≡ to_be_bytes w32 n ++ r → m ≡ n
same_w32 m n s r hm hn e = sym (from_be_bytes-to_be_bytes_4 m hm) ∙ ap (from_be_bytes w32) (same_front (to_be_bytes w32 m) (to_be_bytes w32 n) s r 4 refl refl e) ∙ from_be_bytes-to_be_bytes_4 n hn

-- Lists

-- a text determines what it is of, whatever bytes follow
abbrev Determines : {A : Type 0} → (A → List ℕ) → (A → Type 0) → Type 0
Determines {A} text Fits = (x y : A) (s r : List ℕ) → Fits x → Fits y → text x ++ s ≡ text y ++ r → x ≡ y

same_rest : {A : Type 0} (text : A → List ℕ) (x y : A) (s r : List ℕ) → x ≡ y → text x ++ s ≡ text y ++ r → s ≡ r
same_rest text x y s r same e = append_cancel_left (text x) s r (e ∙ ap (λ z. text z ++ r) (sym same))

split_first : {A : Type 0} (text : A → List ℕ) (x : A) (xs : List A) (s : List ℕ) → flat_map text (x ∷ xs) ++ s ≡ text x ++ (flat_map text xs ++ s)
split_first text x xs s = ap (λ t. t ++ s) (flat_map-cons text x xs) ∙ append_assoc (text x) (flat_map text xs) s

same_list : {A : Type 0} (text : A → List ℕ) (Fits : A → Type 0) → Determines text Fits → (xs ys : List A) (s r : List ℕ) → AllByRecursion Fits xs → AllByRecursion Fits ys → length xs ≡ length ys → flat_map text xs ++ s ≡ flat_map text ys ++ r → xs ≡ ys
same_list text Fits by [] [] s r hx hy n e = refl
same_list text Fits by [] (y ∷ ys) s r hx hy n e = absurd (omega (arith, n))
same_list text Fits by (x ∷ xs) [] s r hx hy n e = absurd (omega (arith, n))
same_list {A} text Fits by (x ∷ xs) (y ∷ ys) s r hx hy n e =
    let split : text x ++ (flat_map text xs ++ s) ≡ text y ++ (flat_map text ys ++ r) = sym (split_first text x xs s) ∙ e ∙ split_first text y ys r in
    let same = by x y (flat_map text xs ++ s) (flat_map text ys ++ r) hx.0 hy.0 split in
    let more = same_list text Fits by xs ys s r hx.1 hy.1 (omega (arith, n)) (same_rest text x y (flat_map text xs ++ s) (flat_map text ys ++ r) same split) in
    ap (λ (z : A). z ∷ xs) same ∙ ap (λ (zs : List A). y ∷ zs) more

-- with a count before it
same_counted : {A : Type 0} (text : A → List ℕ) (Fits : A → Type 0) → Determines text Fits → (xs ys : List A) (s r : List ℕ) → AllByRecursion Fits xs → AllByRecursion Fits ys → length xs < 2 ^ 32 → length ys < 2 ^ 32
    → (to_be_bytes w32 (length xs) ++ flat_map text xs) ++ s ≡ (to_be_bytes w32 (length ys) ++ flat_map text ys) ++ r → xs ≡ ys
same_counted text Fits by xs ys s r hx hy nx ny e = grind (arith, nat_tests, same_list, same_w32)

all-map : {A : Type 0} {B : Type 0} (P : B → Type 0) (f : A → B) (xs : List A) → AllByRecursion (λ x. P (f x)) xs → AllByRecursion P (map f xs)
all-map P f [] h = tt
all-map P f (x ∷ xs) h = (h.0, all-map P f xs h.1)

few_listed : {A : Type 0} (f : ℕ → A) (test : ℕ → Bool) → length (map f (list_below test HIGH_PAGE)) < 2 ^ 32
few_listed f test = omega (arith, length-map (list_below test HIGH_PAGE) f, length-list_below test HIGH_PAGE, count_below-few test HIGH_PAGE)

-- Sets of pages, and mapped pages

abbrev FitsRun : PageRun → Type 0
FitsRun run = (run.first < 2 ^ 32) × (run.count < 2 ^ 32)

runs_fit : (set : FinSet nat_cmp) → AllByRecursion FitsRun (runs_of set)
runs_fit set =
    all-map FitsRun (run_at set) (list_below (begins_run set) HIGH_PAGE)
    (all_listed (λ k. FitsRun (run_at set k)) (begins_run set) HIGH_PAGE (λ k l. (omega arith, omega (arith, run_length-most set k HIGH_PAGE))))

same_set : (a b : FinSet nat_cmp) (s r : List ℕ) → AreBelow a → AreBelow b → runs_text (runs_of a) ++ s ≡ runs_text (runs_of b) ++ r → a ≡ b
same_set a b s r ha hb e = grind (arith, nat_tests, runs_of-same, same_counted, runs_fit, few_listed)

abbrev FitsArea : Area → Type 0
FitsArea area = (area.first < 2 ^ 32) × (area.count < 2 ^ 32)

areas_fit : (areas : FinMap nat_cmp Prot) → AllByRecursion FitsArea (areas_of areas)
areas_fit areas =
    all-map FitsArea (area_at areas) (list_below (begins_area areas) HIGH_PAGE)
    (all_listed (λ k. FitsArea (area_at areas k)) (begins_area areas) HIGH_PAGE (λ k l. (omega arith, omega (arith, run_length-most (pages_where (λ page. same_protection (get areas k) (get areas page))) k HIGH_PAGE))))

same_map : (a b : FinMap nat_cmp Prot) (s r : List ℕ) → AreMappedBelow a → AreMappedBelow b → areas_text (areas_of a) ++ s ≡ areas_text (areas_of b) ++ r → a ≡ b
same_map a b s r ha hb e = grind (arith, nat_tests, areas_of-same, same_counted, areas_fit, few_listed)

-- Commands

-- with a count of one byte
same_commands : (x y : List (Option Command)) (s r : List ℕ) → AllByRecursion FitsCommand x → AllByRecursion FitsCommand y → commands_text x ++ s ≡ commands_text y ++ r → x ≡ y
same_commands x y s r hx hy e = grind (arith, nat_tests, same_list, same_first)

-- Bodies

same_page : (x y : List ℕ) (s r : List ℕ) → length x ≡ 4096 → length y ≡ 4096 → x ++ s ≡ y ++ r → x ≡ y
same_page x y s r hx hy e = same_front x y s r 4096 hx hy e

abbrev state_numbered : ℕ → Received
state_numbered zero = Received.NotRun
state_numbered (suc zero) = Received.Running
state_numbered (suc (suc _)) = Received.Ended

state_numbered-state_code : (state : Received) → state_numbered (state_code state) ≡ state
state_numbered-state_code state = grind (arith, nat_tests)

same_package : (areas others : FinMap nat_cmp Prot) (owed due : FinSet nat_cmp) (x y : List (Option Command)) (s r : List ℕ) → FitsText (Package areas owed x) → FitsText (Package others due y)
    → body_text (Package areas owed x) ++ s ≡ body_text (Package others due y) ++ r → Package areas owed x ≡ Package others due y
same_package areas others owed due x y s r hf hg e =
    let three : (a b c t : List ℕ) → ((a ++ b) ++ c) ++ t ≡ a ++ (b ++ (c ++ t)) = λ a b c t. append_assoc (a ++ b) c t ∙ append_assoc a b (c ++ t) in
    let first = sym (three (areas_text (areas_of areas)) (runs_text (runs_of owed)) (commands_text x) s) ∙ e ∙ three (areas_text (areas_of others)) (runs_text (runs_of due)) (commands_text y) r in
    let mapped = same_map areas others (runs_text (runs_of owed) ++ (commands_text x ++ s)) (runs_text (runs_of due) ++ (commands_text y ++ r)) hf.0 hg.0 first in
    let second = same_rest (λ areas. areas_text (areas_of areas)) areas others (runs_text (runs_of owed) ++ (commands_text x ++ s)) (runs_text (runs_of due) ++ (commands_text y ++ r)) mapped first in
    let kept = same_set owed due (commands_text x ++ s) (commands_text y ++ r) hf.1 hg.1 second in
    let third = same_rest (λ owed. runs_text (runs_of owed)) owed due (commands_text x ++ s) (commands_text y ++ r) kept second in
    let waiting = same_commands x y s r hf.2 hg.2 third in
    λ i. Package (mapped i) (kept i) (waiting i)

same_body : (f g : Frame) (s r : List ℕ) → tag_code f ≡ tag_code g → HasWholePages f → HasWholePages g → FitsText f → FitsText g → body_text f ++ s ≡ body_text g ++ r → f ≡ g
same_body Advise Advise s r tags wf wg hf hg e = refl
same_body (Page page x) (Page other y) s r tags wf wg hf hg e = grind (arith, nat_tests, same_w32, same_page)
same_body (Zero page) (Zero other) s r tags wf wg hf hg e = ap (λ page. Zero page) (same_w32 page other s r hf hg e)
same_body (Run first x) (Run other y) s r tags wf wg hf hg e = grind (arith, nat_tests, same_w32, same_counted, same_page)
same_body (Discard x) (Discard y) s r tags wf wg hf hg e = ap (λ pages. Discard pages) (same_set x y s r hf hg e)
same_body (Package areas owed x) (Package others due y) s r tags wf wg hf hg e = same_package areas others owed due x y s r hf hg e
same_body (End m) (End n) s r tags wf wg hf hg e = ap (λ urgent. End urgent) (same_w32 m n s r hf hg e)
same_body Resume Resume s r tags wf wg hf hg e = refl
same_body (Request page) (Request other) s r tags wf wg hf hg e = ap (λ page. Request page) (same_w32 page other s r hf hg e)
same_body (Recv state x) (Recv other y) s r tags wf wg hf hg e = grind (arith, nat_tests, same_first, state_numbered-state_code, state_numbered, same_set)
same_body Done Done s r tags wf wg hf hg e = refl
same_body f g s r tags wf wg hf hg e = absurd (omega (arith, tags))

-- Texts

pub text-is : (v : Version) (epoch : ℕ) (frame : Frame) → has_frame v frame ≡ true → text v epoch frame ≡ header_text v (tag_code frame) epoch (length (body_text frame)) ++ body_text frame
unfolding text
text-is v epoch frame has = rw has refl

-- two texts that begin one list of bytes are the same
pub record IsSameText (v w : Version) (d e : ℕ) (f g : Frame) (s r : List ℕ) : Type 0 where
  pub version : v ≡ w
  pub epoch : d ≡ e
  pub frame : f ≡ g
  pub rest : s ≡ r

pub same_text : (v w : Version) (d e : ℕ) (f g : Frame) (s r : List ℕ) → IsEncodable v d f → IsEncodable w e g → text v d f ++ s ≡ text w e g ++ r → IsSameText v w d e f g s r
same_text v w d e f g s r hf hg eq = grind (arith, nat_tests, text-is, same_w32, same_body, same_rest)
