-- Why a step is refused: what a check says of a step that continues from what a node finds.
use Rattle.std.proofs.Common.{◌≡◌, ◌||◌, Bool, true, false, not, Ok, Err, Result, if◌then◌else◌, refl, sym, ap, ◌∙◌, arith}
use Rattle.std.proofs.lemmas.Bool.Decides.{nat_tests}
use Rattle.mig_base.specs.declared.refusal.Refusal.{Refusal}
use Rattle.mig_model.specs.NodeSteps.{and_then, checked, is_out_of_phase, while_down, while_up}

-- a step continues, whatever is found
abbrev pub Always : {A B : Type 0} → (A → Result B Refusal) → Type 0
Always {A} go = (x : A) → checked (go x) ≡ Ok tt

pub checked-and_then : {A B : Type 0} (found : Result A Refusal) (go : A → Result B Refusal) → Always go → checked (and_then found go) ≡ checked found
checked-and_then (Ok x) go always = always x
checked-and_then (Err refusal) go always = refl

pub checked-if : {A : Type 0} (test : Bool) (found : Result A Refusal) (refusal : Refusal) → checked (if test then found else Err refusal) ≡ (if test then checked found else Err refusal)
checked-if true found refusal = refl
checked-if false found refusal = refl

phase-refusal : (A B : Type 0) (refusal : Refusal) → is_out_of_phase {A = A} (Err refusal) ≡ is_out_of_phase {A = B} (Err refusal)
phase-refusal A B refusal = grind (arith, nat_tests)

pub phase-checked : {A : Type 0} (found : Result A Refusal) → is_out_of_phase (checked found) ≡ is_out_of_phase found
phase-checked (Ok x) = refl
phase-checked {A} (Err refusal) = phase-refusal (Unit {0}) A refusal

pub checked-while_up : {A : Type 0} (up : Bool) (found : Result A Refusal) → checked (while_up up found) ≡ while_up up (checked found)
checked-while_up up found = checked-if (is_out_of_phase found || up) found Refusal.Broken ∙ ap (λ b. if b || up then checked found else Err Refusal.Broken) (sym (phase-checked found))

pub checked-while_down : {A : Type 0} (up : Bool) (found : Result A Refusal) → checked (while_down up found) ≡ while_down up (checked found)
checked-while_down up found = checked-if (is_out_of_phase found || not up) found Refusal.NotBroken ∙ ap (λ b. if b || not up then checked found else Err Refusal.NotBroken) (sym (phase-checked found))

-- a step of a node, with the link or without
pub node_checked : {A B : Type 0} (found : Result A Refusal) (go : A → Result B Refusal) (check : Result (Unit {0}) Refusal) → Always go → check ≡ checked found → check ≡ checked (and_then found go)
node_checked found go check always h = h ∙ sym (checked-and_then found go always)

pub up_checked : {A B : Type 0} (up : Bool) (found : Result A Refusal) (go : A → Result B Refusal) (check result : Result (Unit {0}) Refusal) → Always go → check ≡ checked found → result ≡ while_up up check → result ≡ checked (and_then (while_up up found) go)
up_checked up found go check result always h is = is ∙ ap (while_up up) h ∙ sym (checked-while_up up found) ∙ sym (checked-and_then (while_up up found) go always)

pub down_checked : {A B : Type 0} (up : Bool) (found : Result A Refusal) (go : A → Result B Refusal) (check result : Result (Unit {0}) Refusal) → Always go → check ≡ checked found → result ≡ while_down up check → result ≡ checked (and_then (while_down up found) go)
down_checked up found go check result always h is = is ∙ ap (while_down up) h ∙ sym (checked-while_down up found) ∙ sym (checked-and_then (while_down up found) go always)
