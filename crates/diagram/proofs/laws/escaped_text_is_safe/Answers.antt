use Rattle.std.proofs.Common.{◌≡◌, ℕ, List, [], ◌∷◌, true, refl, arith}
use Rattle.std.specs.List.{list_all}
use Rattle.std.proofs.lemmas.Bool.Decides.{nat_tests}
use Rattle.std.proofs.lemmas.List.Folds.{list_all-append}
use Rattle.diagram.specs.Escapes.{escape, escaped}
use Rattle.diagram.specs.Safe.{is_safe}
use Rattle.diagram.proofs.laws.escaped_text_is_safe.Goals as goal

escape_is_safe : (byte : ℕ) → list_all is_safe (escape byte) ≡ true
escape_is_safe byte = grind (arith, nat_tests)

text_is_safe : (text : List ℕ) → list_all is_safe (escaped text) ≡ true
text_is_safe [] = refl
text_is_safe (byte ∷ text) = rw list_all-append (rw (escape_is_safe byte, text_is_safe text) refl)

pub returns : goal.returns
returns c = text_is_safe
