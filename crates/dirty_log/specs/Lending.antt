-- The space of a call that lends its bytes, after the borrow ends.
use Rattle.std.specs.Prelude.{◌≡◌, ⊤, Result, MatchResult}
use Rattle.std.specs.Borrow.{Fml, MutBor, follows_so}
use mathlib.Core.Option.{none}
use Rattle.mig_model.specs.Space.{Space}
use Rattle.uffd_ioctl.specs.contracts.space.Space as spaces

-- after the borrow P holds for the space; if the call is refused, nothing is borrowed and the space is as it was
abbrev pub LeavesSpace : {T E : Type 0} → MutBor Space → Result T E → (Space → Type 0) → Fml
LeavesSpace space result P = follows_so spaces.the_row spaces.the_row space.ghost_name none (λ _ _. ⊤) (λ last. MatchResult result (λ _. P last) (λ _. last ≡ space.now))
