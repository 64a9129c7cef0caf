-- The source of a call that lends the bytes of a page, after the borrow ends.
use Rattle.std.specs.Prelude.{◌≡◌, ⊤, Result, MatchResult}
use Rattle.std.specs.Borrow.{Fml, MutBor, follows_so}
use mathlib.Core.Option.{none}
use Rattle.mig_model.specs.Source.{Source}
use Rattle.precopy.specs.contracts.source.Source as sources

-- after the borrow P holds for the call's result and the source; if the call is refused, nothing is borrowed and the source is as it was
abbrev pub LeavesSource : {T E : Type 0} → MutBor Source → Result T E → (T → Source → Type 0) → Fml
LeavesSource node result P = follows_so sources.the_row sources.the_row node.ghost_name none (λ _ _. ⊤) (λ last. MatchResult result (λ made. P made last) (λ _. last ≡ node.now))
