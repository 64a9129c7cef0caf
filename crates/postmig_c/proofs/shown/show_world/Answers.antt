use Rattle.std.proofs.Common.{◌≡◌, ℕ, List, string_bytes, sym, subst, ◌∙◌}
use Rattle.std.specs.Prelude.{Some}
use Rattle.mig_model.specs.Migration.{World as Machine}
use Rattle.engine.specs.Engine.{Gathered, run_world}
use Rattle.show.specs.declared.what.What.{What}
use Rattle.show.specs.Shown.{IsOf}
use Rattle.postmig_c.specs.Shown.{IsShown, what_of}
use Rattle.postmig_c.proofs.shown.show_world.Goals as goal

is_shown : (runner : Gathered) (number : ℕ) (what : What) (state : Machine) (made text : List ℕ) → what_of number ≡ Some what → run_world runner.work ≡ Some state → IsOf state what made → text ≡ made → IsShown runner number text
is_shown runner number what state made text asks runs facts is = record { what = what; state = state; asks = asks; runs = runs; facts = subst (λ (t : List ℕ). IsOf state what t) (sym is) facts }

pub returns-in-Ok-clause-shown : goal.returns-in-Ok-clause-shown
returns-in-Ok-clause-shown c = λ zero.
    (c.as_bytes.result.now, is_shown c.args.runner.now c.args.number c.in-Some-what_of.what c.in-Some.world.now (string_bytes c.in-Ok.text) c.as_bytes.result.now (sym c.what_of.ensures ∙ c.in-Some-what_of.is) c.in-Some.ensures.some c.in-Ok.ensures c.as_bytes.ensures.value, c.hand_over.ensures.all zero)

pub returns-in-Ok-clause-long : goal.returns-in-Ok-clause-long
returns-in-Ok-clause-long c = λ one.
    (c.as_bytes.result.now, is_shown c.args.runner.now c.args.number c.in-Some-what_of.what c.in-Some.world.now (string_bytes c.in-Ok.text) c.as_bytes.result.now (sym c.what_of.ensures ∙ c.in-Some-what_of.is) c.in-Some.ensures.some c.in-Ok.ensures c.as_bytes.ensures.value, c.hand_over.ensures.long one)
