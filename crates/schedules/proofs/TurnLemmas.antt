-- Where a turn leads.
use Rattle.std.proofs.Common.{◌≡◌, ℕ, Bool, true, false, arith, refl, sym, ◌∙◌, subst, if◌then◌else◌}
use Rattle.std.specs.Prelude.{Ok, Err}
use Rattle.std.proofs.lemmas.Bool.Decides.{nat_tests}
use Rattle.mig_base.specs.declared.effect.Effect.{Effect}
use Rattle.mig_base.specs.declared.refusal.Refusal.{Refusal}
use Rattle.mig_base.specs.declared.schedule.Step.{Step}
use Rattle.mig_model.specs.Migration.{Answer, World, answer, next, next_by}
use Rattle.mig_model.specs.NodeSteps.{checked}
use Rattle.mig_model.specs.Runs.{Happens}
use Rattle.schedules.specs.Turns.{may_choose, turned}

either : (may : Bool) (there here : World) → there ≡ here → (if may then there else here) ≡ here
either true there here is = is
either false there here is = refl

kept : (may : Bool) (there here : World) → may ≡ false → (if may then there else here) ≡ here
kept may there here is = rw is refl

gone : (may : Bool) (there here : World) → may ≡ true → (if may then there else here) ≡ there
gone may there here is = rw is refl

-- one that may not be chosen
pub closed : (world : World) (step : Step) (limit : ℕ) → may_choose world step limit ≡ false → turned world step limit ≡ world
unfolding turned
closed world step limit is = kept (may_choose world step limit) (next world step) world is

stays : (world : World) (answered : Answer) (refusal : Refusal) → Err refusal ≡ checked answered → next_by world answered ≡ world
stays world answered refusal is = grind (arith, nat_tests)

-- one that is refused
pub refused : (world : World) (step : Step) (limit : ℕ) (refusal : Refusal) → Err refusal ≡ checked (answer world step) → turned world step limit ≡ world
unfolding turned next
refused world step limit refusal is = either (may_choose world step limit) (next world step) world (stays world (answer world step) refusal is)

happened : (old new : World) (step : Step) (effect : Effect) → Happens old step (Ok effect) new → new ≡ next old step
happened old new step effect happens = grind (arith, nat_tests)

-- one that is made
pub goes : (old world new : World) (step : Step) (limit : ℕ) (effect : Effect) → world ≡ old → may_choose old step limit ≡ true → Happens world step (Ok effect) new → new ≡ turned old step limit
unfolding turned
goes old world new step limit effect same may happens =
    happened old new step effect (subst (λ w. Happens w step (Ok effect) new) same happens) ∙ sym (gone (may_choose old step limit) (next old step) old may)
