-- What a line leaves whose output could not be printed or gathered.
use Rattle.std.proofs.Common.{◌≡◌, ◌∙◌, ℕ, List, refl, sym, ap, subst, inl, inr}
use Rattle.std.specs.Prelude.{OnErr, Result, Ok, Err}
use Rattle.mig_base.specs.declared.schedule.Step.{Step}
use Rattle.mig_model.specs.Runs.{Happens}
use Rattle.mig_model.proofs.steps.Runs.{never_lacking}
use Rattle.grammar.specs.Printed.{Outcome}
use Rattle.grammar.specs.declared.line.Line.TheVariants.{Do}
use Rattle.grammar.specs.declared.order.Order.{Order}
use Rattle.engine.specs.declared.line_runner.Mode.{Mode}
use Rattle.engine.specs.Engine.{Does, Gathered, Loses, Running, Work}
use Rattle.engine.specs.Script.{MakesOrNot, ObeysOrNot, printed}
use Rattle.mig_model.specs.Migration.{World}

-- either the step was made as the machine makes it, or it lacked memory and changed nothing
pub made_or_not : (mode : Mode) (old : World) (step : Step) (outcome : Outcome) (new : World) → Happens old step outcome new → MakesOrNot mode old step new
made_or_not mode old step outcome new (inl made) = inr (printed mode old outcome new, (outcome, ((λ lacks. never_lacking old step (sym made.0 ∙ lacks)), inl made), refl))
made_or_not mode old step outcome new (inr lacked) = inl lacked.2

pub lost_step : {T E : Type 0} (result : Result T E) (mode : Mode) (old : World) (step : Step) (outcome : Outcome) (new : World) → Happens old step outcome new → OnErr result (MakesOrNot mode old step new)
lost_step (Ok x) mode old step outcome new happens = tt
lost_step (Err e) mode old step outcome new happens = made_or_not mode old step outcome new happens

loses : (mode : Mode) (world new : World) (order : Order) (old : Gathered) (output : List ℕ) → old.work ≡ Running mode world → output ≡ old.output → ObeysOrNot mode world order new
    → Loses old (Do order) (record { work = Running mode new; output = output })
loses mode world new order old output is same (inl stays) =
    inl (ap (λ (out : List ℕ). record { work = Running mode new; output = out }) same ∙ ap (λ (work : Work). record { work = work; output = old.output }) (ap (Running mode) stays ∙ sym is))
loses mode world new order old output is same (inr made) = inr (made.0, subst (λ (work : Work). Does work (Do order) (Running mode new) made.0) (sym is) (new, refl, made.1), same)

-- the output of an order is lost
pub lost_order : {T E : Type 0} (result : Result T E) (mode : Mode) (world new : World) (order : Order) (old : Gathered) (output : List ℕ) → old.work ≡ Running mode world → output ≡ old.output → ObeysOrNot mode world order new
    → OnErr result (Loses old (Do order) (record { work = Running mode new; output = output }))
lost_order (Ok x) mode world new order old output is same lost = tt
lost_order (Err e) mode world new order old output is same lost = loses mode world new order old output is same lost
