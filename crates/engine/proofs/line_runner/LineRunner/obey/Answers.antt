use Rattle.std.proofs.Common.{◌++◌, List, ℕ, ap, inr, sym, ◌∙◌, rules}
use Rattle.std.specs.Prelude.{string_bytes}
use Rattle.engine.specs.Engine.{Gathered, work_of}
use Rattle.engine.proofs.Lacking.{lost_order}
use Rattle.engine.proofs.Runs.{obeyed}
use Rattle.engine.proofs.line_runner.LineRunner.obey.Goals as goal

pub returns-clause-ok : goal.returns-clause-ok
returns-clause-ok c =
    obeyed c.args.self.now c.in-Run.mode c.in-Run.world _ c.args.order _ _ (ap (λ (g : Gathered). g.work) (sym c.self.view_is) ∙ ap work_of c.in-Run.is) c.in_ok-carry_out-in-Run.ensures.ok
    (c.in_ok-extend_from_slice-in-Run.ensures.items ∙ ap (λ (t : List ℕ). c.self.inside.output.items ++ t) c.as_bytes.ensures.value ∙ ap (λ (g : Gathered). g.output ++ string_bytes c.carry_out.new.text) c.self.view_is)

pub returns-in_err-carry_out-in-Run-clause-lost : goal.returns-in_err-carry_out-in-Run-clause-lost
returns-in_err-carry_out-in-Run-clause-lost c =
    lost_order _ c.in-Run.mode c.in-Run.world _ c.args.order c.args.self.now _ (ap (λ (g : Gathered). g.work) (sym c.self.view_is) ∙ ap work_of c.in-Run.is) (ap (λ (g : Gathered). g.output) c.self.view_is) c.in_err-carry_out-in-Run.ensures.lost

pub returns-in_err-extend_from_slice-in-Run-clause-lost : goal.returns-in_err-extend_from_slice-in-Run-clause-lost
returns-in_err-extend_from_slice-in-Run-clause-lost c =
    lost_order _ c.in-Run.mode c.in-Run.world _ c.args.order c.args.self.now _ (ap (λ (g : Gathered). g.work) (sym c.self.view_is) ∙ ap work_of c.in-Run.is) (search rules) (inr (_, c.in_ok-carry_out-in-Run.ensures.ok))
