use Rattle.std.proofs.Common.{List, ℕ, subst, sym}
use Rattle.std.specs.Io.KnownBytes.{Appends}
use Rattle.std.proofs.lemmas.Result.{err_from_is_err_and}
use Rattle.mig_base.specs.declared.schedule.Step.{Step}
use Rattle.engine.specs.Engine.{Front}
use Rattle.finishing.specs.Finished.{AreBehind, HaveLines}
use Rattle.finishing.proofs.Sayable.{have_lines}
use Rattle.finishing.proofs.run.finish_world.Goals as goal

pub returns-in_ok-write_out-in-Ok-clause-ok : goal.returns-in_ok-write_out-in-Ok-clause-ok
returns-in_ok-write_out-in-Ok-clause-ok g c = (
  c.in_ok-text-in-Ok.text.items,
  record {
    steps = c.in-Ok.steps.items;
    end = c.finish.new.world;
    leads = c.in-Ok.ensures.made;
    due = c.in-Ok.ensures.strategy;
    complete = c.in-Ok.ensures.complete;
    lines = subst (λ (steps : List Step). AreBehind steps c.in_ok-text-in-Ok.text.items) c.deref.ensures.value c.in_ok-text-in-Ok.ensures;
  },
  subst (λ (text : List ℕ). Appends (g.W.Write.contents c.args.writer.now) (g.W.Write.contents c.write_out.new.writer) text) c.deref-in-Ok.ensures.value c.in_ok-write_out-in-Ok.ensures.ok,
)

pub returns-in_err-write_out-in-Ok-clause-fault : goal.returns-in_err-write_out-in-Ok-clause-fault
returns-in_err-write_out-in-Ok-clause-fault g c =
    let p = err_from_is_err_and c.from_residual-in_err-write_out-in-Ok.result c.from_residual-in_err-write_out-in-Ok.ensures.1 in
    rw (p.1, p.2, c.in_err-write_out-in-Ok.ensures.fault) (
      c.in_ok-text-in-Ok.text.items,
      record {
        steps = c.in-Ok.steps.items;
        end = c.finish.new.world;
        leads = c.in-Ok.ensures.made;
        due = c.in-Ok.ensures.strategy;
        complete = c.in-Ok.ensures.complete;
        lines = subst (λ (steps : List Step). AreBehind steps c.in_ok-text-in-Ok.text.items) c.deref.ensures.value c.in_ok-text-in-Ok.ensures;
      },
      subst (λ (text : List ℕ). Front text (g.W.Write.contents c.args.writer.now) (g.W.Write.contents c.write_out.new.writer)) c.deref-in-Ok.ensures.value c.in_err-write_out-in-Ok.ensures.front,
    )

pub lines_of-requires : goal.lines_of-requires
lines_of-requires g c = subst HaveLines (sym c.deref.ensures.value) (have_lines c.args.world.now c.in-Ok.steps.items c.in-Ok.ensures.strategy)
