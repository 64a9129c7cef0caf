use Rattle.std.proofs.Common.{ℕ, List, ◌++◌, ap, subst, ◌∙◌, length}
use Rattle.std.proofs.lemmas.Result.{err_from_is_err_and}
use Rattle.engine.specs.Engine.{Front}
use Rattle.threads.specs.Report.{IsWholeRun, report_lines}
use Rattle.threads.proofs.run.run_threads.Goals as goal

pub returns-in_err-write_out-clause-fault : goal.returns-in_err-write_out-clause-fault
returns-in_err-write_out-clause-fault g c =
    let p = err_from_is_err_and c.from_residual-in_err-write_out.result c.from_residual-in_err-write_out.ensures.1 in
    let run = c.in_ok-run.run' in
    let whole : IsWholeRun c.args.scenario.cpus c.args.scenario.calls run.seats.items run.world run.fault = record {
      all = c.in_ok-run.ensures.all;
      each = c.in_ok-run.ensures.each;
      flat = c.in_ok-run.ensures.flat;
      history = c.in_ok-run.ensures.history;
    } in
    let lines = report_lines run.seats.items (length run.world.transcript) run.fault in
    rw (p.1, p.2, c.in_err-write_out.ensures.fault)
    (run.seats.items, run.world, run.fault, whole, subst (λ (text : List ℕ). Front text (g.W.Write.contents c.args.writer.now) (g.W.Write.contents c.write_out.new.writer)) (c.as_bytes.ensures.value ∙ c.in_ok-print_run.ensures.ok ∙ ap (λ (front : List ℕ). front ++ lines) c.new-text.ensures.bytes) c.in_err-write_out.ensures.front)
