use Rattle.std.proofs.Common.{◌≡◌, ◌∙◌, ◌-◌, ◌||◌, ap, arith, cond, get_or, length, Some, []}
use Rattle.std.specs.FinMap.{get}
use Rattle.std.specs.FinSet.{contains}
use Rattle.foundation.specs.Ranges.{in_range}
use Rattle.fault_handler.proofs.KeptLemmas.{kept_run, run_kept}
use Rattle.fault_handler.proofs.kept.Kept.keep_run.Goals as goal

pub invariant_of-self-in-Ok : goal.invariant_of-self-in-Ok
invariant_of-self-in-Ok c =
    let count : c.len-count.result ≡ length c.args.run.items = omega (arith, c.len-count.ensures, c.args.run.ok) in
    kept_run c.self.inside.pages c.put_run.new.self c.self.inside.set c.insert_range.new.self c.args.first (length c.args.run.items) c.args.run.items c.self.invariant (λ q. c.in_ok-insert_range.ensures.ok q ∙ ap (λ n. in_range c.args.first n q || contains c.self.inside.set q) count) c.in-Ok.ensures.bytes c.in-Ok.ensures.protected

pub returns-in-Ok-clause-ok : goal.returns-in-Ok-clause-ok
returns-in-Ok-clause-ok c = run_kept c.args.self.now c.put_run.new.self.bytes c.args.first c.args.run.items (λ q. c.in-Ok.ensures.bytes q ∙ ap (λ m. cond (in_range c.args.first (length c.args.run.items) q) (Some (get_or c.args.run.items (q - c.args.first) [])) (get m q)) c.self.view_is)
