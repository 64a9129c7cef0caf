use Rattle.std.proofs.Common.{◌≤◌, ◌∙◌, ◌||◌, ap, arith, length}
use Rattle.foundation.specs.Ranges.{in_range}
use Rattle.mig_base.proofs.PageSetViews.{on_any_err, same_shown, range_shown}
use Rattle.mig_base.proofs.page_set.PageSet.insert_range.Goals as goal

pub returns-in_err-make_chunks-clause-err : goal.returns-in_err-make_chunks-clause-err
returns-in_err-make_chunks-clause-err c = on_any_err c.from_residual.result (same_shown c.self.inside.chunks.items c.make_chunks.new.chunks.items c.args.self.now c.self.invariant c.make_chunks.ensures.few c.self.view_is c.make_chunks.ensures.same)

pub returns-clause-ok : goal.returns-clause-ok
returns-clause-ok c =
    let few : length c.put_pages.new.chunks.items ≤ 1024 = omega (arith, c.put_pages.ensures.size, c.make_chunks.ensures.few) in
    range_shown c.self.inside.chunks.items c.put_pages.new.chunks.items c.args.self.now c.args.first c.args.count c.self.invariant few c.self.view_is
    (λ q. c.put_pages.ensures.put q ∙ ap (λ b. in_range c.args.first c.args.count q || b) (c.make_chunks.ensures.same q))
