use Rattle.std.proofs.Common.{◌≤◌, ◌∙◌, ◌||◌, ap, arith, length, refl}
use Rattle.foundation.specs.Ranges.{in_range}
use Rattle.mig_base.proofs.PageSetViews.{on_any_err, same_shown, with_range_shown}
use Rattle.mig_base.proofs.page_set.PageSet.insert_range_in_both.Goals as goal

pub returns-in_err-make_chunks-clause-err : goal.returns-in_err-make_chunks-clause-err
returns-in_err-make_chunks-clause-err c =
    on_any_err c.from_residual.result (same_shown c.one.inside.chunks.items c.make_chunks.new.chunks.items c.args.one.now c.one.invariant c.make_chunks.ensures.few c.one.view_is c.make_chunks.ensures.same, refl)

pub returns-in_err-make_chunks-2-clause-err : goal.returns-in_err-make_chunks-2-clause-err
returns-in_err-make_chunks-2-clause-err c =
    on_any_err c.from_residual-in_err-make_chunks-2.result (
      same_shown c.one.inside.chunks.items c.make_chunks.new.chunks.items c.args.one.now c.one.invariant c.make_chunks.ensures.few c.one.view_is c.make_chunks.ensures.same,
      same_shown c.other.inside.chunks.items c.make_chunks-2.new.chunks.items c.args.other.now c.other.invariant c.make_chunks-2.ensures.few c.other.view_is c.make_chunks-2.ensures.same,
    )

pub returns-clause-one : goal.returns-clause-one
returns-clause-one c =
    let few : length c.put_pages.new.chunks.items ≤ 1024 = omega (arith, c.put_pages.ensures.size, c.make_chunks.ensures.few) in
    with_range_shown c.one.inside.chunks.items c.put_pages.new.chunks.items c.args.one.now c.args.first c.args.count c.one.invariant few c.one.view_is
    (λ q. c.put_pages.ensures.put q ∙ ap (λ b. in_range c.args.first c.args.count q || b) (c.make_chunks.ensures.same q))

pub returns-clause-other : goal.returns-clause-other
returns-clause-other c =
    let few : length c.put_pages-2.new.chunks.items ≤ 1024 = omega (arith, c.put_pages-2.ensures.size, c.make_chunks-2.ensures.few) in
    with_range_shown c.other.inside.chunks.items c.put_pages-2.new.chunks.items c.args.other.now c.args.first c.args.count c.other.invariant few c.other.view_is
    (λ q. c.put_pages-2.ensures.put q ∙ ap (λ b. in_range c.args.first c.args.count q || b) (c.make_chunks-2.ensures.same q))
