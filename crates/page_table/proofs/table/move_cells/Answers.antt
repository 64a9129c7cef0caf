use Rattle.std.proofs.Common.{◌∙◌, ◌+◌, ap, cond, eqb}
use Rattle.page_table.specs.Leaves.{Cell, cell_at}
use Rattle.page_table.proofs.TableLemmas.{moved_more}
use Rattle.page_table.proofs.table.move_cells.Goals as goal

pub loop-i-preserved : goal.loop-i-preserved
loop-i-preserved c =
    let cell : Cell = (c.take_at-bytes.result.0, c.take_at-bytes.result.1) in
    record {
      moved = λ q. c.put_at.ensures.put q ∙ ap (λ x. cond (eqb q (c.args.to + c.loop-i.i)) cell x) (c.take_at-bytes.ensures.left q)
          ∙ moved_more (cell_at c.args.places.now.items) (cell_at c.loop-i.places.items) c.args.from c.args.to c.args.count c.loop-i.i cell c.requires.apart c.loop-i-test.true c.loop-i.invariant.moved c.take_at-bytes.ensures.taken q;
      size = c.put_at.ensures.size ∙ c.take_at-bytes.ensures.size ∙ c.loop-i.invariant.size;
      kept = λ q. c.put_at.ensures.stay q ∙ c.take_at-bytes.ensures.stay q ∙ c.loop-i.invariant.kept q;
    }
