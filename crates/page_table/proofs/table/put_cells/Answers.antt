use Rattle.std.proofs.Common.{◌≡◌, ◌+◌, ◌∙◌, ap, arith, cond, eqb, false, length, Some}
use Rattle.page_table.specs.Leaves.{cell_at}
use Rattle.page_table.proofs.PutRunLemmas.{put_more}
use Rattle.page_table.proofs.table.put_cells.Goals as goal

pub loop-bytes-preserved : goal.loop-bytes-preserved
loop-bytes-preserved c =
    let rest : c.len.result ≡ length c.pop.new.self.items = omega (arith, c.len.ensures, c.pop.new.self.ok) in
    record {
      put = λ q.
          put_more (cell_at c.loop-bytes.places.items) (cell_at c.put_at.new.places.items) c.args.first c.loop-bytes.run.items c.pop.new.self.items c.in-Some.bytes c.in-Some.ensures.items (λ p. c.put_at.ensures.put p ∙ ap (λ o. cond (eqb p (c.args.first + c.len.result)) (o, false) (cell_at c.loop-bytes.places.items p)) c.holding.ensures ∙ ap (λ n. cond (eqb p (c.args.first + n)) (Some c.in-Some.bytes, false) (cell_at c.loop-bytes.places.items p)) rest) q
          ∙ c.loop-bytes.invariant.put q;
      few = omega (arith, c.in-Some.ensures.len, c.loop-bytes.invariant.few);
      size = c.put_at.ensures.size ∙ c.loop-bytes.invariant.size;
      kept = λ q. c.put_at.ensures.stay q ∙ c.loop-bytes.invariant.kept q;
    }
