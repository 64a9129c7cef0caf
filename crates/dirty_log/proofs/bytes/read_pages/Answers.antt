use Rattle.std.proofs.Common.{◌+◌, ◌∙◌, ap, sym, arith}
use Rattle.mig_base.specs.Bytes.{contents}
use Rattle.std.proofs.lemmas.List.{length-set}
use Rattle.dirty_log.proofs.SendLemmas.{run_read}
use Rattle.dirty_log.proofs.bytes.read_pages.Goals as goal

pub loop-i-preserved : goal.loop-i-preserved
loop-i-preserved c = record {
  same = length-set c.loop-i.into.items c.loop-i.i _ ∙ c.loop-i.invariant.same;
  read = λ node e.
      run_read c.loop-i.into.items _ node c.args.first c.loop-i.i (omega (arith, c.loop-i-test.true, c.loop-i.invariant.same, c.len-i-end.ensures))
      (c.copy_from.ensures ∙ c.bytes_at.ensures ∙ ap (λ b. contents b (c.args.first + c.loop-i.i)) (sym e)) (c.loop-i.invariant.read node e);
}
