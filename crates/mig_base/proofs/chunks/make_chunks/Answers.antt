use Rattle.std.proofs.Common.{◌≡◌, ◌∙◌, ◌<◌, ◌≤◌, ◌*◌, ◌/◌, None, get_or, ap, ⊎_elim, arith}
use Rattle.std.proofs.lemmas.Bool.{cases_lt}
use Rattle.mig_base.specs.PageSets.{is_chunk}
use Rattle.mig_base.proofs.chunks.make_chunks.Goals as goal

pub loop-at-preserved : goal.loop-at-preserved
loop-at-preserved c = record {
  same = λ q. c.make_chunk.ensures.same q ∙ c.loop-at.invariant.same q;
  few = c.make_chunk.ensures.few;
  there = λ q a b. ⊎_elim
      (λ (below : q < 1024 * c.loop-at.at). c.make_chunk.ensures.stay (q / 1024) (c.loop-at.invariant.there q a below))
      (λ (past : 1024 * c.loop-at.at ≤ q). let e : q / 1024 ≡ c.loop-at.at = omega arith in ap (λ k. is_chunk (get_or c.make_chunk.new.chunks.items k None)) e ∙ c.in_ok-make_chunk.ensures.there.1)
      (cases_lt q (1024 * c.loop-at.at));
}
