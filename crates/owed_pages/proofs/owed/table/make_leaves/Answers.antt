use Rattle.std.proofs.Common.{◌∙◌, ◌<◌, ◌≤◌, ◌*◌, ⊎_elim, arith}
use Rattle.std.proofs.lemmas.Bool.{cases_lt}
use Rattle.owed_pages.proofs.owed.table.make_leaves.Goals as goal
use Rattle.mig_base.proofs.PlaceLemmas.{same_leaf}

pub loop-at-preserved : goal.loop-at-preserved
loop-at-preserved c = record {
  same = λ q. c.make_leaf.ensures.same q ∙ c.loop-at.invariant.same q;
  few = c.make_leaf.ensures.few;
  stay = λ q h. c.make_leaf.ensures.stay q (c.loop-at.invariant.stay q h);
  there = λ q a b. ⊎_elim
      (λ (below : q < 1024 * c.loop-at.at). c.make_leaf.ensures.stay q (c.loop-at.invariant.there q a below))
      (λ (past : 1024 * c.loop-at.at ≤ q). same_leaf c.make_leaf.new.places.items (c.loop-at.at * 1024) q (omega arith) c.in-Ok.ensures.there)
      (cases_lt q (1024 * c.loop-at.at));
}
