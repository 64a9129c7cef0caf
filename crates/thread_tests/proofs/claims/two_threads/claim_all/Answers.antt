use Rattle.std.proofs.Common.{rules, arith}
use Rattle.thread_tests.proofs.Knowing.{knows_more}
use Rattle.thread_tests.proofs.claims.two_threads.claim_all.Goals as goal

pub loop-index-preserved : goal.loop-index-preserved
loop-index-preserved c = record {
  seat = search rules;
  share = search rules;
  known = knows_more c.claim.result c.loop-index.index c.loop-index.seat c.claim.new.seat c.claim.ensures.won c.claim.ensures.lost c.loop-index.invariant.known;
}

pub returns-clause-known : goal.returns-clause-known
returns-clause-known c = λ i l. c.loop-index.invariant.known i (omega arith)
