use Rattle.explain.proofs.Reports.{lists_more}
use Rattle.explain.proofs.explain.list.Goals as goal

pub loop-wrong-preserved : goal.loop-wrong-preserved
loop-wrong-preserved c =
    let wrote = c.in_ok-write_wrong.ensures in
    lists_more c.args.reasons c.args.wrongs.now c.loop-wrong.wrong-index _ _ wrote.0 _ c.loop-wrong-test.true c.loop-wrong.invariant wrote.1 wrote.2
