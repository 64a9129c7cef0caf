use Rattle.rig.proofs.ClaimLemmas.{continues_claimed}
use Rattle.rig.proofs.sending.claim_at.Goals as goal

pub returns-clause-continued : goal.returns-clause-continued
returns-clause-continued c = continues_claimed c.args.seat.now c.claim.new.seat c.in_ok-index.index c.claim.result c.claim.ensures.share c.claim.ensures.won c.claim.ensures.lost
