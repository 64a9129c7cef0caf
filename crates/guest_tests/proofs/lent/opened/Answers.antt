use Rattle.guest_tests.proofs.LentLemmas.{opened_lent}
use Rattle.guest_tests.proofs.lent.opened.Goals as goal

pub returns : goal.returns
returns c = rw (c.handshake.ensures.space, c.new-space.ensures) opened_lent
