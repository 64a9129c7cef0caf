use Rattle.mig_model.proofs.memory.NumberLemmas.{aligned_width}
use Rattle.uffd_ioctl.proofs.AnswerLemmas.{store_unmapped, store_forbidden, store_done}
use Rattle.uffd_ioctl.proofs.space.Space.store_reply.Goals as goal

pub returns-in-None : goal.returns-in-None
returns-in-None c =
    let fits = c.if-not-fits.ensures (aligned_width c.args.addr c.args.width c.if-not-is_aligned.ensures) in
    store_unmapped c.args.self.now.host c.args.addr c.args.width c.args.value c.if-not-is_aligned.ensures fits c.in-None.ensures.prot

pub returns-in-Some : goal.returns-in-Some
returns-in-Some c =
    let fits = c.if-not-fits.ensures (aligned_width c.args.addr c.args.width c.if-not-is_aligned.ensures) in
    store_done c.args.self.now.host c.args.addr c.args.width c.args.value c.in-Some.prot c.if-not-is_aligned.ensures fits c.in-Some.ensures.prot c.if-allows_store.ensures

pub returns-in-Some-2 : goal.returns-in-Some-2
returns-in-Some-2 c =
    let fits = c.if-not-fits.ensures (aligned_width c.args.addr c.args.width c.if-not-is_aligned.ensures) in
    store_forbidden c.args.self.now.host c.args.addr c.args.width c.args.value c.in-Some.prot c.if-not-is_aligned.ensures fits c.in-Some.ensures.prot c.if-allows_store.ensures
