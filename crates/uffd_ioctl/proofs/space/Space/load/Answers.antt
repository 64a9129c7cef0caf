use Rattle.uffd_ioctl.proofs.AnswerLemmas.{load_unmapped, load_value, load_forbidden}
use Rattle.uffd_ioctl.proofs.space.Space.load.Goals as goal

pub returns-in-None : goal.returns-in-None
returns-in-None c = load_unmapped c.args.self.now.host c.args.addr c.args.width c.if-not-is_aligned.ensures c.in-None.ensures.prot

pub returns-in-Some : goal.returns-in-Some
returns-in-Some c = load_value c.args.self.now.host c.args.addr c.args.width c.number_at.result c.in-Some.prot c.if-not-is_aligned.ensures c.in-Some.ensures.prot c.if-allows_load.ensures c.number_at.ensures

pub returns-in-Some-2 : goal.returns-in-Some-2
returns-in-Some-2 c = load_forbidden c.args.self.now.host c.args.addr c.args.width c.in-Some.prot c.if-not-is_aligned.ensures c.in-Some.ensures.prot c.if-allows_load.ensures
