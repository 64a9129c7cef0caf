use Rattle.uffd_ioctl.proofs.LentPages.{watched_page, watched_registered}
use Rattle.uffd_ioctl.proofs.lent.make_zeros.Goals as goal

pub install_zeros-requires-clause-page : goal.install_zeros-requires-clause-page
install_zeros-requires-clause-page c = watched_page c.args.space.now c.args.page c.is_in_order.ensures c.requires.lent c.requires.watched

pub install_zeros-requires-clause-registered : goal.install_zeros-requires-clause-registered
install_zeros-requires-clause-registered c = watched_registered c.args.space.now c.args.page c.requires.watched
