use Rattle.uffd_ioctl.proofs.LentPages.{watched_page, watched_registered}
use Rattle.uffd_ioctl.proofs.lent.install_page.Goals as goal

pub install-requires-clause-page : goal.install-requires-clause-page
install-requires-clause-page c = watched_page c.args.space.now c.args.page c.is_in_order.ensures c.requires.lent c.requires.watched

pub install-requires-clause-registered : goal.install-requires-clause-registered
install-requires-clause-registered c = watched_registered c.args.space.now c.args.page c.requires.watched
