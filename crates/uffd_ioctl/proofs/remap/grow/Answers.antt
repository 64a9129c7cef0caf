use Rattle.uffd_ioctl.proofs.RemapLemmas.{grown_prots, grown_pages, grown_set}
use Rattle.uffd_ioctl.proofs.remap.grow.Goals as goal

pub returns-clause-areas : goal.returns-clause-areas
returns-clause-areas c = grown_prots c.args.areas.now _ c.args.range.from c.args.range.count c.args.range.to c.args.range.new_count c.args.prot c.requires.range.some c.requires.place c.requires.longer c.requires.prot c.in_ok-map.ensures.ok

pub returns-clause-pages : goal.returns-clause-pages
returns-clause-pages c = grown_pages c.args.pages.now.bytes _ c.args.range.from c.args.range.count c.args.range.to c.args.range.new_count c.requires.place c.requires.longer c.drop_range.ensures.bytes

pub returns-clause-protected : goal.returns-clause-protected
returns-clause-protected c = grown_set c.args.pages.now.protected _ c.args.range.from c.args.range.count c.args.range.to c.args.range.new_count c.requires.range.to c.requires.protected c.requires.place c.requires.longer c.drop_range.ensures.protected
