use Rattle.std.proofs.Common.{◌∙◌, None}
use Rattle.uffd_ioctl.proofs.RemapLemmas.{shrunk, shrunk_set}
use Rattle.uffd_ioctl.proofs.remap.shrink.Goals as goal

pub returns-clause-areas : goal.returns-clause-areas
returns-clause-areas c = c.in_ok-unmap.ensures.ok ∙ shrunk c.args.areas.now c.args.range.from c.args.range.count c.args.range.to c.args.range.new_count _ c.requires.place c.requires.shorter

pub returns-clause-pages : goal.returns-clause-pages
returns-clause-pages c = c.drop_range.ensures.bytes ∙ shrunk c.args.pages.now.bytes c.args.range.from c.args.range.count c.args.range.to c.args.range.new_count None c.requires.place c.requires.shorter

pub returns-clause-protected : goal.returns-clause-protected
returns-clause-protected c = shrunk_set c.args.pages.now.protected _ c.args.range.from c.args.range.count c.args.range.to c.args.range.new_count c.requires.range.to c.requires.protected c.requires.place c.requires.shorter c.drop_range.ensures.protected
