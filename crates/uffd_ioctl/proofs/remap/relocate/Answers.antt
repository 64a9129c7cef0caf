use Rattle.std.proofs.Common.{◌∙◌, ap}
use Rattle.mig_base.specs.Pages.{set_range, remove_range}
use Rattle.uffd_ioctl.proofs.RemapLemmas.{moved_prots, moved_pages, moved_pages_set}
use Rattle.uffd_ioctl.proofs.remap.relocate.Goals as goal

pub returns-clause-areas : goal.returns-clause-areas
returns-clause-areas c =
    moved_prots c.args.areas.now _ c.args.range.from c.args.range.count c.args.range.to c.args.range.new_count c.args.prot c.requires.range.some c.requires.prot
    (c.relocated.ensures ∙ ap (λ m. set_range (remove_range m c.args.range.from c.args.range.count) c.args.range.to c.args.range.new_count c.args.prot) c.in_ok-roomy.ensures.ok)

pub returns-clause-pages : goal.returns-clause-pages
returns-clause-pages c =
    moved_pages c.args.pages.now.bytes c.move_range.new.self.bytes c.drop_range.new.self.bytes c.drop_range-2.new.self.bytes c.args.range.from c.args.range.count c.args.range.to c.args.range.new_count c.min-kept.result
    c.min-kept.ensures c.requires.apart c.in-Ok.ensures.bytes c.drop_range.ensures.bytes c.drop_range-2.ensures.bytes

pub returns-clause-protected : goal.returns-clause-protected
returns-clause-protected c =
    moved_pages_set c.args.pages.now.protected c.move_range.new.self.protected c.drop_range.new.self.protected c.drop_range-2.new.self.protected c.args.range.from c.args.range.count c.args.range.to c.args.range.new_count c.min-kept.result
    c.requires.range.to c.requires.protected c.min-kept.ensures c.requires.apart c.in-Ok.ensures.protected c.drop_range.ensures.protected c.drop_range-2.ensures.protected
