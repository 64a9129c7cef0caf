use Rattle.std.proofs.Common.{◌∙◌, ap, sym, subst, take, []}
use Rattle.std.proofs.lemmas.List.{take_all}
use Rattle.mig_base.specs.Userfault.{registered_where}
use Rattle.userfault.specs.Modes.{mode_of}
use Rattle.uffd_ioctl.specs.Remaps.{AreLow}
use Rattle.uffd_ioctl.proofs.RegisterLemmas.{is_mapped_by, mapped_none, mapped_same, nothing_where, registered_low, registered_more, same_where, area_bound}
use Rattle.uffd_ioctl.proofs.register.registered.Goals as goal

pub loop-area-init : goal.loop-area-init
loop-area-init c =
    c.in_ok-after.ensures
    ∙ nothing_where c.args.object.now (is_mapped_by c.args.range.first c.args.range.count []) (mode_of c.args.mode) c.requires.low (mapped_none c.args.range.first c.args.range.count)

pub register_area-requires-clause-area : goal.register_area-requires-clause-area
register_area-requires-clause-area c = area_bound c.areas_in-area-items.result.now c.loop-area.area-index c.areas_in-area-items.ensures.runs c.loop-area-test.true

pub register_area-requires-clause-low : goal.register_area-requires-clause-low
register_area-requires-clause-low c =
    subst AreLow (sym c.loop-area.invariant) (registered_low c.args.object.now (is_mapped_by c.args.range.first c.args.range.count (take c.loop-area.area-index c.areas_in-area-items.result.now)) (mode_of c.args.mode))

pub loop-area-preserved : goal.loop-area-preserved
loop-area-preserved c =
    registered_more c.args.object.now c.loop-area.after c.in_ok-after-2.after c.args.range.first c.args.range.count c.areas_in-area-items.result.now c.loop-area.area-index (mode_of c.args.mode) c.areas_in-area-items.ensures.runs c.loop-area-test.true c.loop-area.invariant c.in_ok-after-2.ensures

pub returns : goal.returns
returns c =
    c.loop-area.invariant
    ∙ ap (λ xs. registered_where c.args.object.now (is_mapped_by c.args.range.first c.args.range.count xs) (mode_of c.args.mode)) (take_all c.loop-area.area-index c.areas_in-area-items.result.now c.loop-area-test.false)
    ∙ same_where c.args.object.now (is_mapped_by c.args.range.first c.args.range.count c.areas_in-area-items.result.now) _ (mode_of c.args.mode) (mapped_same c.args.range.first c.args.range.count c.areas_in-area-items.result.now c.args.areas.now c.areas_in-area-items.ensures.pages)
