use Rattle.std.proofs.Common.{◌∙◌, ap}
use Rattle.std.specs.FinMap.{get}
use Rattle.mig_base.specs.Pages.{remove_range}
use Rattle.area_map.proofs.MoveLemmas.{moved_answer, cleared}
use Rattle.area_map.proofs.AreaMap.move_range.Goals as goal

pub map_moved-requires-clause-free : goal.map_moved-requires-clause-free
map_moved-requires-clause-free c = cleared _ c.unmap-2.new.self c.args.to c.args.count c.in_ok-unmap-2.ensures.ok

pub returns-clause-ok : goal.returns-clause-ok
returns-clause-ok c = λ page.
    ap (λ m. get m page) c.moved-3.view_is
    ∙ moved_answer c.self.inside.areas.items c.deref.result.now c.args.self.now c.unmap.new.self c.unmap-2.new.self c.map_moved.new.moved c.args.from c.args.to c.args.count c.deref.ensures.value c.self.view_is
    (c.in_ok-unmap.ensures.ok ∙ ap (λ m. remove_range m c.args.from c.args.count) c.in_ok-moved.ensures) (c.in_ok-unmap-2.ensures.ok) c.in_ok-map_moved.ensures page
