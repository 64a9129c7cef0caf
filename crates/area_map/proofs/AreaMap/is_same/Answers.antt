use Rattle.std.proofs.Common.{◌∙◌, sym, ap}
use Rattle.std.proofs.lemmas.Bool.Decides.{Decides-like}
use Rattle.std.proofs.lemmas.Slice.Eq.{slice_eq-Decides}
use Rattle.mig_base.proofs.EqualLemmas.{same_areas}
use Rattle.area_map.specs.Areas.{pages_in}
use Rattle.area_map.proofs.SameLemmas.{one_list_of_map}
use Rattle.area_map.proofs.AreaMap.is_same.Goals as goal

pub returns : goal.returns
returns c =
    let areas = c.self.inside.areas.items in
    let others = c.other.inside.areas.items in
    Decides-like c.eq.result
    (λ e. sym c.self.view_is ∙ ap pages_in e ∙ c.other.view_is)
    (one_list_of_map areas others c.args.self.now c.args.other.now c.self.invariant.runs c.other.invariant.runs c.self.view_is c.other.view_is)
    (slice_eq-Decides same_areas areas others c.eq.result c.eq.ensures)
