use Rattle.std.proofs.Common.{◌∙◌}
use Rattle.area_map.proofs.ViewLemmas.{get-pages_in, prot_at_answer}
use Rattle.area_map.proofs.AreaMap.areas_in.Goals as goal

pub returns-clause-pages : goal.returns-clause-pages
returns-clause-pages c = λ page here.
    get-pages_in c.areas_between.result.now page
    ∙ c.areas_between.ensures.pages page here
    ∙ prot_at_answer c.self.inside.areas.items c.deref.result.now c.args.self.now page c.deref.ensures.value c.self.view_is
