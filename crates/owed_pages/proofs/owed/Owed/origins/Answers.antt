use Rattle.std.proofs.lemmas.Result.{IfOk-weaker}
use Rattle.owed_pages.proofs.OwedLemmas.{origins_of}
use Rattle.owed_pages.proofs.owed.Owed.origins.Goals as goal

pub returns : goal.returns
returns c = IfOk-weaker c.numbered.result _ _ (λ pages h. origins_of c.self.inside.links.forth.items c.self.inside.links.back.items c.self.inside.links.count c.args.self.now pages c.self.inside.links.kept c.self.view_is h) c.numbered.ensures
