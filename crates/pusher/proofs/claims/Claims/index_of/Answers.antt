use Rattle.std.proofs.Common.{ap, sym, subst}
use Rattle.std.specs.Prelude.{Contains, IfNone}
use Rattle.pusher.specs.Entries.{IsIndexed}
use Rattle.pusher.proofs.EntryLemmas.{none_found}
use Rattle.pusher.proofs.claims.Claims.index_of.Goals as goal

pub returns-clause-none : goal.returns-clause-none
returns-clause-none c =
    subst (λ pages. IfNone c.find.result (Contains pages c.args.page → ⊥)) (ap (λ v. v.pages) c.self.view_is)
    (none_found c.self.inside.pages.items c.as_slice.result.now (subst (IsIndexed c.self.inside.pages.items) (sym c.as_slice.ensures.value) c.self.invariant.4) c.args.page c.find.result c.find.ensures.none)
