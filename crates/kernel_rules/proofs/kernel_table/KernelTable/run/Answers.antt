use Rattle.std.proofs.Common.{◌≡◌, Option, refl, subst, arith}
use Rattle.std.specs.Ordering.{nat_cmp}
use Rattle.std.specs.BTreeMap.{get}
use Rattle.kernel_rules.specs.Held.{kernel_of, pages_by}
use Rattle.kernel_rules.specs.declared.page_table.PageTable.{PageTable}
use Rattle.kernel_rules.proofs.PageRuns.{same_until}
use Rattle.kernel_rules.proofs.kernel_table.KernelTable.run.Goals as goal

pub returns-in-Some-clause-same : goal.returns-in-Some-clause-same
unfolding kernel_of
returns-in-Some-clause-same c =
    λ n from to. subst (λ (o : Option PageTable). pages_by o n ≡ pages_by o c.args.page) c.in-Some.ensures.value
    (same_until (get nat_cmp c.in-Some.pages.now.runs) c.args.page c.run.result n (omega (arith, c.requires.room, c.run.ensures.within)) c.run.ensures.none from to)

pub returns-in-None-clause-same : goal.returns-in-None-clause-same
unfolding kernel_of
returns-in-None-clause-same c = λ n from to. subst (λ (o : Option PageTable). pages_by o n ≡ pages_by o c.args.page) c.in-None.ensures.value refl
