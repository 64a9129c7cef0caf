use Rattle.std.proofs.Common.{◌∙◌, ap, ◌/◌, ◌%◌, ◌&&◌, not, eqb, arith}
use Rattle.mig_base.specs.PageSets.{in_chunk}
use Rattle.mig_base.proofs.PageSetLemmas.{gone_already, has_page-removed}
use Rattle.mig_base.proofs.PlaceLemmas.{read_place}
use Rattle.mig_base.proofs.chunks.clear_page.Goals as goal

pub returns-then-at-len-clause-cleared : goal.returns-then-at-len-clause-cleared
returns-then-at-len-clause-cleared c =
    has_page-removed c.args.chunks.now.items c.args.page c.slot_remove.new.slot (omega arith)
    (λ i. c.slot_remove.ensures i ∙ ap (λ o. not (eqb i (c.args.page % 1024)) && in_chunk o i) (read_place c.args.chunks.now.items (c.args.page / 1024) c.index_mut.result.now (omega arith) c.index_mut.ensures.value))

pub returns-else-at-len-clause-cleared : goal.returns-else-at-len-clause-cleared
returns-else-at-len-clause-cleared c = gone_already c.args.chunks.now.items c.args.page (omega arith)
