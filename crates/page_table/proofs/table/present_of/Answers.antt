use Rattle.std.proofs.Common.{◌∙◌, ◌*◌, ap, arith}
use Rattle.std.specs.FinSet.{contains}
use Rattle.page_table.proofs.ViewLemmas.{gathered_none, gathered_more, gathered_all}
use Rattle.page_table.proofs.table.present_of.Goals as goal
use Rattle.mig_base.proofs.PlaceLemmas.{read_place}

pub loop-at-init : goal.loop-at-init
loop-at-init c = λ q. ap (λ s. contains s q) c.new-pages.ensures ∙ gathered_none c.args.places.now.items q

pub loop-at-preserved : goal.loop-at-preserved
loop-at-preserved c =
    gathered_more c.args.places.now.items c.index.result.now c.loop-at.pages c.place_gather.new.pages c.loop-at.at
    (read_place c.args.places.now.items c.loop-at.at c.index.result.now (omega arith) c.index.ensures) c.loop-at.invariant c.in_ok-place_gather.ensures

pub returns : goal.returns
returns c = gathered_all c.args.places.now.items c.loop-at.pages (1024 * c.loop-at.at) (omega arith) c.loop-at.invariant
