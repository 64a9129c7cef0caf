use Rattle.std.proofs.Common.{◌∙◌, ap, sym}
use Rattle.std.specs.FinMap.{get}
use Rattle.mig_model.specs.Faults.{is_torn}
use Rattle.fault_handler.proofs.PackageLemmas.{run_in_order}
use Rattle.fault_handler.proofs.PageLemmas.{run_paged}
use Rattle.fault_handler.proofs.TornLemmas.{kept_whole}
use Rattle.fault_handler.proofs.destination.Destination.run.Goals as goal

pub assemble-requires : goal.assemble-requires
assemble-requires c = λ page unmapped.
    kept_whole c.self.inside.kept c.args.areas.now c.args.owed.now (ap (λ node. is_torn node.kept c.args.areas.now c.args.owed.now) c.self.view_is ∙ c.requires.whole) page (ap (λ areas. get areas page) (sym c.in_ok-areas.ensures) ∙ unmapped)

pub invariant_of-self-2 : goal.invariant_of-self-2
invariant_of-self-2 c = (
  run_in_order c.in_ok-self-inside.field-0 c.in_ok-owed.owed c.in_ok-areas.areas c.args.areas.now c.args.owed.now c.self.inside.kept c.in_ok-self-inside.ensures.ok c.in_ok-areas.ensures c.in_ok-owed.ensures c.requires.mapping
      (ap (λ node. is_torn node.kept c.args.areas.now c.args.owed.now) c.self.view_is ∙ c.requires.whole),
  run_paged c.in_ok-owed.owed c.args.owed.now _ c.in_ok-owed.ensures c.requires.few c.self.invariant.1.listed,
)
