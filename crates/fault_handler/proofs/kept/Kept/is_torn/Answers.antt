use Rattle.std.proofs.Common.{◌∙◌, ap, not, sym}
use Rattle.std.specs.FinMap.{contains_key}
use Rattle.std.proofs.lemmas.Bool.{false≢true}
use Rattle.fault_handler.proofs.TornLemmas.{holds_first, holds_second, holds_third, torn_by_sets}
use Rattle.fault_handler.proofs.kept.Kept.is_torn.Goals as goal
use Rattle.fault_handler.proofs.kept.Kept.is_torn.Goals.{then-meet, else-meet}

pub returns-then-not-are_mapped : goal.returns-then-not-are_mapped
returns-then-not-are_mapped c =
    let torn = torn_by_sets c.args.self.now c.self.inside.set c.args.owed.now c.args.areas.now (λ q. c.self.invariant.same q ∙ ap (λ m. contains_key m q) c.self.view_is) in
    elim c.if-meet.branch [
      | then-meet w ↦ holds_first _ _ _ _ c.if-meet.value torn (w.value-is ∙ c.meet.ensures) c.if-not-are_mapped.true
      | else-meet w ↦ holds_second _ _ _ _ c.if-meet.value torn (w.value-is ∙ ap not w.are_mapped.ensures) c.if-not-are_mapped.true
    ]

pub returns-else-not-are_mapped : goal.returns-else-not-are_mapped
returns-else-not-are_mapped c =
    let torn = torn_by_sets c.args.self.now c.self.inside.set c.args.owed.now c.args.areas.now (λ q. c.self.invariant.same q ∙ ap (λ m. contains_key m q) c.self.view_is) in
    elim c.if-meet.branch [
      | then-meet w ↦ absurd (false≢true (sym c.if-not-are_mapped.false ∙ w.value-is ∙ w.if-meet.true))
      | else-meet w ↦
          ap not c.are_mapped-else-not-are_mapped.ensures
          ∙ holds_third _ _ _ _ torn (sym c.meet.ensures ∙ w.if-meet.false) (ap not (sym w.are_mapped.ensures) ∙ sym w.value-is ∙ c.if-not-are_mapped.false)
    ]
