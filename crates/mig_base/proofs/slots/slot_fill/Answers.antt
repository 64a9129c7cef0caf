use Rattle.std.proofs.Common.{◌∙◌, sym, ap, ◌||◌}
use Rattle.std.specs.FinSet.{contains}
use Rattle.foundation.specs.Ranges.{in_range}
use Rattle.mig_base.specs.PageSets.{in_chunk}
use Rattle.mig_base.proofs.slots.slot_fill.Goals as goal

pub returns-in-Some-clause-put : goal.returns-in-Some-clause-put
returns-in-Some-clause-put c = λ j.
    c.insert_range.ensures j
    ∙ ap (λ b. in_range c.args.first c.args.count j || b) (ap (λ s. contains s j) c.deref_mut.ensures.value ∙ sym (ap (λ o. in_chunk o j) c.in-Some.is))
