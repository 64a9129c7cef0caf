use Rattle.std.proofs.Common.{ℕ, ◌∙◌, ◌&&◌, ◌||◌, not, ap}
use Rattle.std.specs.FinSet.{contains}
use Rattle.foundation.specs.Ranges.{in_range}
use Rattle.userfault.proofs.ModeLemmas.{is_registered_set, asked_put, other_kept, all_kept}
use Rattle.userfault.proofs.modes.registered.Goals as goal
use Rattle.userfault.proofs.modes.registered.Goals.{then-asked+in_ok-insert_range, else-asked+then-other_asked, else-asked+else-other_asked}

pub returns : goal.returns
returns c =
    let own = λ (q : ℕ). contains c.args.own.now q in
    let other = λ (q : ℕ). contains c.args.other.now q in
    let in_it = in_range c.args.first c.args.count in
    is_registered_set c.args.own.now c.args.other.now c.if-asked.set c.args.first c.args.count c.args.asked c.args.other_asked c.requires c.copy.ensures.law
    (elim c.if-asked.branch [
      | then-asked+in_ok-insert_range w ↦ λ q.
          ap (λ s. contains s q) w.set-is ∙ w.in_ok-insert_range.ensures.ok q ∙ ap (λ s. in_it q || contains s q) c.in_ok-set.ensures.copy
          ∙ asked_put (in_it q) (own q) (other q) c.args.asked c.args.other_asked w.if-asked.true
      | else-asked+then-other_asked w ↦ λ q.
          ap (λ s. contains s q) w.set-is ∙ w.remove_unless_in.ensures q ∙ ap (λ s. contains s q && not (in_it q && not (other q))) c.in_ok-set.ensures.copy
          ∙ other_kept (in_it q) (own q) (other q) c.args.asked c.args.other_asked w.if-asked.false w.if-other_asked.true
      | else-asked+else-other_asked w ↦ λ q.
          ap (λ s. contains s q) (w.set-is ∙ c.in_ok-set.ensures.copy)
          ∙ all_kept (in_it q) (own q) (other q) c.args.asked c.args.other_asked w.if-asked.false w.if-other_asked.false
    ])
