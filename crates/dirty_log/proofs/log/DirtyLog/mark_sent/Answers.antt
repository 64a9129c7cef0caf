use Rattle.std.proofs.Common.{◌∙◌, ap}
use Rattle.mig_base.specs.Sets.{without}
use Rattle.dirty_log.proofs.RoundLemmas.{come_on, stay_on}
use Rattle.dirty_log.proofs.SentLemmas.{run_sent}
use Rattle.dirty_log.proofs.log.DirtyLog.mark_sent.Goals as goal
use Rattle.dirty_log.proofs.log.DirtyLog.mark_sent.Goals.{then-next_member-first, else-next_member-first}

pub invariant_of-self-2 : goal.invariant_of-self-2
invariant_of-self-2 c =
    let log = c.self.inside in
    let first = c.args.first in
    let count = c.args.count in
    let left = c.remove_range.new.self in
    let sent = run_sent c.args.space.now log.sent first count c.requires.lent c.is_in_order.ensures c.requires.sendable c.self.invariant.1 in
    elim c.if-next_member-first.branch [
      | then-next_member-first w ↦ (
        come_on log.todo left first count log.from c.next_member.result c.if-next_member-first.self-inside.from c.self.invariant.0 c.requires.inside c.next_member.ensures.before (c.remove_range.ensures ∙ ap (λ l. without l.todo first count) w.self-inside-is) w.if-next_member-first.true
            (ap (λ l. l.from) w.self-inside-is ∙ w.max-self-inside.ensures),
        rw (ap (λ l. l.sent) w.self-inside-is ∙ c.in_ok-insert_range_in_both.ensures.other) sent,
      )
      | else-next_member-first w ↦ (
        rw (ap (λ l. l.from) w.self-inside-is) (stay_on log.todo left first count log.from c.self.invariant.0 (c.remove_range.ensures ∙ ap (λ l. without l.todo first count) w.self-inside-is)),
        rw (ap (λ l. l.sent) w.self-inside-is ∙ c.in_ok-insert_range_in_both.ensures.other) sent,
      )
    ]
