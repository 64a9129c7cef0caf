use Rattle.std.proofs.Common.{◌∙◌, ap, sym, length}
use Rattle.mig_model.specs.Space.{all_queued}
use Rattle.userfault.specs.Modes.{opened}
use Rattle.uffd_ioctl.specs.Remaps.{modes_of, three_messages}
use Rattle.uffd_ioctl.proofs.MoveLemmas.{messages_are, taken_back, still_low, remap_done}
use Rattle.userfault.proofs.OpenLemmas.{is_opened}
use Rattle.uffd_ioctl.proofs.EventLemmas.{remap_unwatched, remap_untold}
use Rattle.uffd_ioctl.proofs.events.remapped.Goals as goal

pub returns-then-not-is_any_registered-clause-object : goal.returns-then-not-is_any_registered-clause-object
returns-then-not-is_any_registered-clause-object c =
    let from = sym c.is_any_registered-is_watched.ensures ∙ c.if-not-is_watched.true in
    let to = sym c.is_any_registered.ensures ∙ c.if-not-is_any_registered.true in
    remap_unwatched c.args.object.now c.args.range c.requires.range c.requires.low from to
    ∙ sym (ap (λ m. all_queued (modes_of c.args.object.now c.args.range) m c.args.cpu) (remap_untold c.args.object.now c.args.range from to))

pub returns-then-not-is_any_registered-clause-count : goal.returns-then-not-is_any_registered-clause-count
returns-then-not-is_any_registered-clause-count c =
    let from = sym c.is_any_registered-is_watched.ensures ∙ c.if-not-is_watched.true in
    let to = sym c.is_any_registered.ensures ∙ c.if-not-is_any_registered.true in
    sym (ap length (remap_untold c.args.object.now c.args.range from to))

pub returns-in_default-apply-clause-err : goal.returns-in_default-apply-clause-err
returns-in_default-apply-clause-err c =
    let closed = c.close_range.ensures c.queue_remap.new.object c.in-Ok.ensures.ok c.in-Ok.ensures.modes in (
      c.in_default-apply.ensures.err.0,
      c.in_default-apply.ensures.err.1,
      c.take_back_events-in_default-apply.ensures
          ∙ taken_back c.close_range.new.self c.args.object.now (three_messages c.args.object.now c.args.range) c.args.cpu c.in_ok-queued.queued (closed ∙ c.in_ok-queued.ensures.object) c.in_ok-queued.ensures.count,
    )

pub move_modes-requires-clause-open : goal.move_modes-requires-clause-open
move_modes-requires-clause-open c =
    is_opened c.open_range.new.self c.queue_remap.new.object _ _ (c.in-Ok.ensures.ok ∙ (λ i. opened c.queue_remap.new.object (c.room-room.ensures.first i) (c.room-room.ensures.count i)))

pub returns-clause-object : goal.returns-clause-object
returns-clause-object c =
    let told = c.in_ok-queued.ensures.object in
    let low = still_low c.args.object.now c.queue_remap.new.object (three_messages c.args.object.now c.args.range) c.args.cpu c.requires.low told in
    remap_done c.args.object.now c.queue_remap.new.object c.move_modes.new.object c.args.range c.args.cpu told
    (c.move_modes.ensures c.queue_remap.new.object low (c.in-Ok.ensures.ok ∙ (λ i. opened c.queue_remap.new.object (c.room-room.ensures.first i) (c.room-room.ensures.count i))))

pub returns-clause-count : goal.returns-clause-count
returns-clause-count c = c.in_ok-queued.ensures.count ∙ ap length (messages_are c.args.object.now c.args.range)
