use Rattle.std.proofs.Common.{◌∙◌, sym, arith, Some, None}
use Rattle.uffd_ioctl.specs.MapCalls.{host_of}
use Rattle.uffd_ioctl.proofs.MapCallLemmas.{remap_full, remap_room, stays_short, stays_grown, goes_elsewhere}
use Rattle.uffd_ioctl.proofs.map_calls.resized_place.Goals as goal
use Rattle.uffd_ioctl.proofs.map_calls.resized_place.Goals.{then-new_count-count-via-then-new_count-count, then-new_count-count-via-else-new_count-count+then-can_grow}

pub returns-then-from-new_count : goal.returns-then-from-new_count
returns-then-from-new_count c = λ bytes sound one.
    remap_full (host_of c.args.areas.now bytes) c.args.addr c.args.old_len c.args.new_len c.args.may_move sound c.requires.whole c.requires.some one (omega (arith, c.page_count-count.ensures, c.page_count-new_count.ensures))

pub returns-then-new_count-count : goal.returns-then-new_count-count
returns-then-new_count-count c = λ bytes sound one.
    elim c.then-new_count-count.branch [
      | then-new_count-count-via-then-new_count-count w ↦ stays_short (host_of c.args.areas.now bytes) c.args.addr c.args.old_len c.args.new_len c.args.may_move (omega (arith, w.if-new_count-count.true, c.page_count-count.ensures, c.page_count-new_count.ensures))
      | then-new_count-count-via-else-new_count-count+then-can_grow w ↦ stays_grown (host_of c.args.areas.now bytes) c.args.addr c.args.old_len c.args.new_len c.args.may_move (sym (w.can_grow.ensures bytes sound) ∙ w.if-can_grow.true)
    ]
    ∙ remap_room (host_of c.args.areas.now bytes) c.args.addr c.args.old_len c.args.new_len c.args.may_move sound c.requires.whole c.requires.some one (omega (arith, c.page_count-count.ensures, c.page_count-new_count.ensures))

pub returns-in-Some : goal.returns-in-Some
returns-in-Some c = λ bytes sound one.
    goes_elsewhere (host_of c.args.areas.now bytes) c.args.addr c.args.old_len c.args.new_len c.args.may_move c.page_count-new_count.result (Some c.in-Some.start) (omega (arith, c.page_count-count.ensures, c.page_count-new_count.ensures)) c.page_count-new_count.ensures c.if-not-may_move.false (c.if-can_grow.ensures bytes sound) c.in-Some.ensures
    ∙ remap_room (host_of c.args.areas.now bytes) c.args.addr c.args.old_len c.args.new_len c.args.may_move sound c.requires.whole c.requires.some one (omega (arith, c.page_count-count.ensures, c.page_count-new_count.ensures))

pub returns-in-None : goal.returns-in-None
returns-in-None c = λ bytes sound one.
    goes_elsewhere (host_of c.args.areas.now bytes) c.args.addr c.args.old_len c.args.new_len c.args.may_move c.page_count-new_count.result None (omega (arith, c.page_count-count.ensures, c.page_count-new_count.ensures)) c.page_count-new_count.ensures c.if-not-may_move.false (c.if-can_grow.ensures bytes sound) c.in-None.ensures
    ∙ remap_room (host_of c.args.areas.now bytes) c.args.addr c.args.old_len c.args.new_len c.args.may_move sound c.requires.whole c.requires.some one (omega (arith, c.page_count-count.ensures, c.page_count-new_count.ensures))
