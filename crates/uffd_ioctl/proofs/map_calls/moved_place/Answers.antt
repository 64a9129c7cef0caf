use Rattle.std.proofs.Common.{◌∙◌, ap, arith}
use Rattle.uffd_ioctl.specs.MapCalls.{host_of}
use Rattle.uffd_ioctl.proofs.MapCallLemmas.{mapped_in, good_target, fixed_move_full, fixed_move_room}
use Rattle.uffd_ioctl.proofs.map_calls.moved_place.Goals as goal

pub returns-then-from-new_count : goal.returns-then-from-new_count
returns-then-from-new_count c = λ bytes sound one may_move.
    fixed_move_full (host_of c.args.areas.now bytes) c.args.addr c.args.old_len c.args.new_len c.args.target c.mapped_in-replaced.result sound c.requires.whole c.requires.some one (good_target c.args.addr _ _ c.args.target c.requires.target) (c.mapped_in-replaced.ensures ∙ ap (mapped_in c.args.areas.now _) c.page_count-new_count.ensures) (omega (arith, c.page_count.ensures, c.page_count-new_count.ensures))

pub returns : goal.returns
returns c = λ bytes sound one may_move.
    fixed_move_room (host_of c.args.areas.now bytes) c.args.addr c.args.old_len c.args.new_len c.args.target c.mapped_in-replaced.result sound c.requires.whole c.requires.some one (good_target c.args.addr _ _ c.args.target c.requires.target) (c.mapped_in-replaced.ensures ∙ ap (mapped_in c.args.areas.now _) c.page_count-new_count.ensures) (omega (arith, c.page_count.ensures, c.page_count-new_count.ensures))
