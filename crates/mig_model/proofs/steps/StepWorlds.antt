-- The world after each step, by what the step has found.
use Rattle.std.proofs.Common.{ℕ, Bool, true, not, List, [], ◌∷◌, ◌++◌}
use Rattle.std.specs.Prelude.{nat_lt, length}
use Rattle.mig_base.specs.Commands.{is_access}
use Rattle.mig_base.specs.declared.command.Command.{Command}
use Rattle.mig_base.specs.declared.schedule.Side.{Side}
use Rattle.mig_model.specs.Cpus.{entries_of}
use Rattle.mig_model.specs.Destination.{Destination, act_frames, destination_act, destination_acted, destination_answers, destination_paused, destination_read, destination_took, install_by, urgent_took}
use Rattle.mig_model.specs.Guest.{Fault, took_by, tried}
use Rattle.mig_model.specs.Migration.{World, cut, guest_of, with_guest}
use Rattle.mig_model.specs.Owed.{home}
use Rattle.mig_model.specs.Source.{Source, bytes_of, end_sent, page_pushed, page_sent, request_served, resumed, round_made, run_of, run_sent, source_acted, source_answers, source_paused, source_read, source_started, source_took, switch_frames, switch_made, urgent_pushed}
use Rattle.mig_base.specs.Userfault.{Noted}
use Rattle.mig_model.specs.Wire.{Copy, Frame, Sent, page_frame, wire_behind, wire_if, wire_with}
use Rattle.mig_model.specs.Wire.Frame.{Advise, Run, End, Resume}

-- whether the guest has no such processor
abbrev pub has_no_cpu : World → ℕ → Bool
has_no_cpu world cpu = not (nat_lt cpu (length (guest_of world).cpus))

-- the world with this source, which has sent these frames to the destination in its epoch
abbrev pub forward_sent : World → Source → List Frame → World
forward_sent world node frames = record world { source = node; forward = wire_with world.forward node.epoch frames }

-- the world with this destination, which has sent these frames back in its epoch if the link is up
abbrev pub back_sent : World → Destination → List Frame → World
back_sent world node frames = record world { destination = node; back = wire_if world.up world.back node.epoch frames }

-- a processor has tried a command
abbrev pub after_command : World → ℕ → Command → World
after_command world cpu command =
    record (with_guest world (tried (is_access command) (guest_of world) cpu command)) {
      transcript = world.transcript ++ entries_of cpu command (took_by (is_access command) (guest_of world).space command);
    }

abbrev pub after_start : World → World
after_start world = forward_sent world (source_started world.source) (Advise ∷ [])

abbrev pub after_round : World → World
after_round world = record world { source = round_made world.source }

abbrev pub after_send : World → ℕ → World
after_send world page = forward_sent world (page_sent world.source page) (page_frame page (bytes_of world.source page) ∷ [])

abbrev pub after_run : World → ℕ → ℕ → World
after_run world first count = forward_sent world (run_sent world.source first count) (Run first (run_of world.source first count) ∷ [])

abbrev pub after_source_read : World → Noted → World
after_source_read world noted = record world { source = source_read world.source noted }

abbrev pub after_source_act : World → Fault → World
after_source_act world fault = record world { source = source_acted world.source fault }

abbrev pub after_switch : World → World
after_switch world = forward_sent world (switch_made world.source) (switch_frames world.source)

abbrev pub after_deliver : World → Sent → List Sent → World
after_deliver world sent rest =
    back_sent (record world { forward = wire_behind rest }) (destination_took world.destination sent.epoch sent.frame) (destination_answers world.destination sent.frame)

abbrev pub after_deliver_back : World → Sent → List Sent → World
after_deliver_back world sent rest = forward_sent (record world { back = wire_behind rest }) (source_took world.source sent.frame) (source_answers world.source sent.frame)

abbrev pub after_deliver_urgent : World → Sent → List Sent → World
after_deliver_urgent world sent rest = record world { destination = urgent_took world.destination sent.frame; urgent = wire_behind rest }

abbrev pub after_dest_read : World → Noted → World
after_dest_read world noted = record world { destination = destination_read world.destination noted }

abbrev pub after_dest_act : World → Fault → World
after_dest_act world fault = back_sent world (destination_acted world.destination fault) (act_frames (destination_act world.destination fault) world.destination)

abbrev pub after_install : World → Copy → List Copy → World
after_install world copy rest = record world { destination = install_by (home world.destination.owed copy.page) world.destination copy rest }

abbrev pub after_push : World → ℕ → World
after_push world page = forward_sent world (page_pushed world.source page) (page_frame page (bytes_of world.source page) ∷ [])

abbrev pub after_push_urgent : World → ℕ → World
after_push_urgent world page =
    record world {
      source = urgent_pushed world.source page;
      urgent = wire_with world.urgent world.source.epoch (page_frame page (bytes_of world.source page) ∷ []);
    }

abbrev pub after_serve : World → List ℕ → World
after_serve world pages = record world { source = request_served world.source pages }

abbrev pub after_end : World → World
after_end world = forward_sent world (end_sent world.source) (End world.source.urgent_sent ∷ [])

abbrev pub after_break : World → World
after_break world = cut world

abbrev pub after_notice : World → Side → World
after_notice world Side.Source = record world { source = source_paused world.source }
after_notice world Side.Destination = record world { destination = destination_paused world.destination }

abbrev pub after_resume : World → World
after_resume world = forward_sent (record world { up = true }) (resumed world.source) (Resume ∷ [])
