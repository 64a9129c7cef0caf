-- Commands of the source's guest: the space after them, and their steps in a world.
use Rattle.std.proofs.Common.{◌≡◌, ℕ, ◌||◌, Bool, true, false, not, refl, ap, ◌∙◌}
use Rattle.mig_base.specs.Commands.{is_access}
use Rattle.mig_base.specs.declared.command.Command.{Command}
use Rattle.mig_base.specs.declared.phase.SourcePhase.{SourcePhase}
use Rattle.mig_base.specs.declared.schedule.Step.{Step}
use Rattle.mig_model.specs.Guest.{Guest, space_by, tried}
use Rattle.mig_model.specs.GuestSteps.{issue, retry}
use Rattle.mig_model.specs.Log.{Log}
use Rattle.mig_model.specs.Migration.{World, answer, guest_by, guest_tries}
use Rattle.mig_model.specs.Space.{IsSoundSpace, Space, access_of}
use Rattle.std.proofs.Math.Bool.{or-false}
use Rattle.uffd_ioctl.proofs.LentLemmas.{space_lent}
use Rattle.dirty_log.specs.Spaces.{AreProtected}
use Rattle.dirty_log.proofs.KeptLemmas.{access_kept, call_kept}
use Rattle.precopy.specs.Order.{AreSendable, IsInOrder}
use Rattle.precopy.proofs.TodoLemmas.{access_todo, call_todo}

space_kept : (access : Bool) (log : Log) (space : Space) (cpu : ℕ) (command : Command) → is_access command ≡ access → IsSoundSpace space → AreProtected log space → AreProtected log (space_by access space cpu command)
space_kept true log space cpu command is sound kept = access_kept (access_of space command) log space cpu command kept
space_kept false log space cpu command is sound kept = call_kept log space cpu command is sound kept

space_todo : (access : Bool) (log : Log) (space : Space) (cpu : ℕ) (command : Command) → is_access command ≡ access → IsSoundSpace space → AreSendable log space → AreSendable log (space_by access space cpu command)
space_todo true log space cpu command is sound kept = access_todo (access_of space command) log space cpu command is kept
space_todo false log space cpu command is sound kept = call_todo log space cpu command is sound kept

pub tried_order : (phase : SourcePhase) (switched : Bool) (guest : Guest) (space : Space) (log : Log) (cpu : ℕ) (command : Command) → IsSoundSpace guest.space → space ≡ (tried (is_access command) guest cpu command).space →
    IsInOrder phase switched guest.space log → IsInOrder phase switched space log
tried_order phase switched guest space log cpu command sound is old =
    record {
      lent = λ h. rw is (space_lent (is_access command) guest.space cpu command refl sound (old.lent h));
      clean = rw is (space_kept (is_access command) log guest.space cpu command refl sound old.clean);
      todo = rw is (space_todo (is_access command) log guest.space cpu command refl sound old.todo);
      stopped = old.stopped;
      released = old.released;
    }

-- the guest of a world is the source's while the destination has not run
pub issued_at : (world : World) (cpu : ℕ) (command : Command) → world.destination.has_run ≡ false → answer world (Step.Issue cpu command) ≡ guest_tries world (issue world.source.guest (not world.source.switched) cpu command)
issued_at world cpu command waits =
    ap (λ has_run. guest_tries world (issue (guest_by has_run world.source.guest world.destination.guest) (not world.source.switched || has_run) cpu command)) waits
    ∙ ap (λ runs. guest_tries world (issue world.source.guest runs cpu command)) (or-false (not world.source.switched))

pub retried_at : (world : World) (cpu : ℕ) → world.destination.has_run ≡ false → answer world (Step.Retry cpu) ≡ guest_tries world (retry world.source.guest (not world.source.switched) cpu)
retried_at world cpu waits =
    ap (λ has_run. guest_tries world (retry (guest_by has_run world.source.guest world.destination.guest) (not world.source.switched || has_run) cpu)) waits
    ∙ ap (λ runs. guest_tries world (retry world.source.guest runs cpu)) (or-false (not world.source.switched))
