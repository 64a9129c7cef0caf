-- What holds of a log and its space while its clean pages are protected, as laws.
use Rattle.std.specs.Prelude.{◌≡◌, ℕ, true, false, Some, None, []}
use Rattle.std.specs.Ordering.{nat_cmp}
use Rattle.std.specs.FinSet.{FinSet, contains}
use Rattle.mig_base.specs.Commands.{is_access}
use Rattle.mig_base.specs.declared.command.Command.{Command}
use Rattle.mig_base.specs.Userfault.{Noted, next_message}
use Rattle.mig_model.specs.Cpus.{Cpus}
use Rattle.mig_model.specs.Guest.{is_present, read_guest}
use Rattle.mig_model.specs.Ioctls.{protected_in}
use Rattle.mig_model.specs.Log.{Log, log_read, log_run_sent, log_sent}
use Rattle.mig_model.specs.Source.{all_registered}
use Rattle.mig_model.specs.Space.{Space, accessed, called}
use Rattle.mig_model.specs.Whereabouts.{is_unread}
use Rattle.dirty_log.specs.Answers.{send_refusal}
use Rattle.dirty_log.specs.Spaces.{AreProtected}

-- each clean page is present and registered for write-protect faults, unless an unread event has changed it
pub record AreWatched (log : Log) (space : Space) : Type 0 where
  pub present : (page : ℕ) → contains log.clean page ≡ true → is_unread space.object.events page ≡ false → is_present space page ≡ true
  pub registered : (page : ℕ) → contains log.clean page ≡ true → is_unread space.object.events page ≡ false → contains space.object.protect page ≡ true

-- the clean pages are protected after each of these, in any space
pub record StayProtected (log : Log) (space : Space) : Type 0 where
  pub begin_round : (todo : FinSet nat_cmp) → AreProtected (record log { todo = todo }) space
  pub drop_held : AreProtected (record log { held = [] }) space
  pub read : (cpus : Cpus) (noted : Noted) → next_message space.object ≡ Some noted →
      AreProtected (log_read log noted.message) (read_guest (record { space = space; cpus = cpus }) noted.cpu noted.message).space
  pub access : (cpu : ℕ) (command : Command) → AreProtected log (accessed space cpu command)

-- and after each of these, in a space that is in order
pub record StayProtectedInOrder (log : Log) (space : Space) : Type 0 where
  pub register_new : AreProtected log (all_registered space)
  pub send : (page : ℕ) → send_refusal space page 1 ≡ None → AreProtected (log_sent log page) (protected_in space page 1 true)
  pub send_run : (first count : ℕ) → send_refusal space first count ≡ None → AreProtected (log_run_sent log first count) (protected_in space first count true)
  pub call : (cpu : ℕ) (command : Command) → is_access command ≡ false → AreProtected log (called space cpu command)
