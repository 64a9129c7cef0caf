-- How reading a message changes a log.
use Rattle.std.proofs.Common.{◌≡◌, ℕ, Option, None, refl, sym, ap, ◌∙◌}
use Rattle.std.specs.Ordering.{nat_cmp}
use Rattle.std.specs.FinSet.{FinSet}
use Rattle.mig_base.specs.declared.message.Message.{Message}
use Rattle.mig_base.specs.Userfault.{Noted, message_read}
use Rattle.mig_model.specs.Cpus.{Cpus}
use Rattle.mig_model.specs.Guest.{Guest, cpus_read, held_after, read_guest}
use Rattle.mig_model.specs.Ioctls.{left_by, read_error, read_space}
use Rattle.mig_model.specs.Log.{Log, log_read, unchanged}
use Rattle.mig_model.specs.Space.{Space}
use Rattle.uffd_ioctl.proofs.LentLemmas.{read_space as space_read}
use Rattle.dirty_log.specs.Spaces.{handler_read, source_of}

-- the message is held if it is a page fault, and then its pages are taken out
pub read_log : (log now : Log) (clean todo : FinSet nat_cmp) (peeked read message : Message) → peeked ≡ message → read ≡ message → now ≡ record log { held = held_after log.held peeked } → clean ≡ unchanged now.clean read → todo ≡ unchanged now.todo read →
    record { clean = clean; todo = todo; sent = now.sent; held = now.held } ≡ log_read log message
read_log log now clean todo peeked read message same also is out past = rw (out, past, is, same, also) refl

-- the source whose log, space and processors these are
pub read_whole : (old : Log) (guest : Guest) (noted : Noted) (log : Log) (space : Space) (cpus : Cpus) (message : Message) (cpu : ℕ) → log ≡ log_read old noted.message → read_error guest.space ≡ None → space ≡ read_space guest.space
    → message ≡ noted.message → cpu ≡ noted.cpu → cpus ≡ cpus_read guest.cpus cpu message → source_of log space cpus ≡ handler_read (source_of old guest.space guest.cpus) noted
read_whole old guest noted log space cpus message cpu logged fine is same also woken =
    let new = record guest.space { object = message_read guest.space.object } in
    let space_is : space ≡ (read_guest guest noted.cpu noted.message).space = is ∙ ap (λ error. left_by error guest.space new) fine ∙ sym (space_read guest noted.cpu noted.message) in
    let cpus_is : cpus ≡ cpus_read guest.cpus noted.cpu noted.message = woken ∙ (λ i. cpus_read guest.cpus (also i) (same i)) in
    λ i. source_of (logged i) (space_is i) (cpus_is i)
