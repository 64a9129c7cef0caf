-- Each call leaves a source in order.
use Rattle.std.proofs.Common.{◌≡◌, ℕ, Bool, true, false, Some, None, is_some, [], ◌∷◌, refl, ap}
use Rattle.std.specs.FinMap.{get-empty}
use Rattle.std.specs.Ordering.{nat_cmp}
use Rattle.std.specs.Prelude.{Ok}
use Rattle.foundation.specs.Bits.{is_one}
use Rattle.foundation.specs.Ranges.{none_below}
use Rattle.foundation.specs.Tests.{first_holding}
use Rattle.mig_base.specs.declared.command.Errno.TheVariants.{Einval}
use Rattle.std.proofs.lemmas.Bool.{false≢true}
use Rattle.mig_base.specs.declared.phase.SourcePhase.{SourcePhase}
use Rattle.mig_base.specs.Userfault.{Noted, next_message}
use Rattle.mig_model.specs.Space.{IsSoundSpace, Space, fresh_space}
use Rattle.mig_model.specs.Ioctls.{all_features, answered_by, handshake_answer, handshaken, has_events, has_unknown, is_feature, left_by, protected_in}
use Rattle.mig_model.specs.Log.{Log, dirty, empty_log, log_read, log_run_sent}
use Rattle.mig_model.specs.Guest.{Fault, Guest, read_guest}
use Rattle.mig_model.specs.Source.{Source, all_registered, enabled_space, source_act, source_acted, space_of}
use Rattle.uffd_ioctl.specs.Lent.{IsLent}
use Rattle.dirty_log.specs.Answers.{send_refusal}
use Rattle.dirty_log.proofs.KeptLemmas.{acted_kept, none_clean, read_kept, registered_kept, sent_kept}
use Rattle.precopy.specs.Order.{IsInOrder}
use Rattle.precopy.proofs.GuestLemmas.{dirty_present}
use Rattle.precopy.proofs.TodoLemmas.{acted_todo, none_todo, planned_todo, read_todo, registered_todo, sent_todo}

has_all_events : has_events enabled_space.object ≡ true
unfolding is_one
has_all_events = refl

enabled_lent : IsLent enabled_space
enabled_lent = record { enabled = refl; events = has_all_events; low = λ page h. ap is_some (get-empty nat_cmp page) }

-- the handshake for all features

all_known : has_unknown is_feature all_features ≡ false
unfolding is_one none_below
all_known = refl

pub shaken : handshaken fresh_space 170 all_features ≡ enabled_space
shaken = ap (λ unknown. left_by (first_holding ((false, Einval) ∷ (unknown, Einval) ∷ (false, Einval) ∷ [])) fresh_space enabled_space) all_known

pub handshake_ok : handshake_answer fresh_space 170 all_features ≡ Ok all_features
handshake_ok = ap (λ unknown. answered_by (first_holding ((false, Einval) ∷ (unknown, Einval) ∷ (false, Einval) ∷ [])) all_features) all_known

pub new_order : IsInOrder SourcePhase.Idle false enabled_space empty_log
new_order =
    record {
      lent = λ h. enabled_lent;
      clean = none_clean empty_log enabled_space refl;
      todo = none_todo empty_log enabled_space refl;
      stopped = λ h. absurd (false≢true h);
      released = λ h. absurd (false≢true h);
    }

-- a space in which all mapped pages are registered, where the source is in pre-copy from then on
pub registered_order : (phase : SourcePhase) (switched : Bool) (space new : Space) (log : Log) → IsSoundSpace space → new ≡ all_registered space → IsLent new → IsInOrder phase switched space log → IsInOrder SourcePhase.Precopy switched new log
registered_order phase switched space new log sound is lent old =
    record {
      lent = λ h. lent;
      clean = rw is (registered_kept log space sound old.clean);
      todo = rw is (registered_todo log space sound old.todo);
      stopped = λ h. absurd (false≢true h);
      released = λ h. absurd (false≢true h);
    }

-- a round has begun that has to send what is not clean
pub round_order : (phase : SourcePhase) (switched : Bool) (space new : Space) (log now : Log) → IsSoundSpace space → new ≡ all_registered space → IsLent new → now ≡ record log { todo = dirty space log } →
    IsInOrder phase switched space log → IsInOrder phase switched new now
round_order phase switched space new log now sound is lent planned old =
    record {
      lent = λ h. lent;
      clean = rw (is, planned) (registered_kept log space sound old.clean);
      todo = rw (is, planned) (planned_todo (record log { todo = dirty space log }) space sound (λ page h. dirty_present space log page h));
      stopped = old.stopped;
      released = old.released;
    }

-- pages were protected and sent
pub sent_order : (phase : SourcePhase) (switched : Bool) (space new : Space) (log now : Log) (first count : ℕ) → IsSoundSpace space → send_refusal space first count ≡ None → new ≡ protected_in space first count true → IsLent new →
    now ≡ log_run_sent log first count → IsInOrder phase switched space log → IsInOrder phase switched new now
sent_order phase switched space new log now first count sound accepted is lent sent old =
    record {
      lent = λ h. lent;
      clean = rw (is, sent) (sent_kept log space first count sound accepted old.clean);
      todo = rw (is, sent) (sent_todo log space first count old.todo);
      stopped = old.stopped;
      released = old.released;
    }

-- a message was read
pub read_order : (phase : SourcePhase) (switched : Bool) (guest : Guest) (space : Space) (log now : Log) (noted : Noted) → next_message guest.space.object ≡ Some noted → space ≡ (read_guest guest noted.cpu noted.message).space → IsLent space →
    now ≡ log_read log noted.message → IsInOrder phase switched guest.space log → IsInOrder phase switched space now
read_order phase switched guest space log now noted next is lent read old =
    record {
      lent = λ h. lent;
      clean = rw (is, read) (read_kept log guest noted next old.clean);
      todo = rw (is, read) (read_todo log guest noted next old.todo);
      stopped = old.stopped;
      released = old.released;
    }

-- a fault was resolved
pub acted_order : (phase : SourcePhase) (switched : Bool) (node : Source) (space : Space) (now : Log) (fault : Fault) → IsSoundSpace (space_of node) → space ≡ space_of (source_acted node fault) → IsLent space → now ≡ (source_acted node fault).log →
    IsInOrder phase switched (space_of node) node.log → IsInOrder phase switched space now
acted_order phase switched node space now fault sound is lent acted old =
    record {
      lent = λ h. lent;
      clean = rw (is, acted) (acted_kept (source_act node fault) node fault.page sound old.clean);
      todo = rw (is, acted) (acted_todo (source_act node fault) node fault.page old.todo);
      stopped = old.stopped;
      released = old.released;
    }
