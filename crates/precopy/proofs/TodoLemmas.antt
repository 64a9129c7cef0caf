-- Pages that are to be sent can be sent.
use Rattle.std.proofs.Common.{◌≡◌, ℕ, Bool, true, false, cond, not, ◌&&◌, Some, List, [], ◌∷◌, ◌++◌, is_some, refl, sym, ap, ◌∙◌, arith}
use Rattle.std.specs.FinSet.{contains}
use Rattle.std.proofs.lemmas.Bool.Decides.{nat_tests}
use Rattle.std.proofs.lemmas.Bool.{and_parts, and_from, or_parts, or_right, not-true}
use Rattle.mig_base.specs.Commands.{is_access}
use Rattle.mig_base.specs.declared.command.Access.{Access}
use Rattle.mig_base.specs.declared.command.Access.TheVariants.{Answered, Missing, Protected}
use Rattle.mig_base.specs.declared.command.Command.{Command}
use Rattle.mig_base.specs.Flat.{reply_of}
use Rattle.mig_base.proofs.SetLemmas.{member_without}
use Rattle.mig_model.specs.Host.{memory}
use Rattle.mig_base.specs.Userfault.{Noted, Object, next_message, read_by, waits_fault}
use Rattle.mig_model.specs.Space.{Space, IsSoundSpace, accessed_by, all_queued, call_messages, called, modes_after}
use Rattle.mig_base.specs.declared.act.Act.{Act}
use Rattle.mig_model.specs.Guest.{Guest, is_changed_by, is_present, read_guest, zero_installed}
use Rattle.mig_model.specs.Whereabouts.{is_unread}
use Rattle.mig_model.specs.Ioctls.{protected_in}
use Rattle.mig_model.specs.Log.{Log, log_read, log_run_sent, no_pages}
use Rattle.mig_model.specs.Source.{Source, all_registered, source_acted_by, space_of}
use Rattle.mig_model.proofs.memory.IoctlLemmas.{get-put_pages}
use Rattle.mig_model.proofs.memory.Facts.{modes_events, queued_protect}
use Rattle.mig_model.proofs.owed.SourceCalls.{untouched}
use Rattle.mig_model.proofs.invariant.SourceCommands.{present_after}
use Rattle.mig_model.proofs.invariant.SourceKept.{no_page_absurd}
use Rattle.mig_model.proofs.owed.SourceMessages.{events_queued, is_unread-append, noted_all, tells}
use Rattle.mig_model.proofs.invariant.SourceRounds.{mapped_registered, present_mapped}
use Rattle.dirty_log.specs.Spaces.{is_sendable}
use Rattle.uffd_ioctl.proofs.LentLemmas.{read_space}
use Rattle.dirty_log.proofs.KeptLemmas.{queued_by, was_unread}
use Rattle.dirty_log.proofs.PageLemmas.{member_kept}
use Rattle.precopy.specs.Order.{AreSendable}

pub none_todo : (log : Log) (space : Space) → log.todo ≡ no_pages → AreSendable log space
none_todo log space none page h u = no_page_absurd log.todo page none h

-- Registration, and a round

sendable_now : (space : Space) (page : ℕ) → IsSoundSpace space → is_present space page ≡ true → is_sendable (all_registered space) page ≡ true
sendable_now space page sound here = and_from (is_present space page) (contains (all_registered space).object.protect page) here (mapped_registered space page sound (present_mapped space page sound here))

pub registered_todo : (log : Log) (space : Space) → IsSoundSpace space → AreSendable log space → AreSendable log (all_registered space)
registered_todo log space sound kept page h u = sendable_now space page sound (and_parts (is_present space page) (contains space.object.protect page) (kept page h u)).0

pub planned_todo : (log : Log) (space : Space) → IsSoundSpace space → ((page : ℕ) → contains log.todo page ≡ true → is_present space page ≡ true) → AreSendable log (all_registered space)
planned_todo log space sound all page h u = sendable_now space page sound (all page h)

-- Sending

pub sent_todo : (log : Log) (space : Space) (first count : ℕ) → AreSendable log space → AreSendable (log_run_sent log first count) (protected_in space first count true)
sent_todo log space first count kept page h u = kept page (and_parts (contains log.todo page) _ (sym (member_without log.todo first count page) ∙ h)).0 u

-- Messages

read_protect : (faults : List Noted) (object : Object) → (read_by faults object).protect ≡ object.protect
read_protect [] object = refl
read_protect (noted ∷ faults) object = refl

pub read_todo : (log : Log) (guest : Guest) (noted : Noted) → next_message guest.space.object ≡ Some noted → AreSendable log guest.space → AreSendable (log_read log noted.message) (read_guest guest noted.cpu noted.message).space
read_todo log guest noted next kept page h u =
    let is = read_space guest noted.cpu noted.message in
    let parts = and_parts (contains log.todo page) (not (is_changed_by noted.message page)) (sym (member_kept log.todo (is_changed_by noted.message) page) ∙ h) in
    let unread = was_unread guest.space.object.faults guest.space.object noted page next (not-true _ parts.1) (sym (ap (λ s. is_unread s.object.events page) is) ∙ u) in
    ap (λ s. is_sendable s page) is ∙ ap (λ s. is_present guest.space page && contains s page) (read_protect guest.space.object.faults guest.space.object) ∙ kept page parts.0 unread

-- Faults

zeroed_sendable : (space : Space) (page q : ℕ) → is_sendable space q ≡ true → is_sendable (zero_installed space page) q ≡ true
zeroed_sendable space page q h = grind (arith, nat_tests, get-put_pages)

pub acted_todo : (act : Act) (node : Source) (page : ℕ) → AreSendable node.log (space_of node) → AreSendable (source_acted_by act node page).log (space_of (source_acted_by act node page))
acted_todo Act.Unprotected node page kept = kept
acted_todo Act.Zeroed node page kept = λ q h u. zeroed_sendable (space_of node) page q (kept q h u)
acted_todo Act.Woke node page kept = kept
acted_todo Act.Forgot node page kept = kept
acted_todo (Act.Requested origin) node page kept = kept

-- Commands of processors

same_protect : (waits : Bool) (object new : Object) → new.protect ≡ object.protect → (cond waits object new).protect ≡ object.protect
same_protect true object new h = refl
same_protect false object new h = h

pub access_todo : (access : Access) (log : Log) (space : Space) (cpu : ℕ) (command : Command) → is_access command ≡ true → AreSendable log space → AreSendable log (accessed_by access space cpu command)
access_todo (Answered reply) log space cpu command access kept = λ page h u.
    let parts = and_parts (is_present space page) (contains space.object.protect page) (kept page h u) in
    and_from _ (contains space.object.protect page) (present_after space.host command (reply_of (memory space.host) command) page access parts.0) parts.1
access_todo Missing log space cpu command access kept = λ page h u.
    ap (λ s. is_present space page && contains s page) (same_protect (waits_fault space.object.faults _ false) space.object _ refl)
    ∙ kept page h (ap (λ events. is_unread events page) (sym (queued_by (waits_fault space.object.faults _ false) space.object _ refl)) ∙ u)
access_todo Protected log space cpu command access kept = λ page h u.
    ap (λ s. is_present space page && contains s page) (same_protect (waits_fault space.object.faults _ true) space.object _ refl)
    ∙ kept page h (ap (λ events. is_unread events page) (sym (queued_by (waits_fault space.object.faults _ true) space.object _ refl)) ∙ u)

pub call_todo : (log : Log) (space : Space) (cpu : ℕ) (command : Command) → is_access command ≡ false → IsSoundSpace space → AreSendable log space → AreSendable log (called space cpu command)
call_todo log space cpu command call sound kept page h u =
    let reply = reply_of (memory space.host) command in
    let messages = call_messages space.object command reply in
    let modes = modes_after space.object command reply in
    let events : (all_queued modes messages cpu).events ≡ space.object.events ++ noted_all messages cpu = events_queued modes messages cpu ∙ ap (λ e. e ++ noted_all messages cpu) (modes_events space.object command reply) in
    let parts = or_parts (is_unread space.object.events page) (tells messages page) (sym (is_unread-append space.object.events messages cpu page) ∙ ap (λ e. is_unread e page) (sym events) ∙ u) in
    let was = and_parts (is_present space page) (contains space.object.protect page) (kept page h parts.0) in
    let stays = untouched space command reply page sound call refl (or_right (contains space.object.missing page) (contains space.object.protect page) was.1) parts.1 in
    and_from _ _ (ap is_some stays.bytes ∙ was.0) (ap (λ s. contains s page) (queued_protect modes messages cpu) ∙ stays.protect ∙ was.1)
