-- Clean pages stay protected.
use Rattle.std.proofs.Common.{◌≡◌, ℕ, ◌+◌, ◌<◌, ◌≤◌, ◌⊎◌, inl, inr, Bool, true, false, cond, not, eqb, ltb, lt-ltb, Some, None, List, [], ◌∷◌, ◌++◌, refl, sym, ap, ◌∙◌, ⊎_elim, arith}
use Rattle.std.specs.FinSet.{contains, remove}
use Rattle.std.proofs.lemmas.Bool.{and_parts, or_parts, or_right, or_cases, or_left, not-true}
use Rattle.std.proofs.lemmas.Option.{same_Some}
use Rattle.mig_base.specs.Commands.{is_access}
use Rattle.mig_base.specs.declared.TheConstants.{HIGH_PAGE}
use Rattle.mig_base.specs.declared.command.Access.{Access}
use Rattle.mig_base.specs.declared.command.Access.TheVariants.{Answered, Missing, Protected}
use Rattle.mig_base.specs.declared.command.Command.{Command}
use Rattle.mig_base.specs.Flat.{reply_of}
use Rattle.foundation.specs.Ranges.{in_range}
use Rattle.foundation.proofs.RangeLemmas.{ranges}
use Rattle.mig_base.proofs.SetLemmas.{member_below, member_removed, member_with_range}
use Rattle.mig_model.specs.Host.{memory}
use Rattle.mig_base.specs.Userfault.{Noted, Object, first_noted, next_of, next_message, read_by, rest_noted, waits_fault}
use Rattle.mig_model.specs.Space.{Space, IsSoundSpace, accessed_by, all_queued, call_messages, called, modes_after}
use Rattle.mig_base.specs.declared.act.Act.{Act}
use Rattle.mig_model.specs.Guest.{Fault, Guest, is_changed_by, is_present, read_guest}
use Rattle.mig_model.specs.Whereabouts.{is_unread}
use Rattle.mig_model.specs.Ioctls.{protected_in}
use Rattle.mig_model.specs.Log.{Log, log_read, log_run_sent, no_pages}
use Rattle.mig_model.specs.Source.{Source, all_registered, source_acted_by, space_of}
use Rattle.mig_model.proofs.memory.Facts.{modes_events}
use Rattle.mig_model.proofs.owed.SourceCalls.{untouched}
use Rattle.mig_model.proofs.invariant.SourceKept.{no_page_absurd}
use Rattle.mig_model.proofs.owed.SourceMessages.{events_queued, is_unread-append, noted_all, tells}
use Rattle.mig_model.proofs.invariant.SourceRounds.{watched_below, present_mapped}
use Rattle.mig_model.proofs.invariant.SourceSending.{protected_now}
use Rattle.uffd_ioctl.proofs.LentLemmas.{read_space}
use Rattle.uffd_ioctl.proofs.LentPages.{below_high}
use Rattle.dirty_log.specs.Answers.{send_refusal}
use Rattle.dirty_log.specs.Spaces.{AreProtected}
use Rattle.dirty_log.proofs.PageLemmas.{member_kept}
use Rattle.dirty_log.proofs.SendLemmas.{page_there}

pub none_clean : (log : Log) (space : Space) → log.clean ≡ no_pages → AreProtected log space
none_clean log space none page h u = no_page_absurd log.clean page none h

pub registered_kept : (log : Log) (space : Space) → IsSoundSpace space → AreProtected log space → AreProtected log (all_registered space)
registered_kept log space sound kept page h u =
    let was = kept page h u in
    member_below _ HIGH_PAGE page ∙ rw (watched_below space page sound (sound.watched page was), was) refl

pub in_from : (first count page : ℕ) → in_range first count page ≡ true → first ≤ page
in_from first count page h = grind (arith, ranges)

pub in_to : (first count page : ℕ) → in_range first count page ≡ true → page < first + count
in_to first count page h = grind (arith, ranges)

pub sent_kept : (log : Log) (space : Space) (first count : ℕ) → IsSoundSpace space → send_refusal space first count ≡ None → AreProtected log space → AreProtected (log_run_sent log first count) (protected_in space first count true)
sent_kept log space first count sound told kept page h u =
    let here = in_range first count page in
    let old = contains space.protected page in
    let cases : (here ≡ true) ⊎ (old ≡ true) =
    ⊎_elim inl (λ (was : contains log.clean page ≡ true). inr (kept page was u)) (or_cases here (contains log.clean page) (sym (member_with_range log.clean first count page) ∙ h)) in
    let there : is_present space page ≡ true =
    ⊎_elim (λ (is : here ≡ true). page_there space first count page told (in_from first count page is) (in_to first count page is)) (λ (was : old ≡ true). sound.present page was) cases in
    member_below _ HIGH_PAGE page
    ∙ protected_now (ltb page HIGH_PAGE) here (is_present space page) old (lt-ltb page HIGH_PAGE (below_high space page sound (present_mapped space page sound there))) there
    (⊎_elim (λ (is : here ≡ true). or_left here old is) (λ (was : old ≡ true). or_right here old was) cases)

-- Messages

rest_unread : (events : List Noted) (noted : Noted) (page : ℕ) → first_noted events ≡ Some noted → is_changed_by noted.message page ≡ false → is_unread (rest_noted events) page ≡ false → is_unread events page ≡ false
rest_unread [] noted page first out u = refl
rest_unread (event ∷ rest) noted page first out u = rw (ap (λ n. is_changed_by n.message page) (same_Some event noted first) ∙ out) u

pub was_unread : (faults : List Noted) (object : Object) (noted : Noted) (page : ℕ) → next_of faults object.events ≡ Some noted → is_changed_by noted.message page ≡ false → is_unread (read_by faults object).events page ≡ false → is_unread object.events page ≡ false
was_unread [] object noted page next out u = rest_unread object.events noted page next out u
was_unread (fault ∷ faults) object noted page next out u = u

pub read_kept : (log : Log) (guest : Guest) (noted : Noted) → next_message guest.space.object ≡ Some noted → AreProtected log guest.space → AreProtected (log_read log noted.message) (read_guest guest noted.cpu noted.message).space
read_kept log guest noted next kept page h u =
    let is = read_space guest noted.cpu noted.message in
    let parts = and_parts (contains log.clean page) (not (is_changed_by noted.message page)) (sym (member_kept log.clean (is_changed_by noted.message) page) ∙ h) in
    let unread = was_unread guest.space.object.faults guest.space.object noted page next (not-true _ parts.1) (sym (ap (λ s. is_unread s.object.events page) is) ∙ u) in
    ap (λ s. contains s.protected page) is ∙ kept page parts.0 unread

-- Faults

other_page : (page q : ℕ) → not (eqb q page) ≡ true → in_range page 1 q ≡ false
other_page page q h = grind (arith, ranges)

written_kept : (log : Log) (space : Space) (page q : ℕ) → IsSoundSpace space → contains (remove log.clean page) q ≡ true → (contains log.clean q ≡ true → contains space.protected q ≡ true) → contains (protected_in space page 1 false).protected q ≡ true
written_kept log space page q sound h kept =
    let parts = and_parts (not (eqb q page)) (contains log.clean q) (sym (member_removed log.clean page q) ∙ h) in
    let was = kept parts.1 in
    member_below _ HIGH_PAGE q ∙ rw (watched_below space q sound (sound.watched q was), other_page page q parts.0, was) refl

pub acted_kept : (act : Act) (node : Source) (page : ℕ) → IsSoundSpace (space_of node) → AreProtected node.log (space_of node) → AreProtected (source_acted_by act node page).log (space_of (source_acted_by act node page))
acted_kept Act.Unprotected node page sound kept = λ q h u. written_kept node.log (space_of node) page q sound h (λ clean. kept q clean u)
acted_kept Act.Zeroed node page sound kept =
    λ q h u. member_below _ HIGH_PAGE q ∙ rw (watched_below (space_of node) q sound (sound.watched q (kept q h u)), kept q h u) refl
acted_kept Act.Woke node page sound kept = kept
acted_kept Act.Forgot node page sound kept = kept
acted_kept (Act.Requested origin) node page sound kept = kept

-- Commands of processors

pub queued_by : (waits : Bool) (object new : Object) → new.events ≡ object.events → (cond waits object new).events ≡ object.events
queued_by true object new h = refl
queued_by false object new h = h

pub access_kept : (access : Access) (log : Log) (space : Space) (cpu : ℕ) (command : Command) → AreProtected log space → AreProtected log (accessed_by access space cpu command)
access_kept (Answered reply) log space cpu command kept = kept
access_kept Missing log space cpu command kept = λ page h u. kept page h (ap (λ events. is_unread events page) (sym (queued_by (waits_fault space.object.faults _ false) space.object _ refl)) ∙ u)
access_kept Protected log space cpu command kept = λ page h u. kept page h (ap (λ events. is_unread events page) (sym (queued_by (waits_fault space.object.faults _ true) space.object _ refl)) ∙ u)

pub call_kept : (log : Log) (space : Space) (cpu : ℕ) (command : Command) → is_access command ≡ false → IsSoundSpace space → AreProtected log space → AreProtected log (called space cpu command)
call_kept log space cpu command call sound kept page h u =
    let reply = reply_of (memory space.host) command in
    let messages = call_messages space.object command reply in
    let modes = modes_after space.object command reply in
    let events : (all_queued modes messages cpu).events ≡ space.object.events ++ noted_all messages cpu = events_queued modes messages cpu ∙ ap (λ e. e ++ noted_all messages cpu) (modes_events space.object command reply) in
    let parts = or_parts (is_unread space.object.events page) (tells messages page) (sym (is_unread-append space.object.events messages cpu page) ∙ ap (λ e. is_unread e page) (sym events) ∙ u) in
    let was = kept page h parts.0 in
    (untouched space command reply page sound call refl (or_right (contains space.object.missing page) (contains space.object.protect page) (sound.watched page was)) parts.1).protected ∙ was
