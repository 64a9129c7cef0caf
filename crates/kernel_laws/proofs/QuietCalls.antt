-- A map call of a guest that queues no message: it returns at once.
use Rattle.std.proofs.lemmas.Bool.{false≢true}
use Rattle.std.proofs.Common.{◌≡◌, ℕ, ◌+◌, ◌*◌, ◌/◌, ◌%◌, ◌^◌, Bool, true, false, not, eqb, leb, Option, Some, None, List, [], length, map, arith, refl, sym, ap, subst, ◌∙◌}
use Rattle.mig_base.specs.declared.command.Command.{Command}
use Rattle.mig_base.specs.declared.command.Errno.{Errno}
use Rattle.mig_base.specs.declared.command.Reply.{Reply}
use Rattle.mig_base.specs.declared.message.Message.{Message}
use Rattle.mig_base.specs.Commands.{is_access}
use Rattle.mig_base.specs.Flat.{dontneed_reply, is_all_mapped, is_page_start}
use Rattle.foundation.specs.Ranges.{pages_of, rounded}
use Rattle.mig_base.specs.Userfault.{is_registered, is_watched}
use Rattle.foundation.proofs.RangeLemmas.{in_range_bounds}
use Rattle.mig_model.specs.Host.{memory}
use Rattle.mig_model.specs.Space.{IsSoundSpace, Space, call_messages, called, message_if, queued_by}
use Rattle.mig_model.proofs.memory.SpaceLemmas.{IsSoundSpace-called}
use Rattle.uffd_log.specs.declared.call.Call.TheVariants as call
use Rattle.uffd_log.specs.declared.line.Answer.{Answer}
use Rattle.uffd_log.specs.declared.line.Answer.TheVariants.{Done}
use Rattle.kernel_rules.specs.declared.known.Page.{Page}
use Rattle.kernel_rules.specs.MapCalls.{cleared_in_part, clearing, madvised}
use Rattle.kernel_rules.specs.Pages.{is_present}
use Rattle.kernel_rules.specs.Runs.{effect_at_end, is_still, on_space}
use Rattle.kernel_rules.specs.State.{Kernel, page_is}
use Rattle.kernel_laws.specs.Agreement.{AgreesAt, Counterparts, is_inside}
use Rattle.kernel_laws.specs.Logs.{Ended, is_followed, issue_written, map_call, map_written, noted_by, reply_written}
use Rattle.kernel_laws.specs.Maps.{AreUnseen, failed}
use Rattle.kernel_laws.proofs.Clearing.{Clears, agree-perhaps, by-dontneed, cleared-by, clearing_by, clears-space, done-clears, dropped_space, hole-clears}
use Rattle.kernel_laws.proofs.DiscardRuns.{starts, stops}
use Rattle.kernel_laws.proofs.MapRuns.{at-once-goes, command-writes, map-call, Issued, MayCall, refused-writes}
use Rattle.kernel_laws.proofs.LogRuns.{Writes}
use Rattle.kernel_laws.proofs.OpenCalls.{Pending, apart, open_of, still-below, seen}
use Rattle.kernel_laws.proofs.Unmaps.{is-watched, remove-tells}

-- A refused MADV_DONTNEED

-- the call of a MADV_DONTNEED, with its answer
abbrev pub ended_with : (addr len : ℕ) → Answer → Ended
ended_with addr len answer = record { call = call.Madvise addr len 4; out = record { answer = answer; messages = []; runs = [] } }

pub dontneed-refused : {calls : List Pending} (one : Counterparts) (key cpu addr len : ℕ) → MayCall calls one key → dontneed_reply (memory one.space.host) addr len ≡ Reply.Refused Errno.Einval →
    Issued calls one key cpu (Command.DontNeed addr len) (map_call (Command.DontNeed addr len))
unfolding on_space
dontneed-refused one key cpu addr len may is =
    let after = cleared_in_part one.kernel one.object.space (addr / 4096) (pages_of len) 4 in
    refused-writes one key cpu (Command.DontNeed addr len) (call.Madvise addr len 4) Errno.Einval after may.below may.told refl refl (λ moves h. h)
    (agree-perhaps one.space one.kernel one.name one.object (addr / 4096) (pages_of len) one.agree) is refl refl

-- One that clears pages

-- a page that is not registered is not known
unseen : (space : Space) (name page : ℕ) (found : Option Page) → AgreesAt space name page found → (is_registered space.object page ≡ true → ⊥) → page_is (λ (one : Page). is_present one.presence) found ≡ false
unseen space name page None agrees bare = refl
unseen space name page (Some one) agrees bare = absurd (bare agrees.registered)

all-unseen : (one : Counterparts) (first count : ℕ) → is_watched one.space.object first count ≡ false → AreUnseen one first count
all-unseen one first count none page inside =
    let bounds = in_range_bounds first count page inside in
    unseen one.space one.name page (one.kernel.pages one.object.space page) (one.agree.pages page) (λ registered. false≢true (sym none ∙ is-watched one.space first count page bounds.0 bounds.1 registered))

-- it has no REMOVE to tell, and returns
pub quietly-writes : {calls : List Pending} (one : Counterparts) (key cpu addr len : ℕ) (answer : Answer) (told : List Message) → MayCall calls one key → is_watched one.space.object (addr / 4096) (pages_of len) ≡ false → addr % 4096 ≡ 0 →
    is_still (ended_with addr len answer).out ≡ true → Some (ended_with addr len answer).out ≡ effect_at_end answer (ended_with addr len answer).out →
    ((kernel : Kernel) → madvised kernel key one.object.space addr len 4 answer ≡ Some (clearing kernel key one.object.space (addr / 4096) (pages_of len) false)) →
    IsSoundSpace (dropped_space one.space (addr / 4096) (pages_of len) addr (addr + 4096 * pages_of len) cpu false) →
    Writes calls one (map_written one.object.space key (map open_of calls) [] told answer (call.Madvise addr len 4)) (dropped_space (seen calls one.space) (addr / 4096) (pages_of len) addr (addr + 4096 * pages_of len) cpu false)
unfolding on_space
quietly-writes {calls = calls} one key cpu addr len answer told may watched whole still out taken sound =
    let first = addr / 4096 in
    let count = pages_of len in
    let own = one.object.space in
    let made = map-call calls one key (apart key calls may.below) may.told may.enabled may.asked in
    let after = clearing_by one.kernel key own first count [] in
    let new = dropped_space one.space first count addr (addr + 4096 * count) cpu false in
    record {
      after = calls;
      middle = new;
      goes = at-once-goes one own key (ended_with addr len answer) after new may.below may.told (taken one.kernel ∙ ap (λ names. Some (clearing_by one.kernel key own first count names)) (remove-tells made first count false watched)) still out refl (λ moves h. h)
          (cleared-by made first count addr (addr + 4096 * count) cpu false watched (starts addr whole) (stops addr count whole) (all-unseen one first count watched) sound);
      same = refl;
      begun = refl;
      below = still-below key (key + 1) calls (omega (arith)) may.below;
    }

-- A map call that queues no message

quiet-message : (w : Bool) (start stop : ℕ) → length (message_if w (Message.Remove start stop)) ≡ 0 → w ≡ false
quiet-message true start stop none = absurd (cc)
quiet-message false start stop none = refl

-- the space after a MADV_DONTNEED, seen or not, is sound
pub sound-dropped : (one : Counterparts) (cpu addr len : ℕ) (reply : Reply) (answer : Answer) (w : Bool) → Clears one.space addr len reply answer → is_watched one.space.object (addr / 4096) (pages_of len) ≡ w →
    IsSoundSpace (dropped_space one.space (addr / 4096) (pages_of len) addr (addr + 4096 * pages_of len) cpu w)
sound-dropped one cpu addr len reply answer w it is =
    subst (λ b. IsSoundSpace (dropped_space one.space (addr / 4096) (pages_of len) addr (addr + 4096 * pages_of len) cpu b)) is (subst IsSoundSpace (clears-space it cpu) (IsSoundSpace-called one.space cpu (Command.DontNeed addr len) refl one.agree.sound))

dontneed-writes : {calls : List Pending} (one : Counterparts) (key cpu addr len : ℕ) → MayCall calls one key → is_inside addr (rounded len) ≡ true → queued_by one.space (Command.DontNeed addr len) ≡ 0 →
    Issued calls one key cpu (Command.DontNeed addr len) (map_call (Command.DontNeed addr len))
dontneed-writes {calls = calls} one key cpu addr len may inside quiet =
    let there = memory one.space.host in
    by-dontneed (λ reply. dontneed_reply there addr len ≡ reply → Issued calls one key cpu command (map_call command))
    (is_page_start addr) (eqb len 0) (leb (2 ^ 64) (addr + rounded len)) (not (is_all_mapped there addr (rounded len)))
    (λ is. dontneed-refused one key cpu addr len may is)
    (λ is. by Reply.Done Done (done-clears one.space addr len is) (done-clears (seen calls one.space) addr len is) refl refl)
    (λ is. by (Reply.Refused Errno.Enomem) (failed Errno.Enomem) (hole-clears one.space addr len inside is) (hole-clears (seen calls one.space) addr len inside is) refl refl) refl
  where
    command : Command
    command = Command.DontNeed addr len

    by : (reply : Reply) (answer : Answer) → Clears one.space addr len reply answer → Clears (seen calls one.space) addr len reply answer → is_still (ended_with addr len answer).out ≡ true → Some (ended_with addr len answer).out ≡ effect_at_end answer (ended_with addr len answer).out →
        Issued calls one key cpu command (map_call command)
    by reply answer own it still out =
        let stop = addr + 4096 * pages_of len in
        let space = seen calls one.space in
        let w = is_watched one.space.object (addr / 4096) (pages_of len) in
        let home = one.object.space in
        let count = sym (ap length own.says) ∙ sym (ap (λ r. length (call_messages one.space.object command r)) own.is) ∙ quiet in
        let none : w ≡ false = quiet-message w addr stop count in
        let new = clears-space it cpu ∙ ap (dropped_space space (addr / 4096) (pages_of len) addr stop cpu) none in
        let says = it.says ∙ ap (λ b. message_if b (Message.Remove addr stop)) none in
        let written : map_written home key (map open_of calls) [] [] answer (call.Madvise addr len 4) ≡ issue_written home key (map open_of calls) space cpu command (map_call command) =
        sym (ap (reply_written home key (map open_of calls) space.object cpu command (call.Madvise addr len 4)) it.is ∙ (λ i. map_written home key (map open_of calls) (noted_by cpu (says i)) (says i) (it.answers i) (call.Madvise addr len 4))) in
        subst (λ w. Writes calls one w (called space cpu command)) written
        (subst (Writes calls one _) (sym new) (quietly-writes one key cpu addr len answer [] may none it.whole still out (λ kernel. it.takes kernel key home) (sound-dropped one cpu addr len reply answer false own none)))

pub quiet-writes : {calls : List Pending} (one : Counterparts) (key cpu : ℕ) (command : Command) → MayCall calls one key → is_access command ≡ false → is_followed command ≡ true → queued_by one.space command ≡ 0 → Issued calls one key cpu command (map_call command)
quiet-writes one key cpu (Command.Load addr width) may access followed quiet = absurd (false≢true (sym access))
quiet-writes one key cpu (Command.Store addr width value) may access followed quiet = absurd (false≢true (sym access))
quiet-writes one key cpu (Command.DontNeed addr len) may access followed quiet = dontneed-writes one key cpu addr len may followed quiet
quiet-writes one key cpu command may access followed quiet = command-writes one key cpu command may refl
