-- A map call of a guest, while no MADV_DONTNEED is under way.
use Rattle.std.proofs.lemmas.Bool.Decides.{nat_tests}
use Rattle.std.proofs.lemmas.Bool.{false≢true}
use Rattle.std.proofs.Common.{[], ◌∷◌, ◌≡◌, ℕ, ◌≤◌, ◌+◌, ◌*◌, ◌/◌, ◌%◌, ◌^◌, Bool, true, false, not, eqb, leb, Some, List, length, map, arith, refl, sym, ap, subst, ◌∙◌, ltb, suc, ◌++◌}
use Rattle.mig_base.specs.declared.TheConstants.{HIGH, HIGH_PAGE}
use Rattle.mig_base.specs.declared.command.Command.{Command}
use Rattle.mig_base.specs.declared.command.Errno.{Errno}
use Rattle.mig_base.specs.declared.command.Reply.{Reply}
use Rattle.mig_base.specs.declared.message.Message.{Message}
use Rattle.mig_base.specs.Commands.{is_access, page_of}
use Rattle.mig_base.specs.Flat.{dontneed_reply, is_all_mapped, is_page_start}
use Rattle.foundation.specs.Ranges.{pages_of, rounded}
use Rattle.mig_base.specs.Userfault.{is_watched, Noted, changing, message_read, next_message}
use Rattle.mig_model.specs.Bounds.{IsMapping}
use Rattle.mig_model.specs.Host.{memory}
use Rattle.mig_model.specs.Ioctls.{has_events}
use Rattle.mig_model.specs.Space.{IsSoundSpace, called, message_if, Space, accessed}
use Rattle.uffd_log.specs.declared.call.Call.TheVariants as call
use Rattle.uffd_log.specs.declared.line.Answer.{Answer}
use Rattle.uffd_log.specs.declared.line.Answer.TheVariants.{Done}
use Rattle.kernel_rules.specs.MapCalls.{clearing, madvised}
use Rattle.kernel_rules.specs.Runs as runs
use Rattle.kernel_rules.specs.Runs.{effect_at_end, ends, is_still, takes}
use Rattle.kernel_rules.specs.State.{Kernel}
use Rattle.kernel_laws.specs.Agreement.{Counterparts, is_inside}
use Rattle.kernel_laws.specs.Logs.{is_followed, issue_written, map_call, map_written, under_way, Written, calls_written, noted_by, read_written, reply_written, unread_of}
use Rattle.kernel_laws.specs.Maps.{failed}
use Rattle.kernel_laws.proofs.Clearing.{Clears, by-dontneed, clears-space, done-clears, dropped_space, hole-clears}
use Rattle.kernel_laws.proofs.MapRuns.{command-writes, MayCall, message-logged, range-wakes}
use Rattle.kernel_laws.proofs.Moves.{begins-next, wrote-next, Kept, idle, makes, reads, seen-accessed, tries}
use Rattle.kernel_laws.proofs.OpenCalls.{MayWake, Pending, open_of, ArePaired, seen, still-below}
use Rattle.kernel_laws.proofs.QuietCalls.{ended_with, quietly-writes, dontneed-refused, sound-dropped}
use Rattle.kernel_laws.proofs.States.{Free, Next}
use Rattle.uffd_log.specs.declared.call.Descriptor.{Descriptor}
use Rattle.kernel_laws.proofs.Tellings.{Telling}
use Rattle.kernel_laws.proofs.LogRuns.{Writes, accessed-logged, stays}
use Rattle.std.specs.FinSet.{contains}
use Rattle.foundation.specs.Bits.{is_one}

-- the part of a log that it writes, by whether it has a REMOVE to tell
cleared-by-remove : {name home key : ℕ} {calls : List Pending} {one : Counterparts} (at : Free name home key (seen calls one.space) calls one) (cpu addr len : ℕ) (answer : Answer) (w : Bool) → is_watched one.space.object (addr / 4096) (pages_of len) ≡ w →
    MayCall calls one key → addr % 4096 ≡ 0 → addr + 4096 * pages_of len ≤ HIGH →
    is_still (ended_with addr len answer).out ≡ true → Some (ended_with addr len answer).out ≡ effect_at_end answer (ended_with addr len answer).out →
    ((kernel : Kernel) → madvised kernel key one.object.space addr len 4 answer ≡ Some (clearing kernel key one.object.space (addr / 4096) (pages_of len) false)) →
    IsSoundSpace (dropped_space one.space (addr / 4096) (pages_of len) addr (addr + 4096 * pages_of len) cpu w) →
    Next name home (under_way one.kernel (map open_of calls)) one
    (map_written one.object.space key (map open_of calls) (noted_by cpu (message_if w (Message.Remove addr (addr + 4096 * pages_of len)))) (message_if w (Message.Remove addr (addr + 4096 * pages_of len))) answer (call.Madvise addr len 4))
    (dropped_space (seen calls one.space) (addr / 4096) (pages_of len) addr (addr + 4096 * pages_of len) cpu w)
cleared-by-remove {key = key} {calls = calls} {one = one} at cpu addr len answer false watched may whole inside still out taken sound =
    wrote-next _ _ at (quietly-writes one key cpu addr len answer [] may watched whole still out taken sound)
cleared-by-remove {key = key} {calls = calls} {one = one} at cpu addr len answer true watched may whole inside still out taken sound =
    let first = addr / 4096 in
    let count = pages_of len in
    let wakes : MayWake addr (addr + 4096 * count) = range-wakes one.space first count addr (addr + 4096 * count) one.agree.sound may.mapping (high addr count whole inside) (starts-at addr whole) (stops-at addr count whole) watched in
    begins-next (record { key = key; home = one.object.space; addr = addr; len = len; cpu = cpu; answer = answer; whole = whole; wakes = wakes; still = still; ends = out; takes = taken }) at refl (sym at.there) watched may.enabled may.asked
  where
    starts-at : (addr : ℕ) → addr % 4096 ≡ 0 → addr ≡ addr / 4096 * 4096
    starts-at addr whole = omega (arith, whole)

    stops-at : (addr count : ℕ) → addr % 4096 ≡ 0 → addr + 4096 * count ≡ (addr / 4096 + count) * 4096
    stops-at addr count whole = omega (arith, whole)

    high : (addr count : ℕ) → addr % 4096 ≡ 0 → addr + 4096 * count ≤ HIGH → addr / 4096 + count ≤ HIGH_PAGE
    high addr count whole less = omega (arith, whole, less)

at-most : (a b : ℕ) → leb a b ≡ true → a ≤ b
at-most a b h = grind (arith, nat_tests, h)

-- what a command of the guest writes, and does to the space
abbrev pub NextIssued : (name home : ℕ) → (key : ℕ) → List Pending → Counterparts → (cpu : ℕ) → Command → Type 0
NextIssued name home key calls one cpu command =
    Next name home (under_way one.kernel (map open_of calls)) one (issue_written one.object.space key (map open_of calls) (seen calls one.space) cpu command (map_call command)) (called (seen calls one.space) cpu command)

dontneed-next : {name home key : ℕ} {calls : List Pending} {one : Counterparts} (at : Free name home key (seen calls one.space) calls one) (cpu addr len : ℕ) → MayCall calls one key → is_inside addr (rounded len) ≡ true → NextIssued name home key calls one cpu (Command.DontNeed addr len)
dontneed-next {name = name} {home = home} {key = key} {calls = calls} {one = one} at cpu addr len may inside =
    let there = memory one.space.host in
    by-dontneed (λ reply. dontneed_reply there addr len ≡ reply → NextIssued name home key calls one cpu command)
    (is_page_start addr) (eqb len 0) (leb (2 ^ 64) (addr + rounded len)) (not (is_all_mapped there addr (rounded len)))
    (λ is. wrote-next _ _ at (dontneed-refused one key cpu addr len may is))
    (λ is. by Reply.Done Done (done-clears one.space addr len is) (done-clears space addr len is) refl refl)
    (λ is. by (Reply.Refused Errno.Enomem) (failed Errno.Enomem) (hole-clears one.space addr len inside is) (hole-clears space addr len inside is) refl refl) refl
  where
    command : Command
    command = Command.DontNeed addr len

    space : Space
    space = seen calls one.space

    by : (reply : Reply) (answer : Answer) → Clears one.space addr len reply answer → Clears space addr len reply answer → is_still (ended_with addr len answer).out ≡ true → Some (ended_with addr len answer).out ≡ effect_at_end answer (ended_with addr len answer).out →
        NextIssued name home key calls one cpu command
    by reply answer own it still out =
        let stop = addr + 4096 * pages_of len in
        let w = is_watched one.space.object (addr / 4096) (pages_of len) in
        let messages = message_if w (Message.Remove addr stop) in
        let there = one.object.space in
        let written : map_written there key (map open_of calls) (noted_by cpu messages) messages answer (call.Madvise addr len 4) ≡ issue_written there key (map open_of calls) space cpu command (map_call command) =
        sym (ap (reply_written there key (map open_of calls) space.object cpu command (call.Madvise addr len 4)) it.is ∙ (λ i. map_written there key (map open_of calls) (noted_by cpu (it.says i)) (it.says i) (it.answers i) (call.Madvise addr len 4))) in
        subst (λ w. Next name home (under_way one.kernel (map open_of calls)) one w (called space cpu command)) written
        (subst (Next name home (under_way one.kernel (map open_of calls)) one _) (sym (clears-space it cpu))
        (cleared-by-remove at cpu addr len answer w refl may it.whole (at-most stop HIGH inside) still out (λ kernel. it.takes kernel key there) (sound-dropped one cpu addr len reply answer w own refl)))

-- Each map call

pub command-next : {name home key : ℕ} {calls : List Pending} {one : Counterparts} (at : Free name home key (seen calls one.space) calls one) (cpu : ℕ) (command : Command) → MayCall calls one key → is_access command ≡ false → is_followed command ≡ true → NextIssued name home key calls one cpu command
command-next at cpu (Command.Load addr width) may access followed = absurd (false≢true (sym access))
command-next at cpu (Command.Store addr width value) may access followed = absurd (false≢true (sym access))
command-next at cpu (Command.DontNeed addr len) may access followed = dontneed-next at cpu addr len may followed
command-next {key = key} {one = one} at cpu command may access followed = wrote-next _ _ at (command-writes one key cpu command may refl)

-- Map calls are under way, and no MADV_DONTNEED

-- an event of the first is unread
pub free-changing : {name home key : ℕ} {space : Space} {first : Pending} {calls : List Pending} {one : Counterparts} → Free name home key space (first ∷ calls) one → ltb 0 (changing space.object) ≡ true
free-changing {first = first} {calls = calls} at = sym (ap (λ (s : Space). ltb 0 (changing s.object)) at.same) ∙ more first.modelled (unread_of (map open_of calls)) first.unread at.below.2.paired where
  more : (modelled rest : List Noted) (unread : List Telling) → ArePaired modelled unread → ltb 0 (length (modelled ++ rest)) ≡ true
  more [] rest unread paired = absurd paired
  more (noted ∷ modelled) rest unread paired = some (length (modelled ++ rest)) where
    some : (n : ℕ) → ltb 0 (suc n) ≡ true
    some n = grind (arith, nat_tests)

-- what every step needs of the object
pub record IsReady (space : Space) : Type 0 where
  pub enabled : space.object.enabled ≡ true
  pub asked : has_events space.object ≡ true

pub free-kept : {name home key : ℕ} {space : Space} {calls : List Pending} {one : Counterparts} (at : Free name home key space calls one) (on : Descriptor) (written : Written) (new : Space) → on.object ≡ name → IsReady space →
    Kept on home key (map open_of calls) written space new → Next name home (under_way one.kernel (map open_of calls)) one written new
free-kept {name = name} {home = home} {key = key} {calls = calls} {one = one} at on written new own ready (idle is same) =
    subst (λ w. Next name home (under_way one.kernel (map open_of calls)) one w new) (sym is)
    (wrote-next (calls_written key (map open_of calls) []) new at
    (record { after = calls; middle = one.space; goes = stays one one.space refl at.told; same = at.same ∙ same; begun = refl; below = still-below key (key + 0) calls (omega (arith)) at.below }))
free-kept {name = name} {home = home} {key = key} {space = space} {calls = calls} {one = one} at on written new own ready (tries cpu command access off is same unnamed watched) =
    let page = page_of command in
    let enabled = ap (λ (s : Space). s.object.enabled) at.same ∙ ready.enabled in
    let goes =
    accessed-logged one cpu command access at.told enabled (ap (λ (s : Space). is_one s.object.features 8) at.same ∙ unnamed)
    (λ h. ap (λ (s : Space). contains s.object.missing page) at.same ∙ watched (sym (ap (λ (s : Space). contains s.object.protect page) at.same) ∙ h)) in
    subst (λ w. Next name home (under_way one.kernel (map open_of calls)) one w new) (sym is)
    (wrote-next (calls_written key (map open_of calls) []) new at
    (record {
      after = calls;
      middle = accessed one.space cpu command;
      goes = goes;
      same = seen-accessed calls one.space cpu command ∙ ap (λ s. accessed s cpu command) at.same ∙ sym same;
      begun = refl;
      below = still-below key (key + 0) calls (omega (arith)) at.below;
    }))
free-kept {name = name} {home = home} {key = key} {space = space} {calls = calls} {one = one} at on written new own ready (reads noted next is same) =
    let enabled = ap (λ (s : Space). s.object.enabled) at.same ∙ ready.enabled in
    subst (λ w. Next name home (under_way one.kernel (map open_of calls)) one w new) (sym is)
    (wrote-next (read_written on key (map open_of calls) (Some noted)) new at
    (subst (Writes calls one (read_written on key (map open_of calls) (Some noted))) (ap (λ (s : Space). record s { object = message_read s.object }) at.same ∙ sym same)
    (message-logged one key on noted one.space.object.faults (unread_of (map open_of calls)) at.below (own ∙ at.own) at.told enabled refl refl (ap (λ (s : Space). next_message s.object) at.same ∙ next))))
free-kept {name = name} {home = home} {key = key} {space = space} {calls = calls} {one = one} at on written new own ready (makes cpu command access followed off is same mapping) =
    let start = under_way one.kernel (map open_of calls) in
    let may : MayCall calls one key =
    record {
      below = at.below;
      told = at.told;
      enabled = ap (λ (s : Space). s.object.enabled) at.same ∙ ready.enabled;
      asked = ap (λ (s : Space). has_events s.object) at.same ∙ ready.asked;
      mapping = subst (λ (s : Space). IsMapping s.host.areas) (sym at.same) mapping;
    } in
    subst (λ w. Next name home start one w new) (sym is)
    (subst (Next name home start one _) (sym same)
    (subst (λ n. Next name home start one (issue_written n key (map open_of calls) space cpu command (map_call command)) (called space cpu command)) (sym at.there)
    (subst (λ s. Next name home start one (issue_written one.object.space key (map open_of calls) s cpu command (map_call command)) (called s cpu command)) at.same
    (command-next (record { same = refl; told = at.told; below = at.below; own = at.own; there = at.there }) cpu command may access followed))))
