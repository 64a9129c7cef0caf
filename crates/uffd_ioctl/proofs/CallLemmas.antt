-- How the map calls change a space.
use Rattle.std.proofs.Common.{◌≡◌, ℕ, ◌+◌, ◌-◌, ◌*◌, ◌/◌, ◌%◌, ◌^◌, ◌<◌, ◌≤◌, ◌&&◌, Bool, true, false, cond, not, eqb, ltb, leb, Option, None, Result, Ok, Err, OnErr, List, length, refl, sym, ap, ◌∙◌, subst, ◌⊎◌, ⊎_elim, arith, min}
use Rattle.std.specs.Ordering.{nat_cmp}
use Rattle.std.specs.FinMap.{FinMap, get}
use Rattle.std.specs.FinSet.{FinSet, contains}
use Rattle.std.proofs.lemmas.Bool.Decides.{nat_tests}
use Rattle.std.proofs.lemmas.Bool.{false≢true, eqb-true, false_from_ne_true}
use Rattle.mig_base.specs.declared.TheConstants.{HIGH, HIGH_PAGE}
use Rattle.mig_base.specs.declared.Prot.{Prot}
use Rattle.mig_base.specs.declared.command.Errno.TheVariants.{Enomem, Einval}
use Rattle.mig_base.specs.declared.command.Place.{Place}
use Rattle.mig_base.specs.declared.command.Command.{Command}
use Rattle.mig_base.specs.declared.command.Command.TheVariants.{Mmap, Munmap, Mremap, DontNeed}
use Rattle.mig_base.specs.declared.command.Reply.{Reply}
use Rattle.mig_base.specs.declared.command.Reply.TheVariants.{Done, At, Refused}
use Rattle.mig_base.specs.declared.message.Message.{Message}
use Rattle.mig_base.specs.declared.message.Message.TheVariants.{Unmap, Remove}
use Rattle.foundation.specs.Ranges.{in_range, lesser, none_below, pages_of, rounded}
use Rattle.mig_base.specs.Pages.{set_range, remove_range, moved_range}
use Rattle.mig_base.specs.Sets.{without, moved_set}
use Rattle.mig_base.specs.Flat.{is_page_start, is_all_mapped, mmap_reply, mremap_reply, dontneed_reply, reply_of}
use Rattle.foundation.proofs.RangeLemmas.{none_below_tells, none_below-from}
use Rattle.mig_base.proofs.SetLemmas.{same_members, member_without}
use Rattle.mig_base.proofs.ReplyLemmas.{mmap_inside, mremap_told}
use Rattle.mig_model.specs.Host.{Host, memory, host_changed, host_dropped, IsSound}
use Rattle.mig_base.specs.Commands.{is_access}
use Rattle.foundation.proofs.TestLemmas.{at_or_below, positive, none_is_some}
use Rattle.mig_base.specs.Userfault.{Object, mode_at, is_registered, unregistered, moved_modes, is_watched}
use Rattle.mig_model.specs.Space.{Space, IsSoundSpace, message_if, remap_messages, call_messages, modes_after, protected_after, all_queued, called, queued_by}
use Rattle.mig_model.proofs.memory.CommandLemmas.{remapped_place}
use Rattle.mig_model.proofs.memory.SpaceLemmas.{IsSoundSpace-called}
use Rattle.page_table.specs.Views.{Pages}
use Rattle.uffd_ioctl.specs.Spaces.{machine_space}
use Rattle.uffd_ioctl.proofs.AnswerLemmas.{munmap_done}
use Rattle.uffd_ioctl.proofs.ChangeLemmas.{dropped_below}
use Rattle.uffd_ioctl.proofs.MapCallLemmas.{past_not_all}

abbrev PageMap : Type 0 → Type 0
PageMap X = FinMap nat_cmp X

abbrev Set : Type 0
Set = FinSet nat_cmp

-- Spaces

-- the space once a call is answered so
abbrev answered : Space → ℕ → Command → Reply → Space
answered space cpu command reply =
    record {
      host = host_changed space.host command reply;
      protected = protected_after space.protected command reply;
      object = all_queued (modes_after space.object command reply) (call_messages space.object command reply) cpu;
    }

answered_is : (space : Space) (cpu : ℕ) (command : Command) (reply : Reply) → reply ≡ reply_of (memory space.host) command → answered space cpu command reply ≡ called space cpu command
answered_is space cpu command reply h = ap (answered space cpu command) h

parts_are : (areas others : PageMap Prot) (pages : Pages) (bytes : PageMap (List ℕ)) (protected : Set) (object other : Object) → areas ≡ others → pages.bytes ≡ bytes → pages.protected ≡ protected → object ≡ other
    → machine_space areas pages object ≡ record { host = record { areas = others; bytes = bytes }; protected = protected; object = other }
parts_are areas others pages bytes protected object other is_areas is_bytes is_protected is_object =
    ap (λ a. record { host = record { areas = a; bytes = pages.bytes }; protected = pages.protected; object = object }) is_areas
    ∙ ap (λ b. record { host = record { areas = others; bytes = b }; protected = pages.protected; object = object }) is_bytes
    ∙ ap (λ p. record { host = record { areas = others; bytes = bytes }; protected = p; object = object }) is_protected
    ∙ ap (λ o. record { host = record { areas = others; bytes = bytes }; protected = protected; object = o }) is_object

pub sound_called : (new space : Space) (cpu : ℕ) (command : Command) → is_access command ≡ false → IsSoundSpace space → new ≡ called space cpu command → IsSoundSpace new
sound_called new space cpu command call sound is = subst IsSoundSpace (sym is) (IsSoundSpace-called space cpu command call sound)

-- past the address space no page is protected or registered
pub protected_below : (space : Space) → IsSoundSpace space → (page : ℕ) → HIGH_PAGE ≤ page → contains space.protected page ≡ false
protected_below space sound page past =
    false_from_ne_true (contains space.protected page) (λ h. none_is_some (get space.host.bytes page) (sound.host.mapped page (sound.host.bound page past)) (sound.present page h))

registered_below : (space : Space) → IsSoundSpace space → (page : ℕ) → HIGH_PAGE ≤ page → is_registered space.object page ≡ false
registered_below space sound page past =
    false_from_ne_true (is_registered space.object page) (λ h. none_is_some (get space.host.areas page) (sound.host.bound page past) (sound.mapped page h))

-- Pages mapped

pub space_made : (space : Space) (areas : PageMap Prot) (pages : Pages) (object : Object) (cpu bytes start count end : ℕ) (prot : Prot) (place : Place) → At start ≡ mmap_reply (memory space.host) bytes prot place → count ≡ pages_of bytes → end ≡ 4096 * (start / 4096 + count)
    → areas ≡ set_range space.host.areas (start / 4096) count prot → pages.bytes ≡ remove_range space.host.bytes (start / 4096) count → pages.protected ≡ without space.protected (start / 4096) count
    → object ≡ all_queued (unregistered space.object (start / 4096) count) (message_if (is_watched space.object (start / 4096) count) (Unmap start end)) cpu
    → machine_space areas pages object ≡ called space cpu (Mmap bytes prot place)
space_made space areas pages object cpu bytes start count end prot place reply size is_end is_areas is_bytes is_protected is_object =
    let whole = (mmap_inside (memory space.host) bytes prot place start reply).whole in
    let last : end ≡ start + rounded bytes = omega arith in
    parts_are areas _ pages _ _ object _
    (is_areas ∙ ap (λ n. set_range space.host.areas (start / 4096) n prot) size)
    (is_bytes ∙ ap (remove_range space.host.bytes (start / 4096)) size)
    (is_protected ∙ ap (without space.protected (start / 4096)) size)
    (is_object
    ∙ ap (λ n. all_queued (unregistered space.object (start / 4096) n) (message_if (is_watched space.object (start / 4096) n) (Unmap start end)) cpu) size
    ∙ ap (λ e. all_queued (unregistered space.object (start / 4096) (pages_of bytes)) (message_if (is_watched space.object (start / 4096) (pages_of bytes)) (Unmap start e)) cpu) last)
    ∙ answered_is space cpu (Mmap bytes prot place) (At start) reply

-- Pages unmapped

pub space_unmapped : (space : Space) (areas : PageMap Prot) (pages : Pages) (object : Object) (cpu addr bytes count end : ℕ) → addr % 4096 ≡ 0 → 0 < bytes → count ≡ pages_of bytes → addr / 4096 + count ≤ HIGH_PAGE → end ≡ 4096 * (addr / 4096 + count)
    → areas ≡ remove_range space.host.areas (addr / 4096) count → pages.bytes ≡ remove_range space.host.bytes (addr / 4096) count → pages.protected ≡ without space.protected (addr / 4096) count
    → object ≡ all_queued (unregistered space.object (addr / 4096) count) (message_if (is_watched space.object (addr / 4096) count) (Unmap addr end)) cpu
    → machine_space areas pages object ≡ called space cpu (Munmap addr bytes)
space_unmapped space areas pages object cpu addr bytes count end whole some size high is_end is_areas is_bytes is_protected is_object =
    let last : end ≡ addr + rounded bytes = omega arith in
    parts_are areas _ pages _ _ object _
    (is_areas ∙ ap (remove_range space.host.areas (addr / 4096)) size)
    (is_bytes ∙ ap (remove_range space.host.bytes (addr / 4096)) size)
    (is_protected ∙ ap (without space.protected (addr / 4096)) size)
    (is_object
    ∙ ap (λ n. all_queued (unregistered space.object (addr / 4096) n) (message_if (is_watched space.object (addr / 4096) n) (Unmap addr end)) cpu) size
    ∙ ap (λ e. all_queued (unregistered space.object (addr / 4096) (pages_of bytes)) (message_if (is_watched space.object (addr / 4096) (pages_of bytes)) (Unmap addr e)) cpu) last)
    ∙ answered_is space cpu (Munmap addr bytes) Done (munmap_done addr bytes whole some (omega arith))

-- A range at its new place

moved_told : (object : Object) (addr target from to count new_count pages new_pages : ℕ) → from ≡ addr → to ≡ target → count ≡ pages → new_count ≡ new_pages → remap_messages object from count to new_count ≡ remap_messages object addr pages target new_pages
moved_told object addr target from to count new_count pages new_pages is_from is_to size new_size =
    ap (λ a. remap_messages object a count to new_count) is_from
    ∙ ap (λ n. remap_messages object addr n to new_count) size
    ∙ ap (λ a. remap_messages object addr pages a new_count) is_to
    ∙ ap (remap_messages object addr pages target) new_size

-- a mremap that is answered tells of the range by its addresses
remap_told : (space : Space) (addr old_len new_len : ℕ) (may_move : Bool) (fixed : Option ℕ) (target count new_count : ℕ) → IsSound space.host → At target ≡ mremap_reply (memory space.host) addr old_len new_len may_move fixed → count ≡ pages_of old_len → new_count ≡ pages_of new_len
    → remap_messages space.object (4096 * (addr / 4096)) count (4096 * (target / 4096)) new_count ≡ remap_messages space.object addr (pages_of old_len) target (pages_of new_len)
remap_told space addr old_len new_len may_move fixed target count new_count sound reply size new_size =
    let tells = mremap_told (memory space.host) addr old_len new_len may_move fixed target reply in
    let whole = tells.whole in
    let even = (remapped_place space.host addr old_len new_len target sound tells).whole in
    moved_told space.object addr target (4096 * (addr / 4096)) (4096 * (target / 4096)) count new_count (pages_of old_len) (pages_of new_len) (omega arith) (omega arith) size new_size

pub queued_moved : (space value : Space) (addr old_len new_len : ℕ) (may_move : Bool) (fixed : Option ℕ) (target count new_count queued : ℕ) → space ≡ value → IsSoundSpace space → At target ≡ mremap_reply (memory space.host) addr old_len new_len may_move fixed → count ≡ pages_of old_len → new_count ≡ pages_of new_len
    → queued ≡ length (remap_messages space.object (4096 * (addr / 4096)) count (4096 * (target / 4096)) new_count) → queued ≡ queued_by value (Mremap addr old_len new_len may_move fixed)
queued_moved space value addr old_len new_len may_move fixed target count new_count queued view sound reply size new_size is =
    is
    ∙ ap length (remap_told space addr old_len new_len may_move fixed target count new_count sound.host reply size new_size)
    ∙ ap (λ r. length (call_messages space.object (Mremap addr old_len new_len may_move fixed) r)) reply
    ∙ ap (λ s. queued_by s (Mremap addr old_len new_len may_move fixed)) view

pub space_moved : (space : Space) (areas : PageMap Prot) (pages : Pages) (object : Object) (cpu addr old_len new_len : ℕ) (may_move : Bool) (fixed : Option ℕ) (target count new_count : ℕ) → IsSoundSpace space → At target ≡ mremap_reply (memory space.host) addr old_len new_len may_move fixed → count ≡ pages_of old_len → new_count ≡ pages_of new_len
    → areas ≡ moved_range space.host.areas (addr / 4096) count (target / 4096) new_count (get space.host.areas (addr / 4096)) → pages.bytes ≡ moved_range space.host.bytes (addr / 4096) count (target / 4096) new_count None → pages.protected ≡ moved_set space.protected (addr / 4096) count (target / 4096) new_count false
    → object ≡ all_queued (moved_modes space.object (addr / 4096) count (target / 4096) new_count (mode_at space.object (addr / 4096 + (count - 1)))) (remap_messages space.object (4096 * (addr / 4096)) count (4096 * (target / 4096)) new_count) cpu
    → machine_space areas pages object ≡ called space cpu (Mremap addr old_len new_len may_move fixed)
space_moved space areas pages object cpu addr old_len new_len may_move fixed target count new_count sound reply size new_size is_areas is_bytes is_protected is_object =
    let from = addr / 4096 in
    let to = target / 4096 in
    let prot = get space.host.areas from in
    let messages = remap_messages space.object (4096 * from) count (4096 * to) new_count in
    parts_are areas _ pages _ _ object _
    (is_areas ∙ ap (λ n. moved_range space.host.areas from n to new_count prot) size ∙ ap (λ n. moved_range space.host.areas from (pages_of old_len) to n prot) new_size)
    (is_bytes ∙ ap (λ n. moved_range space.host.bytes from n to new_count None) size ∙ ap (λ n. moved_range space.host.bytes from (pages_of old_len) to n None) new_size)
    (is_protected ∙ ap (λ n. moved_set space.protected from n to new_count false) size ∙ ap (λ n. moved_set space.protected from (pages_of old_len) to n false) new_size)
    (is_object
    ∙ ap (λ n. all_queued (moved_modes space.object from n to new_count (mode_at space.object (from + (n - 1)))) messages cpu) size
    ∙ ap (λ n. all_queued (moved_modes space.object from (pages_of old_len) to n (mode_at space.object (from + (pages_of old_len - 1)))) messages cpu) new_size
    ∙ ap (λ m. all_queued (moved_modes space.object from (pages_of old_len) to (pages_of new_len) (mode_at space.object (from + (pages_of old_len - 1)))) m cpu) (remap_told space addr old_len new_len may_move fixed target count new_count sound.host reply size new_size))
    ∙ answered_is space cpu (Mremap addr old_len new_len may_move fixed) (At target) reply

-- Pages that are not needed

pub same_bool_by : (a b : Bool) → (a ≡ true → b ≡ true) → (b ≡ true → a ≡ true) → a ≡ b
same_bool_by true b h k = sym (h refl)
same_bool_by false true h k = k refl
same_bool_by false false h k = refl

inside_or_past : (page : ℕ) → (page < HIGH_PAGE) ⊎ (HIGH_PAGE ≤ page)
inside_or_past page = grind (arith, nat_tests)

-- no page past the address space passes
clipped : (test : ℕ → Bool) (first count low end : ℕ) → ((page : ℕ) → HIGH_PAGE ≤ page → test page ≡ false) → low ≡ min first HIGH_PAGE → end ≡ min (first + count) HIGH_PAGE → none_below (λ i. test (low + i)) (end - low) ≡ none_below (λ i. test (first + i)) count
clipped test first count low end past is_low is_end =
    same_bool_by (none_below (λ i. test (low + i)) (end - low)) (none_below (λ i. test (first + i)) count)
    (λ none.
    none_below-from (λ i. test (first + i)) count (λ i l.
    ⊎_elim
    (λ (inside : first + i < HIGH_PAGE).
    let here : first + i ≡ low + i = omega arith in
    ap test here ∙ none_below_tells (λ i. test (low + i)) (end - low) i none (omega arith))
    (λ (out : HIGH_PAGE ≤ first + i). past (first + i) out)
    (inside_or_past (first + i))))
    (λ none.
    none_below-from (λ i. test (low + i)) (end - low) (λ i l.
    let here : low + i ≡ first + i = omega arith in
    ap test here ∙ none_below_tells (λ i. test (first + i)) count i none (omega arith)))

clipped_out : (first count low end q : ℕ) (has : Bool) → low ≡ min first HIGH_PAGE → end ≡ min (first + count) HIGH_PAGE → (HIGH_PAGE ≤ q → has ≡ false) → (has && not (in_range low (end - low) q)) ≡ (has && not (in_range first count q))
clipped_out first count low end q has is_low is_end past = grind (arith, nat_tests, past)

without_below : (set : Set) (first count low end : ℕ) → ((page : ℕ) → HIGH_PAGE ≤ page → contains set page ≡ false) → low ≡ min first HIGH_PAGE → end ≡ min (first + count) HIGH_PAGE → without set low (end - low) ≡ without set first count
without_below set first count low end past is_low is_end =
    same_members (without set low (end - low)) (without set first count) (λ q.
    member_without set low (end - low) q ∙ clipped_out first count low end q (contains set q) is_low is_end (past q) ∙ sym (member_without set first count q))

told_not : (due : Bool) (one other : Message) → due ≡ false → message_if due one ≡ message_if due other
told_not true one other h = absurd (false≢true (sym h))
told_not false one other h = refl

-- the reply to a call that is not invalid, with what it rests on
abbrev reply_by : Bool → Bool → Bool → Bool → Reply
reply_by start none past all = cond (not start) (Refused Einval) (cond none Done (cond past (Refused Einval) (cond (not all) (Refused Enomem) Done)))

dropped_told : (start none past all due : Bool) (addr last whole clip : ℕ) (reply : Reply) (messages : Reply → List Message) → (messages Done ≡ message_if due (Remove addr whole)) → (messages (Refused Enomem) ≡ message_if due (Remove addr clip)) → reply ≡ reply_by start none past all → (reply ≡ Refused Einval → ⊥)
    → (none ≡ true → due ≡ false) → (start ≡ true → none ≡ false → all ≡ true → last ≡ whole) → (start ≡ true → last ≡ clip) → message_if due (Remove addr last) ≡ messages reply
dropped_told false none past all due addr last whole clip reply messages done hole is other nothing up cut = absurd (other is)
dropped_told true true past all due addr last whole clip reply messages done hole is other nothing up cut = told_not due (Remove addr last) (Remove addr whole) (nothing refl) ∙ sym (ap messages is ∙ done)
dropped_told true false true all due addr last whole clip reply messages done hole is other nothing up cut = absurd (other is)
dropped_told true false false true due addr last whole clip reply messages done hole is other nothing up cut = ap (λ e. message_if due (Remove addr e)) (up refl refl refl) ∙ sym (ap messages is ∙ done)
dropped_told true false false false due addr last whole clip reply messages done hole is other nothing up cut = ap (λ e. message_if due (Remove addr e)) (cut refl) ∙ sym (ap messages is ∙ hole)

lesser_is : (a b : ℕ) → lesser a b ≡ min a b
lesser_is a b = grind (arith, nat_tests)

-- no page of no bytes is watched
none_watched : (object : Object) (first bytes : ℕ) → eqb bytes 0 ≡ true → is_watched object first (pages_of bytes) ≡ false
none_watched object first bytes h =
    let e = eqb-true bytes 0 h in
    let pages : pages_of bytes ≡ 0 = omega arith in
    ap (is_watched object first) pages ∙ ap not (none_below-from (λ i. is_registered object (first + i)) 0 (λ i l. absurd (omega arith)))

-- a range that is all mapped lies inside the address space
mapped_inside : (host : Host) (addr bytes : ℕ) → IsSound host → 0 < bytes → is_all_mapped (memory host) addr (rounded bytes) ≡ true → addr + rounded bytes ≤ HIGH
mapped_inside host addr bytes sound some all =
    ⊎_elim
    (λ (low : addr + rounded bytes ≤ HIGH). low)
    (λ (past : HIGH < addr + rounded bytes). absurd (false≢true (sym (past_not_all host addr bytes sound past some) ∙ all)))
    (at_or_below (addr + rounded bytes) HIGH)

drop_told : (space : Space) (addr bytes low end last : ℕ) (reply : Reply) → IsSoundSpace space → reply ≡ dontneed_reply (memory space.host) addr bytes → (reply ≡ Refused Einval → ⊥) → low ≡ min (addr / 4096) HIGH_PAGE → end ≡ min (addr / 4096 + pages_of bytes) HIGH_PAGE → last ≡ 4096 * end
    → message_if (is_watched space.object low (end - low)) (Remove addr last) ≡ call_messages space.object (DontNeed addr bytes) reply
drop_told space addr bytes low end last reply sound is other is_low is_end is_last =
    let first = addr / 4096 in
    let due = is_watched space.object first (pages_of bytes) in
    let all = is_all_mapped (memory space.host) addr (rounded bytes) in
    ap (λ b. message_if (not b) (Remove addr last)) (clipped (is_registered space.object) first (pages_of bytes) low end (registered_below space sound) is_low is_end)
    ∙ dropped_told (is_page_start addr) (eqb bytes 0) (leb (2 ^ 64) (addr + rounded bytes)) all due addr last (addr + rounded bytes) (lesser (addr + rounded bytes) HIGH) reply (call_messages space.object (DontNeed addr bytes)) refl refl is other
    (none_watched space.object first bytes)
    (λ start some mapped.
    let whole = eqb-true (addr % 4096) 0 start in
    let high = mapped_inside space.host addr bytes sound.host (positive bytes some) mapped in
    omega arith)
    (λ start.
    let whole = eqb-true (addr % 4096) 0 start in
    let least = lesser_is (addr + rounded bytes) HIGH in
    let clip : last ≡ min (addr + rounded bytes) HIGH = omega arith in
    clip ∙ sym least)

pub queued_dropped : (space value : Space) (addr bytes low end last queued : ℕ) (reply : Reply) → space ≡ value → IsSoundSpace space → reply ≡ dontneed_reply (memory space.host) addr bytes → (reply ≡ Refused Einval → ⊥) → low ≡ min (addr / 4096) HIGH_PAGE → end ≡ min (addr / 4096 + pages_of bytes) HIGH_PAGE → last ≡ 4096 * end
    → queued ≡ length (message_if (is_watched space.object low (end - low)) (Remove addr last)) → queued ≡ queued_by value (DontNeed addr bytes)
queued_dropped space value addr bytes low end last queued reply view sound is other is_low is_end is_last counted =
    counted
    ∙ ap length (drop_told space addr bytes low end last reply sound is other is_low is_end is_last)
    ∙ ap (λ r. length (call_messages space.object (DontNeed addr bytes) r)) is
    ∙ ap (λ s. queued_by s (DontNeed addr bytes)) view

-- a message that is due needs memory
pub needs_dropped : {A E : Type 0} (r : Result A E) (space value : Space) (addr bytes low end last : ℕ) (reply : Reply) → space ≡ value → IsSoundSpace space → reply ≡ dontneed_reply (memory space.host) addr bytes → (reply ≡ Refused Einval → ⊥)
    → low ≡ min (addr / 4096) HIGH_PAGE → end ≡ min (addr / 4096 + pages_of bytes) HIGH_PAGE → last ≡ 4096 * end → true ≡ is_watched space.object low (end - low) → OnErr r (ltb 0 (queued_by value (DontNeed addr bytes)) ≡ true)
needs_dropped (Ok a) space value addr bytes low end last reply view sound is other is_low is_end is_last due = tt
needs_dropped (Err e) space value addr bytes low end last reply view sound is other is_low is_end is_last due =
    sym (ap (ltb 0) (queued_dropped space value addr bytes low end last 1 reply view sound is other is_low is_end is_last (ap (λ b. length (message_if b (Remove addr last))) due)))

-- the space that a call leaves which is not invalid
abbrev left_by : Space → ℕ → ℕ → ℕ → Reply → Space
left_by space cpu addr bytes reply =
    record {
      host = host_dropped space.host (addr / 4096) (pages_of bytes);
      protected = without space.protected (addr / 4096) (pages_of bytes);
      object = all_queued space.object (call_messages space.object (DontNeed addr bytes) reply) cpu;
    }

by_reply : (space : Space) (cpu addr bytes : ℕ) (reply other : Reply) → reply ≡ other → left_by space cpu addr bytes other ≡ answered space cpu (DontNeed addr bytes) other → left_by space cpu addr bytes reply ≡ answered space cpu (DontNeed addr bytes) reply
by_reply space cpu addr bytes reply other e h = ap (left_by space cpu addr bytes) e ∙ h ∙ sym (ap (answered space cpu (DontNeed addr bytes)) e)

dropped_cases : (start none past all : Bool) (space : Space) (cpu addr bytes : ℕ) (reply : Reply) → reply ≡ reply_by start none past all → (reply ≡ Refused Einval → ⊥) → left_by space cpu addr bytes reply ≡ answered space cpu (DontNeed addr bytes) reply
dropped_cases false none past all space cpu addr bytes reply is other = absurd (other is)
dropped_cases true true past all space cpu addr bytes reply is other = by_reply space cpu addr bytes reply Done is refl
dropped_cases true false true all space cpu addr bytes reply is other = absurd (other is)
dropped_cases true false false true space cpu addr bytes reply is other = by_reply space cpu addr bytes reply Done is refl
dropped_cases true false false false space cpu addr bytes reply is other = by_reply space cpu addr bytes reply (Refused Enomem) is refl

pub space_dropped : (space : Space) (pages : Pages) (object : Object) (cpu addr bytes low end last : ℕ) (reply : Reply) → IsSoundSpace space → reply ≡ dontneed_reply (memory space.host) addr bytes → (reply ≡ Refused Einval → ⊥) → low ≡ min (addr / 4096) HIGH_PAGE → end ≡ min (addr / 4096 + pages_of bytes) HIGH_PAGE → last ≡ 4096 * end
    → pages.bytes ≡ remove_range space.host.bytes low (end - low) → pages.protected ≡ without space.protected low (end - low) → object ≡ all_queued space.object (message_if (is_watched space.object low (end - low)) (Remove addr last)) cpu
    → machine_space space.host.areas pages object ≡ called space cpu (DontNeed addr bytes)
space_dropped space pages object cpu addr bytes low end last reply sound is other is_low is_end is_last is_bytes is_protected is_object =
    parts_are space.host.areas space.host.areas pages _ _ object _ refl
    (is_bytes ∙ dropped_below space.host (addr / 4096) (pages_of bytes) low end sound.host is_low is_end)
    (is_protected ∙ without_below space.protected (addr / 4096) (pages_of bytes) low end (protected_below space sound) is_low is_end)
    (is_object ∙ ap (λ m. all_queued space.object m cpu) (drop_told space addr bytes low end last reply sound is other is_low is_end is_last))
    ∙ dropped_cases (is_page_start addr) (eqb bytes 0) (leb (2 ^ 64) (addr + rounded bytes)) (is_all_mapped (memory space.host) addr (rounded bytes)) space cpu addr bytes reply is other
    ∙ answered_is space cpu (DontNeed addr bytes) reply is
