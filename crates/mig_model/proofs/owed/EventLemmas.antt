-- The events of every map call: they change the owed relation as the call changes the pages, and each is of whole pages.
use Rattle.std.proofs.Common.{◌≡◌, ℕ, ◌+◌, ◌-◌, ◌*◌, ◌/◌, ◌%◌, ◌≤◌, ◌&&◌, Bool, true, false, not, eqb, ltb, Option, refl, ◌⊎◌, arith}
use Rattle.std.specs.FinSet.{contains}
use Rattle.std.proofs.lemmas.Bool.Decides.{nat_tests}
use Rattle.std.proofs.lemmas.Bool.{or_left}
use Rattle.mig_base.specs.declared.TheConstants.{HIGH}
use Rattle.mig_base.specs.declared.command.Errno.TheVariants.{Enomem}
use Rattle.mig_base.specs.declared.command.Command.{Command}
use Rattle.mig_base.specs.declared.command.Command.TheVariants.{Mmap, Munmap, Mremap, DontNeed}
use Rattle.mig_base.specs.declared.command.Reply.{Reply}
use Rattle.mig_base.specs.declared.command.Reply.TheVariants.{Done, At, Refused}
use Rattle.mig_base.specs.declared.message.Message.TheVariants.{Remap, Remove, Unmap}
use Rattle.foundation.specs.Ranges.{lesser, pages_of, rounded}
use Rattle.mig_base.specs.Flat.{reply_of}
use Rattle.mig_base.proofs.ReplyLemmas.{mremap_told, mmap_inside, munmap_whole, dontneed_done, dontneed_hole}
use Rattle.mig_model.specs.Host.{Host, memory, IsSound}
use Rattle.mig_model.specs.Space.{Space, IsSoundSpace, call_messages}
use Rattle.mig_base.specs.Userfault.{is_watched}
use Rattle.mig_model.proofs.memory.CommandLemmas.{remapped_place}
use Rattle.mig_model.proofs.owed.SeenLemmas.{AreMapped, AreWatched, watched_mapped}
use Rattle.mig_model.proofs.owed.SettledCalls.{AreInside, AllRight, settled_messages, right-append, right-told, gone, owed_changed, told_gone, unmap_right, remove_right}
use Rattle.mig_model.proofs.owed.CalledLemmas.{IsLaid, remapped_laid, settled_remapped}
use Rattle.mig_model.specs.Owed.{owed_after}
use Rattle.mig_model.proofs.memory.Facts.{lesser_right, whole_page}

inside_of : (space : Space) (owed : ℕ → Option ℕ) → AreWatched space owed → AreInside space.object owed
inside_of space owed watched page origin h = or_left (contains space.object.missing page) (contains space.object.protect page) (watched page origin h)

-- the owed relation

-- a range that reaches past the address space is cut at its end, after which nothing is owed
hole_right : (here : Host) (owed : ℕ → Option ℕ) (addr len page : ℕ) → IsSound here → AreMapped here owed → owed_after (Remove addr (lesser (addr + rounded len) HIGH)) owed page ≡ gone owed (addr / 4096) (pages_of len) page
hole_right here owed addr len page sound mapped = grind (arith, nat_tests)

pub settled_called : (space : Space) (owed : ℕ → Option ℕ) (command : Command) (reply : Reply) → IsSoundSpace space → AreWatched space owed → reply ≡ reply_of (memory space.host) command →
    settled_messages (call_messages space.object command reply) owed ≡ owed_changed owed command reply
settled_called space owed (Mmap len prot place) (At start) sound watched is =
    told_gone true (is_watched space.object (start / 4096) (pages_of len)) space.object owed (start / 4096) (pages_of len) (Unmap start (start + rounded len)) refl (inside_of space owed watched) (unmap_right owed start (pages_of len))
settled_called space owed (Munmap addr len) Done sound watched is =
    told_gone true (is_watched space.object (addr / 4096) (pages_of len)) space.object owed (addr / 4096) (pages_of len) (Unmap addr (addr + rounded len)) refl (inside_of space owed watched) (unmap_right owed addr (pages_of len))
settled_called space owed (Mremap addr old_len new_len may_move fixed) (At target) sound watched is =
    settled_remapped space.object space.host owed addr (pages_of old_len) target (pages_of new_len) (inside_of space owed watched) (watched_mapped space owed sound watched)
    (remapped_laid space.host addr old_len new_len target sound.host (mremap_told (memory space.host) addr old_len new_len may_move fixed target is))
settled_called space owed (DontNeed addr len) Done sound watched is =
    told_gone true (is_watched space.object (addr / 4096) (pages_of len)) space.object owed (addr / 4096) (pages_of len) (Remove addr (addr + rounded len)) refl (inside_of space owed watched) (remove_right owed addr (pages_of len))
settled_called space owed (DontNeed addr len) (Refused Enomem) sound watched is =
    told_gone true (is_watched space.object (addr / 4096) (pages_of len)) space.object owed (addr / 4096) (pages_of len) (Remove addr (lesser (addr + rounded len) HIGH)) refl (inside_of space owed watched)
    (λ page. hole_right space.host owed addr len page sound.host (watched_mapped space owed sound watched))
settled_called space owed _ _ sound watched is = refl

-- Whole pages

whole_end : (start len : ℕ) → start % 4096 ≡ 0 → (start + rounded len) % 4096 ≡ 0
whole_end start len h = omega arith

whole_lesser : (a b : ℕ) → a % 4096 ≡ 0 → b % 4096 ≡ 0 → lesser a b % 4096 ≡ 0
whole_lesser a b h g = grind (arith, nat_tests)

whole_times : (n : ℕ) → (4096 * n) % 4096 ≡ 0
whole_times n = omega arith

pub away_not : (b w : Bool) → (not b && w) ≡ true → b ≡ false
away_not b w h = grind (arith, nat_tests)

fewer_apart : (here : Host) (from count to new_count n : ℕ) → IsLaid here from count to new_count → eqb to from ≡ false → n ≡ lesser count new_count → (from + n ≤ to) ⊎ (to + n ≤ from)
fewer_apart here from count to new_count n h other is = grind (arith, nat_tests)

pub right_called : (space : Space) (command : Command) (reply : Reply) → IsSoundSpace space → reply ≡ reply_of (memory space.host) command → AllRight (call_messages space.object command reply)
right_called space (Mmap len prot place) (At start) sound is = grind (arith, nat_tests, mmap_inside, right-told, whole_end)
right_called space (Munmap addr len) Done sound is = grind (arith, nat_tests, munmap_whole, right-told, whole_end)
right_called space (DontNeed addr len) Done sound is = grind (arith, nat_tests, dontneed_done, right-told, whole_end)
right_called space (DontNeed addr len) (Refused Enomem) sound is = grind (arith, nat_tests, dontneed_hole, right-told, whole_lesser, whole_end)
right_called space (Mremap addr old_len new_len may_move fixed) (At target) sound is =
    let here = mremap_told (memory space.host) addr old_len new_len may_move fixed target is in
    let placed = remapped_place space.host addr old_len new_len target sound.host here in
    let laid = remapped_laid space.host addr old_len new_len target sound.host here in
    let from = addr / 4096 in
    let to = target / 4096 in
    let count = pages_of old_len in
    let new_count = pages_of new_len in
    let n = lesser count new_count in
    let whole = here.whole in
    let target_whole = placed.whole in
    let high = placed.high in
    let less = lesser_right count new_count in
    let moved_pages : (4096 * n) / 4096 ≡ n = omega arith in
    right-append _ _
    (right-append _ _
    (right-told (not (eqb to from) && is_watched space.object to new_count) (Unmap target (target + 4096 * new_count)) (λ b. (target_whole, whole_page target new_count target_whole)))
    (right-told (ltb new_count count && is_watched space.object (from + new_count) (count - new_count)) (Unmap (addr + 4096 * new_count) (addr + 4096 * count)) (λ b. (whole_page addr new_count whole, whole_page addr count whole))))
    (right-told (not (eqb to from) && is_watched space.object from n) (Remap addr target (4096 * n))
    (λ b. (
      whole,
      target_whole,
      whole_times n,
      omega (arith, high, less, moved_pages),
      fewer_apart space.host from count to new_count ((4096 * n) / 4096) laid (away_not (eqb to from) _ b) moved_pages,
    )))
right_called space _ _ sound is = tt
