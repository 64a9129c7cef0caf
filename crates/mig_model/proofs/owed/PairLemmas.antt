-- After a map call each page that is still owed is registered and missing, and where no page was protected or registered for
-- write-protect faults, none is.
use Rattle.std.proofs.lemmas.Bool.Decides.{nat_tests}
use Rattle.std.proofs.Common.{◌≡◌, ℕ, ◌+◌, ◌-◌, ◌/◌, ◌≤◌, ◌&&◌, Bool, true, false, cond, not, ltb, Option, Some, None, refl, sym, ap, ◌∙◌, arith, is_some}
use Rattle.std.specs.Ordering.{nat_cmp}
use Rattle.std.specs.FinMap.{get, contains_key}
use Rattle.std.specs.FinSet.{FinSet, contains}
use Rattle.std.proofs.lemmas.Bool.{lt-ltb, and_left}
use Rattle.mig_base.specs.declared.TheConstants.{HIGH, HIGH_PAGE}
use Rattle.mig_base.specs.declared.command.Errno.TheVariants.{Enomem}
use Rattle.mig_base.specs.declared.command.Command.{Command}
use Rattle.mig_base.specs.declared.command.Command.TheVariants.{Load, Store, Mmap, Munmap, Mremap, DontNeed}
use Rattle.mig_base.specs.declared.command.Reply.{Reply}
use Rattle.mig_base.specs.declared.command.Reply.TheVariants.{Done, At, Refused}
use Rattle.foundation.specs.Ranges.{in_range, pages_of, rounded}
use Rattle.mig_base.specs.Pages.{remove_range}
use Rattle.mig_base.specs.Sets.{without, moved_set}
use Rattle.mig_base.specs.Flat.{reply_of}
use Rattle.mig_base.proofs.PageLemmas.{get-remove_range, get-moved_range}
use Rattle.mig_base.proofs.SetLemmas.{member_without, member_below}
use Rattle.mig_base.proofs.ReplyLemmas.{mremap_told}
use Rattle.mig_model.specs.Host.{Host, memory, host_changed, IsSound}
use Rattle.mig_base.specs.Commands.{is_access}
use Rattle.mig_base.specs.Userfault.{Object}
use Rattle.mig_model.specs.Guest.{is_present}
use Rattle.mig_model.specs.Space.{Space, IsSoundSpace, modes_after, protected_after}
use Rattle.mig_model.proofs.memory.CommandLemmas.{remapped_place}
use Rattle.mig_model.proofs.owed.SeenLemmas.{AreWatched, watched_mapped}
use Rattle.mig_model.specs.Promises.{owed_changed}
use Rattle.mig_model.proofs.memory.Facts.{none_absurd, in_range_first}

abbrev Set : Type 0
Set = FinSet nat_cmp

-- each owed page is registered for missing faults, and missing
abbrev pub ArePairs : Space → (ℕ → Option ℕ) → Type 0
ArePairs space owed = (page origin : ℕ) → owed page ≡ Some origin → (contains space.object.missing page ≡ true) × (is_present space page ≡ false)

pub pairs_watched : (space : Space) (owed : ℕ → Option ℕ) → ArePairs space owed → AreWatched space owed
pairs_watched space owed pairs page origin h = (pairs page origin h).0

-- one page of a range that moves
moved_pair : {X : Type 0} (low new old from m1 m2 mg : Bool) (x y : Option ℕ) (b1 b2 : Option X) (origin : ℕ) → (new ≡ true → low ≡ true) → (y ≡ Some origin → low ≡ true) →
    ((origin : ℕ) → x ≡ Some origin → (m1 ≡ true) × (is_some b1 ≡ false)) → ((origin : ℕ) → y ≡ Some origin → (m2 ≡ true) × (is_some b2 ≡ false)) →
    cond new (cond old x None) (cond from None y) ≡ Some origin → ((low && cond new (cond old m1 mg) (not from && m2)) ≡ true) × (is_some (cond new (cond old b1 None) (cond from None b2)) ≡ false)
moved_pair low new old from m1 m2 mg x y b1 b2 origin high below one two h = grind (arith, nat_tests)

mapped_below : (here : Host) (page : ℕ) → IsSound here → contains_key here.areas page ≡ true → ltb page HIGH_PAGE ≡ true
mapped_below here page sound h = grind (arith, nat_tests)

in_new : (to target new_len page : ℕ) → to ≡ target / 4096 → target + rounded new_len ≤ HIGH → in_range to (pages_of new_len) page ≡ true → ltb page HIGH_PAGE ≡ true
in_new to target new_len page is high h = let r = in_range_first to (pages_of new_len) page h in let a = r.1 in lt-ltb page HIGH_PAGE (omega (arith, is, high, a))

gone_pairs : (space : Space) (owed : ℕ → Option ℕ) (first count page origin : ℕ) → ArePairs space owed → cond (in_range first count page) None (owed page) ≡ Some origin →
    (contains (without space.object.missing first count) page ≡ true) × (contains space.object.missing page ≡ true) × (contains_key (remove_range space.host.bytes first count) page ≡ false)
gone_pairs space owed first count page origin pairs h = grind (arith, nat_tests, member_without, get-remove_range)

pub pairs_called : (space : Space) (owed : ℕ → Option ℕ) (command : Command) (reply : Reply) → is_access command ≡ false → IsSoundSpace space → reply ≡ reply_of (memory space.host) command → ArePairs space owed →
    (page origin : ℕ) → owed_changed owed command reply page ≡ Some origin → (contains (modes_after space.object command reply).missing page ≡ true) × (contains_key (host_changed space.host command reply).bytes page ≡ false)
pairs_called space owed (Load addr width) reply call sound is pairs page origin h = none_absurd (sym call)
pairs_called space owed (Store addr width value) reply call sound is pairs page origin h = none_absurd (sym call)
pairs_called space owed (Mmap len prot place) (At start) call sound is pairs page origin h = let both = gone_pairs space owed (start / 4096) (pages_of len) page origin pairs h in (both.0, both.2)
pairs_called space owed (Munmap addr len) Done call sound is pairs page origin h = let both = gone_pairs space owed (addr / 4096) (pages_of len) page origin pairs h in (both.0, both.2)
pairs_called space owed (DontNeed addr len) Done call sound is pairs page origin h = let both = gone_pairs space owed (addr / 4096) (pages_of len) page origin pairs h in (both.1, both.2)
pairs_called space owed (DontNeed addr len) (Refused Enomem) call sound is pairs page origin h = let both = gone_pairs space owed (addr / 4096) (pages_of len) page origin pairs h in (both.1, both.2)
pairs_called space owed (Mremap addr old_len new_len may_move fixed) (At target) call sound is pairs page origin h =
    let from = addr / 4096 in
    let to = target / 4096 in
    let count = pages_of old_len in
    let new_count = pages_of new_len in
    let growth = contains space.object.missing (addr / 4096 + (pages_of old_len - 1)) in
    let placed = remapped_place space.host addr old_len new_len target sound.host (mremap_told (memory space.host) addr old_len new_len may_move fixed target is) in
    let mapped = watched_mapped space owed sound (pairs_watched space owed pairs) in
    let both = moved_pair (ltb page HIGH_PAGE) (in_range to new_count page) (ltb (page - to) count) (in_range from count page) (contains space.object.missing (from + (page - to))) (contains space.object.missing page) growth
    (owed (from + (page - to))) (owed page) (get space.host.bytes (from + (page - to))) (get space.host.bytes page) origin
    (in_new to target new_len page refl placed.high) (λ g. mapped_below space.host page sound.host (mapped page origin g)) (pairs (from + (page - to))) (pairs page) h in
    (member_below _ HIGH_PAGE page ∙ both.0, ap is_some (get-moved_range space.host.bytes from count to new_count page None) ∙ both.1)
pairs_called space owed _ _ call sound is pairs page origin h = pairs page origin h

-- Sets in which no page is

abbrev pub HasNone : FinSet nat_cmp → Type 0
HasNone set = (page : ℕ) → contains set page ≡ false

none-without : (set : Set) (first count : ℕ) → HasNone set → HasNone (without set first count)
none-without set first count none page = member_without set first count page ∙ and_left (contains set page) (not (in_range first count page)) (none page)

none-moved : (set : Set) (from count to new_count : ℕ) (growth : Bool) → growth ≡ false → HasNone set → HasNone (moved_set set from count to new_count growth)
none-moved set from count to new_count growth never none page = grind (arith, nat_tests, member_below)

pub none_protected : (set : FinSet nat_cmp) (command : Command) (reply : Reply) → HasNone set → HasNone (protected_after set command reply)
none_protected set command reply none = grind (arith, nat_tests, none-without, none-moved)

pub none_in_mode : (object : Object) (command : Command) (reply : Reply) → HasNone object.protect → HasNone (modes_after object command reply).protect
none_in_mode object command reply none = grind (arith, nat_tests, none-without, none-moved)
