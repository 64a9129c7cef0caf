-- What a space keeps over each load, store and map call.
use Rattle.std.proofs.lemmas.Bool.Decides.{nat_tests}
use Rattle.std.proofs.Common.{◌≡◌, ℕ, ◌+◌, ◌-◌, ◌/◌, ◌||◌, Bool, true, false, cond, not, Some, None, List, refl, sym, ap, ◌∙◌, subst, arith, is_some}
use Rattle.std.specs.Ordering.{nat_cmp}
use Rattle.std.specs.FinMap.{FinMap, get, contains_key}
use Rattle.std.specs.FinSet.{FinSet, empty, contains, contains-empty}
use Rattle.mig_base.specs.declared.Prot.{Prot}
use Rattle.mig_base.specs.declared.command.Errno.TheVariants.{Enomem}
use Rattle.mig_base.specs.declared.command.Command.{Command}
use Rattle.mig_base.specs.declared.command.Command.TheVariants.{Load, Store, Mmap, Munmap, Mremap, DontNeed}
use Rattle.mig_base.specs.declared.command.Reply.{Reply}
use Rattle.mig_base.specs.declared.command.Reply.TheVariants.{Done, At, Refused}
use Rattle.mig_base.specs.declared.command.Access.{Access}
use Rattle.mig_base.specs.declared.command.Access.TheVariants.{Answered, Missing, Protected}
use Rattle.foundation.specs.Ranges.{in_range, pages_of, rounded}
use Rattle.mig_base.specs.Pages.{set_range, remove_range, moved_range}
use Rattle.mig_base.specs.Sets.{without, moved_set}
use Rattle.mig_base.specs.Flat.{reply_of}
use Rattle.mig_base.proofs.PageLemmas.{get-set_range, get-remove_range, get-moved_range}
use Rattle.mig_base.proofs.SetLemmas.{member_without, member_below}
use Rattle.mig_base.proofs.ReplyLemmas.{IsRemapped, mremap_told}
use Rattle.mig_model.specs.Host.{Host, memory, host_changed, IsSound}
use Rattle.mig_base.specs.Commands.{is_access}
use Rattle.mig_base.proofs.BoundLemmas.{one_prot_some}
use Rattle.foundation.specs.Modes.{Mode}
use Rattle.mig_base.specs.Userfault.{mode_at}
use Rattle.mig_model.specs.Space.{Space, fresh_space, IsSoundSpace, access_of, accessed_by, accessed, called, modes_after, protected_after, call_messages}
use Rattle.mig_model.proofs.memory.HostLemmas.{IsSound-empty, memory-none, get-put}
use Rattle.mig_model.proofs.memory.CommandLemmas.{IsSound-changed}
use Rattle.mig_model.proofs.memory.Facts.{none_absurd, queued_missing, queued_protect, some_either}

abbrev PageMap : Type 0 → Type 0
PageMap X = FinMap nat_cmp X

abbrev Set : Type 0
Set = FinSet nat_cmp

-- the parts of a space that its soundness is about, but for the host's own
record IsWatched (areas : PageMap Prot) (bytes : PageMap (List ℕ)) (missing protect protected : Set) : Type 0 where
  mapped : (page : ℕ) → (contains missing page || contains protect page) ≡ true → contains_key areas page ≡ true
  present : (page : ℕ) → contains protected page ≡ true → contains_key bytes page ≡ true
  watched : (page : ℕ) → contains protected page ≡ true → contains protect page ≡ true

watched_of : (space : Space) → IsSoundSpace space → IsWatched space.host.areas space.host.bytes space.object.missing space.object.protect space.protected
watched_of space sound = record { mapped = sound.mapped; present = sound.present; watched = sound.watched }

sound_of : (space : Space) → IsSound space.host → IsWatched space.host.areas space.host.bytes space.object.missing space.object.protect space.protected → IsSoundSpace space
sound_of space host parts = record { host = host; mapped = parts.mapped; present = parts.present; watched = parts.watched }

-- Ranges taken out

left_of : (s : Set) (first count page : ℕ) → contains (without s first count) page ≡ true → (in_range first count page ≡ false) × (contains s page ≡ true)
left_of s first count page h = grind (arith, nat_tests, member_without)

stays : {X : Type 0} (pages : PageMap X) (first count page : ℕ) → in_range first count page ≡ false → contains_key pages page ≡ true → contains_key (remove_range pages first count) page ≡ true
stays pages first count page out h = ap is_some (get-remove_range pages first count page ∙ ap (λ b. cond b None (get pages page)) out) ∙ h

-- what is registered or protected, without a range: only the other pages are looked at
taken_out : (areas new_areas : PageMap Prot) (bytes : PageMap (List ℕ)) (missing protect protected : Set) (first count : ℕ) → IsWatched areas bytes missing protect protected →
    ((page : ℕ) → in_range first count page ≡ false → contains_key areas page ≡ true → contains_key new_areas page ≡ true) →
    IsWatched new_areas (remove_range bytes first count) (without missing first count) (without protect first count) (without protected first count)
taken_out areas new_areas bytes missing protect protected first count old areas_stay = grind (arith, nat_tests, member_without, stays)

given : (areas : PageMap Prot) (first count page : ℕ) (prot : Prot) → in_range first count page ≡ false → contains_key areas page ≡ true → contains_key (set_range areas first count prot) page ≡ true
given areas first count page prot out h = ap is_some (get-set_range areas first count prot page ∙ ap (λ b. cond b (Some prot) (get areas page)) out) ∙ h

-- Pages made missing: what is registered stays
dropped : (areas : PageMap Prot) (bytes : PageMap (List ℕ)) (missing protect protected : Set) (first count : ℕ) → IsWatched areas bytes missing protect protected →
    IsWatched areas (remove_range bytes first count) missing protect (without protected first count)
dropped areas bytes missing protect protected first count old = grind (arith, nat_tests, left_of, stays)

-- Pages moved

moved_parts : (areas : PageMap Prot) (bytes : PageMap (List ℕ)) (missing protect protected : Set) (from count to new_count : ℕ) (mode : Mode) → contains_key areas from ≡ true → IsWatched areas bytes missing protect protected →
    IsWatched (moved_range areas from count to new_count (get areas from)) (moved_range bytes from count to new_count None) (moved_set missing from count to new_count mode.missing) (moved_set protect from count to new_count mode.protect) (moved_set protected from count to new_count false)
moved_parts areas bytes missing protect protected from count to new_count mode some old = grind (arith, nat_tests, get-moved_range, member_below)

-- Map calls

first_mapped : (space : Space) (addr old_len new_len target : ℕ) → IsRemapped (memory space.host) addr old_len new_len target → contains_key space.host.areas (addr / 4096) ≡ true
first_mapped space addr old_len new_len target told =
    let some = told.old_some in
    elim (get space.host.areas (addr / 4096)) as (λ o. get space.host.areas (addr / 4096) ≡ o → is_some o ≡ true) [
      | None ↦ λ e. absurd (one_prot_some (memory space.host) addr (rounded old_len) 0 told.one_prot (omega (arith, some)) (ap (memory space.host) (omega arith) ∙ memory-none space.host addr e))
      | Some prot ↦ λ e. refl
    ] refl

-- the parts after a map call that is answered so
parts_called : (space : Space) (command : Command) (reply : Reply) → is_access command ≡ false → reply ≡ reply_of (memory space.host) command → IsWatched space.host.areas space.host.bytes space.object.missing space.object.protect space.protected →
    IsWatched (host_changed space.host command reply).areas (host_changed space.host command reply).bytes (modes_after space.object command reply).missing (modes_after space.object command reply).protect (protected_after space.protected command reply)
parts_called space (Load addr width) reply call is old = none_absurd (sym call)
parts_called space (Store addr width value) reply call is old = none_absurd (sym call)
parts_called space (Mmap len prot place) (At start) call is old = grind (arith, nat_tests, taken_out, given)
parts_called space (Munmap addr len) Done call is old = grind (arith, nat_tests, taken_out, stays)
parts_called space (Mremap addr old_len new_len may_move fixed) (At target) call is old =
    moved_parts space.host.areas space.host.bytes space.object.missing space.object.protect space.protected (addr / 4096) (pages_of old_len) (target / 4096) (pages_of new_len) (mode_at space.object (addr / 4096 + (pages_of old_len - 1)))
    (first_mapped space addr old_len new_len target (mremap_told (memory space.host) addr old_len new_len may_move fixed target is)) old
parts_called space (DontNeed addr len) Done call is old = dropped space.host.areas space.host.bytes space.object.missing space.object.protect space.protected (addr / 4096) (pages_of len) old
parts_called space (DontNeed addr len) (Refused Enomem) call is old = dropped space.host.areas space.host.bytes space.object.missing space.object.protect space.protected (addr / 4096) (pages_of len) old
parts_called space _ _ call is old = old

pub IsSoundSpace-called : (space : Space) (cpu : ℕ) (command : Command) → is_access command ≡ false → IsSoundSpace space → IsSoundSpace (called space cpu command)
IsSoundSpace-called space cpu command call sound =
    let reply = reply_of (memory space.host) command in
    let new = called space cpu command in
    let parts = parts_called space command reply call refl (watched_of space sound) in
    let modes = modes_after space.object command reply in
    let messages = call_messages space.object command reply in
    sound_of new (IsSound-changed space.host command reply sound.host refl)
    (subst (λ s. IsWatched new.host.areas new.host.bytes s new.object.protect new.protected) (sym (queued_missing modes messages cpu))
    (subst (λ s. IsWatched new.host.areas new.host.bytes modes.missing s new.protected) (sym (queued_protect modes messages cpu)) parts))

-- Loads and stores

-- a load or store leaves the areas, and leaves present what is present
pub record Keeps (old new : Host) : Type 0 where
  areas : new.areas ≡ old.areas
  present : (page : ℕ) → contains_key old.bytes page ≡ true → contains_key new.bytes page ≡ true

accessed_host : (host : Host) (command : Command) (reply : Reply) → is_access command ≡ true → Keeps host (host_changed host command reply)
accessed_host host command reply access = grind (arith, nat_tests, get-put, some_either)

accessed_sound : (access : Access) (space : Space) (cpu : ℕ) (command : Command) → is_access command ≡ true → IsSoundSpace space → IsSoundSpace (accessed_by access space cpu command)
accessed_sound access space cpu command is sound = grind (arith, nat_tests, accessed_host, IsSound-changed)

pub IsSoundSpace-accessed : (space : Space) (cpu : ℕ) (command : Command) → is_access command ≡ true → IsSoundSpace space → IsSoundSpace (accessed space cpu command)
IsSoundSpace-accessed space cpu command is sound = accessed_sound (access_of space command) space cpu command is sound

pub no_member : (page : ℕ) → contains {R = nat_cmp} empty page ≡ false
no_member page = contains-empty nat_cmp page

pub IsSoundSpace-fresh : IsSoundSpace fresh_space
IsSoundSpace-fresh = grind (arith, nat_tests, IsSound-empty, no_member)

-- What an access answers

answered_reply : (made missing protect : Bool) (reply other : Reply) → cond (not made) (Answered reply) (cond missing Missing (cond protect Protected (Answered reply))) ≡ Answered other → other ≡ reply
answered_reply made missing protect reply other h = grind (arith, nat_tests)

pub access_reply : (space : Space) (command : Command) (reply : Reply) → access_of space command ≡ Answered reply → reply ≡ reply_of (memory space.host) command
access_reply space command reply h = answered_reply _ _ _ (reply_of (memory space.host) command) reply h
