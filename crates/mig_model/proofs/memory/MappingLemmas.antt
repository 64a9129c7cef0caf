-- The mapped pages of a host lie in the address space, and there are not too many.
use Rattle.std.proofs.lemmas.Bool.Decides.{nat_tests}
use Rattle.std.proofs.Common.{◌≡◌, ℕ, ◌*◌, ◌/◌, ◌<◌, ◌≤◌, Bool, true, false, Option, is_some, List, [], ◌∷◌, ◌++◌, sym, ap, ◌∙◌, arith}
use Rattle.std.specs.Ordering.{nat_cmp}
use Rattle.std.specs.FinMap.{contains_key, empty, get-empty, len-empty}
use Rattle.std.proofs.lemmas.Bool.{false≢true}
use Rattle.mig_base.specs.declared.TheConstants.{LOW, HIGH, MAX_PAGES}
use Rattle.mig_base.specs.declared.Prot.{Prot}
use Rattle.mig_base.specs.declared.command.Access.{Access}
use Rattle.mig_base.specs.declared.command.Command.{Command}
use Rattle.mig_base.specs.declared.command.Entry.{Entry}
use Rattle.foundation.specs.Ranges.{count_below}
use Rattle.mig_base.specs.Flat.{is_mapped, memory_of}
use Rattle.mig_base.proofs.BoundLemmas.{memory_of_bounded, high_or}
use Rattle.mig_model.specs.Host.{Host, IsSound, host_after, memory}
use Rattle.mig_model.specs.Space.{Space, access_of, accessed_by}
use Rattle.mig_model.specs.Guest.{Guest, space_by}
use Rattle.mig_model.specs.Migration.{World, guest_by, guest_of}
use Rattle.mig_model.specs.Whereabouts.{current_by, seen_host}
use Rattle.mig_model.specs.Invariant.{IsSoundWorld}
use Rattle.mig_model.specs.Destination.{settled}
use Rattle.mig_model.specs.Bounds.{IsMapping, IsPage, IsWithinBounds}
use Rattle.mig_model.proofs.memory.FlatLimits.{memory_of_few}
use Rattle.mig_model.proofs.memory.HostLemmas.{is_mapped-memory, mapped_count-memory}
use Rattle.mig_model.proofs.memory.EntryLemmas.{entry_of, holds_after, sound_after}

-- the flat memory of a transcript
pub flat_within : (entries : List Entry) → IsWithinBounds (memory_of entries)
flat_within entries = grind (arith, nat_tests, memory_of_bounded, high_or, memory_of_few)

page_inside : (page : ℕ) → LOW ≤ 4096 * page → 4096 * page < HIGH → IsPage page
page_inside page low high = (omega (arith, low), omega (arith, high))

count_inside : (pages mapped : ℕ) → mapped ≡ 4096 * pages → mapped ≤ 4096 * MAX_PAGES → pages ≤ MAX_PAGES
count_inside pages mapped is few = omega (arith, is, few)

-- a host on which the pages of a flat memory are mapped
pub IsMapping-flat : (host : Host) (entries : List Entry) → IsSound host → is_mapped (memory host) ≡ is_mapped (memory_of entries) → IsMapping host.areas
IsMapping-flat host entries sound same =
    let flat = flat_within entries in
    let at : (addr : ℕ) → is_mapped (memory_of entries) addr ≡ contains_key host.areas (addr / 4096) = λ addr. sym (ap (λ test. test addr) same) ∙ ap (λ test. test addr) (is_mapped-memory host) in
    record {
      pages = λ page h.
          let inside = flat.addresses (4096 * page) (at (4096 * page) ∙ ap (contains_key host.areas) (omega arith) ∙ h) in
          page_inside page inside.0 inside.1;
      few = count_inside _ (count_below (is_mapped (memory_of entries)) HIGH) (ap (λ test. count_below test HIGH) (sym same) ∙ mapped_count-memory host sound) flat.few;
    }

pub IsMapping-empty : IsMapping empty
IsMapping-empty =
    record {
      pages = λ page h. absurd (false≢true (sym (ap is_some (get-empty nat_cmp page)) ∙ h));
      few = let none = len-empty nat_cmp Prot in omega (arith, none);
    }

-- a host that holds the flat memory of a transcript, after one more command
pub IsMapping-after : (host : Host) (transcript : List Entry) (cpu : ℕ) (command : Command) → IsSound host → memory host ≡ memory_of transcript → IsMapping (host_after host command).areas
IsMapping-after host transcript cpu command sound holds = IsMapping-flat (host_after host command) (transcript ++ entry_of host cpu command ∷ []) (sound_after host command sound) (ap is_mapped (holds_after host transcript cpu command sound holds))

-- the node that runs the guest, or ran it last, has the pages of the flat memory
mapping_by : (ran : Bool) (from to : Guest) (owed : ℕ → Option ℕ) (entries : List Entry) → IsSound from.space.host → IsSound to.space.host → memory (current_by ran to.space.host from.space.host owed) ≡ memory_of entries →
    IsMapping (guest_by ran from to).space.host.areas
mapping_by true from to owed entries source destination holds =
    IsMapping-flat to.space.host entries destination (is_mapped-memory to.space.host ∙ sym (is_mapped-memory (seen_host to.space.host from.space.host owed)) ∙ ap is_mapped holds)
mapping_by false from to owed entries source destination holds = IsMapping-flat from.space.host entries source (ap is_mapped holds)

pub IsMapping-guest : (world : World) → IsSoundWorld world → IsMapping (guest_of world).space.host.areas
IsMapping-guest world kept =
    mapping_by world.destination.has_run world.source.guest world.destination.guest (settled world.destination) world.transcript kept.spaces.source_space.host kept.spaces.destination_space.host kept.memory.holds

-- A host that tries a command is as it was, or as the command leaves it

host_accessed : (P : Host → Type 0) (access : Access) (space : Space) (cpu : ℕ) (command : Command) → P space.host → P (host_after space.host command) → P (accessed_by access space cpu command).host
host_accessed P access space cpu command old new = grind (arith, nat_tests)

pub host_tried : (P : Host → Type 0) (access : Bool) (space : Space) (cpu : ℕ) (command : Command) → P space.host → P (host_after space.host command) → P (space_by access space cpu command).host
host_tried P true space cpu command old new = host_accessed P (access_of space command) space cpu command old new
host_tried P false space cpu command old new = new
