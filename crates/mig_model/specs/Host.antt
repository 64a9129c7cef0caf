-- One host: its mapped and its present pages, the flat memory that they represent, and what a command does to them.
use Rattle.std.specs.Prelude.{◌≡◌, ℕ, ◌/◌, ◌%◌, ◌≤◌, List, Some, None, slice_index, length, refl}
use Rattle.std.specs.Option.{option_map}
use Rattle.std.specs.Ordering.{nat_cmp}
use Rattle.std.specs.FinMap as map
use Rattle.std.specs.FinMap.{FinMap, get, insert, empty}
use Rattle.std.specs.Coded.{Coded, code_by, coded×, coded_ℕ, coded_list}
use Rattle.foundation.specs.declared.TheConstants.{PAGE_SIZE}
use Rattle.mig_base.specs.declared.TheConstants.{HIGH_PAGE}
use Rattle.mig_base.specs.declared.Prot.{Prot}
use Rattle.mig_base.specs.declared.command.Command.{Command}
use Rattle.mig_base.specs.declared.command.Command.TheVariants.{Store, Mmap, Munmap, Mremap, DontNeed}
use Rattle.mig_base.specs.declared.command.Errno.TheVariants.{Enomem}
use Rattle.mig_base.specs.declared.command.Reply.{Reply}
use Rattle.mig_base.specs.declared.command.Reply.TheVariants.{Done, At, Refused}
use Rattle.mig_base.specs.Codes.{coded_prot}
use Rattle.foundation.specs.Ranges.{pages_of}
use Rattle.mig_base.specs.Pages.{set_range, remove_range, moved_range}
use Rattle.mig_base.specs.Bytes.{page_at, contents, overwrite, low_bytes}
use Rattle.mig_base.specs.Flat.{Memory, reply_of}

-- the mapped pages with their protections, and the present pages with their bytes
pub record Host : Type 0 where
  pub areas : FinMap nat_cmp Prot
  pub bytes : FinMap nat_cmp (List ℕ)

-- how a proof tells two hosts apart, for models that contain them: by the codes of their maps
abbrev pub coded_host : Coded Host
coded_host =
    code_by (FinMap nat_cmp Prot × FinMap nat_cmp (List ℕ)) (coded× (map.code coded_ℕ coded_prot) (map.code coded_ℕ (coded_list coded_ℕ)))
    (λ h. (h.areas, h.bytes)) (λ p. record { areas = p.0; bytes = p.1 }) (λ _. refl)

-- a host on which no page is mapped
abbrev pub bare_host : Host
bare_host = record { areas = empty; bytes = empty }

-- the byte at an address: 0 if its page is not present
abbrev pub byte_in : FinMap nat_cmp (List ℕ) → ℕ → ℕ
byte_in bytes addr = slice_index (page_at bytes (addr / PAGE_SIZE)) (addr % PAGE_SIZE)

-- the memory of a host: each address of a mapped page, with the page's byte and protection. A page that was never written
-- reads as zeros: MAP_ANONYMOUS of mmap(2)
unfoldable pub memory : Host → Memory
memory host = λ addr. option_map (λ prot. record { byte = byte_in host.bytes addr; prot = prot }) (get host.areas (addr / PAGE_SIZE))

-- the host once `count` pages have moved to a range of `new_count` pages: pages by which the range grows have the protection of the first
-- and are not present
abbrev pub host_moved : Host → ℕ → ℕ → ℕ → ℕ → Host
host_moved host from count to new_count =
    record { areas = moved_range host.areas from count to new_count (get host.areas from); bytes = moved_range host.bytes from count to new_count None }

-- the host once the pages of a range are missing
abbrev pub host_dropped : Host → ℕ → ℕ → Host
host_dropped host first count = record host { bytes = remove_range host.bytes first count }

-- the host after a command with this reply. A store makes its page present; new pages, and those that madvise(2) has made zeros, are not
-- present
abbrev pub host_changed : Host → Command → Reply → Host
host_changed host (Store addr width value) Done =
    record host { bytes = insert host.bytes (addr / PAGE_SIZE) (overwrite (contents host.bytes (addr / PAGE_SIZE)) (addr % PAGE_SIZE) (low_bytes value width)) }
host_changed host (Mmap len prot place) (At start) =
    record { areas = set_range host.areas (start / PAGE_SIZE) (pages_of len) prot; bytes = remove_range host.bytes (start / PAGE_SIZE) (pages_of len) }
host_changed host (Munmap addr len) Done =
    record { areas = remove_range host.areas (addr / PAGE_SIZE) (pages_of len); bytes = remove_range host.bytes (addr / PAGE_SIZE) (pages_of len) }
host_changed host (Mremap addr old_len new_len may_move fixed) (At target) = host_moved host (addr / PAGE_SIZE) (pages_of old_len) (target / PAGE_SIZE) (pages_of new_len)
host_changed host (DontNeed addr len) Done = host_dropped host (addr / PAGE_SIZE) (pages_of len)
host_changed host (DontNeed addr len) (Refused Enomem) = host_dropped host (addr / PAGE_SIZE) (pages_of len)
host_changed host _ _ = host

-- the host after a command, which has the reply of the flat memory
abbrev pub host_after : Host → Command → Host
host_after host command = host_changed host command (reply_of (memory host) command)

-- what every host keeps
pub record IsSound (host : Host) : Type 0 where
  -- no page past the address space is mapped
  pub bound : (page : ℕ) → HIGH_PAGE ≤ page → get host.areas page ≡ None
  -- each present page is mapped
  pub mapped : (page : ℕ) → get host.areas page ≡ None → get host.bytes page ≡ None
  -- each present page has its bytes
  pub whole : (page : ℕ) (bytes : List ℕ) → get host.bytes page ≡ Some bytes → length bytes ≡ PAGE_SIZE
