-- One flat memory: what it answers to the commands of the processors, and what they do to it. The map calls are those of mmap(2),
-- munmap(2), mremap(2) and madvise(2) for anonymous private mappings; where several errors apply, the order is this project's.
-- Sums of addresses and lengths are whole numbers, which never wrap.
use Rattle.std.specs.Prelude.{◌≡◌, ℕ, zero, suc, ◌+◌, ◌-◌, ◌*◌, ◌/◌, ◌%◌, ◌^◌, ◌==◌, ◌&&◌, ◌||◌, Bool, true, false, not, nat_lt, nat_le, if◌then◌else◌, Option, Some, None, is_some, List, [], ◌∷◌, ◌++◌}
use Rattle.foundation.specs.declared.TheConstants.{PAGE_SIZE}
use Rattle.mig_base.specs.declared.TheConstants.{LOW, HIGH, MAX_PAGES}
use Rattle.mig_base.specs.declared.Prot.{Prot}
use Rattle.mig_base.specs.declared.Prot.TheVariants.{NoAccess, Read, ReadWrite}
use Rattle.mig_base.specs.declared.command.Errno.{Errno}
use Rattle.mig_base.specs.declared.command.Errno.TheVariants.{Eperm, Enomem, Efault, Eexist, Einval}
use Rattle.mig_base.specs.declared.command.Place.{Place}
use Rattle.mig_base.specs.declared.command.Place.TheVariants.{Anywhere, Fixed, NoReplace}
use Rattle.mig_base.specs.declared.command.Command.{Command}
use Rattle.mig_base.specs.declared.command.Command.TheVariants.{Load, Store, Mmap, Munmap, Mremap, DontNeed}
use Rattle.mig_base.specs.declared.command.Reply.{Reply}
use Rattle.mig_base.specs.declared.command.Reply.TheVariants.{Value, Done, At, Segv, BadAccess, Refused}
use Rattle.mig_base.specs.declared.command.Entry.{Entry}
use Rattle.mig_base.specs.Codes.{prot_number}
use Rattle.foundation.specs.Tests.{first_by}
use Rattle.foundation.specs.Ranges.{in_range, count_below, none_below, rounded}
use Rattle.mig_base.specs.FreePlaces.{free_place}

-- a byte with its protection: `prot` of mmap(2), DESCRIPTION
pub record Cell : Type 0 where
  pub byte : ℕ
  pub prot : Prot

-- what each address holds, if it is mapped
abbrev pub Memory : Type 0
Memory = ℕ → Option Cell

-- nothing is mapped
abbrev pub no_memory : Memory
no_memory = λ _. None

-- whether an address is mapped
abbrev pub is_mapped : Memory → ℕ → Bool
is_mapped memory addr = is_some (memory addr)

-- how many addresses are mapped
abbrev pub mapped_count : Memory → ℕ
mapped_count memory = count_below (is_mapped memory) HIGH

-- the memory with one cell at each address of the range
abbrev pub fill : Memory → ℕ → ℕ → Cell → Memory
fill memory start len cell = λ addr. if in_range start len addr then Some cell else memory addr

-- the memory without the range
abbrev pub clear : Memory → ℕ → ℕ → Memory
clear memory start len = λ addr. if in_range start len addr then None else memory addr

-- Accesses

-- the widths of a load or store, in bytes
abbrev pub is_width : ℕ → Bool
is_width width = width == 1 || width == 2 || width == 4 || width == 8

-- whether an access of that width, in bytes, is aligned at the address: it then lies in one page
abbrev pub is_aligned : ℕ → ℕ → Bool
is_aligned addr width = is_width width && addr % width == 0

-- PROT_READ permits loads: mmap(2), DESCRIPTION
abbrev pub allows_load : Prot → Bool
allows_load NoAccess = false
allows_load Read = true
allows_load ReadWrite = true

-- PROT_WRITE permits stores: mmap(2), DESCRIPTION
abbrev pub allows_store : Prot → Bool
allows_store NoAccess = false
allows_store Read = false
allows_store ReadWrite = true

-- the byte of a cell, 0 where nothing is mapped
abbrev pub byte_of : Option Cell → ℕ
byte_of None = 0
byte_of (Some cell) = cell.byte

-- the little-endian number of `width` bytes
abbrev pub number_at : Memory → ℕ → ℕ → ℕ
number_at memory addr zero = 0
number_at memory addr (suc width) = byte_of (memory addr) + 256 * number_at memory (addr + 1) width

-- a cell with another byte
abbrev pub written : Option Cell → ℕ → Option Cell
written None byte = None
written (Some cell) byte = Some (record cell { byte = byte })

-- the memory with the `width` bytes of a number stored from an address on, as far as they are mapped
abbrev pub write : Memory → ℕ → ℕ → ℕ → Memory
write memory addr width value =
    λ at. if in_range addr width at then written (memory at) (value / 256 ^ (at - addr) % 256) else memory at

-- the answer to an access of the right form, by the cell at its first address: an access to a page that is not mapped, or whose
-- protection forbids it, is a segmentation fault (mmap(2), ERRORS, SIGSEGV; SEGV_MAPERR and SEGV_ACCERR of sigaction(2))
abbrev pub access_reply : Option Cell → (Prot → Bool) → Reply → Reply
access_reply None allows answer = Segv false
access_reply (Some cell) allows answer = if allows cell.prot then answer else Segv true

-- Replies and changes

-- the first of the refusals that applies, else the answer
abbrev pub first_refusal : List (Bool × Errno) → Reply → Reply
first_refusal refusals answer = first_by (λ errno. Refused errno) refusals answer

-- the reply for a place: ENOMEM if there is none
abbrev pub at_place : Option ℕ → Reply
at_place None = Refused Enomem
at_place (Some start) = At start

-- whether an address is the first of a page
abbrev pub is_page_start : ℕ → Bool
is_page_start addr = addr % PAGE_SIZE == 0

-- zeros with a protection: MAP_ANONYMOUS of mmap(2)
abbrev pub zeros_with : Prot → Cell
zeros_with prot = record { byte = 0; prot = prot }

-- whether no address of the range is mapped
abbrev pub is_unmapped : Memory → ℕ → ℕ → Bool
is_unmapped memory start len = none_below (λ i. is_mapped memory (start + i)) len

-- whether each address of the range is mapped
abbrev pub is_all_mapped : Memory → ℕ → ℕ → Bool
is_all_mapped memory start len = none_below (λ i. not (is_mapped memory (start + i))) len

-- whether more pages are mapped than may be
abbrev pub exceeds_limit : Memory → Bool
exceeds_limit memory = nat_lt (PAGE_SIZE * MAX_PAGES) (mapped_count memory)

-- why a place that is asked for is refused, with a rounded length: it is not a multiple of the page size (mmap(2), MAP_FIXED), it is
-- longer than the address space, it begins below the least address that may be mapped (mmap(2), DESCRIPTION, of
-- /proc/sys/vm/mmap_min_addr; the kernel answers EPERM), or it ends past the address space
abbrev pub place_refusals : ℕ → ℕ → List (Bool × Errno)
place_refusals addr size =
    (not (is_page_start addr), Einval) ∷ (nat_lt (HIGH - LOW) size, Enomem) ∷ (nat_lt addr LOW, Eperm) ∷ (nat_lt HIGH (addr + size), Enomem) ∷ []

-- mmap(2), ERRORS: EINVAL for a length of 0, ENOMEM if the range has no room or the limit of pages would be exceeded; EEXIST
-- for MAP_FIXED_NOREPLACE over a mapping
abbrev pub mmap_reply : Memory → ℕ → Prot → Place → Reply
mmap_reply memory len prot Anywhere =
    first_refusal ((len == 0, Einval) ∷ (nat_lt (HIGH - LOW) (rounded len), Enomem) ∷ (nat_lt (PAGE_SIZE * MAX_PAGES) (mapped_count memory + rounded len), Enomem) ∷ [])
    (at_place (free_place (is_mapped memory) (rounded len)))
mmap_reply memory len prot (Fixed addr) =
    first_refusal ((len == 0, Einval) ∷ (place_refusals addr (rounded len) ++ (exceeds_limit (fill memory addr (rounded len) (zeros_with prot)), Enomem) ∷ [])) (At addr)
mmap_reply memory len prot (NoReplace addr) =
    first_refusal
    ((len == 0, Einval)
    ∷ (place_refusals addr (rounded len)
    ++ (not (is_unmapped memory addr (rounded len)), Eexist) ∷ (exceeds_limit (fill memory addr (rounded len) (zeros_with prot)), Enomem) ∷ []))
    (At addr)

-- munmap(2), DESCRIPTION and ERRORS: the address is a multiple of the page size, and no page of the range need be mapped
abbrev pub munmap_reply : ℕ → ℕ → Reply
munmap_reply addr len =
    first_refusal ((not (is_page_start addr), Einval) ∷ (len == 0, Einval) ∷ (nat_lt HIGH (addr + rounded len), Einval) ∷ []) Done

-- madvise(2), MADV_DONTNEED and ERRORS: EINVAL for an address that is not a multiple of the page size, and for a range that ends past
-- the last address, whose length is negative for the kernel; a length of 0 is done at once. ENOMEM if part of the range is not
-- mapped: the part that is mapped becomes zeros all the same
abbrev pub dontneed_reply : Memory → ℕ → ℕ → Reply
dontneed_reply memory addr len =
    if not (is_page_start addr) then Refused Einval
    else if len == 0 then Done
    else first_refusal ((nat_le (2 ^ 64) (addr + rounded len), Einval) ∷ (not (is_all_mapped memory addr (rounded len)), Enomem) ∷ []) Done

-- mremap(2). Sizes are in bytes, rounded up to whole pages

-- whether two cells are mapped with one protection
abbrev pub same_prot : Option Cell → Option Cell → Bool
same_prot (Some a) (Some b) = prot_number a.prot == prot_number b.prot
same_prot (Some a) None = false
same_prot None b = false

-- whether the whole range, which is not empty, is mapped with one protection
abbrev pub has_one_prot : Memory → ℕ → ℕ → Bool
has_one_prot memory start len = none_below (λ i. not (same_prot (memory start) (memory (start + i)))) len

-- a cell that mremap adds: zeros, with the protection of the old range
abbrev pub grown : Option Cell → Option Cell
grown o = written o 0

-- the memory once mremap has put the range at its new place: the target and the whole old range are removed, the cells of the old range
-- are in the new one as far as both go, and the rest of the new one reads as zeros
abbrev pub moved : Memory → ℕ → ℕ → ℕ → ℕ → Memory
moved memory old old_size new new_size =
    λ addr. if in_range new new_size addr then (if nat_lt (addr - new) old_size then memory (old + (addr - new)) else grown (memory old))
    else if in_range old old_size addr then None
    else memory addr

-- whether two ranges share an address
abbrev pub overlaps : ℕ → ℕ → ℕ → ℕ → Bool
overlaps start size other other_size = nat_lt start (other + other_size) && nat_lt other (start + size)

-- whether a fixed target is wrong: without MREMAP_MAYMOVE, not a multiple of the page size, not inside the address space, or over
-- the old range: mremap(2), MREMAP_FIXED and ERRORS
abbrev pub is_bad_target : ℕ → ℕ → ℕ → Bool → Option ℕ → Bool
is_bad_target addr old_size new_size may_move None = false
is_bad_target addr old_size new_size may_move (Some target) =
    not may_move || not (is_page_start target) || nat_lt target LOW || nat_lt HIGH (target + new_size) || overlaps target new_size addr old_size

-- whether the range can become longer where it is
abbrev pub can_grow : Memory → ℕ → ℕ → ℕ → Bool
can_grow memory addr old_size new_size = is_unmapped memory (addr + old_size) (new_size - old_size) && nat_le (addr + new_size) HIGH

-- where the range goes if no target is fixed: it stays where it is if it has room there, else it moves if it may and there is a place
abbrev pub mremap_place : Memory → ℕ → ℕ → ℕ → Bool → Reply
mremap_place memory addr old_size new_size may_move =
    if nat_le new_size old_size || can_grow memory addr old_size new_size then At addr
    else if may_move then at_place (free_place (is_mapped memory) new_size)
    else Refused Enomem

-- where the range goes; ENOMEM if more pages would be mapped than may be
abbrev pub mremap_target : Memory → ℕ → ℕ → ℕ → Bool → Option ℕ → Reply
mremap_target memory addr old_size new_size may_move None =
    if nat_lt (PAGE_SIZE * MAX_PAGES) (mapped_count memory - old_size + new_size) then Refused Enomem
    else mremap_place memory addr old_size new_size may_move
mremap_target memory addr old_size new_size may_move (Some target) =
    if exceeds_limit (moved memory addr old_size target new_size) then Refused Enomem else At target

-- mremap(2), ERRORS: EINVAL for wrong arguments, EFAULT if the old range is not all mapped or spans mappings of several
-- protections, ENOMEM if it cannot grow. An old size of 0 asks for a shared mapping, and there is none
abbrev pub mremap_reply : Memory → ℕ → ℕ → ℕ → Bool → Option ℕ → Reply
mremap_reply memory addr old_len new_len may_move fixed =
    first_refusal
    ((not (is_page_start addr) || old_len == 0 || new_len == 0 || is_bad_target addr (rounded old_len) (rounded new_len) may_move fixed, Einval)
    ∷ (not (has_one_prot memory addr (rounded old_len)), Efault) ∷ [])
    (mremap_target memory addr (rounded old_len) (rounded new_len) may_move fixed)

-- Every command

-- what a flat memory answers to a command
abbrev pub reply_of : Memory → Command → Reply
reply_of memory (Load addr width) =
    if is_aligned addr width then access_reply (memory addr) allows_load (Value (number_at memory addr width)) else BadAccess
reply_of memory (Store addr width value) =
    if is_aligned addr width && nat_lt value (256 ^ width) then access_reply (memory addr) allows_store Done else BadAccess
reply_of memory (Mmap len prot place) = mmap_reply memory len prot place
reply_of memory (Munmap addr len) = munmap_reply addr len
reply_of memory (Mremap addr old_len new_len may_move fixed) = mremap_reply memory addr old_len new_len may_move fixed
reply_of memory (DontNeed addr len) = dontneed_reply memory addr len

-- the bytes of the range that are mapped become 0
abbrev pub zeroed : Memory → ℕ → ℕ → Memory
zeroed memory start len = λ addr. if in_range start len addr then written (memory addr) 0 else memory addr

-- the memory after a command with this reply: new pages are zeros, unmapped ones are gone, and madvise(2) changes the mapped part of a
-- range even if it answers ENOMEM
abbrev pub changed : Memory → Command → Reply → Memory
changed memory (Store addr width value) Done = write memory addr width value
changed memory (Mmap len prot place) (At start) = fill memory start (rounded len) (zeros_with prot)
changed memory (Munmap addr len) Done = clear memory addr (rounded len)
changed memory (Mremap addr old_len new_len may_move fixed) (At target) = moved memory addr (rounded old_len) target (rounded new_len)
changed memory (DontNeed addr len) Done = zeroed memory addr (rounded len)
changed memory (DontNeed addr len) (Refused Enomem) = zeroed memory addr (rounded len)
changed memory _ _ = memory

-- the memory after a command
abbrev pub after : Memory → Command → Memory
after memory command = changed memory command (reply_of memory command)

-- Runs

-- each reply is what the memory answers when the commands are made in turn
abbrev pub IsRunFrom : Memory → List Entry → Type 0
IsRunFrom memory [] = Unit {0}
IsRunFrom memory (entry ∷ entries) = (entry.reply ≡ reply_of memory entry.command) × IsRunFrom (after memory entry.command) entries

-- the memory after the commands
abbrev pub memory_from : Memory → List Entry → Memory
memory_from memory [] = memory
memory_from memory (entry ∷ entries) = memory_from (after memory entry.command) entries

-- a run of one flat memory in which nothing is mapped at first
abbrev pub IsFlatRun : List Entry → Type 0
IsFlatRun entries = IsRunFrom no_memory entries

-- its last memory
abbrev pub memory_of : List Entry → Memory
memory_of entries = memory_from no_memory entries
