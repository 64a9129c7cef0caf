-- The flat memory of Flat.antt as a finite map, which shows that it is finite. The law `flat_memory_is_a_map` says that both agree.
use Rattle.std.specs.Prelude.{ℕ, zero, suc, ◌+◌, ◌/◌, ◌%◌, ◌^◌, Option, Some, None, List, [], ◌∷◌}
use Rattle.std.specs.Ordering.{nat_cmp}
use Rattle.std.specs.FinMap.{FinMap, get, insert, empty}
use Rattle.mig_base.specs.declared.command.Entry.{Entry}
use Rattle.mig_base.specs.declared.command.Command.{Command}
use Rattle.mig_base.specs.declared.command.Command.TheVariants.{Store, Mmap, Munmap, Mremap, DontNeed}
use Rattle.mig_base.specs.declared.command.Errno.TheVariants.{Enomem}
use Rattle.mig_base.specs.declared.command.Reply.{Reply}
use Rattle.mig_base.specs.declared.command.Reply.TheVariants.{Done, At, Refused}
use Rattle.foundation.specs.Ranges.{rounded}
use Rattle.mig_base.specs.Pages.{set_range, remove_range, moved_range}
use Rattle.mig_base.specs.Flat.{Cell, Memory, zeros_with, grown, reply_of}

-- the cell at each mapped address
abbrev pub Map : Type 0
Map = FinMap nat_cmp Cell

-- the map as a flat memory: its look-up
abbrev pub look : Map → Memory
look m = λ addr. get m addr

-- the map with this byte in the cell at an address; unchanged if there is no cell
abbrev pub put_byte : Map → ℕ → ℕ → Option Cell → Map
put_byte m addr byte None = m
put_byte m addr byte (Some cell) = insert m addr (record cell { byte = byte })

-- the map with the `width` low bytes of a number stored from an address on, as `write` of Flat.antt does
unfoldable pub write_map : Map → ℕ → ℕ → ℕ → Map
write_map m addr zero value = m
write_map m addr (suc width) value =
    let less = write_map m addr width value in put_byte less (addr + width) (value / 256 ^ width % 256) (get less (addr + width))

-- the map with `len` bytes from `start` on made zeros where they are mapped, as `zeroed` of Flat.antt does
unfoldable pub zeroed_map : Map → ℕ → ℕ → Map
zeroed_map m start zero = m
zeroed_map m start (suc len) = let less = zeroed_map m start len in put_byte less (start + len) 0 (get less (start + len))

-- the map after a command with this reply, as `changed` of Flat.antt does
abbrev pub changed_map : Map → Command → Reply → Map
changed_map m (Store addr width value) Done = write_map m addr width value
changed_map m (Mmap bytes prot place) (At start) = set_range m start (rounded bytes) (zeros_with prot)
changed_map m (Munmap addr bytes) Done = remove_range m addr (rounded bytes)
changed_map m (Mremap addr old_bytes new_bytes may_move fixed) (At target) = moved_range m addr (rounded old_bytes) target (rounded new_bytes) (grown (get m addr))
changed_map m (DontNeed addr bytes) Done = zeroed_map m addr (rounded bytes)
changed_map m (DontNeed addr bytes) (Refused Enomem) = zeroed_map m addr (rounded bytes)
changed_map m _ _ = m

-- the map after the commands of a transcript, made in turn from a first map
abbrev pub map_from : Map → List Entry → Map
map_from m [] = m
map_from m (entry ∷ entries) = map_from (changed_map m entry.command (reply_of (look m) entry.command)) entries

-- the map after the commands of a transcript, made in turn where nothing is mapped at first
abbrev pub map_of : List Entry → Map
map_of entries = map_from empty entries
