-- The bytes of a message: userfaultfd(2), struct uffd_msg.
use Rattle.std.specs.Prelude.{ℕ, ◌+◌, Bool, if◌then◌else◌, List, [], ◌∷◌, ◌++◌}
use Rattle.mig_base.specs.Bytes.{low_bytes}
use Rattle.mig_base.specs.declared.message.Message.{Message}
use Rattle.mig_base.specs.declared.message.Message.TheVariants.{PageFault, Remap, Remove, Unmap}

-- the flags of a page fault: UFFD_PAGEFAULT_FLAG_WRITE is bit 0, UFFD_PAGEFAULT_FLAG_WP bit 1
abbrev pub fault_flags : Bool → Bool → ℕ
fault_flags write wp = (if write then 1 else 0) + (if wp then 2 else 0)

-- an event: its number in the first byte, seven zeros, and three numbers of 8 bytes each, the lowest byte of each first
abbrev pub event_bytes : ℕ → ℕ → ℕ → ℕ → List ℕ
event_bytes event first second third =
    (event ∷ 0 ∷ 0 ∷ 0 ∷ 0 ∷ 0 ∷ 0 ∷ 0 ∷ []) ++ (low_bytes first 8 ++ (low_bytes second 8 ++ low_bytes third 8))

-- a message: UFFD_EVENT_PAGEFAULT, UFFD_EVENT_REMAP, UFFD_EVENT_REMOVE and UFFD_EVENT_UNMAP
abbrev pub message_bytes : Message → List ℕ
message_bytes (PageFault addr write wp tid) = event_bytes 0x12 (fault_flags write wp) addr tid
message_bytes (Remap from to len) = event_bytes 0x14 from to len
message_bytes (Remove start end) = event_bytes 0x15 start end 0
message_bytes (Unmap start end) = event_bytes 0x16 start end 0
