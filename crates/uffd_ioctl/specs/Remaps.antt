-- A range that mremap may resize or move, and how that changes the userfault object.
use Rattle.std.specs.Prelude.{◌≡◌, ℕ, ◌+◌, ◌-◌, ◌*◌, ◌≤◌, ◌<◌, ◌⊎◌, ◌==◌, ◌&&◌, not, nat_lt, false, if◌then◌else◌, List, ◌++◌}
use Rattle.std.specs.Ordering.{nat_cmp}
use Rattle.std.specs.FinMap.{FinMap, get}
use Rattle.foundation.specs.declared.TheConstants.{PAGE_SIZE}
use Rattle.mig_base.specs.declared.TheConstants.{HIGH_PAGE}
use Rattle.mig_base.specs.declared.Prot.{Prot}
use Rattle.mig_base.specs.declared.message.Message.TheVariants as message
use Rattle.mig_base.specs.declared.message.Message.TheVariants.{Unmap}
use Rattle.mig_base.specs.declared.message.Message.{Message}
use Rattle.foundation.specs.Ranges.{lesser}
use Rattle.mig_base.specs.Userfault.{Object, mode_at, is_registered, is_watched, moved_modes}
use Rattle.mig_model.specs.Space.{message_if}
use Rattle.area_map.specs.Ranges.{HasOneProt}
use Rattle.uffd_ioctl.specs.declared.remap.Remap.{Remap}

-- the range is not empty, both ranges end inside the address space, and the new one begins where the old one does or does not overlap it
pub record IsRemap (range : Remap) : Type 0 where
  pub some : 0 < range.count
  pub from : range.from + range.count ≤ HIGH_PAGE
  pub to : range.to + range.new_count ≤ HIGH_PAGE
  pub place : (range.to ≡ range.from) ⊎ ((range.from + range.count ≤ range.to) ⊎ (range.to + range.new_count ≤ range.from))

-- the pages of the range are mapped, all with one protection
abbrev pub HasProt : FinMap nat_cmp Prot → ℕ → ℕ → Type 0
HasProt areas first count = (prot : Prot) × HasOneProt (λ page. get areas page) first count prot

-- the UNMAP of the pages that a moved range replaces, due if one of them is registered: userfaultfd(2), UFFD_EVENT_UNMAP
abbrev pub replaced_message : Object → Remap → List Message
replaced_message object range =
    message_if (not (range.to == range.from) && is_watched object range.to range.new_count) (Unmap (PAGE_SIZE * range.to) (PAGE_SIZE * range.to + PAGE_SIZE * range.new_count))

-- the UNMAP of the end that a shrinking range loses, due if a page of it is registered: userfaultfd(2), UFFD_EVENT_UNMAP
abbrev pub cut_message : Object → Remap → List Message
cut_message object range =
    message_if (nat_lt range.new_count range.count && is_watched object (range.from + range.new_count) (range.count - range.new_count))
    (Unmap (PAGE_SIZE * range.from + PAGE_SIZE * range.new_count) (PAGE_SIZE * range.from + PAGE_SIZE * range.count))

-- the REMAP of the pages that move, due if one of them is registered: userfaultfd(2), UFFD_EVENT_REMAP
abbrev pub moved_message : Object → Remap → List Message
moved_message object range =
    message_if (not (range.to == range.from) && is_watched object range.from (lesser range.count range.new_count))
    (message.Remap (PAGE_SIZE * range.from) (PAGE_SIZE * range.to) (PAGE_SIZE * lesser range.count range.new_count))

-- the messages of a remap, in the order in which they are queued
abbrev pub three_messages : Object → Remap → List Message
three_messages object range = replaced_message object range ++ cut_message object range ++ moved_message object range

-- the object after the modes of the range moved with its pages; the pages by which it grows get the mode of its last page
abbrev pub modes_of : Object → Remap → Object
modes_of object range = moved_modes object range.from range.count range.to range.new_count (mode_at object (range.from + (range.count - 1)))

-- no page at or past the end of the address space is registered
abbrev pub AreLow : Object → Type 0
AreLow object = (page : ℕ) → HIGH_PAGE ≤ page → is_registered object page ≡ false

-- the first of the pages that may need room in the object: those of the whole target if the range moves, else those by which it grows
abbrev pub room_first : Remap → ℕ
room_first range = if range.to == range.from then range.to + lesser range.count range.new_count else range.to

-- the number of the pages that may need room in the object
abbrev pub room_count : Remap → ℕ
room_count range = if range.to == range.from then range.new_count - lesser range.count range.new_count else range.new_count
