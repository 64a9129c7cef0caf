-- The invariant of every destination, which each call keeps.
use Rattle.std.specs.Prelude.{◌≡◌, ℕ, ◌+◌, ◌/◌, ◌≤◌, ◌⊎◌, Bool, true, false, Some, List, [], ◌∷◌}
use Rattle.std.specs.FinMap.{get}
use Rattle.std.specs.FinSet.{FinSet, contains}
use Rattle.std.specs.Ordering.{nat_cmp}
use Rattle.foundation.specs.declared.TheConstants.{PAGE_SIZE}
use Rattle.mig_base.specs.declared.TheConstants.{HIGH_PAGE}
use Rattle.mig_base.specs.declared.message.Message.{Message}
use Rattle.mig_base.specs.declared.message.Message.TheVariants.{PageFault, Remap, Remove, Unmap}
use Rattle.mig_model.specs.Bounds.{AreFewPages, AreListed}
use Rattle.mig_model.specs.Guest.{is_present}
use Rattle.mig_model.specs.Promises.{AreFaults}
use Rattle.mig_model.specs.Invariant.{AreWholeEvents}
use Rattle.mig_model.specs.Owed.{Owed, settled_by}
use Rattle.mig_model.specs.Space.{Space}
use Rattle.mig_base.specs.Userfault.{Noted}
use Rattle.uffd_ioctl.specs.Lent.{IsLent}

-- the pages of an event lie in the address space, and the two ranges of a move do not overlap
abbrev pub LiesInside : Message → Type 0
LiesInside (Remap from to len) =
    (from / PAGE_SIZE + len / PAGE_SIZE ≤ HIGH_PAGE) × (to / PAGE_SIZE + len / PAGE_SIZE ≤ HIGH_PAGE)
    × ((from / PAGE_SIZE + len / PAGE_SIZE ≤ to / PAGE_SIZE) ⊎ (to / PAGE_SIZE + len / PAGE_SIZE ≤ from / PAGE_SIZE))
LiesInside (Remove start end) = (start / PAGE_SIZE ≤ end / PAGE_SIZE) × (end / PAGE_SIZE ≤ HIGH_PAGE)
LiesInside (Unmap start end) = (start / PAGE_SIZE ≤ end / PAGE_SIZE) × (end / PAGE_SIZE ≤ HIGH_PAGE)
LiesInside (PageFault addr write wp tid) = Unit {0}

-- the pages of each event of a list lie so
abbrev pub AreInside : List Noted → Type 0
AreInside [] = Unit {0}
AreInside (noted ∷ events) = LiesInside noted.message × AreInside events

-- the space of a destination that runs: its object is enabled, no page is write-protected, events are of whole pages in the address
-- space, and each page that is owed once the unread events are applied is registered for missing faults, and missing
pub record IsReady (space : Space) (owed : Owed) : Type 0 where
  pub lent : IsLent space
  pub unprotected : (page : ℕ) → contains space.protected page ≡ false
  pub only_missing : (page : ℕ) → contains space.object.protect page ≡ false
  pub events : AreWholeEvents space.object.events
  pub inside : AreInside space.object.events
  pub faults : AreFaults space.object.faults
  pub pairs : (page origin : ℕ) → settled_by space.object.events (get owed) page ≡ Some origin → (contains space.object.missing page ≡ true) × (is_present space page ≡ false)

-- the space is so from the run on
pub record IsInOrder (has_run : Bool) (space : Space) (owed : Owed) : Type 0 where
  pub ready : has_run ≡ true → IsReady space owed

-- the owed pages of the source are among those that the Package owed, which may all be mapped at once; requested pages may be mapped
pub record HasPages (owed : Owed) (requests : List ℕ) : Type 0 where
  pub first : FinSet nat_cmp
  pub few : AreFewPages first
  pub among : (page origin : ℕ) → get owed page ≡ Some origin → contains first origin ≡ true
  pub listed : AreListed requests
