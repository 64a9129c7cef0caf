-- Bounds that every world keeps, beside its invariant. They give each frame in flight a text, and have the userfault objects accept each
-- call that a node makes.
use Rattle.std.specs.Prelude.{◌≡◌, ℕ, ◌+◌, ◌*◌, ◌^◌, ◌<◌, ◌≤◌, Bool, true, false, Option, Some, None, List, [], ◌∷◌, length}
use Rattle.std.specs.List.{All}
use Rattle.std.specs.Ordering.{nat_cmp}
use Rattle.std.specs.FinMap as finmap
use Rattle.std.specs.FinMap.{FinMap, contains_key}
use Rattle.std.specs.FinSet.{FinSet, contains, len}
use Rattle.foundation.specs.declared.TheConstants.{PAGE_SIZE}
use Rattle.mig_base.specs.declared.TheConstants.{LOW, HIGH, LOW_PAGE, HIGH_PAGE, MAX_PAGES, MAX_CPUS, MAX_RUN}
use Rattle.mig_base.specs.declared.Prot.{Prot}
use Rattle.mig_base.specs.declared.command.Command.{Command}
use Rattle.mig_base.specs.declared.command.Command.TheVariants.{Load, Store}
use Rattle.mig_base.specs.declared.phase.SourcePhase.{SourcePhase}
use Rattle.mig_base.specs.Flat.{Memory, is_aligned, is_mapped, mapped_count, memory_of}
use Rattle.mig_model.specs.Space.{Space}
use Rattle.mig_model.specs.Wire.{Frame}
use Rattle.mig_model.specs.Wire.Frame.{Advise, Page, Zero, Run, Discard, Package, End, Resume, Request, Recv, Done}
use Rattle.mig_model.specs.Log.{present}
use Rattle.mig_model.specs.Source.{is_released, space_of}
use Rattle.mig_model.specs.Migration.{World}

-- The urgent wire

-- the number of frames put on the urgent wire in this epoch: 0 before the switch, and from then on until the source is released, together
-- with the number of remaining pages, at most the number of present pages of the source
pub record IsUrgentFew (from : SourcePhase) (switched : Bool) (count : ℕ) (space : Space) (remaining : FinSet nat_cmp) : Type 0 where
  pub before_switch : switched ≡ false → count ≡ 0
  pub few : switched ≡ true → is_released from ≡ false → count + len remaining ≤ len (present space)

-- the same of a world
abbrev pub AreUrgentFew : World → Type 0
AreUrgentFew world = IsUrgentFew world.source.phase world.source.switched world.source.urgent_sent (space_of world.source) world.source.remaining

-- The guest's memory

-- a page that may be mapped
abbrev pub IsPage : ℕ → Type 0
IsPage page = (LOW_PAGE ≤ page) × (page < HIGH_PAGE)

-- mapped pages within bounds: each lies in the address space, and there are MAX_PAGES at most
pub record IsMapping (areas : FinMap nat_cmp Prot) : Type 0 where
  pub pages : (page : ℕ) → contains_key areas page ≡ true → IsPage page
  pub few : finmap.len areas ≤ MAX_PAGES

-- the same of the mapped addresses of a flat memory
pub record IsWithinBounds (memory : Memory) : Type 0 where
  pub addresses : (addr : ℕ) → is_mapped memory addr ≡ true → (LOW ≤ addr) × (addr < HIGH)
  pub few : mapped_count memory ≤ PAGE_SIZE * MAX_PAGES

-- both nodes and the flat memory of the transcript are within these bounds
pub record HasBoundedMemory (world : World) : Type 0 where
  pub source : IsMapping (space_of world.source).host.areas
  pub destination : IsMapping world.destination.guest.space.host.areas
  pub flat : IsWithinBounds (memory_of world.transcript)

-- Frames

-- each page of a set may be mapped
abbrev pub ArePages : FinSet nat_cmp → Type 0
ArePages pages = (page : ℕ) → contains pages page ≡ true → IsPage page

-- each page of a list may be mapped
abbrev pub AreListed : List ℕ → Type 0
AreListed [] = Unit {0}
AreListed (page ∷ pages) = IsPage page × AreListed pages

-- a set of such pages that may be mapped as a whole: it has MAX_PAGES at most
abbrev pub AreFewPages : FinSet nat_cmp → Type 0
AreFewPages pages = ArePages pages × (len pages ≤ MAX_PAGES)

-- the bytes of one page: PAGE_SIZE numbers below 256
abbrev pub IsPageBytes : List ℕ → Type 0
IsPageBytes bytes = (length bytes ≡ PAGE_SIZE) × All (λ byte. byte < 256) bytes

-- each list is the bytes of one page: those of a Run
abbrev pub ArePageBytes : List (List ℕ) → Type 0
ArePageBytes [] = Unit {0}
ArePageBytes (bytes ∷ pages) = IsPageBytes bytes × ArePageBytes pages

-- a load or store of the right form: aligned, and at an address of 64 bits; the value of a store fits its width
abbrev pub IsRightAccess : Command → Type 0
IsRightAccess (Load addr width) = (is_aligned addr width ≡ true) × (addr < 2 ^ 64)
IsRightAccess (Store addr width value) = (is_aligned addr width ≡ true) × (value < 256 ^ width) × (addr < 2 ^ 64)
IsRightAccess command = ⊥

-- each outstanding command is such a load or store
abbrev pub AreRightAccesses : List (Option Command) → Type 0
AreRightAccesses [] = Unit {0}
AreRightAccesses (None ∷ commands) = AreRightAccesses commands
AreRightAccesses (Some command ∷ commands) = IsRightAccess command × AreRightAccesses commands

-- a number of processors that a guest may have: 1 to MAX_CPUS
abbrev pub IsCpuCount : ℕ → Type 0
IsCpuCount count = (0 < count) × (count ≤ MAX_CPUS)

-- a frame that can be sent: each number in it is of its kind, and nothing is too long
abbrev pub IsFrame : Frame → Type 0
IsFrame Advise = Unit {0}
IsFrame (Page page bytes) = IsPage page × IsPageBytes bytes
IsFrame (Zero page) = IsPage page
IsFrame (Run first pages) = (0 < length pages) × (length pages ≤ MAX_RUN) × (LOW_PAGE ≤ first) × (first + length pages ≤ HIGH_PAGE) × ArePageBytes pages
IsFrame (Discard pages) = ArePages pages
IsFrame (Package areas owed commands) = IsMapping areas × AreFewPages owed × AreRightAccesses commands × IsCpuCount (length commands)
IsFrame (End urgent) = urgent < 2 ^ 32
IsFrame Resume = Unit {0}
IsFrame (Request page) = IsPage page
IsFrame (Recv state owed) = AreFewPages owed
IsFrame Done = Unit {0}
