-- The text of a frame: its bytes on a wire. A text is a header and a body. The header has the version, the tag of the frame, two zeros,
-- the epoch and the length of the body in bytes. Numbers are big-endian.
use Rattle.std.specs.Prelude.{◌≡◌, ◌≢◌, ℕ, zero, suc, ◌+◌, ◌^◌, ◌<◌, ◌≤◌, Bool, true, false, if◌then◌else◌, Option, Some, None, unwrap_or, List, [], ◌∷◌, ◌++◌, length, map}
use Rattle.std.specs.List.{flat_map, AllByRecursion}
use Rattle.std.specs.Int.{w32, w64, to_be_bytes}
use Rattle.std.specs.Ordering.{nat_cmp}
use Rattle.std.specs.FinMap.{FinMap, get, contains_key}
use Rattle.std.specs.FinSet.{FinSet, contains}
use Rattle.mig_base.specs.declared.Area.{Area}
use Rattle.mig_base.specs.declared.Prot.{Prot}
use Rattle.mig_base.specs.declared.Prot.TheVariants.{NoAccess}
use Rattle.mig_base.specs.declared.Run.{Run as PageRun}
use Rattle.foundation.specs.declared.TheConstants.{PAGE_SIZE}
use Rattle.mig_base.specs.declared.TheConstants.{HIGH_PAGE}
use Rattle.mig_base.specs.declared.command.Command.{Command}
use Rattle.mig_base.specs.declared.command.Command.TheVariants.{Load, Store}
use Rattle.mig_base.specs.declared.phase.Received.{Received}
use Rattle.mig_base.specs.Codes.{prot_number}
use Rattle.foundation.specs.Ranges.{in_range}
use Rattle.mig_base.specs.Sets.{pages_where, run_length}
use Rattle.mig_model.specs.Ioctls.{same_protection}
use Rattle.mig_model.specs.Lengths.{begins_run, begins_area}
use Rattle.mig_model.specs.Wire.{Frame}
use Rattle.mig_model.specs.Wire.Frame.{Advise, Page, Zero, Run, Discard, Package, End, Resume, Request, Recv, Done}

-- Runs of pages

-- the numbers below the bound that pass the test, ascending
unfoldable pub list_below : (ℕ → Bool) → ℕ → List ℕ
list_below test zero = []
list_below test (suc bound) = list_below test bound ++ (if test bound then bound ∷ [] else [])

-- the run that begins at a page: that page and those that follow it in the set without a gap
abbrev pub run_at : FinSet nat_cmp → ℕ → PageRun
run_at pages first = record { first = first; count = run_length pages first HIGH_PAGE }

-- the maximal runs of neighbouring pages in a set, ascending
abbrev pub runs_of : FinSet nat_cmp → List PageRun
runs_of pages = map (run_at pages) (list_below (begins_run pages) HIGH_PAGE)

-- the area that begins at a page: the pages from there on that have its protection
abbrev pub area_at : FinMap nat_cmp Prot → ℕ → Area
area_at areas first =
    record {
      first = first;
      count = run_length (pages_where (λ page. same_protection (get areas first) (get areas page))) first HIGH_PAGE;
      prot = unwrap_or (get areas first) NoAccess;
    }

-- the mapped pages as areas, the maximal runs of one protection, ascending
abbrev pub areas_of : FinMap nat_cmp Prot → List Area
areas_of areas = map (area_at areas) (list_below (begins_area areas) HIGH_PAGE)

-- the protection of a page: that of the first area that has it
abbrev pub prot_in : List Area → ℕ → Option Prot
prot_in [] page = None
prot_in (area ∷ areas) page = if in_range area.first area.count page then Some area.prot else prot_in areas page

-- areas in order: they ascend, none is empty, and none touches the next with the same protection. The page and the protection are the end
-- and the protection of the area before, or 0 and None for the first area
abbrev pub AreAreasAfter : ℕ → Option Prot → List Area → Type 0
AreAreasAfter end prot [] = Unit {0}
AreAreasAfter end prot (area ∷ areas) = (end ≤ area.first) × (0 < area.count) × (end ≡ area.first → prot ≢ Some area.prot) × AreAreasAfter (area.first + area.count) (Some area.prot) areas

-- The text

-- the versions of the format: the second adds the frame Run, and is the version that is written
pub data Version : Type 0 where
  One : Version
  Two : Version

-- a version as the first byte of a header
abbrev pub version_code : Version → ℕ
version_code One = 1
version_code Two = 2

-- whether a version has the frame
abbrev pub has_frame : Version → Frame → Bool
has_frame One (Run first pages) = false
has_frame One frame = true
has_frame Two frame = true

-- the tag of a frame, the second byte of a header; the frames that go back to the source have the highest bit set
abbrev pub tag_code : Frame → ℕ
tag_code Advise = 0x01
tag_code (Page page bytes) = 0x02
tag_code (Zero page) = 0x03
tag_code (Discard pages) = 0x04
tag_code (Package areas owed commands) = 0x05
tag_code (End urgent) = 0x06
tag_code Resume = 0x07
tag_code (Run first pages) = 0x08
tag_code (Request page) = 0x81
tag_code (Recv state owed) = 0x82
tag_code Done = 0x83

-- a run in 8 bytes: its first page and its number of pages, 4 bytes each
abbrev pub run_text : PageRun → List ℕ
run_text run = to_be_bytes w32 run.first ++ to_be_bytes w32 run.count

-- the number of runs in 4 bytes, and each run
abbrev pub runs_text : List PageRun → List ℕ
runs_text runs = to_be_bytes w32 (length runs) ++ flat_map run_text runs

-- an area in 9 bytes: its first page, its number of pages, and its protection in one byte
abbrev pub area_text : Area → List ℕ
area_text area = to_be_bytes w32 area.first ++ to_be_bytes w32 area.count ++ prot_number area.prot ∷ []

-- the number of areas in 4 bytes, and each area
abbrev pub areas_text : List Area → List ℕ
areas_text areas = to_be_bytes w32 (length areas) ++ flat_map area_text areas

-- what a processor waits for: 0 for nothing, or 1, address and width of a load, or 2, address, width and value of a store; a map call
-- does not wait
abbrev pub command_text : Option Command → List ℕ
command_text None = 0 ∷ []
command_text (Some (Load addr width)) = 1 ∷ to_be_bytes w64 addr ++ width ∷ []
command_text (Some (Store addr width value)) = 2 ∷ to_be_bytes w64 addr ++ width ∷ to_be_bytes w64 value
command_text (Some command) = []

-- a count of one byte, and what each processor waits for
abbrev pub commands_text : List (Option Command) → List ℕ
commands_text commands = length commands ∷ flat_map command_text commands

-- how far the destination has come, as the first byte of the body of a Recv
abbrev pub state_code : Received → ℕ
state_code Received.NotRun = 0
state_code Received.Running = 1
state_code Received.Ended = 2

-- the body of a frame: page numbers and counts have 4 bytes, the bytes of a page stand as they are, and sets and maps are written as runs
abbrev pub body_text : Frame → List ℕ
body_text Advise = []
body_text (Page page bytes) = to_be_bytes w32 page ++ bytes
body_text (Zero page) = to_be_bytes w32 page
body_text (Run first pages) = to_be_bytes w32 first ++ to_be_bytes w32 (length pages) ++ flat_map (λ bytes. bytes) pages
body_text (Discard pages) = runs_text (runs_of pages)
body_text (Package areas owed commands) = areas_text (areas_of areas) ++ runs_text (runs_of owed) ++ commands_text commands
body_text (End urgent) = to_be_bytes w32 urgent
body_text Resume = []
body_text (Request page) = to_be_bytes w32 page
body_text (Recv state owed) = state_code state ∷ runs_text (runs_of owed)
body_text Done = []

-- the header in 12 bytes: version, tag, two zeros, the epoch and the length of the body in bytes, both in 4 bytes
abbrev pub header_text : Version → (tag epoch len : ℕ) → List ℕ
header_text version tag epoch len = version_code version ∷ tag ∷ 0 ∷ 0 ∷ to_be_bytes w32 epoch ++ to_be_bytes w32 len

-- the text of a frame that is sent in an epoch; it is empty if the version does not have the frame
unfoldable pub text : Version → (epoch : ℕ) → Frame → List ℕ
text version epoch frame = if has_frame version frame then header_text version (tag_code frame) epoch (length (body_text frame)) ++ body_text frame else []

-- Frames that can be read back from their texts

-- each page that a frame carries has its 4096 bytes: then the text has the length that the machine counts
abbrev pub HasWholePages : Frame → Type 0
HasWholePages (Page page bytes) = length bytes ≡ PAGE_SIZE
HasWholePages (Run first pages) = AllByRecursion (λ bytes. length bytes ≡ PAGE_SIZE) pages
HasWholePages frame = Unit {0}

-- each page of a set lies below the end of the address space
abbrev pub AreBelow : FinSet nat_cmp → Type 0
AreBelow pages = (page : ℕ) → contains pages page ≡ true → page < HIGH_PAGE

-- each mapped page lies below the end of the address space
abbrev pub AreMappedBelow : FinMap nat_cmp Prot → Type 0
AreMappedBelow areas = (page : ℕ) → contains_key areas page ≡ true → page < HIGH_PAGE

-- what a processor waits for fits its fields: nothing, or a load or store whose address and value fit 64 bits
abbrev pub FitsCommand : Option Command → Type 0
FitsCommand None = Unit {0}
FitsCommand (Some (Load addr width)) = addr < 2 ^ 64
FitsCommand (Some (Store addr width value)) = (addr < 2 ^ 64) × (value < 2 ^ 64)
FitsCommand (Some command) = ⊥

-- the numbers of a frame fit their fields
abbrev pub FitsText : Frame → Type 0
FitsText (Page page bytes) = page < 2 ^ 32
FitsText (Zero page) = page < 2 ^ 32
FitsText (Run first pages) = (first < 2 ^ 32) × (length pages < 2 ^ 32)
FitsText (Discard pages) = AreBelow pages
FitsText (Package areas owed commands) = AreMappedBelow areas × AreBelow owed × AllByRecursion FitsCommand commands
FitsText (End urgent) = urgent < 2 ^ 32
FitsText (Request page) = page < 2 ^ 32
FitsText (Recv state owed) = AreBelow owed
FitsText frame = Unit {0}

-- a frame that can be read back from its text: the version has it, its pages are whole, and its numbers and its epoch fit their fields
pub record IsEncodable (version : Version) (epoch : ℕ) (frame : Frame) : Type 0 where
  pub has : has_frame version frame ≡ true
  pub epoch_fits : epoch < 2 ^ 32
  pub whole : HasWholePages frame
  pub fits : FitsText frame
