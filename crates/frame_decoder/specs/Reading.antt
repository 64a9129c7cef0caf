-- Reading a text from left to right: each reader takes a field from the front of some bytes, and gives its value and the bytes after it.
-- The readers of the code return what these give.
use Rattle.std.specs.Prelude.{◌≡◌, ℕ, zero, suc, ◌+◌, ◌^◌, Bool, not, ◌&&◌, List, [], ◌∷◌, length, take, drop, Option, Some, None, Result, Ok, Err, nat_lt, nat_le, ◌==◌, if◌then◌else◌}
use Rattle.std.specs.Int.{Width, w32, w64, byte_len, from_be_bytes}
use Rattle.std.specs.Ordering.{nat_cmp}
use Rattle.std.specs.FinMap as finmap
use Rattle.std.specs.FinMap.{FinMap}
use Rattle.std.specs.FinSet.{FinSet, len}
use Rattle.area_map.specs.Areas.{pages_in}
use Rattle.mig_base.specs.declared.Area.{Area}
use Rattle.mig_base.specs.declared.Prot.{Prot}
use Rattle.mig_base.specs.declared.Prot.TheVariants.{NoAccess, Read, ReadWrite}
use Rattle.mig_base.specs.declared.Run.{Run as PageRun}
use Rattle.foundation.specs.declared.TheConstants.{PAGE_SIZE}
use Rattle.mig_base.specs.declared.TheConstants.{LOW_PAGE, HIGH_PAGE, MAX_CPUS, MAX_RUN}
use Rattle.mig_base.specs.declared.command.Command.{Command}
use Rattle.mig_base.specs.declared.command.Command.TheVariants.{Load, Store}
use Rattle.mig_base.specs.declared.phase.Received.{Received}
use Rattle.mig_base.specs.Flat.{is_aligned}
use Rattle.mig_base.specs.PageSets.{in_runs}
use Rattle.mig_base.specs.Sets.{pages_where}
use Rattle.mig_model.specs.Ioctls.{same_protection}
use Rattle.mig_model.specs.Wire.{Frame as MachineFrame}
use Rattle.page_stream.specs.Frames.{frame_of}
use Rattle.frame_decoder.specs.declared.fault.StreamFault.{StreamFault}
use Rattle.frame_decoder.specs.declared.fault.StreamFault.TheVariants as faults
use Rattle.frame_decoder.specs.declared.stream.Next.{Next}
use Rattle.frame_decoder.specs.declared.stream.Next.TheVariants as nexts
use Rattle.frame_decoder.specs.declared.tag.Tag.{Tag}
use Rattle.frame_decoder.specs.declared.tag.Tag.TheVariants as tag
use Rattle.frame_decoder.specs.declared.version.Version.{Version}
use Rattle.frame_decoder.specs.Headers.{Header, header_at}
use Rattle.frame_decoder.specs.Versions.{max_pages, has_runs}

infixl 10 ◌>>=◌
-- reading continues with what was read; the first fault ends it
abbrev pub ◌>>=◌ : {A B : Type 0} → Result A StreamFault → (A → Result B StreamFault) → Result B StreamFault
(Ok x) >>= f = f x
(Err e) >>= f = Err e

-- the fault that a function of the code returned is the one that reading gives; if memory ran out, nothing is said
abbrev pub FailsToRead : {Y : Type 0} → StreamFault → Result Y StreamFault → Type 0
FailsToRead faults.NoMemory read = Unit {0}
FailsToRead faults.BadTag read = read ≡ Err faults.BadTag
FailsToRead faults.BadLength read = read ≡ Err faults.BadLength
FailsToRead faults.BadField read = read ≡ Err faults.BadField

-- bridges a reader of the code: what it returned, seen by `view`, is what reading gives, unless memory ran out
abbrev pub Gives : {X Y : Type 0} → (X → Y) → Result X StreamFault → Result Y StreamFault → Type 0
Gives view (Ok x) read = read ≡ Ok (view x)
Gives view (Err e) read = FailsToRead e read

-- the same for a function that takes no memory
abbrev pub IsRead : {X Y : Type 0} → (X → Y) → Result X StreamFault → Result Y StreamFault → Type 0
IsRead view (Ok x) read = read ≡ Ok (view x)
IsRead view (Err e) read = read ≡ Err e

-- what was read if it passes a test, and BadField otherwise
abbrev pub tested : {A : Type 0} → Bool → A → Result A StreamFault
tested test x = if test then Ok x else Err faults.BadField

-- Fields: a value and the bytes after it

-- one byte; BadField if there is none
abbrev pub byte_at : List ℕ → Result (ℕ × List ℕ) StreamFault
byte_at [] = Err faults.BadField
byte_at (b ∷ rest) = Ok (b, rest)

-- a big-endian number of the width; BadField if fewer bytes are left
abbrev pub number_in : Width → List ℕ → Result (ℕ × List ℕ) StreamFault
number_in w bytes = if nat_lt (length bytes) (byte_len w) then Err faults.BadField else Ok (from_be_bytes w (take (byte_len w) bytes), drop (byte_len w) bytes)

-- the pages that may be mapped
abbrev pub is_page : ℕ → Bool
is_page page = nat_le LOW_PAGE page && nat_lt page HIGH_PAGE

-- the number of a page in 4 bytes; BadField if the page may not be mapped
unfoldable pub page_in : List ℕ → Result (ℕ × List ℕ) StreamFault
page_in bytes = do
  page ← number_in w32 bytes
  tested (is_page page.0) page

-- the 4096 bytes of a page; BadField if fewer are left
unfoldable pub content_at : List ℕ → Result (List ℕ × List ℕ) StreamFault
content_at bytes = if nat_lt (length bytes) PAGE_SIZE then Err faults.BadField else Ok (take PAGE_SIZE bytes, drop PAGE_SIZE bytes)

-- a protection in one byte: 0 none, 1 read, 2 read and write, and any other is BadField
unfoldable pub prot_at : List ℕ → Result (Prot × List ℕ) StreamFault
prot_at [] = Err faults.BadField
prot_at (zero ∷ rest) = Ok (NoAccess, rest)
prot_at (suc zero ∷ rest) = Ok (Read, rest)
prot_at (suc (suc zero) ∷ rest) = Ok (ReadWrite, rest)
prot_at (suc (suc (suc b)) ∷ rest) = Err faults.BadField

-- how far the destination has come, in one byte: 0 it has not run, 1 it runs, 2 it has taken End, and any other is BadField
unfoldable pub state_at : List ℕ → Result (Received × List ℕ) StreamFault
state_at [] = Err faults.BadField
state_at (zero ∷ rest) = Ok (Received.NotRun, rest)
state_at (suc zero ∷ rest) = Ok (Received.Running, rest)
state_at (suc (suc zero) ∷ rest) = Ok (Received.Ended, rest)
state_at (suc (suc (suc b)) ∷ rest) = Err faults.BadField

-- Lists

-- the given number of items, one after the other; `state` is what the items before say of the next
unfoldable pub many_from : {S A : Type 0} → (item : S → List ℕ → Result (A × List ℕ) StreamFault) → (next : S → A → S) → (state : S) → ℕ → List ℕ → Result (List A × List ℕ) StreamFault
many_from item next state zero bytes = Ok ([], bytes)
many_from item next state (suc n) bytes = item state bytes >>= λ first. many_from item next (next state first.0) n first.1 >>= λ others. Ok (first.0 ∷ others.0, others.1)

-- the given number of items, of which none says anything of the next
abbrev pub many_at : {A : Type 0} → (List ℕ → Result (A × List ℕ) StreamFault) → ℕ → List ℕ → Result (List A × List ℕ) StreamFault
many_at item n bytes = many_from (λ (_ : Unit {0}). item) (λ state _. state) tt n bytes

-- a count in 4 bytes, and the bytes of that number of pages
unfoldable pub contents_at : List ℕ → Result (List (List ℕ) × List ℕ) StreamFault
contents_at bytes = do
  count ← number_in w32 bytes
  many_at content_at count.0 count.1

-- a run has at least one page, begins at `low` or later, and ends inside the address space
abbrev pub is_run : (low first count : ℕ) → Bool
is_run low first count = nat_le low first && nat_lt 0 count && nat_le (first + count) HIGH_PAGE

-- a run in 8 bytes, its first page and its number of pages; BadField if it begins below `low`, is empty, or leaves the address space
unfoldable pub run_in : (low : ℕ) → List ℕ → Result (PageRun × List ℕ) StreamFault
run_in low bytes = do
  first ← number_in w32 bytes
  count ← number_in w32 first.1
  tested (is_run low first.0 count.0) (record { first = first.0; count = count.0 }, count.1)

-- where the next run may begin: one page after the end of this one, since runs do not touch
abbrev pub run_next : ℕ → PageRun → ℕ
run_next low run = run.first + run.count + 1

-- the set of the pages that lie in runs
abbrev pub set_of : List PageRun → FinSet nat_cmp
set_of runs = pages_where (in_runs runs)

-- the pages of the given number of runs, which begin at `LOW_PAGE` or later, ascend and do not touch
unfoldable pub set_from : ℕ → List ℕ → Result (FinSet nat_cmp × List ℕ) StreamFault
set_from count bytes = many_from run_in run_next LOW_PAGE count bytes >>= λ runs. Ok (set_of runs.0, runs.1)

-- a set of pages: a count in 4 bytes, and that number of runs
unfoldable pub pages_at : List ℕ → Result (FinSet nat_cmp × List ℕ) StreamFault
pages_at bytes = do
  count ← number_in w32 bytes
  set_from count.0 count.1

-- a set of pages; BadField if it has more pages than the version maps
unfoldable pub few_pages_at : Version → List ℕ → Result (FinSet nat_cmp × List ℕ) StreamFault
few_pages_at version bytes = do
  pages ← pages_at bytes
  tested (nat_le (len pages.0) (max_pages version)) pages

-- an area may follow one that ended at `low` with the protection `last`: it begins at `low` or later, and if the two touch, their
-- protections differ
abbrev pub goes_on_with : ℕ → Option Prot → Area → Bool
goes_on_with low last area = is_run low area.first area.count && not (area.first == low && same_protection last (Some area.prot))

-- an area in 9 bytes, its first page, its number of pages and its protection; BadField if it may not follow the area before
unfoldable pub area_in : ℕ × Option Prot → List ℕ → Result (Area × List ℕ) StreamFault
area_in state bytes = do
  first ← number_in w32 bytes
  count ← number_in w32 first.1
  prot ← prot_at count.1
  tested (goes_on_with state.0 state.1 (record { first = first.0; count = count.0; prot = prot.0 })) (record { first = first.0; count = count.0; prot = prot.0 }, prot.1)

-- what an area says of the next: where it ends, and its protection
abbrev pub area_next : ℕ × Option Prot → Area → ℕ × Option Prot
area_next state area = (area.first + area.count, Some area.prot)

-- the mapped pages of the given number of areas, which begin at `LOW_PAGE` or later and ascend
unfoldable pub map_in : ℕ → List ℕ → Result (FinMap nat_cmp Prot × List ℕ) StreamFault
map_in count bytes = many_from area_in area_next (LOW_PAGE, None) count bytes >>= λ areas. Ok (pages_in areas.0, areas.1)

-- the mapped pages: a count in 4 bytes, and that number of areas; BadField if they have more pages than the version maps
unfoldable pub areas_in : Version → List ℕ → Result (FinMap nat_cmp Prot × List ℕ) StreamFault
areas_in version bytes = do
  count ← number_in w32 bytes
  areas ← map_in count.0 count.1
  tested (nat_le (finmap.len areas.0) (max_pages version)) areas

-- a load: an address in 8 bytes and a width in one; BadField if it is not aligned
unfoldable pub load_at : List ℕ → Result (Option Command × List ℕ) StreamFault
load_at bytes = do
  addr ← number_in w64 bytes
  width ← byte_at addr.1
  tested (is_aligned addr.0 width.0) (Some (Load addr.0 width.0), width.1)

-- a store: an address in 8 bytes, a width in one and a value in 8; BadField if it is not aligned, or the value does not fit the width
unfoldable pub store_at : List ℕ → Result (Option Command × List ℕ) StreamFault
store_at bytes = do
  addr ← number_in w64 bytes
  width ← byte_at addr.1
  value ← number_in w64 width.1
  tested (is_aligned addr.0 width.0 && nat_lt value.0 (256 ^ width.0)) (Some (Store addr.0 width.0 value.0), value.1)

-- what a processor waits for, by a byte in front: 0 nothing, 1 a load, 2 a store, and any other is BadField
unfoldable pub command_at : List ℕ → Result (Option Command × List ℕ) StreamFault
command_at [] = Err faults.BadField
command_at (zero ∷ rest) = Ok (None, rest)
command_at (suc zero ∷ rest) = load_at rest
command_at (suc (suc zero) ∷ rest) = store_at rest
command_at (suc (suc (suc b)) ∷ rest) = Err faults.BadField

-- the numbers of processors that a guest may have
abbrev pub is_cpu_count : ℕ → Bool
is_cpu_count count = nat_lt 0 count && nat_le count MAX_CPUS

-- what the processors wait for: a count in one byte, and that number of commands; BadField if no guest has that number of processors
unfoldable pub commands_at : List ℕ → Result (List (Option Command) × List ℕ) StreamFault
commands_at bytes = do
  count ← byte_at bytes
  commands ← many_at command_at count.0 count.1
  tested (is_cpu_count (length commands.0)) commands

-- Bodies: a frame, and the bytes after it

-- the body of a Page: its number and its bytes
unfoldable pub page_frame_at : List ℕ → Result (MachineFrame × List ℕ) StreamFault
page_frame_at bytes = do
  page ← page_in bytes
  content ← content_at page.1
  Ok (MachineFrame.Page page.0 content.0, content.1)

-- the body of a Discard: a set of any number of pages
unfoldable pub discard_at : List ℕ → Result (MachineFrame × List ℕ) StreamFault
discard_at bytes = do
  pages ← pages_at bytes
  Ok (MachineFrame.Discard pages.0, pages.1)

-- the body of a Package: the mapped pages, the owed ones, and what each processor waits for
unfoldable pub package_at : Version → List ℕ → Result (MachineFrame × List ℕ) StreamFault
package_at version bytes = do
  areas ← areas_in version bytes
  owed ← few_pages_at version areas.1
  commands ← commands_at owed.1
  Ok (MachineFrame.Package areas.0 owed.0 commands.0, commands.1)

-- the version has the frame Run, and `count` pages from `first` on may be sent as one: there are 1 to `MAX_RUN`, and all may be mapped
abbrev pub is_page_run : Version → (first count : ℕ) → Bool
is_page_run version first count = has_runs version && nat_le count MAX_RUN && is_run LOW_PAGE first count

-- the body of a Run: its first page, a count, and the bytes of each page
unfoldable pub run_frame_at : Version → List ℕ → Result (MachineFrame × List ℕ) StreamFault
run_frame_at version bytes = do
  first ← number_in w32 bytes
  pages ← contents_at first.1
  tested (is_page_run version first.0 (length pages.0)) (MachineFrame.Run first.0 pages.0, pages.1)

-- the body of a Recv: how far the destination has come, and the owed pages
unfoldable pub recv_at : Version → List ℕ → Result (MachineFrame × List ℕ) StreamFault
recv_at version bytes = do
  state ← state_at bytes
  owed ← few_pages_at version state.1
  Ok (MachineFrame.Recv state.0 owed.0, owed.1)

-- the body of the frame with the tag: a Zero and a Request have a page, an End has a number of 4 bytes, and Advise, Resume and Done
-- have nothing
unfoldable pub payload_at : Version → Tag → List ℕ → Result (MachineFrame × List ℕ) StreamFault
payload_at version tag.Advise bytes = Ok (MachineFrame.Advise, bytes)
payload_at version tag.Page bytes = page_frame_at bytes
payload_at version tag.Zero bytes = page_in bytes >>= λ page. Ok (MachineFrame.Zero page.0, page.1)
payload_at version tag.Discard bytes = discard_at bytes
payload_at version tag.Package bytes = package_at version bytes
payload_at version tag.End bytes = number_in w32 bytes >>= λ urgent. Ok (MachineFrame.End urgent.0, urgent.1)
payload_at version tag.Resume bytes = Ok (MachineFrame.Resume, bytes)
payload_at version tag.Run bytes = run_frame_at version bytes
payload_at version tag.Request bytes = page_in bytes >>= λ page. Ok (MachineFrame.Request page.0, page.1)
payload_at version tag.Recv bytes = recv_at version bytes
payload_at version tag.Done bytes = Ok (MachineFrame.Done, bytes)

-- the frame that a body spells with all of its bytes; BadField if bytes are left
unfoldable pub body_at : Version → Tag → List ℕ → Result MachineFrame StreamFault
body_at version t body = do
  read ← payload_at version t body
  tested (length read.1 == 0) read.0

-- One frame, read from the front

-- what stands at the front of some bytes: less than a frame, a frame and the number of bytes that it takes, or a fault
pub data Front : Type 0 where
  Part : Front
  Whole : (version : Version) → (epoch : ℕ) → (frame : MachineFrame) → (len : ℕ) → Front
  Fault : StreamFault → Front

-- bridges the code's `Next` to `Front`
abbrev pub front_of : Next → Front
front_of nexts.Part = Front.Part
front_of (nexts.Whole version epoch frame len) = Front.Whole version epoch (frame_of frame) len
front_of (nexts.Fault fault) = Front.Fault fault

-- a frame whose header is read and whose body is whole: each fault of a body is BadField
abbrev pub body_next : Header → Result MachineFrame StreamFault → Front
body_next header (Ok frame) = Front.Whole header.version header.epoch frame (12 + header.len)
body_next header (Err fault) = Front.Fault faults.BadField

-- what stands after a header: less than its body, or the frame; a fault of the header counts first
abbrev pub header_next : List ℕ → Result Header StreamFault → Front
header_next bytes (Err fault) = Front.Fault fault
header_next bytes (Ok header) = if nat_lt (length (drop 12 bytes)) header.len then Front.Part else body_next header (body_at header.version header.tag (take header.len (drop 12 bytes)))

-- what stands at the front of a stream: without the 12 bytes of a header it is less than a frame
unfoldable pub next_at : (fixed : Option Version) → List ℕ → Front
next_at fixed bytes = if nat_lt (length bytes) 12 then Front.Part else header_next bytes (header_at fixed bytes)
