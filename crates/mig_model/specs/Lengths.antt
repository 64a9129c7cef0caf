-- How many bytes complete a frame on a wire: the length of its text, which is a header and a body. docs/FORMATS.md has the format, and
-- `Texts.antt` of page_stream has the bytes.
use Rattle.std.specs.Prelude.{ℕ, ◌+◌, ◌-◌, ◌*◌, ◌&&◌, Bool, not, nat_lt, Option, Some, None, List, [], ◌∷◌, length}
use Rattle.std.specs.Ordering.{nat_cmp}
use Rattle.std.specs.FinMap.{FinMap, get, contains_key}
use Rattle.std.specs.FinSet.{FinSet, contains}
use Rattle.mig_base.specs.declared.Prot.{Prot}
use Rattle.foundation.specs.declared.TheConstants.{PAGE_SIZE}
use Rattle.mig_base.specs.declared.TheConstants.{HIGH_PAGE}
use Rattle.mig_base.specs.declared.command.Command.{Command}
use Rattle.mig_base.specs.declared.command.Command.TheVariants.{Load, Store}
use Rattle.foundation.specs.Ranges.{count_below}
use Rattle.mig_model.specs.Ioctls.{same_protection}
use Rattle.mig_model.specs.Wire.{Frame}
use Rattle.mig_model.specs.Wire.Frame.{Advise, Page, Zero, Run, Discard, Package, End, Resume, Request, Recv, Done}

-- whether a run begins at a page: the set has it, and not the page before it
abbrev pub begins_run : FinSet nat_cmp → ℕ → Bool
begins_run pages page = contains pages page && not (nat_lt 0 page && contains pages (page - 1))

-- whether an area begins at a page: it is mapped, and the page before it does not have its protection
abbrev pub begins_area : FinMap nat_cmp Prot → ℕ → Bool
begins_area areas page = contains_key areas page && not (nat_lt 0 page && same_protection (get areas page) (get areas (page - 1)))

-- how many runs of neighbours the pages of a set make
unfoldable pub run_count : FinSet nat_cmp → ℕ
run_count pages = count_below (begins_run pages) HIGH_PAGE

-- how many runs of neighbours with one protection the mapped pages make
unfoldable pub area_count : FinMap nat_cmp Prot → ℕ
area_count areas = count_below (begins_area areas) HIGH_PAGE

-- the bytes of a set of pages: the number of its runs (4), and for each the first page (4) and the number of pages (4)
abbrev pub runs_len : FinSet nat_cmp → ℕ
runs_len pages = 4 + 8 * run_count pages

-- the bytes of the mapped pages: the number of their areas (4), and for each the first page (4), the number of pages (4) and the
-- protection (1)
abbrev pub areas_len : FinMap nat_cmp Prot → ℕ
areas_len areas = 4 + 9 * area_count areas

-- the bytes of a processor in a Package: a kind (1), with address (8) and width (1) for a load or store, and value (8) for a store. No
-- map call is outstanding
abbrev pub command_len : Option Command → ℕ
command_len None = 1
command_len (Some (Load addr width)) = 10
command_len (Some (Store addr width value)) = 18
command_len (Some command) = 0

-- the bytes of the processors in a Package, after their number
abbrev pub commands_len : List (Option Command) → ℕ
commands_len [] = 0
commands_len (command ∷ commands) = command_len command + commands_len commands

-- the bytes of the header: version (1), tag (1), zeros (2), epoch (4) and the length of the body (4)
abbrev pub header_len : ℕ
header_len = 12

-- the bytes of the body: each page number and each count has 4, each page PAGE_SIZE, the state of a Recv and the number of processors 1
abbrev pub body_len : Frame → ℕ
body_len Advise = 0
body_len (Page page bytes) = 4 + PAGE_SIZE
body_len (Zero page) = 4
body_len (Run first pages) = 8 + PAGE_SIZE * length pages
body_len (Discard pages) = runs_len pages
body_len (Package areas owed commands) = areas_len areas + runs_len owed + (1 + commands_len commands)
body_len (End urgent) = 4
body_len Resume = 0
body_len (Request page) = 4
body_len (Recv state owed) = 1 + runs_len owed
body_len Done = 0

-- how many bytes complete a frame
abbrev pub text_len : Frame → ℕ
text_len frame = header_len + body_len frame
