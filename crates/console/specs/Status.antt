-- The exit statuses of a command.
use Rattle.std.specs.Prelude.{ℕ, Bool, true, false, if◌then◌else◌, nat_lt, Option, Some, None}
use Rattle.engine.specs.declared.fault.RunFault.{RunFault}
use Rattle.engine.specs.declared.fault.RunFault.TheVariants.{Line, ReadFault, WriteFault, NoMemory}

-- the status of a run to its end, or of a check with this answer
abbrev pub answer_status : Bool → ℕ
answer_status true = 0
answer_status false = 3

-- the status of a listing: whether no line is wrong
abbrev pub lint_status : Bool → ℕ
lint_status true = 0
lint_status false = 1

-- the status of a run or a check that ended with a fault
abbrev pub fault_status : RunFault → ℕ
fault_status (Line n) = 1
fault_status ReadFault = 2
fault_status WriteFault = 2
fault_status NoMemory = 4

-- whether a fault ends the tests of all files, and not that of one alone
abbrev pub ends_tests : RunFault → Bool
ends_tests (Line n) = false
ends_tests ReadFault = false
ends_tests WriteFault = true
ends_tests NoMemory = true

-- the status of a command by whether it has looked at anything, and by the status that it has otherwise
abbrev pub looked_status : Bool → ℕ → ℕ
looked_status has_looked status = if has_looked then status else if nat_lt 0 status then status else 6

-- the status of files, by the first fault of one, if there is any, and by the status otherwise
abbrev pub files_status : Option RunFault → ℕ → ℕ
files_status (Some fault) status = fault_status fault
files_status None status = status

-- the status of tests: by how many scripts differ, the first fault of one, how many had no answer that was compared although one had to be,
-- and how many answers were compared
abbrev pub tally_status : ℕ → Option RunFault → ℕ → ℕ → ℕ
tally_status differ fault unchecked answers =
    if nat_lt 0 differ then 3 else files_status fault (if nat_lt 0 unchecked then 6 else if nat_lt 0 answers then 0 else 6)
