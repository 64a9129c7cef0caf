-- What a reader of entries has read.
use Rattle.std.specs.Prelude.{◌≡◌, ℕ, IsTrue, Option, Some, None, List, [], ◌∷◌, filter, nat_eq, not}
use Rattle.indexmap.specs.IndexMap.{get}
use Rattle.kernel_rules.specs.Runs.{Event}
use Rattle.log_entries.specs.declared.log_line.LogLine.{LogLine}
use Rattle.log_entries.specs.declared.entry_reader.EntryReader.{EntryReader}
use Rattle.log_entries.specs.Events.{is_of, lines_of, program_of, HasEvents}

-- the lines in the other order, before others
abbrev pub onto : List LogLine → List LogLine → List LogLine
onto [] above = above
onto (one ∷ lines) above = onto lines (one ∷ above)

-- these lines but those of the call that a process makes under a number
abbrev pub others : ℕ → ℕ → List LogLine → List LogLine
others pid n lines = filter (λ (one : LogLine). not (is_of pid n one.line)) lines

-- those of that call
abbrev pub own : ℕ → ℕ → List LogLine → List LogLine
own pid n lines = filter (λ (one : LogLine). is_of pid n one.line) lines

-- a number that is noted; 0 where none is
abbrev pub number_in : Option ℕ → ℕ
number_in None = 0
number_in (Some number) = number

-- the program that a reader has noted of a process, if any
abbrev pub program_in : EntryReader → ℕ → ℕ
program_in reader pid = number_in (get nat_eq reader.programs pid)

-- the lines were read: these are their events, the lines of calls under way are kept, and the program is noted that each process runs
pub record Has (lines : List LogLine) (entries : List Event) (kept : List LogLine) (programs : ℕ → ℕ) : Type 0 where
  pub events : HasEvents lines entries
  pub calls : (pid n : ℕ) → own pid n kept ≡ lines_of (onto lines []) pid n
  pub runs : (pid : ℕ) → programs pid ≡ program_of (onto lines []) pid

-- the same, unless a line was lost
abbrev pub HasRead : List LogLine → EntryReader → Type 0
HasRead lines reader = IsTrue reader.whole → Has lines reader.entries reader.kept.items (program_in reader)
