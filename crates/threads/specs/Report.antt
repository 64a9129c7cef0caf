-- The report of a run in threads.
use Rattle.std.specs.Prelude.{◌≡◌, ℕ, ◌<◌, suc, ⊤, List, [], ◌∷◌, ◌++◌, length, codes, Option, Some, None}
use Rattle.std.specs.Fmt.{decimal}
use Rattle.std.specs.Io.KnownBytes.{Appends}
use Rattle.mig_base.specs.Flat.{IsFlatRun}
use Rattle.mig_model.specs.Migration.{World}
use Rattle.rig.specs.declared.rig.CloseFault.{CloseFault}
use Rattle.rig.specs.declared.rig.CloseFault.TheVariants as close
use Rattle.rig.specs.Seats.{Seat, answers_of, list_of, calls_of}
use Rattle.engine.specs.declared.fault.RunFault.{RunFault}
use Rattle.engine.specs.declared.fault.RunFault.TheVariants as faults
use Rattle.engine.specs.Engine.{Front}
use Rattle.threads.specs.Calls.{AreCalls, calls_with}

-- the line of a seat: the number of its processor, and the number of its calls that were answered
abbrev pub seat_line : Seat → List ℕ
seat_line seat = codes "cpu " ++ decimal seat.cpu ++ codes " calls " ++ decimal (length seat.answers) ++ 10 ∷ []

-- the lines of seats, in order
abbrev pub seat_lines : List Seat → List ℕ
seat_lines [] = []
seat_lines (seat ∷ seats) = seat_line seat ++ seat_lines seats

-- the line with the number of commands that took effect
abbrev pub count_line : ℕ → List ℕ
count_line entries = codes "transcript " ++ decimal entries ++ 10 ∷ []

-- the line if the seats agree with the transcript
abbrev pub agreed_line : List ℕ
agreed_line = codes "close ok\n"

-- the name of a fault, without its processor
abbrev pub fault_name : CloseFault → List ℕ
fault_name (close.Answers cpu) = codes "Answers"
fault_name close.Claims = codes "Claims"

-- the line with the fault if they do not agree
abbrev pub fault_line : CloseFault → List ℕ
fault_line fault = codes "close fault " ++ fault_name fault ++ 10 ∷ []

-- the seats are those of the processors from this one on, in order, and each has the answers to all calls of its processor, which makes
-- this number of stores
abbrev pub AreFrom : ℕ → ℕ → List Seat → Type 0
AreFrom cpu stores [] = ⊤
AreFrom cpu stores (seat ∷ seats) =
    (seat.cpu ≡ cpu) × (length seat.answers ≡ calls_with stores) × AreCalls seat.cpu stores 0 seat.answers × AreFrom (suc cpu) stores seats

-- the transcript is that of one flat memory, has the answers of each seat in their order, and no other entries
pub record IsHistory (seats : List Seat) (world : World) : Type 0 where
  pub flat : IsFlatRun world.transcript
  pub answers : (k : ℕ) → k < length world.source.guest.cpus → answers_of k world.transcript ≡ list_of k seats
  pub count : length world.transcript ≡ calls_of seats

-- the last lines: the number of entries of the world, and what was found when the rig was closed
abbrev pub verdict_lines : ℕ → Option CloseFault → List ℕ
verdict_lines entries None = count_line entries ++ agreed_line
verdict_lines entries (Some fault) = count_line entries ++ fault_line fault

-- the report: a line for each seat, and the last lines
abbrev pub report_lines : List Seat → ℕ → Option CloseFault → List ℕ
report_lines seats entries fault = seat_lines seats ++ verdict_lines entries fault

-- the seats, the world and the fault of a run that has ended, with this number of processors, each of which makes this number of stores
pub record IsWholeRun (cpus stores : ℕ) (seats : List Seat) (world : World) (fault : Option CloseFault) : Type 0 where
  pub all : length seats ≡ cpus
  pub each : AreFrom 0 stores seats
  pub flat : IsFlatRun world.transcript
  pub history : fault ≡ None → IsHistory seats world

-- the report of such a run was written
pub record Reports (cpus stores : ℕ) (seats : List Seat) (world : World) (fault : Option CloseFault) (before after : Option (List ℕ)) : Type 0 where
  pub run : IsWholeRun cpus stores seats world fault
  pub lines : Appends before after (report_lines seats (length world.transcript) fault)

-- a run ends without a whole report: if memory ran out, nothing was written; if writing failed, the first part of the report of a run was
abbrev pub ThreadsStop : ℕ → ℕ → RunFault → Option (List ℕ) → Option (List ℕ) → Type 0
ThreadsStop cpus stores (faults.Line n) before after = ⊥
ThreadsStop cpus stores faults.ReadFault before after = ⊥
ThreadsStop cpus stores faults.WriteFault before after =
    (seats : List Seat) × (world : World) × (fault : Option CloseFault)
    × IsWholeRun cpus stores seats world fault × Front (report_lines seats (length world.transcript) fault) before after
ThreadsStop cpus stores faults.NoMemory before after = Appends before after []
