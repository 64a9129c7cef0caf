-- The exit statuses of the program.
use Rattle.std.specs.Prelude.{ℕ, Bool, if◌then◌else◌}
use Rattle.audit.specs.declared.audit.Verdict.{Verdict}
use Rattle.audit.specs.declared.audit.Verdict.TheVariants as verdict
use Rattle.call_log.specs.declared.fault.LogFault.{LogFault}
use Rattle.call_log.specs.declared.fault.LogFault.TheVariants as log

-- the status of a log that was judged, by whether a certificate is wanted
abbrev pub verdict_status : Bool → Verdict → ℕ
verdict_status wanted verdict.Certified = 0
verdict_status wanted verdict.Clean = if wanted then 5 else 0
verdict_status wanted verdict.Found = 1
verdict_status wanted verdict.Wrong = 2
verdict_status wanted verdict.Unexplained = 3
verdict_status wanted verdict.Undecided = 5
verdict_status wanted verdict.Doubtful = 5
verdict_status wanted verdict.Nothing = 6

-- the status of a log that could not be judged
abbrev pub fault_status : LogFault → ℕ
fault_status log.NotALog = 2
fault_status log.StraceOutput = 2
fault_status log.Packed = 2
fault_status log.Empty = 2
fault_status log.ReadFault = 2
fault_status log.WriteFault = 2
fault_status log.NoMemory = 4
