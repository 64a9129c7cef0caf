-- The exit statuses of the commands that have faults of their own.
use Rattle.std.specs.Prelude.{ℕ}
use Rattle.console.specs.Status.{fault_status}
use Rattle.frames.specs.declared.fault.FramesFault.{FramesFault}
use Rattle.frames.specs.declared.fault.FramesFault.TheVariants as frames
use Rattle.history_judge.specs.declared.judge.Verdict.{Verdict as HistoryVerdict}
use Rattle.history_judge.specs.declared.judge.Verdict.TheVariants as history
use Rattle.history_judge.specs.declared.judge.HistoryFault.{HistoryFault}
use Rattle.history_judge.specs.declared.judge.HistoryFault.TheVariants as histories
use Rattle.wiretap.specs.declared.fault.TapFault.{TapFault}
use Rattle.wiretap.specs.declared.fault.TapFault.TheVariants as taps

-- the status of a stream of frames that ended with a fault
abbrev pub frames_fault_status : FramesFault → ℕ
frames_fault_status (frames.Stream fault) = 1
frames_fault_status frames.Truncated = 1
frames_fault_status frames.ReadFault = 2
frames_fault_status frames.WriteFault = 2
frames_fault_status frames.NoMemory = 4

-- the status of a history that was judged
abbrev pub history_status : HistoryVerdict → ℕ
history_status history.Kept = 0
history_status history.Wrong = 3
history_status history.Undecided = 5
history_status history.Nothing = 6

-- the status of a history that could not be judged
abbrev pub history_fault_status : HistoryFault → ℕ
history_fault_status (histories.Line number reason) = 1
history_fault_status histories.ReadFault = 2
history_fault_status histories.WriteFault = 2
history_fault_status histories.NoMemory = 4

-- the status of a run with files for its wires that ended with a fault
abbrev pub tap_fault_status : TapFault → ℕ
tap_fault_status (taps.Run fault) = fault_status fault
tap_fault_status (taps.Wire channel) = 2
