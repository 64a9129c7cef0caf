-- The lines of the head of a log.
use Rattle.std.specs.Prelude.{ℕ, List, codes}
use Rattle.call_log.specs.declared.head.HeadLine.{HeadLine}
use Rattle.call_log.specs.declared.head.HeadLine.TheVariants.{UffdLog, Recorder, Kernel, Page, Clock, Command}

-- the first word of a line
abbrev pub line_word : HeadLine → List ℕ
line_word UffdLog = codes "uffdlog"
line_word Recorder = codes "recorder"
line_word Kernel = codes "kernel"
line_word Page = codes "page"
line_word Clock = codes "clock"
line_word Command = codes "command"
