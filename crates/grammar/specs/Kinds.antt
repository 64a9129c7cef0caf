-- The keywords by kind: those of commands, of the other steps, and of replies.
use Rattle.std.specs.Prelude.{Bool, true, false}
use Rattle.grammar.specs.declared.keyword.Keyword.{Keyword}
use Rattle.grammar.specs.declared.keyword.Keyword.TheVariants as key

-- the keywords of commands
abbrev pub is_of_command : Keyword → Bool
is_of_command key.Cpu = true
is_of_command key.Load = true
is_of_command key.Store = true
is_of_command key.Mmap = true
is_of_command key.Munmap = true
is_of_command key.NoAccess = true
is_of_command key.Read = true
is_of_command key.ReadWrite = true
is_of_command key.Mremap = true
is_of_command key.DontNeed = true
is_of_command key.Fixed = true
is_of_command key.NoReplace = true
is_of_command key.MayMove = true
is_of_command _ = false

-- the keywords of the other steps, and progress
abbrev pub is_of_step : Keyword → Bool
is_of_step key.Retry = true
is_of_step key.Start = true
is_of_step key.Round = true
is_of_step key.Send = true
is_of_step key.SendRun = true
is_of_step key.SourceRead = true
is_of_step key.SourceAct = true
is_of_step key.Switch = true
is_of_step key.Deliver = true
is_of_step key.Back = true
is_of_step key.DeliverUrgent = true
is_of_step key.DestRead = true
is_of_step key.DestAct = true
is_of_step key.Install = true
is_of_step key.Push = true
is_of_step key.PushUrgent = true
is_of_step key.Serve = true
is_of_step key.End = true
is_of_step key.Break = true
is_of_step key.Notice = true
is_of_step key.Source = true
is_of_step key.Dest = true
is_of_step key.Resume = true
is_of_step key.Progress = true
is_of_step _ = false

-- the keywords of replies, and the arrow before them
abbrev pub is_of_reply : Keyword → Bool
is_of_reply key.Gives = true
is_of_reply key.Value = true
is_of_reply key.Done = true
is_of_reply key.At = true
is_of_reply key.Segv = true
is_of_reply key.Unmapped = true
is_of_reply key.Protected = true
is_of_reply key.Bad = true
is_of_reply key.Access = true
is_of_reply key.Refused = true
is_of_reply key.Eperm = true
is_of_reply key.Enoent = true
is_of_reply key.Eagain = true
is_of_reply key.Enomem = true
is_of_reply key.Efault = true
is_of_reply key.Eexist = true
is_of_reply key.Einval = true
is_of_reply _ = false
