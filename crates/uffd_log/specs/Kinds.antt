-- The keywords by kind: those of calls, of lines and messages, and of answers.
use Rattle.std.specs.Prelude.{Bool, true, false}
use Rattle.uffd_log.specs.declared.keyword.Keyword.{Keyword}
use Rattle.uffd_log.specs.declared.keyword.Keyword.TheVariants as key

-- the keywords of calls
abbrev pub is_of_call : Keyword → Bool
is_of_call key.Open = true
is_of_call key.Api = true
is_of_call key.Register = true
is_of_call key.Unregister = true
is_of_call key.Wake = true
is_of_call key.Copy = true
is_of_call key.Move = true
is_of_call key.ZeroPage = true
is_of_call key.Continue = true
is_of_call key.Poison = true
is_of_call key.WriteProtect = true
is_of_call key.Read = true
is_of_call key.Poll = true
is_of_call key.NonBlock = true
is_of_call key.Dup = true
is_of_call key.Close = true
is_of_call key.Scan = true
is_of_call key.Mmap = true
is_of_call key.Munmap = true
is_of_call key.Mremap = true
is_of_call key.Madvise = true
is_of_call key.Fork = true
is_of_call key.Syscall = true
is_of_call key.Device = true
is_of_call key.Dash = true
is_of_call _ = false

-- the keywords of lines and messages
abbrev pub is_of_line : Keyword → Bool
is_of_line key.Begin = true
is_of_line key.End = true
is_of_line key.Message = true
is_of_line key.Have = true
is_of_line key.Found = true
is_of_line key.Dropped = true
is_of_line key.Started = true
is_of_line key.Forked = true
is_of_line key.Exit = true
is_of_line key.Lost = true
is_of_line key.Fault = true
is_of_line key.Remap = true
is_of_line key.Remove = true
is_of_line key.Unmap = true
is_of_line _ = false

-- the keywords of answers
abbrev pub is_of_answer : Keyword → Bool
is_of_answer key.Ok = true
is_of_answer key.Interrupted = true
is_of_answer key.Eperm = true
is_of_answer key.Enoent = true
is_of_answer key.Esrch = true
is_of_answer key.Eintr = true
is_of_answer key.Eagain = true
is_of_answer key.Enomem = true
is_of_answer key.Efault = true
is_of_answer key.Ebusy = true
is_of_answer key.Eexist = true
is_of_answer key.Einval = true
is_of_answer _ = false
