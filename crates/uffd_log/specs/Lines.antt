-- The lines of a log below its head, form by form: which line the tokens of a text are. docs/UFFDLOG.md has the same tables in words.
use Rattle.std.specs.Prelude.{◌≡◌, ℕ, zero, suc, ◌^◌, ◌&&◌, true, false, List, [], ◌∷◌, Option, Some, None, nat_lt, if◌then◌else◌}
use Rattle.uffd_log.specs.declared.call.Call.{Call}
use Rattle.uffd_log.specs.declared.call.Call.TheVariants as call
use Rattle.uffd_log.specs.declared.call.Message.{Message}
use Rattle.uffd_log.specs.declared.call.Message.TheVariants as message
use Rattle.uffd_log.specs.declared.errno.Errno.{Errno}
use Rattle.uffd_log.specs.declared.errno.Errno.TheVariants as errno
use Rattle.uffd_log.specs.declared.keyword.Keyword.TheVariants as key
use Rattle.uffd_log.specs.declared.line.Answer.{Answer}
use Rattle.uffd_log.specs.declared.line.Answer.TheVariants as answer
use Rattle.uffd_log.specs.declared.line.Line.{Line}
use Rattle.uffd_log.specs.declared.line.Line.TheVariants as line
use Rattle.uffd_log.specs.declared.line.Stamp.{Stamp}
use Rattle.uffd_log.specs.declared.token.Token.{Token}
use Rattle.uffd_log.specs.declared.token.Token.TheVariants.{Key, Number, Minus, On, Error}
use Rattle.uffd_log.specs.Words.{words_of, AreTokens}

infixl 10 ◌>>=◌
-- reading continues with the value, if there is one
abbrev pub ◌>>=◌ : {A B : Type 0} → Option A → (A → Option B) → Option B
(Some x) >>= f = f x
None >>= f = None

infixr 10 ◌orelse◌
-- the first of two, if there is one, else the other
abbrev pub ◌orelse◌ : {A : Type 0} → Option A → Option A → Option A
(Some x) orelse other = Some x
None orelse other = other

-- the number, if it fits an int of C: a process, a thread, a descriptor
abbrev pub small : ℕ → Option ℕ
small n = if nat_lt n (2 ^ 31) then Some n else None

-- the same, if it is not 0
abbrev pub some_small : ℕ → Option ℕ
some_small n = if nat_lt 0 n && nat_lt n (2 ^ 31) then Some n else None

-- Calls

-- the calls that begin an object's life, or are of its descriptors
unfoldable pub object_call_from : List Token → Option Call
object_call_from (Key key.Open ∷ Key key.Syscall ∷ Number flags ∷ []) = Some (call.Open false flags)
object_call_from (Key key.Open ∷ Key key.Device ∷ Number flags ∷ []) = Some (call.Open true flags)
object_call_from (Key key.Api ∷ On on ∷ Number api ∷ Number features ∷ []) = Some (call.Api on api features)
object_call_from (Key key.NonBlock ∷ On on ∷ Number zero ∷ []) = Some (call.NonBlock on false)
object_call_from (Key key.NonBlock ∷ On on ∷ Number (suc zero) ∷ []) = Some (call.NonBlock on true)
object_call_from (Key key.Close ∷ On on ∷ []) = Some (call.Close on)
object_call_from _ = None

-- the calls that set the mode of a range of the object's address space
unfoldable pub mode_call_from : List Token → Option Call
mode_call_from (Key key.Register ∷ On on ∷ Number start ∷ Number len ∷ Number mode ∷ []) = Some (call.Register on start len mode)
mode_call_from (Key key.WriteProtect ∷ On on ∷ Number start ∷ Number len ∷ Number mode ∷ []) = Some (call.WriteProtect on start len mode)
mode_call_from _ = None

-- the other calls on such a range
unfoldable pub range_call_from : List Token → Option Call
range_call_from (Key key.Unregister ∷ On on ∷ Number start ∷ Number len ∷ []) = Some (call.Unregister on start len)
range_call_from (Key key.Wake ∷ On on ∷ Number start ∷ Number len ∷ []) = Some (call.Wake on start len)
range_call_from (Key key.Scan ∷ On on ∷ Number start ∷ Number len ∷ []) = Some (call.Scan on start len)
range_call_from _ = None

-- the calls that put pages with contents from elsewhere
unfoldable pub copy_call_from : List Token → Option Call
copy_call_from (Key key.Copy ∷ On on ∷ Number to ∷ Number from ∷ Number len ∷ Number mode ∷ []) = Some (call.Copy on to from len mode)
copy_call_from (Key key.Move ∷ On on ∷ Number to ∷ Number from ∷ Number len ∷ Number mode ∷ []) = Some (call.Move on to from len mode)
copy_call_from _ = None

-- the other calls that put pages
unfoldable pub put_call_from : List Token → Option Call
put_call_from (Key key.ZeroPage ∷ On on ∷ Number start ∷ Number len ∷ Number mode ∷ []) = Some (call.ZeroPage on start len mode)
put_call_from (Key key.Continue ∷ On on ∷ Number start ∷ Number len ∷ Number mode ∷ []) = Some (call.Continue on start len mode)
put_call_from (Key key.Poison ∷ On on ∷ Number start ∷ Number len ∷ Number mode ∷ []) = Some (call.Poison on start len mode)
put_call_from _ = None

-- the calls that wait for messages, and dup(2)
unfoldable pub read_call_from : List Token → Option Call
read_call_from (Key key.Read ∷ On on ∷ Number room ∷ []) = Some (call.Read on (Some room))
read_call_from (Key key.Read ∷ On on ∷ Key key.Dash ∷ []) = Some (call.Read on None)
read_call_from (Key key.Poll ∷ On on ∷ []) = Some (call.Poll on)
read_call_from (Key key.Dup ∷ On on ∷ Key key.Dash ∷ []) = Some (call.Dup on None)
read_call_from (Key key.Dup ∷ On on ∷ Number target ∷ []) = small target >>= λ fd. Some (call.Dup on (Some fd))
read_call_from _ = None

-- the calls that map, unmap or copy the caller's address space
unfoldable pub map_call_from : List Token → Option Call
map_call_from (Key key.Mmap ∷ Number addr ∷ Number len ∷ Number prot ∷ Number flags ∷ []) = Some (call.Mmap addr len prot flags)
map_call_from (Key key.Munmap ∷ Number addr ∷ Number len ∷ []) = Some (call.Munmap addr len)
map_call_from (Key key.Fork ∷ []) = Some call.Fork
map_call_from _ = None

-- the calls that move or clear pages of it
unfoldable pub page_call_from : List Token → Option Call
page_call_from (Key key.Mremap ∷ Number addr ∷ Number old_len ∷ Number new_len ∷ Number flags ∷ Number target ∷ []) = Some (call.Mremap addr old_len new_len flags target)
page_call_from (Key key.Madvise ∷ Number addr ∷ Number len ∷ Number advice ∷ []) = Some (call.Madvise addr len advice)
page_call_from _ = None

-- the call that tokens stand for
abbrev pub call_from : List Token → Option Call
call_from tokens =
    object_call_from tokens orelse mode_call_from tokens orelse range_call_from tokens orelse copy_call_from tokens
    orelse put_call_from tokens orelse read_call_from tokens orelse map_call_from tokens orelse page_call_from tokens

-- Answers and messages

-- the error of a name
unfoldable pub errno_from : Token → Option Errno
errno_from (Key key.Eperm) = Some errno.Eperm
errno_from (Key key.Enoent) = Some errno.Enoent
errno_from (Key key.Esrch) = Some errno.Esrch
errno_from (Key key.Eintr) = Some errno.Eintr
errno_from (Key key.Eagain) = Some errno.Eagain
errno_from (Key key.Enomem) = Some errno.Enomem
errno_from (Key key.Efault) = Some errno.Efault
errno_from (Key key.Ebusy) = Some errno.Ebusy
errno_from (Key key.Eexist) = Some errno.Eexist
errno_from (Key key.Einval) = Some errno.Einval
errno_from Error = Some errno.Other
errno_from _ = None

-- the result field after an error: one that is negative, or absent, says nothing
unfoldable pub bytes_from : List Token → Option (Option ℕ)
bytes_from [] = Some None
bytes_from (Number n ∷ []) = Some (Some n)
bytes_from (Minus n ∷ []) = Some None
bytes_from _ = None

-- how a call failed
abbrev pub failed_from : Token → List Token → Option Answer
failed_from name bytes = errno_from name >>= λ e. bytes_from bytes >>= λ b. Some (answer.Failed e b)

-- how a call succeeded, or ended without an effect
unfoldable pub done_from : List Token → Option Answer
done_from (Key key.Ok ∷ []) = Some answer.Done
done_from (Key key.Ok ∷ On on ∷ []) = Some (answer.Opened on)
done_from (Key key.Ok ∷ Number n ∷ []) = Some (answer.Value n)
done_from (Key key.Ok ∷ Minus n ∷ []) = Some (answer.Minus n)
done_from (Key key.Ok ∷ Number features ∷ Number ioctls ∷ []) = Some (answer.Features features ioctls)
done_from (Key key.Interrupted ∷ []) = Some answer.Interrupted
done_from _ = None

-- the answer that tokens stand for
abbrev pub answer_from : List Token → Option Answer
answer_from [] = None
answer_from (first ∷ rest) = done_from (first ∷ rest) orelse failed_from first rest

-- the message that tokens stand for
unfoldable pub message_from : List Token → Option Message
message_from (Key key.Fault ∷ Number addr ∷ Number flags ∷ Number thread ∷ []) = small thread >>= λ t. Some (message.Fault addr flags t)
message_from (Key key.Fork ∷ On child ∷ []) = Some (message.Fork child)
message_from (Key key.Remap ∷ Number from ∷ Number to ∷ Number len ∷ []) = Some (message.Remap from to len)
message_from (Key key.Remove ∷ Number start ∷ Number end ∷ []) = Some (message.Remove start end)
message_from (Key key.Unmap ∷ Number start ∷ Number end ∷ []) = Some (message.Unmap start end)
message_from _ = None

-- Lines

-- the bits of a run of pages, of which there is one
abbrev pub bits_from : ℕ → Option ℕ
bits_from n = if nat_lt 0 n && nat_lt n 8 then Some n else None

-- a line of a call, by the tokens after the stamp
unfoldable pub call_line_from : Stamp → List Token → Option Line
call_line_from stamp (Key key.Begin ∷ Number n ∷ rest) = call_from rest >>= λ c. Some (line.Begin stamp n c)
call_line_from stamp (Key key.End ∷ Number n ∷ rest) = answer_from rest >>= λ a. Some (line.End stamp n a)
call_line_from stamp (Key key.Message ∷ Number n ∷ rest) = message_from rest >>= λ m. Some (line.Read stamp n m)
call_line_from stamp (Key key.Have ∷ Number n ∷ Number start ∷ Number len ∷ Number bits ∷ []) = bits_from bits >>= λ b. Some (line.Have stamp n start len b)
call_line_from stamp _ = None

-- a line of a descriptor or a process. The words of a command are any, and there is one
unfoldable pub other_line_from : Stamp → List Token → Option Line
other_line_from stamp (Key key.Found ∷ On on ∷ []) = Some (line.Found stamp on)
other_line_from stamp (Key key.Dropped ∷ On on ∷ []) = Some (line.Dropped stamp on)
other_line_from stamp (Key key.Started ∷ Number parent ∷ word ∷ words) = small parent >>= λ p. Some (line.Started stamp p)
other_line_from stamp (Key key.Forked ∷ Number parent ∷ []) = small parent >>= λ p. Some (line.Forked stamp p)
other_line_from stamp (Key key.Exit ∷ []) = Some (line.Exit stamp)
other_line_from stamp _ = None

-- when a line was written, by which process and thread
abbrev pub stamp_from : ℕ → ℕ → ℕ → Option Stamp
stamp_from time pid tid = some_small pid >>= λ p. some_small tid >>= λ t. Some (record { time = time; pid = p; tid = t })

-- a line with a stamp
abbrev pub stamped_from : Stamp → List Token → Option Line
stamped_from stamp rest = call_line_from stamp rest orelse other_line_from stamp rest

-- the line that tokens stand for
unfoldable pub line_from : List Token → Option Line
line_from (Number time ∷ Number pid ∷ Number tid ∷ rest) = stamp_from time pid tid >>= λ stamp. stamped_from stamp rest
line_from (Key key.Lost ∷ Number n ∷ []) = some_small n >>= λ count. Some (line.Lost count)
line_from _ = None

-- the text, which has no line feed, spells the line: its words have tokens, and these stand for the line
abbrev pub Spells : List ℕ → Line → Type 0
Spells text line = (tokens : List Token) × AreTokens tokens (words_of text) × (line_from tokens ≡ Some line)
