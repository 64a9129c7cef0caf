-- Reading the tokens of a line, from the first to the last.
use Rattle.std.specs.Prelude.{ℕ, ◌-◌, ◌^◌, ◌/◌, ◌%◌, ◌==◌, ◌&&◌, not, Bool, List, [], ◌∷◌, Option, Some, None, nat_lt, if◌then◌else◌, true, false}
use Rattle.mig_base.specs.declared.command.Command.{Command}
use Rattle.mig_base.specs.declared.command.Command.TheVariants.{Load, Store, Mmap, Munmap, Mremap, DontNeed}
use Rattle.mig_base.specs.declared.command.Place.{Place}
use Rattle.mig_base.specs.declared.command.Place.TheVariants.{Anywhere, Fixed, NoReplace}
use Rattle.mig_base.specs.declared.Prot.{Prot}
use Rattle.mig_base.specs.declared.Prot.TheVariants.{NoAccess, Read, ReadWrite}
use Rattle.mig_base.specs.declared.command.Errno.{Errno}
use Rattle.mig_base.specs.declared.command.Errno.TheVariants.{Eperm, Enoent, Eagain, Enomem, Efault, Eexist, Einval}
use Rattle.mig_base.specs.declared.command.Reply.{Reply}
use Rattle.mig_base.specs.declared.command.Reply.TheVariants.{Value, Done, At, Segv, BadAccess, Refused}
use Rattle.mig_base.specs.declared.command.Entry.{Entry}
use Rattle.mig_base.specs.declared.schedule.Step.TheVariants as step
use Rattle.mig_base.specs.declared.schedule.Side.TheVariants as side
use Rattle.foundation.specs.declared.TheConstants.{PAGE_SIZE}
use Rattle.mig_base.specs.declared.TheConstants.{HIGH, MAX_RUN}
use Rattle.grammar.specs.declared.order.ForwardWire.{ForwardWire}
use Rattle.grammar.specs.declared.order.ForwardWire.TheVariants.{Main, Urgent}
use Rattle.grammar.specs.declared.order.Order.{Order}
use Rattle.grammar.specs.declared.order.Order.TheVariants.{Make, Push, Progress}
use Rattle.grammar.specs.declared.keyword.Keyword.{Keyword}
use Rattle.grammar.specs.declared.keyword.Keyword.TheVariants as key
use Rattle.grammar.specs.declared.token.Token.{Token}
use Rattle.grammar.specs.declared.token.Token.TheVariants.{Key, Number}

infixl 10 ◌>>=◌
-- reading continues with the value, if there is one
abbrev pub ◌>>=◌ : {A B : Type 0} → Option A → (A → Option B) → Option B
(Some x) >>= f = f x
None >>= f = None

-- the number, if it is below the limit
abbrev pub below : ℕ → ℕ → Option ℕ
below limit n = if nat_lt n limit then Some n else None

-- the number, if it fits a byte
abbrev pub small : ℕ → Option ℕ
small n = below 256 n

-- the protection that a word stands for
unfoldable pub prot_from : Keyword → Option Prot
prot_from key.NoAccess = Some NoAccess
prot_from key.Read = Some Read
prot_from key.ReadWrite = Some ReadWrite
prot_from _ = None

-- the place of a new mapping that the last words of mmap stand for
unfoldable pub place_from : List Token → Option Place
place_from [] = Some Anywhere
place_from (Key key.Fixed ∷ Number addr ∷ []) = Some (Fixed addr)
place_from (Key key.NoReplace ∷ Number addr ∷ []) = Some (NoReplace addr)
place_from _ = None

-- whether a mapping may move, and the target, that the last words of mremap stand for
unfoldable pub target_from : List Token → Option (Bool × Option ℕ)
target_from [] = Some (false, None)
target_from (Key key.MayMove ∷ []) = Some (true, None)
target_from (Key key.Fixed ∷ Number addr ∷ []) = Some (false, Some addr)
target_from (Key key.MayMove ∷ Key key.Fixed ∷ Number addr ∷ []) = Some (true, Some addr)
target_from _ = None

-- the load or store that tokens stand for
unfoldable pub access_from : List Token → Option Command
access_from (Key key.Load ∷ Number addr ∷ Number width ∷ []) = small width >>= λ w. Some (Load addr w)
access_from (Key key.Store ∷ Number addr ∷ Number width ∷ Number value ∷ []) = small width >>= λ w. Some (Store addr w value)
access_from _ = None

-- mmap, from its length, its protection and the words after them
abbrev pub mmap_from : ℕ → Keyword → List Token → Option Command
mmap_from len prot place = prot_from prot >>= λ p. place_from place >>= λ q. Some (Mmap len p q)

-- mremap, from its range, its new length and the words after them
abbrev pub mremap_from : ℕ → ℕ → ℕ → List Token → Option Command
mremap_from addr old_len new_len target = target_from target >>= λ t. Some (Mremap addr old_len new_len t.0 t.1)

-- the map call that tokens stand for
unfoldable pub map_call_from : List Token → Option Command
map_call_from (Key key.Mmap ∷ Number len ∷ Key prot ∷ place) = mmap_from len prot place
map_call_from (Key key.Munmap ∷ Number addr ∷ Number len ∷ []) = Some (Munmap addr len)
map_call_from (Key key.Mremap ∷ Number addr ∷ Number old_len ∷ Number new_len ∷ target) = mremap_from addr old_len new_len target
map_call_from (Key key.DontNeed ∷ Number addr ∷ Number len ∷ []) = Some (DontNeed addr len)
map_call_from _ = None

-- the first command, if there is one, else the other
abbrev pub first_command : Option Command → Option Command → Option Command
first_command (Some command) other = Some command
first_command None other = other

-- the command that tokens stand for
abbrev pub command_from : List Token → Option Command
command_from tokens = first_command (access_from tokens) (map_call_from tokens)

-- the page that begins at the address
abbrev pub page_from : ℕ → Option ℕ
page_from addr = if (addr % PAGE_SIZE == 0) && nat_lt addr HIGH then Some (addr / PAGE_SIZE) else None

-- the epoch that is written, if one is
unfoldable pub epoch_from : List Token → Option (Option ℕ)
epoch_from [] = Some None
epoch_from (Number epoch ∷ []) = below (2 ^ 32) epoch >>= λ e. Some (Some e)
epoch_from _ = None

-- the number of bytes to move; the greatest if none is written
unfoldable pub bytes_from : List Token → Option ℕ
bytes_from [] = Some (2 ^ 64 - 1)
bytes_from (Number bytes ∷ []) = Some bytes
bytes_from _ = None

-- the number of pages of a run, 1 to `MAX_RUN`
abbrev pub count_from : ℕ → Option ℕ
count_from n = small n >>= λ count. if nat_lt 0 count && not (nat_lt MAX_RUN count) then Some count else None

-- Orders, by the tokens after their first word

-- after cpu: a processor and its command
unfoldable pub issue_from : List Token → Option Order
issue_from (Number cpu ∷ command) = small cpu >>= λ k. command_from command >>= λ c. Some (Make (step.Issue k c))
issue_from _ = None

-- after retry: a processor
unfoldable pub retry_from : List Token → Option Order
retry_from (Number cpu ∷ []) = small cpu >>= λ k. Some (Make (step.Retry k))
retry_from _ = None

-- after sendrun: a number of pages
unfoldable pub run_from : List Token → Option Order
run_from (Number n ∷ []) = count_from n >>= λ count. Some (Make (step.SendRun count))
run_from _ = None

-- after notice: a side of the channel
unfoldable pub notice_from : List Token → Option Order
notice_from (Key key.Source ∷ []) = Some (Make (step.Notice side.Source))
notice_from (Key key.Dest ∷ []) = Some (Make (step.Notice side.Destination))
notice_from _ = None

-- after push and upush: the address of a page, and an epoch, which may be left out
unfoldable pub push_from : ForwardWire → List Token → Option Order
push_from wire (Number addr ∷ epoch) = page_from addr >>= λ p. epoch_from epoch >>= λ e. Some (Push wire p e)
push_from wire _ = None

-- the order that a word stands for if no other follows
unfoldable pub word_from : Keyword → Option Order
word_from key.Start = Some (Make step.Start)
word_from key.Round = Some (Make step.Round)
word_from key.Send = Some (Make step.Send)
word_from key.SourceRead = Some (Make step.SourceRead)
word_from key.SourceAct = Some (Make step.SourceAct)
word_from key.Switch = Some (Make step.Switch)
word_from key.DestRead = Some (Make step.DestRead)
word_from key.DestAct = Some (Make step.DestAct)
word_from key.Install = Some (Make step.Install)
word_from key.Serve = Some (Make step.Serve)
word_from key.End = Some (Make step.End)
word_from key.Break = Some (Make step.Break)
word_from key.Resume = Some (Make step.Resume)
word_from key.Progress = Some Progress
word_from _ = None

-- the same; no order if another word follows
unfoldable pub alone_from : Keyword → List Token → Option Order
alone_from word [] = word_from word
alone_from word _ = None

-- the order that a first word and the tokens after it stand for
unfoldable pub order_with : Keyword → List Token → Option Order
order_with key.Cpu behind = issue_from behind
order_with key.Retry behind = retry_from behind
order_with key.SendRun behind = run_from behind
order_with key.Deliver behind = bytes_from behind >>= λ n. Some (Make (step.Deliver n))
order_with key.Back behind = bytes_from behind >>= λ n. Some (Make (step.DeliverBack n))
order_with key.DeliverUrgent behind = bytes_from behind >>= λ n. Some (Make (step.DeliverUrgent n))
order_with key.Push behind = push_from Main behind
order_with key.PushUrgent behind = push_from Urgent behind
order_with key.Notice behind = notice_from behind
order_with word behind = alone_from word behind

-- the order that tokens stand for
unfoldable pub order_from : List Token → Option Order
order_from (Key word ∷ behind) = order_with word behind
order_from _ = None

-- the error number that a word stands for
unfoldable pub errno_from : Keyword → Option Errno
errno_from key.Eperm = Some Eperm
errno_from key.Enoent = Some Enoent
errno_from key.Eagain = Some Eagain
errno_from key.Enomem = Some Enomem
errno_from key.Efault = Some Efault
errno_from key.Eexist = Some Eexist
errno_from key.Einval = Some Einval
errno_from _ = None

-- the reply that tokens stand for
unfoldable pub reply_from : List Token → Option Reply
reply_from (Key key.Value ∷ Number n ∷ []) = Some (Value n)
reply_from (Key key.Done ∷ []) = Some Done
reply_from (Key key.At ∷ Number addr ∷ []) = Some (At addr)
reply_from (Key key.Segv ∷ Key key.Unmapped ∷ []) = Some (Segv false)
reply_from (Key key.Segv ∷ Key key.Protected ∷ []) = Some (Segv true)
reply_from (Key key.Bad ∷ Key key.Access ∷ []) = Some BadAccess
reply_from (Key key.Refused ∷ Key errno ∷ []) = errno_from errno >>= λ e. Some (Refused e)
reply_from _ = None

-- whether a token is =>
abbrev pub is_arrow : Token → Bool
is_arrow (Key key.Gives) = true
is_arrow _ = false

-- the tokens before the first =>, and those after it
abbrev pub at_arrow : List Token → Option (List Token × List Token)
at_arrow [] = None
at_arrow (token ∷ tokens) = if is_arrow token then Some ([], tokens) else at_arrow tokens >>= λ parts. Some (token ∷ parts.0, parts.1)

-- the entry that tokens stand for
unfoldable pub entry_from : List Token → Option Entry
entry_from (Number cpu ∷ tokens) =
    small cpu >>= λ k. at_arrow tokens >>= λ parts. command_from parts.0 >>= λ c. reply_from parts.1 >>= λ r. Some (record { cpu = k; command = c; reply = r })
entry_from _ = None
