-- The spelling of a line of a script or of a transcript.
use Rattle.std.specs.Prelude.{◌≡◌, ℕ, ◌<◌, ◌≤◌, ◌-◌, ◌*◌, ◌^◌, ◌⊎◌, List, [], ◌∷◌, ◌++◌, Some, slice_get, true, false, Bool, Option, None}
use Rattle.mig_base.specs.declared.command.Command.{Command}
use Rattle.mig_base.specs.declared.command.Command.TheVariants.{Load, Store, Mmap, Munmap, Mremap, DontNeed}
use Rattle.mig_base.specs.declared.command.Place.{Place}
use Rattle.mig_base.specs.declared.command.Place.TheVariants.{Anywhere, Fixed, NoReplace}
use Rattle.mig_base.specs.declared.Prot.{Prot}
use Rattle.mig_base.specs.declared.Prot.TheVariants.{NoAccess, Read, ReadWrite}
use Rattle.mig_base.specs.declared.command.Errno.{Errno}
use Rattle.mig_base.specs.declared.command.Errno.TheVariants.{Eperm, Enoent, Eagain, Enomem, Efault, Eexist, Einval}
use Rattle.mig_base.specs.declared.command.Reply.{Reply}
use Rattle.mig_base.specs.declared.command.Reply.TheVariants.{Value, Done, At, Segv, BadAccess, Refused}
use Rattle.mig_base.specs.declared.command.Entry.{Entry}
use Rattle.mig_base.specs.declared.schedule.Step.{Step}
use Rattle.mig_base.specs.declared.schedule.Step.TheVariants as step
use Rattle.mig_base.specs.declared.schedule.Side.{Side}
use Rattle.mig_base.specs.declared.schedule.Side.TheVariants as side
use Rattle.foundation.specs.declared.TheConstants.{PAGE_SIZE}
use Rattle.mig_base.specs.declared.TheConstants.{HIGH_PAGE, MAX_RUN}
use Rattle.grammar.specs.declared.order.ForwardWire.{ForwardWire}
use Rattle.grammar.specs.declared.order.ForwardWire.TheVariants.{Main, Urgent}
use Rattle.grammar.specs.declared.order.Order.{Order}
use Rattle.grammar.specs.declared.order.Order.TheVariants.{Make, Push, Progress}
use Rattle.grammar.specs.declared.line.Language.{Language}
use Rattle.grammar.specs.declared.line.Language.TheVariants.{Script, Transcript}
use Rattle.grammar.specs.declared.line.Line.{Line}
use Rattle.grammar.specs.declared.line.Line.TheVariants.{Skipped, Do, Enter}
use Rattle.grammar.specs.declared.keyword.Keyword.{Keyword}
use Rattle.grammar.specs.declared.keyword.Keyword.TheVariants as key
use Rattle.grammar.specs.declared.token.Token.{Token}
use Rattle.grammar.specs.declared.token.Token.TheVariants.{Key, Number}
use Rattle.grammar.specs.Words.{words_of, AreTokens}

-- the word for a protection
abbrev pub prot_key : Prot → Keyword
prot_key NoAccess = key.NoAccess
prot_key Read = key.Read
prot_key ReadWrite = key.ReadWrite

-- the words for the place of a new mapping
abbrev pub place_form : Place → List Token
place_form Anywhere = []
place_form (Fixed addr) = Key key.Fixed ∷ Number addr ∷ []
place_form (NoReplace addr) = Key key.NoReplace ∷ Number addr ∷ []

-- the word that lets a mapping move
abbrev pub may_move_form : Bool → List Token
may_move_form false = []
may_move_form true = Key key.MayMove ∷ []

-- the words for the target of a move
abbrev pub fixed_form : Option ℕ → List Token
fixed_form None = []
fixed_form (Some addr) = Key key.Fixed ∷ Number addr ∷ []

-- the tokens of a command, after those of its processor
abbrev pub CommandForm : Command → List Token → Type 0
CommandForm (Load addr width) tokens = (width < 256) × (tokens ≡ Key key.Load ∷ Number addr ∷ Number width ∷ [])
CommandForm (Store addr width value) tokens = (width < 256) × (tokens ≡ Key key.Store ∷ Number addr ∷ Number width ∷ Number value ∷ [])
CommandForm (Mmap len prot place) tokens = tokens ≡ Key key.Mmap ∷ Number len ∷ Key (prot_key prot) ∷ place_form place
CommandForm (Munmap addr len) tokens = tokens ≡ Key key.Munmap ∷ Number addr ∷ Number len ∷ []
CommandForm (Mremap addr old_len new_len may_move fixed) tokens
    = tokens ≡ Key key.Mremap ∷ Number addr ∷ Number old_len ∷ Number new_len ∷ (may_move_form may_move ++ fixed_form fixed)
CommandForm (DontNeed addr len) tokens = tokens ≡ Key key.DontNeed ∷ Number addr ∷ Number len ∷ []

-- the tokens for a number of bytes, which may be left out if it is the greatest
abbrev pub BytesForm : ℕ → List Token → Type 0
BytesForm bytes tokens = (tokens ≡ Number bytes ∷ []) ⊎ ((tokens ≡ []) × (bytes ≡ 2 ^ 64 - 1))

-- a word, and a number of bytes
abbrev pub MovesForm : Keyword → ℕ → List Token → Type 0
MovesForm word bytes tokens = (more : List Token) × (tokens ≡ Key word ∷ more) × BytesForm bytes more

-- the word for a side of the channel
abbrev pub side_key : Side → Keyword
side_key side.Source = key.Source
side_key side.Destination = key.Dest

-- the tokens of a step, but not of a push, which is an order of its own
abbrev pub StepForm : Step → List Token → Type 0
StepForm (step.Issue cpu command) tokens = (cpu < 256) × (more : List Token) × (tokens ≡ Key key.Cpu ∷ Number cpu ∷ more) × CommandForm command more
StepForm (step.Retry cpu) tokens = (cpu < 256) × (tokens ≡ Key key.Retry ∷ Number cpu ∷ [])
StepForm step.Start tokens = tokens ≡ Key key.Start ∷ []
StepForm step.Round tokens = tokens ≡ Key key.Round ∷ []
StepForm step.Send tokens = tokens ≡ Key key.Send ∷ []
StepForm (step.SendRun count) tokens = (0 < count) × (count ≤ MAX_RUN) × (tokens ≡ Key key.SendRun ∷ Number count ∷ [])
StepForm step.SourceRead tokens = tokens ≡ Key key.SourceRead ∷ []
StepForm step.SourceAct tokens = tokens ≡ Key key.SourceAct ∷ []
StepForm step.Switch tokens = tokens ≡ Key key.Switch ∷ []
StepForm (step.Deliver n) tokens = MovesForm key.Deliver n tokens
StepForm (step.DeliverBack n) tokens = MovesForm key.Back n tokens
StepForm step.DestRead tokens = tokens ≡ Key key.DestRead ∷ []
StepForm step.DestAct tokens = tokens ≡ Key key.DestAct ∷ []
StepForm step.Install tokens = tokens ≡ Key key.Install ∷ []
StepForm (step.Push ticket) tokens = ⊥
StepForm (step.PushUrgent ticket) tokens = ⊥
StepForm (step.DeliverUrgent n) tokens = MovesForm key.DeliverUrgent n tokens
StepForm step.Serve tokens = tokens ≡ Key key.Serve ∷ []
StepForm step.End tokens = tokens ≡ Key key.End ∷ []
StepForm step.Break tokens = tokens ≡ Key key.Break ∷ []
StepForm (step.Notice at) tokens = tokens ≡ Key key.Notice ∷ Key (side_key at) ∷ []
StepForm step.Resume tokens = tokens ≡ Key key.Resume ∷ []

-- the word for a push, by its wire
abbrev pub push_key : ForwardWire → Keyword
push_key Main = key.Push
push_key Urgent = key.PushUrgent

-- the tokens for an epoch, which may be left out
abbrev pub epoch_form : Option ℕ → List Token
epoch_form None = []
epoch_form (Some epoch) = Number epoch ∷ []

-- an epoch that is written fits 32 bits
abbrev pub FitsEpoch : Option ℕ → Type 0
FitsEpoch None = Unit {0}
FitsEpoch (Some epoch) = epoch < 2 ^ 32

-- the tokens of an order. A page is written as its first address
abbrev pub OrderForm : Order → List Token → Type 0
OrderForm (Make made) tokens = StepForm made tokens
OrderForm (Push wire page epoch) tokens = (page < HIGH_PAGE) × FitsEpoch epoch × (tokens ≡ Key (push_key wire) ∷ Number (PAGE_SIZE * page) ∷ epoch_form epoch)
OrderForm Progress tokens = tokens ≡ Key key.Progress ∷ []

-- the word for an error number
abbrev pub errno_key : Errno → Keyword
errno_key Eperm = key.Eperm
errno_key Enoent = key.Enoent
errno_key Eagain = key.Eagain
errno_key Enomem = key.Enomem
errno_key Efault = key.Efault
errno_key Eexist = key.Eexist
errno_key Einval = key.Einval

-- the tokens of a reply
abbrev pub reply_form : Reply → List Token
reply_form (Value n) = Key key.Value ∷ Number n ∷ []
reply_form Done = Key key.Done ∷ []
reply_form (At addr) = Key key.At ∷ Number addr ∷ []
reply_form (Segv false) = Key key.Segv ∷ Key key.Unmapped ∷ []
reply_form (Segv true) = Key key.Segv ∷ Key key.Protected ∷ []
reply_form BadAccess = Key key.Bad ∷ Key key.Access ∷ []
reply_form (Refused errno) = Key key.Refused ∷ Key (errno_key errno) ∷ []

-- the tokens of an entry: its processor, its command, => and its reply
abbrev pub EntryForm : Entry → List Token → Type 0
EntryForm entry tokens = (entry.cpu < 256) × (command : List Token) × (tokens ≡ Number entry.cpu ∷ (command ++ Key key.Gives ∷ reply_form entry.reply)) × CommandForm entry.command command

-- a line with nothing to do: it has no word, or its first word begins with #
abbrev pub IsNothing : List (List ℕ) → Type 0
IsNothing [] = Unit {0}
IsNothing (word ∷ words) = slice_get word 0 ≡ Some 35

-- the words spell this order
abbrev pub SpellsOrder : List (List ℕ) → Order → Type 0
SpellsOrder words order = (tokens : List Token) × AreTokens tokens words × OrderForm order tokens

-- the words spell this entry
abbrev pub SpellsEntry : List (List ℕ) → Entry → Type 0
SpellsEntry words entry = (tokens : List Token) × AreTokens tokens words × EntryForm entry tokens

-- the text of a line, without its line feed, spells this in the language
abbrev pub Spells : Language → List ℕ → Line → Type 0
Spells language text Skipped = IsNothing (words_of text)
Spells Script text (Do order) = SpellsOrder (words_of text) order
Spells Transcript text (Enter entry) = SpellsEntry (words_of text) entry
Spells Script text (Enter entry) = ⊥
Spells Transcript text (Do order) = ⊥

-- some text spells this in the language
abbrev pub HasSpelling : Language → Line → Type 0
HasSpelling language line = (text : List ℕ) × Spells language text line
