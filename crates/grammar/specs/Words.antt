-- The words of a line, and the tokens for which they stand.
use Rattle.std.specs.Prelude.{◌≡◌, ℕ, ◌<◌, List, ◌∷◌, length, filter, nat_lt, ◌==◌, codes}
use Rattle.std.specs.List.{slice_split}
use Rattle.words.specs.Words.{IsNumber, AreEach}
use Rattle.grammar.specs.declared.keyword.Keyword.{Keyword}
use Rattle.grammar.specs.declared.keyword.Keyword.TheVariants as key
use Rattle.grammar.specs.declared.token.Token.{Token}
use Rattle.grammar.specs.declared.token.Token.TheVariants.{Key, Number}

-- the parts between the spaces that are not empty
abbrev pub words_of : List ℕ → List (List ℕ)
words_of text = filter (λ word. nat_lt 0 (length word)) (slice_split (λ b. b == 32) text)

-- how a keyword is written
abbrev pub keyword_text : Keyword → List ℕ
keyword_text key.Cpu = codes "cpu"
keyword_text key.Load = codes "load"
keyword_text key.Store = codes "store"
keyword_text key.Mmap = codes "mmap"
keyword_text key.Munmap = codes "munmap"
keyword_text key.NoAccess = codes "none"
keyword_text key.Read = codes "r"
keyword_text key.ReadWrite = codes "rw"
keyword_text key.Mremap = codes "mremap"
keyword_text key.DontNeed = codes "dontneed"
keyword_text key.Fixed = codes "fixed"
keyword_text key.NoReplace = codes "noreplace"
keyword_text key.MayMove = codes "maymove"
keyword_text key.Retry = codes "retry"
keyword_text key.Start = codes "start"
keyword_text key.Round = codes "round"
keyword_text key.Send = codes "send"
keyword_text key.SendRun = codes "sendrun"
keyword_text key.SourceRead = codes "sread"
keyword_text key.SourceAct = codes "sact"
keyword_text key.Switch = codes "switch"
keyword_text key.Deliver = codes "deliver"
keyword_text key.Back = codes "back"
keyword_text key.DeliverUrgent = codes "udeliver"
keyword_text key.DestRead = codes "dread"
keyword_text key.DestAct = codes "dact"
keyword_text key.Install = codes "install"
keyword_text key.Push = codes "push"
keyword_text key.PushUrgent = codes "upush"
keyword_text key.Serve = codes "serve"
keyword_text key.End = codes "end"
keyword_text key.Break = codes "break"
keyword_text key.Notice = codes "notice"
keyword_text key.Source = codes "source"
keyword_text key.Dest = codes "dest"
keyword_text key.Resume = codes "resume"
keyword_text key.Progress = codes "progress"
keyword_text key.Gives = codes "=>"
keyword_text key.Value = codes "value"
keyword_text key.Done = codes "done"
keyword_text key.At = codes "at"
keyword_text key.Segv = codes "segv"
keyword_text key.Unmapped = codes "unmapped"
keyword_text key.Protected = codes "protected"
keyword_text key.Bad = codes "bad"
keyword_text key.Access = codes "access"
keyword_text key.Refused = codes "refused"
keyword_text key.Eperm = codes "EPERM"
keyword_text key.Enoent = codes "ENOENT"
keyword_text key.Eagain = codes "EAGAIN"
keyword_text key.Enomem = codes "ENOMEM"
keyword_text key.Efault = codes "EFAULT"
keyword_text key.Eexist = codes "EEXIST"
keyword_text key.Einval = codes "EINVAL"

-- the word stands for the token: it is the keyword as it is written, or a number of this value
abbrev pub IsToken : Token → List ℕ → Type 0
IsToken (Key keyword) word = word ≡ keyword_text keyword
IsToken (Number n) word = IsNumber word n

-- each word stands for the token in its place
abbrev pub AreTokens : List Token → List (List ℕ) → Type 0
AreTokens tokens words = AreEach IsToken tokens words

-- the first word of a text, and what comes after it
pub record FirstWord (text word rest : List ℕ) : Type 0 where
  pub words : words_of text ≡ word ∷ words_of rest
  pub shorter : length rest < length text
