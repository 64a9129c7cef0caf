-- The words of a line, and the tokens for which they stand.
use Rattle.std.specs.Prelude.{◌≡◌, ℕ, ◌<◌, ◌^◌, List, ◌∷◌, ◌++◌, length, ◌==◌, codes}
use Rattle.std.specs.List.{slice_split}
use Rattle.words.specs.Words.{IsNumber, AreEach}
use Rattle.uffd_log.specs.declared.call.Descriptor.{Descriptor}
use Rattle.uffd_log.specs.declared.keyword.Keyword.{Keyword}
use Rattle.uffd_log.specs.declared.keyword.Keyword.TheVariants as key
use Rattle.uffd_log.specs.declared.token.Token.{Token}
use Rattle.uffd_log.specs.declared.token.Token.TheVariants.{Key, Number, Minus, On, Error, Text}

-- the parts between the blanks. Where two blanks follow each other, or one is at an end, a part is empty
abbrev pub words_of : List ℕ → List (List ℕ)
words_of text = slice_split (λ b. b == 32) text

-- a minus sign and a number
abbrev pub IsMinus : List ℕ → ℕ → Type 0
IsMinus word n = (text : List ℕ) × (word ≡ 45 ∷ text) × IsNumber text n

-- OBJECT:FD, two numbers with a colon between them; a descriptor fits an int
pub record IsDescriptor (word : List ℕ) (on : Descriptor) : Type 0 where
  pub object : List ℕ
  pub fd : List ℕ
  pub whole : word ≡ object ++ 58 ∷ fd
  pub names : IsNumber object on.object
  pub is : IsNumber fd on.fd
  pub small : on.fd < 2 ^ 31

-- how a keyword is written
abbrev pub keyword_text : Keyword → List ℕ
keyword_text key.Open = codes "open"
keyword_text key.Api = codes "api"
keyword_text key.Register = codes "register"
keyword_text key.Unregister = codes "unregister"
keyword_text key.Wake = codes "wake"
keyword_text key.Copy = codes "copy"
keyword_text key.Move = codes "move"
keyword_text key.ZeroPage = codes "zeropage"
keyword_text key.Continue = codes "continue"
keyword_text key.Poison = codes "poison"
keyword_text key.WriteProtect = codes "writeprotect"
keyword_text key.Read = codes "read"
keyword_text key.Poll = codes "poll"
keyword_text key.NonBlock = codes "nonblock"
keyword_text key.Dup = codes "dup"
keyword_text key.Close = codes "close"
keyword_text key.Scan = codes "scan"
keyword_text key.Mmap = codes "mmap"
keyword_text key.Munmap = codes "munmap"
keyword_text key.Mremap = codes "mremap"
keyword_text key.Madvise = codes "madvise"
keyword_text key.Fork = codes "fork"
keyword_text key.Syscall = codes "syscall"
keyword_text key.Device = codes "device"
keyword_text key.Dash = codes "-"
keyword_text key.Begin = codes "begin"
keyword_text key.End = codes "end"
keyword_text key.Message = codes "message"
keyword_text key.Have = codes "have"
keyword_text key.Found = codes "found"
keyword_text key.Dropped = codes "dropped"
keyword_text key.Started = codes "started"
keyword_text key.Forked = codes "forked"
keyword_text key.Exit = codes "exit"
keyword_text key.Lost = codes "lost"
keyword_text key.Fault = codes "fault"
keyword_text key.Remap = codes "remap"
keyword_text key.Remove = codes "remove"
keyword_text key.Unmap = codes "unmap"
keyword_text key.Ok = codes "ok"
keyword_text key.Interrupted = codes "interrupted"
keyword_text key.Eperm = codes "EPERM"
keyword_text key.Enoent = codes "ENOENT"
keyword_text key.Esrch = codes "ESRCH"
keyword_text key.Eintr = codes "EINTR"
keyword_text key.Eagain = codes "EAGAIN"
keyword_text key.Enomem = codes "ENOMEM"
keyword_text key.Efault = codes "EFAULT"
keyword_text key.Ebusy = codes "EBUSY"
keyword_text key.Eexist = codes "EEXIST"
keyword_text key.Einval = codes "EINVAL"

-- the word is no number, no descriptor and no keyword
pub record IsOther (word : List ℕ) : Type 0 where
  pub some : 0 < length word
  pub number : (n : ℕ) → IsNumber word n → ⊥
  pub minus : (n : ℕ) → IsMinus word n → ⊥
  pub descriptor : (on : Descriptor) → IsDescriptor word on → ⊥
  pub keyword : (keyword : Keyword) → word ≡ keyword_text keyword → ⊥

-- the word begins with E
abbrev pub BeginsWithE : List ℕ → Type 0
BeginsWithE word = (rest : List ℕ) × (word ≡ 69 ∷ rest)

-- the word is one for the token. The name of an error without a keyword begins with E
abbrev pub IsToken : Token → List ℕ → Type 0
IsToken (Key keyword) word = word ≡ keyword_text keyword
IsToken (Number n) word = IsNumber word n
IsToken (Minus n) word = IsMinus word n
IsToken (On on) word = IsDescriptor word on
IsToken Error word = IsOther word × BeginsWithE word
IsToken Text word = IsOther word × ¬ BeginsWithE word

-- each word is one for the token in its place
abbrev pub AreTokens : List Token → List (List ℕ) → Type 0
AreTokens tokens words = AreEach IsToken tokens words
