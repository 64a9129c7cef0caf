-- A keyword is written in one way, and no two are written alike.
use Rattle.std.proofs.Common.{◌≡◌, ℕ, List, [], ◌∷◌, refl, ap, ◌∙◌, sym, cond, true, false, Bool}
use Rattle.std.specs.Prelude.{nat_lt, ◌==◌, ◌&&◌, ◌||◌, not}
use Rattle.std.specs.Str.{bytes_eq}
use Rattle.foundation.specs.Tests.{is_empty}
use Rattle.uffd_log.specs.declared.keyword.Keyword.{Keyword}
use Rattle.uffd_log.specs.declared.keyword.Keyword.TheVariants as key
use Rattle.uffd_log.specs.Words.{keyword_text}

all_keywords : List Keyword
all_keywords = key.Open ∷ key.Api ∷ key.Register ∷ key.Unregister ∷ key.Wake ∷ key.Copy ∷ key.Move ∷ key.ZeroPage ∷ key.Continue ∷ key.Poison ∷ key.WriteProtect ∷ key.Read ∷ key.Poll ∷ key.NonBlock ∷ key.Dup ∷ key.Close ∷ key.Scan ∷ key.Mmap ∷ key.Munmap ∷ key.Mremap ∷ key.Madvise ∷ key.Fork ∷ key.Syscall ∷ key.Device ∷ key.Dash ∷ key.Begin ∷ key.End ∷ key.Message ∷ key.Have ∷ key.Found ∷ key.Dropped ∷ key.Started ∷ key.Forked ∷ key.Exit ∷ key.Lost ∷ key.Fault ∷ key.Remap ∷ key.Remove ∷ key.Unmap ∷ key.Ok ∷ key.Interrupted ∷ key.Eperm ∷ key.Enoent ∷ key.Esrch ∷ key.Eintr ∷ key.Eagain ∷ key.Enomem ∷ key.Efault ∷ key.Ebusy ∷ key.Eexist ∷ key.Einval ∷ []

-- the first keyword of this text
first_of_text : List ℕ → List Keyword → Keyword
first_of_text w [] = key.Open
first_of_text w (k ∷ ks) = cond (bytes_eq (keyword_text k) w) k (first_of_text w ks)

keyword_again : (k : Keyword) → first_of_text (keyword_text k) all_keywords ≡ k
unfolding first_of_text all_keywords
keyword_again key.Open = refl
keyword_again key.Api = refl
keyword_again key.Register = refl
keyword_again key.Unregister = refl
keyword_again key.Wake = refl
keyword_again key.Copy = refl
keyword_again key.Move = refl
keyword_again key.ZeroPage = refl
keyword_again key.Continue = refl
keyword_again key.Poison = refl
keyword_again key.WriteProtect = refl
keyword_again key.Read = refl
keyword_again key.Poll = refl
keyword_again key.NonBlock = refl
keyword_again key.Dup = refl
keyword_again key.Close = refl
keyword_again key.Scan = refl
keyword_again key.Mmap = refl
keyword_again key.Munmap = refl
keyword_again key.Mremap = refl
keyword_again key.Madvise = refl
keyword_again key.Fork = refl
keyword_again key.Syscall = refl
keyword_again key.Device = refl
keyword_again key.Dash = refl
keyword_again key.Begin = refl
keyword_again key.End = refl
keyword_again key.Message = refl
keyword_again key.Have = refl
keyword_again key.Found = refl
keyword_again key.Dropped = refl
keyword_again key.Started = refl
keyword_again key.Forked = refl
keyword_again key.Exit = refl
keyword_again key.Lost = refl
keyword_again key.Fault = refl
keyword_again key.Remap = refl
keyword_again key.Remove = refl
keyword_again key.Unmap = refl
keyword_again key.Ok = refl
keyword_again key.Interrupted = refl
keyword_again key.Eperm = refl
keyword_again key.Enoent = refl
keyword_again key.Esrch = refl
keyword_again key.Eintr = refl
keyword_again key.Eagain = refl
keyword_again key.Enomem = refl
keyword_again key.Efault = refl
keyword_again key.Ebusy = refl
keyword_again key.Eexist = refl
keyword_again key.Einval = refl

pub one_keyword : (j k : Keyword) → keyword_text j ≡ keyword_text k → j ≡ k
one_keyword j k e = sym (keyword_again j) ∙ ap (λ (w : List ℕ). first_of_text w all_keywords) e ∙ keyword_again k

-- the first byte is no digit, and where it is a minus sign no byte comes after it
abbrev pub is_fine : List ℕ → Bool
is_fine [] = false
is_fine (b ∷ bs) = (nat_lt b 48 || nat_lt 57 b) && (not (b == 45) || is_empty bs)

pub keyword_fine : (k : Keyword) → is_fine (keyword_text k) ≡ true
keyword_fine key.Open = refl
keyword_fine key.Api = refl
keyword_fine key.Register = refl
keyword_fine key.Unregister = refl
keyword_fine key.Wake = refl
keyword_fine key.Copy = refl
keyword_fine key.Move = refl
keyword_fine key.ZeroPage = refl
keyword_fine key.Continue = refl
keyword_fine key.Poison = refl
keyword_fine key.WriteProtect = refl
keyword_fine key.Read = refl
keyword_fine key.Poll = refl
keyword_fine key.NonBlock = refl
keyword_fine key.Dup = refl
keyword_fine key.Close = refl
keyword_fine key.Scan = refl
keyword_fine key.Mmap = refl
keyword_fine key.Munmap = refl
keyword_fine key.Mremap = refl
keyword_fine key.Madvise = refl
keyword_fine key.Fork = refl
keyword_fine key.Syscall = refl
keyword_fine key.Device = refl
keyword_fine key.Dash = refl
keyword_fine key.Begin = refl
keyword_fine key.End = refl
keyword_fine key.Message = refl
keyword_fine key.Have = refl
keyword_fine key.Found = refl
keyword_fine key.Dropped = refl
keyword_fine key.Started = refl
keyword_fine key.Forked = refl
keyword_fine key.Exit = refl
keyword_fine key.Lost = refl
keyword_fine key.Fault = refl
keyword_fine key.Remap = refl
keyword_fine key.Remove = refl
keyword_fine key.Unmap = refl
keyword_fine key.Ok = refl
keyword_fine key.Interrupted = refl
keyword_fine key.Eperm = refl
keyword_fine key.Enoent = refl
keyword_fine key.Esrch = refl
keyword_fine key.Eintr = refl
keyword_fine key.Eagain = refl
keyword_fine key.Enomem = refl
keyword_fine key.Efault = refl
keyword_fine key.Ebusy = refl
keyword_fine key.Eexist = refl
keyword_fine key.Einval = refl
