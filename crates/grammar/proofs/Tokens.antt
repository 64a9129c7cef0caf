-- A word is one token, and a line one list of tokens.
use Rattle.std.proofs.Common.{◌≡◌, ℕ, ◌<◌, slice_index_or, List, [], ◌∷◌, arith, refl, ap, ◌∙◌, sym, subst, ◌≤◌, lit≤, cond, Some}
use Rattle.std.specs.Prelude.{slice_get}
use Rattle.std.specs.Str.{bytes_eq}
use Rattle.grammar.specs.declared.keyword.Keyword.{Keyword}
use Rattle.grammar.specs.declared.keyword.Keyword.TheVariants as key
use Rattle.grammar.specs.declared.token.Token.TheVariants.{Key, Number}
use Rattle.grammar.proofs.Keywords.{all_keywords}
use Rattle.grammar.specs.declared.token.Token.{Token}
use Rattle.grammar.specs.Words.{keyword_text, IsToken, AreTokens}
use Rattle.words.specs.Words.{IsNumber}
use Rattle.words.proofs.Numbers.{BeginsWithDigit, not_first, number_first, one_number}
use Rattle.words.proofs.Tokens.{one_list as only}

-- the first byte of a keyword comes after the digits
pub first_no_digit : (k : Keyword) → (b : ℕ) × (bs : List ℕ) × (keyword_text k ≡ b ∷ bs) × (58 ≤ b)
first_no_digit key.Cpu = (_, _, refl, lit≤ tt)
first_no_digit key.Load = (_, _, refl, lit≤ tt)
first_no_digit key.Store = (_, _, refl, lit≤ tt)
first_no_digit key.Mmap = (_, _, refl, lit≤ tt)
first_no_digit key.Munmap = (_, _, refl, lit≤ tt)
first_no_digit key.NoAccess = (_, _, refl, lit≤ tt)
first_no_digit key.Read = (_, _, refl, lit≤ tt)
first_no_digit key.ReadWrite = (_, _, refl, lit≤ tt)
first_no_digit key.Mremap = (_, _, refl, lit≤ tt)
first_no_digit key.DontNeed = (_, _, refl, lit≤ tt)
first_no_digit key.Fixed = (_, _, refl, lit≤ tt)
first_no_digit key.NoReplace = (_, _, refl, lit≤ tt)
first_no_digit key.MayMove = (_, _, refl, lit≤ tt)
first_no_digit key.Retry = (_, _, refl, lit≤ tt)
first_no_digit key.Start = (_, _, refl, lit≤ tt)
first_no_digit key.Round = (_, _, refl, lit≤ tt)
first_no_digit key.Send = (_, _, refl, lit≤ tt)
first_no_digit key.SendRun = (_, _, refl, lit≤ tt)
first_no_digit key.SourceRead = (_, _, refl, lit≤ tt)
first_no_digit key.SourceAct = (_, _, refl, lit≤ tt)
first_no_digit key.Switch = (_, _, refl, lit≤ tt)
first_no_digit key.Deliver = (_, _, refl, lit≤ tt)
first_no_digit key.Back = (_, _, refl, lit≤ tt)
first_no_digit key.DeliverUrgent = (_, _, refl, lit≤ tt)
first_no_digit key.DestRead = (_, _, refl, lit≤ tt)
first_no_digit key.DestAct = (_, _, refl, lit≤ tt)
first_no_digit key.Install = (_, _, refl, lit≤ tt)
first_no_digit key.Push = (_, _, refl, lit≤ tt)
first_no_digit key.PushUrgent = (_, _, refl, lit≤ tt)
first_no_digit key.Serve = (_, _, refl, lit≤ tt)
first_no_digit key.End = (_, _, refl, lit≤ tt)
first_no_digit key.Break = (_, _, refl, lit≤ tt)
first_no_digit key.Notice = (_, _, refl, lit≤ tt)
first_no_digit key.Source = (_, _, refl, lit≤ tt)
first_no_digit key.Dest = (_, _, refl, lit≤ tt)
first_no_digit key.Resume = (_, _, refl, lit≤ tt)
first_no_digit key.Progress = (_, _, refl, lit≤ tt)
first_no_digit key.Gives = (_, _, refl, lit≤ tt)
first_no_digit key.Value = (_, _, refl, lit≤ tt)
first_no_digit key.Done = (_, _, refl, lit≤ tt)
first_no_digit key.At = (_, _, refl, lit≤ tt)
first_no_digit key.Segv = (_, _, refl, lit≤ tt)
first_no_digit key.Unmapped = (_, _, refl, lit≤ tt)
first_no_digit key.Protected = (_, _, refl, lit≤ tt)
first_no_digit key.Bad = (_, _, refl, lit≤ tt)
first_no_digit key.Access = (_, _, refl, lit≤ tt)
first_no_digit key.Refused = (_, _, refl, lit≤ tt)
first_no_digit key.Eperm = (_, _, refl, lit≤ tt)
first_no_digit key.Enoent = (_, _, refl, lit≤ tt)
first_no_digit key.Eagain = (_, _, refl, lit≤ tt)
first_no_digit key.Enomem = (_, _, refl, lit≤ tt)
first_no_digit key.Efault = (_, _, refl, lit≤ tt)
first_no_digit key.Eexist = (_, _, refl, lit≤ tt)
first_no_digit key.Einval = (_, _, refl, lit≤ tt)

keyword_no_number : (k : Keyword) (w : List ℕ) (n : ℕ) → w ≡ keyword_text k → IsNumber w n → ⊥
keyword_no_number k w n e h =
    let l = first_no_digit k in
    not_first l.0 l.1 n (λ low high. absurd (omega (arith, l.3, high))) (subst (λ (t : List ℕ). IsNumber t n) (e ∙ l.2) h)

above_digits : (b : ℕ) (bs : List ℕ) → 58 ≤ b → slice_index_or (b ∷ bs) 0 0 < 58 → ⊥
above_digits b bs le lt = absurd (omega (arith, le, lt))

-- no keyword begins with a digit
pub digit_no_keyword : (k : Keyword) (w : List ℕ) → w ≡ keyword_text k → slice_index_or w 0 0 < 58 → ⊥
digit_no_keyword k w e lt =
    let l = first_no_digit k in
    above_digits l.0 l.1 l.3 (subst (λ (t : List ℕ). slice_index_or t 0 0 < 58) (e ∙ l.2) lt)

no_mark : (b : ℕ) → 48 ≤ b → b ≡ 35 → ⊥
no_mark b low e = absurd (omega (arith, low, e))

-- a number begins with no #
pub number_no_comment : (w : List ℕ) (n : ℕ) → IsNumber w n → slice_get w 0 ≡ Some 35 → ⊥
unfolding BeginsWithDigit
number_no_comment w n h e =
    let first = number_first w n h in
    no_mark first.0 first.3 (first_is first.0 first.1 (subst (λ (t : List ℕ). slice_get t 0 ≡ Some 35) first.2 e)) where
      first_is : (b : ℕ) (bs : List ℕ) → slice_get (b ∷ bs) 0 ≡ Some 35 → b ≡ 35
      first_is b bs same = cc

-- the first keyword of this text
first_of_text : List ℕ → List Keyword → Keyword
first_of_text w [] = key.Cpu
first_of_text w (k ∷ ks) = cond (bytes_eq (keyword_text k) w) k (first_of_text w ks)

keyword_again : (k : Keyword) → first_of_text (keyword_text k) all_keywords ≡ k
unfolding first_of_text
keyword_again key.Cpu = refl
keyword_again key.Load = refl
keyword_again key.Store = refl
keyword_again key.Mmap = refl
keyword_again key.Munmap = refl
keyword_again key.NoAccess = refl
keyword_again key.Read = refl
keyword_again key.ReadWrite = refl
keyword_again key.Mremap = refl
keyword_again key.DontNeed = refl
keyword_again key.Fixed = refl
keyword_again key.NoReplace = refl
keyword_again key.MayMove = refl
keyword_again key.Retry = refl
keyword_again key.Start = refl
keyword_again key.Round = refl
keyword_again key.Send = refl
keyword_again key.SendRun = refl
keyword_again key.SourceRead = refl
keyword_again key.SourceAct = refl
keyword_again key.Switch = refl
keyword_again key.Deliver = refl
keyword_again key.Back = refl
keyword_again key.DeliverUrgent = refl
keyword_again key.DestRead = refl
keyword_again key.DestAct = refl
keyword_again key.Install = refl
keyword_again key.Push = refl
keyword_again key.PushUrgent = refl
keyword_again key.Serve = refl
keyword_again key.End = refl
keyword_again key.Break = refl
keyword_again key.Notice = refl
keyword_again key.Source = refl
keyword_again key.Dest = refl
keyword_again key.Resume = refl
keyword_again key.Progress = refl
keyword_again key.Gives = refl
keyword_again key.Value = refl
keyword_again key.Done = refl
keyword_again key.At = refl
keyword_again key.Segv = refl
keyword_again key.Unmapped = refl
keyword_again key.Protected = refl
keyword_again key.Bad = refl
keyword_again key.Access = refl
keyword_again key.Refused = refl
keyword_again key.Eperm = refl
keyword_again key.Enoent = refl
keyword_again key.Eagain = refl
keyword_again key.Enomem = refl
keyword_again key.Efault = refl
keyword_again key.Eexist = refl
keyword_again key.Einval = refl

one_keyword : (j k : Keyword) → keyword_text j ≡ keyword_text k → j ≡ k
one_keyword j k e = sym (keyword_again j) ∙ ap (λ (w : List ℕ). first_of_text w all_keywords) e ∙ keyword_again k

one_token : (s t : Token) (w : List ℕ) → IsToken s w → IsToken t w → s ≡ t
one_token (Key j) (Key k) w p q = ap (λ (x : Keyword). Key x) (one_keyword j k (sym p ∙ q))
one_token (Key j) (Number n) w p q = absurd (keyword_no_number j w n p q)
one_token (Number n) (Key k) w p q = absurd (keyword_no_number k w n q p)
one_token (Number m) (Number n) w p q = ap (λ (x : ℕ). Number x) (one_number w m n p q)

pub one_list : (ss ts : List Token) (ws : List (List ℕ)) → AreTokens ss ws → AreTokens ts ws → ss ≡ ts
one_list ss ts ws p q = only IsToken one_token ss ts ws p q
