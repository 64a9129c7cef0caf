-- What the reader of lines does with one line.
use Rattle.std.proofs.Common.{◌≡◌, ℕ, ◌+◌, ◌<◌, ◌≤◌, IsTrue, Bool, true, false, List, [], ◌∷◌, ◌++◌, length, Option, Some, None, refl, sym, ap, subst, ◌∙◌, append_assoc, append-nil, inl, inr, arith}
use Rattle.std.specs.Prelude.{IsNone, IsSome, IfNone, IfSome, codes, string_bytes}
use Rattle.std.specs.List.{concat}
use Rattle.std.proofs.lemmas.List.Folds.{concat-append}
use Rattle.uffd_log.specs.declared.line.Line.{Line}
use Rattle.uffd_log.specs.Lines.{Spells}
use Rattle.call_log.specs.declared.log_reader.LogReader.{LogReader}
use Rattle.call_log.specs.declared.head.Head.{Head}
use Rattle.call_log.specs.declared.wrong.Wrong.{Wrong}
use Rattle.call_log.specs.Listing.{IsListed, AreListed, IsRight, BeginsWith, head_word}
use Rattle.call_log.specs.Reading.{Adds, AddsAny, Enters, Reads, Takes, TakesLine}
use Rattle.log_entries.specs.declared.entry_reader.EntryReader.{EntryReader}

pub adds_one : (old new : LogReader) (text : List ℕ) → IsListed (string_bytes old.name) old.line text → new.output.items ≡ old.output.items ++ text → new.is_right ≡ false → string_bytes new.name ≡ string_bytes old.name → new.line ≡ old.line
    → Adds old.line old (text ∷ []) new
adds_one old new text listed output wrong name line = record {
  listed = (listed, tt);
  output = output ∙ ap (λ (t : List ℕ). old.output.items ++ t) (sym (append-nil text));
  right = ((λ t. let f : false ≡ true = subst (λ (b : Bool). IsTrue b) wrong t in absurd (cc)), (λ p. let e : text ∷ [] ≡ [] = p.1 in absurd (cc)));
  name = name;
  line = line;
}

pub adds_none : (old new : LogReader) → new.output.items ≡ old.output.items → new.is_right ≡ old.is_right → string_bytes new.name ≡ string_bytes old.name → new.line ≡ old.line → Adds old.line old [] new
adds_none old new output right name line = record {
  listed = tt;
  output = output ∙ sym (append-nil old.output.items);
  right = ((λ t. (subst (λ (b : Bool). IsTrue b) right t, refl)), (λ p. subst (λ (b : Bool). IsTrue b) (sym right) p.0));
  name = name;
  line = line;
}

listed_then : (name : List ℕ) (n : ℕ) (xs ys : List (List ℕ)) → AreListed name n xs → AreListed name n ys → AreListed name n (xs ++ ys)
listed_then name n [] ys p q = q
listed_then name n (x ∷ xs) ys p q = (p.0, listed_then name n xs ys p.1 q)

both_none : (xs ys : List (List ℕ)) → xs ++ ys ≡ [] → (xs ≡ []) × (ys ≡ [])
both_none [] ys e = (refl, e)
both_none (x ∷ xs) ys e = absurd (cc)

pub adds_then : (a b c : LogReader) (xs ys : List (List ℕ)) → Adds a.line a xs b → Adds b.line b ys c → Adds a.line a (xs ++ ys) c
adds_then a b c xs ys p q = record {
  listed = listed_then (string_bytes a.name) a.line xs ys p.listed (subst (λ (n : ℕ). AreListed (string_bytes a.name) n ys) p.line (subst (λ (s : List ℕ). AreListed s b.line ys) p.name q.listed));
  output = q.output ∙ ap (λ (t : List ℕ). t ++ concat ys) p.output ∙ append_assoc a.output.items (concat xs) (concat ys) ∙ ap (λ (t : List ℕ). a.output.items ++ t) (sym (concat-append xs ys));
  right = (
    (λ t. let s = q.right.0 t in let r = p.right.0 s.0 in (r.0, rw (r.1, s.1) refl)),
    (λ t. let e = both_none xs ys t.1 in q.right.1 (p.right.1 (t.0, e.0), e.1)),
  );
  name = q.name ∙ p.name;
  line = q.line ∙ p.line;
}

spelled : (raw : List ℕ) (line : Option Line) (n : ℕ) (old new : EntryReader) → IsSome line → IfSome line (λ l. Spells raw l) → IfSome line (λ l. Reads n l old new) → (l : Line) × Spells raw l × Reads n l old new
spelled raw None n old new some found read = let e : false ≡ true = some in absurd (cc)
spelled raw (Some l) n old new some found read = (l, found, read)

pub right_of : (n : ℕ) (head : Head) (entries : EntryReader) (raw : List ℕ) (new : LogReader) → Enters n head entries raw new → IsRight head.read raw new.head.read
right_of n head entries raw new (inl h) = inl (h.0, h.1, h.2)
right_of n head entries raw new (inr b) = inr (b.0, (b.1.0, b.1.1), b.2)

-- The line after those that were read

-- the reader is as it was, but for the number of the line, and for what no contract speaks of
pub record Numbers (old mid : LogReader) : Type 0 where
  pub line : mid.line ≡ old.line + 1
  pub name : string_bytes mid.name ≡ string_bytes old.name
  pub output : mid.output.items ≡ old.output.items
  pub right : mid.is_right ≡ old.is_right
  pub head : mid.head ≡ old.head
  pub entries : mid.entries ≡ old.entries

taken : (old mid new : LogReader) (raw : List ℕ) (ended : Bool) (texts : List (List ℕ)) → Numbers old mid → (old.line ≡ 0 → raw ≡ codes "uffdlog 1") → Adds mid.line mid texts new
    → (texts ≡ [] → (length raw < 4096) × (ended ≡ true) × Enters (old.line + 1) old.head old.entries raw new) → old.head.read ≤ new.head.read → TakesLine old raw ended new
taken old mid new raw ended texts numbers first adds is_right more = record {
  texts = texts;
  listed = subst (λ (n : ℕ). AreListed (string_bytes old.name) n texts) numbers.line (subst (λ (s : List ℕ). AreListed s mid.line texts) numbers.name adds.listed);
  output = adds.output ∙ ap (λ (t : List ℕ). t ++ concat texts) numbers.output;
  right = (
    (λ t. let r = adds.right.0 t in (subst (λ (b : Bool). IsTrue b) numbers.right r.0, r.1)),
    (λ r. adds.right.1 (subst (λ (b : Bool). IsTrue b) (sym numbers.right) r.0, r.1)),
  );
  name = adds.name ∙ numbers.name;
  line = adds.line ∙ numbers.line;
  first = first;
  is_right = is_right;
  more = more;
}

pub taken_listed : (old mid new : LogReader) (raw : List ℕ) (ended : Bool) (text : List ℕ) → Numbers old mid → (old.line ≡ 0 → raw ≡ codes "uffdlog 1") → Adds mid.line mid (text ∷ []) new → new.head ≡ mid.head → TakesLine old raw ended new
taken_listed old mid new raw ended text numbers first adds head =
    taken old mid new raw ended (text ∷ []) numbers first adds (λ none. absurd (cc)) (subst (λ (h : Head). old.head.read ≤ h.read) (sym (head ∙ numbers.head)) (omega arith))

pub taken_whole : (old mid new : LogReader) (raw : List ℕ) (ended : Bool) → Numbers old mid → (old.line ≡ 0 → raw ≡ codes "uffdlog 1") → length raw < 4096 → ended ≡ true → Takes mid raw new → TakesLine old raw ended new
taken_whole old mid new raw ended numbers first short whole takes =
    taken old mid new raw ended takes.texts numbers first takes.adds (λ none. (short, whole, subst (λ (n : ℕ). Enters n old.head old.entries raw new) numbers.line (subst (λ (h : Head). Enters mid.line h old.entries raw new) numbers.head (subst (λ (r : EntryReader). Enters mid.line mid.head r raw new) numbers.entries (takes.is_right none)))))
    (subst (λ (h : Head). h.read ≤ new.head.read) numbers.head takes.more)

-- A line that has the form of one

-- the reader is as it was, but for its head, and for what no contract speaks of
pub record Same (old mid : LogReader) : Type 0 where
  pub line : mid.line ≡ old.line
  pub name : string_bytes mid.name ≡ string_bytes old.name
  pub output : mid.output.items ≡ old.output.items
  pub right : mid.is_right ≡ old.is_right

pub takes_any : (old mid new : LogReader) (raw : List ℕ) (P : Type 0) → Same old mid → AddsAny P mid new → (P → Enters old.line old.head old.entries raw new) → old.head.read ≤ new.head.read → Takes old raw new
takes_any old mid new raw P same any is_right more = record {
  texts = any.0;
  adds = record {
    listed = subst (λ (n : ℕ). AreListed (string_bytes old.name) n any.0) same.line (subst (λ (s : List ℕ). AreListed s mid.line any.0) same.name any.1.listed);
    output = any.1.output ∙ ap (λ (t : List ℕ). t ++ concat any.0) same.output;
    right = (
      (λ t. let r = any.1.right.0 t in (subst (λ (b : Bool). IsTrue b) same.right r.0, r.1)),
      (λ r. any.1.right.1 (subst (λ (b : Bool). IsTrue b) (sym same.right) r.0, r.1)),
    );
    name = any.1.name ∙ same.name;
    line = any.1.line ∙ same.line;
  };
  is_right = λ none. is_right (any.4 none);
  more = more;
}

-- after a head that is not whole
pub takes_after : (old mid new : LogReader) (raw text : List ℕ) → Adds old.line old (text ∷ []) mid → old.head.read < 6 → mid.head.read ≡ 6 → Takes mid raw new → Takes old raw new
takes_after old mid new raw text adds few six takes = record {
  texts = text ∷ takes.texts;
  adds = adds_then old mid new (text ∷ []) takes.texts adds takes.adds;
  is_right = λ none. absurd (cc);
  more = omega (arith, takes.more);
}

pub adds_text : (old new : LogReader) (text : List ℕ) (P : Type 0) → Adds old.line old (text ∷ []) new × (new.head ≡ old.head) × (new.entries ≡ old.entries) → AddsAny P old new
adds_text old new text P adds = (text ∷ [], adds.0, adds.1, adds.2, λ none. absurd (cc))

from_none : {A : Type 0} (o : Option A) (P : Type 0) → IfNone o P → IsNone o → P
from_none None P h is = h
from_none (Some x) P h is = let e : true ≡ false = is in absurd (cc)

pub takes_below : (old mid new : LogReader) (raw : List ℕ) (line : Option Line) (wrong : Option Wrong) → Same old mid → mid.head ≡ old.head → IfSome line (λ l. Reads old.line l old.entries mid.entries) → 6 ≤ old.head.read → IfSome line (λ l. Spells raw l)
    → IfNone wrong (IsSome line) → AddsAny (IsNone wrong) mid new → Takes old raw new
takes_below old mid new raw line wrong same head entered over found some any =
    let read : new.head.read ≡ old.head.read = ap (λ (h : Head). h.read) (any.2 ∙ head) in
    takes_any old mid new raw (IsNone wrong) same any
    (λ none.
    let s = spelled raw line old.line old.entries mid.entries (from_none wrong (IsSome line) some none) found entered in
    inr (over, (s.0, s.1, subst (λ (r : EntryReader). Reads old.line s.0 old.entries r) (sym any.3) s.2), read))
    (omega (arith, read))

pub takes_head : (old mid new : LogReader) (raw : List ℕ) (wrong : Option Wrong) → Same old mid → mid.entries ≡ old.entries → mid.head.read ≡ old.head.read + 1 → old.head.read < 6 → BeginsWith (head_word old.head.read) raw → AddsAny (IsNone wrong) mid new
    → Takes old raw new
takes_head old mid new raw wrong same entries head few begins any =
    let read : new.head.read ≡ old.head.read + 1 = ap (λ (h : Head). h.read) any.2 ∙ head in
    takes_any old mid new raw (IsNone wrong) same any (λ none. inl (few, begins, read, any.3 ∙ entries)) (omega (arith, read))
