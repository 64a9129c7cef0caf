-- Lines of a log that are read in pieces: it does not matter where the pieces end.
use Rattle.std.proofs.Common.{◌≡◌, ℕ, ◌+◌, ◌<◌, ◌≤◌, ◌↔◌, IsTrue, Bool, true, false, List, [], ◌∷◌, ◌++◌, length, take, Option, Some, None, refl, sym, ap, subst, ◌∙◌, append_assoc, append-nil, length-append, inl, inr, arith, ◌-◌, min, nat_lt, ◌⊎◌}
use Rattle.std.specs.Prelude.{IfSome, IsSome, codes, string_bytes}
use Rattle.std.specs.Fmt.{decimal}
use Rattle.std.proofs.lemmas.List.{take_all, take_min, length-take, take-append-le}
use Rattle.std.proofs.Math.Seq.{take-append-add}
use Rattle.std.proofs.lemmas.Bool.Decides.{nat_tests}
use Rattle.call_log.specs.declared.head.Head.{Head}
use Rattle.std.specs.List.{concat}
use Rattle.std.specs.Io.KnownBytes.{Consumes, IsAtEnd}
use Rattle.std.proofs.KnownBytes.{Appends-nil, Appends-trans, Consumes-nil, Consumes-trans}
use Rattle.call_log.specs.declared.log_reader.LogReader.{LogReader}
use Rattle.call_log.specs.declared.input.LineReader.{LineReader}
use Rattle.call_log.specs.declared.complete.ReadLog.{ReadLog}
use Rattle.uffd_log.specs.declared.line.Line.{Line}
use Rattle.uffd_log.specs.Lines.{Spells}
use Rattle.log_entries.specs.declared.entry_reader.EntryReader.{EntryReader}
use Rattle.log_entries.specs.declared.log_line.LogLine.{LogLine}
use Rattle.log_entries.specs.Readers.{HasRead}
use Rattle.lines.proofs.Cuts.{joined_push, no_feed-append}
use Rattle.call_log.proofs.Lines.{right_of}
use Rattle.call_log.specs.Listing.{AreLines, BeginsWith, IsLog, head_word, HasNoFeed, ListsLine, Lists, IsRead, ReadsLog, joined, AreListed, IsRight}
use Rattle.call_log.specs.Reading.{At, Completes, Enters, IsNew, IsWhole, Leads, EndsLine, Ran, Writes, Finished, ReadsLines, AddsAny}

-- a line more
lists_push : (name : List ℕ) (n m before : ℕ) (raws : List (List ℕ)) (t : List ℕ) (mid : ℕ) (raw : List ℕ) (texts : List (List ℕ)) (after : ℕ) → Lists name n before raws t mid → m ≡ n + length raws → HasNoFeed raw
    → ListsLine name m mid raw texts after → Lists name n before (raws ++ raw ∷ []) (t ++ concat texts) after
lists_push name n m before [] t mid raw texts after p e one lists =
    let number : m ≡ n = omega (arith, e) in
    let lists1 : ListsLine name n before raw texts after = subst (λ (k : ℕ). ListsLine name n k raw texts after) p.1 (subst (λ (k : ℕ). ListsLine name k mid raw texts after) number lists) in
    (texts, [], after, one, lists1, ap (λ (z : List ℕ). z ++ concat texts) p.0 ∙ sym (append-nil (concat texts)), (refl, refl))
lists_push name n m before (x ∷ xs) t mid raw texts after p e one lists =
    (p.0, p.1 ++ concat texts, p.2, p.3, p.4, ap (λ (z : List ℕ). z ++ concat texts) p.5 ∙ append_assoc (concat p.0) p.1 (concat texts), lists_push name (n + 1) m p.2 xs p.1 mid raw texts after p.6 (omega (arith, e)) one lists)

pub at_new : (name : List ℕ) (p : LineReader) (w : Option (List ℕ)) → IsNew name p.lines → p.held.items ≡ [] → At name [] w p w
at_new name p w new held = record {
  raws = [];
  held = [];
  written = [];
  whole = refl;
  lists = (new.output, new.head);
  number = new.line;
  named = new.named;
  right = ((λ _. new.output), (λ _. rw new.right refl));
  is_held = held;
  one = tt;
  appends = Appends-nil w;
  entered = λ _. ([], (refl, new.head), new.entries);
}

-- The open line

total : (m n : ℕ) → (m ≤ n) ⊎ (n ≤ m)
total m n = elim (nat_lt m n) as (λ b. nat_lt m n ≡ b → (m ≤ n) ⊎ (n ≤ m)) [ true ↦ λ e. inl (grind (arith, nat_tests)) | false ↦ λ e. inr (grind (arith, nat_tests)) ] refl

pub front_then : (front held bytes : List ℕ) (room : ℕ) → front ≡ take 4097 held → room ≡ min (4097 - length front) (length bytes) → front ++ take room bytes ≡ take 4097 (held ++ bytes)
front_then front held bytes room is e =
    let some : room ≡ min (4097 - length (take 4097 held)) (length bytes) = e ∙ ap (λ (f : List ℕ). min (4097 - length f) (length bytes)) is in
    let less : 4097 - length (take 4097 held) ≡ 4097 - min 4097 (length held) = ap (λ (n : ℕ). 4097 - n) (length-take 4097 held) in
    rw (is, some, take_min) (elim (total 4097 (length held)) [
      | inl long ↦
          let none : 4097 - length (take 4097 held) ≡ 0 = omega (arith, less) in
          rw (none, take-append-le 4097 held bytes long) (append-nil (take 4097 held))
      | inr short ↦
          let rest : 4097 - length (take 4097 held) ≡ 4097 - length held = omega (arith, less) in
          let sum : 4097 ≡ length held + (4097 - length held) = omega arith in
          rw (rest, take_all 4097 held short) (sym (ap (λ (n : ℕ). take n (held ++ bytes)) sum ∙ take-append-add held bytes (4097 - length held)))
    ])

-- bytes that are fewer than were kept are all
whole_line : (items held : List ℕ) → items ≡ take 4097 held → length items < 4097 → items ≡ held
whole_line items held is few =
    let n : length items ≡ min 4097 (length held) = ap length is ∙ length-take 4097 held in
    let short : length held ≤ 4097 = omega (arith, n, few) in
    is ∙ take_all 4097 held short

whole_none : (held : List ℕ) → take 4097 held ≡ [] → held ≡ []
whole_none [] e = refl
whole_none (x ∷ xs) e = let n : length (take 4097 (x ∷ xs)) ≡ min 4097 (length (x ∷ xs)) = length-take 4097 (x ∷ xs) in
    let z : length (take 4097 (x ∷ xs)) ≡ 0 = ap length e in
    absurd (omega (arith, n, z))

pub leads_held : (p q : LineReader) (w : Option (List ℕ)) (bytes : List ℕ) (room : ℕ) → HasNoFeed bytes → room ≡ min (4097 - length p.held.items) (length bytes) → q.held.items ≡ p.held.items ++ take room bytes → q.lines ≡ p.lines
    → Leads p w bytes q w
leads_held p q w bytes room one is held same = λ name read before at. record {
  raws = at.raws;
  held = at.held ++ bytes;
  written = at.written;
  whole = ap (λ (t : List ℕ). t ++ bytes) at.whole ∙ append_assoc (joined at.raws) at.held bytes;
  lists = subst (λ (l : LogReader). Lists name 1 0 at.raws (at.written ++ l.output.items) l.head.read) (sym same) at.lists;
  number = ap (λ (l : LogReader). l.line) same ∙ at.number;
  named = ap (λ (l : LogReader). string_bytes l.name) same ∙ at.named;
  right = subst (λ (l : LogReader). IsTrue l.is_right ↔ (at.written ++ l.output.items ≡ [])) (sym same) at.right;
  is_held = held ∙ front_then p.held.items at.held bytes room at.is_held is;
  one = no_feed-append at.held bytes at.one one;
  appends = at.appends;
  entered = subst (λ (l : LogReader). IsTrue l.is_right → (lines : List LogLine) × AreLines 1 0 at.raws lines l.head.read × HasRead lines l.entries) (sym same) at.entered;
}

-- The end of a line

-- what the reader took is the line that was read
line_is : (name read : List ℕ) (before w : Option (List ℕ)) (p : LineReader) (ended : Bool) (q : LineReader) (at : At name read before p w) (e : EndsLine p ended q)
    → ListsLine name (length at.raws + 1) p.lines.head.read at.held e.takes.texts q.lines.head.read
line_is name read before w p ended q at e = record {
  first = λ number.
      let start : p.lines.line ≡ 0 = omega (arith, number, at.number) in
      let text = e.takes.first start in
      let few : length p.held.items ≡ 9 = ap length text in
      sym (whole_line p.held.items at.held at.is_held (omega (arith, few))) ∙ text;
  listed = subst (λ (n : ℕ). AreListed name n e.takes.texts) (ap (λ (n : ℕ). n + 1) at.number) (subst (λ (s : List ℕ). AreListed s (p.lines.line + 1) e.takes.texts) at.named e.takes.listed);
  right = λ none.
      let is = e.takes.is_right none in
      let same = whole_line p.held.items at.held at.is_held (omega (arith, is.0)) in
      (subst (λ (r : List ℕ). length r < 4096) same is.0, subst (λ (r : List ℕ). IsRight p.lines.head.read r q.lines.head.read) same (right_of (p.lines.line + 1) p.lines.head p.lines.entries p.held.items q.lines is.2));
  more = e.takes.more;
}

none_listed : (name : List ℕ) (n : ℕ) (texts : List (List ℕ)) → AreListed name n texts → concat texts ≡ [] → texts ≡ []
none_listed name n [] listed e = refl
none_listed name n (text ∷ texts) listed e =
    let l = listed.0 in
    let size : length text ≡ length (name ++ codes ":" ++ decimal n ++ codes ": " ++ l.said ++ 10 ∷ []) = ap length l.parts in
    let zero_size : length (text ++ concat texts) ≡ 0 = ap length e in
    absurd (grind (arith, length-append))

nil_left : (xs ys : List ℕ) → xs ++ ys ≡ [] → xs ≡ []
nil_left [] ys e = refl
nil_left (x ∷ xs) ys e = absurd (cc)

nil_right : (xs ys : List ℕ) → xs ++ ys ≡ [] → ys ≡ []
nil_right [] ys e = e
nil_right (x ∷ xs) ys e = absurd (cc)

-- the listing is empty exactly if it was, and nothing was added
still_right : (name : List ℕ) (n : ℕ) (Old New : Type 0) (listing output out : List ℕ) (texts : List (List ℕ)) → AreListed name n texts → (New ↔ (Old × (texts ≡ []))) → (Old ↔ (listing ++ output ≡ [])) → out ≡ output ++ concat texts
    → New ↔ (listing ++ out ≡ [])
still_right name n Old New listing output out texts listed step old e =
    let whole : listing ++ out ≡ (listing ++ output) ++ concat texts = ap (λ (t : List ℕ). listing ++ t) e ∙ sym (append_assoc listing output (concat texts)) in (
      (λ new. let s = step.0 new in whole ∙ rw (old.0 s.0, s.1) refl),
      (λ none.
          let all = sym whole ∙ none in
          step.1 (old.1 (nil_left (listing ++ output) (concat texts) all), none_listed name n texts listed (nil_right (listing ++ output) (concat texts) all))),
    )

-- a line more of a log
are_head : (n before : ℕ) (raws : List (List ℕ)) (lines : List LogLine) (mid : ℕ) (raw : List ℕ) → AreLines n before raws lines mid → mid < 6 → BeginsWith (head_word mid) raw → AreLines n before (raws ++ raw ∷ []) lines (mid + 1)
are_head n before [] lines mid raw are few begins =
    inl (omega (arith, are.1), subst (λ (k : ℕ). BeginsWith (head_word k) raw) are.1 begins, (are.0, ap (λ (k : ℕ). k + 1) are.1))
are_head n before (x ∷ raws) lines mid raw (inl h) few begins = inl (h.0, h.1, are_head (n + 1) (before + 1) raws lines mid raw h.2 few begins)
are_head n before (x ∷ raws) lines mid raw (inr b) few begins =
    inr (b.0, (b.1.0, b.1.1, b.1.2, b.1.3, are_head (n + 1) before raws b.1.1 mid raw b.1.4 few begins))

are_line : (n m before : ℕ) (raws : List (List ℕ)) (lines : List LogLine) (mid : ℕ) (raw : List ℕ) (line : Line) → AreLines n before raws lines mid → m ≡ n + length raws → 6 ≤ mid → Spells raw line
    → AreLines n before (raws ++ raw ∷ []) (lines ++ record { number = m; line = line } ∷ []) mid
are_line n m before [] lines mid raw line are e over spells =
    let number : m ≡ n = omega (arith, e) in
    inr (omega (arith, are.1), (line, [], spells, ap (λ (l : List LogLine). l ++ record { number = m; line = line } ∷ []) are.0 ∙ ap (λ (k : ℕ). record { number = k; line = line } ∷ []) number, (refl, are.1)))
are_line n m before (x ∷ raws) lines mid raw line (inl h) e over spells = inl (h.0, h.1, are_line (n + 1) m (before + 1) raws lines mid raw line h.2 (omega (arith, e)) over spells)
are_line n m before (x ∷ raws) lines mid raw line (inr b) e over spells =
    inr (b.0, (b.1.0, b.1.1 ++ record { number = m; line = line } ∷ [], b.1.2, ap (λ (l : List LogLine). l ++ record { number = m; line = line } ∷ []) b.1.3, are_line (n + 1) m before raws b.1.1 mid raw line b.1.4 (omega (arith, e)) over spells))

entered_line : (raws : List (List ℕ)) (lines : List LogLine) (number : ℕ) (head : Head) (entries : EntryReader) (raw : List ℕ) (new : LogReader) → AreLines 1 0 raws lines head.read → HasRead lines entries → number ≡ 1 + length raws → Enters number head entries raw new
    → (more : List LogLine) × AreLines 1 0 (raws ++ raw ∷ []) more new.head.read × HasRead more new.entries
entered_line raws lines number head entries raw new are has e (inl h) =
    (lines, subst (λ (k : ℕ). AreLines 1 0 (raws ++ raw ∷ []) lines k) (sym h.2) (are_head 1 0 raws lines head.read raw are h.0 h.1), subst (λ (r : EntryReader). HasRead lines r) (sym h.3) has)
entered_line raws lines number head entries raw new are has e (inr b) = (
  lines ++ record { number = number; line = b.1.0 } ∷ [],
  subst (λ (k : ℕ). AreLines 1 0 (raws ++ raw ∷ []) (lines ++ record { number = number; line = b.1.0 } ∷ []) k) (sym b.2) (are_line 1 number 0 raws lines head.read raw b.1.0 are e b.0 b.1.1),
  b.1.2 lines has,
)

-- what was read with the open line
at_entered : (name read : List ℕ) (before w : Option (List ℕ)) (p q : LineReader) (at : At name read before p w) (e : EndsLine p true q)
    → IsTrue q.lines.is_right → (lines : List LogLine) × AreLines 1 0 (at.raws ++ at.held ∷ []) lines q.lines.head.read × HasRead lines q.lines.entries
at_entered name read before w p q at e right =
    let r = e.takes.right.0 right in
    let is = e.takes.is_right r.1 in
    let was = at.entered r.0 in
    let same : p.held.items ≡ at.held = whole_line p.held.items at.held at.is_held (omega (arith, is.0)) in
    subst (λ (raw : List ℕ). (lines : List LogLine) × AreLines 1 0 (at.raws ++ raw ∷ []) lines q.lines.head.read × HasRead lines q.lines.entries) same
    (entered_line at.raws was.0 (p.lines.line + 1) p.lines.head p.lines.entries p.held.items q.lines was.1 was.2 (omega (arith, at.number)) is.2)

pub leads_ended : (p q : LineReader) (w : Option (List ℕ)) → EndsLine p true q → Leads p w (10 ∷ []) q w
leads_ended p q w e = λ name read before at. record {
  raws = at.raws ++ at.held ∷ [];
  held = [];
  written = at.written;
  whole = ap (λ (t : List ℕ). t ++ 10 ∷ []) at.whole ∙ append_assoc (joined at.raws) at.held (10 ∷ []) ∙ sym (joined_push at.raws at.held) ∙ sym (append-nil (joined (at.raws ++ at.held ∷ [])));
  lists = subst (λ (t : List ℕ). Lists name 1 0 (at.raws ++ at.held ∷ []) t q.lines.head.read) (append_assoc at.written p.lines.output.items (concat e.takes.texts) ∙ ap (λ (t : List ℕ). at.written ++ t) (sym e.takes.output))
      (lists_push name 1 (length at.raws + 1) 0 at.raws (at.written ++ p.lines.output.items) p.lines.head.read at.held e.takes.texts q.lines.head.read at.lists (omega arith) at.one (line_is name read before w p true q at e));
  number = omega (arith, e.takes.line, at.number, length-append at.raws (at.held ∷ []));
  named = e.takes.name ∙ at.named;
  right = still_right (string_bytes p.lines.name) (p.lines.line + 1) (IsTrue p.lines.is_right) (IsTrue q.lines.is_right) at.written p.lines.output.items q.lines.output.items e.takes.texts e.takes.listed e.takes.right at.right e.takes.output;
  is_held = e.held;
  one = tt;
  appends = at.appends;
  entered = at_entered name read before w p q at e;
}

-- Bytes that lead from one state to the other

pub leads_then : (p q r : LineReader) (u v w : Option (List ℕ)) (xs ys : List ℕ) → Leads p u xs q v → Leads q v ys r w → Leads p u (xs ++ ys) r w
leads_then p q r u v w xs ys f g = λ name read before at. subst (λ (t : List ℕ). At name t before r w) (append_assoc read xs ys) (g name (read ++ xs) before (f name read before at))

-- a front of the bytes led from one state to the other, and rest is left
pub record Led (p : LineReader) (bytes rest : List ℕ) (q : LineReader) : Type 0 where
  pub front : List ℕ
  pub parts : bytes ≡ front ++ rest
  pub leads : (w : Option (List ℕ)) → Leads p w front q w

pub led_none : (p : LineReader) (bytes : List ℕ) → Led p bytes bytes p
led_none p bytes = record { front = []; parts = refl; leads = λ w name read before at. subst (λ (t : List ℕ). At name t before p w) (sym (append-nil read)) at }

pub led_then : (p q r : LineReader) (bytes rest line behind : List ℕ) → Led p bytes rest q → rest ≡ line ++ behind → ((w : Option (List ℕ)) → Leads q w line r w) → Led p bytes behind r
led_then p q r bytes rest line behind led cut leads = record {
  front = led.front ++ line;
  parts = led.parts ∙ ap (λ (t : List ℕ). led.front ++ t) cut ∙ sym (append_assoc led.front line behind);
  leads = λ w. leads_then p q r w w w led.front line (led.leads w) (leads w);
}

-- the open line was ended
pub ended_leads : (q h r : LineReader) (line : List ℕ) → ((w : Option (List ℕ)) → Leads q w line h w) → EndsLine h true r → (w : Option (List ℕ)) → Leads q w (line ++ 10 ∷ []) r w
ended_leads q h r line holds ends w = leads_then q h r w w w line (10 ∷ []) (holds w) (leads_ended h r w ends)

pub led_all : (p q : LineReader) (bytes rest : List ℕ) → Led p bytes rest q → rest ≡ [] → (w : Option (List ℕ)) → Leads p w bytes q w
led_all p q bytes rest led none = λ w. subst (λ (t : List ℕ). Leads p w t q w) (sym (led.parts ∙ ap (λ (t : List ℕ). led.front ++ t) none ∙ append-nil led.front)) (led.leads w)

-- the listing was written
pub at_written : (name read : List ℕ) (before u v : Option (List ℕ)) (p q : LineReader) → At name read before p u → Writes p u q v → At name read before q v
at_written name read before u v p q at wrote =
    let same : (at.written ++ p.lines.output.items) ++ q.lines.output.items ≡ at.written ++ p.lines.output.items = ap (λ (t : List ℕ). (at.written ++ p.lines.output.items) ++ t) wrote.output ∙ append-nil (at.written ++ p.lines.output.items) in
    record {
      raws = at.raws;
      held = at.held;
      written = at.written ++ p.lines.output.items;
      whole = at.whole;
      lists = subst (λ (h : ℕ). Lists name 1 0 at.raws ((at.written ++ p.lines.output.items) ++ q.lines.output.items) h) (sym (ap (λ (h : Head). h.read) wrote.head)) (subst (λ (t : List ℕ). Lists name 1 0 at.raws t p.lines.head.read) (sym same) at.lists);
      number = wrote.line ∙ at.number;
      named = wrote.name ∙ at.named;
      right = subst (λ (b : Bool). IsTrue b ↔ ((at.written ++ p.lines.output.items) ++ q.lines.output.items ≡ [])) (sym wrote.right) (subst (λ (t : List ℕ). IsTrue p.lines.is_right ↔ (t ≡ [])) (sym same) at.right);
      is_held = wrote.held ∙ at.is_held;
      one = at.one;
      appends = Appends-trans before u v at.written p.lines.output.items at.appends wrote.appends;
      entered = λ right.
          let was = at.entered (subst (λ (b : Bool). IsTrue b) wrote.right right) in
          (was.0, subst (λ (k : ℕ). AreLines 1 0 at.raws was.0 k) (sym (ap (λ (h : Head). h.read) wrote.head)) was.1, subst (λ (r : EntryReader). HasRead was.0 r) (sym wrote.entries) was.2);
    }

-- The end of the input

pub finished_none : (name input : List ℕ) (before w : Option (List ℕ)) (p q : LineReader) → p.held.items ≡ [] → AddsAny (6 ≤ p.lines.head.read) p.lines q.lines → At name input before p w → Finished name input before q w
finished_none name input before w p q none adds at =
    let nil : at.held ≡ [] = whole_none at.held (sym at.is_held ∙ none) in
    record {
      written = at.written;
      read = record {
        raws = at.raws;
        last = [];
        heads = p.lines.head.read;
        above = at.written ++ p.lines.output.items;
        below = concat adds.0;
        whole = at.whole ∙ ap (λ (t : List ℕ). joined at.raws ++ t) nil;
        one = tt;
        lists = at.lists;
        ends = record { cuts = []; shorts = adds.0; number = p.lines.line; cut = tt; short = subst (λ (s : List ℕ). AreListed s p.lines.line adds.0) at.named adds.1.listed; is_cut = λ _. refl; is_short = λ _ e. adds.4 e; parts = refl };
        parts = ap (λ (t : List ℕ). at.written ++ t) adds.1.output ∙ sym (append_assoc at.written p.lines.output.items (concat adds.0));
      };
      right = still_right (string_bytes p.lines.name) p.lines.line (IsTrue p.lines.is_right) (IsTrue q.lines.is_right) at.written p.lines.output.items q.lines.output.items adds.0 adds.1.listed adds.1.right at.right adds.1.output;
      appends = at.appends;
      entered = λ right.
          let r = adds.1.right.0 right in
          let was = at.entered r.0 in (
            was.0,
            record { raws = at.raws; heads = p.lines.head.read; whole = at.whole ∙ ap (λ (t : List ℕ). joined at.raws ++ t) nil ∙ append-nil (joined at.raws); are = was.1; head = adds.4 r.1 },
            subst (λ (e : EntryReader). HasRead was.0 e) (sym adds.3) was.2,
          );
    }

-- a last line without a line feed is listed
never_right : (p q : LineReader) (e : EndsLine p false q) → e.takes.texts ≡ [] → ⊥
never_right p q e none = let ended = (e.takes.is_right none).1 in absurd (cc)

pub finished_last : (name input : List ℕ) (before w : Option (List ℕ)) (p q r : LineReader) → EndsLine p false q → AddsAny (6 ≤ q.lines.head.read) q.lines r.lines → At name input before p w → Finished name input before r w
finished_last name input before w p q r e adds at =
    let texts = e.takes.texts in
    let out : r.lines.output.items ≡ p.lines.output.items ++ (concat texts ++ concat adds.0) = adds.1.output ∙ ap (λ (t : List ℕ). t ++ concat adds.0) e.takes.output ∙ append_assoc p.lines.output.items (concat texts) (concat adds.0) in
    record {
      written = at.written;
      read = record {
        raws = at.raws;
        last = at.held;
        heads = p.lines.head.read;
        above = at.written ++ p.lines.output.items;
        below = concat texts ++ concat adds.0;
        whole = at.whole;
        one = at.one;
        lists = at.lists;
        ends = record {
          cuts = texts;
          shorts = adds.0;
          number = q.lines.line;
          cut = (line_is name input before w p false q at e).listed;
          short = subst (λ (s : List ℕ). AreListed s q.lines.line adds.0) (e.takes.name ∙ at.named) adds.1.listed;
          is_cut = λ none. absurd (never_right p q e none);
          is_short = λ none _. absurd (never_right p q e none);
          parts = refl;
        };
        parts = ap (λ (t : List ℕ). at.written ++ t) out ∙ sym (append_assoc at.written p.lines.output.items (concat texts ++ concat adds.0));
      };
      right = still_right (string_bytes q.lines.name) q.lines.line (IsTrue q.lines.is_right) (IsTrue r.lines.is_right) at.written q.lines.output.items r.lines.output.items adds.0 adds.1.listed adds.1.right
          (still_right (string_bytes p.lines.name) (p.lines.line + 1) (IsTrue p.lines.is_right) (IsTrue q.lines.is_right) at.written p.lines.output.items q.lines.output.items texts e.takes.listed e.takes.right at.right e.takes.output) adds.1.output;
      appends = at.appends;
      entered = λ right. absurd (never_right p q e (e.takes.right.0 (adds.1.right.0 right).0).1);
    }

-- The listing is written

pub leads_written : (p h q : LineReader) (piece : List ℕ) (u v : Option (List ℕ)) → ((w : Option (List ℕ)) → Leads p w piece h w) → Writes h u q v → Leads p u piece q v
leads_written p h q piece u v leads wrote = λ name read before at. at_written name (read ++ piece) before u v h q (leads u name read before at) wrote

pub completes : (p h q : LineReader) (u v : Option (List ℕ)) → ((name input : List ℕ) (before w : Option (List ℕ)) → At name input before p w → Finished name input before h w) → Writes h u q v → Completes p u q v
completes p h q u v ends wrote = λ name input before at.
    let f = ends name input before u at in
    let text = f.written ++ h.lines.output.items in (
      text,
      f.read,
      subst (λ (b : Bool). IsTrue b ↔ (text ≡ [])) (sym wrote.right) f.right,
      Appends-trans before u v f.written h.lines.output.items f.appends wrote.appends,
      λ right.
          let was = f.entered (subst (λ (b : Bool). IsTrue b) wrote.right right) in
          (was.0, was.1, subst (λ (e : EntryReader). HasRead was.0 e) (sym wrote.entries) was.2),
    )

-- The whole input

pub ran_new : (name : List ℕ) (r w : Option (List ℕ)) (p : LineReader) → At name [] w p w → Ran name r r p w w
ran_new name r w p at = record { read = []; consumes = Consumes-nil r; at = at }

pub ran_then : (name : List ℕ) (r0 r1 r2 w0 w1 w2 : Option (List ℕ)) (p q : LineReader) (piece : List ℕ) → Ran name r0 r1 p w0 w1 → Consumes r1 r2 piece → Leads p w1 piece q w2 → Ran name r0 r2 q w0 w2
ran_then name r0 r1 r2 w0 w1 w2 p q piece ran more leads = record {
  read = ran.read ++ piece;
  consumes = Consumes-trans r0 r1 r2 ran.read piece ran.consumes more;
  at = leads name ran.read w0 ran.at;
}

-- at the end of the input, what was read is the input
input_is : (x consumed : List ℕ) (r1 r2 : Option (List ℕ)) → Consumes (Some x) r1 consumed → Consumes r1 r2 [] → IsAtEnd r2 → x ≡ consumed
input_is x consumed None r2 p q e = absurd p
input_is x consumed (Some y) None p q e = absurd q
input_is x consumed (Some y) (Some z) p q e = p ∙ ap (λ (t : List ℕ). consumed ++ t) (q ∙ e) ∙ append-nil consumed

-- a read that gave nothing was at the end
at_end : (r1 r2 : Option (List ℕ)) (n : ℕ) (buf : List ℕ) → n ≡ 0 → 0 < length buf → Consumes r1 r2 (take n buf) × (n ≡ 0 → 0 < length buf → IsAtEnd r2) → Consumes r1 r2 [] × IsAtEnd r2
at_end r1 r2 n buf none some p = (subst (λ (k : ℕ). Consumes r1 r2 (take k buf)) none p.0, p.1 none some)

pub ran_end : (name : List ℕ) (r0 r1 r2 w0 w1 w2 : Option (List ℕ)) (p q : LineReader) (n : ℕ) (buf : List ℕ) → Ran name r0 r1 p w0 w1 → n ≡ 0 → 0 < length buf → Consumes r1 r2 (take n buf) × (n ≡ 0 → 0 < length buf → IsAtEnd r2)
    → Completes p w1 q w2 → IsWhole name r0 q w0 w2
ran_end name None r1 r2 w0 w1 w2 p q n buf ran none some last ends = tt
ran_end name (Some x) r1 r2 w0 w1 w2 p q n buf ran none some last ends =
    let end = at_end r1 r2 n buf none some last in
    let same : x ≡ ran.read = input_is x ran.read r1 r2 ran.consumes end.0 end.1 in
    subst (λ (t : List ℕ). ReadsLines name t q.lines.is_right q.lines.entries w0 w2) (sym same) (ends name ran.read w0 ran.at)

-- The log that is returned

pub found_log : (name : List ℕ) (reader : LineReader) (found : Option ReadLog) (r w0 w1 : Option (List ℕ)) → IsSome found ↔ IsTrue reader.lines.is_right → IfSome found (λ log. log.entries ≡ reader.lines.entries) → IsWhole name r reader w0 w1
    → IfSome r (λ input. ReadsLog name input found w0 w1)
found_log name reader found None w0 w1 right same read = tt
found_log name reader None (Some input) w0 w1 right same read =
    (read.0, read.1, ((λ some. read.2.0 (right.0 some)), (λ none. right.1 (read.2.1 none))), read.3, tt)
found_log name reader (Some log) (Some input) w0 w1 right same read =
    let was = read.4 (right.0 refl) in
    (read.0, read.1, ((λ some. read.2.0 (right.0 some)), (λ none. right.1 (read.2.1 none))), read.3, (was.0, was.1, subst (λ (e : EntryReader). HasRead was.0 e) (sym same) was.2))
