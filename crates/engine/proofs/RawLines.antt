-- The first bytes of a line, and what the line spells.
use Rattle.std.proofs.Common.{◌≡◌, ℕ, ◌+◌, ◌-◌, ◌<◌, ◌≤◌, min, List, ◌∷◌, ◌++◌, length, take, true, false, nat_lt, ◌⊎◌, inl, inr, refl, sym, ap, subst, ◌∙◌, arith, append-nil, length-append}
use Rattle.std.proofs.lemmas.List.{take_all, take_min, length-take, take-append-le}
use Rattle.std.proofs.Math.Seq.{take-append-add}
use Rattle.std.proofs.lemmas.Bool.Decides.{nat_tests}
use Rattle.std.specs.Str.Lines.{strip_carriage_return}
use Rattle.grammar.specs.declared.line.Language.{Language}
use Rattle.grammar.specs.declared.line.Line.{Line}
use Rattle.grammar.specs.Spelling.{Spells}
use Rattle.grammar.specs.Lines.{HasNoFeed, EndedLine, LastLine, BeginsWrong}
use Rattle.grammar.proofs.Cuts.{feed_inside, one_cut}
use Rattle.engine.specs.Lines.{SpellsRaw, raw_line}

total : (m n : ℕ) → (m ≤ n) ⊎ (n ≤ m)
total m n = elim (nat_lt m n) as (λ b. nat_lt m n ≡ b → (m ≤ n) ⊎ (n ≤ m)) [ true ↦ λ e. inl (grind (arith, nat_tests)) | false ↦ λ e. inr (grind (arith, nat_tests)) ] refl

pub front_then : (front held bytes : List ℕ) (room : ℕ) → front ≡ take 256 held → room ≡ min (256 - length front) (length bytes) → front ++ take room bytes ≡ take 256 (held ++ bytes)
front_then front held bytes room is e =
    let some : room ≡ min (256 - length (take 256 held)) (length bytes) = e ∙ ap (λ (f : List ℕ). min (256 - length f) (length bytes)) is in
    let less : 256 - length (take 256 held) ≡ 256 - min 256 (length held) = ap (λ (n : ℕ). 256 - n) (length-take 256 held) in
    rw (is, some, take_min) (elim (total 256 (length held)) [
      | inl long ↦
          let none : 256 - length (take 256 held) ≡ 0 = omega (arith, less) in
          rw (none, take-append-le 256 held bytes long) (append-nil (take 256 held))
      | inr short ↦
          let rest : 256 - length (take 256 held) ≡ 256 - length held = omega (arith, less) in
          let sum : 256 ≡ length held + (256 - length held) = omega arith in
          rw (rest, take_all 256 held short) (sym (ap (λ (n : ℕ). take n (held ++ bytes)) sum ∙ take-append-add held bytes (256 - length held)))
    ])

-- What a whole line spells

pub ended_line : (l : Language) (raw bytes rest : List ℕ) (line : Line) → HasNoFeed raw → bytes ≡ raw ++ 10 ∷ rest → SpellsRaw l (raw_line raw true) line → EndedLine l bytes line rest
ended_line l raw bytes rest line one whole s = record {
  raw = raw;
  whole = whole;
  one = one;
  short = s.0;
  spells = subst (λ (t : List ℕ). Spells l (strip_carriage_return t) line) (take_all 256 raw s.0) s.1;
}

pub last_line : (l : Language) (raw : List ℕ) (line : Line) → 0 < length raw → HasNoFeed raw → SpellsRaw l (raw_line raw false) line → LastLine l raw line
last_line l raw line some one s = record { some = some; one = one; short = s.0; spells = subst (λ (t : List ℕ). Spells l t line) (take_all 256 raw s.0) s.1 }

pub ended_wrong : (l : Language) (raw rest : List ℕ) → HasNoFeed raw → ((line : Line) → SpellsRaw l (raw_line raw true) line → ⊥) → BeginsWrong l (raw ++ 10 ∷ rest)
ended_wrong l raw rest one wrong = record {
  some = omega (arith, length-append raw (10 ∷ rest));
  wrong = λ line behind r. elim r [
    | inl e ↦
        let same = one_cut e.raw raw behind rest e.one one (sym e.whole) in
        let short : length raw ≤ 256 = omega (arith, e.short, ap length same.0) in
        wrong line (short, subst (λ (t : List ℕ). Spells l (strip_carriage_return t) line) (same.0 ∙ sym (take_all 256 raw short)) e.spells)
    | inr e ↦ feed_inside raw rest e.0.one
  ];
}

pub last_wrong : (l : Language) (raw : List ℕ) → 0 < length raw → HasNoFeed raw → ((line : Line) → SpellsRaw l (raw_line raw false) line → ⊥) → BeginsWrong l raw
last_wrong l raw some one wrong = record {
  some = some;
  wrong = λ line rest r. elim r [
    | inl e ↦ feed_inside e.raw rest (subst (λ (t : List ℕ). HasNoFeed t) e.whole one)
    | inr e ↦ wrong line (e.0.short, subst (λ (t : List ℕ). Spells l t line) (sym (take_all 256 raw e.0.short)) e.0.spells)
  ];
}
