-- The lines of an input that were passed on the way to one of them.
use Rattle.std.proofs.Common.{◌≡◌, ℕ, ◌+◌, ◌-◌, ◌<◌, ◌≤◌, Bool, true, false, List, [], ◌∷◌, ◌++◌, length, refl, ap, sym, subst, ◌∙◌, take, append_assoc, append-nil, length-append, arith}
use Rattle.grammar.specs.Lines.{HasNoFeed}
use Rattle.lines.specs.declared.lines.Line.{Line}
use Rattle.lines.specs.Lines.{Left, IsNext, joined, with_feed}
use Rattle.lines.proofs.Cuts.{ended_cut, front_is, joined_push, open_cut}
use Rattle.show.specs.Shown.{AreFirst, HasFewer, HaveNoFeed, lines_of}

-- this many lines were passed, and the rest is left
pub record Passed (bytes : List ℕ) (count : ℕ) (rest : List ℕ) : Type 0 where
  pub raws : List (List ℕ)
  pub last : List ℕ
  pub each : HaveNoFeed raws
  pub one : HasNoFeed last
  pub whole : bytes ≡ (joined raws ++ last) ++ rest
  pub ends : 0 < length last → rest ≡ []
  pub counts : count ≡ length raws + lines_of last

each_push : (raws : List (List ℕ)) (raw : List ℕ) → HaveNoFeed raws → HasNoFeed raw → HaveNoFeed (raws ++ raw ∷ [])
each_push [] raw each one = (one, tt)
each_push (first ∷ raws) raw each one = (each.0, each_push raws raw each.1 one)

-- nothing was passed yet
pub none_passed : (bytes : List ℕ) → Passed bytes 0 bytes
none_passed bytes = record { raws = []; last = []; each = tt; one = tt; whole = refl; ends = λ some. absurd (omega (arith, some)); counts = omega arith }

-- the last line that was passed has its line feed, since bytes are left
no_last : (last rest : List ℕ) → (0 < length last → rest ≡ []) → 0 < length rest → last ≡ []
no_last [] rest ends some = refl
no_last (byte ∷ last) rest ends some = absurd (omega (arith, some, ap length (ends (omega arith))))

-- a line is one
one_line : (raw : List ℕ) → 0 < length raw → lines_of raw ≡ 1
one_line [] some = absurd (omega (arith, some))
one_line (byte ∷ raw) some = refl

passed_ended : (bytes : List ℕ) (count : ℕ) (raw rest : List ℕ) {old : List ℕ} → old ≡ raw ++ 10 ∷ rest → (p : Passed bytes count old) → p.last ≡ [] → HasNoFeed raw → Passed bytes (count + 1) rest
passed_ended bytes count raw rest cut p none one = record {
  raws = p.raws ++ raw ∷ [];
  last = [];
  each = each_push p.raws raw p.each one;
  one = tt;
  whole = p.whole ∙ ap (λ (t : List ℕ). (joined p.raws ++ p.last) ++ t) cut ∙ ap (λ (t : List ℕ). (joined p.raws ++ t) ++ (raw ++ 10 ∷ rest)) none ∙ ap (λ (t : List ℕ). t ++ (raw ++ 10 ∷ rest)) (append-nil (joined p.raws))
      ∙ ap (λ (t : List ℕ). joined p.raws ++ t) (sym (append_assoc raw (10 ∷ []) rest)) ∙ sym (append_assoc (joined p.raws) (raw ++ 10 ∷ []) rest)
      ∙ ap (λ (t : List ℕ). t ++ rest) (sym (joined_push p.raws raw) ∙ sym (append-nil (joined (p.raws ++ raw ∷ []))));
  ends = λ some. absurd (omega (arith, some));
  counts = let zero : lines_of p.last ≡ 0 = ap lines_of none in omega (p.counts, zero, length-append p.raws (raw ∷ []), arith);
}

passed_open : (bytes : List ℕ) (count : ℕ) (raw rest : List ℕ) {old : List ℕ} → old ≡ raw → (p : Passed bytes count old) → p.last ≡ [] → HasNoFeed raw → 0 < length raw → rest ≡ [] → Passed bytes (count + 1) rest
passed_open bytes count raw rest cut p none one some nothing = record {
  raws = p.raws;
  last = raw;
  each = p.each;
  one = one;
  whole = p.whole ∙ ap (λ (t : List ℕ). (joined p.raws ++ p.last) ++ t) cut ∙ ap (λ (t : List ℕ). (joined p.raws ++ t) ++ raw) none ∙ ap (λ (t : List ℕ). t ++ raw) (append-nil (joined p.raws)) ∙ sym (append-nil (joined p.raws ++ raw))
      ∙ ap (λ (t : List ℕ). (joined p.raws ++ raw) ++ t) (sym nothing);
  ends = λ _. nothing;
  counts = let zero : lines_of p.last ≡ 0 = ap lines_of none in omega (p.counts, zero, one_line raw some, arith);
}

passed_line : (ended : Bool) (bytes : List ℕ) (count : ℕ) (old : Left) (line : Line) (new : Left) (p : Passed bytes count old.bytes) → IsNext old line new → line.ended ≡ ended → p.last ≡ [] → Passed bytes (count + 1) new.bytes
passed_line true bytes count old line new p next is none =
    passed_ended bytes count line.raw.now new.bytes (ended_cut old line new next is) p none next.one
passed_line false bytes count old line new p next is none =
    let whole : line.whole.now ≡ line.raw.now = next.whole ∙ ap (λ (e : Bool). with_feed e line.raw.now) is in
    passed_open bytes count line.raw.now new.bytes (open_cut old line new next is) p none next.one (omega (arith, next.some, ap length whole)) (next.last is)

-- one more line was passed
pub one_passed : (bytes : List ℕ) (count : ℕ) (old : Left) (line : Line) (new : Left) → Passed bytes count old.bytes → IsNext old line new → Passed bytes (count + 1) new.bytes
one_passed bytes count old line new p next =
    passed_line line.ended bytes count old line new p next refl (no_last p.last old.bytes p.ends (omega (arith, next.some, ap length next.cut, length-append line.whole.now new.bytes)))

-- the rest is no longer than the bytes
pub rest_fits : (bytes : List ℕ) (count : ℕ) (rest : List ℕ) → Passed bytes count rest → length rest ≤ length bytes
rest_fits bytes count rest p = omega (ap length p.whole, length-append (joined p.raws ++ p.last) rest, arith)

-- all lines were passed
pub all_passed : (bytes : List ℕ) (count : ℕ) (rest : List ℕ) → Passed bytes count rest → AreFirst count bytes (take (length bytes - length rest) bytes)
all_passed bytes count rest p =
    let is = front_is bytes (joined p.raws ++ p.last) rest p.whole in
    record {
      raws = p.raws;
      last = p.last;
      rest = rest;
      each = p.each;
      one = p.one;
      parts = is;
      whole = p.whole ∙ ap (λ (t : List ℕ). t ++ rest) (sym is);
      ends = p.ends;
      counts = p.counts;
    }

-- no line is left, and more are asked for
pub fewer_passed : (bytes : List ℕ) (count passed : ℕ) (rest : List ℕ) → Passed bytes passed rest → rest ≡ [] → passed < count → HasFewer count bytes
fewer_passed bytes count passed rest p none more = record {
  raws = p.raws;
  last = p.last;
  each = p.each;
  one = p.one;
  whole = p.whole ∙ ap (λ (t : List ℕ). (joined p.raws ++ p.last) ++ t) none ∙ append-nil (joined p.raws ++ p.last);
  counts = omega (p.counts, more, arith);
}
