-- The bytes of a line, and of lines one after the other.
use Rattle.std.proofs.Common.{◌≡◌, ℕ, ◌-◌, Bool, true, false, List, [], ◌∷◌, ◌++◌, length, take, refl, ap, sym, subst, ◌∙◌, append_assoc, append-nil, length-append, arith}
use Rattle.std.proofs.Math.Seq.{take-append_seam}
use Rattle.lines.specs.declared.lines.Line.{Line}
use Rattle.lines.specs.Lines.{HasNoFeed, Left, IsNext, joined, with_feed}

pub no_feed-append : (xs ys : List ℕ) → HasNoFeed xs → HasNoFeed ys → HasNoFeed (xs ++ ys)
no_feed-append [] ys p q = q
no_feed-append (x ∷ xs) ys p q = (p.0, no_feed-append xs ys p.1 q)

pub joined_push : (raws : List (List ℕ)) (raw : List ℕ) → joined (raws ++ raw ∷ []) ≡ joined raws ++ (raw ++ 10 ∷ [])
joined_push [] raw = refl
joined_push (first ∷ raws) raw = ap (λ (t : List ℕ). first ++ 10 ∷ t) (joined_push raws raw) ∙ sym (append_assoc first (10 ∷ joined raws) (raw ++ 10 ∷ []))

-- the bytes up to the rest
pub front_is : (bytes front rest : List ℕ) → bytes ≡ front ++ rest → take (length bytes - length rest) bytes ≡ front
front_is bytes front rest whole =
    let len : length bytes - length rest ≡ length front = omega (ap length whole, length-append front rest, arith) in
    ap (λ (n : ℕ). take n bytes) len ∙ ap (λ (t : List ℕ). take (length front) t) whole ∙ take-append_seam front rest

-- the bytes are the line that comes first, and then the rest
pub line_cut : (old : Left) (line : Line) (new : Left) (ended : Bool) → IsNext old line new → line.ended ≡ ended → old.bytes ≡ with_feed ended line.raw.now ++ new.bytes
line_cut old line new ended n is = n.cut ∙ ap (λ (t : List ℕ). t ++ new.bytes) (n.whole ∙ ap (λ (e : Bool). with_feed e line.raw.now) is)

pub ended_cut : (old : Left) (line : Line) (new : Left) → IsNext old line new → line.ended ≡ true → old.bytes ≡ line.raw.now ++ 10 ∷ new.bytes
ended_cut old line new n is = line_cut old line new true n is ∙ append_assoc line.raw.now (10 ∷ []) new.bytes

-- nothing comes after a line without its line feed
pub open_cut : (old : Left) (line : Line) (new : Left) → IsNext old line new → line.ended ≡ false → old.bytes ≡ line.raw.now
open_cut old line new n is = line_cut old line new false n is ∙ ap (λ (t : List ℕ). line.raw.now ++ t) (n.last is) ∙ append-nil line.raw.now
