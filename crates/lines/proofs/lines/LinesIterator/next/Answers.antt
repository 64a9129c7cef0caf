use Rattle.std.proofs.Common.{◌≡◌, ◌<◌, ◌++◌, ◌∷◌, [], true, false, refl, ap, sym, ◌∙◌, arith, length, length-append, append_assoc, append-nil}
use Rattle.std.proofs.lemmas.Bool.{false≢true}
use Rattle.lines.proofs.Cuts.{front_is}
use Rattle.lines.proofs.lines.LinesIterator.next.Goals.{in-Some, in-None}
use Rattle.lines.proofs.lines.LinesIterator.next.Goals as goal

pub returns-clause-steps : goal.returns-clause-steps
returns-clause-steps c = elim c.match-split_line.branch [
  | in-Some w ↦
      let bytes = c.self.inside.bytes.now in
      let raw = w.in-Some.raw.now in
      let rest = w.in-Some.rest.now in
      let cut = w.in-Some.ensures.whole ∙ sym (append_assoc raw (10 ∷ []) rest) in
      let front = front_is bytes (raw ++ 10 ∷ []) rest cut in
      rw w.ended-is (record {
        one = w.in-Some.ensures.front;
        whole = front;
        cut = grind (arith, c.self.view_is, cut, front);
        some = omega (arith, ap length front, length-append raw (10 ∷ []));
        last = λ lacks. absurd (false≢true (sym lacks));
        counted = grind (arith, c.self.view_is);
        number = refl;
      })
  | in-None w ↦
      let bytes = c.self.inside.bytes.now in
      let some : 0 < length bytes = grind (arith, c.is_empty.ensures, c.if-is_empty.false) in
      let none : w.as_slice.result.now ≡ [] = w.as_slice.ensures in
      let cut = sym (append-nil bytes) ∙ ap (λ t. bytes ++ t) (sym none) in
      let front = front_is bytes bytes w.as_slice.result.now cut in
      rw w.ended-is (record {
        one = w.in-None.ensures.none;
        whole = front;
        cut = grind (arith, c.self.view_is, cut, front);
        some = omega (arith, ap length front, some);
        last = λ lacks. none;
        counted = grind (arith, c.self.view_is);
        number = refl;
      })
]
