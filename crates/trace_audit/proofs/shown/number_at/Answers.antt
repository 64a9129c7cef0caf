use Rattle.std.proofs.Common.{arith, below_more, get_or, length}
use Rattle.trace_audit.proofs.ShownText.{above_digits, below_digits, found_len, found_number, in_digits, number_step}
use Rattle.trace_audit.proofs.shown.number_at.Goals as goal

pub returns-in_default-clause-len : goal.returns-in_default-clause-len
returns-in_default-clause-len c = found_len c.args.word.now c.loop-at.at (omega arith) c.loop-at.invariant.digits (λ _. below_digits (get_or c.args.word.now c.loop-at.at 0) (omega arith))

pub returns-in_default-clause-number : goal.returns-in_default-clause-number
returns-in_default-clause-number c =
    found_number c.args.word.now c.loop-at.at c.loop-at.number
    (found_len c.args.word.now c.loop-at.at (omega arith) c.loop-at.invariant.digits (λ _. below_digits (get_or c.args.word.now c.loop-at.at 0) (omega arith))) c.loop-at.invariant.number

pub returns-in_default-2-clause-len : goal.returns-in_default-2-clause-len
returns-in_default-2-clause-len c = found_len c.args.word.now c.loop-at.at (omega arith) c.loop-at.invariant.digits (λ _. above_digits (get_or c.args.word.now c.loop-at.at 0) (omega arith))

pub returns-in_default-2-clause-number : goal.returns-in_default-2-clause-number
returns-in_default-2-clause-number c =
    found_number c.args.word.now c.loop-at.at c.loop-at.number
    (found_len c.args.word.now c.loop-at.at (omega arith) c.loop-at.invariant.digits (λ _. above_digits (get_or c.args.word.now c.loop-at.at 0) (omega arith))) c.loop-at.invariant.number

pub loop-at-preserved : goal.loop-at-preserved
loop-at-preserved c = record {
  number = number_step c.args.word.now c.loop-at.at c.loop-at.number c.saturating_add-number.result (omega arith) (omega arith) (omega arith) c.loop-at.invariant.number (omega (arith, c.saturating_mul.ensures, c.from.ensures, c.saturating_add-number.ensures));
  digits = below_more _ _ c.loop-at.invariant.digits (in_digits (get_or c.args.word.now c.loop-at.at 0) (omega arith) (omega arith));
}

pub returns-clause-len : goal.returns-clause-len
returns-clause-len c = found_len c.args.word.now (length c.args.word.now) (omega arith) (λ k lt. c.loop-at.invariant.digits k (omega (arith, lt))) (λ lt. absurd (omega (arith, lt)))

pub returns-clause-number : goal.returns-clause-number
returns-clause-number c =
    found_number c.args.word.now c.loop-at.at c.loop-at.number (found_len c.args.word.now c.loop-at.at (omega arith) c.loop-at.invariant.digits (λ lt. absurd (omega (arith, lt)))) c.loop-at.invariant.number
