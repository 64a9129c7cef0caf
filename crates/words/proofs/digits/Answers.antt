use Rattle.std.proofs.Common.{◌≡◌, ◌+◌, ◌*◌, ◌^◌, ◌∙◌, take, get_or, ◌<◌, arith, sym}
use Rattle.std.specs.Char.{digit_value}
use Rattle.std.proofs.lemmas.List.{take_all}
use Rattle.std.proofs.lemmas.List.Elements.{All-from_recursion}
use Rattle.std.proofs.lemmas.Int.Digits.{digits_more, digits_value_more}
use Rattle.words.proofs.Numbers.{value_so_far}
use Rattle.words.proofs.digits.Goals as goal

pub returns-in_err-digit : goal.returns-in_err-digit
returns-in_err-digit c = rw c.from_residual.ensures (λ h.
    let each = All-from_recursion (λ b. digit_value b < c.args.radix) c.args.text.now h.0 in
    c.in_err-digit.ensures.value (rw c.from.ensures (each c.loop-byte.byte-index 0 c.loop-byte-test.true)))

pub returns-in_err-checked_mul : goal.returns-in_err-checked_mul
returns-in_err-checked_mul c = rw c.from_residual-in_err-checked_mul.ensures (λ h.
    let so_far = value_so_far c.args.radix c.loop-byte.value c.args.text.now c.loop-byte.byte-index (omega (arith, c.requires.low)) c.loop-byte-test.true c.loop-byte.invariant.value in
    let large : c.loop-byte.value * c.args.radix < 2 ^ 64 → ⊥ = rw c.from-in-loop-byte.ensures at c.in_err-checked_mul.ensures in
    large (omega (arith, so_far, h.1)))

pub returns-in_err-value : goal.returns-in_err-value
returns-in_err-value c = rw c.from_residual-in_err-value.ensures (λ h.
    let so_far = value_so_far c.args.radix c.loop-byte.value c.args.text.now c.loop-byte.byte-index (omega (arith, c.requires.low)) c.loop-byte-test.true c.loop-byte.invariant.value in
    let large : c.loop-byte.value * c.args.radix + digit_value (get_or c.args.text.now c.loop-byte.byte-index 0) < 2 ^ 64 → ⊥ =
    rw (c.from-in-loop-byte-2.ensures, c.in_ok-digit.ensures.value.1, c.in_ok-checked_mul.ensures.1, c.from-in-loop-byte.ensures, c.from.ensures) at c.in_err-value.ensures in
    large (omega (arith, so_far, h.1)))

pub loop-byte-preserved : goal.loop-byte-preserved
loop-byte-preserved c =
    let bytes = c.args.text.now in
    let i = c.loop-byte.byte-index in
    let digit : digit_value (get_or bytes i 0) < c.args.radix = rw c.from.ensures at c.in_ok-digit.ensures.value.0 in
    let more = rw c.loop-byte.invariant.value at (digits_value_more c.args.radix bytes i c.loop-byte-test.true) in
    let value : c.in_ok-value.value ≡ c.loop-byte.value * c.args.radix + digit_value (get_or bytes i 0) =
    rw (c.from-in-loop-byte-2.ensures, c.in_ok-digit.ensures.value.1, c.in_ok-checked_mul.ensures.1, c.from-in-loop-byte.ensures, c.from.ensures) at c.in_ok-value.ensures.1 in
    record {
      each = digits_more c.args.radix bytes i c.loop-byte-test.true c.loop-byte.invariant.each digit;
      value = more ∙ sym value;
      fits = rw c.in_ok-value.ensures.1 c.in_ok-value.ensures.0;
    }

pub returns : goal.returns
returns c =
    let whole : take c.loop-byte.byte-index c.args.text.now ≡ c.args.text.now = take_all c.loop-byte.byte-index c.args.text.now c.loop-byte-test.false in
    let each = rw whole at c.loop-byte.invariant.each in
    let value = rw whole at c.loop-byte.invariant.value in
    ((each, omega (arith, value, c.loop-byte.invariant.fits)), sym value)
