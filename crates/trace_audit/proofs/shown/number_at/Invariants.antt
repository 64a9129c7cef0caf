use Rattle.std.proofs.Common.{◌≡◌, ℕ, ◌-◌, ◌^◌, ◌<◌, false, min, take, get_or}
use Rattle.std.specs.Str.Parse.{digits_value}
use Rattle.trace_audit.specs.ShownText.{is_no_digit}
use Rattle.trace_audit.proofs.shown.number_at.Given as goal

abbrev pub invariant-loop-at : goal.invariant-loop-at
invariant-loop-at l = record {
  number : l.number ≡ min (digits_value 10 (take l.at l.word)) (2 ^ 64 - 1);
  digits : (k : ℕ) → k < l.at → is_no_digit (get_or l.word k 0) ≡ false;
}
