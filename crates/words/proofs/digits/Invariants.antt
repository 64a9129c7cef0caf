use Rattle.std.proofs.Common.{◌≡◌, ◌<◌, ◌^◌, take}
use Rattle.std.specs.Str.Parse.{AllDigits, digits_value}
use Rattle.words.proofs.digits.Given as goal

abbrev pub invariant-loop-byte : goal.invariant-loop-byte
invariant-loop-byte l = record {
  each : AllDigits l.radix (take l.byte-index l.text);
  value : digits_value l.radix (take l.byte-index l.text) ≡ l.value;
  fits : l.value < 2 ^ 64;
}
