-- Which bytes an escaped text has.
use Rattle.std.specs.Prelude.{ℕ, Bool, ◌&&◌, ◌==◌, nat_lt, not}

-- whether the byte prints, and neither begins nor ends a tag or a value
abbrev pub is_safe : ℕ → Bool
is_safe byte = nat_lt 31 byte && nat_lt byte 127 && not (byte == 34) && not (byte == 60) && not (byte == 62)
