-- How text is escaped.
use Rattle.std.specs.Prelude.{ℕ, List, [], ◌∷◌, ◌==◌, ◌&&◌, nat_lt, codes, if◌then◌else◌}
use Rattle.std.specs.List.{flat_map}

-- what stands for a byte of a text: a name for `&`, `<`, `>` and `"`, the byte for another character of ASCII that prints, else `?`
abbrev pub escape : ℕ → List ℕ
escape byte =
    if byte == 38 then codes "&amp;" else (if byte == 60 then codes "&lt;" else (if byte == 62 then codes "&gt;" else (if byte == 34 then codes "&quot;" else (if nat_lt 31 byte && nat_lt byte 127 then byte ∷ [] else codes "?"))))

-- a text with each byte escaped
abbrev pub escaped : List ℕ → List ℕ
escaped text = flat_map escape text
