-- The bytes of pages and of numbers.
use Rattle.std.specs.Prelude.{ℕ, ◌+◌, ◌*◌, List, [], ◌∷◌, ◌++◌, replicate, length, take, drop, unwrap_or}
use Rattle.std.specs.Int.{bytes_low_first}
use Rattle.std.specs.Ordering.{nat_cmp}
use Rattle.std.specs.FinMap.{FinMap, get}
use Rattle.foundation.specs.declared.TheConstants.{PAGE_SIZE}

-- a page of zeros
unfoldable pub zero_page : List ℕ
zero_page = replicate PAGE_SIZE 0

-- the bytes of a page, or none if it is not present
abbrev pub page_at : FinMap nat_cmp (List ℕ) → ℕ → List ℕ
page_at pages page = unwrap_or (get pages page) []

-- the bytes of a page, or zeros if it is not present
abbrev pub contents : FinMap nat_cmp (List ℕ) → ℕ → List ℕ
contents pages page = unwrap_or (get pages page) zero_page

-- the bytes of a page after others were written over it from an offset on
unfoldable pub overwrite : List ℕ → ℕ → List ℕ → List ℕ
overwrite held offset bytes = take offset held ++ (bytes ++ drop (offset + length bytes) held)

-- the number that bytes spell, the lowest first
abbrev pub little_endian : List ℕ → ℕ
little_endian [] = 0
little_endian (byte ∷ bytes) = byte + 256 * little_endian bytes

-- the `width` lowest bytes of a number below 2 ^ 64, the lowest first
abbrev pub low_bytes : ℕ → ℕ → List ℕ
low_bytes value width = take width (bytes_low_first 0 8 value)
