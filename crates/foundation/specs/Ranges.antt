-- Ranges of numbers, counts and least numbers, and rounding to whole pages.
use Rattle.std.specs.Prelude.{ℕ, zero, suc, ◌+◌, ◌-◌, ◌*◌, ◌/◌, ◌&&◌, Bool, true, not, nat_le, nat_lt, if◌then◌else◌, Option, Some, None}
use Rattle.foundation.specs.declared.TheConstants.{PAGE_SIZE}

-- whether n is one of the `count` numbers from `first` on
abbrev pub in_range : ℕ → ℕ → ℕ → Bool
in_range first count n = nat_le first n && nat_lt n (first + count)

-- the lesser of two numbers
abbrev pub lesser : ℕ → ℕ → ℕ
lesser a b = if nat_le a b then a else b

-- how many numbers below the bound pass the test
unfoldable pub count_below : (ℕ → Bool) → ℕ → ℕ
count_below test zero = 0
count_below test (suc bound) = count_below test bound + (if test bound then 1 else 0)

-- the least number below the bound that passes the test, if any
unfoldable pub least_below : (ℕ → Bool) → ℕ → Option ℕ
least_below test zero = None
least_below test (suc bound) = elim (least_below test bound) [
  | Some least ↦ Some least
  | None ↦ (if test bound then Some bound else None)
]

-- whether no number below the bound passes the test
unfoldable pub none_below : (ℕ → Bool) → ℕ → Bool
none_below test zero = true
none_below test (suc bound) = none_below test bound && not (test bound)

-- how many pages `len` bytes take, rounded up
abbrev pub pages_of : ℕ → ℕ
pages_of len = (len + (PAGE_SIZE - 1)) / PAGE_SIZE

-- a length in bytes, rounded up to whole pages
abbrev pub rounded : ℕ → ℕ
rounded len = PAGE_SIZE * pages_of len
