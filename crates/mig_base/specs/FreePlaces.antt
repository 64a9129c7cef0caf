-- Where a mapping may go.
use Rattle.std.specs.Prelude.{ℕ, ◌+◌, ◌%◌, ◌==◌, ◌&&◌, Bool, nat_le, Option}
use Rattle.mig_base.specs.declared.TheConstants.{LOW, HIGH}
use Rattle.foundation.specs.declared.TheConstants.{PAGE_SIZE}
use Rattle.foundation.specs.Ranges.{least_below, none_below}

-- whether a range of `len` bytes may begin at an address, where `taken` says which addresses are in use. mmap(2), DESCRIPTION,
-- leaves the place to the kernel when no address is asked for: here it is the least that is free
abbrev pub is_free_place : (ℕ → Bool) → ℕ → ℕ → Bool
is_free_place taken len start =
    start % PAGE_SIZE == 0 && nat_le LOW start && nat_le (start + len) HIGH && none_below (λ i. taken (start + i)) len

-- the least place for a range of `len` bytes, if any
abbrev pub free_place : (ℕ → Bool) → ℕ → Option ℕ
free_place taken len = least_below (is_free_place taken len) HIGH
