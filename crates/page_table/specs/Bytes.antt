-- The bytes of pages.
use Rattle.std.specs.Prelude.{◌≡◌, ◌==◌, ◌&&◌, not, Bool, true, if◌then◌else◌, ℕ, List, Option, Some, None, Result, Ok, Err, unwrap_or, length, slice_index_or}
use Rattle.std.specs.List.{list_all}
use Rattle.mig_base.specs.Bytes.{overwrite, zero_page}
use Rattle.foundation.specs.declared.TheConstants.{PAGE_SIZE}

-- a page of a table: its bytes if it is present, else none
abbrev pub Page : Type 0
Page = Option (List ℕ)

-- a page that is present has PAGE_SIZE bytes
abbrev pub IsWhole : Page → Type 0
IsWhole page = (bytes : List ℕ) → page ≡ Some bytes → length bytes ≡ PAGE_SIZE

-- each present page of a list has PAGE_SIZE bytes
abbrev pub AreWhole : List Page → Type 0
AreWhole pages = (i : ℕ) → IsWhole (slice_index_or pages i None)

-- whether bytes are all zeros
abbrev pub is_zeros : List ℕ → Bool
is_zeros bytes = list_all (λ byte. byte == 0) bytes

-- a page that is present and has another byte than zero, else none
abbrev pub unless_zeros : Page → Page
unless_zeros None = None
unless_zeros (Some bytes) = if is_zeros bytes then None else Some bytes

-- whether writing these bytes into a page may need memory: a missing page needs room, and a page of zeros needs bytes of its own, unless
-- only zeros are written
abbrev pub write_needs_room : Page → List ℕ → Bool
write_needs_room None bytes = true
write_needs_room (Some held) bytes = is_zeros held && not (is_zeros bytes)

-- a page after bytes were to be written from byte offset on: a missing page is written as a page of zeros, and a refused write changes
-- nothing
abbrev pub stored_page : {A E : Type 0} → Result A E → Page → ℕ → List ℕ → Page
stored_page (Ok done) page offset bytes = Some (overwrite (unwrap_or page zero_page) offset bytes)
stored_page (Err fault) page offset bytes = page
