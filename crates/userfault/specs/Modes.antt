-- The modes of pages, in the terms of the crate's code.
use Rattle.std.specs.Prelude.{◌≡◌, ℕ, ◌&&◌, ◌||◌, Bool, true, false, not, if◌then◌else◌}
use Rattle.std.specs.Ordering.{nat_cmp}
use Rattle.std.specs.FinSet.{FinSet, contains}
use Rattle.foundation.specs.Ranges.{in_range}
use Rattle.mig_base.specs.Sets.{pages_where, without, with_range}
use Rattle.foundation.specs.Modes as registration
use Rattle.mig_base.specs.Userfault.{Object, is_registered}
use Rattle.foundation.specs.Tests.{same_bool}
use Rattle.userfault.specs.declared.modes.Mode.{Mode}
use Rattle.userfault.specs.declared.object.moves.RangeModes.{RangeModes}

-- the machine's mode that a mode of the code means
abbrev pub mode_of : Mode → registration.Mode
mode_of mode = record { missing = mode.missing; protect = mode.protect }

-- whether two pages have the same mode
abbrev pub has_mode_of : Object → ℕ → ℕ → Bool
has_mode_of object page other = same_bool (contains object.missing page) (contains object.missing other) && same_bool (contains object.protect page) (contains object.protect other)

-- whether a page is already registered in every mode that is asked for: `own` if this mode is, `other` if the other one is
abbrev pub has_asked : FinSet nat_cmp → FinSet nat_cmp → Bool → Bool → ℕ → Bool
has_asked own other asked other_asked page = (not asked || contains own page) && (not other_asked || contains other page)

-- the pages of one mode after a UFFDIO_REGISTER of a range; `asked` and `other_asked` are the modes of the call. A page of the range that
-- already has every mode asked for keeps what it has; any other page of the range is in this mode exactly if it is asked for
abbrev pub registered_set : FinSet nat_cmp → FinSet nat_cmp → ℕ → ℕ → Bool → Bool → FinSet nat_cmp
registered_set own other first count asked other_asked =
    pages_where (λ page. if in_range first count page && not (has_asked own other asked other_asked page) then asked else contains own page)

-- the mode of a page that is not registered
abbrev pub no_mode : registration.Mode
no_mode = record { missing = false; protect = false }

-- the object after a range is opened, to receive the modes of other pages: all its pages are registered in both modes
abbrev pub opened : Object → ℕ → ℕ → Object
opened object first count = record object { missing = with_range object.missing first count; protect = with_range object.protect first count }

-- a range is open: each of its pages is registered in both modes
pub record IsOpen (object : Object) (first count : ℕ) : Type 0 where
  pub missing : (page : ℕ) → in_range first count page ≡ true → contains object.missing page ≡ true
  pub protect : (page : ℕ) → in_range first count page ≡ true → contains object.protect page ≡ true

-- `modes` is what the object has for the pages of the range, and nothing for any other page
pub record AreModesOf (modes : RangeModes) (object : Object) (first count : ℕ) : Type 0 where
  pub missing : (page : ℕ) → contains modes.missing page ≡ (in_range first count page && contains object.missing page)
  pub protect : (page : ℕ) → contains modes.protect page ≡ (in_range first count page && contains object.protect page)

-- the object after the pages of a range lose each mode that `mode` does not have
abbrev pub limited : Object → ℕ → ℕ → registration.Mode → Object
limited object first count mode =
    record object {
      missing = if mode.missing then object.missing else without object.missing first count;
      protect = if mode.protect then object.protect else without object.protect first count;
    }
