-- What a table of pages has: runs of equal pages, by where they start.
use Rattle.std.specs.Prelude.{ℕ, zero, suc, ◌^◌, nat_lt, if◌then◌else◌, Option, Some, None, ⊤}
use Rattle.std.specs.Ordering.{nat_cmp}
use Rattle.std.specs.BTreeMap.{get}
use Rattle.foundation.specs.Ranges.{in_range}
use Rattle.kernel_rules.specs.declared.known.Page.{Page}
use Rattle.kernel_rules.specs.declared.page_table.PageTable.{PageTable}

-- the page of a run that starts there, else another one
abbrev pub run_or : Option (Option Page) → Option Page → Option Page
run_or None before = before
run_or (Some found) before = found

-- the page of the last run that starts there or before
unfoldable pub run_at : (ℕ → Option (Option Page)) → ℕ → Option Page
run_at starts zero = run_or (starts zero) None
run_at starts (suc page) = run_or (starts (suc page)) (run_at starts page)

-- the registered pages that a table has
abbrev pub pages_of : PageTable → ℕ → Option Page
pages_of table page = if nat_lt page (2 ^ 64) then run_at (get nat_cmp table.runs) page else None

-- the pages once those of a range are one
abbrev pub range_set : (ℕ → Option Page) → ℕ → ℕ → Option Page → ℕ → Option Page
range_set pages first count found page = if in_range first count page then found else pages page

-- any runs are a table
abbrev pub IsTable : PageTable → Type 0
IsTable table = ⊤
