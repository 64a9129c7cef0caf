-- The changes of a page as values, which a table can keep: each is one of the functions of Pages.antt.
use Rattle.std.specs.Prelude.{ℕ, if◌then◌else◌, Option, Some, None}
use Rattle.foundation.specs.Ranges.{in_range}
use Rattle.kernel_rules.specs.Pages.{registered_page, without_object, put_page, protected_page, perhaps_protected, settled, shown, cleared_page, freed_page, found_there, perhaps_cleared, perhaps_put, poisoned_page, populated_page}
use Rattle.kernel_rules.specs.declared.change.Change.{Change}
use Rattle.kernel_rules.specs.declared.change.Change.TheVariants as change
use Rattle.kernel_rules.specs.declared.known.Page.{Page}

-- the page, changed if it is registered
abbrev pub page_with : (Page → Page) → Option Page → Option Page
page_with change None = None
page_with change (Some page) = Some (change page)

-- what is known of a page after a change
abbrev pub changed : Change → Option Page → Option Page
changed (change.Register object missing protect minor) page = registered_page object (record { missing = missing; protect = protect }) minor page
changed change.Forget page = None
changed (change.Set found) page = found
changed (change.ForgetObject object) page = without_object object page
changed (change.Put protect) page = page_with (put_page protect) page
changed (change.Shown cached marked) page = page_with (found_there cached marked) page
changed change.Poison page = page_with poisoned_page page
changed change.PerhapsPut page = page_with perhaps_put page
changed (change.Protect protect unpopulated) page = page_with (protected_page protect unpopulated) page
changed (change.PerhapsProtect protect) page = page_with (perhaps_protected protect) page
changed change.Clear page = page_with cleared_page page
changed change.Free page = page_with freed_page page
changed change.PerhapsClear page = page_with perhaps_cleared page
changed (change.Fault protected) page = page_with (shown protected) page
changed (change.Settle presence) page = page_with (settled presence) page
changed (change.Populate write) page = page_with (populated_page write) page

-- the pages once those of a range are changed
abbrev pub range_changed : (ℕ → Option Page) → ℕ → ℕ → Change → ℕ → Option Page
range_changed pages first count change page = if in_range first count page then changed change (pages page) else pages page
