-- Tests of pages as values.
use Rattle.std.specs.Prelude.{◌==◌, ◌&&◌, ◌||◌, not, Bool, true}
use Rattle.kernel_rules.specs.Pages.{is_freed, is_lacking, is_present, is_unmovable, may_be_empty, may_be_missing}
use Rattle.kernel_rules.specs.declared.known.Page.{Page}
use Rattle.kernel_rules.specs.declared.page_test.PageTest.{PageTest}
use Rattle.kernel_rules.specs.declared.page_test.PageTest.TheVariants as test

-- whether a page passes
abbrev pub passes : PageTest → Page → Bool
passes test.Any = λ page. true
passes (test.Of name) = λ page. page.object == name
passes (test.OfAnother name) = λ page. not (page.object == name)
passes (test.MayBePut protect) = λ page. may_be_missing page && (not protect || page.protect)
passes test.Protected = λ page. page.protect
passes test.NotProtected = λ page. not page.protect
passes test.Present = λ page. is_present page.presence
passes test.Lacking = is_lacking
passes (test.Freed name) = is_freed name
passes test.Empty = may_be_empty
passes (test.Unmovable holes) = is_unmovable holes
passes test.NotMinor = λ page. not page.minor
