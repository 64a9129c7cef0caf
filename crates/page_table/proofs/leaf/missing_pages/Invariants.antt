use Rattle.std.proofs.Common.{◌≡◌, replicate, None}
use Rattle.page_table.specs.Bytes.{Page}
use Rattle.page_table.proofs.leaf.missing_pages.Given as goal

abbrev pub invariant-loop : goal.invariant-loop
invariant-loop l = l.pages.items ≡ replicate {A = Page} l.counter None
