use Rattle.std.proofs.Common.{◌≡◌, ◌<◌, ◌≤◌, ℕ}
use Rattle.postmig_c.specs.Pages.{page_kind}
use Rattle.postmig_c.proofs.pages.run_from.Given as goal

abbrev pub invariant-loop-page : goal.invariant-loop-page
invariant-loop-page l = (page : ℕ) → l.fn.from ≤ page → page < l.page → page_kind l.fn.node page ≡ l.kind
