use Rattle.std.proofs.Common.{ℕ, ◌<◌, List, get_or}
use Rattle.mig_model.specs.Bounds.{IsPageBytes}
use Rattle.page_stream.proofs.lists.Pages.are_whole.Given as goal

abbrev pub invariant-loop-page : goal.invariant-loop-page
invariant-loop-page l = (k : ℕ) (d : List ℕ) → k < l.page-index → IsPageBytes (get_or l.page-items k d)
