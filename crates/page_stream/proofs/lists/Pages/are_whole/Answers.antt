use Rattle.std.proofs.Common.{arith, subst}
use Rattle.mig_model.specs.Bounds.{ArePageBytes}
use Rattle.page_stream.proofs.RuleLemmas.{page_bytes_each}
use Rattle.page_stream.proofs.lists.Pages.are_whole.Goals as goal

pub returns : goal.returns
returns c = subst ArePageBytes c.as_slice-page-items.ensures (page_bytes_each c.as_slice-page-items.result.now (λ k d l. c.loop-page.invariant k d (omega arith)))
