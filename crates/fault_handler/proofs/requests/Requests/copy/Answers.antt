use Rattle.std.proofs.Common.{subst, sym}
use Rattle.fault_handler.specs.Requests.{StandOnce}
use Rattle.fault_handler.proofs.RequestLemmas.{copied_more}
use Rattle.fault_handler.proofs.requests.Requests.copy.Goals as goal

pub loop-page-preserved : goal.loop-page-preserved
loop-page-preserved c =
    copied_more c.as_slice-pages.result.now c.loop-page.copy c.add.new.self c.loop-page.page-index _ (subst StandOnce (sym c.as_slice-pages.ensures.pages) c.as_slice-pages.ensures.once) c.loop-page-test.true c.loop-page.invariant c.in_ok-add.ensures.ok
