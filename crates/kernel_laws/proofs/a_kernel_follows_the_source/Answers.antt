use Rattle.std.proofs.Common.{◌*◌}
use Rattle.mig_base.specs.declared.schedule.Step.{Step}
use Rattle.mig_base.specs.declared.wake.Wake.TheVariants.{Nobody, Range}
use Rattle.mig_model.specs.Migration.{next}
use Rattle.mig_model.proofs.invariant.Bounded.{bounded-reached}
use Rattle.mig_model.proofs.invariant.FaultPages.{inside-reached}
use Rattle.mig_model.proofs.memory.HandlerCalls.{page_protected, run_protected, source_forgets, source_unprotects, source_wakes, source_zeroes, zero_protected}
use Rattle.kernel_laws.proofs.Followed.{followed-protect, followed-wake, followed-zeropage}
use Rattle.kernel_laws.proofs.a_kernel_follows_the_source.Goals as goal

pub returns-clause-page : goal.returns-clause-page
returns-clause-page c addr key at =
    let w = at.world in
    followed-protect at.one w.source.guest (next w Step.Send).source.guest key addr 4096 1 Nobody at.same (page_protected at.reached.cpus w addr (bounded-reached w at.reached) at.is)

pub returns-clause-zero : goal.returns-clause-zero
returns-clause-zero c addr key at =
    let w = at.world in
    followed-protect at.one w.source.guest (next w Step.Send).source.guest key addr 4096 1 Nobody at.same (zero_protected at.reached.cpus w addr (bounded-reached w at.reached) at.is)

pub returns-clause-run : goal.returns-clause-run
returns-clause-run c count addr pages key at =
    let w = at.world in
    followed-protect at.one w.source.guest (next w (Step.SendRun count)).source.guest key addr (4096 * pages) 1 Nobody at.same (run_protected at.reached.cpus w count addr pages (bounded-reached w at.reached) at.is)

pub returns-clause-unprotected : goal.returns-clause-unprotected
returns-clause-unprotected c addr key at =
    let w = at.world in
    followed-protect at.one w.source.guest (next w Step.SourceAct).source.guest key addr 4096 0 (Range addr 4096) at.same (source_unprotects at.reached.cpus w addr (bounded-reached w at.reached) at.is)

pub returns-clause-zeroed : goal.returns-clause-zeroed
returns-clause-zeroed c addr key at =
    let w = at.world in
    followed-zeropage at.one w.source.guest (next w Step.SourceAct).source.guest key addr at.same (source_zeroes at.reached.cpus w addr (bounded-reached w at.reached) at.is)

pub returns-clause-woke : goal.returns-clause-woke
returns-clause-woke c addr at =
    let w = at.world in
    followed-wake at.one w.source.guest (next w Step.SourceAct).source.guest addr at.same (source_wakes at.reached.cpus w addr (bounded-reached w at.reached) (inside-reached w at.reached) at.is)

pub returns-clause-forgot : goal.returns-clause-forgot
returns-clause-forgot c addr at =
    let w = at.world in
    followed-wake at.one w.source.guest (next w Step.SourceAct).source.guest addr at.same (source_forgets at.reached.cpus w addr (bounded-reached w at.reached) (inside-reached w at.reached) at.is)
