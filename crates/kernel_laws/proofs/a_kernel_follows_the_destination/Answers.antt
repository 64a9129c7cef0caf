use Rattle.mig_model.specs.Migration.{next}
use Rattle.mig_base.specs.declared.schedule.Step.{Step}
use Rattle.mig_model.proofs.invariant.Bounded.{bounded-reached}
use Rattle.mig_model.proofs.invariant.FaultPages.{inside-reached}
use Rattle.mig_model.proofs.memory.HandlerCalls.{copy_installed, destination_forgets, destination_wakes, destination_zeroes}
use Rattle.kernel_laws.proofs.Followed.{followed-copy, followed-wake, followed-zeropage, has-copy}
use Rattle.kernel_laws.proofs.a_kernel_follows_the_destination.Goals as goal

pub returns-clause-installed : goal.returns-clause-installed
returns-clause-installed c addr origin key from at source =
    let w = at.world in
    let has = has-copy w addr origin at.is in
    followed-copy at.one w.destination.guest (next w Step.Install).destination.guest key from addr has.0.bytes at.same
    (copy_installed at.reached.cpus w has.0 has.1 addr origin (bounded-reached w at.reached) has.2 at.is).0 source

pub returns-clause-installed_zeros : goal.returns-clause-installed_zeros
returns-clause-installed_zeros c addr origin key copy rest at first zeros =
    let w = at.world in
    followed-zeropage at.one w.destination.guest (next w Step.Install).destination.guest key addr at.same ((copy_installed at.reached.cpus w copy rest addr origin (bounded-reached w at.reached) first at.is).1 zeros)

pub returns-clause-zeroed : goal.returns-clause-zeroed
returns-clause-zeroed c addr key at =
    let w = at.world in
    followed-zeropage at.one w.destination.guest (next w Step.DestAct).destination.guest key addr at.same (destination_zeroes at.reached.cpus w addr (bounded-reached w at.reached) at.is)

pub returns-clause-woke : goal.returns-clause-woke
returns-clause-woke c addr at =
    let w = at.world in
    followed-wake at.one w.destination.guest (next w Step.DestAct).destination.guest addr at.same (destination_wakes at.reached.cpus w addr (bounded-reached w at.reached) (inside-reached w at.reached) at.is)

pub returns-clause-forgot : goal.returns-clause-forgot
returns-clause-forgot c addr at =
    let w = at.world in
    followed-wake at.one w.destination.guest (next w Step.DestAct).destination.guest addr at.same (destination_forgets at.reached.cpus w addr (bounded-reached w at.reached) (inside-reached w at.reached) at.is)
