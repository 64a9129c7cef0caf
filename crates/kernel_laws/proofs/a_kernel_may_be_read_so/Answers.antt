use Rattle.std.proofs.Common.{sym, subst}
use Rattle.kernel_laws.specs.Agreement.{Takes}
use Rattle.kernel_laws.specs.Reading.{reads_event, reads_fault}
use Rattle.kernel_laws.proofs.EventReads.{event-taken, read-event}
use Rattle.kernel_laws.proofs.FaultReads.{fault-taken, no-message, read-fault}
use Rattle.kernel_laws.proofs.a_kernel_may_be_read_so.Goals as goal

pub returns-clause-fault : goal.returns-clause-fault
returns-clause-fault c next key =
    let one = next.one in
    let took = fault-taken one.space one.kernel key next.reader one.name one.object next.room next.noted next.rest one.agree next.enabled next.first next.fits next.other in
    (took.0, subst (λ space. Takes (reads_fault one took.0 key next.reader next.room next.noted.message) space one.name) (sym (read-fault one.space next.noted next.rest next.enabled next.first)) took.1)

pub returns-clause-event : goal.returns-clause-event
returns-clause-event c next key reader =
    let one = next.one in
    let took = event-taken one key reader next.room next.noted next.rest next.enabled next.first next.watched next.fits in
    (took.0, subst (λ space. Takes (reads_event one took.0 key reader next.room next.noted.message) space one.name) (sym (read-event one.space next.noted next.rest next.enabled next.no_fault next.first)) took.1)

pub returns-clause-none : goal.returns-clause-none
returns-clause-none c next key reader room = no-message next.one.space next.one.kernel key reader next.one.name next.one.object room next.errno next.one.agree next.waits next.is
