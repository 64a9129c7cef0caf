use Rattle.std.proofs.lemmas.Bool.{false≢true}
use Rattle.fault_handler.proofs.PageLemmas.{none_paged}
use Rattle.fault_handler.proofs.destination.Destination.new.Goals as goal

pub invariant_of-result : goal.invariant_of-result
invariant_of-result c = rw (c.empty.ensures, c.new-5.ensures) (record { ready = λ h. absurd (false≢true h) }, none_paged)
