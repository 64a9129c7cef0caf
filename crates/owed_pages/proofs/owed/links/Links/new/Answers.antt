use Rattle.std.proofs.Common.{arith}
use Rattle.owed_pages.proofs.TableLemmas.{past_places}
use Rattle.owed_pages.proofs.LinkLemmas.{no_pairs}
use Rattle.owed_pages.proofs.owed.links.Links.new.Goals as goal

pub invariant_of-result : goal.invariant_of-result
invariant_of-result c = record { kept = no_pairs c.new.result.items c.new-2.result.items (rw c.new.ensures.items (omega arith)) (rw c.new-2.ensures.items (omega arith)) }

pub returns : goal.returns
returns c = λ q. past_places c.new.result.items q (rw c.new.ensures.items (omega arith))
