use Rattle.std.proofs.Common.{◌≡◌, drop}
use Rattle.kernel_rules.specs.Reads.{first_event}
use Rattle.kernel_rules.proofs.reads.find_event.Given as goal

abbrev pub invariant-loop-one : goal.invariant-loop-one
invariant-loop-one l = first_event (drop l.one-index l.events) l.key ≡ first_event l.events l.key
