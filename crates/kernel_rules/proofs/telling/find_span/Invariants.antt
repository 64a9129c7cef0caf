use Rattle.std.proofs.Common.{◌≡◌, drop}
use Rattle.kernel_rules.specs.Ioctls.{span_of}
use Rattle.kernel_rules.proofs.telling.find_span.Given as goal

abbrev pub invariant-loop-span : goal.invariant-loop-span
invariant-loop-span l = span_of (drop l.span-index l.spans) l.key ≡ span_of l.spans l.key
