use Rattle.std.proofs.Common.{◌≡◌, ◌++◌, take}
use Rattle.std.specs.Prelude.{string_bytes}
use Rattle.host_calls.specs.Texts.{call_lines}
use Rattle.host_calls.proofs.stepper.print_calls.Given as goal

abbrev pub invariant-loop-call : goal.invariant-loop-call
invariant-loop-call l = string_bytes l.text ≡ string_bytes l.fn.text ++ call_lines l.node (take l.call-index l.calls)
