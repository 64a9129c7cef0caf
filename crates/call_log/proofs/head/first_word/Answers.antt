use Rattle.std.proofs.Common.{drop, sym}
use Rattle.std.proofs.lemmas.List.{take-append-drop}
use Rattle.call_log.proofs.head.first_word.Goals as goal

pub returns-in-Some : goal.returns-in-Some
returns-in-Some c = (drop c.in-Some.end c.args.line.now, sym (take-append-drop c.in-Some.end c.args.line.now))
