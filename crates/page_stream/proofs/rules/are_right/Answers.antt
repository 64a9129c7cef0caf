use Rattle.std.proofs.Common.{arith, refl, sym, ◌∙◌}
use Rattle.std.proofs.lemmas.Bool.{false≢true}
use Rattle.page_stream.proofs.RuleLemmas.{right_at, right_each}
use Rattle.page_stream.proofs.rules.are_right.Goals as goal

pub returns-then-not-is_right : goal.returns-then-not-is_right
returns-then-not-is_right c = (
  λ no. absurd (false≢true no),
  λ are. sym c.if-not-is_right.true ∙ c.is_right.ensures.1 (right_at c.args.commands.now c.loop-command.command-index _ c.loop-command-test.true are),
)

pub returns : goal.returns
returns c = (λ yes. right_each c.args.commands.now (λ k l. c.loop-command.invariant k (omega arith)), λ are. refl)
