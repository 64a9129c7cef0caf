use Rattle.std.proofs.Common.{ap, ◌∙◌}
use Rattle.grammar.specs.Parsing.{order_from}
use Rattle.grammar.proofs.Orders.{words_found, words_none}
use Rattle.grammar.proofs.parse_order.order_in.Goals as goal

pub returns-then-branch-clause-found : goal.returns-then-branch-clause-found
returns-then-branch-clause-found c =
    words_found _ c.read_tokens.new.tokens.items c.order_of.result (rw c.if-branch.true at c.in_ok-read_tokens.ensures.found) (c.order_of.ensures ∙ ap order_from c.deref.ensures.value)

pub returns-then-branch-clause-none : goal.returns-then-branch-clause-none
returns-then-branch-clause-none c =
    words_none _ c.read_tokens.new.tokens.items c.order_of.result (rw c.if-branch.true at c.in_ok-read_tokens.ensures.found) (c.order_of.ensures ∙ ap order_from c.deref.ensures.value)
