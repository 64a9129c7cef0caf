use Rattle.std.proofs.Common.{sym, ◌∙◌, ◌+◌, add-one}
use Rattle.std.proofs.lemmas.List.{take_all}
use Rattle.std.proofs.lemmas.List.{take_rest}
use Rattle.grammar.proofs.Entries.{arrow_none, arrow_split, arrow_more}
use Rattle.grammar.proofs.parse_entry.split_reply.Goals as goal

pub returns-then-is_arrow-clause-found : goal.returns-then-is_arrow-clause-found
returns-then-is_arrow-clause-found c =
    rw (take_rest c.args.tokens.now (c.loop-at.at + 1), add-one)
    (arrow_split c.args.tokens.now c.loop-at.at _ c.loop-at-test.true c.loop-at.invariant (sym c.is_arrow.ensures ∙ c.if-is_arrow.true))

pub loop-at-preserved : goal.loop-at-preserved
loop-at-preserved c =
    rw add-one
    (arrow_more c.args.tokens.now c.loop-at.at _ c.loop-at-test.true c.loop-at.invariant (sym c.is_arrow.ensures ∙ c.if-is_arrow.false))

pub returns-clause-none : goal.returns-clause-none
returns-clause-none c =
    let whole = take_all c.loop-at.at c.args.tokens.now c.loop-at-test.false in
    arrow_none c.args.tokens.now (rw whole at c.loop-at.invariant)
