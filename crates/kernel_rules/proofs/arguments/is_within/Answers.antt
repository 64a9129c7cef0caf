use Rattle.std.proofs.Common.{◌∙◌, sym, arith}
use Rattle.std.specs.Prelude.{not, ◌&&◌}
use borrow.Author.Count.{below_more}
use Rattle.foundation.specs.Bits.{is_one}
use Rattle.foundation.proofs.RangeLemmas.{none_below-from, none_below-not}
use Rattle.kernel_rules.proofs.arguments.is_within.Goals as goal

pub returns-then-lacks : goal.returns-then-lacks
returns-then-lacks c = sym (none_below-not (λ i. is_one c.args.word i && not (is_one c.args.other i)) 64 c.loop-i.i c.loop-i-test.true (sym c.lacks.ensures ∙ c.if-lacks.true))

pub returns : goal.returns
returns c = sym (none_below-from (λ i. is_one c.args.word i && not (is_one c.args.other i)) 64 (λ i l. c.loop-i.invariant i (omega arith)))

pub loop-i-preserved : goal.loop-i-preserved
loop-i-preserved c = below_more _ _ c.loop-i.invariant (sym c.lacks.ensures ∙ c.if-lacks.false)
