use Rattle.std.proofs.Common.{◌∙◌, arith}
use Rattle.dirty_log.proofs.PageLemmas.{span_out}
use Rattle.dirty_log.proofs.sets.remove_span.Goals as goal

pub returns : goal.returns
returns c =
    c.remove_range.ensures ∙ span_out c.args.pages.now c.args.start c.args.len c.min-first.result c.min-end.result c.ends_by_high_page.ensures (omega (arith, c.min-first.ensures, c.from-high.ensures)) (omega (arith, c.min-end.ensures, c.from-high.ensures, c.end_page.ensures))
