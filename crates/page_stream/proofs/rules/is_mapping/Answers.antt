use Rattle.std.proofs.Common.{arith, sym, ◌∙◌}
use Rattle.std.proofs.lemmas.Bool.{eqb-true, le-leb, leb-true}
use Rattle.mig_base.specs.declared.TheConstants.{MAX_PAGES}
use Rattle.page_stream.proofs.RuleLemmas.{mapping, no_low_page}
use Rattle.page_stream.proofs.rules.is_mapping.Goals as goal

pub returns-then-mapped_in-eq0 : goal.returns-then-mapped_in-eq0
returns-then-mapped_in-eq0 c = (
  λ few. let most = leb-true c.mapped_pages.result MAX_PAGES few in mapping c.args.areas.now c.ends_by_high_page.ensures (sym c.mapped_in.ensures ∙ c.if-mapped_in-eq0.true) (omega arith),
  λ is. let few = is.few in le-leb c.mapped_pages.result MAX_PAGES (omega arith),
)

pub returns-else-mapped_in-eq0 : goal.returns-else-mapped_in-eq0
returns-else-mapped_in-eq0 c = (
  λ none. absurd (c.if-mapped_in-eq0.false (eqb-true c.mapped_in.result 0 none)),
  λ is. absurd (c.if-mapped_in-eq0.false (c.mapped_in.ensures ∙ no_low_page c.args.areas.now is)),
)
