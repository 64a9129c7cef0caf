use Rattle.std.proofs.Common.{◌≡◌, ◌<◌, ⊎_elim, arith}
use Rattle.postmig_c.proofs.Statuses.{kept_unless, source_made, source_refused, IsRefusal, told_range}
use Rattle.postmig_c.proofs.source_steps.do_step.Goals as goal

pub returns-clause-made : goal.returns-clause-made
returns-clause-made c zero = source_made c.args.step c.args.node.now c.step.new.self c.step.result c.told.result c.told.new.effect c.step.ensures.made c.step.ensures.line c.told.ensures.made c.told.ensures.refused zero

pub returns-clause-refused : goal.returns-clause-refused
returns-clause-refused c high = source_refused c.args.step c.args.node.now.node c.step.result c.told.result c.told.new.effect c.step.ensures.refused c.told.ensures.made c.told.ensures.refused high

pub returns-clause-kept : goal.returns-clause-kept
returns-clause-kept c other = kept_unless _ _ _ c.step.result c.told.result c.told.new.effect c.told.ensures.made c.step.ensures.err other

pub returns-clause-open : goal.returns-clause-open
returns-clause-open c two =
    ⊎_elim (λ (h : c.told.result ≡ 0). omega (arith, h, two))
    (λ (rest : IsRefusal c.told.result). ⊎_elim (λ (h : c.told.result ≡ 4). omega (arith, h, two)) (λ (h : 64 < c.told.result). omega (arith, h, two)) rest)
    (told_range c.step.result c.told.result c.told.new.effect c.told.ensures.made c.told.ensures.refused)

pub returns-clause-range : goal.returns-clause-range
returns-clause-range c = told_range c.step.result c.told.result c.told.new.effect c.told.ensures.made c.told.ensures.refused
