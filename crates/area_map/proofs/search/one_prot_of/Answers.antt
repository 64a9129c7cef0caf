use Rattle.std.proofs.Common.{◌-◌, drop, get_or, subst, arith}
use Rattle.std.specs.List.{All}
use Rattle.area_map.specs.Areas.{BeginsBy, BeginsAfter}
use Rattle.area_map.proofs.AreaLemmas.{no_area, All-take_at, prot_in-before}
use Rattle.area_map.proofs.OneProtLemmas.{one_prot_inside, no_prot_at_first, no_prot_past_end}
use Rattle.area_map.proofs.search.one_prot_of.Goals as goal

pub returns-then-after-eq0-clause-none : goal.returns-then-after-eq0-clause-none
returns-then-after-eq0-clause-none c =
    no_prot_at_first c.args.areas.now c.args.first c.args.count c.requires.some
    (prot_in-before c.args.areas.now c.args.first (subst (λ n. All (BeginsAfter c.args.first) (drop n c.args.areas.now)) c.if-after-eq0.true c.beginning_by-after.ensures.after))

pub overflow_sub-first : goal.overflow_sub-first
overflow_sub-first c =
    All-take_at (BeginsBy c.args.first) c.args.areas.now (c.beginning_by-after.result - 1) c.beginning_by-after.result (omega arith) (omega arith) c.beginning_by-after.ensures.by

pub returns-then-first-area-clause-some : goal.returns-then-first-area-clause-some
returns-then-first-area-clause-some c =
    let n = c.beginning_by-after.result - 1 in
    let first : BeginsBy c.args.first (get_or c.args.areas.now n no_area) = All-take_at (BeginsBy c.args.first) c.args.areas.now n c.beginning_by-after.result (omega arith) (omega arith) c.beginning_by-after.ensures.by in
    one_prot_inside c.args.areas.now n c.args.first c.args.count c.requires.runs (omega arith) first c.if-first-area.true

pub returns-else-first-area-clause-none : goal.returns-else-first-area-clause-none
returns-else-first-area-clause-none c =
    let n = c.beginning_by-after.result - 1 in
    let first : BeginsBy c.args.first (get_or c.args.areas.now n no_area) = All-take_at (BeginsBy c.args.first) c.args.areas.now n c.beginning_by-after.result (omega arith) (omega arith) c.beginning_by-after.ensures.by in
    no_prot_past_end c.args.areas.now n c.beginning_by-after.result c.args.first c.args.count c.requires.runs (omega arith) (omega arith) c.requires.some first c.beginning_by-after.ensures.after c.if-first-area.false
