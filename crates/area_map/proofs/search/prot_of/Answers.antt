use Rattle.std.proofs.Common.{arith, ◌-◌, drop, get_or, sym, subst}
use Rattle.std.specs.List.{All}
use Rattle.area_map.specs.Areas.{BeginsBy, BeginsAfter}
use Rattle.area_map.proofs.AreaLemmas.{no_area, All-take_at, prot_in-at, prot_in-outside, prot_in-before}
use Rattle.area_map.proofs.search.prot_of.Goals as goal

pub overflow_sub-page : goal.overflow_sub-page
overflow_sub-page c =
    let n = c.beginning_by-after.result - 1 in
    All-take_at (BeginsBy c.args.page) c.args.areas.now n c.beginning_by-after.result (omega arith) (omega arith) c.beginning_by-after.ensures.by

pub returns-then-after-eq0 : goal.returns-then-after-eq0
returns-then-after-eq0 c =
    sym (prot_in-before c.args.areas.now c.args.page (subst (λ n. All (BeginsAfter c.args.page) (drop n c.args.areas.now)) c.if-after-eq0.true c.beginning_by-after.ensures.after))

pub returns-then-page-area : goal.returns-then-page-area
returns-then-page-area c =
    let n = c.beginning_by-after.result - 1 in
    let first : BeginsBy c.args.page (get_or c.args.areas.now n no_area) = All-take_at (BeginsBy c.args.page) c.args.areas.now n c.beginning_by-after.result (omega arith) (omega arith) c.beginning_by-after.ensures.by in
    sym (prot_in-at c.args.areas.now n c.args.page c.requires (omega arith) first (omega arith))

pub returns-else-page-area : goal.returns-else-page-area
returns-else-page-area c =
    let n = c.beginning_by-after.result - 1 in
    let first : BeginsBy c.args.page (get_or c.args.areas.now n no_area) = All-take_at (BeginsBy c.args.page) c.args.areas.now n c.beginning_by-after.result (omega arith) (omega arith) c.beginning_by-after.ensures.by in
    sym (prot_in-outside c.args.areas.now n c.beginning_by-after.result c.args.page c.requires (omega arith) (omega arith) (omega arith) c.beginning_by-after.ensures.after)
