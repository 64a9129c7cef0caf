use Rattle.std.proofs.Common.{◌≡◌, ◌<◌, ◌∙◌, ◌+◌, arith, refl, length, sym, ◌-◌}
use Rattle.std.proofs.lemmas.Bool.{false≢true}
use Rattle.area_map.specs.Areas.{BeginsBy}
use Rattle.area_map.proofs.AreaLemmas.{runs_at, All-take_at}
use Rattle.area_map.proofs.SideLemmas.{IsAbove-whole, IsAbove-joined, IsAbove-part}
use Rattle.area_map.proofs.edit.above.Goals as goal

pub overflow_add-end : goal.overflow_add-end
overflow_add-end c =
    let bound = (runs_at c.args.areas.now (c.beginning_by-at.result - 1) c.requires.runs (omega arith)).0.bound in
    omega arith

pub returns-then-end-page : goal.returns-then-end-page
returns-then-end-page c =
    IsAbove-whole c.args.areas.now (c.beginning_by-at.result - 1) c.beginning_by-at.result c.args.page c.args.prot c.requires.runs (omega arith) (omega arith) c.requires.bound c.beginning_by-at.ensures.after (omega arith)

pub returns-then-takes_in : goal.returns-then-takes_in
returns-then-takes_in c =
    let at = c.beginning_by-at.result in
    let last : at - 1 < length c.args.areas.now = omega arith in
    let is : at ≡ (at - 1) + 1 = omega arith in
    IsAbove-joined c.args.areas.now (at - 1) at c.args.page c.args.prot c.requires.runs last is c.beginning_by-at.ensures.after
    (All-take_at (BeginsBy c.args.page) c.args.areas.now (at - 1) at last is c.beginning_by-at.ensures.by) c.if-end-page.false (c.takes_in.ensures.0 c.if-takes_in.true)

pub returns : goal.returns
returns c =
    let at = c.beginning_by-at.result in
    let last : at - 1 < length c.args.areas.now = omega arith in
    let is : at ≡ (at - 1) + 1 = omega arith in
    IsAbove-part c.args.areas.now (at - 1) at c.args.page c.args.prot _ c.requires.runs last is c.requires.bound c.beginning_by-at.ensures.after
    (All-take_at (BeginsBy c.args.page) c.args.areas.now (at - 1) at last is c.beginning_by-at.ensures.by) c.if-end-page.false
    (λ same. absurd (false≢true (sym c.if-takes_in.false ∙ c.takes_in.ensures.1 same))) refl refl refl
