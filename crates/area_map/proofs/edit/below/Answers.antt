use Rattle.std.proofs.Common.{◌<◌, ◌∙◌, arith, refl, length, sym}
use Rattle.std.proofs.lemmas.Bool.{false≢true}
use Rattle.area_map.specs.Areas.{EndsFrom}
use Rattle.area_map.proofs.AreaLemmas.{All-drop_at}
use Rattle.area_map.proofs.SideLemmas.{IsBelow-whole, IsBelow-joined, IsBelow-part}
use Rattle.area_map.proofs.edit.below.Goals as goal

pub returns-then-page-area : goal.returns-then-page-area
returns-then-page-area c =
    IsBelow-whole c.args.areas.now c.ending_before-at.result c.args.page c.args.prot c.requires.runs (omega arith) c.ending_before-at.ensures.before (omega arith)

pub returns-then-takes_in : goal.returns-then-takes_in
returns-then-takes_in c =
    let at = c.ending_before-at.result in
    let below : at < length c.args.areas.now = omega arith in
    IsBelow-joined c.args.areas.now at c.args.page c.args.prot c.requires.runs below c.ending_before-at.ensures.before c.if-page-area.false
    (All-drop_at (EndsFrom c.args.page) c.args.areas.now at below c.ending_before-at.ensures.from) (c.takes_in.ensures.0 c.if-takes_in.true)

pub returns : goal.returns
returns c =
    let at = c.ending_before-at.result in
    let below : at < length c.args.areas.now = omega arith in
    IsBelow-part c.args.areas.now at c.args.page c.args.prot _ c.requires.runs below c.ending_before-at.ensures.before c.if-page-area.false
    (All-drop_at (EndsFrom c.args.page) c.args.areas.now at below c.ending_before-at.ensures.from)
    (λ same. absurd (false≢true (sym c.if-takes_in.false ∙ c.takes_in.ensures.1 same))) refl refl refl
