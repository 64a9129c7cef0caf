use Rattle.std.proofs.Common.{◌≡◌, [], drop, get_or, subst, sym, arith, max, ◌+◌}
use Rattle.std.proofs.lemmas.List.{drop_all}
use Rattle.area_map.proofs.AreaLemmas.{no_area, drop_at_area}
use Rattle.area_map.proofs.GapLemmas.{IsSearched, IsSearched-none, IsSearched-more, IsFreePage-before, IsFreePage-last, no_free_page}
use Rattle.area_map.proofs.gap.free_page.Goals as goal

pub loop-area-init : goal.loop-area-init
loop-area-init c = subst (λ n. IsSearched c.args.areas.now c.args.areas.now c.args.count n) (sym c.from-start.ensures) (IsSearched-none c.args.areas.now c.args.count c.requires.runs)

pub loop-area-preserved : goal.loop-area-preserved
loop-area-preserved c =
    let i = c.loop-area.area-index in
    let area = get_or c.args.areas.now i no_area in
    let so_far = rw (drop_at_area c.args.areas.now i c.loop-area-test.true) at c.loop-area.invariant in
    let next : c.max-start.result ≡ max c.loop-area.start (area.first + area.count) = omega (arith, c.max-start.ensures, c.from-in-loop-area.ensures, c.from-in-loop-area-2.ensures) in
    subst (λ n. IsSearched c.args.areas.now (drop (i + 1) c.args.areas.now) c.args.count n) (sym next)
    (IsSearched-more c.args.areas.now _ area c.args.count c.loop-area.start c.requires.some so_far (omega arith))

pub returns-then-start-count-clause-found : goal.returns-then-start-count-clause-found
returns-then-start-count-clause-found c =
    let i = c.loop-area.area-index in
    let so_far = rw (drop_at_area c.args.areas.now i c.loop-area-test.true) at c.loop-area.invariant in
    IsFreePage-before c.args.areas.now _ (get_or c.args.areas.now i no_area) c.args.count c.loop-area.start so_far (omega arith)

pub returns-then-start-count-2-clause-found : goal.returns-then-start-count-2-clause-found
returns-then-start-count-2-clause-found c =
    let all : drop c.loop-area.area-index c.args.areas.now ≡ [] = drop_all c.loop-area.area-index c.args.areas.now c.loop-area-test.false in
    IsFreePage-last c.args.areas.now c.args.count c.loop-area.start (rw all at c.loop-area.invariant) (omega arith)

pub returns-else-start-count-2-clause-none : goal.returns-else-start-count-2-clause-none
returns-else-start-count-2-clause-none c =
    let all : drop c.loop-area.area-index c.args.areas.now ≡ [] = drop_all c.loop-area.area-index c.args.areas.now c.loop-area-test.false in
    no_free_page c.args.areas.now c.args.count c.loop-area.start (rw all at c.loop-area.invariant) (omega arith)
