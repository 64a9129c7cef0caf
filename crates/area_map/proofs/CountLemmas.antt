-- How many pages areas have: within the address space, and once an edit is made.
use Rattle.std.proofs.Common.{◌≡◌, ℕ, ◌+◌, ◌-◌, ◌≤◌, List, [], ◌∷◌, ◌++◌, sym, ap, ◌∙◌, arith, add_comm, take, drop, slice_range}
use Rattle.std.specs.Option.{option_to_list}
use Rattle.std.specs.FinMap.{len, len-empty}
use Rattle.std.specs.Ordering.{nat_cmp}
use Rattle.std.proofs.lemmas.List.Edits.{split_between}
use Rattle.std.proofs.lemmas.List.Elements.{All-head}
use Rattle.std.proofs.lemmas.List.Sums.{sum_by-cons, sum_by-append}
use Rattle.mig_base.specs.declared.TheConstants.{HIGH_PAGE}
use Rattle.mig_base.specs.declared.Prot.{Prot}
use Rattle.mig_base.specs.declared.Area.{Area}
use Rattle.mig_base.proofs.PageLemmas.{len-set_range}
use Rattle.area_map.specs.declared.edit.Edit.{Edit}
use Rattle.area_map.specs.Areas.{pages_in, page_sum, IsBefore, AreRuns}
use Rattle.area_map.specs.Edits.{IsInside, edited}
use Rattle.area_map.proofs.AreaLemmas.{prot_in-behind}
use Rattle.area_map.proofs.ViewLemmas.{get-pages_in}

sum-bound : (a : Area) (rest : List Area) → AreRuns (a ∷ rest) → a.first + page_sum (a ∷ rest) ≤ HIGH_PAGE
sum-bound a [] h = let bound = h.0.bound in let one = sum_by-cons (λ b. b.count) a [] in omega arith
sum-bound a (b ∷ rest) h =
    let apart = (All-head (IsBefore a) b rest h.1).apart in
    let bound = sum-bound b rest h.2 in
    let more = sum_by-cons (λ b. b.count) a (b ∷ rest) in
    omega arith

-- runs have no more pages than the address space
pub sum-high : (areas : List Area) → AreRuns areas → page_sum areas ≤ HIGH_PAGE
sum-high [] h = omega arith
sum-high (a ∷ rest) h = let bound = sum-bound a rest h in omega arith

-- the map has as many pages as its areas
pub len-pages_in : (areas : List Area) → AreRuns areas → len (pages_in areas) ≡ page_sum areas
unfolding pages_in
len-pages_in [] h = len-empty nat_cmp Prot
len-pages_in (a ∷ rest) h =
    len-set_range (pages_in rest) a.first a.count a.prot (λ q l u. get-pages_in rest q ∙ prot_in-behind a rest q h u)
    ∙ ap (λ n. n + a.count) (len-pages_in rest h.2)
    ∙ add_comm (page_sum rest) a.count
    ∙ sym (sum_by-cons (λ b. b.count) a rest)

-- the pages before the edit, by its parts
pub sum_parts : (areas : List Area) (low high : ℕ) → low ≤ high → page_sum areas ≡ page_sum (take low areas) + (page_sum (slice_range areas low high) + page_sum (drop high areas))
sum_parts areas low high order =
    ap page_sum (split_between areas low high order)
    ∙ sum_by-append (λ (a : Area). a.count) (take low areas) (slice_range areas low high ++ drop high areas)
    ∙ ap (λ n. page_sum (take low areas) + n) (sum_by-append (λ (a : Area). a.count) (slice_range areas low high) (drop high areas))

-- and after it
pub sum_edited : (areas : List Area) (edit : Edit) → page_sum (edited areas edit) ≡ page_sum (take edit.low areas) + (page_sum (option_to_list edit.left) + (page_sum (option_to_list edit.middle) + (page_sum (option_to_list edit.right) + page_sum (drop edit.high areas))))
sum_edited areas edit =
    simp (sum_by-append (λ (a : Area). a.count))

-- the areas that an edit replaces have no more pages than all
pub replaced_few : (areas : List Area) (edit : Edit) → IsInside areas edit → page_sum (slice_range areas edit.low edit.high) ≤ page_sum areas
replaced_few areas edit inside = let parts = sum_parts areas edit.low edit.high inside.order in omega arith

-- the count after an edit
pub count_edited : (areas : List Area) (edit : Edit) (mapped replaced : ℕ) → IsInside areas edit → mapped ≡ page_sum areas → replaced ≡ page_sum (slice_range areas edit.low edit.high) → (((mapped - replaced) + page_sum (option_to_list edit.left)) + page_sum (option_to_list edit.middle)) + page_sum (option_to_list edit.right) ≡ page_sum (edited areas edit)
count_edited areas edit mapped replaced inside whole part =
    let before = sum_parts areas edit.low edit.high inside.order in
    let after = sum_edited areas edit in
    omega arith
