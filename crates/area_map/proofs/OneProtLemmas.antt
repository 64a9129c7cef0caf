-- A range of one protection lies in one area.
use Rattle.std.proofs.Common.{◌≡◌, ℕ, ◌+◌, ◌-◌, ◌<◌, ◌≤◌, Some, None, List, [], ◌∷◌, refl, sym, ap, ◌∙◌, ⊎_elim, arith, length, drop, get_or}
use Rattle.std.specs.List.{All}
use Rattle.std.proofs.lemmas.List.Elements.{All-head}
use Rattle.std.proofs.lemmas.Option.{same_Some}
use Rattle.mig_base.specs.declared.Prot.{Prot}
use Rattle.mig_base.specs.declared.Area.{Area}
use Rattle.foundation.proofs.TestLemmas.{at_or_below, some_is_none}
use Rattle.area_map.specs.Areas.{prot_in, IsBefore, AreRuns, BeginsAfter}
use Rattle.area_map.specs.Ranges.{HasOneProt}
use Rattle.area_map.proofs.AreaLemmas.{no_area, runs_at, prot_in-first, prot_in-rest_above, prot_in-rest_below, prot_in-behind, prot_in-from, prot_in-at, prot_in-outside}

-- the page after an area has another protection, or none
pub ends_there : (a : Area) (rest : List Area) → AreRuns (a ∷ rest) → prot_in rest (a.first + a.count) ≡ Some a.prot → ⊥
unfolding prot_in
ends_there a [] h e = some_is_none a.prot None e refl
ends_there a (b ∷ rest) h e =
    let end = a.first + a.count in
    let before = All-head (IsBefore a) b rest h.1 in
    let apart = before.apart in
    let some = h.2.0.some in
    ⊎_elim
    (λ (touch : b.first ≤ end). before.differ (omega arith) (same_Some a.prot b.prot (sym e ∙ prot_in-first b rest end touch (omega arith))))
    (λ (gap : end < b.first). some_is_none a.prot (prot_in (b ∷ rest) end) e (prot_in-rest_below b rest end gap ∙ prot_in-behind b rest end h.2 (omega arith)))
    (at_or_below b.first end)

pub one_prot_inside : (areas : List Area) (n first count : ℕ) → AreRuns areas → n < length areas → (get_or areas n no_area).first ≤ first → (first - (get_or areas n no_area).first) + count ≤ (get_or areas n no_area).count → HasOneProt (prot_in areas) first count (get_or areas n no_area).prot
one_prot_inside areas n first count runs below from fits q l u = prot_in-at areas n q runs below (omega arith) (omega arith)

pub no_prot_at_first : (areas : List Area) (first count : ℕ) → 0 < count → prot_in areas first ≡ None → (prot : Prot) → HasOneProt (prot_in areas) first count prot → ⊥
no_prot_at_first areas first count some none prot h = some_is_none prot (prot_in areas first) (h first (omega arith) (omega arith)) none

pub no_prot_past_end : (areas : List Area) (n at first count : ℕ) → AreRuns areas → n < length areas → at ≡ n + 1 → 0 < count → (get_or areas n no_area).first ≤ first → All (BeginsAfter first) (drop at areas) → (get_or areas n no_area).count < (first - (get_or areas n no_area).first) + count → (prot : Prot) → HasOneProt (prot_in areas) first count prot → ⊥
no_prot_past_end areas n at first count runs below is some from after short prot h =
    let a = get_or areas n no_area in
    let end = a.first + a.count in
    let rest = drop (n + 1) areas in
    ⊎_elim
    (λ (past : end ≤ first). no_prot_at_first areas first count some (prot_in-outside areas n at first runs below is past after) prot h)
    (λ (inside : first < end).
    let alike : prot ≡ a.prot = same_Some prot a.prot (sym (h first (omega arith) (omega arith)) ∙ prot_in-at areas n first runs below from inside) in
    let there : prot_in rest end ≡ Some a.prot = sym (prot_in-from areas n end runs below (omega arith) ∙ prot_in-rest_above a rest end (omega arith)) ∙ h end (omega arith) (omega arith) ∙ ap Some alike in
    ends_there a rest (runs_at areas n runs below) there)
    (at_or_below end first)
