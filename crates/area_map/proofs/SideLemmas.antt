-- What stays of areas below a page, and above one.
use Rattle.std.proofs.Common.{◌≡◌, ◌≢◌, ℕ, ◌+◌, ◌-◌, ◌<◌, ◌≤◌, Option, Some, None, List, [], ◌∷◌, sym, ap, ◌∙◌, subst, ⊎_elim, arith, length, take, drop, get_or}
use Rattle.std.specs.Option.{option_or}
use Rattle.std.specs.List.{All}
use Rattle.std.proofs.lemmas.List.{append-nil}
use Rattle.std.proofs.lemmas.List.Elements.{All-nil, All-cons, All-weaker, All-push}
use Rattle.std.proofs.lemmas.Option.{same_Some}
use Rattle.mig_base.specs.declared.TheConstants.{HIGH_PAGE}
use Rattle.mig_base.specs.declared.Prot.{Prot}
use Rattle.mig_base.specs.declared.Area.{Area}
use Rattle.foundation.proofs.TestLemmas.{at_or_below}
use Rattle.area_map.specs.Areas.{prot_in, IsArea, IsBefore, AreRuns, EndsBefore, BeginsAfter}
use Rattle.area_map.specs.Edits.{StandsBelow, StandsAbove, IsBelow, IsAbove}
use Rattle.area_map.proofs.AreaLemmas.{no_area, AreRuns-take, AreRuns-drop, AreRuns-append, runs_at, before_at, ends_by, prot_in-append, option_or-none, prot_in-split, prot_in-past, prot_in-first, prot_in-rest_above, prot_in-rest_below, prot_in-behind, prot_in-from, prot_in-at, drop_at_area}

-- Below a page

-- no part of an area stays
IsBelow-none : (areas : List Area) (at start page : ℕ) (prot : Option Prot) → AreRuns areas → at ≤ length areas → All (EndsBefore page) (take at areas) → start ≤ page → All (StandsBelow start prot) (take at areas) → ((q : ℕ) → q < start → prot_in (drop at areas) q ≡ None) → ((q : ℕ) → start ≤ q → q < page → prot_in areas q ≡ prot) → IsBelow areas (record { at = at; part = None; page = start }) page prot
IsBelow-none areas at start page prot runs within front until apart back joined =
    record {
      within = within;
      front = front;
      until = until;
      runs = rw append-nil (AreRuns-take at areas runs);
      apart = rw append-nil apart;
      pages = λ q l.
          ap (λ xs. prot_in xs q) (append-nil (take at areas))
          ∙ sym (option_or-none (prot_in (take at areas) q))
          ∙ ap (λ o. option_or (prot_in (take at areas) q) o) (sym (back q l))
          ∙ sym (prot_in-split areas at q);
      joined = joined;
    }

-- those that end before a page stand below it
front_apart : (areas : List Area) (page : ℕ) (prot : Option Prot) → All (EndsBefore page) areas → All (StandsBelow page prot) areas
front_apart areas page prot h = All-weaker (EndsBefore page) (StandsBelow page prot) (λ x e. record { apart = omega arith; differ = λ same. absurd (omega arith) }) areas h

-- the next area begins at the page or after it
pub IsBelow-whole : (areas : List Area) (at page : ℕ) (prot : Option Prot) → AreRuns areas → at < length areas → All (EndsBefore page) (take at areas) → page ≤ (get_or areas at no_area).first → IsBelow areas (record { at = at; part = None; page = page }) page prot
IsBelow-whole areas at page prot runs below front from =
    let a = get_or areas at no_area in
    let rest = runs_at areas at runs below in
    IsBelow-none areas at page page prot runs (omega arith) front (omega arith) (front_apart (take at areas) page prot front)
    (λ q l. ap (λ xs. prot_in xs q) (drop_at_area areas at below) ∙ prot_in-rest_below a (drop (at + 1) areas) q (omega arith) ∙ prot_in-behind a (drop (at + 1) areas) q rest (omega arith))
    (λ q l u. absurd (omega arith))

-- an area that reaches the page has the protection, and the range takes it in
pub IsBelow-joined : (areas : List Area) (at page : ℕ) (prot : Option Prot) → AreRuns areas → at < length areas → All (EndsBefore page) (take at areas) → (get_or areas at no_area).first < page → page ≤ (get_or areas at no_area).first + (get_or areas at no_area).count → prot ≡ Some (get_or areas at no_area).prot → IsBelow areas (record { at = at; part = None; page = (get_or areas at no_area).first }) page prot
IsBelow-joined areas at page prot runs below front from until same =
    let a = get_or areas at no_area in
    let rest = runs_at areas at runs below in
    IsBelow-none areas at a.first page prot runs (omega arith) front (omega arith)
    (All-weaker (λ x. IsBefore x a) (StandsBelow a.first prot) (λ x b. record { apart = b.apart; differ = λ e alike. b.differ e (same_Some x.prot a.prot (alike ∙ same)) }) (take at areas) (before_at areas at runs below))
    (λ q l. ap (λ xs. prot_in xs q) (drop_at_area areas at below) ∙ prot_in-rest_below a (drop (at + 1) areas) q l ∙ prot_in-behind a (drop (at + 1) areas) q rest (omega arith))
    (λ q l u. prot_in-at areas at q runs below l (omega arith) ∙ sym same)

-- below the page, the part says what the area does
below_part : (a part : Area) (rest : List Area) (page q : ℕ) → AreRuns (a ∷ rest) → part.first ≡ a.first → part.count ≡ page - a.first → part.prot ≡ a.prot → a.first < page → page ≤ a.first + a.count → q < page → prot_in (part ∷ []) q ≡ prot_in (a ∷ rest) q
unfolding prot_in
below_part a part rest page q runs first count alike from until l =
    ⊎_elim
    (λ (inside : a.first ≤ q). prot_in-first part [] q (omega arith) (omega arith) ∙ ap Some alike ∙ sym (prot_in-first a rest q inside (omega arith)))
    (λ (before : q < a.first). prot_in-rest_below part [] q (omega arith) ∙ sym (prot_in-rest_below a rest q before ∙ prot_in-behind a rest q runs (omega arith)))
    (at_or_below a.first q)

-- of an area that reaches the page, the part below it stays
pub IsBelow-part : (areas : List Area) (at page : ℕ) (prot : Option Prot) (part : Area) → AreRuns areas → at < length areas → All (EndsBefore page) (take at areas) → (get_or areas at no_area).first < page → page ≤ (get_or areas at no_area).first + (get_or areas at no_area).count → prot ≢ Some (get_or areas at no_area).prot → part.first ≡ (get_or areas at no_area).first → part.count ≡ page - (get_or areas at no_area).first → part.prot ≡ (get_or areas at no_area).prot → IsBelow areas (record { at = at; part = Some part; page = page }) page prot
IsBelow-part areas at page prot part runs below front from until other first count alike =
    let a = get_or areas at no_area in
    let rest = runs_at areas at runs below in
    let bound = rest.0.bound in
    let is : IsArea part = record { some = omega arith; bound = omega arith } in
    let before : All (λ x. IsBefore x part) (take at areas) =
    All-weaker (λ x. IsBefore x a) (λ x. IsBefore x part) (λ x b. record { apart = rw first b.apart; differ = λ e same. b.differ (e ∙ first) (same ∙ alike) }) (take at areas) (before_at areas at runs below) in
    record {
      within = omega arith;
      front = front;
      until = omega arith;
      runs = AreRuns-append (take at areas) (part ∷ []) (AreRuns-take at areas runs) (is, All-nil (IsBefore part), tt)
          (All-weaker (λ x. IsBefore x part) (λ x. All (IsBefore x) (part ∷ [])) (λ x b. All-cons (IsBefore x) part [] b (All-nil (IsBefore x))) (take at areas) before);
      apart = All-push (StandsBelow page prot) (take at areas) part (front_apart (take at areas) page prot front) (record { apart = omega arith; differ = λ e same. other (sym same ∙ ap Some alike) });
      pages = λ q l.
          prot_in-append (take at areas) (part ∷ []) q
          ∙ ap (λ o. option_or (prot_in (take at areas) q) o) (below_part a part (drop (at + 1) areas) page q rest first count alike from until l ∙ ap (λ xs. prot_in xs q) (sym (drop_at_area areas at below)))
          ∙ sym (prot_in-split areas at q);
      joined = λ q l u. absurd (omega arith);
    }

-- Above a page

-- no part of an area stays
IsAbove-none : (areas : List Area) (at page end : ℕ) (prot : Option Prot) → AreRuns areas → at ≤ length areas → All (BeginsAfter page) (drop at areas) → page ≤ end → end ≤ HIGH_PAGE → All (StandsAbove end prot) (drop at areas) → ((q : ℕ) → end ≤ q → prot_in (take at areas) q ≡ None) → ((q : ℕ) → page ≤ q → q < end → prot_in areas q ≡ prot) → IsAbove areas (record { at = at; part = None; page = end }) page prot
IsAbove-none areas at page end prot runs within back from bound apart front joined =
    record {
      within = within;
      back = back;
      from = from;
      bound = bound;
      runs = AreRuns-drop at areas runs;
      apart = apart;
      pages = λ q l. sym (prot_in-split areas at q ∙ ap (λ o. option_or o (prot_in (drop at areas) q)) (front q l));
      joined = joined;
    }

back_apart : (areas : List Area) (page : ℕ) (prot : Option Prot) → All (BeginsAfter page) areas → All (StandsAbove page prot) areas
back_apart areas page prot h = All-weaker (BeginsAfter page) (StandsAbove page prot) (λ x e. record { apart = omega arith; differ = λ same. absurd (omega arith) }) areas h

-- the areas that begin at or below the page end there or below
pub IsAbove-whole : (areas : List Area) (n at page : ℕ) (prot : Option Prot) → AreRuns areas → n < length areas → at ≡ n + 1 → page ≤ HIGH_PAGE → All (BeginsAfter page) (drop at areas) → (get_or areas n no_area).first + (get_or areas n no_area).count ≤ page → IsAbove areas (record { at = at; part = None; page = page }) page prot
IsAbove-whole areas n at page prot runs below is bound back end =
    IsAbove-none areas at page page prot runs (omega arith) back (omega arith) bound (back_apart (drop at areas) page prot back)
    (λ q l. prot_in-past (take at areas) page q (ends_by areas n at page runs below is end) l)
    (λ q l u. absurd (omega arith))

-- an area that reaches over the page has the protection, and the range takes it in
pub IsAbove-joined : (areas : List Area) (n at page : ℕ) (prot : Option Prot) → AreRuns areas → n < length areas → at ≡ n + 1 → All (BeginsAfter page) (drop at areas) → (get_or areas n no_area).first ≤ page → page < (get_or areas n no_area).first + (get_or areas n no_area).count → prot ≡ Some (get_or areas n no_area).prot → IsAbove areas (record { at = at; part = None; page = (get_or areas n no_area).first + (get_or areas n no_area).count }) page prot
IsAbove-joined areas n at page prot runs below is back from until same =
    let a = get_or areas n no_area in
    let end = a.first + a.count in
    let rest = runs_at areas n runs below in
    IsAbove-none areas at page end prot runs (omega arith) back (omega arith) rest.0.bound
    (subst (λ m. All (StandsAbove end prot) (drop m areas)) (sym is) (All-weaker (IsBefore a) (StandsAbove end prot) (λ x b. record { apart = b.apart; differ = λ e alike. b.differ e (same_Some a.prot x.prot (sym same ∙ sym alike)) }) (drop (n + 1) areas) rest.1))
    (λ q l. prot_in-past (take at areas) end q (ends_by areas n at end runs below is (omega arith)) l)
    (λ q l u. prot_in-at areas n q runs below (omega arith) u ∙ sym same)

-- from the page on, the part says what the area does
above_part : (a part : Area) (rest : List Area) (page q : ℕ) → part.first ≡ page → part.first + part.count ≡ a.first + a.count → part.prot ≡ a.prot → a.first ≤ page → page ≤ q → prot_in (part ∷ rest) q ≡ prot_in (a ∷ rest) q
above_part a part rest page q first end alike from l =
    ⊎_elim
    (λ (behind : a.first + a.count ≤ q). prot_in-rest_above part rest q (omega arith) ∙ sym (prot_in-rest_above a rest q behind))
    (λ (inside : q < a.first + a.count). prot_in-first part rest q (omega arith) (omega arith) ∙ ap Some alike ∙ sym (prot_in-first a rest q (omega arith) inside))
    (at_or_below (a.first + a.count) q)

-- of an area that reaches over the page, the part above it stays
pub IsAbove-part : (areas : List Area) (n at page : ℕ) (prot : Option Prot) (part : Area) → AreRuns areas → n < length areas → at ≡ n + 1 → page ≤ HIGH_PAGE → All (BeginsAfter page) (drop at areas) → (get_or areas n no_area).first ≤ page → page < (get_or areas n no_area).first + (get_or areas n no_area).count → prot ≢ Some (get_or areas n no_area).prot → part.first ≡ page → part.count ≡ (get_or areas n no_area).first + (get_or areas n no_area).count - page → part.prot ≡ (get_or areas n no_area).prot → IsAbove areas (record { at = at; part = Some part; page = page }) page prot
IsAbove-part areas n at page prot part runs below is bound back from until other first count alike =
    let a = get_or areas n no_area in
    let rest = runs_at areas n runs below in
    let high = rest.0.bound in
    let same_end : part.first + part.count ≡ a.first + a.count = omega arith in
    let behind : All (IsBefore a) (drop at areas) = subst (λ m. All (IsBefore a) (drop m areas)) (sym is) rest.1 in
    record {
      within = omega arith;
      back = back;
      from = omega arith;
      bound = bound;
      runs = (record { some = omega arith; bound = omega arith }, All-weaker (IsBefore a) (IsBefore part) (λ x b. record { apart = rw same_end b.apart; differ = λ e same. b.differ (sym same_end ∙ e) (sym alike ∙ same) }) (drop at areas) behind, AreRuns-drop at areas runs);
      apart = All-cons (StandsAbove page prot) part (drop at areas) (record { apart = omega arith; differ = λ e same. other (sym same ∙ ap Some alike) }) (back_apart (drop at areas) page prot back);
      pages = λ q l. above_part a part (drop at areas) page q first same_end alike from l ∙ sym (prot_in-from areas n q runs below (omega arith) ∙ ap (λ m. prot_in (a ∷ drop m areas) q) (sym is));
      joined = λ q l u. absurd (omega arith);
    }
