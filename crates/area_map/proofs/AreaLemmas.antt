-- Lists of areas: their parts, and the protection of a page in each.
use Rattle.std.proofs.Common.{◌≡◌, ℕ, zero, suc, ◌+◌, ◌<◌, ◌≤◌, Bool, true, false, cond, Option, Some, None, List, [], ◌∷◌, ◌++◌, refl, sym, ap, ◌∙◌, subst, arith, length, take, drop, get_or, take-append-drop, get_or-take, length-take}
use Rattle.std.specs.Option.{option_or}
use Rattle.std.specs.List.{All}
use Rattle.std.proofs.lemmas.List.{drop_more, take_more}
use Rattle.std.proofs.lemmas.List.Elements.{All-nil, All-cons, All-head, All-tail, All-append, All-take, All-weaker, All-push}
use Rattle.mig_base.specs.declared.Prot.{Prot}
use Rattle.mig_base.specs.declared.Prot.TheVariants.{NoAccess}
use Rattle.mig_base.specs.declared.Area.{Area}
use Rattle.foundation.specs.Ranges.{in_range}
use Rattle.foundation.proofs.RangeLemmas.{in_range-true, in_range-false_below, in_range-false_above}
use Rattle.area_map.specs.Areas.{prot_in, IsBefore, AreRuns, BeginsAfter}

-- what a read past the end of a list gives
abbrev pub no_area : Area
no_area = record { first = 0; count = 0; prot = NoAccess }

-- an area ends at or below the page
abbrev pub EndsBy : ℕ → Area → Type 0
EndsBy page area = area.first + area.count ≤ page

-- Parts of a list

pub AreRuns-take : (n : ℕ) (areas : List Area) → AreRuns areas → AreRuns (take n areas)
AreRuns-take zero areas h = tt
AreRuns-take (suc n) [] h = tt
AreRuns-take (suc n) (a ∷ rest) h = (h.0, All-take (IsBefore a) n rest h.1, AreRuns-take n rest h.2)

pub AreRuns-drop : (n : ℕ) (areas : List Area) → AreRuns areas → AreRuns (drop n areas)
AreRuns-drop zero areas h = h
AreRuns-drop (suc n) [] h = tt
AreRuns-drop (suc n) (a ∷ rest) h = AreRuns-drop n rest h.2

-- the first list stands before the second
abbrev pub AllBefore : List Area → List Area → Type 0
AllBefore xs ys = All (λ x. All (IsBefore x) ys) xs

pub AreRuns-append : (xs ys : List Area) → AreRuns xs → AreRuns ys → AllBefore xs ys → AreRuns (xs ++ ys)
AreRuns-append [] ys h k m = k
AreRuns-append (x ∷ xs) ys h k m =
    (h.0, All-append (IsBefore x) xs ys h.1 (All-head (λ y. All (IsBefore y) ys) x xs m), AreRuns-append xs ys h.2 k (All-tail (λ y. All (IsBefore y) ys) x xs m))

All-middle : (P : Area → Type 0) (xs ys : List Area) (a : Area) → All P (xs ++ a ∷ ys) → P a
All-middle P [] ys a h = All-head P a ys h
All-middle P (x ∷ xs) ys a h = All-middle P xs ys a (All-tail P x (xs ++ a ∷ ys) h)

before_middle : (xs ys : List Area) (a : Area) → AreRuns (xs ++ a ∷ ys) → All (λ x. IsBefore x a) xs
before_middle [] ys a h = All-nil (λ x. IsBefore x a)
before_middle (x ∷ xs) ys a h = All-cons (λ y. IsBefore y a) x xs (All-middle (IsBefore x) xs ys a h.1) (before_middle xs ys a h.2)

-- the list from the area at an index on
pub drop_at_area : (areas : List Area) (n : ℕ) → n < length areas → drop n areas ≡ get_or areas n no_area ∷ drop (n + 1) areas
drop_at_area areas n below = drop_more areas n no_area below

-- the area at an index, and those after it
pub runs_at : (areas : List Area) (n : ℕ) → AreRuns areas → n < length areas → AreRuns (get_or areas n no_area ∷ drop (n + 1) areas)
runs_at areas n h below = subst AreRuns (drop_at_area areas n below) (AreRuns-drop n areas h)

-- those before the area at an index
pub before_at : (areas : List Area) (n : ℕ) → AreRuns areas → n < length areas → All (λ x. IsBefore x (get_or areas n no_area)) (take n areas)
before_at areas n h below =
    let split : areas ≡ take n areas ++ get_or areas n no_area ∷ drop (n + 1) areas = sym (take-append-drop n areas) ∙ ap (λ xs. take n areas ++ xs) (drop_at_area areas n below) in
    before_middle (take n areas) (drop (n + 1) areas) (get_or areas n no_area) (subst AreRuns split h)

-- those before an area end at or below where it begins
pub ends_at : (areas : List Area) (n : ℕ) → AreRuns areas → n < length areas → All (EndsBy (get_or areas n no_area).first) (take n areas)
ends_at areas n h below =
    All-weaker (λ x. IsBefore x (get_or areas n no_area)) (EndsBy (get_or areas n no_area).first) (λ x b. b.apart) (take n areas) (before_at areas n h below)

-- The protection of a page

cond_or : (b : Bool) (x : Prot) (o p : Option Prot) → option_or (cond b (Some x) o) p ≡ cond b (Some x) (option_or o p)
cond_or true x o p = refl
cond_or false x o p = refl

pub prot_in-append : (xs ys : List Area) (q : ℕ) → prot_in (xs ++ ys) q ≡ option_or (prot_in xs q) (prot_in ys q)
unfolding prot_in
prot_in-append [] ys q = refl
prot_in-append (x ∷ xs) ys q =
    ap (λ o. cond (in_range x.first x.count q) (Some x.prot) o) (prot_in-append xs ys q)
    ∙ sym (cond_or (in_range x.first x.count q) x.prot (prot_in xs q) (prot_in ys q))

pub option_or-none : (o : Option Prot) → option_or o None ≡ o
option_or-none None = refl
option_or-none (Some x) = refl

pub prot_in-split : (areas : List Area) (n q : ℕ) → prot_in areas q ≡ option_or (prot_in (take n areas) q) (prot_in (drop n areas) q)
prot_in-split areas n q = ap (λ xs. prot_in xs q) (sym (take-append-drop n areas)) ∙ prot_in-append (take n areas) (drop n areas) q

-- after all areas nothing is mapped
pub prot_in-past : (areas : List Area) (end q : ℕ) → All (EndsBy end) areas → end ≤ q → prot_in areas q ≡ None
unfolding prot_in
prot_in-past [] end q h l = refl
prot_in-past (a ∷ areas) end q h l =
    let ends : a.first + a.count ≤ end = All-head (EndsBy end) a areas h in
    ap (λ b. cond b (Some a.prot) (prot_in areas q)) (in_range-false_above a.first a.count q (omega arith))
    ∙ prot_in-past areas end q (All-tail (EndsBy end) a areas h) l

-- before all areas nothing is mapped
pub prot_in-before : (areas : List Area) (q : ℕ) → All (BeginsAfter q) areas → prot_in areas q ≡ None
unfolding prot_in
prot_in-before [] q h = refl
prot_in-before (a ∷ areas) q h =
    ap (λ b. cond b (Some a.prot) (prot_in areas q)) (in_range-false_below a.first a.count q (All-head (BeginsAfter q) a areas h))
    ∙ prot_in-before areas q (All-tail (BeginsAfter q) a areas h)

-- a page of the first area
pub prot_in-first : (a : Area) (areas : List Area) (q : ℕ) → a.first ≤ q → q < a.first + a.count → prot_in (a ∷ areas) q ≡ Some a.prot
unfolding prot_in
prot_in-first a areas q l u = ap (λ b. cond b (Some a.prot) (prot_in areas q)) (in_range-true a.first a.count q l u)

-- a page that is not of the first area
pub prot_in-rest_above : (a : Area) (areas : List Area) (q : ℕ) → a.first + a.count ≤ q → prot_in (a ∷ areas) q ≡ prot_in areas q
unfolding prot_in
prot_in-rest_above a areas q l = ap (λ b. cond b (Some a.prot) (prot_in areas q)) (in_range-false_above a.first a.count q l)

pub prot_in-rest_below : (a : Area) (areas : List Area) (q : ℕ) → q < a.first → prot_in (a ∷ areas) q ≡ prot_in areas q
unfolding prot_in
prot_in-rest_below a areas q l = ap (λ b. cond b (Some a.prot) (prot_in areas q)) (in_range-false_below a.first a.count q l)

-- no page up to the end of an area is in those after it
pub prot_in-behind : (a : Area) (rest : List Area) (q : ℕ) → AreRuns (a ∷ rest) → q < a.first + a.count → prot_in rest q ≡ None
prot_in-behind a rest q h u =
    prot_in-before rest q (All-weaker (IsBefore a) (BeginsAfter q) (λ x b. let apart = b.apart in omega arith) rest h.1)

-- from the area at an index on, the areas before it say nothing
pub prot_in-from : (areas : List Area) (n q : ℕ) → AreRuns areas → n < length areas → (get_or areas n no_area).first ≤ q → prot_in areas q ≡ prot_in (get_or areas n no_area ∷ drop (n + 1) areas) q
prot_in-from areas n q h below from =
    prot_in-split areas n q
    ∙ ap (λ o. option_or o (prot_in (drop n areas) q)) (prot_in-past (take n areas) (get_or areas n no_area).first q (ends_at areas n h below) from)
    ∙ ap (λ xs. prot_in xs q) (drop_at_area areas n below)

-- a page of the area at an index
pub prot_in-at : (areas : List Area) (n q : ℕ) → AreRuns areas → n < length areas → (get_or areas n no_area).first ≤ q → q < (get_or areas n no_area).first + (get_or areas n no_area).count → prot_in areas q ≡ Some (get_or areas n no_area).prot
prot_in-at areas n q h below from until =
    prot_in-from areas n q h below from ∙ prot_in-first (get_or areas n no_area) (drop (n + 1) areas) q from until

-- all up to an area at an index end where it does, or before
pub ends_by : (areas : List Area) (n at page : ℕ) → AreRuns areas → n < length areas → at ≡ n + 1 → (get_or areas n no_area).first + (get_or areas n no_area).count ≤ page → All (EndsBy page) (take at areas)
ends_by areas n at page h below is end =
    let a = get_or areas n no_area in
    let front : All (EndsBy page) (take n areas) = All-weaker (EndsBy a.first) (EndsBy page) (λ x b. omega arith) (take n areas) (ends_at areas n h below) in
    rw (is, take_more areas n no_area below) (All-push (EndsBy page) (take n areas) a front end)

-- what holds from an index on, or up to it, holds of the area there
pub All-drop_at : (P : Area → Type 0) (areas : List Area) (n : ℕ) → n < length areas → All P (drop n areas) → P (get_or areas n no_area)
All-drop_at P areas n below h = All-head P (get_or areas n no_area) (drop (n + 1) areas) (subst (All P) (drop_at_area areas n below) h)

pub All-take_at : (P : Area → Type 0) (areas : List Area) (n at : ℕ) → n < length areas → at ≡ n + 1 → All P (take at areas) → P (get_or areas n no_area)
All-take_at P areas n at below is h =
    let before : n < at = omega arith in
    subst P (get_or-take at areas n no_area before) (h n no_area (omega (arith, length-take at areas)))

-- a page after an area and before the next
pub prot_in-outside : (areas : List Area) (n at q : ℕ) → AreRuns areas → n < length areas → at ≡ n + 1 → (get_or areas n no_area).first + (get_or areas n no_area).count ≤ q → All (BeginsAfter q) (drop at areas) → prot_in areas q ≡ None
prot_in-outside areas n at q h below is end after =
    prot_in-split areas at q
    ∙ ap (λ o. option_or o (prot_in (drop at areas) q)) (prot_in-past (take at areas) q q (ends_by areas n at q h below is end) (omega arith))
    ∙ prot_in-before (drop at areas) q after
