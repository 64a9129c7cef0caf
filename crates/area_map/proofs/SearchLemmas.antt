-- What a binary search of areas needs, and what it gives.
use Rattle.std.proofs.Common.{◌≡◌, ℕ, zero, suc, ◌+◌, ◌<◌, ◌≤◌, Bool, true, false, List, [], ◌∷◌, sym, subst, arith, length, take, drop, get_or, length-take-le, length-drop, get_or-take, get_or-drop}
use Rattle.std.specs.List.{All, AllWithin}
use Rattle.std.specs.List.Sorted.{IsNonDecreasingBy}
use Rattle.mig_base.specs.declared.Area.{Area}
use Rattle.area_map.specs.Areas.{AreRuns}

-- each area begins, and ends, no later than those after it
pub begin_in_order : (areas : List Area) → AreRuns areas → IsNonDecreasingBy (λ a. a.first) areas
begin_in_order [] h i j d l u = absurd (omega arith)
begin_in_order (a ∷ rest) h zero zero d l u = omega arith
begin_in_order (a ∷ rest) h zero (suc j) d l u = let apart = (h.1 j d (omega arith)).apart in omega arith
begin_in_order (a ∷ rest) h (suc i) zero d l u = absurd (omega arith)
begin_in_order (a ∷ rest) h (suc i) (suc j) d l u = begin_in_order rest h.2 i j d (omega arith) (omega arith)

pub end_in_order : (areas : List Area) → AreRuns areas → IsNonDecreasingBy (λ a. a.first + a.count) areas
end_in_order [] h i j d l u = absurd (omega arith)
end_in_order (a ∷ rest) h zero zero d l u = omega arith
end_in_order (a ∷ rest) h zero (suc j) d l u = let apart = (h.1 j d (omega arith)).apart in omega arith
end_in_order (a ∷ rest) h (suc i) zero d l u = absurd (omega arith)
end_in_order (a ∷ rest) h (suc i) (suc j) d l u = end_in_order rest h.2 i j d (omega arith) (omega arith)

-- the areas below a point of the list, and those from it on
pub below_point : (p : Area → Bool) (P : Area → Type 0) (areas : List Area) (n : ℕ) → n ≤ length areas → ((x : Area) → p x ≡ true → P x) → AllWithin (λ x. p x ≡ true) areas 0 n → All P (take n areas)
below_point p P areas n within tells h k d l =
    let short : k < n = omega (arith, length-take-le n areas within) in
    subst P (sym (get_or-take n areas k d short)) (tells (get_or areas k d) (h k d (omega arith) short))

pub above_point : (p : Area → Bool) (P : Area → Type 0) (areas : List Area) (n : ℕ) → n ≤ length areas → ((x : Area) → p x ≡ false → P x) → AllWithin (λ x. p x ≡ false) areas n (length areas) → All P (drop n areas)
above_point p P areas n within tells h k d l =
    let long : n + k < length areas = omega (arith, length-drop n areas) in
    subst P (sym (get_or-drop n areas k d)) (tells (get_or areas (n + k) d) (h (n + k) d (omega arith) long))
