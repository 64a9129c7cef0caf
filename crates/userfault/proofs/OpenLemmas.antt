-- Ranges that are opened for the modes of other pages, and closed again.
use Rattle.std.proofs.Common.{◌≡◌, ℕ, ◌+◌, ◌-◌, ◌≤◌, ◌&&◌, ◌||◌, Bool, true, false, cond, not, ltb, refl, ap, ◌∙◌, ◌⊎◌, arith}
use Rattle.std.specs.Ordering.{nat_cmp}
use Rattle.std.specs.FinSet.{FinSet, contains}
use Rattle.std.proofs.lemmas.Bool.Decides.{nat_tests}
use Rattle.foundation.specs.Ranges.{in_range}
use Rattle.mig_base.specs.Sets.{pages_where, with_range, moved_set}
use Rattle.mig_base.proofs.SetLemmas.{same_members, member_with_range}
use Rattle.foundation.specs.Modes.{Mode}
use Rattle.mig_base.specs.Userfault.{Object, moved_modes}
use Rattle.userfault.specs.Modes.{opened, AreModesOf, IsOpen}
use Rattle.userfault.specs.declared.object.moves.RangeModes.{RangeModes}

put_back : (here has : Bool) → ((here || has) && not (here && not (here && has))) ≡ has
put_back true true = refl
put_back true false = refl
put_back false true = refl
put_back false false = refl

closed_set : (old part new before : FinSet nat_cmp) (first count : ℕ) → old ≡ with_range before first count → ((q : ℕ) → contains part q ≡ (in_range first count q && contains before q)) → ((q : ℕ) → contains new q ≡ (contains old q && not (in_range first count q && not (contains part q)))) → new ≡ before
closed_set old part new before first count is_old is_part is =
    same_members new before (λ q.
    is q
    ∙ ap (λ b. b && not (in_range first count q && not (contains part q))) (ap (λ s. contains s q) is_old ∙ member_with_range before first count q)
    ∙ ap (λ b. (in_range first count q || contains before q) && not (in_range first count q && not b)) (is_part q)
    ∙ put_back (in_range first count q) (contains before q))

-- an opened range that gets the modes back that it had
pub closed : (object before : Object) (modes : RangeModes) (missing protect : FinSet nat_cmp) (first count : ℕ) → object ≡ opened before first count → AreModesOf modes before first count
    → ((q : ℕ) → contains missing q ≡ (contains object.missing q && not (in_range first count q && not (contains modes.missing q))))
    → ((q : ℕ) → contains protect q ≡ (contains object.protect q && not (in_range first count q && not (contains modes.protect q))))
    → record object { missing = missing; protect = protect } ≡ before
closed object before modes missing protect first count is had is_missing is_protect =
    let one = closed_set object.missing modes.missing missing before.missing first count (ap (λ o. o.missing) is) had.missing is_missing in
    let two = closed_set object.protect modes.protect protect before.protect first count (ap (λ o. o.protect) is) had.protect is_protect in
    let with_both : Object → Object = λ o. record o { missing = missing; protect = protect } in
    let same : record before { missing = missing; protect = protect } ≡ before = λ i. record before { missing = one i; protect = two i } in
    ap with_both is ∙ same

in_opened : (set : FinSet nat_cmp) (first count page : ℕ) → in_range first count page ≡ true → contains (with_range set first count) page ≡ true
in_opened set first count page here = member_with_range set first count page ∙ ap (λ b. b || contains set page) here

-- an opened range is open
pub is_opened : (object before : Object) (first count : ℕ) → object ≡ opened before first count → IsOpen object first count
is_opened object before first count is = record {
  missing = λ page here. ap (λ o. contains o.missing page) is ∙ in_opened before.missing first count page here;
  protect = λ page here. ap (λ o. contains o.protect page) is ∙ in_opened before.protect first count page here;
}

-- Nothing of the target is left once a range is moved there

not_left : (from count to new_count q : ℕ) (along old growth : Bool) → ((from + count ≤ to) ⊎ (to + new_count ≤ from))
    → cond (in_range to new_count q) (cond (ltb (q - to) count) (in_range to new_count (from + (q - to)) || along) growth) (not (in_range from count q) && (in_range to new_count q || old))
    ≡ cond (in_range to new_count q) (cond (ltb (q - to) count) along growth) (not (in_range from count q) && old)
not_left from count to new_count q along old growth apart = grind (arith, nat_tests)

moved_to_opened : (set : FinSet nat_cmp) (from count to new_count : ℕ) (growth : Bool) → ((from + count ≤ to) ⊎ (to + new_count ≤ from)) → moved_set (with_range set to new_count) from count to new_count growth ≡ moved_set set from count to new_count growth
moved_to_opened set from count to new_count growth apart =
    let at : (q : ℕ) → cond (in_range to new_count q) (cond (ltb (q - to) count) (contains (with_range set to new_count) (from + (q - to))) growth) (not (in_range from count q) && contains (with_range set to new_count) q)
    ≡ cond (in_range to new_count q) (cond (ltb (q - to) count) (contains set (from + (q - to))) growth) (not (in_range from count q) && contains set q) = λ q.
    ap (λ a. cond (in_range to new_count q) (cond (ltb (q - to) count) a growth) (not (in_range from count q) && contains (with_range set to new_count) q)) (member_with_range set to new_count (from + (q - to)))
    ∙ ap (λ b. cond (in_range to new_count q) (cond (ltb (q - to) count) (in_range to new_count (from + (q - to)) || contains set (from + (q - to))) growth) (not (in_range from count q) && b)) (member_with_range set to new_count q)
    ∙ not_left from count to new_count q (contains set (from + (q - to))) (contains set q) growth apart in
    ap pages_where (λ i q. at q i)

pub modes_to_opened : (object : Object) (from count to new_count : ℕ) (growth : Mode) → ((from + count ≤ to) ⊎ (to + new_count ≤ from)) → moved_modes (opened object to new_count) from count to new_count growth ≡ moved_modes object from count to new_count growth
modes_to_opened object from count to new_count growth apart =
    let one = moved_to_opened object.missing from count to new_count growth.missing apart in
    let two = moved_to_opened object.protect from count to new_count growth.protect apart in
    λ i. record object { missing = one i; protect = two i }
