-- The owed table and its look-up once events are applied, and the page to which a page of the source is owed.
use Rattle.std.proofs.Common.{◌≡◌, ℕ, ◌+◌, ◌-◌, ◌<◌, ◌≤◌, true, false, eqb, Option, Some, None, List, [], ◌∷◌, sym, ap, ◌∙◌, ◌⊎◌, ⊎_elim, arith, is_some, if◌then◌else◌}
use Rattle.std.specs.Ordering.{nat_cmp}
use Rattle.std.specs.FinMap.{FinMap, get}
use Rattle.std.proofs.lemmas.Bool.Decides.{nat_tests}
use Rattle.std.proofs.lemmas.Bool.{false≢true, false_from_ne_true}
use Rattle.mig_base.specs.declared.TheConstants.{HIGH_PAGE}
use Rattle.mig_base.specs.declared.message.Message.{Message}
use Rattle.foundation.specs.Ranges.{in_range}
use Rattle.foundation.proofs.RangeLemmas.{least_below_tells, least_below-is, least_below-some}
use Rattle.mig_base.proofs.PageLemmas.{get-remove_range, get-moved_range}
use Rattle.mig_base.specs.Userfault.{Noted}
use Rattle.mig_model.specs.Invariant.{IsWholeEvent}
use Rattle.mig_model.specs.Owed.{home, owed_after, owed_table_after, owes_to, settled_by}

-- no source page has two pages
abbrev pub IsOneToOne : (ℕ → Option ℕ) → Type 0
IsOneToOne owed = (page other origin : ℕ) → owed page ≡ Some origin → owed other ≡ Some origin → page ≡ other

-- The table and its look-up

pub get-owed_table_after : (message : Message) (owed : FinMap nat_cmp ℕ) (page : ℕ) → get (owed_table_after message owed) page ≡ owed_after message (get owed) page
get-owed_table_after message owed page = grind (arith, nat_tests, get-moved_range, get-remove_range)

-- an event that is read changes the table and not what is settled
pub settled_by-applied : (noted : Noted) (events : List Noted) (owed : FinMap nat_cmp ℕ) → settled_by events (get (owed_table_after noted.message owed)) ≡ settled_by (noted ∷ events) (get owed)
settled_by-applied noted events owed = grind (arith, nat_tests, get-owed_table_after)

-- What an event leaves

-- each source page that is owed after an event was owed before
pub values-after : (message : Message) (owed : ℕ → Option ℕ) (page origin : ℕ) → owed_after message owed page ≡ Some origin → (other : ℕ) × (owed other ≡ Some origin)
values-after message owed page origin h = grind (arith, nat_tests)

pub values-settled : (events : List Noted) (owed : ℕ → Option ℕ) (page origin : ℕ) → settled_by events owed page ≡ Some origin → (other : ℕ) × (owed other ≡ Some origin)
values-settled [] owed page origin h = (page, h)
values-settled (noted ∷ events) owed page origin h = grind (arith, nat_tests, values-after, values-settled events (owed_after noted.message owed) page origin h)

-- where nothing is owed nothing will be
pub none-after : (message : Message) (owed : ℕ → Option ℕ) → ((page : ℕ) → owed page ≡ None) → (page : ℕ) → owed_after message owed page ≡ None
none-after message owed none page = grind (arith, nat_tests)

pub none-settled : (events : List Noted) (owed : ℕ → Option ℕ) → ((page : ℕ) → owed page ≡ None) → (page : ℕ) → settled_by events owed page ≡ None
none-settled [] owed none page = none page
none-settled (noted ∷ events) owed none page = none-settled events (owed_after noted.message owed) (none-after noted.message owed none) page

-- One to one

abbrev moved : ℕ → ℕ → ℕ → (ℕ → Option ℕ) → ℕ → Option ℕ
moved from to count owed page = if in_range to count page then owed (from + (page - to)) else if in_range from count page then None else owed page

-- where a moved look-up finds something: in the target, from the page at the same place in the old range, or outside both
moved_from : (from to count : ℕ) (owed : ℕ → Option ℕ) (page origin : ℕ) → moved from to count owed page ≡ Some origin →
    ((to ≤ page) × (page < to + count) × (owed (from + (page - to)) ≡ Some origin)) ⊎ (((page < from) ⊎ (from + count ≤ page)) × (owed page ≡ Some origin))
moved_from from to count owed page origin h = grind (arith, nat_tests)

moved_one : (from to count : ℕ) (owed : ℕ → Option ℕ) → IsOneToOne owed → IsOneToOne (moved from to count owed)
moved_one from to count owed one page other origin h k =
    ⊎_elim
    (λ (a : (to ≤ page) × (page < to + count) × (owed (from + (page - to)) ≡ Some origin)).
    let a0 = a.0 in
    let a1 = a.1 in
    ⊎_elim
    (λ (b : (to ≤ other) × (other < to + count) × (owed (from + (other - to)) ≡ Some origin)).
    let b0 = b.0 in
    let same = one (from + (page - to)) (from + (other - to)) origin a.2 b.2 in omega arith)
    (λ (b : ((other < from) ⊎ (from + count ≤ other)) × (owed other ≡ Some origin)).
    let b0 = b.0 in
    let same = one (from + (page - to)) other origin a.2 b.1 in
    ⊎_elim (λ (below : other < from). omega arith) (λ (above : from + count ≤ other). omega arith) b0)
    (moved_from from to count owed other origin k))
    (λ (a : ((page < from) ⊎ (from + count ≤ page)) × (owed page ≡ Some origin)).
    let a0 = a.0 in
    ⊎_elim
    (λ (b : (to ≤ other) × (other < to + count) × (owed (from + (other - to)) ≡ Some origin)).
    let b0 = b.0 in
    let b1 = b.1 in
    let same = one page (from + (other - to)) origin a.1 b.2 in
    ⊎_elim (λ (below : page < from). omega arith) (λ (above : from + count ≤ page). omega arith) a0)
    (λ (b : ((other < from) ⊎ (from + count ≤ other)) × (owed other ≡ Some origin)). one page other origin a.1 b.1)
    (moved_from from to count owed other origin k))
    (moved_from from to count owed page origin h)

pub IsOneToOne-after : (message : Message) (owed : ℕ → Option ℕ) → IsOneToOne owed → IsOneToOne (owed_after message owed)
IsOneToOne-after message owed one page other origin h k = grind (arith, nat_tests, moved_one)

pub IsOneToOne-settled : (events : List Noted) (owed : ℕ → Option ℕ) → IsOneToOne owed → IsOneToOne (settled_by events owed)
IsOneToOne-settled [] owed one = one
IsOneToOne-settled (noted ∷ events) owed one = IsOneToOne-settled events (owed_after noted.message owed) (IsOneToOne-after noted.message owed one)

-- Pages of the address space

-- owed pages lie in the address space, and still do after an event that is right
pub owed_below-after : (message : Message) (owed : ℕ → Option ℕ) → IsWholeEvent message → ((page origin : ℕ) → owed page ≡ Some origin → page < HIGH_PAGE) → (page origin : ℕ) → owed_after message owed page ≡ Some origin → page < HIGH_PAGE
owed_below-after message owed right below page origin h = grind (arith, nat_tests)

-- The page to which a source page is owed

owes_told : (o : Option ℕ) (source : ℕ) → (elim o [ None ↦ false | Some origin ↦ eqb origin source ]) ≡ true → o ≡ Some source
owes_told o source h = grind (arith, nat_tests)

owes_so : (o : Option ℕ) (source : ℕ) → o ≡ Some source → (elim o [ None ↦ false | Some origin ↦ eqb origin source ]) ≡ true
owes_so o source h = grind (arith, nat_tests)

pub home_tells : (owed : FinMap nat_cmp ℕ) (source page : ℕ) → home owed source ≡ Some page → get owed page ≡ Some source
home_tells owed source page h = owes_told (get owed page) source (least_below_tells (owes_to owed source) HIGH_PAGE page h)

pub home-some : (owed : FinMap nat_cmp ℕ) (source page : ℕ) → page < HIGH_PAGE → get owed page ≡ Some source → is_some (home owed source) ≡ true
home-some owed source page l h = least_below-some (owes_to owed source) HIGH_PAGE page l (owes_so (get owed page) source h)

-- a source page without a home is owed to no page
pub home-none : (owed : FinMap nat_cmp ℕ) (source page : ℕ) → home owed source ≡ None → page < HIGH_PAGE → get owed page ≡ Some source → ⊥
home-none owed source page none l h = false≢true (sym (ap is_some none) ∙ home-some owed source page l h)

-- with one to one it is that page
pub home-is : (owed : FinMap nat_cmp ℕ) (source page : ℕ) → IsOneToOne (get owed) → page < HIGH_PAGE → get owed page ≡ Some source → home owed source ≡ Some page
home-is owed source page one l h =
    least_below-is (owes_to owed source) HIGH_PAGE page l (owes_so (get owed page) source h)
    (λ j below. false_from_ne_true (owes_to owed source j) (λ passes. let same = one j page source (owes_told (get owed j) source passes) h in absurd (omega arith)))
