-- Registering the areas of a guest one after the other is registering every mapped page at once.
use Rattle.std.proofs.Common.{◌≡◌, ℕ, zero, suc, ◌+◌, ◌-◌, ◌*◌, ◌/◌, ◌<◌, ◌≤◌, ◌&&◌, ◌||◌, Bool, true, false, cond, not, ltb, Option, Some, None, List, [], ◌∷◌, refl, sym, ap, ◌∙◌, subst, arith, if◌then◌else◌}
use Rattle.std.specs.Ordering.{nat_cmp}
use Rattle.std.specs.FinMap.{FinMap, contains_key}
use Rattle.std.specs.FinSet.{FinSet, contains}
use Rattle.std.proofs.lemmas.Bool.{or_left, or_right, not_from_true}
use Rattle.std.proofs.lemmas.Bool.Decides.{nat_tests}
use Rattle.foundation.specs.declared.TheConstants.{PAGE_SIZE}
use Rattle.mig_base.specs.declared.TheConstants.{LOW_PAGE, HIGH_PAGE}
use Rattle.mig_base.specs.declared.Prot.{Prot}
use Rattle.mig_base.specs.declared.Run.{Run}
use Rattle.mig_base.specs.declared.command.Errno.{Errno}
use Rattle.mig_base.specs.declared.command.Errno.TheVariants.{Einval}
use Rattle.mig_base.specs.PageSets.{in_runs}
use Rattle.foundation.specs.Ranges.{in_range}
use Rattle.mig_base.specs.Sets.{pages_where}
use Rattle.foundation.specs.Tests.{first_holding}
use Rattle.foundation.proofs.RangeLemmas.{in_range-true, none_below-not}
use Rattle.foundation.proofs.TestLemmas.{none_below_zero}
use Rattle.mig_base.proofs.SetLemmas.{member_below, same_members}
use Rattle.foundation.specs.Modes.{Mode}
use Rattle.mig_base.specs.Userfault.{Object, has_modes, registered_where}
use Rattle.mig_model.specs.Space.{Space, IsSoundSpace}
use Rattle.mig_model.specs.Ioctls.{has_events, is_bad_mode, is_bad_range, is_bare, is_mapped_in, left_by, mode_of, register_error, registered, registered_in}
use Rattle.mig_model.specs.Bounds.{IsMapping}
use Rattle.mig_model.specs.Handlers.{MayRegister, AreRegistered, AreRunsOf, AreSome, registered_in_turn}
use Rattle.mig_model.proofs.memory.Facts.{and_true}
use Rattle.mig_model.proofs.memory.IoctlLemmas.{IsSoundSpace-range_registered, NoneHolds, below_high}
use Rattle.mig_model.proofs.invariant.Stopping.{or_true}

-- the space once the pages that pass a test are registered
abbrev pub registered_by : Space → (ℕ → Bool) → Mode → Space
registered_by space test mode =
    record space {
      object = registered_where space.object test mode;
      protected = pages_where (λ page. contains space.protected page && (mode.protect || has_modes space.object page mode || not (test page)));
    }

-- Sets by tests

same_where : (one other : ℕ → Bool) → ((page : ℕ) → ltb page HIGH_PAGE ≡ true → one page ≡ other page) → pages_where one ≡ pages_where other
same_where one other h = grind (arith, nat_tests, same_members, member_below)

-- whether a page below the bound is in
in_where : (test : ℕ → Bool) (page : ℕ) → ltb page HIGH_PAGE ≡ true → contains (pages_where test) page ≡ test page
in_where test page low = member_below test HIGH_PAGE page ∙ ap (λ l. l && test page) low

-- Registered twice

modes_again : (missing protect here watched one : Bool) →
    let all = (not missing || here) && (not protect || watched) in
    ((not missing || cond (one && not all) missing here) && (not protect || cond (one && not all) protect watched)) ≡ (one || all)
modes_again missing protect here watched one = grind (arith, nat_tests)

chosen_again : (one two all new old : Bool) → cond (two && not (one || all)) new (cond (one && not all) new old) ≡ cond ((one || two) && not all) new old
chosen_again one two all new old = grind (arith, nat_tests)

guarded_again : (held protect all one two : Bool) → ((held && (protect || all || not one)) && (protect || (one || all) || not two)) ≡ (held && (protect || all || not (one || two)))
guarded_again held protect all one two = grind (arith, nat_tests)

abbrev with_sets : Space → FinSet nat_cmp → FinSet nat_cmp → FinSet nat_cmp → Space
with_sets space missing protect protected = record space { object = record space.object { missing = missing; protect = protect }; protected = protected }

same_sets : (space : Space) (missing protect protected other_missing other_protect other_protected : FinSet nat_cmp) → missing ≡ other_missing → protect ≡ other_protect → protected ≡ other_protected →
    with_sets space missing protect protected ≡ with_sets space other_missing other_protect other_protected
same_sets space missing protect protected other_missing other_protect other_protected a b c = grind (arith, nat_tests)

registered_twice : (space : Space) (one two : ℕ → Bool) (mode : Mode) → registered_by (registered_by space one mode) two mode ≡ registered_by space (λ page. one page || two page) mode
registered_twice space one two mode =
    let first = registered_by space one mode in
    let all = λ (page : ℕ). has_modes space.object page mode in
    let missing = λ (page : ℕ) (low : ltb page HIGH_PAGE ≡ true). in_where (λ q. if one q && not (all q) then mode.missing else contains space.object.missing q) page low in
    let protect = λ (page : ℕ) (low : ltb page HIGH_PAGE ≡ true). in_where (λ q. if one q && not (all q) then mode.protect else contains space.object.protect q) page low in
    let modes : (page : ℕ) → ltb page HIGH_PAGE ≡ true → has_modes first.object page mode ≡ (one page || all page) = λ page low.
    ap (λ b. (not mode.missing || b) && (not mode.protect || contains first.object.protect page)) (missing page low)
    ∙ ap (λ b. (not mode.missing || cond (one page && not (all page)) mode.missing (contains space.object.missing page)) && (not mode.protect || b)) (protect page low)
    ∙ modes_again mode.missing mode.protect (contains space.object.missing page) (contains space.object.protect page) (one page) in
    same_sets space _ _ _ _ _ _
    (same_where _ _ (λ page low.
    ap (λ b. cond (two page && not b) mode.missing (contains first.object.missing page)) (modes page low)
    ∙ ap (λ b. cond (two page && not (one page || all page)) mode.missing b) (missing page low)
    ∙ chosen_again (one page) (two page) (all page) mode.missing (contains space.object.missing page)))
    (same_where _ _ (λ page low.
    ap (λ b. cond (two page && not b) mode.protect (contains first.object.protect page)) (modes page low)
    ∙ ap (λ b. cond (two page && not (one page || all page)) mode.protect b) (protect page low)
    ∙ chosen_again (one page) (two page) (all page) mode.protect (contains space.object.protect page)))
    (same_where _ _ (λ page low.
    ap (λ b. contains first.protected page && (mode.protect || b || not (two page))) (modes page low)
    ∙ ap (λ b. b && (mode.protect || (one page || all page) || not (two page))) (in_where (λ q. contains space.protected q && (mode.protect || all q || not (one q))) page low)
    ∙ guarded_again (contains space.protected page) mode.protect (all page) (one page) (two page)))

-- Registered where no page passes

pub past_none : (low here : Bool) → (here ≡ true → low ≡ true) → (low && here) ≡ here
past_none low here h = grind (arith, nat_tests)

never : (held protect all : Bool) → (held && (protect || all || not false)) ≡ held
never held protect all = ap (λ b. held && b) (or_true (protect || all)) ∙ and_true held

registered_nowhere : (space : Space) (mode : Mode) → IsSoundSpace space → registered_by space (λ page. false) mode ≡ space
registered_nowhere space mode sound =
    let low = λ (page : ℕ) (h : (contains space.object.missing page || contains space.object.protect page) ≡ true). below_high space page sound (sound.mapped page h) in
    same_sets space _ _ _ space.object.missing space.object.protect space.protected
    (same_members _ space.object.missing (λ page.
    member_below (contains space.object.missing) HIGH_PAGE page ∙ past_none (ltb page HIGH_PAGE) (contains space.object.missing page) (λ h. low page (or_left _ (contains space.object.protect page) h))))
    (same_members _ space.object.protect (λ page.
    member_below (contains space.object.protect) HIGH_PAGE page ∙ past_none (ltb page HIGH_PAGE) (contains space.object.protect page) (λ h. low page (or_right (contains space.object.missing page) _ h))))
    (same_members _ space.protected (λ page.
    member_below (λ q. contains space.protected q && (mode.protect || has_modes space.object q mode || not false)) HIGH_PAGE page
    ∙ ap (λ b. ltb page HIGH_PAGE && b) (never (contains space.protected page) mode.protect (has_modes space.object page mode))
    ∙ past_none (ltb page HIGH_PAGE) (contains space.protected page) (λ h. low page (or_right (contains space.object.missing page) _ (sound.watched page h)))))

same_test : (space : Space) (one other : ℕ → Bool) (mode : Mode) → ((page : ℕ) → one page ≡ other page) → registered_by space one mode ≡ registered_by space other mode
same_test space one other mode h = let same : one ≡ other = λ i page. h page i in ap (λ test. registered_by space test mode) same

-- The call for one run

pub nothing_holds : (errors : List (Bool × Errno)) → NoneHolds errors → first_holding errors ≡ None
nothing_holds [] h = refl
nothing_holds (error ∷ errors) h = ap (λ t. cond t (Some error.1) (first_holding errors)) h.0 ∙ nothing_holds errors h.1

-- a range of whole pages that may be mapped is not wrong
pub range_good : (first count : ℕ) → 0 < count → LOW_PAGE ≤ first → first + count ≤ HIGH_PAGE → is_bad_range (4096 * first) (4096 * count) ≡ false
range_good first count some low high = grind (arith, nat_tests)

pub pages_again : (pages : ℕ) → 4096 * pages / 4096 ≡ pages
pages_again pages = omega arith

-- an object that is enabled, and was asked for the three events
pub record CanRegister (object : Object) : Type 0 where
  pub enabled : object.enabled ≡ true
  pub events : has_events object ≡ true

-- a run whose pages are all mapped
abbrev IsMappedRun : Space → ℕ → ℕ → Type 0
IsMappedRun space first count = (page : ℕ) → in_range first count page ≡ true → contains_key space.host.areas page ≡ true

abbrev register_errors : Space → ℕ → ℕ → ℕ → List (Bool × Errno)
register_errors space start len bits =
    (not space.object.enabled, Einval) ∷ (not (has_events space.object), Einval) ∷ (is_bad_mode bits, Einval) ∷ (is_bad_range start len, Einval)
    ∷ (is_bare space (start / PAGE_SIZE) (len / PAGE_SIZE), Einval) ∷ []

run_accepted : (space : Space) (first count bits : ℕ) → CanRegister space.object → is_bad_mode bits ≡ false → IsMapping space.host.areas → 0 < count → IsMappedRun space first count →
    register_error space (4096 * first) (4096 * count) bits ≡ None
run_accepted space first count bits can mode mapping some mapped =
    let lowest = mapping.pages first (mapped first (in_range-true first count first (omega arith) (omega (arith, some)))) in
    let highest = mapping.pages (first + (count - 1)) (mapped (first + (count - 1)) (in_range-true first count (first + (count - 1)) (omega arith) (omega (arith, some)))) in
    let found : contains_key space.host.areas (4096 * first / 4096 + 0) ≡ true = mapped (4096 * first / 4096 + 0) (in_range-true first count (4096 * first / 4096 + 0) (omega arith) (omega (arith, some))) in
    nothing_holds (register_errors space (4096 * first) (4096 * count) bits) (
      not_from_true space.object.enabled can.enabled,
      (
        not_from_true (has_events space.object) can.events,
        (mode, (range_good first count some lowest.0 (let last = highest.1 in omega (arith, some, last)), (none_below-not (λ i. contains_key space.host.areas (4096 * first / 4096 + i)) (4096 * count / 4096) 0 (omega (arith, some)) found, tt))),
      ),
    )

mapped_test : (here mapped : Bool) → (here ≡ true → mapped ≡ true) → (here && mapped) ≡ here
mapped_test here mapped h = grind (arith, nat_tests)

pub left_new : (error : Option Errno) (old new : Space) → error ≡ None → left_by error old new ≡ new
left_new error old new h = grind (arith, nat_tests)

run_registered : (space : Space) (first count bits : ℕ) → CanRegister space.object → is_bad_mode bits ≡ false → IsMapping space.host.areas → 0 < count → IsMappedRun space first count →
    registered space (4096 * first) (4096 * count) bits ≡ registered_by space (in_range first count) (mode_of bits)
run_registered space first count bits can mode mapping some mapped =
    left_new (register_error space (4096 * first) (4096 * count) bits) space _ (run_accepted space first count bits can mode mapping some mapped)
    ∙ ap (λ f. registered_in space f (4096 * count / 4096) (mode_of bits)) (pages_again first)
    ∙ ap (λ n. registered_in space first n (mode_of bits)) (pages_again count)
    ∙ same_test space (is_mapped_in space first count) (in_range first count) (mode_of bits) (λ page. mapped_test (in_range first count page) (contains_key space.host.areas page) (mapped page))

-- One run after the other

abbrev Turned : List Run → ℕ → Space → Type 0
Turned runs bits space = MayRegister space runs bits × (registered_in_turn space runs bits ≡ registered_by space (in_runs runs) (mode_of bits))

turned : (runs : List Run) (space : Space) (bits : ℕ) → IsSoundSpace space → CanRegister space.object → is_bad_mode bits ≡ false → IsMapping space.host.areas → AreSome runs →
    ((page : ℕ) → in_runs runs page ≡ true → contains_key space.host.areas page ≡ true) → Turned runs bits space
turned [] space bits sound can mode mapping some mapped = (tt, sym (registered_nowhere space (mode_of bits) sound))
turned (run ∷ runs) space bits sound can mode mapping some mapped =
    let here : IsMappedRun space run.first run.count = λ page h. mapped page (or_left (in_range run.first run.count page) (in_runs runs page) h) in
    let is = run_registered space run.first run.count bits can mode mapping some.0 here in
    let next = registered_by space (in_range run.first run.count) (mode_of bits) in
    let rest : Turned runs bits next =
    turned runs next bits (subst IsSoundSpace is (IsSoundSpace-range_registered space (4096 * run.first) (4096 * run.count) bits sound)) (record { enabled = can.enabled; events = can.events }) mode mapping some.1
    (λ page h. mapped page (or_right (in_range run.first run.count page) (in_runs runs page) h)) in
    let both = subst (Turned runs bits) (sym is) rest in (
      (run_accepted space run.first run.count bits can mode mapping some.0 here, both.0),
      both.1 ∙ ap (λ s. registered_by s (in_runs runs) (mode_of bits)) is ∙ registered_twice space (in_range run.first run.count) (in_runs runs) (mode_of bits),
    )

-- runs that have exactly the mapped pages: each call is accepted, and together they register every mapped page
pub areas_registered : (space : Space) (runs : List Run) (bits : ℕ) → IsSoundSpace space → CanRegister space.object → is_bad_mode bits ≡ false → IsMapping space.host.areas → AreRunsOf space.host.areas runs →
    AreRegistered space (registered_by space (λ page. contains_key space.host.areas page) (mode_of bits)) runs bits
areas_registered space runs bits sound can mode mapping are =
    let all = turned runs space bits sound can mode mapping are.some (λ page h. sym (are.pages page) ∙ h) in
    record { accepted = all.0; leaves = sym (all.1 ∙ same_test space (in_runs runs) (λ page. contains_key space.host.areas page) (mode_of bits) are.pages) }

-- the same as the registration of the whole address space
pub every_registered : (space : Space) (mode : Mode) → IsSoundSpace space → registered_by space (λ page. contains_key space.host.areas page) mode ≡ registered_in space 0 HIGH_PAGE mode
every_registered space mode sound = grind (arith, nat_tests)

-- There are such runs: each mapped page is one

abbrev one_page : ℕ → Run
one_page page = record { first = page; count = 1 }

abbrev pages_below : (ℕ → Bool) → ℕ → List Run
pages_below test zero = []
pages_below test (suc bound) = if test bound then one_page bound ∷ pages_below test bound else pages_below test bound

below_next : (page bound : ℕ) (here there : Bool) → (page ≡ bound → here ≡ there) → cond there (in_range bound 1 page || (ltb page bound && here)) (ltb page bound && here) ≡ (ltb page (suc bound) && here)
below_next page bound here there h = grind (arith, nat_tests)

runs_or : (there : Bool) (run : Run) (runs : List Run) (page : ℕ) → in_runs (if there then run ∷ runs else runs) page ≡ cond there (in_range run.first run.count page || in_runs runs page) (in_runs runs page)
runs_or there run runs page = grind (arith, nat_tests)

in_pages_below : (test : ℕ → Bool) (bound page : ℕ) → in_runs (pages_below test bound) page ≡ (ltb page bound && test page)
in_pages_below test zero page = none_below_zero page (test page)
in_pages_below test (suc bound) page = grind (arith, nat_tests, runs_or, one_page, pages_below, below_next, in_pages_below test bound page)

some_or : (there : Bool) (page : ℕ) (runs : List Run) → AreSome runs → AreSome (if there then one_page page ∷ runs else runs)
some_or there page runs some = grind (arith, nat_tests)

some_below : (test : ℕ → Bool) (bound : ℕ) → AreSome (pages_below test bound)
some_below test zero = tt
some_below test (suc bound) = some_or (test bound) bound (pages_below test bound) (some_below test bound)

low_mapping : (areas : FinMap nat_cmp Prot) (page : ℕ) → IsMapping areas → contains_key areas page ≡ true → ltb page HIGH_PAGE ≡ true
low_mapping areas page mapping h = let high = (mapping.pages page h).1 in grind (arith, nat_tests, high)

pub runs_of : (areas : FinMap nat_cmp Prot) → IsMapping areas → (runs : List Run) × AreRunsOf areas runs
runs_of areas mapping = (
  pages_below (contains_key areas) HIGH_PAGE,
  record {
    some = some_below (contains_key areas) HIGH_PAGE;
    pages = λ page. in_pages_below (contains_key areas) HIGH_PAGE page ∙ past_none (ltb page HIGH_PAGE) (contains_key areas page) (λ h. low_mapping areas page mapping h);
  },
)
