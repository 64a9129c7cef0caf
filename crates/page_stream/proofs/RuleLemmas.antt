-- What holds of each item of a list, and which pages lie below the first that may be mapped.
use Rattle.std.proofs.Common.{◌≡◌, ℕ, zero, suc, ◌+◌, ◌<◌, ◌≤◌, Bool, true, false, cond, Option, Some, None, is_some, List, [], ◌∷◌, length, get_or, sym, ap, ◌∙◌, arith, zero-add}
use Rattle.std.proofs.lemmas.Bool.Decides.{nat_tests}
use Rattle.std.specs.Ordering.{nat_cmp}
use Rattle.std.specs.FinMap.{FinMap, contains_key, get, len}
use Rattle.mig_base.specs.declared.Prot.{Prot}
use Rattle.mig_base.specs.declared.TheConstants.{LOW_PAGE, HIGH_PAGE, MAX_PAGES}
use Rattle.mig_base.specs.declared.command.Command.{Command}
use Rattle.foundation.specs.Ranges.{count_below}
use Rattle.foundation.proofs.RangeLemmas.{count_below-constant}
use Rattle.mig_model.specs.Bounds.{ArePageBytes, AreRightAccesses, IsMapping, IsPageBytes}
use Rattle.page_stream.specs.Rules.{IsProperWait}

pub page_bytes_each : (pages : List (List ℕ)) → ((k : ℕ) (d : List ℕ) → k < length pages → IsPageBytes (get_or pages k d)) → ArePageBytes pages
page_bytes_each [] each = tt
page_bytes_each (page ∷ pages) each = (each 0 page (omega arith), page_bytes_each pages (λ k d l. each (suc k) d (omega arith)))

pub right_each : (commands : List (Option Command)) → ((k : ℕ) → k < length commands → IsProperWait (get_or commands k None)) → AreRightAccesses commands
right_each [] each = tt
right_each (None ∷ commands) each = right_each commands (λ k l. each (suc k) (omega arith))
right_each (Some command ∷ commands) each = (each 0 (omega arith), right_each commands (λ k l. each (suc k) (omega arith)))

pub right_at : (commands : List (Option Command)) (k : ℕ) (d : Option Command) → k < length commands → AreRightAccesses commands → IsProperWait (get_or commands k d)
right_at [] k d l are = absurd (omega arith)
right_at (None ∷ commands) zero d l are = tt
right_at (Some command ∷ commands) zero d l are = are.0
right_at (None ∷ commands) (suc k) d l are = right_at commands k d (omega arith) are
right_at (Some command ∷ commands) (suc k) d l are = right_at commands k d (omega arith) are.1

-- Mapped pages

none_counted : (here : Bool) (n : ℕ) → n + cond here 1 0 ≡ 0 → (n ≡ 0) × (here ≡ false)
none_counted here n h = grind (arith, nat_tests)

-- where none is counted, none passes
pub count_below-none : (test : ℕ → Bool) (bound q : ℕ) → count_below test bound ≡ 0 → q < bound → test q ≡ false
unfolding count_below
count_below-none test zero q none below = absurd (omega arith)
count_below-none test (suc bound) q none below = grind (arith, nat_tests, none_counted (test bound) (count_below test bound) none, count_below-none test bound q)

-- pages from the first that may be mapped on
low_or_not : (page : ℕ) (here : Bool) → (page < LOW_PAGE → here ≡ false) → here ≡ true → LOW_PAGE ≤ page
low_or_not page here none is = grind (arith, nat_tests)

below_high : (page : ℕ) (o : Option Prot) → (HIGH_PAGE ≤ page → o ≡ None) → is_some o ≡ true → page < HIGH_PAGE
below_high page o high is = grind (arith, nat_tests)

pub mapping : (areas : FinMap nat_cmp Prot) → ((page : ℕ) → HIGH_PAGE ≤ page → get areas page ≡ None) → count_below (λ i. contains_key areas (0 + i)) LOW_PAGE ≡ 0 → len areas ≤ MAX_PAGES → IsMapping areas
mapping areas high none few =
    record {
      pages = λ page is. (
        low_or_not page (contains_key areas page) (λ below. ap (contains_key areas) (sym (zero-add page)) ∙ count_below-none (λ i. contains_key areas (0 + i)) LOW_PAGE page none below) is,
        below_high page (get areas page) (high page) is,
      );
      few = few;
    }

not_low : (here : Bool) (i : ℕ) → i < LOW_PAGE → (here ≡ true → LOW_PAGE ≤ i) → here ≡ false
not_low here i below low = grind (arith, nat_tests)

pub no_low_page : (areas : FinMap nat_cmp Prot) → IsMapping areas → count_below (λ i. contains_key areas (0 + i)) LOW_PAGE ≡ 0
no_low_page areas is =
    count_below-constant (λ i. contains_key areas (0 + i)) false LOW_PAGE (λ i below. ap (contains_key areas) (zero-add i) ∙ not_low (contains_key areas i) i below (λ h. (is.pages i h).0))
