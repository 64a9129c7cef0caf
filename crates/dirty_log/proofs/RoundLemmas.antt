-- How far a round has come.
use Rattle.std.proofs.Common.{◌≡◌, ℕ, ◌+◌, ◌<◌, ◌≤◌, ◌&&◌, Bool, false, not, ap, ◌∙◌, ⊎_elim, max, arith}
use Rattle.std.specs.Ordering.{nat_cmp}
use Rattle.std.specs.FinSet.{FinSet, contains}
use Rattle.std.proofs.lemmas.Bool.{cases_lt}
use Rattle.mig_base.specs.declared.TheConstants.{HIGH_PAGE}
use Rattle.foundation.specs.Ranges.{in_range}
use Rattle.mig_base.specs.Sets.{without}
use Rattle.foundation.proofs.RangeLemmas.{ranges}
use Rattle.mig_base.proofs.SetLemmas.{member_without}
use Rattle.mig_model.specs.Guest.{is_changed_by}
use Rattle.mig_base.specs.declared.message.Message.{Message}
use Rattle.mig_model.specs.Log.{unchanged}
use Rattle.dirty_log.specs.Rounds.{HasComeTo}
use Rattle.dirty_log.proofs.PageLemmas.{member_kept}

-- no page below the start of the search, and none from there up to the page that is found
pub none_before : (test : ℕ → Bool) (from found page : ℕ) → ((q : ℕ) → q < from → test q ≡ false) → ((q : ℕ) → from ≤ q → q < found → test q ≡ false) → page < found → test page ≡ false
none_before test from found page low before l = ⊎_elim (low page) (λ (m : from ≤ page). before page m l) (cases_lt page from)

-- an event takes pages out
pub read_come : (todo : FinSet nat_cmp) (message : Message) (from : ℕ) → HasComeTo todo from → HasComeTo (unchanged todo message) from
read_come todo message from come = record {
  inside = come.inside;
  none = λ q l. member_kept todo (is_changed_by message) q ∙ ap (λ b. b && not (is_changed_by message q)) (come.none q l);
}

-- and so does a run that is sent
sent_come : (todo : FinSet nat_cmp) (first count from : ℕ) → HasComeTo todo from → HasComeTo (without todo first count) from
sent_come todo first count from come = record { inside = come.inside; none = λ q l. member_without todo first count q ∙ ap (λ b. b && not (in_range first count q)) (come.none q l) }

-- the first run of the round brings it past itself
behind : (q first count : ℕ) (was : Bool) → (q < first → was ≡ false) → q < first + count → (was && not (in_range first count q)) ≡ false
behind q first count was low l = grind (arith, ranges)

come_behind : (todo : FinSet nat_cmp) (first count from found : ℕ) → HasComeTo todo from → first + count ≤ HIGH_PAGE → ((q : ℕ) → from ≤ q → q < found → contains todo q ≡ false) → first ≤ found → HasComeTo (without todo first count) (max from (first + count))
come_behind todo first count from found come inside before low = record {
  inside = let old = come.inside in omega (arith, old, inside);
  none = λ q l.
      ⊎_elim ((sent_come todo first count from come).none q)
      (λ (m : from ≤ q). member_without todo first count q ∙ behind q first count (contains todo q) (λ k. before q m (omega (arith, k, low))) (omega (arith, l, m)))
      (cases_lt q from);
}

pub come_on : (todo left : FinSet nat_cmp) (first count from found next : ℕ) → HasComeTo todo from → first + count ≤ HIGH_PAGE → ((q : ℕ) → from ≤ q → q < found → contains todo q ≡ false) → left ≡ without todo first count
    → first ≤ found → next ≡ max from (first + count) → HasComeTo left next
come_on todo left first count from found next come inside before out low is = rw (out, is) (come_behind todo first count from found come inside before low)

pub stay_on : (todo left : FinSet nat_cmp) (first count from : ℕ) → HasComeTo todo from → left ≡ without todo first count → HasComeTo left from
stay_on todo left first count from come out = rw out (sent_come todo first count from come)
