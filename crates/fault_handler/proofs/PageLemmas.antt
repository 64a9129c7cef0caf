-- The pages of the source that a destination names may be mapped.
use Rattle.std.proofs.lemmas.Bool.Decides.{nat_tests}
use Rattle.std.proofs.Common.{◌≡◌, ℕ, ◌≤◌, Bool, true, false, cond, Option, Some, None, List, [], sym, ap, ◌∙◌, subst, arith}
use Rattle.std.specs.Cmp.{nat_cmp_total}
use Rattle.std.specs.Ordering.{nat_cmp}
use Rattle.std.specs.FinMap as finmap
use Rattle.std.specs.FinMap.{get, get-empty, get-remove}
use Rattle.std.specs.FinSet.{FinSet, contains}
use Rattle.std.proofs.lemmas.Bool.{false_from_ne_true}
use Rattle.std.proofs.lemmas.Option.{none-some}
use Rattle.mig_base.specs.declared.TheConstants.{HIGH_PAGE}
use Rattle.mig_base.specs.declared.message.Message.{Message}
use Rattle.mig_model.specs.Bounds.{AreFewPages, IsPage, AreListed}
use Rattle.mig_model.specs.Destination.{destination_act_by}
use Rattle.mig_base.specs.declared.act.Act.{Act}
use Rattle.mig_model.specs.Log.{no_pages}
use Rattle.mig_model.specs.Owed.{Owed, is_requested, origins, own_places, owed_table_after, requesting, without_request}
use Rattle.mig_model.proofs.invariant.Delivery.{pair-origins}
use Rattle.mig_model.proofs.invariant.PackageTaken.{own_place}
use Rattle.mig_base.proofs.SetSizes.{len-part}
use Rattle.mig_model.proofs.owed.SettledLemmas.{get-owed_table_after, values-after}
use Rattle.fault_handler.specs.Order.{HasPages}
use Rattle.mig_model.proofs.memory.PageLists.{few_none, listed-without, listed_or_more}

pub none_paged : HasPages finmap.empty []
none_paged = record {
  first = no_pages;
  few = few_none;
  among = λ page origin h. absurd (none-some origin (sym (get-empty nat_cmp page) ∙ h));
  listed = tt;
}

-- the destination runs

pub run_paged : (pairs : Owed) (owed : FinSet nat_cmp) (requests : List ℕ) → pairs ≡ own_places owed HIGH_PAGE → AreFewPages owed → AreListed requests → HasPages pairs requests
run_paged pairs owed requests is few asked = record {
  first = owed;
  few = few;
  among = λ page origin h.
      let own = own_place owed page origin (ap (λ p. get p page) (sym is) ∙ h) in
      subst (λ q. contains owed q ≡ true) (sym own.2) own.1;
  listed = asked;
}

-- a message is read: what is owed then was owed before

pub read_paged : (message : Message) (owed now : Owed) (requests : List ℕ) → now ≡ owed_table_after message owed → HasPages owed requests → HasPages now requests
read_paged message owed now requests is old = record {
  first = old.first;
  few = old.few;
  among = λ page origin h.
      let was = values-after message (get owed) page origin (sym (get-owed_table_after message owed page) ∙ ap (λ p. get p page) (sym is) ∙ h) in
      old.among was.0 origin was.1;
  listed = old.listed;
}

-- a copy is installed

removed_one : (here : Bool) (o : Option ℕ) (origin : ℕ) → cond here None o ≡ Some origin → o ≡ Some origin
removed_one true o origin h = absurd (cc)
removed_one false o origin h = h

pub installed_paged : (owed now : Owed) (page : ℕ) (requests asked : List ℕ) (origin : ℕ) → now ≡ finmap.remove owed page → asked ≡ without_request requests origin → HasPages owed requests → HasPages now asked
installed_paged owed now page requests asked origin is ends old = record {
  first = old.first;
  few = old.few;
  among = λ q from h. old.among q from (removed_one _ (get owed q) from (sym (get-remove nat_cmp_total owed page q) ∙ ap (λ p. get p q) (sym is) ∙ h));
  listed = subst AreListed (sym ends) (listed-without requests origin old.listed);
}

-- a page is asked for

pub requested_paged : (owed : Owed) (requests asked : List ℕ) (origin : ℕ) → asked ≡ requesting requests origin → IsPage origin → HasPages owed requests → HasPages owed asked
requested_paged owed requests asked origin is page old =
    record { first = old.first; few = old.few; among = old.among; listed = subst AreListed (sym is) (listed_or_more (is_requested requests origin) requests origin old.listed page) }

requested_owed : (gone here : Bool) (owed : Option ℕ) (origin : ℕ) → destination_act_by gone here owed ≡ Act.Requested origin → owed ≡ Some origin
requested_owed gone here owed origin h = grind (arith, nat_tests)

pub requested_page : (gone here : Bool) (owed : Owed) (requests : List ℕ) (page origin : ℕ) → destination_act_by gone here (get owed page) ≡ Act.Requested origin → HasPages owed requests → IsPage origin
requested_page gone here owed requests page origin is old = old.few.0 origin (old.among page origin (requested_owed gone here (get owed page) origin is))

-- the pages that are still needed

inside : (pages : FinSet nat_cmp) (page : ℕ) → AreFewPages pages → HIGH_PAGE ≤ page → contains pages page ≡ false
inside pages page few high = false_from_ne_true (contains pages page) (λ here. let last = (few.0 page here).1 in absurd (omega (arith, last, high)))

pub few_origins : (owed : Owed) (requests : List ℕ) → HasPages owed requests → AreFewPages (origins owed)
few_origins owed requests old =
    let among = λ (origin : ℕ) (h : contains (origins owed) origin ≡ true). let pair = pair-origins owed origin h in old.among pair.0 origin pair.1 in
    let less = len-part (origins owed) old.first among (λ q high. inside old.first q old.few high) in
    let most = old.few.1 in (λ origin h. old.few.0 origin (among origin h), omega (arith, less, most))
