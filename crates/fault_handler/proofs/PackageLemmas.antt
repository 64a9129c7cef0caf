-- A Package is taken: the space that the destination then runs in.
use Rattle.std.proofs.Common.{◌≡◌, ℕ, true, false, ltb, List, refl, sym, ap, subst, ◌∙◌, arith}
use Rattle.std.specs.Ordering.{nat_cmp}
use Rattle.std.specs.FinMap.{FinMap, contains_key}
use Rattle.std.specs.FinSet.{FinSet, contains-empty}
use Rattle.std.proofs.lemmas.Bool.{false_from_ne_true, lt-ltb, and_from}
use Rattle.foundation.specs.Bits.{is_one}
use Rattle.mig_base.specs.declared.TheConstants.{HIGH_PAGE}
use Rattle.mig_base.specs.declared.Prot.{Prot}
use Rattle.mig_model.specs.Bounds.{IsMapping}
use Rattle.mig_model.specs.Destination.{assembled}
use Rattle.mig_model.specs.Faults.{is_torn}
use Rattle.mig_model.specs.Ioctls.{has_events}
use Rattle.mig_model.specs.Owed.{Owed, own_places}
use Rattle.mig_model.specs.Space.{Space}
use Rattle.mig_model.proofs.invariant.PackageTaken.{assembled_missing, assembled_protect, own_place}
use Rattle.uffd_ioctl.specs.Lent.{IsLent}
use Rattle.fault_handler.specs.Order.{IsInOrder, IsReady}
use Rattle.fault_handler.proofs.TornLemmas.{owed_whole}

-- the space is lent
watches : (areas : FinMap nat_cmp Prot) (kept : FinMap nat_cmp (List ℕ)) → has_events (assembled areas kept).object ≡ true
unfolding is_one
watches areas kept = refl

lent_assembled : (areas : FinMap nat_cmp Prot) (kept : FinMap nat_cmp (List ℕ)) → IsMapping areas → IsLent (assembled areas kept)
lent_assembled areas kept mapping = record {
  enabled = refl;
  events = watches areas kept;
  low = λ page low. false_from_ne_true (contains_key areas page) (λ here. let above = (mapping.pages page here).0 in absurd (omega arith));
}

-- each owed page is registered, and missing
pub ready_assembled : (areas : FinMap nat_cmp Prot) (owed : FinSet nat_cmp) (kept : FinMap nat_cmp (List ℕ)) → IsMapping areas → is_torn kept areas owed ≡ false → IsReady (assembled areas kept) (own_places owed HIGH_PAGE)
ready_assembled areas owed kept mapping whole = record {
  lent = lent_assembled areas kept mapping;
  unprotected = λ page. contains-empty nat_cmp page;
  only_missing = λ page. assembled_protect areas kept page;
  events = tt;
  inside = tt;
  faults = tt;
  pairs = λ page origin h.
      let own = own_place owed page origin h in
      let here = owed_whole kept areas owed whole page own.1 in
      (assembled_missing areas kept page ∙ and_from (ltb page HIGH_PAGE) (contains_key areas page) (lt-ltb page HIGH_PAGE own.0) here.1, here.0);
}

pub run_in_order : (space : Space) (pairs : Owed) (mapped areas : FinMap nat_cmp Prot) (owed : FinSet nat_cmp) (kept : FinMap nat_cmp (List ℕ)) → space ≡ assembled mapped kept → mapped ≡ areas → pairs ≡ own_places owed HIGH_PAGE → IsMapping areas → is_torn kept areas owed ≡ false →
    IsInOrder true space pairs
run_in_order space pairs mapped areas owed kept is same own mapping whole = record {
  ready = λ _. subst (λ s. IsReady s pairs) (sym (is ∙ ap (λ m. assembled m kept) same)) (subst (IsReady (assembled areas kept)) (sym own) (ready_assembled areas owed kept mapping whole));
}
