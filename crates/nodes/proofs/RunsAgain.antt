-- A Run is taken again whose first pages are kept already.
use Rattle.std.proofs.Common.{◌≡◌, ℕ, ◌-◌, ◌≤◌, arith, Bool, true, false, cond, Option, Some, List, [], length, replicate, get_or, refl, sym, ap, ◌∙◌}
use Rattle.std.specs.Ordering.{nat_cmp}
use Rattle.std.specs.FinMap.{FinMap, get}
use Rattle.std.proofs.lemmas.List.{length-replicate}
use Rattle.mig_base.specs.Bytes.{zero_page}
use Rattle.foundation.specs.Ranges.{in_range}
use Rattle.mig_base.proofs.PageLemmas.{same_pages}
use Rattle.foundation.proofs.RangeLemmas.{ranges}
use Rattle.mig_model.specs.Wire.{kept_with, run_copies}
use Rattle.fault_handler.proofs.KeptLemmas.{get-run_copies}
use Rattle.nodes.specs.DestinationCalls.{zeros_taken}
use Rattle.nodes.specs.Nodes.{PostingDestination}
use Rattle.nodes.proofs.DestinationLines.{keeping, zeros-keep}

abbrev Copies : Type 0
Copies = FinMap nat_cmp (List ℕ)

-- pages of zeros
abbrev some : ℕ → List (List ℕ)
some count = replicate count zero_page

abbrev with_zeros : Copies → ℕ → ℕ → Copies
with_zeros kept first count = kept_with kept (run_copies first (some count))

out : (first few count q : ℕ) → few ≤ count → in_range first count q ≡ false → in_range first few q ≡ false
out first few count q le off = grind (arith, ranges)

no_longer : (few count : ℕ) → few ≤ count → length (some few) ≤ length (some count)
no_longer few count le = omega (arith, le, length-replicate few zero_page, length-replicate count zero_page)

at : (kept : Copies) (first few count q : ℕ) (copy : Option (List ℕ)) → few ≤ count → (within : Bool) → in_range first (length (some count)) q ≡ within →
    cond within copy (get (with_zeros kept first few) q) ≡ cond within copy (get kept q)
at kept first few count q copy le true is = refl
at kept first few count q copy le false is =
    get-run_copies kept first (some few) q
    ∙ ap (λ (b : Bool). cond b (Some (get_or (some few) (q - first) [])) (get kept q)) (out first (length (some few)) (length (some count)) q (no_longer few count le) is)

zeros-again : (kept : Copies) (first few count : ℕ) → few ≤ count → with_zeros (with_zeros kept first few) first count ≡ with_zeros kept first count
zeros-again kept first few count le =
    same_pages _ _
    (λ q. get-run_copies (with_zeros kept first few) first (some count) q ∙ at kept first few count q (Some (get_or (some count) (q - first) [])) le (in_range first (length (some count)) q) refl
    ∙ sym (get-run_copies kept first (some count) q))

pub run-again : (old : PostingDestination) (epoch first few count : ℕ) → old.node.has_run ≡ false → few ≤ count → zeros_taken (zeros_taken old epoch first few) epoch first count ≡ zeros_taken old epoch first count
run-again old epoch first few count off le =
    ap (λ (p : PostingDestination). zeros_taken p epoch first count) (zeros-keep old epoch first few off) ∙ zeros-keep (keeping old first few) epoch first count off
    ∙ ap (λ (kept : Copies). record old { node = record old.node { kept = kept } }) (zeros-again old.node.kept first few count le) ∙ sym (zeros-keep old epoch first count off)
