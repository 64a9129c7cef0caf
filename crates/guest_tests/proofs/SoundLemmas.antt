-- Two mapped pages, of which the first is present, are pages of a host.
use Rattle.std.proofs.Common.{◌≡◌, ℕ, ◌≤◌, cond, eqb, Some, None, List, sym, ap, ◌∙◌, arith, length}
use Rattle.std.specs.Ordering.{nat_cmp}
use Rattle.std.specs.Cmp.{nat_cmp_total, unsigned_tied}
use Rattle.std.specs.FinMap.{FinMap, get, insert, empty, get-insert, get-empty}
use Rattle.std.proofs.lemmas.Bool.Decides.{nat_tests}
use Rattle.mig_base.specs.declared.TheConstants.{HIGH_PAGE}
use Rattle.mig_base.specs.declared.Prot.{Prot}
use Rattle.mig_base.specs.declared.Prot.TheVariants.{ReadWrite}
use Rattle.foundation.specs.Ranges.{in_range}
use Rattle.mig_base.specs.Pages.{set_range}
use Rattle.mig_base.proofs.PageLemmas.{get-set_range}
use Rattle.mig_model.specs.Host.{IsSound}

get-areas : (areas : FinMap nat_cmp Prot) → areas ≡ set_range empty 16 2 ReadWrite → (page : ℕ) → get areas page ≡ cond (in_range 16 2 page) (Some ReadWrite) None
get-areas areas is page =
    ap (λ m. get m page) is ∙ get-set_range empty 16 2 ReadWrite page ∙ ap (λ o. cond (in_range 16 2 page) (Some ReadWrite) o) (get-empty nat_cmp page)

get-bytes : (pages : FinMap nat_cmp (List ℕ)) (bytes : List ℕ) → pages ≡ insert empty 16 bytes → (page : ℕ) → get pages page ≡ cond (eqb page 16) (Some bytes) None
get-bytes pages bytes is page =
    ap (λ m. get m page) is
    ∙ get-insert nat_cmp_total empty 16 bytes page
    ∙ ap (λ b. cond b (Some bytes) (get (empty {R = nat_cmp}) page)) (unsigned_tied page 16)
    ∙ ap (λ o. cond (eqb page 16) (Some bytes) o) (get-empty nat_cmp page)

above : (page : ℕ) → HIGH_PAGE ≤ page → cond (in_range 16 2 page) (Some ReadWrite) None ≡ None
above page h = grind (arith, nat_tests)

present : (page : ℕ) (bytes : List ℕ) → cond (in_range 16 2 page) (Some ReadWrite) None ≡ None → cond (eqb page 16) (Some bytes) None ≡ None
present page bytes h = grind (arith, nat_tests)

same : (page : ℕ) (bytes other : List ℕ) → length bytes ≡ 4096 → cond (eqb page 16) (Some bytes) None ≡ Some other → length other ≡ 4096
same page bytes other n h = grind (arith, nat_tests)

pub two_pages_are_sound : (areas : FinMap nat_cmp Prot) (pages : FinMap nat_cmp (List ℕ)) (bytes : List ℕ) → areas ≡ set_range empty 16 2 ReadWrite → pages ≡ insert empty 16 bytes
    → length bytes ≡ 4096 → IsSound (record { areas = areas; bytes = pages })
two_pages_are_sound areas pages bytes a p n =
    record {
      bound = λ page h. get-areas areas a page ∙ above page h;
      mapped = λ page h. get-bytes pages bytes p page ∙ present page bytes (sym (get-areas areas a page) ∙ h);
      whole = λ page other h. same page bytes other n (sym (get-bytes pages bytes p page) ∙ h);
    }
