-- The pages of all spaces, once the table of one has changed.
use Rattle.std.proofs.Common.{◌≡◌, ◌∙◌, ℕ, false, Option, Some, refl, inl, inr, ap}
use Rattle.std.specs.Prelude.{◌==◌, if◌then◌else◌, nat_eq}
use Rattle.std.proofs.Math.Path.{fun_ext}
use Rattle.std.proofs.lemmas.Bool.{cases_Bool, eqb-true}
use Rattle.indexmap.specs.IndexMap.{get}
use Rattle.kernel_rules.specs.Changes.{changed, range_changed}
use Rattle.kernel_rules.specs.Held.{kernel_of, pages_by}
use Rattle.kernel_rules.specs.State.{set_pages}
use Rattle.kernel_rules.specs.Tables.{pages_of}
use Rattle.kernel_rules.specs.declared.change.Change.{Change}
use Rattle.kernel_rules.specs.declared.kernel_table.KernelTable.{KernelTable}
use Rattle.kernel_rules.specs.declared.page_table.PageTable.{PageTable}

page_put : (old new : ℕ → Option PageTable) (space first count : ℕ) (change : Change) (table : PageTable) → ((q : ℕ) → new q ≡ (if space == q then Some table else old q))
    → ((n : ℕ) → pages_of table n ≡ range_changed (pages_by (old space)) first count change n) → (s p : ℕ)
    → pages_by (new s) p ≡ set_pages (λ s p. pages_by (old s) p) space first count (λ p. changed change (pages_by (old space) p)) s p
page_put old new space first count change table put is s p =
    elim (cases_Bool (space == s)) [
      | inl same ↦ rw (put s, same, ← (eqb-true space s same)) (is p)
      | inr other ↦ rw (put s, other) refl
    ]

-- the kernel once a table of pages is changed and put back
pub kernel_put : (old mid new : KernelTable) (space first count : ℕ) (change : Change) (before after : PageTable) → mid ≡ record old { spaces = mid.spaces } → new ≡ record mid { spaces = new.spaces }
    → ((n : ℕ) → pages_of before n ≡ pages_by (get nat_eq old.spaces space) n) → ((q : ℕ) → (space == q) ≡ false → get nat_eq mid.spaces q ≡ get nat_eq old.spaces q)
    → ((n : ℕ) → pages_of after n ≡ range_changed (pages_of before) first count change n)
    → ((q : ℕ) → get nat_eq new.spaces q ≡ (if space == q then Some after else get nat_eq mid.spaces q))
    → kernel_of new ≡ record (kernel_of old) { pages = set_pages (kernel_of old).pages space first count (λ page. changed change ((kernel_of old).pages space page)) }
unfolding kernel_of
kernel_put old mid new space first count change before after taken back is others changes put =
    let pages : (λ s p. pages_by (get nat_eq new.spaces s) p) ≡ set_pages (λ s p. pages_by (get nat_eq old.spaces s) p) space first count (λ p. changed change (pages_by (get nat_eq old.spaces space) p)) =
    fun_ext (λ s. fun_ext (λ p. page_put (get nat_eq old.spaces) (get nat_eq new.spaces) space first count change after
    (λ q. put q ∙ elim (cases_Bool (space == q)) [ inl same ↦ rw same refl | inr other ↦ rw other (others q other) ])
    (λ n. changes n ∙ rw (is n) refl) s p)) in
    let tables : new ≡ record old { spaces = new.spaces } = back ∙ ap (λ (t : KernelTable). record t { spaces = new.spaces }) taken in
    ap (λ (t : KernelTable). kernel_of (record t { spaces = new.spaces })) (back ∙ ap (λ (t : KernelTable). record t { spaces = new.spaces }) taken)
    ∙ ap (λ f. record (kernel_of old) { pages = f }) pages
