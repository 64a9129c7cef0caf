-- The pages that a loop over a set has taken, and their lines.
use Rattle.std.proofs.Common.{◌≡◌, ℕ, List, [], ◌∷◌, ◌++◌, refl, sym, ap, subst, ◌∙◌, append_assoc, append-nil}
use Rattle.std.specs.Ordering.{nat_cmp}
use Rattle.std.specs.FinSet.{FinSet, empty, remove}
use Rattle.mig_base.specs.PageSets.{IsFirstPage}
use Rattle.mig_model.specs.Migration.{World}
use Rattle.show.specs.Owed.{AddsAllOwed, AddsOwed, AddsPushes, AreAscending, AreOwedLines, IsOwedLine, push_line, push_lines}

-- these pages were taken out of a set, the least first, and the others are left
abbrev pub AreTaken : FinSet nat_cmp → List ℕ → FinSet nat_cmp → Type 0
AreTaken set [] left = left ≡ set
AreTaken set (page ∷ pages) left = IsFirstPage set page × AreTaken (remove set page) pages left

-- one page more was taken
one_taken : (set : FinSet nat_cmp) (pages : List ℕ) (left rest : FinSet nat_cmp) (page : ℕ) → AreTaken set pages left → IsFirstPage left page → rest ≡ remove left page → AreTaken set (pages ++ page ∷ []) rest
one_taken set [] left rest page same first at = (subst (λ (s : FinSet nat_cmp). IsFirstPage s page) same first, at ∙ ap (λ (s : FinSet nat_cmp). remove s page) same)
one_taken set (other ∷ pages) left rest page taken first at = (taken.0, one_taken (remove set other) pages left rest page taken.1 first at)

-- all were taken
all_taken : (set : FinSet nat_cmp) (pages : List ℕ) (left : FinSet nat_cmp) → AreTaken set pages left → left ≡ empty → AreAscending set pages
all_taken set [] left same none = sym same ∙ none
all_taken set (page ∷ pages) left taken none = (taken.0, all_taken (remove set page) pages left taken.1 none)

-- Lines of pages that are still to be pushed

push_lines_push : (pages : List ℕ) (page : ℕ) → push_lines (pages ++ page ∷ []) ≡ push_lines pages ++ push_line page
push_lines_push [] page = append-nil (push_line page)
push_lines_push (other ∷ pages) page = ap (λ (t : List ℕ). push_line other ++ t) (push_lines_push pages page) ∙ sym (append_assoc (push_line other) (push_lines pages) (push_line page))

-- these pages were taken, and the text has grown by their lines
pub record HavePushLines (set : FinSet nat_cmp) (before : List ℕ) (left : FinSet nat_cmp) (after : List ℕ) : Type 0 where
  pub pages : List ℕ
  pub taken : AreTaken set pages left
  pub grown : after ≡ before ++ push_lines pages

pub none_pushed : (set left : FinSet nat_cmp) (before : List ℕ) → left ≡ set → HavePushLines set before left before
none_pushed set left before same = record { pages = []; taken = same; grown = sym (append-nil before) }

pub one_pushed : (set left rest : FinSet nat_cmp) (before after new : List ℕ) (page : ℕ) → HavePushLines set before left after → IsFirstPage left page → rest ≡ remove left page → new ≡ after ++ push_line page
    → HavePushLines set before rest new
one_pushed set left rest before after new page have first at is = record {
  pages = have.pages ++ page ∷ [];
  taken = one_taken set have.pages left rest page have.taken first at;
  grown = is ∙ ap (λ (t : List ℕ). t ++ push_line page) have.grown ∙ append_assoc before (push_lines have.pages) (push_line page)
      ∙ ap (λ (t : List ℕ). before ++ t) (sym (push_lines_push have.pages page));
}

pub all_pushed : (set left : FinSet nat_cmp) (before after : List ℕ) → HavePushLines set before left after → left ≡ empty → AddsPushes set before after
all_pushed set left before after have none = (have.pages, all_taken set have.pages left have.taken none, have.grown)

-- Lines of pages that are owed

owed_lines_push : (world : World) (pages : List ℕ) (page : ℕ) (lines line : List ℕ) → AreOwedLines world pages lines → IsOwedLine world page line → AreOwedLines world (pages ++ page ∷ []) (lines ++ line)
owed_lines_push world [] page lines line none is = (line, [], is, ap (λ (t : List ℕ). t ++ line) none ∙ sym (append-nil line), refl)
owed_lines_push world (other ∷ pages) page lines line p is =
    (p.0, p.1 ++ line, p.2, ap (λ (t : List ℕ). t ++ line) p.3 ∙ append_assoc p.0 p.1 line, owed_lines_push world pages page p.1 line p.4 is)

pub record HaveOwedLines (world : World) (set : FinSet nat_cmp) (before : List ℕ) (left : FinSet nat_cmp) (after : List ℕ) : Type 0 where
  pub pages : List ℕ
  pub lines : List ℕ
  pub taken : AreTaken set pages left
  pub each : AreOwedLines world pages lines
  pub grown : after ≡ before ++ lines

pub none_owed : (world : World) (set left : FinSet nat_cmp) (before : List ℕ) → left ≡ set → HaveOwedLines world set before left before
none_owed world set left before same = record { pages = []; lines = []; taken = same; each = refl; grown = sym (append-nil before) }

pub one_owed : (world : World) (set left rest : FinSet nat_cmp) (before after new : List ℕ) (page : ℕ) → HaveOwedLines world set before left after → IsFirstPage left page → rest ≡ remove left page → AddsOwed world page after new
    → HaveOwedLines world set before rest new
one_owed world set left rest before after new page have first at adds = record {
  pages = have.pages ++ page ∷ [];
  lines = have.lines ++ adds.0;
  taken = one_taken set have.pages left rest page have.taken first at;
  each = owed_lines_push world have.pages page have.lines adds.0 have.each adds.1;
  grown = adds.2 ∙ ap (λ (t : List ℕ). t ++ adds.0) have.grown ∙ append_assoc before have.lines adds.0;
}

pub all_owed : (world : World) (set left : FinSet nat_cmp) (before after : List ℕ) → HaveOwedLines world set before left after → left ≡ empty → AddsAllOwed world set before after
all_owed world set left before after have none = (have.pages, have.lines, all_taken set have.pages left have.taken none, have.each, have.grown)
