-- The pages of a set in a list, each once.
use Rattle.std.proofs.Common.{◌≡◌, ℕ, List, [], ◌∷◌, ◌++◌, Bool, true, false, ◌||◌, eqb, refl, sym, ap, ◌∙◌, subst, inl, inr, arith, get_or}
use Rattle.std.specs.Prelude.{◌≢◌, ◌<◌, ◌↔◌, AllPairs, Contains, ◌⊎◌}
use Rattle.std.specs.Ordering.{nat_cmp}
use Rattle.std.specs.FinSet.{FinSet, contains}
use Rattle.std.proofs.lemmas.Bool.{eqb-true, false≢true}
use Rattle.std.proofs.lemmas.List.Elements.{Contains-get_or, Contains-push, Contains-push_cases, Contains-append_left}
use Rattle.std.proofs.lemmas.List.Quantifiers.{all_pairs_push}
use Rattle.foundation.proofs.TestLemmas.{eqb-self}
use Rattle.rig.specs.Claiming.{Lists}

-- the list has the pages that pass a test, each once
pub record AreListed (test : ℕ → Bool) (pages : List ℕ) : Type 0 where
  pub apart : AllPairs ◌≢◌ pages
  pub all : (q : ℕ) → (test q ≡ true) ↔ Contains pages q

pub none_listed : (test : ℕ → Bool) → ((q : ℕ) → test q ≡ false) → AreListed test []
none_listed test none =
    record {
      apart = λ i j d before less. absurd (omega (arith, less));
      all = λ q. ((λ is. absurd (false≢true (sym (none q) ∙ is))), (λ within. absurd (omega (arith, within.1))));
    }

-- one page more
module _ (test more : ℕ → Bool) (page : ℕ) (pages : List ℕ) (listed : AreListed test pages) (one : (q : ℕ) → more q ≡ (eqb q page || test q)) (new : test page ≡ false) where
  apart_from : (k d : ℕ) → k < Rattle.std.specs.Prelude.length pages → get_or pages k d ≢ page
  apart_from k d within same = false≢true (sym new ∙ ap test (sym same) ∙ (listed.all (get_or pages k d)).1 (Contains-get_or pages k d within))

  listed_if : (q : ℕ) (here : Bool) → eqb q page ≡ here → (here || test q) ≡ true → Contains (pages ++ page ∷ []) q
  listed_if q true at is = subst (Contains (pages ++ page ∷ [])) (sym (eqb-true q page at)) (Contains-push pages page)
  listed_if q false at is = Contains-append_left pages (page ∷ []) q ((listed.all q).0 is)

  passes_if : (q : ℕ) → Contains pages q ⊎ (page ≡ q) → (eqb q page || test q) ≡ true
  passes_if q (inl there) = ap (λ b. eqb q page || b) ((listed.all q).1 there) ∙ either (eqb q page)
    where
      either : (b : Bool) → (b || true) ≡ true
      either true = refl
      either false = refl
  passes_if q (inr same) = ap (λ b. b || test q) (ap (λ p. eqb p page) (sym same) ∙ eqb-self page)

  pub one_more : AreListed more (pages ++ page ∷ [])
  one_more =
      record {
        apart = all_pairs_push ◌≢◌ pages page listed.apart apart_from;
        all = λ q. ((λ is. listed_if q (eqb q page) refl (sym (one q) ∙ is)), (λ within. one q ∙ passes_if q (Contains-push_cases pages page q within)));
      }

pub listed_all : (set : FinSet nat_cmp) (test : ℕ → Bool) (pages : List ℕ) → AreListed test pages → ((q : ℕ) → test q ≡ contains set q) → Lists set pages
listed_all set test pages listed all = (listed.apart, λ q. ((λ is. (listed.all q).0 (all q ∙ is)), (λ within. sym (all q) ∙ (listed.all q).1 within)))
