-- Lists and sets of pages that may be mapped.
use Rattle.std.proofs.Common.{ℕ, Bool, not, eqb, List, [], ◌∷◌, ◌++◌, if◌then◌else◌, sym, ap, ◌∙◌, arith}
use Rattle.std.specs.Ordering.{nat_cmp}
use Rattle.std.specs.FinSet.{FinSet, contains, contains-retain, len-empty, nat_cmp-IsAntisymmetric}
use Rattle.std.proofs.lemmas.Bool.{and_parts}
use Rattle.std.proofs.lemmas.Bool.Decides.{nat_tests}
use Rattle.mig_model.specs.Bounds.{AreFewPages, AreListed, ArePages, IsPage}
use Rattle.mig_model.specs.Log.{less, no_pages}
use Rattle.mig_model.specs.Owed.{without_request}
use Rattle.mig_model.proofs.memory.Facts.{no_page}

pub listed-push : (pages : List ℕ) (page : ℕ) → AreListed pages → IsPage page → AreListed (pages ++ page ∷ [])
listed-push [] page are is = (is, tt)
listed-push (first ∷ pages) page are is = (are.0, listed-push pages page are.1 is)

pub listed_or_more : (asked : Bool) (requests : List ℕ) (origin : ℕ) → AreListed requests → IsPage origin → AreListed (if asked then requests else requests ++ origin ∷ [])
listed_or_more asked requests origin are is = grind (arith, nat_tests, listed-push)

without_first : (here : Bool) (request : ℕ) (requests less : List ℕ) → IsPage request → AreListed requests → AreListed less → AreListed (if here then requests else request ∷ less)
without_first here request requests less is are left = grind (arith, nat_tests)

pub listed-without : (requests : List ℕ) (origin : ℕ) → AreListed requests → AreListed (without_request requests origin)
listed-without [] origin are = tt
listed-without (request ∷ requests) origin are = without_first (eqb request origin) request requests (without_request requests origin) are.0 are.1 (listed-without requests origin are.1)

pub less_pages : (set other : FinSet nat_cmp) → ArePages set → ArePages (less set other)
less_pages set other are page h =
    are page (and_parts (contains set page) (not (contains other page)) (sym (contains-retain set (λ q. not (contains other q)) page (λ x e. ap (λ q. not (contains other q)) (sym (nat_cmp-IsAntisymmetric page x e)))) ∙ h)).0

pub few_none : AreFewPages no_pages
few_none = (λ page h. no_page page h, let none = len-empty nat_cmp in omega (arith, none))
