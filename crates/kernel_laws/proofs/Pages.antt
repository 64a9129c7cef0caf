-- Pages that are put, at both.
use Rattle.std.proofs.lemmas.Bool.Decides.{nat_tests}
use Rattle.std.proofs.lemmas.Bool.{false≢true}
use Rattle.std.proofs.Common.{◌≡◌, ◌⊎◌, inl, inr, ℕ, zero, suc, ◌<◌, Bool, true, false, cond, Option, Some, None, List, arith, refl, sym, ap, subst, ◌∙◌}
use Rattle.std.specs.Prelude.{unwrap_or}
use Rattle.std.specs.FinMap.{contains_key}
use Rattle.std.specs.FinSet.{contains}
use Rattle.foundation.specs.Ranges.{in_range, least_below}
use Rattle.mig_base.specs.Userfault.{is_registered}
use Rattle.mig_base.proofs.SetLemmas.{member_below}
use Rattle.foundation.proofs.TestLemmas.{below_or_at}
use Rattle.mig_model.specs.Ioctls.{installed}
use Rattle.mig_model.specs.Space.{IsSoundSpace, Space}
use Rattle.mig_model.proofs.memory.IoctlLemmas.{get-put_pages}
use Rattle.kernel_rules.specs.Changes.{page_with}
use Rattle.kernel_rules.specs.Pages.{put_page}
use Rattle.kernel_rules.specs.State.{page_is}
use Rattle.kernel_rules.specs.declared.known.Page.{Page}
use Rattle.kernel_laws.specs.Agreement.{AgreesAt, IsPage}

-- The first page that is present

at_end : (test : ℕ → Bool) (bound j : ℕ) (last : Bool) → test bound ≡ last → j < unwrap_or (cond last (Some bound) None) (suc bound) → (j < bound → test j ≡ false) → test j ≡ false
at_end test bound j true is low before = before low
at_end test bound j false is low before = at_or_before (below_or_at j bound low) where
  at_or_before : (j < bound ⊎ (j ≡ bound)) → test j ≡ false
  at_or_before (inl below) = before below
  at_or_before (inr at) = ap test at ∙ is

pub least_before : (test : ℕ → Bool) (bound j : ℕ) → j < unwrap_or (least_below test bound) bound → test j ≡ false
unfolding least_below
least_before test zero j low = absurd (omega (arith, low))
least_before test (suc bound) j low =
    elim (least_below test bound) as (λ o. least_below test bound ≡ o → j < unwrap_or (elim o [ Some least ↦ Some least | None ↦ cond (test bound) (Some bound) None ]) (suc bound) → test j ≡ false) [
      | Some least ↦ λ e l. least_before test bound j (subst (λ o. j < unwrap_or o bound) (sym e) l)
      | None ↦ λ e l. at_end test bound j (test bound) refl l (λ below. least_before test bound j (subst (λ o. j < unwrap_or o bound) (sym e) below))
    ] refl low

-- What is known of a page

-- a registered page is known, and passes each test that such pages pass
pub known : (space : Space) (name page : ℕ) (found : Option Page) (test : Page → Bool) → AgreesAt space name page found → is_registered space.object page ≡ true → ((one : Page) → IsPage space name page one → test one ≡ true) → page_is test found ≡ true
known space name page None test agrees registered passes = absurd (false≢true (sym agrees ∙ registered))
known space name page (Some one) test agrees registered passes = passes one agrees

-- One page that is put

present-put : (space : Space) (first count page : ℕ) (bytes : ℕ → List ℕ) (protect : Bool) → in_range first count page ≡ true → contains_key (installed space first count bytes protect).host.bytes page ≡ true
present-put space first count page bytes protect inside = grind (arith, nat_tests, get-put_pages)

guarded-put : (space : Space) (first count page : ℕ) (bytes : ℕ → List ℕ) (protect : Bool) → IsSoundSpace space → contains_key space.host.bytes page ≡ false → contains (installed space first count bytes protect).protected page ≡ true → protect ≡ true
guarded-put space first count page bytes protect sound absent guarded = grind (arith, nat_tests, member_below, sound.present page)

pub same-put : (space : Space) (first count page : ℕ) (bytes : ℕ → List ℕ) (protect : Bool) → in_range first count page ≡ false → contains_key (installed space first count bytes protect).host.bytes page ≡ contains_key space.host.bytes page
same-put space first count page bytes protect outside = grind (arith, nat_tests, get-put_pages)

left-put : (space : Space) (first count page : ℕ) (bytes : ℕ → List ℕ) (protect : Bool) → in_range first count page ≡ false → contains (installed space first count bytes protect).protected page ≡ true → contains space.protected page ≡ true
left-put space first count page bytes protect outside guarded = grind (arith, nat_tests, member_below)

pub page-put : (space : Space) (first count name page : ℕ) (bytes : ℕ → List ℕ) (protect b : Bool) (found : Option Page) → IsSoundSpace space → in_range first count page ≡ b → (b ≡ true → contains_key space.host.bytes page ≡ false) → AgreesAt space name page found →
    AgreesAt (installed space first count bytes protect) name page (cond b (page_with (put_page protect) found) found)
page-put space first count name page bytes protect true None sound is absent agrees = agrees
page-put space first count name page bytes protect false None sound is absent agrees = agrees
page-put space first count name page bytes protect true (Some one) sound is absent agrees =
    record {
      object = agrees.object;
      missing = agrees.missing;
      protect = agrees.protect;
      registered = agrees.registered;
      absent = λ missing. absurd (false≢true missing);
      present = λ there. present-put space first count page bytes protect is;
      whole = refl;
      plain = agrees.plain;
      guarded = λ guarded. guarded-put space first count page bytes protect sound (absent refl) guarded;
    }
page-put space first count name page bytes protect false (Some one) sound is absent agrees =
    record {
      object = agrees.object;
      missing = agrees.missing;
      protect = agrees.protect;
      registered = agrees.registered;
      absent = λ missing. same-put space first count page bytes protect is ∙ agrees.absent missing;
      present = λ there. same-put space first count page bytes protect is ∙ agrees.present there;
      whole = agrees.whole;
      plain = agrees.plain;
      guarded = λ guarded. agrees.guarded (left-put space first count page bytes protect is guarded);
    }
