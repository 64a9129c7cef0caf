-- Where the search for the next page to push continues.
use Rattle.std.proofs.lemmas.Bool.Decides.{nat_tests}
use Rattle.std.proofs.Common.{◌≡◌, ℕ, zero, suc, ◌<◌, ◌≤◌, ◌&&◌, Bool, true, false, cond, eqb, not, is_some, Option, Some, None, Ok, ⊎_elim, arith, sym, refl, ◌∙◌, ap}
use Rattle.std.proofs.lemmas.Bool.{false≢true, cases_Bool}
use Rattle.std.proofs.lemmas.Option.{none-some, same_Some}
use Rattle.std.specs.Prelude.{IsOk}
use Rattle.std.specs.FinSet as finset
use Rattle.std.specs.FinSet.{FinSet, contains}
use Rattle.std.specs.Ordering.{nat_cmp}
use Rattle.mig_base.specs.declared.effect.Effect.{Effect}
use Rattle.mig_base.specs.declared.phase.DestPhase.{DestPhase}
use Rattle.mig_base.specs.declared.phase.SourcePhase.{SourcePhase}
use Rattle.mig_base.specs.declared.schedule.Step.{Step}
use Rattle.mig_base.specs.declared.schedule.Ticket.{Ticket}
use Rattle.mig_base.specs.declared.TheConstants.{HIGH_PAGE}
use Rattle.foundation.specs.Ranges.{least_below}
use Rattle.foundation.proofs.RangeLemmas.{least_below-some}
use Rattle.mig_base.proofs.SetLemmas.{member_removed}
use Rattle.mig_model.specs.Log.{least_of}
use Rattle.mig_model.specs.Migration.{World, next, outcome}
use Rattle.mig_model.specs.Runs.{Happens}
use Rattle.mig_model.proofs.steps.PartsChanged.{changes_parts}
use Rattle.mig_model.proofs.steps.StepCases.{holds-made}
use Rattle.mig_model.proofs.steps.StepLemmas.{leaves-ok}
use Rattle.finish.specs.Finishing.{HasNoneBelow, HasPushed, IsPast, delivering_step, finishing_step, stopped_by, up_step, down_step}
use Rattle.finish.proofs.LeadLemmas.{made_next}

-- The least that passes

none_tells : (test : ℕ → Bool) (bound page : ℕ) → least_below test bound ≡ None → page < bound → test page ≡ false
none_tells test bound page none l =
    ⊎_elim
    (λ (h : test page ≡ true). absurd (false≢true (sym (ap is_some none) ∙ least_below-some test bound page l h)))
    (λ (h : test page ≡ false). h)
    (cases_Bool (test page))

bound_is : (b : Bool) (bound least : ℕ) → cond b (Some bound) None ≡ Some least → bound ≡ least
bound_is true bound least h = same_Some bound least h
bound_is false bound least h = absurd (none-some least h)

-- what comes before the least does not pass
before_least : (test : ℕ → Bool) (bound least page : ℕ) → least_below test bound ≡ Some least → page < least → test page ≡ false
unfolding least_below
before_least test zero least page h l = absurd (none-some least h)
before_least test (suc bound) least page h l =
    elim (least_below test bound) as (λ o. least_below test bound ≡ o → elim o [ Some first ↦ Some first | None ↦ cond (test bound) (Some bound) None ] ≡ Some least → test page ≡ false) [
      | Some first ↦ λ e same. before_least test bound least page (e ∙ same) l
      | None ↦ λ e same. let at = bound_is (test bound) bound least same in none_tells test bound page e (omega (arith, at, l))
    ] refl h

-- The page of a push

ends_by : (to : DestPhase) (world : World) (ticket : Ticket) → delivering_step to world ≡ Step.Push ticket → ⊥
ends_by to world ticket h = grind (arith, nat_tests)

by_least : (least : Option ℕ) (world : World) (ticket : Ticket) → stopped_by least world ≡ Step.Push ticket → least ≡ Some ticket.page
by_least (Some page) world ticket h = grind arith
by_least None world ticket h = grind (arith, nat_tests, ends_by)

by_phase : (phase : SourcePhase) (world : World) (ticket : Ticket) → up_step phase world ≡ Some (Step.Push ticket) → least_of world.source.remaining ≡ Some ticket.page
by_phase phase world ticket h = grind (arith, nat_tests, by_least)

down_not : (world : World) (ticket : Ticket) → down_step world ≡ Some (Step.Push ticket) → ⊥
down_not world ticket h = grind (arith, nat_tests)

-- a push that is named is of the least page that remains
least_named : (world : World) (ticket : Ticket) → finishing_step world ≡ Some (Step.Push ticket) → least_of world.source.remaining ≡ Some ticket.page
least_named world ticket h = grind (arith, nat_tests, by_phase, down_not)

-- what a push leaves of the pages that remain
remaining_pushed : (world : World) (ticket : Ticket) → IsOk (outcome world (Step.Push ticket)) → (next world (Step.Push ticket)).source.remaining ≡ finset.remove world.source.remaining ticket.page
remaining_pushed world ticket made =
    leaves-ok (λ new. new.source.remaining ≡ finset.remove world.source.remaining ticket.page) world (Step.Push ticket) (holds-made _ world (Step.Push ticket) (λ stopped up epoch present remains. refl)) made

-- no page before the least one is in the set

gone : (b : Bool) (page least : ℕ) → page ≤ least → (page < least → b ≡ false) → (not (eqb page least) && b) ≡ false
gone b page least l before = grind (arith, nat_tests)

-- no page up to the least is left once that is removed
removed_least : (pages : FinSet nat_cmp) (least page : ℕ) → least_of pages ≡ Some least → page ≤ least → contains (finset.remove pages least) page ≡ false
removed_least pages least page is l = member_removed pages least page ∙ gone (contains pages page) page least l (λ before. before_least (contains pages) HIGH_PAGE least page is before)

pushed_to : (mid new : World) (ticket : Ticket) (page : ℕ) → finishing_step mid ≡ Some (Step.Push ticket) → IsOk (outcome mid (Step.Push ticket)) → new ≡ next mid (Step.Push ticket) → page ≤ ticket.page → contains new.source.remaining page ≡ false
pushed_to mid new ticket page named made is l =
    ap (λ w. contains w.source.remaining page) is ∙ ap (λ pages. contains pages page) (remaining_pushed mid ticket made) ∙ removed_least mid.source.remaining ticket.page page (least_named mid ticket named) l

-- what does not remain still does not, where the source or its remaining pages stay
same_source : (mid new : World) (page : ℕ) → new.source ≡ mid.source → contains mid.source.remaining page ≡ false → contains new.source.remaining page ≡ false
same_source mid new page is none = ap (λ node. contains node.remaining page) is ∙ none

remaining_ended : (world : World) → IsOk (outcome world Step.End) → (next world Step.End).source.remaining ≡ world.source.remaining
remaining_ended world made =
    leaves-ok (λ new. new.source.remaining ≡ world.source.remaining) world Step.End (holds-made _ world Step.End (λ stopped unsent up none. refl)) made

by_step : (mid new : World) (step : Step) (from page : ℕ) → HasPushed mid from → finishing_step mid ≡ Some step → IsOk (outcome mid step) → new ≡ next mid step → IsPast step from page → contains new.source.remaining page ≡ false
by_step mid new (Step.Push ticket) from page pushed named made is l = pushed_to mid new ticket page named made is l
by_step mid new Step.End from page pushed named made is l =
    ap (λ w. contains w.source.remaining page) is ∙ ap (λ pages. contains pages page) (remaining_ended mid made) ∙ pushed page l
by_step mid new (Step.Deliver n) from page pushed named made is l =
    same_source mid new page (ap (λ w. w.source) is ∙ (changes_parts mid (Step.Deliver n)).source) (pushed page l)
by_step mid new (Step.DeliverUrgent n) from page pushed named made is l =
    same_source mid new page (ap (λ w. w.source) is ∙ (changes_parts mid (Step.DeliverUrgent n)).source) (pushed page l)
by_step mid new Step.DestRead from page pushed named made is l =
    same_source mid new page (ap (λ w. w.source) is ∙ (changes_parts mid Step.DestRead).source) (pushed page l)
by_step mid new Step.Install from page pushed named made is l =
    same_source mid new page (ap (λ w. w.source) is ∙ (changes_parts mid Step.Install).source) (pushed page l)
by_step mid new step from page pushed named made is none = grind (arith, nat_tests)

-- after a step that was named and made, no page remains below the one from which the search continues
pub still_pushed : (mid new : World) (step : Step) (effect : Effect) (from to : ℕ) → HasPushed mid from → finishing_step mid ≡ Some step → IsOk (outcome mid step) → Happens mid step (Ok effect) new → ((page : ℕ) → page < to → IsPast step from page) → HasPushed new to
still_pushed mid new step effect from to pushed named made happens past page l = by_step mid new step from page pushed named made (made_next mid new step effect happens) (past page l)

-- no page before a bound is in the set, if none below a page is and none from there on
pub none_before : (pages : FinSet nat_cmp) (from bound : ℕ) → HasNoneBelow pages from → ((page : ℕ) → from ≤ page → page < bound → contains pages page ≡ false) → (page : ℕ) → page < bound → contains pages page ≡ false
none_before pages from bound below behind page l = grind (arith, nat_tests)
