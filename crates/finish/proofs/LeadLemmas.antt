-- Steps that lead from one world to another, one more at the end.
use Rattle.std.proofs.Common.{◌≡◌, true, false, ◌+◌, ◌<◌, ◌≤◌, Option, None, Some, Ok, Err, List, [], ◌∷◌, ◌++◌, append_assoc, append-nil, length, length-append, refl, sym, ap, ◌∙◌, subst, arith, ⊎_elim}
use Rattle.std.specs.Prelude.{IsOk}
use Rattle.std.specs.Option.{IfSome}
use Rattle.std.proofs.lemmas.Bool.{false≢true}
use Rattle.mig_base.specs.declared.effect.Effect.{Effect}
use Rattle.mig_base.specs.declared.refusal.Refusal.{Refusal}
use Rattle.mig_base.specs.declared.schedule.Step.{Step}
use Rattle.mig_model.specs.Migration.{World, after_steps, next, outcome}
use Rattle.mig_model.specs.Promises.{AreAccepted}
use Rattle.mig_model.specs.Runs.{Happens, may_lack}
use Rattle.mig_model.proofs.steps.ReachedLemmas.{after_steps-append}
use Rattle.finish.specs.Finishing.{AreDue, IsDue, Leads, finishing_step, lacks_epoch, steps_left}
use Rattle.finish.proofs.OwnSteps.{entries_next}

accepted_more : (old : World) (steps : List Step) (step : Step) → AreAccepted old steps → IsOk (outcome (after_steps old steps) step) → AreAccepted old (steps ++ step ∷ [])
accepted_more old [] step accepted made = (made, tt)
accepted_more old (first ∷ steps) step accepted made = (accepted.0, accepted_more (next old first) steps step accepted.1 made)

leads_more : (old mid new : World) (steps : List Step) (step : Step) → Leads old steps mid → IsOk (outcome mid step) → new ≡ next mid step → Leads old (steps ++ step ∷ []) new
leads_more old mid new steps step leads made is =
    record {
      accepted = accepted_more old steps step leads.accepted (subst (λ w. IsOk (outcome w step)) leads.is made);
      is = is ∙ ap (λ w. next w step) leads.is ∙ sym (after_steps-append old steps (step ∷ []));
    }

-- no step yet
pub leads_none : (world : World) → Leads world [] world
leads_none world = record { accepted = tt; is = refl }

ok_is : (effect : Effect) (refusal : Refusal) → Ok effect ≡ Err refusal → ⊥
ok_is effect refusal h = cc

-- a step that was made
pub made_next : (mid new : World) (step : Step) (effect : Effect) → Happens mid step (Ok effect) new → new ≡ next mid step
made_next mid new step effect happens = ⊎_elim (λ (h : (Ok effect ≡ outcome mid step) × (new ≡ next mid step)). h.1) (λ (h : (Ok effect ≡ Err Refusal.NoMemory) × (may_lack step (outcome mid step) ≡ true) × (new ≡ mid)). absurd (ok_is effect Refusal.NoMemory h.0)) happens

refused_not : (mid : World) (step : Step) (refusal : Refusal) → Err refusal ≡ outcome mid step → IsOk (outcome mid step) → ⊥
refused_not mid step refusal is made = false≢true (subst IsOk (sym is) made)

-- a step that was not, though it is due
pub lacked_same : (mid new : World) (step : Step) (refusal : Refusal) → IsOk (outcome mid step) → Happens mid step (Err refusal) new → new ≡ mid
lacked_same mid new step refusal made happens = ⊎_elim (λ (h : (Err refusal ≡ outcome mid step) × (new ≡ next mid step)). absurd (refused_not mid step refusal h.0 made)) (λ (h : (Err refusal ≡ Err Refusal.NoMemory) × (may_lack step (outcome mid step) ≡ true) × (new ≡ mid)). h.2) happens

-- how far a run has come
pub record HasCome (old : World) (steps : List Step) (world : World) : Type 0 where
  pub leads : Leads old steps world
  -- what is due from here on comes after the steps made so far
  pub due : (more : List Step) → AreDue world more → AreDue old (steps ++ more)
  pub entries : world.transcript ≡ old.transcript
  pub few : length steps + steps_left world ≤ steps_left old
  pub goes : lacks_epoch world ≡ false

pub come_none : (world : World) → lacks_epoch world ≡ false → HasCome world [] world
come_none world goes = record { leads = leads_none world; due = λ more due. due; entries = refl; few = omega arith; goes = goes }

due_more : (old mid new : World) (steps grown : List Step) (step : Step) → HasCome old steps mid → finishing_step mid ≡ Some step → new ≡ next mid step → grown ≡ steps ++ step ∷ [] → (more : List Step) → AreDue new more → AreDue old (grown ++ more)
due_more old mid new steps grown step come named there is more due =
    subst (AreDue old) (sym (ap (λ (made : List Step). made ++ more) is ∙ append_assoc steps (step ∷ []) more)) (
    come.due (step ∷ more) (named, subst (λ w. AreDue w more) there due)
    )

pub come_more : (old mid new : World) (steps grown : List Step) (step : Step) (effect : Effect) → HasCome old steps mid → finishing_step mid ≡ Some step → IsDue mid step → Happens mid step (Ok effect) new → grown ≡ steps ++ step ∷ [] → HasCome old grown new
come_more old mid new steps grown step effect come named due happens is =
    let there = made_next mid new step effect happens in
    let left = subst (λ w. steps_left w < steps_left mid) (sym there) due.fewer in
    let longer = ap length is ∙ length-append steps (step ∷ []) in
    let few = come.few in
    record {
      leads = subst (λ steps. Leads old steps new) (sym is) (leads_more old mid new steps step come.leads due.made there);
      due = due_more old mid new steps grown step come named there is;
      entries = ap (λ w. w.transcript) there ∙ entries_next mid step named ∙ come.entries;
      few = omega (arith, left, longer, few);
      goes = subst (λ w. lacks_epoch w ≡ false) (sym there) (due.goes come.goes);
    }

-- after the last step none is due
pub all_due : (old world : World) (steps : List Step) → HasCome old steps world → finishing_step world ≡ None → AreDue old steps
all_due old world steps come none = subst (AreDue old) (append-nil steps) (come.due [] none)

pub fewer : (mid new : World) (step : Step) (effect : Effect) → IsDue mid step → Happens mid step (Ok effect) new → steps_left new < steps_left mid
fewer mid new step effect due happens = subst (λ w. steps_left w < steps_left mid) (sym (made_next mid new step effect happens)) due.fewer

pub due_some : (world : World) (named : Option Step) (step : Step) → named ≡ Some step → IfSome named (IsDue world) → IsDue world step
due_some world named step is due = subst (λ named. IfSome named (IsDue world)) is due
