-- What a command that is tried enters.
use Rattle.std.proofs.lemmas.Bool.Decides.{nat_tests}
use Rattle.std.proofs.Common.{◌≡◌, ◌⊎◌, ⊎_elim, inl, inr, ℕ, Some, List, ◌++◌, refl, sym, ap, ◌∙◌, arith, append-nil, subst}
use Rattle.std.specs.Prelude.{Ok, Err}
use Rattle.std.proofs.lemmas.Option.{same_Some}
use Rattle.std.proofs.lemmas.Bool.{cases_eq}
use Rattle.mig_base.specs.Commands.{is_access}
use Rattle.mig_base.specs.declared.command.Command.{Command}
use Rattle.mig_base.specs.declared.command.Entry.{Entry}
use Rattle.mig_base.specs.declared.cpu_state.CpuState.{CpuState}
use Rattle.mig_base.specs.declared.effect.Effect.{Effect}
use Rattle.mig_base.specs.declared.schedule.Step.{Step}
use Rattle.mig_model.specs.Cpus.{Took, entries_of, outstanding, processor_at}
use Rattle.mig_model.specs.Cpus.Took.{Answer, Sleep, Call}
use Rattle.mig_model.specs.Guest.{took_by}
use Rattle.mig_model.specs.Migration.{World, guest_of, next, outcome}
use Rattle.mig_model.specs.Effects.{try_effect}
use Rattle.mig_model.specs.Views.{cpu_state}
use Rattle.mig_model.specs.Runs.{Happens, Outcome}
use Rattle.mig_base.specs.declared.refusal.Refusal.{Refusal}
use Rattle.mig_model.proofs.steps.StepLemmas.{next-refused}
use Rattle.mig_model.proofs.steps.StepCases.{made-effect}
use Rattle.mig_model.specs.Promises.{IsReached}
use Rattle.rig.specs.declared.section.Attempt.{Attempt}
use Rattle.rig.specs.Sections.{IsEntered, IsServed, IsSomeOutcome, IsReplyTo, IsToldOf, IsTried, entries_by}

entered_by : (entries : List Entry) (cpu : ℕ) (command : Command) (took : Took) → IsEntered (try_effect cpu took) entries (entries ++ entries_of cpu command took) cpu command
entered_by entries cpu command (Answer reply) = refl
entered_by entries cpu command Sleep = append-nil entries
entered_by entries cpu command (Call reply left) = (reply, refl)

issue_made : (old : World) (cpu : ℕ) (command : Command) (effect : Effect) → outcome old (Step.Issue cpu command) ≡ Ok effect → IsEntered effect old.transcript (next old (Step.Issue cpu command)).transcript cpu command
issue_made old cpu command effect is =
    made-effect (λ told new. IsEntered told old.transcript new.transcript cpu command) old (Step.Issue cpu command) effect
    (λ there idle may. entered_by old.transcript cpu command (took_by (is_access command) (guest_of old).space command)) is

retry_made : (old : World) (cpu : ℕ) (command : Command) (effect : Effect) → outstanding (processor_at (guest_of old).cpus cpu) ≡ Some command → outcome old (Step.Retry cpu) ≡ Ok effect →
    IsEntered effect old.transcript (next old (Step.Retry cpu)).transcript cpu command
retry_made old cpu command effect waits is =
    made-effect (λ told new. IsEntered told old.transcript new.transcript cpu command) old (Step.Retry cpu) effect
    (λ other also woken may.
    subst (λ c. IsEntered (try_effect cpu (took_by (is_access other) (guest_of old).space other)) old.transcript (old.transcript ++ entries_of cpu other (took_by (is_access other) (guest_of old).space other)) cpu c)
    (same_Some other command (sym also ∙ waits)) (entered_by old.transcript cpu other (took_by (is_access other) (guest_of old).space other))) is

happens_made : (old new : World) (step : Step) (effect : Effect) → Happens old step (Ok effect) new → (outcome old step ≡ Ok effect) × (new ≡ next old step)
happens_made old new step effect happens = grind (arith, nat_tests)

pub issue_enters : (old new : World) (cpu : ℕ) (command : Command) (effect : Effect) (result : Outcome) → result ≡ Ok effect → Happens old (Step.Issue cpu command) result new → IsEntered effect old.transcript new.transcript cpu command
issue_enters old new cpu command effect result is happens =
    let made = happens_made old new (Step.Issue cpu command) effect (subst (λ r. Happens old (Step.Issue cpu command) r new) is happens) in
    subst (λ w. IsEntered effect old.transcript w.transcript cpu command) (sym made.1) (issue_made old cpu command effect made.0)

-- the state of a processor that is there
state_is : (world : World) (cpu : ℕ) (state : CpuState) → cpu_state world cpu ≡ Ok state → processor_at (guest_of world).cpus cpu ≡ state
state_is world cpu state is = grind (arith, nat_tests)

pub retry_enters : (old new : World) (cpu : ℕ) (command : Command) (effect : Effect) (result : Outcome) → cpu_state old cpu ≡ Ok (CpuState.Woken command) → result ≡ Ok effect → Happens old (Step.Retry cpu) result new →
    IsEntered effect old.transcript new.transcript cpu command
retry_enters old new cpu command effect result woken is happens =
    let made = happens_made old new (Step.Retry cpu) effect (subst (λ r. Happens old (Step.Retry cpu) r new) is happens) in
    subst (λ w. IsEntered effect old.transcript w.transcript cpu command) (sym made.1) (retry_made old cpu command effect (ap outstanding (state_is old cpu (CpuState.Woken command) woken)) made.0)

-- a step that is refused changes nothing
pub refused_stays : (old new : World) (step : Step) (refusal : Refusal) (result : Outcome) → result ≡ Err refusal → Happens old step result new → new ≡ old
refused_stays old new step refusal result is happens = grind (arith, nat_tests, next-refused)

-- a processor that was woken has one command
pub same_woken : (world : World) (cpu : ℕ) (one other : Command) → cpu_state world cpu ≡ Ok (CpuState.Woken one) → cpu_state world cpu ≡ Ok (CpuState.Woken other) → one ≡ other
same_woken world cpu one other is also =
    same_Some one other (ap outstanding (sym (state_is world cpu (CpuState.Woken one) is) ∙ state_is world cpu (CpuState.Woken other) also))

-- what became of a command whose step was made
pub told_of : (old new : World) (step : Step) (cpu : ℕ) (command : Command) (tried : Attempt) → IsReached old → IsTried old step (Ok tried) new → new.transcript ≡ old.transcript ++ entries_by cpu command tried → IsToldOf cpu command tried
unfolding IsReplyTo
told_of old new step cpu command (Attempt.Replied reply) reached try entered = (old, new, step, try.0, reached, try.1, entered)
told_of old new step cpu command Attempt.Asleep reached try entered = tt

-- a Serve that is made in one epoch alone
pub served : (epoch : ℕ) (new : World) (result : Outcome) → IsServed epoch result new → (result ≡ Err Refusal.StaleEpoch) ⊎ IsSomeOutcome Step.Serve result
served epoch new result is =
    ⊎_elim
    (λ (same : epoch ≡ is.0.source.epoch). inr (new, (is.0, is.1, is.3 same)))
    (λ (other : epoch ≡ is.0.source.epoch → ⊥). inl (is.2 other).0)
    (cases_eq epoch is.0.source.epoch)
