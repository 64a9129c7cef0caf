-- A run that may be short of memory is a run of those of its steps that were not.
use Rattle.std.proofs.lemmas.Bool.Decides.{nat_tests}
use Rattle.std.proofs.Common.{◌≡◌, ◌≢◌, Bool, true, false, List, [], ◌∷◌, refl, sym, ap, ◌∙◌, subst, inl, if◌then◌else◌, arith}
use Rattle.std.specs.Prelude.{Err}
use Rattle.std.proofs.lemmas.Bool.{false≢true}
use Rattle.mig_base.specs.declared.refusal.Refusal.{Refusal}
use Rattle.mig_base.specs.declared.schedule.Side.{Side}
use Rattle.mig_base.specs.declared.schedule.Step.{Step}
use Rattle.mig_model.specs.Migration.{World, after_steps, answer, next, outcome, outcome_by}
use Rattle.mig_model.specs.NodeSteps.{unless}
use Rattle.mig_model.specs.Promises.{IsReached}
use Rattle.mig_model.specs.Runs.{Happens, IsRun, Outcome, is_lacking, needs_memory, outcomes, results_of, steps_made}
use Rattle.mig_model.proofs.memory.Facts.{by_test}
use Rattle.mig_model.proofs.steps.ReachedLemmas.{reached-after_steps}
use Rattle.mig_model.proofs.steps.StepLemmas.{next-refused}

-- Answers

-- a step that returns NoMemory has changed nothing
lacking_stays : (old : World) (step : Step) (result : Outcome) (new : World) → is_lacking result ≡ true → Happens old step result new → new ≡ old
lacking_stays old step result new lacks happens = grind (arith, nat_tests, next-refused)

-- any other does as the machine does
other_made : (old : World) (step : Step) (result : Outcome) (new : World) → is_lacking result ≡ false → Happens old step result new → (result ≡ outcome old step) × (new ≡ next old step)
other_made old step result new other happens = grind (arith, nat_tests)

-- Runs

pub run_world : (world : World) (steps : List Step) (results : List Outcome) (new : World) → IsRun world steps results new → new ≡ after_steps world (steps_made steps results)
run_world world [] [] new run = run
run_world world [] (result ∷ results) new run = absurd run
run_world world (step ∷ steps) [] new run = absurd run
run_world world (step ∷ steps) (result ∷ results) new run =
    let mid = run.0 in
    let rest = run_world mid steps results new run.2 in
    by_test (is_lacking result)
    (λ lacks. rest ∙ ap (λ w. after_steps w (steps_made steps results)) (lacking_stays world step result mid lacks run.1) ∙ sym (ap (λ b. after_steps world (if b then steps_made steps results else step ∷ steps_made steps results)) lacks))
    (λ other.
    rest ∙ ap (λ w. after_steps w (steps_made steps results)) (other_made world step result mid other run.1).1
    ∙ sym (ap (λ b. after_steps world (if b then steps_made steps results else step ∷ steps_made steps results)) other))

-- the answers of a step and of those after it
abbrev both_by : Bool → World → Step → Outcome → List Step → List Outcome → Type 0
both_by lacks world step result steps results = (if lacks then results else result ∷ results) ≡ outcomes world (if lacks then steps else step ∷ steps)

pub run_results : (world : World) (steps : List Step) (results : List Outcome) (new : World) → IsRun world steps results new → results_of results ≡ outcomes world (steps_made steps results)
run_results world [] [] new run = refl
run_results world [] (result ∷ results) new run = absurd run
run_results world (step ∷ steps) [] new run = absurd run
run_results world (step ∷ steps) (result ∷ results) new run =
    let mid = run.0 in
    let rest = run_results mid steps results new run.2 in
    let made = steps_made steps results in
    by_test (is_lacking result)
    (λ lacks. subst (λ b. both_by b world step result made (results_of results)) (sym lacks) (rest ∙ ap (λ w. outcomes w made) (lacking_stays world step result mid lacks run.1)))
    (λ other.
    let told = other_made world step result mid other run.1 in
    subst (λ b. both_by b world step result made (results_of results)) (sym other) (ap (λ r. r ∷ results_of results) told.0 ∙ ap (λ rs. outcome world step ∷ rs) (rest ∙ ap (λ w. outcomes w made) told.1)))

pub run_reached : (world : World) (steps : List Step) (results : List Outcome) (new : World) → IsReached world → IsRun world steps results new → IsReached new
run_reached world steps results new reached run = subst IsReached (sym (run_world world steps results new run)) (reached-after_steps world (steps_made steps results) reached)

-- where memory is never short
pub run_enough : (world : World) (steps : List Step) → IsRun world steps (outcomes world steps) (after_steps world steps)
run_enough world [] = refl
run_enough world (step ∷ steps) = (next world step, inl (refl, refl), run_enough (next world step) steps)

-- Steps that need no memory

pub needs_none : (world : World) (step : Step) (result : Outcome) (new : World) → needs_memory step ≡ false → Happens world step result new → (result ≡ outcome world step) × (new ≡ next world step)
needs_none world step result new none happens = grind (arith, nat_tests)

-- The machine itself is never short

other_answer : (world : World) (step : Step) → is_lacking (outcome_by (answer world step)) ≡ false
unfolding unless
other_answer world (Step.Notice Side.Source) = grind (arith, nat_tests)
other_answer world (Step.Notice Side.Destination) = grind (arith, nat_tests)
other_answer world _ = grind (arith, nat_tests)

pub never_lacking : (world : World) (step : Step) → outcome world step ≢ Err Refusal.NoMemory
unfolding outcome
never_lacking world step h = false≢true (sym (other_answer world step) ∙ ap is_lacking h)
