-- Runs that may be short of memory: a step that needs memory and gets none returns NoMemory, and changes nothing.
use Rattle.std.specs.Prelude.{◌≡◌, ◌⊎◌, ◌&&◌, not, Bool, true, false, if◌then◌else◌, Result, Ok, Err, List, [], ◌∷◌}
use Rattle.mig_base.specs.declared.effect.Effect.{Effect}
use Rattle.mig_base.specs.declared.refusal.Refusal.{Refusal}
use Rattle.mig_base.specs.declared.schedule.Step.{Step}
use Rattle.mig_model.specs.Migration.{World, next, outcome}

-- the effect of a step, or why it is refused
abbrev pub Outcome : Type 0
Outcome = Result Effect Refusal

-- the steps that may need memory: all but Break, Notice and Serve
abbrev pub needs_memory : Step → Bool
needs_memory Step.Break = false
needs_memory (Step.Notice side) = false
needs_memory Step.Serve = false
needs_memory step = true

-- the refusals that come after NoMemory: a Deliver needs memory to read the frame, and sees only then that the frame must wait
abbrev pub comes_later : Step → Refusal → Bool
comes_later (Step.Deliver n) Refusal.InstallFirst = true
comes_later (Step.Deliver n) Refusal.UrgentFirst = true
comes_later step refusal = false

-- whether a step is a delivery: one that completes no frame moves bytes alone, and needs no memory
abbrev pub is_delivery : Step → Bool
is_delivery (Step.Deliver n) = true
is_delivery (Step.DeliverBack n) = true
is_delivery (Step.DeliverUrgent n) = true
is_delivery step = false

-- whether an effect is that of a delivery that completes no frame
abbrev pub is_move : Effect → Bool
is_move (Effect.Moved n) = true
is_move effect = false

-- whether a step may return NoMemory where it would give this answer with enough memory
abbrev pub may_lack : Step → Outcome → Bool
may_lack step (Ok effect) = needs_memory step && not (is_delivery step && is_move effect)
may_lack step (Err refusal) = comes_later step refusal

-- a step has this result and leads to this world: those of the machine, or NoMemory and the old world where the step may lack memory
abbrev pub Happens : World → Step → Outcome → World → Type 0
Happens old step result new =
    ((result ≡ outcome old step) × (new ≡ next old step))
    ⊎ ((result ≡ Err Refusal.NoMemory) × (may_lack step (outcome old step) ≡ true) × (new ≡ old))

-- the same for steps in turn, with the result of each
abbrev pub IsRun : World → List Step → List Outcome → World → Type 0
IsRun old [] [] new = new ≡ old
IsRun old (step ∷ steps) (result ∷ results) new = (mid : World) × Happens old step result mid × IsRun mid steps results new
IsRun old [] (result ∷ results) new = ⊥
IsRun old (step ∷ steps) [] new = ⊥

-- whether an answer is NoMemory
abbrev pub is_lacking : Outcome → Bool
is_lacking (Err Refusal.NoMemory) = true
is_lacking result = false

-- the steps of a run that did not return NoMemory
abbrev pub steps_made : List Step → List Outcome → List Step
steps_made [] results = []
steps_made (step ∷ steps) [] = []
steps_made (step ∷ steps) (result ∷ results) = if is_lacking result then steps_made steps results else step ∷ steps_made steps results

-- the results of a run other than NoMemory
abbrev pub results_of : List Outcome → List Outcome
results_of [] = []
results_of (result ∷ results) = if is_lacking result then results_of results else result ∷ results_of results

-- what steps made in turn answer if memory is never short
abbrev pub outcomes : World → List Step → List Outcome
outcomes world [] = []
outcomes world (step ∷ steps) = outcome world step ∷ outcomes (next world step) steps
