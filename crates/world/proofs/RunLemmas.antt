-- Runs of the world that continue by one step.
use Rattle.std.proofs.Common.{◌≡◌, ℕ, List, [], ◌∷◌, ◌++◌, refl, sym, subst, ◌+◌, ◌<◌, length, take, get_or}
use Rattle.std.proofs.lemmas.List.{take_more}
use Rattle.mig_base.specs.declared.schedule.Step.{Step}
use Rattle.mig_model.specs.Migration.{World}
use Rattle.mig_model.specs.Runs.{Happens, IsRun, Outcome}

IsRun-push : (old mid new : World) (steps : List Step) (results : List Outcome) (step : Step) (result : Outcome) → IsRun old steps results mid → Happens mid step result new → IsRun old (steps ++ step ∷ []) (results ++ result ∷ []) new
IsRun-push old mid new [] [] step result run happens = (new, subst (λ s. Happens s step result new) run happens, refl)
IsRun-push old mid new (s ∷ steps) (r ∷ results) step result run happens = (run.0, run.1, IsRun-push run.0 mid new steps results step result run.2 happens)
IsRun-push old mid new [] (r ∷ results) step result run happens = absurd run
IsRun-push old mid new (s ∷ steps) [] step result run happens = absurd run

-- the next step of a loop
pub IsRun-more : (old mid new : World) (steps : List Step) (i : ℕ) (step : Step) (results grown : List Outcome) (result : Outcome) → i < length steps → IsRun old (take i steps) results mid → Happens mid (get_or steps i step) result new → grown ≡ results ++ result ∷ [] → IsRun old (take (i + 1) steps) grown new
IsRun-more old mid new steps i step results grown result below run happens pushed =
    subst (λ ss. IsRun old ss grown new) (sym (take_more steps i step below))
    (subst (λ rs. IsRun old (take i steps ++ get_or steps i step ∷ []) rs new) (sym pushed)
    (IsRun-push old mid new (take i steps) results (get_or steps i step) result run happens))
