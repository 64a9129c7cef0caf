-- The lines that are printed for the outcome of a step and for a report of progress.
use Rattle.std.specs.Prelude.{ℕ, List, [], ◌∷◌, ◌++◌, codes, Result, Ok, Err}
use Rattle.std.specs.Fmt.{decimal}
use Rattle.mig_base.specs.Texts.{effect_text, refusal_name}
use Rattle.mig_base.specs.declared.effect.Effect.{Effect}
use Rattle.mig_base.specs.declared.refusal.Refusal.{Refusal}
use Rattle.mig_base.specs.declared.phase.WorldPhase.{WorldPhase}
use Rattle.mig_base.specs.declared.phase.WorldPhase.TheVariants as phase
use Rattle.grammar.specs.declared.progress.Progress.{Progress}

-- the outcome of a step: its effect, or why it is refused
abbrev pub Outcome : Type 0
Outcome = Result Effect Refusal

-- the line of an outcome, without its line feed
abbrev pub outcome_text : Outcome → List ℕ
outcome_text (Ok done) = effect_text done
outcome_text (Err reason) = codes "refused " ++ refusal_name reason

-- the line of an outcome
unfoldable pub outcome_line : Outcome → List ℕ
outcome_line outcome = outcome_text outcome ++ 10 ∷ []

-- the name of a phase
abbrev pub phase_text : WorldPhase → List ℕ
phase_text phase.Idle = codes "idle"
phase_text phase.Precopy = codes "precopy"
phase_text phase.Switching = codes "switching"
phase_text phase.Postcopy = codes "postcopy"
phase_text phase.Complete = codes "complete"

-- the source's part of a report: the rounds made, the pages sent, and the pages left
unfoldable pub sent_text : ℕ → ℕ → ℕ → List ℕ
sent_text rounds sent left = codes "rounds " ++ decimal rounds ++ codes " sent " ++ decimal sent ++ codes " left " ++ decimal left

-- the other part of a report: the copies installed, the copies dropped, and the page faults read
unfoldable pub handled_text : ℕ → ℕ → ℕ → List ℕ
handled_text installed dropped faults = codes "installed " ++ decimal installed ++ codes " dropped " ++ decimal dropped ++ codes " faults " ++ decimal faults

-- a report of progress, without its line feed
abbrev pub progress_text : Progress → List ℕ
progress_text progress =
    codes "progress phase " ++ phase_text progress.phase ++ codes " " ++ sent_text progress.rounds progress.sent progress.left
    ++ codes " " ++ handled_text progress.installed progress.dropped progress.faults

-- the line of a report of progress
unfoldable pub progress_line : Progress → List ℕ
progress_line progress = progress_text progress ++ 10 ∷ []
