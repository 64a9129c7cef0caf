-- What is written of a world as one JSON object.
use Rattle.std.specs.Prelude.{◌≡◌, List, ℕ, [], ◌∷◌, ◌++◌, codes}
use Rattle.std.specs.Fmt.{decimal}
use Rattle.engine.specs.Worlds.{progress_in}
use Rattle.mig_base.specs.declared.phase.WorldPhase.{WorldPhase}
use Rattle.grammar.specs.declared.progress.Progress.{Progress}
use Rattle.grammar.specs.Printed.{phase_text}
use Rattle.mig_model.specs.Migration.{World}

-- the beginning of an object, and of its first member: the phase
unfoldable pub phase_member : WorldPhase → List ℕ
phase_member phase = codes "{\"progress\":{\"phase\":\"" ++ phase_text phase ++ codes "\""

-- the rounds made, the pages sent, and the pages left
unfoldable pub sent_members : ℕ → ℕ → ℕ → List ℕ
sent_members rounds sent left = codes ",\"rounds\":" ++ decimal rounds ++ codes ",\"sent\":" ++ decimal sent ++ codes ",\"left\":" ++ decimal left

-- the copies installed
unfoldable pub installed_member : ℕ → List ℕ
installed_member installed = codes ",\"installed\":" ++ decimal installed

-- the copies dropped
unfoldable pub dropped_member : ℕ → List ℕ
dropped_member dropped = codes ",\"dropped\":" ++ decimal dropped

-- the page faults read
unfoldable pub faults_member : ℕ → List ℕ
faults_member faults = codes ",\"faults\":" ++ decimal faults ++ codes "}"

-- how far the migration is, as the first member of an object
unfoldable pub progress_member : Progress → List ℕ
progress_member progress =
    phase_member progress.phase ++ sent_members progress.rounds progress.sent progress.left
    ++ installed_member progress.installed ++ dropped_member progress.dropped ++ faults_member progress.faults

-- the text is a line with an object of this world: the progress that `progress` would write, and members of any text
abbrev pub IsObject : World → List ℕ → Type 0
IsObject world text = (members : List ℕ) × (text ≡ progress_member (progress_in world) ++ members ++ codes "}" ++ 10 ∷ [])
