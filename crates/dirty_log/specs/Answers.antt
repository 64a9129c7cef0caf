-- When the calls of a log are refused, and what they answer.
use Rattle.std.specs.Prelude.{◌≡◌, ℕ, ◌⊎◌, nat_lt, not, Option, Some, None, Result, Ok, Err, ◌∷◌, []}
use Rattle.mig_base.specs.declared.effect.Effect.{Effect}
use Rattle.mig_base.specs.declared.refusal.Refusal.{Refusal}
use Rattle.foundation.specs.Tests.{first_holding, is_empty, is_every}
use Rattle.mig_base.specs.Userfault.{Noted, changing}
use Rattle.mig_model.specs.Space.{Space}
use Rattle.mig_model.specs.Guest.{Guest}
use Rattle.mig_model.specs.Log.{Log}
use Rattle.mig_model.specs.Effects.{read_effect}
use Rattle.dirty_log.specs.Spaces.{is_sendable}

-- why the pages of a range may not be sent: the first reason that applies
abbrev pub send_refusal : Space → ℕ → ℕ → Option Refusal
send_refusal space first count =
    first_holding ((nat_lt 0 (changing space.object), Refusal.Changing) ∷ (not (is_every (is_sendable space) first count), Refusal.PageNotSendable) ∷ [])

-- why no fault may be resolved: the first reason that applies
abbrev pub act_refusal : Log → Space → Option Refusal
act_refusal log space = first_holding ((is_empty log.held, Refusal.NothingThere) ∷ (nat_lt 0 (changing space.object), Refusal.Changing) ∷ [])

-- the answer to reading the next message
abbrev pub read_answer : Guest → Option Noted → Result Effect Refusal
read_answer guest None = Err Refusal.NothingThere
read_answer guest (Some noted) = Ok (read_effect guest.cpus noted.cpu noted.message)

-- a call is refused for this reason, or, if there is no reason, because memory ran out
abbrev pub IsRefusedAs : Option Refusal → Refusal → Type 0
IsRefusedAs reason refusal = (reason ≡ Some refusal) ⊎ ((reason ≡ None) × (refusal ≡ Refusal.NoMemory))
