-- The steps of the source's handler.
use Rattle.std.proofs.Common.{◌≡◌, ℕ, ◌*◌, ◌/◌, true, false, ltb, Option, Some, None, List, [], ◌∷◌, refl, sym, ap, ◌∙◌, inl, inr, ◌⊎◌, arith}
use Rattle.std.specs.Prelude.{Ok, Err, Result, IfErr, IfOk, OnOk}
use Rattle.std.specs.Option.{IsSome}
use Rattle.mig_model.specs.Cpus.{Cpus}
use Rattle.foundation.specs.Tests.{first_holding, is_empty}
use Rattle.mig_base.specs.declared.effect.Effect.{Effect}
use Rattle.mig_base.specs.declared.refusal.Refusal.{Refusal}
use Rattle.mig_base.specs.Userfault.{Noted, changing}
use Rattle.mig_base.specs.declared.act.Act.{Act}
use Rattle.mig_model.specs.Guest.{Fault, Guest, fault_count, is_changing}
use Rattle.mig_model.specs.Log.{Log}
use Rattle.mig_model.specs.Space.{Space}
use Rattle.mig_base.specs.Acts.{act_effect}
use Rattle.mig_model.specs.Effects.{read_effect}
use Rattle.mig_model.specs.GuestSteps.{when_quiet}
use Rattle.mig_model.specs.NodeSteps.{acted, and_then, first_of, unless}
use Rattle.mig_model.specs.SourceSteps.{act}
use Rattle.mig_model.proofs.steps.StepLemmas.{goes_on, in-phase, is-quiet}
use Rattle.mig_model.specs.Source.{Source, is_handling, source_act, source_acted, source_acted_by, space_of}
use Rattle.dirty_log.specs.Answers.{act_refusal, read_answer}
use Rattle.dirty_log.specs.Spaces.{source_of}
use Rattle.precopy.proofs.StepLemmas.{stops}

-- the message that was read
pub record IsRead (guest : Guest) (next : Option Noted) (effect : Effect) : Type 0 where
  pub noted : Noted
  pub is : next ≡ Some noted
  pub effect_is : effect ≡ read_effect guest.cpus noted.cpu noted.message

pub some_noted : (guest : Guest) (next : Option Noted) (effect : Effect) → (Ok effect ≡ read_answer guest next) ⊎ ((Ok effect ≡ Err Refusal.NoMemory) × IsSome next) → IsRead guest next effect
some_noted guest None effect (inl is) = absurd (let other : Ok effect ≡ Err Refusal.NothingThere = is in cc)
some_noted guest None effect (inr is) = absurd (let other : Ok effect ≡ Err Refusal.NoMemory = is.0 in cc)
some_noted guest (Some noted) effect (inl is) = record { noted = noted; is = refl; effect_is = let same : Ok effect ≡ Ok (read_effect guest.cpus noted.cpu noted.message) = is in cc }
some_noted guest (Some noted) effect (inr is) = absurd (let other : Ok effect ≡ Err Refusal.NoMemory = is.0 in cc)

-- SourceAct

act_made : (node : Source) (fault : Fault) (rest : List Fault) → is_handling node ≡ true → node.log.held ≡ fault ∷ rest → ltb 0 (changing (space_of node).object) ≡ false →
    act node ≡ acted (act_effect (source_act node fault) (4096 * fault.page)) (source_acted node fault)
act_made node fault rest runs held quiet =
    in-phase (is_handling node) _ runs ∙ goes_on (when_quiet node.guest (first_of node.log.held)) fault _ (is-quiet node.guest (first_of node.log.held) fault (ap first_of held) quiet)

-- the fault that was resolved
pub record IsHeld (log : Log) (space : Space) : Type 0 where
  pub fault : Fault
  pub rest : List Fault
  pub is : log.held ≡ fault ∷ rest
  pub quiet : changing space.object ≡ 0

pub some_held : (log : Log) (space : Space) (held : List Fault) → log.held ≡ held → act_refusal log space ≡ None → IsHeld log space
some_held log space [] is h = absurd (let other : first_holding ((is_empty log.held, Refusal.NothingThere) ∷ []) ≡ None = grind arith in grind arith)
some_held log space (fault ∷ rest) is h = record { fault = fault; rest = rest; is = is; quiet = grind arith }

-- resolving a fault changes the log and the guest of a source independently of its other parts
acted_parts : (act : Act) (node : Source) (page : ℕ) → source_acted_by act node page ≡
    record node { guest = (source_acted_by act (source_of node.log (space_of node) node.guest.cpus) page).guest; log = (source_acted_by act (source_of node.log (space_of node) node.guest.cpus) page).log }
acted_parts Act.Unprotected node page = refl
acted_parts Act.Zeroed node page = refl
acted_parts Act.Woke node page = refl
acted_parts Act.Forgot node page = refl
acted_parts (Act.Requested origin) node page = refl

pub acted_is : (node : Source) (space : Space) (cpus : Cpus) (log : Log) (fault : Fault) → source_of log space cpus ≡ source_acted (source_of node.log (space_of node) node.guest.cpus) fault →
    record node { guest = record { space = space; cpus = cpus }; log = log } ≡ source_acted node fault
acted_is node space cpus log fault same = ap (λ other. record node { guest = other.guest; log = other.log }) same ∙ sym (acted_parts (source_act node fault) node fault.page)

pub act_done : (node new : Source) (effect : Effect) (fault : Fault) (rest : List Fault) → is_handling node ≡ true → node.log.held ≡ fault ∷ rest → changing (space_of node).object ≡ 0 →
    effect ≡ act_effect (source_act node fault) (4096 * fault.page) → new ≡ source_acted node fault → act node ≡ acted effect new
act_done node new effect fault rest runs held quiet made is = act_made node fault rest runs held (ap (ltb 0) quiet) ∙ rw (made, is) refl

-- What SourceAct would do next

act_stopped : (guest : Guest) (held : List Fault) (refusal : Refusal) → first_holding ((is_empty held, Refusal.NothingThere) ∷ (ltb 0 (changing guest.space.object), Refusal.Changing) ∷ []) ≡ Some refusal →
    when_quiet guest (first_of held) ≡ Err refusal
unfolding unless
act_stopped guest [] refusal h = grind arith
act_stopped guest (fault ∷ rest) refusal h = grind arith

same_page : (page : ℕ) → 4096 * page / 4096 ≡ page
same_page page = omega arith

pub next_told : (node : Source) (found : Result (Act × ℕ) Refusal) → is_handling node ≡ true → OnOk found (act_refusal node.log (space_of node) ≡ None) → IfErr found (λ refusal. act_refusal node.log (space_of node) ≡ Some refusal) →
    ((fault : Fault) (rest : List Fault) → node.log.held ≡ fault ∷ rest → IfOk found (λ next. (next.0 ≡ source_act node fault) × (next.1 ≡ 4096 * fault.page))) →
    act node ≡ and_then found (λ next. acted (act_effect next.0 next.1) (source_acted_by next.0 node (next.1 / 4096)))
next_told node (Ok next) runs accepted refused told =
    let held = some_held node.log (space_of node) node.log.held refl accepted in
    let is = told held.fault held.rest held.is in
    act_made node held.fault held.rest runs held.is (ap (ltb 0) held.quiet) ∙ rw (is.0, is.1, same_page held.fault.page) refl
next_told node (Err refusal) runs accepted refused told = in-phase (is_handling node) _ runs ∙ stops (when_quiet node.guest (first_of node.log.held)) _ refusal (act_stopped node.guest node.log.held refusal refused)
