-- What a step of a node gives: its effect, the frames that it sends and the node after it, or why it is refused; and the words for
-- lists of refusals and for contracts of calls.
use Rattle.std.specs.Prelude.{◌≡◌, ◌⊎◌, ℕ, ◌-◌, ◌^◌, ◌||◌, not, nat_lt, Bool, true, false, if◌then◌else◌, Option, Some, None, Result, Ok, Err, IsOk, List, [], ◌∷◌}
use Rattle.foundation.specs.Tests.{first_by}
use Rattle.mig_base.specs.declared.effect.Effect.{Effect}
use Rattle.mig_base.specs.declared.refusal.Refusal.{Refusal}
use Rattle.mig_model.specs.Wire.{Frame}

-- What a step gives

-- an accepted step that sends nothing: its effect, and the node after it
pub record Acted (Node : Type 0) : Type 0 where
  pub effect : Effect
  pub node : Node

-- an accepted step that may send: its effect, the frames in their order, and the node after it
pub record Sends (Node : Type 0) : Type 0 where
  pub effect : Effect
  pub frames : List Frame
  pub node : Node

-- the step is accepted, with this effect, and leads to this node
abbrev pub acted : {Node : Type 0} → Effect → Node → Result (Acted Node) Refusal
acted effect node = Ok (record { effect = effect; node = node })

-- the step is accepted, with this effect, sends these frames, and leads to this node
abbrev pub sent : {Node : Type 0} → Effect → List Frame → Node → Result (Sends Node) Refusal
sent effect frames node = Ok (record { effect = effect; frames = frames; node = node })

-- Refusals

-- the first refusal whose test holds, or the result if none does
unfoldable pub unless : {A : Type 0} → List (Bool × Refusal) → Result A Refusal → Result A Refusal
unless reasons result = first_by (λ refusal. Err refusal) reasons result

-- the result where the phase allows the step, else Phase
abbrev pub in_phase : {A : Type 0} → Bool → Result A Refusal → Result A Refusal
in_phase allowed result = if allowed then result else Err Refusal.Phase

-- a step that continues from what another result finds, or is refused as that is
abbrev pub and_then : {A B : Type 0} → Result A Refusal → (A → Result B Refusal) → Result B Refusal
and_then (Ok found) step = step found
and_then (Err refusal) step = Err refusal

-- the first of a list, if it has any
abbrev pub first_of : {A : Type 0} → List A → Option A
first_of [] = None
first_of (first ∷ rest) = Some first

-- the list after its first
abbrev pub rest_of : {A : Type 0} → List A → List A
rest_of [] = []
rest_of (first ∷ rest) = rest

-- whether a 32-bit count is at its greatest value: the refusal CountUsed
abbrev pub is_used : ℕ → Bool
is_used count = not (nat_lt count (2 ^ 32 - 1))

-- whether a step is refused as Phase
abbrev pub is_out_of_phase : {A : Type 0} → Result A Refusal → Bool
is_out_of_phase (Err Refusal.Phase) = true
is_out_of_phase result = false

-- the result of a step that needs the link: Phase comes first, then Broken while the link is down, then all else
abbrev pub while_up : {A : Type 0} → (up : Bool) → Result A Refusal → Result A Refusal
while_up up result = if is_out_of_phase result || up then result else Err Refusal.Broken

-- the result of a step that needs a broken link: Phase comes first, then NotBroken while the link is up, then all else
abbrev pub while_down : {A : Type 0} → (up : Bool) → Result A Refusal → Result A Refusal
while_down up result = if is_out_of_phase result || not up then result else Err Refusal.NotBroken

-- Calls

-- what a check of a step answers: that it would be accepted, or why it is refused. Memory is not considered
abbrev pub checked : {A : Type 0} → Result A Refusal → Result (Unit {0}) Refusal
checked (Ok step) = Ok tt
checked (Err refusal) = Err refusal

-- a call may be refused for this reason: it is that of the step, or the step is accepted and memory ran out
abbrev pub IsRefusedFor : {A : Type 0} → Result A Refusal → Refusal → Type 0
IsRefusedFor step refusal = (step ≡ Err refusal) ⊎ ((refusal ≡ Refusal.NoMemory) × IsOk step)
