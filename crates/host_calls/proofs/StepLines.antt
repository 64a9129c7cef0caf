-- The lines of calls that are printed, and the bound of a run of pages.
use Rattle.std.proofs.lemmas.Bool.Decides.{nat_tests}
use Rattle.std.proofs.Common.{◌≡◌, ℕ, ◌+◌, ◌*◌, ◌^◌, ◌<◌, false, List, [], ◌∷◌, ◌++◌, length, take, get_or, sym, ap, subst, ◌∙◌, append_assoc, append-nil, inl, inr, arith}
use Rattle.std.specs.Prelude.{Ok, Err}
use Rattle.std.proofs.lemmas.List.{take_more}
use Rattle.mig_base.specs.declared.effect.Effect.{Effect}
use Rattle.mig_base.specs.declared.refusal.Refusal.{Refusal}
use Rattle.mig_base.specs.declared.schedule.Side.{Side}
use Rattle.mig_base.specs.declared.schedule.Step.{Step}
use Rattle.mig_base.specs.declared.wake.Wake.{Wake}
use Rattle.mig_base.specs.declared.wake.Wake.TheVariants.{Nobody}
use Rattle.mig_model.specs.Ioctls.{is_bad_range, writeprotect_answer}
use Rattle.mig_model.specs.Migration.{World, outcome}
use Rattle.mig_model.specs.Promises.{IsReached}
use Rattle.mig_model.specs.Runs.{Happens}
use Rattle.mig_model.specs.Space.{Space}
use Rattle.mig_model.proofs.invariant.Bounded.{IsBounded, bounded-reached}
use Rattle.mig_model.proofs.memory.HandlerCalls.{run_protected}
use Rattle.grammar.specs.Printed.{outcome_line}
use Rattle.host_calls.specs.declared.call.Call.{Call}
use Rattle.host_calls.specs.Calls.{IsWithin, areas_at, calls_of, node_of}
use Rattle.host_calls.specs.Stepped.{step_lines}
use Rattle.host_calls.specs.Texts.{call_line, call_lines}
use Rattle.host_calls.proofs.MadeCalls.{sent_run}

-- Lines

lines_last : (node : Side) (calls : List Call) (call : Call) → call_lines node (calls ++ call ∷ []) ≡ call_lines node calls ++ call_line node call
lines_last node [] call = append-nil (call_line node call)
lines_last node (first ∷ calls) call =
    ap (λ (t : List ℕ). call_line node first ++ t) (lines_last node calls call) ∙ sym (append_assoc (call_line node first) (call_lines node calls) (call_line node call))

pub lines_more : (node : Side) (calls : List Call) (i : ℕ) (other : Call) (front text more : List ℕ) → i < length calls → text ≡ front ++ call_lines node (take i calls)
    → more ≡ text ++ call_line node (get_or calls i other) → more ≡ front ++ call_lines node (take (i + 1) calls)
lines_more node calls i other front text more below is last =
    let call = get_or calls i other in
    last
    ∙ ap (λ (t : List ℕ). t ++ call_line node call) is
    ∙ append_assoc front (call_lines node (take i calls)) (call_line node call)
    ∙ ap (λ (t : List ℕ). front ++ t) (sym (lines_last node (take i calls) call) ∙ ap (call_lines node) (sym (take_more calls i other below)))

-- the line of an effect, and the lines of its calls after it
pub printed_step : (step : Step) (effect : Effect) (world : World) (node : Side) (calls : List Call) (none line text : List ℕ) → none ≡ [] → line ≡ none ++ outcome_line (Ok effect) → node ≡ node_of step
    → calls ≡ calls_of (areas_at (node_of step) world) step effect → text ≡ line ++ call_lines node calls → text ≡ step_lines step (Ok effect) world
unfolding step_lines
printed_step step effect world node calls none line text clear printed at are behind =
    behind
    ∙ ap (λ (t : List ℕ). t ++ call_lines node calls) (printed ∙ ap (λ (t : List ℕ). t ++ outcome_line (Ok effect)) clear)
    ∙ (λ i. outcome_line (Ok effect) ++ call_lines (at i) (are i))

-- the line of a refusal, which has no calls
pub printed_refusal : (step : Step) (refusal : Refusal) (world : World) (none text : List ℕ) → none ≡ [] → text ≡ none ++ outcome_line (Err refusal) → text ≡ step_lines step (Err refusal) world
unfolding step_lines
printed_refusal step refusal world none text clear printed =
    printed ∙ ap (λ (t : List ℕ). t ++ outcome_line (Err refusal)) clear ∙ sym (append-nil (outcome_line (Err refusal)))

-- Bounds

good_range : (space : Space) (addr len bits : ℕ) (wake : Wake) → writeprotect_answer space addr len bits ≡ Ok wake → is_bad_range addr len ≡ false
good_range space addr len bits wake is = grind (arith, nat_tests)

range_below : (addr len : ℕ) → is_bad_range addr len ≡ false → addr + len < 2 ^ 64
range_below addr len good = grind (arith, nat_tests)

run_within : (cpus : ℕ) (world : World) (count : ℕ) (effect : Effect) → IsBounded cpus world → outcome world (Step.SendRun count) ≡ Ok effect → IsWithin (Step.SendRun count) effect
run_within cpus world count effect all is =
    let sent = sent_run cpus world count effect all is in
    let made = run_protected cpus world count sent.0 sent.1 all (is ∙ ap (λ e. Ok e) sent.2) in
    subst (IsWithin (Step.SendRun count)) (sym sent.2) (range_below sent.0 (4096 * sent.1) (good_range world.source.guest.space sent.0 (4096 * sent.1) 1 Nobody made.answer))

step_within : (cpus : ℕ) (world : World) (step : Step) (effect : Effect) → IsBounded cpus world → outcome world step ≡ Ok effect → IsWithin step effect
step_within cpus world (Step.SendRun count) effect all is = run_within cpus world count effect all is
step_within cpus world step effect all is = tt

no_effect : {A : Type 0} (effect : Effect) (refusal : Refusal) → Ok effect ≡ Err refusal → A
no_effect effect refusal h = absurd (cc)

pub happens_within : (old : World) (step : Step) (effect : Effect) (new : World) → IsReached old → Happens old step (Ok effect) new → IsWithin step effect
happens_within old step effect new reached happens = elim happens [
  | inl made ↦ step_within reached.cpus old step effect (bounded-reached old reached) (sym made.0)
  | inr lacking ↦ no_effect effect Refusal.NoMemory lacking.0
]
