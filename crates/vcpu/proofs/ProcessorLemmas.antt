-- What a wake-up and a hand-over leave of the processors.
use Rattle.std.proofs.Common.{◌≡◌, ℕ, ◌+◌, ◌<◌, ◌≤◌, Bool, true, false, cond, Option, List, [], ◌∷◌, ◌++◌, length, map, set, take, drop, get_or, ◌∙◌, ap, subst, sym, arith, append_assoc}
use Rattle.std.proofs.lemmas.List.{length-map, length-take, drop_more, map_more, set_at}
use Rattle.std.proofs.lemmas.List.Elements.{All-map, All-weaker}
use Rattle.mig_base.specs.declared.TheConstants.{MAX_CPUS}
use Rattle.mig_base.specs.declared.command.Command.{Command}
use Rattle.mig_base.specs.declared.cpu_state.CpuState.{CpuState}
use Rattle.mig_base.specs.Commands.{page_of}
use Rattle.mig_model.specs.Cpus.{taken_over, woken_if, all_woken}
use Rattle.vcpu.specs.Processors.{HasMessage, AreProcessors}

-- a call is left alone
HasMessage-woken_if : (test : ℕ → Bool) (processor : CpuState) → HasMessage processor → HasMessage (woken_if test processor)
HasMessage-woken_if test CpuState.Idle has = tt
HasMessage-woken_if test (CpuState.Asleep command) has =
    elim (test (page_of command)) as (λ b. HasMessage (cond b (CpuState.Woken command) (CpuState.Asleep command))) [ true ↦ tt | false ↦ tt ]
HasMessage-woken_if test (CpuState.Woken command) has = tt
HasMessage-woken_if test (CpuState.InCall reply left) has = has

pub AreProcessors-all_woken : (test : ℕ → Bool) (processors : List CpuState) → AreProcessors processors → AreProcessors (all_woken test processors)
AreProcessors-all_woken test processors are =
    let same = sym (length-map processors (woken_if test)) in
    record {
      some = subst (λ n. 0 < n) same are.some;
      few = subst (λ n. n ≤ MAX_CPUS) same are.few;
      calls = All-map HasMessage (woken_if test) processors (All-weaker HasMessage (λ p. HasMessage (woken_if test p)) (HasMessage-woken_if test) processors are.calls);
    }

-- one more processor has taken over from the other host's
pub taken_over_more : (commands : List (Option Command)) (old new : List CpuState) (k : ℕ) (command : Option Command) → k < length commands → length commands ≡ length old →
    new ≡ map taken_over (take k commands) ++ drop k old →
    set new k (taken_over (get_or commands k command)) ≡ map taken_over (take (k + 1) commands) ++ drop (k + 1) old
taken_over_more commands old new k command here many is =
    let front = map taken_over (take k commands) in
    let one = taken_over (get_or commands k command) in
    let long : length front ≡ k = length-map (take k commands) taken_over ∙ omega (arith, length-take k commands) in
    ap (λ l. set l k one) (is ∙ ap (λ l. front ++ l) (drop_more old k CpuState.Idle (omega arith)))
    ∙ set_at front _ _ one k long
    ∙ sym (append_assoc front (one ∷ []) _)
    ∙ ap (λ l. l ++ drop (k + 1) old) (sym (map_more taken_over commands k command here))
