-- Each entry is of a processor that the guest has.
use Rattle.std.proofs.lemmas.Bool.Decides.{nat_tests}
use Rattle.std.proofs.lemmas.List.Elements.{All-push}
use Rattle.std.proofs.lemmas.Option.{none-some}
use Rattle.std.proofs.lemmas.List.{length-replicate}
use Rattle.std.proofs.Common.{◌≡◌, ℕ, zero, suc, ◌<◌, Bool, true, false, not, Some, List, [], ◌∷◌, ◌++◌, refl, sym, ◌∙◌, subst, arith, length, append-nil, nat_lt}
use Rattle.std.specs.List.{All}
use Rattle.mig_base.specs.Commands.{is_access}
use Rattle.mig_base.specs.declared.command.Command.{Command}
use Rattle.mig_base.specs.declared.command.Entry.{Entry}
use Rattle.mig_base.specs.declared.cpu_state.CpuState.{CpuState}
use Rattle.mig_base.specs.declared.schedule.Step.{Step}
use Rattle.mig_model.specs.Cpus.{Took, entries_of, outstanding, processor_at}
use Rattle.mig_model.specs.Cpus.Took.{Answer, Sleep, Call}
use Rattle.mig_model.specs.Guest.{Guest, took_by}
use Rattle.mig_model.specs.Migration.{World, after_steps, first_world_with, guest_by, guest_of, next}
use Rattle.mig_base.specs.declared.schedule.Side.{Side}
use Rattle.mig_model.specs.Promises.{IsReached}
use Rattle.mig_model.proofs.invariant.Bounded.{bounded-reached}
use Rattle.mig_model.proofs.invariant.CpuCount.{as_many_next}
use Rattle.mig_model.proofs.steps.EveryStep.{kept-reached}
use Rattle.mig_model.proofs.steps.ReachedLemmas.{reached-next}
use Rattle.mig_model.proofs.steps.StepCases.{MakesWorld, made-next}
use Rattle.mig_model.proofs.transcript.WaitingAccesses.{as_many}

abbrev AreBelow : ℕ → List Entry → Type 0
AreBelow n entries = All (λ e. e.cpu < n) entries

entered : (n cpu : ℕ) (command : Command) (took : Took) (entries : List Entry) → cpu < n → AreBelow n entries → AreBelow n (entries ++ entries_of cpu command took)
entered n cpu command (Answer reply) entries below all = All-push (λ e. e.cpu < n) entries (record { cpu = cpu; command = command; reply = reply }) all below
entered n cpu command Sleep entries below all = subst (AreBelow n) (sym (append-nil entries)) all
entered n cpu command (Call reply left) entries below all = All-push (λ e. e.cpu < n) entries (record { cpu = cpu; command = command; reply = reply }) all below

not_below_zero : (k : ℕ) → k < 0 → ⊥
not_below_zero k below = omega arith

pub is_there : (cpu count n : ℕ) → not (nat_lt cpu count) ≡ false → count ≡ n → cpu < n
is_there cpu count n there many = grind (arith, nat_tests)

-- a processor that waits is there
pub waits_there : (processors : List CpuState) (k : ℕ) (command : Command) → outstanding (processor_at processors k) ≡ Some command → k < length processors
waits_there [] k command waits = absurd (none-some command waits)
waits_there (p ∷ ps) zero command waits = omega arith
waits_there (p ∷ ps) (suc k) command waits = let rest : k < length ps = waits_there ps k command waits in omega arith

pub guest_many : (ran : Bool) (from to : Guest) (n : ℕ) → length from.cpus ≡ n → length to.cpus ≡ n → length (guest_by ran from to).cpus ≡ n
guest_many true from to n here there = there
guest_many false from to n here there = here

-- the guest has as many processors as the source
pub guest_count : (world : World) → IsReached world → length (guest_of world).cpus ≡ length world.source.guest.cpus
guest_count world reached = guest_many world.destination.has_run world.source.guest world.destination.guest (length world.source.guest.cpus) refl (as_many world reached)

made_within : (world : World) (step : Step) (n : ℕ) → length (guest_of world).cpus ≡ n → AreBelow n world.transcript → MakesWorld (λ new. AreBelow n new.transcript) world step
made_within world (Step.Issue cpu command) n many all = λ there idle may. entered n cpu command (took_by (is_access command) (guest_of world).space command) world.transcript (is_there cpu _ n there many) all
made_within world (Step.Retry cpu) n many all =
    λ command waits woken may.
    entered n cpu command (took_by (is_access command) (guest_of world).space command) world.transcript (subst (λ m. cpu < m) many (waits_there (guest_of world).cpus cpu command waits)) all
made_within world (Step.Notice Side.Source) n many all = λ started unreleased down. all
made_within world (Step.Notice Side.Destination) n many all = λ started unreleased down. all
made_within world _ n many all = assumption

within_from : (world : World) (steps : List Step) (n : ℕ) → IsReached world → length world.source.guest.cpus ≡ n → AreBelow n world.transcript → AreBelow n (after_steps world steps).transcript
within_from world [] n reached many all = all
within_from world (step ∷ steps) n reached many all =
    let guest = guest_many world.destination.has_run world.source.guest world.destination.guest n many (as_many world reached ∙ many) in
    within_from (next world step) steps n (reached-next world step reached) (as_many_next world step (kept-reached world reached) ∙ many)
    (made-next (λ new. AreBelow n new.transcript) world step all (made_within world step n guest all))

first_reached : (cpus epoch rounds : ℕ) → IsReached (first_world_with cpus epoch rounds)
first_reached cpus epoch rounds = record { cpus = cpus; epoch = epoch; rounds = rounds; steps = []; is = refl }

pub entries_within : (world : World) → IsReached world → All (λ e. e.cpu < length world.source.guest.cpus) world.transcript
entries_within world reached =
    let first = first_world_with reached.cpus reached.epoch reached.rounds in
    let many = (bounded-reached world reached).ready.many in
    let below : AreBelow reached.cpus (after_steps first reached.steps).transcript =
    within_from first reached.steps reached.cpus (first_reached reached.cpus reached.epoch reached.rounds) (length-replicate reached.cpus CpuState.Idle) (λ k d inside. absurd (not_below_zero k inside)) in
    subst (λ n. AreBelow n world.transcript) (sym many) (subst (λ w. AreBelow reached.cpus w.transcript) (sym reached.is) below)
