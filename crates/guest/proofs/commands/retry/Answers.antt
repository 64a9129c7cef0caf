use Rattle.std.proofs.Common.{◌≡◌, ◌∙◌, refl, set, ap}
use Rattle.std.proofs.lemmas.List.{set-set}
use Rattle.mig_base.specs.declared.cpu_state.CpuState.{CpuState}
use Rattle.mig_model.specs.Cpus.{processor_after}
use Rattle.guest.specs.Guests.{guest_with, took_in}
use Rattle.guest.specs.Outcomes.{took_of}
use Rattle.guest.proofs.CommandLemmas.{again}
use Rattle.guest.proofs.commands.retry.Goals as goal

pub returns-clause-made : goal.returns-clause-made
returns-clause-made c =
    let own = c.in_ok-command.command in
    let cpus : c.begin.new.cpus ≡ set c.args.cpus.now c.args.cpu (processor_after own (took_in c.args.space.now own)) =
    c.begin.ensures.cpus ∙ ap (λ l. set l c.args.cpu (processor_after own (took_of c.in-Ok.took))) c.go_idle.ensures
    ∙ set-set c.args.cpus.now c.args.cpu CpuState.Idle _ ∙ ap (λ t. set c.args.cpus.now c.args.cpu (processor_after own t)) c.in-Ok.ensures.took in
    again (guest_with c.args.space.now c.args.cpus.now) c.args.runs c.args.cpu own c.in_ok-command.ensures c.if-not-runs.false
    ∙ rw (c.begin.ensures.effect, c.begin.ensures.entry, c.in-Ok.ensures.took, c.in-Ok.ensures.space, cpus) refl
