use Rattle.std.proofs.Common.{ℕ, ◌^◌, ◌&&◌, cond, ltb, ap, sym, subst}
use Rattle.mig_base.specs.Flat.{is_aligned}
use Rattle.mig_model.specs.Migration.{after_steps, first_world_with}
use Rattle.mig_laws.specs.Runs.{DecideAlike}
use Rattle.mig_laws.proofs.ChangedRuns.{alike_run, decide-alike, digits_none, reached-by, zeros_map}
use Rattle.mig_laws.proofs.worlds.the_run_of_zeros.Goals as goal

pub returns-clause-map : goal.returns-clause-map
returns-clause-map c = zeros_map

pub returns-clause-store : goal.returns-clause-store
returns-clause-store c addr width value = ap (λ n. cond (is_aligned addr width && ltb value (256 ^ width)) n value) (digits_none 8 value)

pub returns-clause-run : goal.returns-clause-run
returns-clause-run c cpus epoch rounds steps none =
    let first = first_world_with cpus epoch rounds in
    let zeros : ℕ → ℕ = λ n. 0 in
    subst (DecideAlike (after_steps first steps)) (sym (reached-by zeros zeros_map cpus epoch rounds steps (alike_run zeros first steps none))) (decide-alike zeros (after_steps first steps))
