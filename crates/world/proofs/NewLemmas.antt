-- New worlds.
use Rattle.std.proofs.Common.{◌≡◌, ◌↔◌, ℕ, Bool, true, false, Ok, Err, [], refl, sym, subst, arith}
use Rattle.std.proofs.lemmas.Bool.Decides.{nat_tests}
use Rattle.std.proofs.lemmas.List.{length-replicate}
use Rattle.mig_base.specs.declared.cpu_state.CpuState.{CpuState}
use Rattle.mig_model.specs.Bounds.{IsCpuCount}
use Rattle.mig_model.specs.Migration.{first_world_with}
use Rattle.vcpu.specs.Answers.{is_count}
use Rattle.vcpu.specs.declared.fault.NewFault.{NewFault}
use Rattle.world.specs.Worlds.{IsWorld}

counted : (cpus : ℕ) → is_count cpus ≡ true → IsCpuCount cpus
counted cpus h = grind (arith, nat_tests)

pub first_is : (cpus epoch rounds : ℕ) → is_count cpus ≡ true → IsWorld (first_world_with cpus epoch rounds)
first_is cpus epoch rounds h =
    record {
      reached = record { cpus = cpus; epoch = epoch; rounds = rounds; steps = []; is = refl };
      count = subst IsCpuCount (sym (length-replicate cpus CpuState.Idle)) (counted cpus h);
    }

made_by : {A : Type 0} (b : Bool) (made : A) → ((Ok made ≡ Err NewFault.NoCpu) ↔ (b ≡ false)) → b ≡ true
made_by true made h = refl
made_by false made h = grind arith

-- a node of this number of processors was made
pub count_made : {A : Type 0} {made : A} (cpus : ℕ) → ((Ok made ≡ Err NewFault.NoCpu) ↔ (is_count cpus ≡ false)) → is_count cpus ≡ true
count_made {A} {made} cpus h = made_by (is_count cpus) made h
