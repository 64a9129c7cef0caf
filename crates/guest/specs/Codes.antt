-- The code of guests: proofs about models that contain them compare them by it.
use Rattle.std.specs.Prelude.{List, refl}
use Rattle.std.specs.Coded.{Coded, code_by, coded×, coded_list}
use Rattle.mig_base.specs.declared.cpu_state.CpuState.{CpuState}
use Rattle.mig_base.specs.contracts.cpu_state.CpuState as cpu_state
use Rattle.mig_model.specs.Guest.{Guest}
use Rattle.mig_model.specs.Space.{Space}
use Rattle.uffd_ioctl.specs.Spaces.{coded_space}

-- the code of a guest
abbrev pub coded_guest : Coded Guest
coded_guest =
    code_by (Space × List CpuState) (coded× coded_space (coded_list cpu_state.the_row.coded)) (λ guest. (guest.space, guest.cpus)) (λ p. record { space = p.0; cpus = p.1 }) (λ _. refl)
