-- The code of held faults: proofs about models that contain them compare them by it.
use Rattle.std.specs.Prelude.{ℕ, Bool, refl}
use Rattle.std.specs.Coded.{Coded, code_by, coded×, coded_ℕ, coded_bool}
use Rattle.mig_model.specs.Guest.{Fault}

-- the code of a held fault
abbrev pub coded_fault : Coded Fault
coded_fault = code_by (ℕ × Bool) (coded× coded_ℕ coded_bool) (λ fault. (fault.page, fault.wp)) (λ p. record { page = p.0; wp = p.1 }) (λ _. refl)
