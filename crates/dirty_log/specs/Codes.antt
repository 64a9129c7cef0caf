-- The code of logs: proofs about models that contain a log compare logs by it.
use Rattle.std.specs.Prelude.{List, refl}
use Rattle.std.specs.Ordering.{nat_cmp}
use Rattle.std.specs.FinSet as set
use Rattle.std.specs.Coded.{Coded, code_by, coded×, coded_ℕ, coded_list}
use Rattle.mig_model.specs.Guest.{Fault}
use Rattle.mig_model.specs.Log.{Log}
use Rattle.uffd_ioctl.specs.PageFaults.{coded_fault}

-- the code of a log
abbrev pub coded_log : Coded Log
coded_log =
    code_by (set.FinSet nat_cmp × (set.FinSet nat_cmp × (set.FinSet nat_cmp × List Fault)))
    (coded× (set.code coded_ℕ) (coded× (set.code coded_ℕ) (coded× (set.code coded_ℕ) (coded_list coded_fault))))
    (λ log. (log.clean, (log.todo, (log.sent, log.held))))
    (λ p. record { clean = p.0; todo = p.1.0; sent = p.1.1.0; held = p.1.1.1 })
    (λ _. refl)
