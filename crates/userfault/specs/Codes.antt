-- Codes of unread messages and of objects: proofs about models that contain them compare them by these.
use Rattle.std.specs.Prelude.{ℕ, Bool, List, refl}
use Rattle.std.specs.Ordering.{nat_cmp}
use Rattle.std.specs.FinSet as set
use Rattle.std.specs.Coded.{Coded, code_by, coded×, coded_ℕ, coded_bool, coded_list}
use Rattle.mig_base.specs.declared.message.Message.{Message}
use Rattle.mig_base.specs.contracts.message.Message as message
use Rattle.mig_base.specs.Userfault.{Noted, Object}

-- the code of an unread message
abbrev pub coded_noted : Coded Noted
coded_noted =
    code_by (Message × ℕ) (coded× message.the_row.coded coded_ℕ) (λ n. (n.message, n.cpu)) (λ p. record { message = p.0; cpu = p.1 }) (λ _. refl)

-- the code of an object
abbrev pub coded_object : Coded Object
coded_object =
    code_by (Bool × (ℕ × (set.FinSet nat_cmp × (set.FinSet nat_cmp × (List Noted × List Noted)))))
    (coded× coded_bool (coded× coded_ℕ (coded× (set.code coded_ℕ) (coded× (set.code coded_ℕ) (coded× (coded_list coded_noted) (coded_list coded_noted))))))
    (λ o. (o.enabled, (o.features, (o.missing, (o.protect, (o.faults, o.events))))))
    (λ p. record { enabled = p.0; features = p.1.0; missing = p.1.1.0; protect = p.1.1.1.0; faults = p.1.1.1.1.0; events = p.1.1.1.1.1 })
    (λ _. refl)
