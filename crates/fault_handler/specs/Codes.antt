-- Codes of destinations, by which a proof distinguishes the values of models that contain them.
use Rattle.std.specs.Prelude.{ℕ, Bool, List, refl}
use Rattle.std.specs.Ordering.{nat_cmp}
use Rattle.std.specs.FinMap as finmap
use Rattle.std.specs.FinMap.{FinMap}
use Rattle.std.specs.Coded.{Coded, code_by, coded×, coded_ℕ, coded_bool, coded_list}
use Rattle.mig_base.specs.declared.phase.DestPhase.{DestPhase}
use Rattle.mig_base.specs.contracts.phase.DestPhase as phase
use Rattle.mig_model.specs.Destination.{Destination}
use Rattle.mig_model.specs.Guest.{Fault, Guest}
use Rattle.mig_model.specs.Owed.{Owed}
use Rattle.mig_model.specs.Wire.{Copy}
use Rattle.guest.specs.Codes.{coded_guest}
use Rattle.uffd_ioctl.specs.PageFaults.{coded_fault}

-- the code of a copy
abbrev pub coded_copy : Coded Copy
coded_copy = code_by (ℕ × List ℕ) (coded× coded_ℕ (coded_list coded_ℕ)) (λ copy. (copy.page, copy.bytes)) (λ p. record { page = p.0; bytes = p.1 }) (λ _. refl)

-- how far a destination is: its phase, whether it has run and has ended, and its epoch
abbrev pub Progress : Type 0
Progress = DestPhase × (Bool × (Bool × ℕ))

-- the code of these
abbrev pub coded_progress : Coded Progress
coded_progress = coded× phase.the_row.coded (coded× coded_bool (coded× coded_bool coded_ℕ))

-- the copies that it keeps, the owed table, its requests, and the arrivals
abbrev pub Pages : Type 0
Pages = FinMap nat_cmp (List ℕ) × (Owed × (List ℕ × List Copy))

-- the code of these
abbrev pub coded_pages : Coded Pages
coded_pages = coded× (finmap.code coded_ℕ (coded_list coded_ℕ)) (coded× (finmap.code coded_ℕ coded_ℕ) (coded× (coded_list coded_ℕ) (coded_list coded_copy)))

-- its counts: urgent frames taken, copies installed, copies dropped, and page faults read
abbrev pub Counts : Type 0
Counts = ℕ × (ℕ × (ℕ × ℕ))

-- the code of these
abbrev pub coded_counts : Coded Counts
coded_counts = coded× coded_ℕ (coded× coded_ℕ (coded× coded_ℕ coded_ℕ))

-- the code of a destination
abbrev pub coded_destination : Coded Destination
coded_destination =
    code_by (Progress × (Guest × (List Fault × (Pages × Counts)))) (coded× coded_progress (coded× coded_guest (coded× (coded_list coded_fault) (coded× coded_pages coded_counts))))
    (λ node. ((node.phase, (node.has_run, (node.ended, node.epoch))), (node.guest, (node.held, ((node.kept, (node.owed, (node.requests, node.arrivals))), (node.urgent_taken, (node.installed, (node.dropped, node.faults))))))))
    (λ p. record {
      phase = p.0.0;
      has_run = p.0.1.0;
      ended = p.0.1.1.0;
      epoch = p.0.1.1.1;
      guest = p.1.0;
      held = p.1.1.0;
      kept = p.1.1.1.0.0;
      owed = p.1.1.1.0.1.0;
      requests = p.1.1.1.0.1.1.0;
      arrivals = p.1.1.1.0.1.1.1;
      urgent_taken = p.1.1.1.1.0;
      installed = p.1.1.1.1.1.0;
      dropped = p.1.1.1.1.1.1.0;
      faults = p.1.1.1.1.1.1.1;
    })
    (λ _. refl)
