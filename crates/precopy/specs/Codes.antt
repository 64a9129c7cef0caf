-- Codes of sources: proofs about models that contain a source compare sources by them.
use Rattle.std.specs.Prelude.{ℕ, Bool, List, refl}
use Rattle.std.specs.Ordering.{nat_cmp}
use Rattle.std.specs.FinSet as set
use Rattle.std.specs.Coded.{Coded, code_by, coded×, coded_ℕ, coded_bool, coded_list}
use Rattle.mig_base.specs.declared.phase.SourcePhase.{SourcePhase}
use Rattle.mig_base.specs.contracts.phase.SourcePhase as phase
use Rattle.mig_model.specs.Guest.{Guest}
use Rattle.mig_model.specs.Log.{Log}
use Rattle.mig_model.specs.Source.{Source}
use Rattle.guest.specs.Codes.{coded_guest}
use Rattle.dirty_log.specs.Codes.{coded_log}

-- the progress of a source: its phase, whether it has switched, its epoch, and the epoch of its last End
abbrev pub Progress : Type 0
Progress = SourcePhase × (Bool × (ℕ × ℕ))

-- the code of a source's progress
abbrev pub coded_progress : Coded Progress
coded_progress = coded× phase.the_row.coded (coded× coded_bool (coded× coded_ℕ coded_ℕ))

-- what a source still has to send: the remaining pages, and the requested pages in their order
abbrev pub Left : Type 0
Left = set.FinSet nat_cmp × List ℕ

-- the code of what a source still has to send
abbrev pub coded_left : Coded Left
coded_left = coded× (set.code coded_ℕ) (coded_list coded_ℕ)

-- the counts of a source: urgent frames, pages of the last Package, rounds, pages sent, and faults read
abbrev pub Counts : Type 0
Counts = ℕ × (ℕ × (ℕ × (ℕ × ℕ)))

-- the code of a source's counts
abbrev pub coded_counts : Coded Counts
coded_counts = coded× coded_ℕ (coded× coded_ℕ (coded× coded_ℕ (coded× coded_ℕ coded_ℕ)))

-- the code of a source
abbrev pub coded_source : Coded Source
coded_source =
    code_by (Progress × (Guest × (Log × (Left × Counts)))) (coded× coded_progress (coded× coded_guest (coded× coded_log (coded× coded_left coded_counts))))
    (λ node. ((node.phase, (node.switched, (node.epoch, node.end_epoch))), (node.guest, (node.log, ((node.remaining, node.asked), (node.urgent_sent, (node.packaged, (node.rounds, (node.pages_sent, node.faults)))))))))
    (λ p. record {
      phase = p.0.0;
      switched = p.0.1.0;
      epoch = p.0.1.1.0;
      end_epoch = p.0.1.1.1;
      guest = p.1.0;
      log = p.1.1.0;
      remaining = p.1.1.1.0.0;
      asked = p.1.1.1.0.1;
      urgent_sent = p.1.1.1.1.0;
      packaged = p.1.1.1.1.1.0;
      rounds = p.1.1.1.1.1.1.0;
      pages_sent = p.1.1.1.1.1.1.1.0;
      faults = p.1.1.1.1.1.1.1.1;
    })
    (λ _. refl)
