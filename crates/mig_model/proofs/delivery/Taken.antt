-- Frames that are taken, in the form in which the proofs use it.
use Rattle.std.specs.Prelude.{length, ◌≢◌, ◌≡◌, ℕ, ◌<◌, ◌≤◌, true, false, []}
use Rattle.std.specs.FinMap as finmap
use Rattle.std.specs.FinMap.{contains_key}
use Rattle.std.specs.FinSet.{contains}
use Rattle.mig_base.specs.declared.phase.Received.{Received}
use Rattle.mig_model.specs.Wire.{Frame, Sent, is_copy}
use Rattle.mig_model.specs.Wire.Frame.{Advise, Package, End, Resume, Request, Recv, Done}
use Rattle.mig_model.specs.Guest.{is_present}
use Rattle.mig_model.specs.Log.{no_pages}
use Rattle.mig_model.specs.Source.{Source, is_source_paused, is_stopped, space_of}
use Rattle.mig_model.specs.Destination.{Destination, is_running}
use Rattle.mig_model.specs.Faults.{is_in_place}

-- the epoch that a frame must be of: Advise may be of any, Resume of a later one than the destination's, and any other of its own
abbrev pub IsOwnEpoch : Destination → ℕ → Frame → Type 0
IsOwnEpoch node epoch Advise = Unit {0}
IsOwnEpoch node epoch Resume = node.epoch < epoch
IsOwnEpoch node epoch frame = epoch ≡ node.epoch

-- what a frame carries is right. Of a Package: no page that it owes is kept, all of both are mapped, and it has as many processors
-- as the destination. End tells no fewer urgent frames than came, and does not come while a page is owed, no copy waits and all of them
-- came
abbrev pub IsGood : Destination → Frame → Type 0
IsGood node (Package areas owed commands) =
    ((page : ℕ) → contains owed page ≡ true → contains_key node.kept page ≡ false)
    × ((page : ℕ) → contains owed page ≡ true → contains_key areas page ≡ true)
    × ((page : ℕ) → contains_key node.kept page ≡ true → contains_key areas page ≡ true)
    × (length commands ≡ length node.guest.cpus)
IsGood node (End urgent) = (node.urgent_taken ≤ urgent) × (node.arrivals ≡ [] → urgent ≤ node.urgent_taken → node.owed ≡ finmap.empty)
IsGood node frame = Unit {0}

-- a destination takes a frame
pub record IsTaken (node : Destination) (sent : Sent) : Type 0 where
  pub in_place : is_in_place node.phase sent.frame ≡ true
  pub own_epoch : IsOwnEpoch node sent.epoch sent.frame
  pub good : IsGood node sent.frame

-- a destination that runs takes a frame of the urgent wire: a copy, of its epoch
pub record IsTakenUrgent (node : Destination) (sent : Sent) : Type 0 where
  pub runs : is_running node.phase ≡ true
  pub own_epoch : sent.epoch ≡ node.epoch
  pub copy : is_copy sent.frame ≡ true

-- the frames that a source takes: a request while it is stopped, Done then once it has sent End, and while it is paused a Recv whose
-- pages it has. Only a destination that runs lists pages, and one runs or has ended only after the switch
abbrev pub IsInPlaceBack : Source → Frame → Type 0
IsInPlaceBack node (Request page) = is_stopped node.phase ≡ true
IsInPlaceBack node Done = (is_stopped node.phase ≡ true) × (node.end_epoch ≡ node.epoch)
IsInPlaceBack node (Recv state owed) =
    (is_source_paused node.phase ≡ true) × ((page : ℕ) → contains owed page ≡ true → is_present (space_of node) page ≡ true)
    × (state ≢ Received.Running → owed ≡ no_pages)
    × (state ≢ Received.NotRun → node.switched ≡ true)
IsInPlaceBack node frame = ⊥
