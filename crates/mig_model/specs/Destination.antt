-- The destination, in the phases of QEMU's postcopy document (docs/devel/migration/postcopy.rst, "Postcopy states" and "Postcopy
-- recovery"), and how each of its steps changes it.
use Rattle.std.specs.Prelude.{ℕ, ◌+◌, ◌||◌, not, Bool, true, false, if◌then◌else◌, Option, Some, None, List, [], ◌∷◌, ◌++◌, map}
use Rattle.std.specs.Ordering.{nat_cmp}
use Rattle.std.specs.FinMap as finmap
use Rattle.std.specs.FinMap.{FinMap, get, contains_key}
use Rattle.std.specs.FinSet.{FinSet}
use Rattle.mig_base.specs.declared.act.Act.{Act}
use Rattle.mig_base.specs.declared.act.Act.TheVariants.{Zeroed, Woke, Forgot, Requested}
use Rattle.mig_base.specs.declared.TheConstants.{HIGH_PAGE}
use Rattle.mig_base.specs.declared.Prot.{Prot}
use Rattle.mig_base.specs.declared.command.Command.{Command}
use Rattle.mig_base.specs.declared.phase.DestPhase.{DestPhase}
use Rattle.mig_base.specs.declared.phase.Received.{Received}
use Rattle.mig_base.specs.Bytes.{zero_page}
use Rattle.foundation.specs.Modes.{Mode}
use Rattle.mig_base.specs.Userfault.{Noted, fresh_object, enabled_with, registered_where}
use Rattle.mig_model.specs.Space.{Space, fresh_space}
use Rattle.mig_model.specs.Ioctls.{event_features, installed as pages_installed}
use Rattle.mig_model.specs.Cpus.{idle_processors, taken_over}
use Rattle.mig_model.specs.Guest.{Guest, Fault, counted, fault_count, read_guest, resolved, held_after, rest_held, zero_installed, is_forgotten, is_present}
use Rattle.mig_model.specs.Log.{no_pages}
use Rattle.mig_model.specs.Owed.{Owed, owed_table_after, settled_by, origins, own_places, is_requested, requesting, without_request}
use Rattle.mig_model.specs.Wire.{Frame, Copy, kept_after}
use Rattle.mig_model.specs.Wire.Frame.{Advise, Page, Zero, Run, Discard, Package, End, Resume, Request, Recv, Done}

-- the mode of each registered page of the destination: UFFDIO_REGISTER_MODE_MISSING alone
abbrev pub for_missing : Mode
for_missing = record { missing = true; protect = false }

-- the destination node: its phase and epoch, its guest, the copies that it has got, and the pages that it is still owed
pub record Destination : Type 0 where
  -- its phase: Idle, Advised, Discarding, Running, Paused or Ended
  pub phase : DestPhase
  -- whether it has run processors, and whether it has taken End
  pub has_run : Bool
  pub ended : Bool
  -- the epoch of the last Advise or Resume that it took
  pub epoch : ℕ
  -- the newest copy of each page, until it runs: they become present with the Package
  pub kept : FinMap nat_cmp (List ℕ)
  -- its address space and the processors, once it has run
  pub guest : Guest
  -- faults that were read and not resolved yet, in the order in which they were read
  pub held : List Fault
  -- each page that it still has to get, where it belongs now, with its page at the source
  pub owed : Owed
  -- the source pages that it has asked for, each once, in the order in which they were first asked for
  pub requests : List ℕ
  -- the copies that came and were not installed yet
  pub arrivals : List Copy
  -- how many frames of the urgent wire it has taken in its epoch; the End of that epoch announces them
  pub urgent_taken : ℕ
  -- copies installed, copies dropped, and fault messages read
  pub installed : ℕ
  pub dropped : ℕ
  pub faults : ℕ

-- a destination that knows of no migration, with `cpus` idle processors: nothing is mapped or owed, and its object is not enabled
abbrev pub first_destination : ℕ → Destination
first_destination cpus =
    record {
      phase = DestPhase.Idle;
      has_run = false;
      ended = false;
      epoch = 0;
      kept = finmap.empty;
      guest = record { space = fresh_space; cpus = idle_processors cpus };
      held = [];
      owed = finmap.empty;
      requests = [];
      arrivals = [];
      urgent_taken = 0;
      installed = 0;
      dropped = 0;
      faults = 0;
    }

-- whether the destination has noticed a break and has not taken a Resume since: QEMU's Paused. Its processors may run all the same
abbrev pub is_dest_paused : DestPhase → Bool
is_dest_paused DestPhase.Paused = true
is_dest_paused _ = false

-- whether the destination runs the processors, has not taken End and is not paused: QEMU's Running
abbrev pub is_running : DestPhase → Bool
is_running DestPhase.Running = true
is_running _ = false

-- the settled relation: the owed table once all unread events are applied to it, from each page to its origin at the source
abbrev pub settled : Destination → ℕ → Option ℕ
settled node = settled_by node.guest.space.object.events (get node.owed)

-- Frames at the destination

-- the space in which the destination begins to run: the areas are mapped, the kept pages are present, and each page is registered for
-- missing faults on an object that was enabled for the three events
abbrev pub assembled : FinMap nat_cmp Prot → FinMap nat_cmp (List ℕ) → Space
assembled areas kept =
    record {
      host = record { areas = areas; bytes = kept };
      protected = no_pages;
      object = registered_where (enabled_with fresh_object event_features) (λ page. contains_key areas page) for_missing;
    }

-- the destination takes the Package and runs: QEMU's Listen and Run are this one step. What was kept is present, and each owed page is
-- owed at its own place
abbrev pub destination_ran : Destination → FinMap nat_cmp Prot → FinSet nat_cmp → List (Option Command) → Destination
destination_ran node areas owed commands =
    record node {
      phase = DestPhase.Running;
      has_run = true;
      kept = finmap.empty;
      owed = own_places owed HIGH_PAGE;
      guest = record { space = assembled areas node.kept; cpus = map taken_over commands };
      held = [];
    }

-- how far the destination has come, which its Recv says: by whether it has run, and whether it has taken End
abbrev pub received_by : Bool → Bool → Received
received_by false ended = Received.NotRun
received_by true false = Received.Running
received_by true true = Received.Ended

-- the same of a destination, paused or not
abbrev pub received_of : Destination → Received
received_of node = received_by node.has_run node.ended

-- the destination leaves Paused: it is Running or Ended as before, or, if it has not run, Advised with nothing kept
abbrev pub resumed_by : Received → Destination → Destination
resumed_by Received.NotRun node = record node { phase = DestPhase.Advised; kept = finmap.empty }
resumed_by Received.Running node = record node { phase = DestPhase.Running }
resumed_by Received.Ended node = record node { phase = DestPhase.Ended }

-- the answer to Resume: a Recv with how far it has come. One that runs lists the source pages that it still needs, and then repeats its
-- requests
abbrev pub recv_by : Received → Destination → List Frame
recv_by Received.NotRun node = Recv Received.NotRun no_pages ∷ []
recv_by Received.Running node = Recv Received.Running (origins node.owed) ∷ map Request node.requests
recv_by Received.Ended node = Recv Received.Ended no_pages ∷ []

-- one more copy waits to be installed, after those that came before
abbrev pub arrived : Destination → Copy → Destination
arrived node copy = record node { arrivals = node.arrivals ++ copy ∷ [] }

-- a copy that comes is kept before the destination runs, and waits to be installed from then on
abbrev pub copy_came : Bool → Destination → Copy → Destination
copy_came true node copy = arrived node copy
copy_came false node copy = record node { kept = finmap.insert node.kept copy.page copy.bytes }

-- the destination once it has taken a frame that is in place (`is_in_place` of Faults.antt), which was sent in the epoch given
abbrev pub destination_took : Destination → ℕ → Frame → Destination
destination_took node epoch Advise = record node { phase = DestPhase.Advised; epoch = epoch; urgent_taken = 0 }
destination_took node epoch (Page page bytes) = copy_came node.has_run node (record { page = page; bytes = bytes })
destination_took node epoch (Zero page) = copy_came node.has_run node (record { page = page; bytes = zero_page })
destination_took node epoch (Run first pages) = record node { kept = kept_after node.kept (Run first pages) }
destination_took node epoch (Discard pages) = record node { phase = DestPhase.Discarding; kept = kept_after node.kept (Discard pages) }
destination_took node epoch (Package areas owed commands) = destination_ran node areas owed commands
destination_took node epoch (End urgent) = record node { phase = DestPhase.Ended; ended = true }
destination_took node epoch Resume = resumed_by (received_of node) (record node { epoch = epoch; urgent_taken = 0 })
destination_took node epoch _ = node

-- a copy that comes on the urgent wire waits to be installed, and is counted
abbrev pub urgent_came : Destination → Copy → Destination
urgent_came node copy = record (arrived node copy) { urgent_taken = node.urgent_taken + 1 }

-- the destination once it has taken a frame of the urgent wire
abbrev pub urgent_took : Destination → Frame → Destination
urgent_took node (Page page bytes) = urgent_came node (record { page = page; bytes = bytes })
urgent_took node (Zero page) = urgent_came node (record { page = page; bytes = zero_page })
urgent_took node _ = node

-- the frames that the destination sends back when it takes one: Done for End, and Recv with its requests for Resume
abbrev pub destination_answers : Destination → Frame → List Frame
destination_answers node (End urgent) = Done ∷ []
destination_answers node Resume = recv_by (received_of node) node
destination_answers node _ = []

-- a break of the channel is noticed. If the destination has run, its processors continue
abbrev pub destination_paused : Destination → Destination
destination_paused node = record node { phase = DestPhase.Paused }

-- Its handler

-- a message is read: a fault is held, and an event is applied to the owed table at once and wakes those who sleep on pages that are gone
abbrev pub destination_read : Destination → Noted → Destination
destination_read node noted =
    record node {
      guest = read_guest node.guest noted.cpu noted.message;
      held = held_after node.held noted.message;
      owed = owed_table_after noted.message node.owed;
      faults = counted node.faults (fault_count noted.message);
    }

-- how the destination's handler resolves a fault, by whether the page is now forgotten and present, and by its origin if it is owed
abbrev pub destination_act_by : Bool → Bool → Option ℕ → Act
destination_act_by true present owed = Forgot
destination_act_by false true owed = Woke
destination_act_by false false (Some origin) = Requested origin
destination_act_by false false None = Zeroed

-- the same for a fault that is held, with the destination's space and its owed table as they are now
abbrev pub destination_act : Destination → Fault → Act
destination_act node fault = destination_act_by (is_forgotten node.guest.space fault.page) (is_present node.guest.space fault.page) (get node.owed fault.page)

-- the destination after that, with the fault no longer held: a missing page becomes zeros or, if it is owed, is requested once. The
-- sleepers of a requested page sleep on; those of any other page are woken
abbrev pub destination_acted_by : Act → Destination → ℕ → Destination
destination_acted_by Zeroed node page = record node { guest = resolved node.guest page (zero_installed node.guest.space page); held = rest_held node.held }
destination_acted_by (Requested origin) node page = record node { held = rest_held node.held; requests = requesting node.requests origin }
destination_acted_by act node page = record node { guest = resolved node.guest page node.guest.space; held = rest_held node.held }

-- the destination once its handler has resolved a fault
abbrev pub destination_acted : Destination → Fault → Destination
destination_acted node fault = destination_acted_by (destination_act node fault) node fault.page

-- the frames that it sends then: a Request, unless it was made before or the destination is paused or has ended
abbrev pub act_frames : Act → Destination → List Frame
act_frames (Requested origin) node = if is_requested node.requests origin || not (is_running node.phase) then [] else Request origin ∷ []
act_frames act node = []

-- Install

-- the first arrival is installed at a page: UFFDIO_COPY or UFFDIO_ZEROPAGE. The page is no longer owed, its request ends, and its
-- sleepers are woken
abbrev pub installed_at : Destination → Copy → List Copy → ℕ → Destination
installed_at node copy rest page =
    record node {
      guest = resolved node.guest page (pages_installed node.guest.space page 1 (λ i. copy.bytes) false);
      owed = finmap.remove node.owed page;
      requests = without_request node.requests copy.page;
      arrivals = rest;
      installed = counted node.installed 1;
    }

-- the first arrival is dropped and counted: its page is owed nowhere any more
abbrev pub copy_dropped : Destination → List Copy → Destination
copy_dropped node rest = record node { arrivals = rest; dropped = counted node.dropped 1 }

-- Install of the first arrival, by the page where it is owed now
abbrev pub install_by : Option ℕ → Destination → Copy → List Copy → Destination
install_by (Some page) node copy rest = installed_at node copy rest page
install_by None node copy rest = copy_dropped node rest
