-- The source, in the phases of QEMU's postcopy document (docs/devel/migration/postcopy.rst, "Postcopy states" and "Postcopy
-- recovery"), and how each of its steps changes it.
use Rattle.std.specs.Prelude.{ℕ, zero, suc, ◌+◌, ◌&&◌, not, Bool, true, false, if◌then◌else◌, Option, List, [], ◌∷◌, ◌++◌, map}
use Rattle.std.specs.Ordering.{nat_cmp}
use Rattle.std.specs.FinSet as finset
use Rattle.std.specs.FinSet.{FinSet, contains}
use Rattle.mig_base.specs.declared.act.Act.{Act}
use Rattle.mig_base.specs.declared.act.Act.TheVariants.{Unprotected, Zeroed, Woke, Forgot}
use Rattle.mig_base.specs.declared.TheConstants.{HIGH_PAGE}
use Rattle.mig_base.specs.declared.command.Command.{Command}
use Rattle.mig_base.specs.declared.phase.Received.{Received}
use Rattle.mig_base.specs.declared.phase.SourcePhase.{SourcePhase}
use Rattle.mig_base.specs.Bytes.{contents}
use Rattle.foundation.specs.Modes.{Mode}
use Rattle.mig_base.specs.Userfault.{Noted, fresh_object, enabled_with}
use Rattle.mig_model.specs.Space.{Space, fresh_space}
use Rattle.mig_model.specs.Ioctls.{all_features, registered_in, protected_in}
use Rattle.mig_model.specs.Cpus.{Cpus, idle_processors, outstanding}
use Rattle.mig_model.specs.Guest.{Guest, Fault, counted, fault_count, read_guest, resolved, zero_installed, is_forgotten, is_present}
use Rattle.mig_model.specs.Log.{Log, empty_log, forgotten, dirty, log_sent, log_run_sent, log_read, log_resolved, log_written, no_pages, less, present}
use Rattle.mig_model.specs.Wire.{Frame}
use Rattle.mig_model.specs.Wire.Frame.{Discard, Package, Request, Recv, Done}

-- the mode of each registered page of the source: UFFDIO_REGISTER_MODE_MISSING and UFFDIO_REGISTER_MODE_WP
abbrev pub for_both : Mode
for_both = record { missing = true; protect = true }

-- the source node: its phase and epoch, its guest, what it knows of its pages, and what it still has to send
pub record Source : Type 0 where
  -- its phase: Idle, Precopy, Stopped, Paused or Released
  pub phase : SourcePhase
  -- whether it has stopped its processors for good
  pub switched : Bool
  -- the epoch of the migration: each resumption begins a new one
  pub epoch : ℕ
  -- the epoch in which End was sent last, or 0 if it was not: no migration has epoch 0
  pub end_epoch : ℕ
  -- its address space and the processors, and what it knows of its pages
  pub guest : Guest
  pub log : Log
  -- owed pages that were not sent yet in this epoch, and its queue of the pages that the destination has asked for, oldest first
  pub remaining : FinSet nat_cmp
  pub asked : List ℕ
  -- how many frames it has put on the urgent wire in this epoch
  pub urgent_sent : ℕ
  -- how many pages the last Package owed
  pub packaged : ℕ
  -- rounds made, pages sent, and fault messages read
  pub rounds : ℕ
  pub pages_sent : ℕ
  pub faults : ℕ

-- a space on which nothing is mapped, whose object was enabled
abbrev pub enabled_space : Space
enabled_space = record fresh_space { object = enabled_with fresh_object all_features }

-- a source before any migration, with `cpus` idle processors: its object is enabled, nothing is mapped or sent, and its epoch and
-- number of rounds are those given
abbrev pub first_source : ℕ → ℕ → ℕ → Source
first_source cpus epoch rounds =
    record {
      phase = SourcePhase.Idle;
      switched = false;
      epoch = epoch;
      end_epoch = 0;
      guest = record { space = enabled_space; cpus = idle_processors cpus };
      log = empty_log;
      remaining = no_pages;
      asked = [];
      urgent_sent = 0;
      packaged = 0;
      rounds = rounds;
      pages_sent = 0;
      faults = 0;
    }

-- whether no migration has started
abbrev pub is_source_idle : SourcePhase → Bool
is_source_idle SourcePhase.Idle = true
is_source_idle _ = false

-- whether the source runs the processors and makes rounds of pre-copy
abbrev pub is_precopy : SourcePhase → Bool
is_precopy SourcePhase.Precopy = true
is_precopy _ = false

-- whether the source has stopped its processors and sends what is owed, and is not paused
abbrev pub is_stopped : SourcePhase → Bool
is_stopped SourcePhase.Stopped = true
is_stopped _ = false

-- whether the source has noticed a break and has not taken a Recv since: QEMU's Paused
abbrev pub is_source_paused : SourcePhase → Bool
is_source_paused SourcePhase.Paused = true
is_source_paused _ = false

-- whether the migration is complete, so that the source has released its memory
abbrev pub is_released : SourcePhase → Bool
is_released SourcePhase.Released = true
is_released _ = false

-- whether a migration has started and is not complete
abbrev pub is_under_way : Source → Bool
is_under_way node = not (is_source_idle node.phase) && not (is_released node.phase)

-- whether a migration has started and the source still runs the processors, so that its handler acts: from Start until Switch
abbrev pub is_handling : Source → Bool
is_handling node = not (is_source_idle node.phase) && not node.switched

-- the node with another space of its guest
abbrev pub in_space : Source → Space → Source
in_space node space = record node { guest = record node.guest { space = space } }

-- the space of its guest
abbrev pub space_of : Source → Space
space_of node = node.guest.space

-- every mapped page is registered in both modes: UFFDIO_REGISTER of each area
abbrev pub all_registered : Space → Space
all_registered space = registered_in space 0 HIGH_PAGE for_both

-- a migration begins, in the next epoch
abbrev pub source_started : Source → Source
source_started node = record (in_space node (all_registered (space_of node))) { phase = SourcePhase.Precopy; epoch = node.epoch + 1 }

-- the present pages that are not clean
abbrev pub not_clean : Source → FinSet nat_cmp
not_clean node = dirty (space_of node) node.log

-- a round begins, as QEMU's bitmap sync does: new pages are registered, and the present pages that are not clean are to be sent
abbrev pub round_made : Source → Source
round_made node = record (in_space node (all_registered (space_of node))) { log = record node.log { todo = not_clean node }; rounds = node.rounds + 1 }

-- the bytes of a page of the source
abbrev pub bytes_of : Source → ℕ → List ℕ
bytes_of node page = contents (space_of node).host.bytes page

-- a page is write-protected before it is read, so a later store faults; it is clean
abbrev pub page_sent : Source → ℕ → Source
page_sent node page =
    record (in_space node (protected_in (space_of node) page 1 true)) { log = log_sent node.log page; pages_sent = counted node.pages_sent 1 }

-- the bytes of neighbouring pages, from the first on
abbrev pub run_of : Source → ℕ → ℕ → List (List ℕ)
run_of node first zero = []
run_of node first (suc count) = bytes_of node first ∷ run_of node (1 + first) count

-- the same for neighbouring pages that are sent in one run
abbrev pub run_sent : Source → ℕ → ℕ → Source
run_sent node first count =
    record (in_space node (protected_in (space_of node) first count true)) { log = log_run_sent node.log first count; pages_sent = counted node.pages_sent count }

-- a message is read: a fault is held, and an event's pages are neither clean nor to be sent
abbrev pub source_read : Source → Noted → Source
source_read node noted =
    record node {
      guest = read_guest node.guest noted.cpu noted.message;
      log = log_read node.log noted.message;
      faults = counted node.faults (fault_count noted.message);
    }

-- how the source's handler resolves a fault, by what the page is now: forgotten, present, and protected where it is a write-protect fault
abbrev pub source_act_by : Bool → Bool → Bool → Act
source_act_by true present protected = Forgot
source_act_by false false protected = Zeroed
source_act_by false true true = Unprotected
source_act_by false true false = Woke

-- the same for a fault that is held, in the source's space as it is now
abbrev pub source_act : Source → Fault → Act
source_act node fault =
    source_act_by (is_forgotten (space_of node) fault.page) (is_present (space_of node) fault.page) (contains (space_of node).protected fault.page && fault.wp)

-- the source after that: an unprotected page is no longer clean, a missing page becomes zeros, and else the space stays. The sleepers
-- of the page are woken, and the fault is no longer held
abbrev pub source_acted_by : Act → Source → ℕ → Source
source_acted_by Unprotected node page =
    record node { guest = resolved node.guest page (protected_in (space_of node) page 1 false); log = log_written node.log page }
source_acted_by Zeroed node page = record node { guest = resolved node.guest page (zero_installed (space_of node) page); log = log_resolved node.log }
source_acted_by act node page = record node { guest = resolved node.guest page (space_of node); log = log_resolved node.log }

-- the source once its handler has resolved a fault
abbrev pub source_acted : Source → Fault → Source
source_acted node fault = source_acted_by (source_act node fault) node fault.page

-- the outstanding commands of the processors
abbrev pub commands_of : Cpus → List (Option Command)
commands_of processors = map outstanding processors

-- the two frames with which a destination can run: Discard, and Package with the mapped pages, the owed ones and the outstanding commands
abbrev pub package_frames : Source → FinSet nat_cmp → FinSet nat_cmp → List Frame
package_frames node discarded owed = Discard discarded ∷ Package (space_of node).host.areas owed (commands_of node.guest.cpus) ∷ []

-- Switch: the source stops its processors for good, drops its unread and its held faults, and owes the present pages that are not
-- clean
abbrev pub switch_made : Source → Source
switch_made node =
    record node {
      phase = SourcePhase.Stopped;
      switched = true;
      remaining = not_clean node;
      packaged = finset.len (not_clean node);
      guest = record node.guest { space = record (space_of node) { object = record (space_of node).object { faults = [] } } };
      log = record node.log { held = [] };
    }

-- what Switch sends: Discard has the pages that were sent in this epoch and are not clean, Package owes the present pages that are not
-- clean
abbrev pub switch_frames : Source → List Frame
switch_frames node = package_frames node (less node.log.sent node.log.clean) (not_clean node)

-- a pushed page no longer remains, and counts as sent
abbrev pub page_pushed : Source → ℕ → Source
page_pushed node page = record node { remaining = finset.remove node.remaining page; pages_sent = counted node.pages_sent 1 }

-- the same on the urgent wire, whose frames the source counts for its End
abbrev pub urgent_pushed : Source → ℕ → Source
urgent_pushed node page = record (page_pushed node page) { urgent_sent = node.urgent_sent + 1 }

-- the source keeps these requests in its queue
abbrev pub request_served : Source → List ℕ → Source
request_served node pages = record node { asked = pages }

-- End is sent in this epoch
abbrev pub end_sent : Source → Source
end_sent node = record node { end_epoch = node.epoch }

-- a break of the channel is noticed
abbrev pub source_paused : Source → Source
source_paused node = record node { phase = SourcePhase.Paused }

-- the next epoch begins, in which nothing was put on the urgent wire yet. The source stays paused until it takes the Recv
abbrev pub resumed : Source → Source
resumed node = record node { epoch = node.epoch + 1; urgent_sent = 0 }

-- the migration is complete: the source releases its memory, and has no page, request or log left
abbrev pub released : Source → Source
released node =
    record node {
      phase = SourcePhase.Released;
      remaining = no_pages;
      asked = [];
      guest = record node.guest { space = fresh_space };
      log = empty_log;
    }

-- a Recv says how far the destination has come, and the source continues from there. If the destination has not run, the source sends
-- everything again: in pre-copy if it has not switched, and else as owed pages. If it runs, the pages that it lists remain. If it has
-- ended, the migration is complete. Its queue of requests is empty in each case
abbrev pub source_rebuilt : Received → FinSet nat_cmp → Source → Source
source_rebuilt Received.NotRun owed node =
    if node.switched
    then record node { phase = SourcePhase.Stopped; asked = []; remaining = present (space_of node); packaged = finset.len (present (space_of node)) }
    else record node { phase = SourcePhase.Precopy; asked = []; log = forgotten node.log }
source_rebuilt Received.Running owed node = record node { phase = SourcePhase.Stopped; asked = []; remaining = owed }
source_rebuilt Received.Ended owed node = released node

-- what the source sends then: if it has switched and the destination has not run, a Discard of nothing and a Package that owes all
-- present pages
abbrev pub rebuild_frames : Received → Source → List Frame
rebuild_frames Received.NotRun node = if node.switched then package_frames node no_pages (present (space_of node)) else []
rebuild_frames Received.Running node = []
rebuild_frames Received.Ended node = []

-- the source once it has taken a frame that is in place (`is_in_place_back` of Faults.antt)
abbrev pub source_took : Source → Frame → Source
source_took node (Request page) = record node { asked = node.asked ++ page ∷ [] }
source_took node (Recv state owed) = source_rebuilt state owed node
source_took node Done = released node
source_took node _ = node

-- the frames that the source sends when it takes one: none but for a Recv
abbrev pub source_answers : Source → Frame → List Frame
source_answers node (Recv state owed) = rebuild_frames state node
source_answers node _ = []
