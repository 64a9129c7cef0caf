-- The space that is lent to a log.
use Rattle.std.specs.Prelude.{◌≡◌, ℕ, ◌&&◌, Bool, true, false}
use Rattle.std.specs.FinSet.{contains}
use Rattle.mig_base.specs.Userfault.{Noted}
use Rattle.mig_base.specs.declared.act.Act.{Act}
use Rattle.mig_model.specs.Space.{Space}
use Rattle.mig_model.specs.Cpus.{Cpus}
use Rattle.mig_model.specs.Guest.{Fault, is_forgotten, is_present, read_guest}
use Rattle.mig_model.specs.Whereabouts.{is_unread}
use Rattle.mig_model.specs.Log.{Log, log_read}
use Rattle.mig_model.specs.Source.{Source, first_source, source_act_by}

-- whether a page can be sent: it is present, and registered for write-protect faults
abbrev pub is_sendable : Space → ℕ → Bool
is_sendable space page = is_present space page && contains space.object.protect page

-- a source with this log, this space and these processors, which has done nothing
abbrev pub source_of : Log → Space → Cpus → Source
source_of log space cpus = record (first_source 0 0 0) { log = log; guest = record { space = space; cpus = cpus } }

-- the same once its handler has read this message, but for its count of faults
abbrev pub handler_read : Source → Noted → Source
handler_read node noted = record node { guest = read_guest node.guest noted.cpu noted.message; log = log_read node.log noted.message }

-- how the handler resolves a fault in this space, by what its page is there now
abbrev pub act_in : Space → Fault → Act
act_in space fault = source_act_by (is_forgotten space fault.page) (is_present space fault.page) (contains space.protected fault.page && fault.wp)

-- each clean page is protected, unless an unread event has changed it
abbrev pub AreProtected : Log → Space → Type 0
AreProtected log space = (page : ℕ) → contains log.clean page ≡ true → is_unread space.object.events page ≡ false → contains space.protected page ≡ true
