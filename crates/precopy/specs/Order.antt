-- The invariants of every source, which each of its calls keeps.
use Rattle.std.specs.Prelude.{◌≡◌, ℕ, Bool, true, false, List}
use Rattle.std.specs.FinSet.{contains}
use Rattle.mig_base.specs.declared.command.Entry.{Entry}
use Rattle.mig_base.specs.declared.phase.SourcePhase.{SourcePhase}
use Rattle.mig_base.specs.Flat.{memory_of}
use Rattle.mig_model.specs.Bounds.{AreRightAccesses}
use Rattle.mig_model.specs.Cpus.{Cpus}
use Rattle.mig_model.specs.Host.{Host, memory}
use Rattle.mig_model.specs.Space.{Space}
use Rattle.mig_model.specs.Whereabouts.{is_unread}
use Rattle.mig_model.specs.Log.{Log}
use Rattle.mig_model.specs.Source.{Source, commands_of, is_released, is_stopped, space_of}
use Rattle.uffd_ioctl.specs.Lent.{IsLent}
use Rattle.dirty_log.specs.Spaces.{AreProtected, is_sendable}

-- each page that the round still has to send can be sent, unless an unread event has changed it
abbrev pub AreSendable : Log → Space → Type 0
AreSendable log space = (page : ℕ) → contains log.todo page ≡ true → is_unread space.object.events page ≡ false → is_sendable space page ≡ true

-- until the source is released, its space may be lent to the log; clean pages are protected, and pages that the round must send can be
-- sent; a stopped or released source has switched
pub record IsInOrder (phase : SourcePhase) (switched : Bool) (space : Space) (log : Log) : Type 0 where
  pub lent : is_released phase ≡ false → IsLent space
  pub clean : AreProtected log space
  pub todo : AreSendable log space
  pub stopped : is_stopped phase ≡ true → switched ≡ true
  pub released : is_released phase ≡ true → switched ≡ true

-- the host has the memory that some list of commands leaves, and each command that a processor still has to make is a well formed load or
-- store
pub record HasRightGuest (host : Host) (cpus : Cpus) : Type 0 where
  pub entries : List Entry
  pub holds : memory host ≡ memory_of entries
  pub right : AreRightAccesses (commands_of cpus)

-- a page is clean, and no unread event has changed it
abbrev pub IsClean : Source → ℕ → Type 0
IsClean node page = (contains node.log.clean page ≡ true) × (is_unread (space_of node).object.events page ≡ false)
