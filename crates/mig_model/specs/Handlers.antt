-- The calls of the userfault objects that the steps of the nodes stand for: the row of each call, from `Ioctls`, answers no error,
-- leaves the space that the machine has, and wakes the processors that the machine wakes.
use Rattle.std.specs.Prelude.{◌≡◌, ℕ, ◌+◌, ◌*◌, ◌<◌, None, Ok, List, [], ◌∷◌}
use Rattle.std.specs.Ordering.{nat_cmp}
use Rattle.std.specs.FinMap.{FinMap, contains_key}
use Rattle.foundation.specs.declared.TheConstants.{PAGE_SIZE}
use Rattle.mig_base.specs.declared.Prot.{Prot}
use Rattle.mig_base.specs.declared.Run.{Run}
use Rattle.mig_base.specs.declared.cpu_state.CpuState.{CpuState}
use Rattle.mig_base.specs.declared.wake.Wake.{Wake}
use Rattle.mig_base.specs.declared.wake.Wake.TheVariants.{Nobody, Range}
use Rattle.mig_base.specs.PageSets.{in_runs}
use Rattle.mig_model.specs.Host.{Host}
use Rattle.mig_model.specs.Space.{Space, fresh_space}
use Rattle.mig_model.specs.Cpus.{all_woken}
use Rattle.mig_model.specs.Guest.{Guest, in_bytes}
use Rattle.mig_model.specs.Ioctls.{Put, copied, copy_answer, handshake_error, handshaken, register_error, registered, wake_answer, write_protected, writeprotect_answer, zeropage_answer, zeropaged}

-- One page, or a run of them

-- the processors after a wake-up: those that sleep on its range are woken, or nobody is
abbrev pub woken_by : Wake → List CpuState → List CpuState
woken_by Nobody processors = processors
woken_by (Range start len) processors = all_woken (in_bytes start (start + len)) processors

-- UFFDIO_WRITEPROTECT of a range leads from one guest to another, and wakes these
pub record IsWriteProtect (old new : Guest) (addr len bits : ℕ) (wake : Wake) : Type 0 where
  pub answer : writeprotect_answer old.space addr len bits ≡ Ok wake
  pub leaves : new.space ≡ write_protected old.space addr len bits
  pub wakes : new.cpus ≡ woken_by wake old.cpus

-- the answer of a call that has put one page, and wakes those that sleep on it
abbrev pub page_put : ℕ → Put
page_put addr = record { bytes = PAGE_SIZE; fault = None; wake = Range addr PAGE_SIZE }

-- UFFDIO_ZEROPAGE of one page leads from one guest to another, and wakes those that sleep on the page
pub record IsZeroPage (old new : Guest) (addr : ℕ) : Type 0 where
  pub answer : zeropage_answer old.space addr PAGE_SIZE 0 ≡ page_put addr
  pub leaves : new.space ≡ zeropaged old.space addr PAGE_SIZE 0
  pub wakes : new.cpus ≡ woken_by (Range addr PAGE_SIZE) old.cpus

-- the same for UFFDIO_COPY of one page with these bytes
pub record IsCopy (old new : Guest) (addr : ℕ) (bytes : List ℕ) : Type 0 where
  pub answer : copy_answer old.space addr bytes 0 ≡ page_put addr
  pub leaves : new.space ≡ copied old.space addr bytes 0
  pub wakes : new.cpus ≡ woken_by (Range addr PAGE_SIZE) old.cpus

-- the same for UFFDIO_WAKE of one page, which leaves the space as it is
pub record IsWake (old new : Guest) (addr : ℕ) : Type 0 where
  pub answer : wake_answer old.space addr PAGE_SIZE ≡ Ok (Range addr PAGE_SIZE)
  pub leaves : new.space ≡ old.space
  pub wakes : new.cpus ≡ woken_by (Range addr PAGE_SIZE) old.cpus

-- Every area

-- none of the runs is empty
abbrev pub AreSome : List Run → Type 0
AreSome [] = Unit {0}
AreSome (run ∷ runs) = (0 < run.count) × AreSome runs

-- runs, none of them empty, that together cover exactly the mapped pages: the areas of a guest are such runs
pub record AreRunsOf (areas : FinMap nat_cmp Prot) (runs : List Run) : Type 0 where
  pub some : AreSome runs
  pub pages : (page : ℕ) → in_runs runs page ≡ contains_key areas page

-- UFFDIO_REGISTER of the runs in turn, in this mode: none of the calls is refused
abbrev pub MayRegister : Space → List Run → ℕ → Type 0
MayRegister space [] bits = Unit {0}
MayRegister space (run ∷ runs) bits =
    (register_error space (PAGE_SIZE * run.first) (PAGE_SIZE * run.count) bits ≡ None) × MayRegister (registered space (PAGE_SIZE * run.first) (PAGE_SIZE * run.count) bits) runs bits

-- the space after these calls
abbrev pub registered_in_turn : Space → List Run → ℕ → Space
registered_in_turn space [] bits = space
registered_in_turn space (run ∷ runs) bits = registered_in_turn (registered space (PAGE_SIZE * run.first) (PAGE_SIZE * run.count) bits) runs bits

-- UFFDIO_REGISTER of the runs leads from one space to the other
pub record AreRegistered (old new : Space) (runs : List Run) (bits : ℕ) : Type 0 where
  pub accepted : MayRegister old runs bits
  pub leaves : new ≡ registered_in_turn old runs bits

-- UFFDIO_API on the fresh object of a space with these pages, and then UFFDIO_REGISTER of the runs, lead to a space
pub record AreWatched (host : Host) (new : Space) (runs : List Run) (features bits : ℕ) : Type 0 where
  pub handshake : handshake_error (record fresh_space { host = host }) 0xaa features ≡ None
  pub areas : AreRegistered (handshaken (record fresh_space { host = host }) 0xaa features) new runs bits
