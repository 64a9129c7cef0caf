-- What the calls of a step do to the guest of a node, by the rows of `mig_model`: ioctl_userfaultfd(2), and userfaultfd(2) for messages
-- that are read.
use Rattle.std.specs.Prelude.{◌≡◌, ℕ, ◌/◌, ◌==◌, ◌⊎◌, false, true, if◌then◌else◌, None, Ok, List, [], ◌∷◌, set}
use Rattle.foundation.specs.declared.TheConstants.{PAGE_SIZE}
use Rattle.mig_base.specs.declared.wake.Wake.TheVariants.{Nobody, Range}
use Rattle.mig_base.specs.declared.effect.Effect.{Effect}
use Rattle.mig_base.specs.declared.schedule.Step.{Step}
use Rattle.mig_model.specs.Cpus.{message_less, processor_at}
use Rattle.mig_model.specs.Guest.{Guest, is_present}
use Rattle.mig_model.specs.Handlers.{IsCopy, IsWake, IsWriteProtect, IsZeroPage, woken_by}
use Rattle.mig_model.specs.Host.{Host}
use Rattle.mig_model.specs.Ioctls.{handshake_error, handshaken, is_bad_range, read_error, read_space, register_error, registered, wake_answer}
use Rattle.mig_model.specs.Migration.{World, next}
use Rattle.mig_model.specs.Space.{Space, fresh_space}
use Rattle.mig_model.specs.Wire.{Copy}
use Rattle.host_calls.specs.Calls.{areas_at, calls_of, guest_at, node_of}
use Rattle.host_calls.specs.declared.call.Call.{Call}

-- UFFDIO_API on the fresh object of some host leads to this space
pub record IsOpened (new : Space) (features : ℕ) : Type 0 where
  pub host : Host
  pub answer : handshake_error (record fresh_space { host = host }) 0xaa features ≡ None
  pub leaves : new ≡ handshaken (record fresh_space { host = host }) 0xaa features

-- UFFDIO_REGISTER of a range in this mode is not refused, and wakes nobody
pub record IsRegistered (old new : Guest) (addr len mode : ℕ) : Type 0 where
  pub answer : register_error old.space addr len mode ≡ None
  pub leaves : new.space ≡ registered old.space addr len mode
  pub wakes : new.cpus ≡ old.cpus

-- read(2) of one message is not refused. It lets the map call of one processor continue, or that of none
pub record IsRead (old new : Guest) : Type 0 where
  pub answer : read_error old.space ≡ None
  pub leaves : new.space ≡ read_space old.space
  pub goes_on : (new.cpus ≡ old.cpus) ⊎ ((cpu : ℕ) × (new.cpus ≡ set old.cpus cpu (message_less (processor_at old.cpus cpu))))

-- UFFDIO_WAKE of a range wakes those that sleep on it, and is refused for no reason but its range
pub record IsRangeWake (old new : Guest) (addr len : ℕ) : Type 0 where
  pub answer : is_bad_range addr len ≡ false → wake_answer old.space addr len ≡ Ok (Range addr len)
  pub leaves : new.space ≡ old.space
  pub wakes : new.cpus ≡ woken_by (Range addr len) old.cpus

-- a page is present, so that its bytes can be read, and nothing changes
pub record IsPageRead (old new : Guest) (addr : ℕ) : Type 0 where
  pub present : is_present old.space (addr / PAGE_SIZE) ≡ true
  pub leaves : new ≡ old

-- a call leads from one guest to another, as its row says: it is not refused, leaves this space, and wakes these. `bytes` are those of the
-- copy that is installed
abbrev pub IsMade : List ℕ → Call → Guest → Guest → Type 0
IsMade bytes (Call.Open features) old new = IsOpened new.space features
IsMade bytes (Call.Register addr len mode) old new = IsRegistered old new addr len mode
IsMade bytes Call.Read old new = IsRead old new
IsMade bytes (Call.Wake addr) old new = IsWake old new addr
IsMade bytes (Call.WakeRange addr len) old new = IsRangeWake old new addr len
IsMade bytes (Call.WriteProtect addr len mode) old new = IsWriteProtect old new addr len mode (if mode == 0 then Range addr len else Nobody)
IsMade bytes (Call.ZeroPage addr) old new = IsZeroPage old new addr
IsMade bytes (Call.Copy addr) old new = IsCopy old new addr bytes
IsMade bytes (Call.Page addr) old new = IsPageRead old new addr

-- calls lead from one guest to another, one after the other
abbrev pub AreMade : List ℕ → List Call → Guest → Guest → Type 0
AreMade bytes [] old new = new ≡ old
AreMade bytes (call ∷ calls) old new = (mid : Guest) × IsMade bytes call old mid × AreMade bytes calls mid new

-- the bytes of the first copy
abbrev pub first_bytes : List Copy → List ℕ
first_bytes [] = []
first_bytes (copy ∷ rest) = copy.bytes

-- the calls of a step, made one after the other, lead from the guest of its node to the guest that the step leaves there
abbrev pub AreMadeIn : World → Step → Effect → Type 0
AreMadeIn world step effect =
    let node = node_of step in
    AreMade (first_bytes world.destination.arrivals) (calls_of (areas_at node (next world step)) step effect) (guest_at node world) (guest_at node (next world step))
