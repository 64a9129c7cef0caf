-- A space whose object names no threads: each access and call of the source leaves it as it leaves the source's own.
use Rattle.std.proofs.lemmas.List.{map-append}
use Rattle.std.proofs.Common.{◌≡◌, ℕ, ◌+◌, ◌*◌, ◌/◌, ◌||◌, ◌&&◌, Bool, true, false, not, cond, Option, Some, None, List, [], ◌∷◌, ◌++◌, map, refl, sym, ap, subst, ◌∙◌}
use Rattle.mig_base.specs.declared.Run.{Run}
use Rattle.mig_base.specs.declared.command.Access.{Access}
use Rattle.mig_base.specs.declared.command.Access.TheVariants.{Answered, Missing, Protected}
use Rattle.mig_base.specs.declared.command.Command.{Command}
use Rattle.mig_base.specs.declared.command.Errno.{Errno}
use Rattle.mig_base.specs.declared.message.Message.{Message}
use Rattle.mig_base.specs.declared.wake.Wake.{Wake}
use Rattle.foundation.specs.Bits.{is_one}
use Rattle.mig_base.specs.Bytes.{zero_page}
use Rattle.mig_base.specs.Commands.{is_store, page_of}
use Rattle.foundation.specs.Tests.{first_holding}
use Rattle.mig_base.specs.Userfault.{Noted, Object, fault_queued, is_fault_at, message_read, next_message, next_of, read_by, thread_id, waits_fault}
use Rattle.mig_model.specs.Guest.{Guest}
use Rattle.mig_model.specs.Handlers.{IsWake, IsWriteProtect, IsZeroPage, MayRegister, registered_in_turn}
use Rattle.mig_model.specs.Ioctls.{all_features, has_events, installed, is_bad_mode, is_bad_range, is_bare, left_by, missing_run, mode_of, protected_in, register_error, registered, registered_in, writeprotect_error, zeropage_error}
use Rattle.mig_model.specs.Space.{IsSoundSpace, Space, access_of, accessed, accessed_by}
use Rattle.kernel_laws.specs.Logs.{unnamed, unnamed_features, unnamed_message, unnamed_noted, unnamed_object}

pub sound-unnamed : (space : Space) → IsSoundSpace space → IsSoundSpace (unnamed space)
sound-unnamed space sound = record { host = sound.host; mapped = sound.mapped; present = sound.present; watched = sound.watched }

pub no-names : is_one unnamed_features 8 ≡ false
unfolding is_one
no-names = refl

-- Accesses

fault-unnamed : (message : Message) (addr : ℕ) (kind : Bool) → is_fault_at (unnamed_message message) addr kind ≡ is_fault_at message addr kind
fault-unnamed (Message.PageFault other write wp tid) addr kind = refl
fault-unnamed (Message.Remap from to len) addr kind = refl
fault-unnamed (Message.Remove start end) addr kind = refl
fault-unnamed (Message.Unmap start end) addr kind = refl

waits-unnamed : (faults : List Noted) (addr : ℕ) (kind : Bool) → waits_fault (map unnamed_noted faults) addr kind ≡ waits_fault faults addr kind
waits-unnamed [] addr kind = refl
waits-unnamed (noted ∷ rest) addr kind = λ i. fault-unnamed noted.message addr kind i || waits-unnamed rest addr kind i

-- the message of a fault at an object with these features
abbrev noted_with : (features : ℕ) → Object → (addr : ℕ) → (write wp : Bool) → (cpu : ℕ) → Noted
noted_with features object addr write wp cpu = record { message = Message.PageFault addr write wp (thread_id (record object { features = features }) cpu); cpu = cpu }

names-none : (object : Object) (addr : ℕ) (write wp : Bool) (cpu : ℕ) → noted_with unnamed_features object addr write wp cpu ≡ record { message = Message.PageFault addr write wp 0; cpu = cpu }
names-none object addr write wp cpu = ap (λ b. record { message = Message.PageFault addr write wp (cond b (cpu + 1) 0); cpu = cpu }) no-names

queued-unnamed : (object : Object) (addr : ℕ) (write wp : Bool) (cpu : ℕ) → fault_queued (unnamed_object object) addr write wp cpu ≡ unnamed_object (fault_queued object addr write wp cpu)
queued-unnamed object addr write wp cpu =
    let bare = unnamed_object object in
    ap (λ b. cond b bare (record bare { faults = map unnamed_noted object.faults ++ noted_with unnamed_features object addr write wp cpu ∷ [] })) (waits-unnamed object.faults addr wp)
    ∙ by (waits_fault object.faults addr wp)
  where
    by : (b : Bool) → cond b (unnamed_object object) (record (unnamed_object object) { faults = map unnamed_noted object.faults ++ noted_with unnamed_features object addr write wp cpu ∷ [] })
        ≡ unnamed_object (cond b object (record object { faults = object.faults ++ noted_with object.features object addr write wp cpu ∷ [] }))
    by true = refl
    by false =
        ap (λ n. record (unnamed_object object) { faults = map unnamed_noted object.faults ++ n ∷ [] }) (names-none object addr write wp cpu)
        ∙ ap (λ l. record (unnamed_object object) { faults = l }) (sym (map-append unnamed_noted object.faults (noted_with object.features object addr write wp cpu ∷ [])))

pub accessed-unnamed : (space : Space) (cpu : ℕ) (command : Command) → accessed (unnamed space) cpu command ≡ unnamed (accessed space cpu command)
accessed-unnamed space cpu command = by (access_of space command) where
  by : (access : Access) → accessed_by access (unnamed space) cpu command ≡ unnamed (accessed_by access space cpu command)
  by (Answered reply) = refl
  by Missing = ap (λ o. record (unnamed space) { object = o }) (queued-unnamed space.object (4096 * page_of command) (is_store command) false cpu)
  by Protected = ap (λ o. record (unnamed space) { object = o }) (queued-unnamed space.object (4096 * page_of command) true true cpu)

-- read(2)

pub read-unnamed : (object : Object) → message_read (unnamed_object object) ≡ unnamed_object (message_read object)
read-unnamed object = by object.faults where
  by : (faults : List Noted) → read_by (map unnamed_noted faults) (unnamed_object object) ≡ unnamed_object (read_by faults object)
  by [] = refl
  by (fault ∷ faults) = refl

pub next-unnamed : (object : Object) (noted : Noted) → next_message object ≡ Some noted → (other : Noted) × (next_message (unnamed_object object) ≡ Some other)
next-unnamed object noted is = by object.faults is where
  by : (faults : List Noted) → next_of faults object.events ≡ Some noted → (other : Noted) × (next_of (map unnamed_noted faults) object.events ≡ Some other)
  by [] is = (noted, is)
  by (fault ∷ faults) is = (unnamed_noted fault, refl)

-- Calls

left-unnamed : (error : Option Errno) (old new : Space) → unnamed (left_by error old new) ≡ left_by error (unnamed old) (unnamed new)
left-unnamed None old new = refl
left-unnamed (Some errno) old new = refl

abbrev pub unnamed_guest : Guest → Guest
unnamed_guest guest = record guest { space = unnamed guest.space }

pub zeropage-unnamed : (old new : Guest) (addr : ℕ) → IsZeroPage old new addr → IsZeroPage (unnamed_guest old) (unnamed_guest new) addr
zeropage-unnamed old new addr is =
    let space = old.space in
    record {
      answer = is.answer;
      leaves = ap unnamed is.leaves ∙ left-unnamed (zeropage_error space addr 4096 0) space (installed space (addr / 4096) (missing_run space (addr / 4096) (4096 / 4096)) (λ i. zero_page) false);
      wakes = is.wakes;
    }

pub wake-unnamed : (old new : Guest) (addr : ℕ) → IsWake old new addr → IsWake (unnamed_guest old) (unnamed_guest new) addr
wake-unnamed old new addr is = record { answer = is.answer; leaves = ap unnamed is.leaves; wakes = is.wakes }

pub protect-unnamed : (old new : Guest) (addr len bits : ℕ) (wake : Wake) → IsWriteProtect old new addr len bits wake → IsWriteProtect (unnamed_guest old) (unnamed_guest new) addr len bits wake
protect-unnamed old new addr len bits wake is =
    let space = old.space in
    record {
      answer = is.answer;
      leaves = ap unnamed is.leaves ∙ left-unnamed (writeprotect_error space addr len bits) space (protected_in space (addr / 4096) (len / 4096) (is_one bits 0));
      wakes = is.wakes;
    }

-- UFFDIO_REGISTER

names-events : (is_one all_features 2 && is_one all_features 3 && is_one all_features 6) ≡ (is_one unnamed_features 2 && is_one unnamed_features 3 && is_one unnamed_features 6)
unfolding is_one
names-events = refl

events-unnamed : (object : Object) → object.features ≡ all_features → has_events (unnamed_object object) ≡ has_events object
events-unnamed object asked = sym (ap (λ f. is_one f 2 && is_one f 3 && is_one f 6) asked ∙ names-events)

error-unnamed : (space : Space) (start len bits : ℕ) → space.object.features ≡ all_features → register_error (unnamed space) start len bits ≡ register_error space start len bits
error-unnamed space start len bits asked =
    ap (λ b. first_holding
    ((not space.object.enabled, Errno.Einval) ∷ (not b, Errno.Einval) ∷ (is_bad_mode bits, Errno.Einval) ∷ (is_bad_range start len, Errno.Einval) ∷ (is_bare space (start / 4096) (len / 4096), Errno.Einval) ∷ []))
    (events-unnamed space.object asked)

registered-unnamed : (space : Space) (start len bits : ℕ) → space.object.features ≡ all_features → registered (unnamed space) start len bits ≡ unnamed (registered space start len bits)
registered-unnamed space start len bits asked =
    let new = registered_in space (start / 4096) (len / 4096) (mode_of bits) in
    ap (λ error. left_by error (unnamed space) (unnamed new)) (error-unnamed space start len bits asked) ∙ sym (left-unnamed (register_error space start len bits) space new)

still-asked : (space : Space) (start len bits : ℕ) → (registered space start len bits).object.features ≡ space.object.features
still-asked space start len bits = by (register_error space start len bits) where
  by : (error : Option Errno) → (left_by error space (registered_in space (start / 4096) (len / 4096) (mode_of bits))).object.features ≡ space.object.features
  by None = refl
  by (Some errno) = refl

pub may-unnamed : (space : Space) (areas : List Run) (bits : ℕ) → space.object.features ≡ all_features → MayRegister space areas bits → MayRegister (unnamed space) areas bits
may-unnamed space [] bits asked may = tt
may-unnamed space (run ∷ areas) bits asked may =
    let start = 4096 * run.first in
    let len = 4096 * run.count in
    (error-unnamed space start len bits asked ∙ may.0, subst (λ s. MayRegister s areas bits) (sym (registered-unnamed space start len bits asked)) (may-unnamed (registered space start len bits) areas bits (still-asked space start len bits ∙ asked) may.1))

pub turn-unnamed : (space : Space) (areas : List Run) (bits : ℕ) → space.object.features ≡ all_features → registered_in_turn (unnamed space) areas bits ≡ unnamed (registered_in_turn space areas bits)
turn-unnamed space [] bits asked = refl
turn-unnamed space (run ∷ areas) bits asked =
    let start = 4096 * run.first in
    let len = 4096 * run.count in
    ap (λ s. registered_in_turn s areas bits) (registered-unnamed space start len bits asked) ∙ turn-unnamed (registered space start len bits) areas bits (still-asked space start len bits ∙ asked)
