-- read(2) of a page fault, and read(2) that fails.
use Rattle.std.proofs.lemmas.Bool.Decides.{nat_tests}
use Rattle.std.proofs.lemmas.Bool.{false≢true}
use Rattle.std.proofs.lemmas.List.Folds.{list_any-append}
use Rattle.std.proofs.lemmas.Option.{none-some, same_Some}
use Rattle.std.proofs.Common.{◌≡◌, ℕ, ◌&&◌, ◌||◌, Bool, true, false, not, cond, eqb, Option, Some, None, List, [], ◌∷◌, ◌++◌, arith, refl, sym, ap, subst, ◌∙◌}
use Rattle.std.specs.Prelude.{is_some}
use Rattle.std.specs.List.{list_any}
use Rattle.mig_base.specs.declared.command.Errno.{Errno}
use Rattle.foundation.specs.Tests.{first_holding}
use Rattle.mig_base.specs.Userfault.{Noted, next_message}
use Rattle.mig_base.proofs.SetSizes.{only_where}
use Rattle.foundation.proofs.TestLemmas.{eqb-self}
use Rattle.mig_model.specs.Ioctls.{read_error, read_space}
use Rattle.mig_model.specs.Space.{IsSoundSpace, Space}
use Rattle.uffd_log.specs.declared.call.Message.{Message as LogMessage}
use Rattle.uffd_log.specs.declared.call.Message.TheVariants as log
use Rattle.uffd_log.specs.declared.line.Answer.TheVariants.{Failed, Value}
use Rattle.kernel_rules.specs.declared.difference.Difference.{Difference}
use Rattle.kernel_rules.specs.declared.difference.Difference.TheVariants.{FaultOfEachThread, FaultOnItsWay}
use Rattle.kernel_rules.specs.declared.fault.Fault.{Fault}
use Rattle.kernel_rules.specs.declared.known.Page.{Page}
use Rattle.kernel_rules.specs.declared.known.Phase.TheVariants.{Asleep, Unread}
use Rattle.kernel_rules.specs.declared.object.Object.{Object}
use Rattle.kernel_rules.specs.Faults.{fault_of, faults_without, is_seen, is_twin, must_wait, queues, is_unread}
use Rattle.kernel_rules.specs.Reads.{first_unread, has_room_for, has_unread, is_queued_for, message_taken, read, read_failed, then_taken}
use Rattle.kernel_rules.specs.State.{Kernel, allowed, is_enabled, noted_if}
use Rattle.kernel_rules.proofs.Steps.{queues_is}
use Rattle.kernel_laws.specs.Agreement.{Agree, AgreesAt, AreUnread, Takes, is_message_of, message_of, number_of, telling}
use Rattle.kernel_laws.specs.Logs.{AreExpected, is_expected}
use Rattle.kernel_laws.specs.Reading.{is_of_reader}
use Rattle.kernel_laws.proofs.Kernels.{is-enabled}
use Rattle.kernel_laws.proofs.Waiting.{first_unread-append, gone, unread-read}

-- The model's object with other unread messages

abbrev pub requeued : Space → (faults events : List Noted) → Space
requeued space faults events = record space { object = record space.object { faults = faults; events = events } }

pub page-requeued : (space : Space) (faults events : List Noted) (name page : ℕ) (found : Option Page) → AgreesAt space name page found → AgreesAt (requeued space faults events) name page found
page-requeued space faults events name page None agrees = agrees
page-requeued space faults events name page (Some one) agrees =
    record { object = agrees.object; missing = agrees.missing; protect = agrees.protect; registered = agrees.registered; absent = agrees.absent; present = agrees.present; whole = agrees.whole; plain = agrees.plain; guarded = agrees.guarded }

pub sound-requeued : (space : Space) (faults events : List Noted) → IsSoundSpace space → IsSoundSpace (requeued space faults events)
sound-requeued space faults events sound = record { host = sound.host; mapped = sound.mapped; present = sound.present; watched = sound.watched }

-- a kernel that agrees but for its faults
pub agree-requeued : (space : Space) (kernel : Kernel) (name : ℕ) (object : Object) (old new : List Fault) (messages : List Noted) → Agree space (record kernel { faults = old }) name object → AreUnread new name object messages →
    Agree (requeued space messages space.object.events) (record kernel { faults = new }) name object
agree-requeued space kernel name object old new messages agree unread =
    record {
      sound = sound-requeued space messages space.object.events agree.sound;
      named = agree.named;
      features = agree.features;
      unread = unread;
      pages = λ page. page-requeued space messages space.object.events name page (kernel.pages object.space page) (agree.pages page);
      untold = agree.untold;
      alone = agree.alone;
      ranged = agree.ranged;
    }

-- Noting a difference leaves the rest

pub noted-faults : (b : Bool) (difference : Difference) (kernel : Kernel) → (noted_if b difference kernel).faults ≡ kernel.faults
noted-faults true difference kernel = refl
noted-faults false difference kernel = refl

agree-noted_with : (b : Bool) (difference : Difference) (faults : List Fault) (space : Space) (kernel : Kernel) (name : ℕ) (object : Object) → Agree space (record kernel { faults = faults }) name object →
    Agree space (record (noted_if b difference kernel) { faults = faults }) name object
agree-noted_with true difference faults space kernel name object agree =
    record { sound = agree.sound; named = agree.named; features = agree.features; pages = agree.pages; unread = agree.unread; untold = agree.untold; alone = agree.alone; ranged = agree.ranged }
agree-noted_with false difference faults space kernel name object agree = agree

-- A page fault

-- the kernel once the thread has queued its fault
abbrev queued : Kernel → Object → Fault → Kernel
queued kernel object fault =
    noted_if (list_any (is_twin fault) kernel.faults) FaultOfEachThread
    (noted_if (not (must_wait kernel object.space fault)) FaultOnItsWay (record kernel { faults = faults_without kernel.faults fault.thread ++ record fault { phase = Unread } ∷ [] }))

is-queued : (kernel : Kernel) (name : ℕ) (object : Object) (fault : Fault) → kernel.objects name ≡ Some object → fault.object ≡ name → fault_of kernel.faults fault.thread ≡ Some fault → is_seen fault.phase ≡ true →
    queues kernel fault.thread ≡ Some (queued kernel object fault)
is-queued kernel name object fault named watched found seen = queues_is kernel _ fault.thread fault object _ _ found (ap kernel.objects watched ∙ named) seen refl refl refl

queued-faults : (kernel : Kernel) (object : Object) (fault : Fault) → (queued kernel object fault).faults ≡ faults_without kernel.faults fault.thread ++ record fault { phase = Unread } ∷ []
queued-faults kernel object fault = noted-faults (list_any (is_twin fault) kernel.faults) FaultOfEachThread _ ∙ noted-faults (not (must_wait kernel object.space fault)) FaultOnItsWay _

agree-queued : (space : Space) (kernel : Kernel) (name : ℕ) (object : Object) (fault : Fault) → Agree space kernel name object → Agree space (record (queued kernel object fault) { faults = kernel.faults }) name object
agree-queued space kernel name object fault agree =
    let late = not (must_wait kernel object.space fault) in
    let now : Kernel = record kernel { faults = faults_without kernel.faults fault.thread ++ record fault { phase = Unread } ∷ [] } in
    agree-noted_with (list_any (is_twin fault) kernel.faults) FaultOfEachThread kernel.faults space (noted_if late FaultOnItsWay now) name object
    (agree-noted_with late FaultOnItsWay kernel.faults space now name object agree)

-- the kernel once a fault is read
abbrev read_by : Kernel → ℕ → Object → Fault → Kernel
read_by kernel key object fault =
    record kernel {
      faults = faults_without kernel.faults fault.thread ++ record fault { phase = Asleep; read_by = cond (must_wait kernel object.space fault) (Some key) None } ∷ [];
    }

takes-message : (kernel : Kernel) (key : ℕ) (reader : Option ℕ) (name : ℕ) (object : Object) (fault : Fault) (message : LogMessage) → first_unread kernel.faults name ≡ Some fault → is_message_of object fault message ≡ true → is_of_reader reader message ≡ false →
    message_taken kernel key reader name object message 0 ≡ Some (read_by kernel key object fault)
takes-message kernel key reader name object fault (log.Fault addr flags thread) first is other = rw (first, is, other) refl
takes-message kernel key reader name object fault (log.Fork child) first is other = absurd (false≢true is)
takes-message kernel key reader name object fault (log.Remap from to len) first is other = absurd (false≢true is)
takes-message kernel key reader name object fault (log.Remove start end) first is other = absurd (false≢true is)
takes-message kernel key reader name object fault (log.Unmap start end) first is other = absurd (false≢true is)

pub takes-read : (kernel after : Kernel) (key : ℕ) (reader : Option ℕ) (name : ℕ) (object : Object) (room : Option ℕ) (message : LogMessage) → is_enabled object ≡ true → has_room_for 1 room ≡ true → message_taken kernel key reader name object message 0 ≡ Some after →
    read kernel key reader name object room (message ∷ []) (Value 1) ≡ Some after
takes-read kernel after key reader name object room message enabled fits taken = rw (enabled, fits, taken) refl

-- the address space of an object
abbrev pub home_of : Option Object → Option ℕ
home_of None = None
home_of (Some object) = Some object.space

-- a rule leaves what calls have to tell and the objects' address spaces, and notes no difference but late faults
pub record Keeps (kernel after : Kernel) : Type 0 where
  pub told : telling after ≡ telling kernel
  pub homes : (name space : ℕ) → home_of (kernel.objects name) ≡ Some space → home_of (after.objects name) ≡ Some space
  pub differs : (moves : Bool) → AreExpected moves kernel → AreExpected moves after

pub keeps-none : (b : Bool) (difference : Difference) (kernel now : Kernel) → b ≡ false → Keeps kernel now → Keeps kernel (noted_if b difference now)
keeps-none true difference kernel now is keeps = absurd (false≢true (sym is))
keeps-none false difference kernel now is keeps = keeps

keeps-late : (b : Bool) (kernel now : Kernel) → Keeps kernel now → Keeps kernel (noted_if b FaultOnItsWay now)
keeps-late true kernel now keeps =
    record {
      told = keeps.told;
      homes = keeps.homes;
      differs = λ moves h. list_any-append (λ difference. not (is_expected moves difference)) now.differs (FaultOnItsWay ∷ []) ∙ ap (λ b. b || false) (keeps.differs moves h);
    }
keeps-late false kernel now keeps = keeps

unread-none : (u : Bool) (fault : Fault) (found : Option Fault) → cond u (Some fault) found ≡ None → (u ≡ false) × (found ≡ None)
unread-none true fault found none = absurd (none-some fault (sym none))
unread-none false fault found none = (refl, none)

-- no fault of the object is queued
pub none-unread : (q : Fault → Bool) (name : ℕ) → ((fault : Fault) → q fault ≡ true → (eqb fault.object name && is_unread fault.phase) ≡ true) → (faults : List Fault) → first_unread faults name ≡ None → list_any q faults ≡ false
none-unread q name tells [] none = refl
none-unread q name tells (fault ∷ faults) none =
    let both = unread-none (eqb fault.object name && is_unread fault.phase) fault (first_unread faults name) none in
    let here = only_where (q fault) (eqb fault.object name && is_unread fault.phase) (tells fault) both.0 in
    let later = none-unread q name tells faults both.1 in
    λ i. here i || later i

twin-unread : (unread object page kind : Bool) → (unread && object && page && kind) ≡ true → (object && unread) ≡ true
twin-unread unread object page kind h = grind (arith, nat_tests)

no-twin : (faults : List Fault) (name : ℕ) (fault : Fault) → fault.object ≡ name → first_unread faults name ≡ None → list_any (is_twin fault) faults ≡ false
no-twin faults name fault watched none =
    none-unread (is_twin fault) name (λ other h. subst (λ n. (eqb other.object n && is_unread other.phase) ≡ true) watched (twin-unread (is_unread other.phase) (eqb other.object fault.object) (eqb other.page fault.page) _ h)) faults none

-- a thread queues its fault, and it is read
pub record IsRead (kernel : Kernel) (key : ℕ) (reader : Option ℕ) (name : ℕ) (object : Object) (room : Option ℕ) (message : LogMessage) (space : Space) : Type 0 where
  pub thread : ℕ
  pub now : Kernel
  pub new : Kernel
  pub queued : queues kernel thread ≡ Some now
  pub named : now.objects name ≡ Some object
  pub taken : read now key reader name object room (message ∷ []) (Value 1) ≡ Some new
  pub keeps : Keeps kernel new
  pub agree : Agree space new name object

pub fault-read : (space : Space) (kernel : Kernel) (key : ℕ) (reader : Option ℕ) (name : ℕ) (object : Object) (room : Option ℕ) (noted : Noted) (rest : List Noted) → Agree space kernel name object → space.object.enabled ≡ true → space.object.faults ≡ noted ∷ rest →
    has_room_for 1 room ≡ true → is_of_reader reader (message_of noted.message) ≡ false → IsRead kernel key reader name object room (message_of noted.message) (requeued space rest space.object.events)
fault-read space kernel key reader name object room noted rest agree enabled faults fits other =
    let unread : AreUnread kernel.faults name object (noted ∷ rest) = subst (AreUnread kernel.faults name object) faults agree.unread in
    let fault = unread.on_their_way.0 in
    let way = unread.on_their_way.1 in
    let told : Fault = record fault { phase = Unread } in
    let late = not (must_wait kernel object.space fault) in
    let twin = list_any (is_twin fault) kernel.faults in
    let now = queued kernel object fault in
    let new = read_by now key object told in
    let asleep : Fault = record told { phase = Asleep; read_by = cond (must_wait now object.space told) (Some key) None } in
    let agreed = agree-queued space kernel name object fault agree in
    let waiting : Kernel = record kernel { faults = faults_without kernel.faults fault.thread ++ told ∷ [] } in
    let kept : Keeps kernel now =
    keeps-none twin FaultOfEachThread kernel (noted_if late FaultOnItsWay waiting) (no-twin kernel.faults name fault way.watched agree.unread.none_queued) (keeps-late late kernel waiting (record { told = refl; homes = λ name space h. h; differs = λ moves h. h })) in
    let first : first_unread now.faults name ≡ Some told =
    ap (λ l. first_unread l name) (queued-faults kernel object fault)
    ∙ first_unread-append (faults_without kernel.faults fault.thread) (told ∷ []) name (gone kernel.faults name fault.thread unread.none_queued)
    ∙ ap (λ b. cond (b && true) (Some told) None) (ap (λ n. eqb n name) way.watched ∙ eqb-self name) in
    let left : AreUnread new.faults name object rest =
    subst (λ l. AreUnread (faults_without l fault.thread ++ asleep ∷ []) name object rest) (sym (queued-faults kernel object fault)) (unread-read kernel.faults name object noted rest told asleep unread refl refl) in
    record {
      thread = fault.thread;
      now = now;
      new = new;
      queued = is-queued kernel name object fault agree.named way.watched way.found way.seen;
      named = agreed.named;
      taken = takes-read now new key reader name object room (message_of noted.message) (is-enabled agree ∙ enabled) fits (takes-message now key reader name object told (message_of noted.message) first way.told other);
      keeps = record { told = kept.told; homes = kept.homes; differs = kept.differs };
      agree = agree-requeued space now name object kernel.faults new.faults rest agreed left;
    }

pub fault-taken : (space : Space) (kernel : Kernel) (key : ℕ) (reader : Option ℕ) (name : ℕ) (object : Object) (room : Option ℕ) (noted : Noted) (rest : List Noted) → Agree space kernel name object → space.object.enabled ≡ true → space.object.faults ≡ noted ∷ rest →
    has_room_for 1 room ≡ true → is_of_reader reader (message_of noted.message) ≡ false → (thread : ℕ) × Takes (then_taken (queues kernel thread) (λ queued. read queued key reader name object room (message_of noted.message ∷ []) (Value 1))) (requeued space rest space.object.events) name
fault-taken space kernel key reader name object room noted rest agree enabled faults fits other =
    let it = fault-read space kernel key reader name object room noted rest agree enabled faults fits other in (
      it.thread,
      record {
        kernel = it.new;
        object = object;
        taken = ap (λ o. then_taken o (λ queued. read queued key reader name object room (message_of noted.message ∷ []) (Value 1))) it.queued ∙ it.taken;
        agree = it.agree;
      },
    )

-- The model's object once it is read

pub read-fault : (space : Space) (noted : Noted) (rest : List Noted) → space.object.enabled ≡ true → space.object.faults ≡ noted ∷ rest → read_space space ≡ requeued space rest space.object.events
read-fault space noted rest enabled faults = rw (enabled, faults) refl

-- read(2) that fails

nothing-unread : (space : Space) (kernel : Kernel) (name : ℕ) (object : Object) → Agree space kernel name object → has_unread kernel name ≡ false
nothing-unread space kernel name object agree = λ i. is_some (agree.unread.none_queued i) || list_any (is_queued_for kernel name) (agree.untold.none_queued i)

fails : (enabled some waits unread room : Bool) → enabled ≡ true → waits ≡ false → unread ≡ false → (enabled && not waits && not unread) ≡ true
fails enabled some waits unread room he hw hu = grind (arith, nat_tests)

unenabled : (enabled room : Bool) → enabled ≡ false → (not enabled || not room) ≡ true
unenabled enabled room he = grind (arith, nat_tests)

failed : (kernel : Kernel) (key : ℕ) (reader : Option ℕ) (name : ℕ) (object : Object) (room : Option ℕ) (errno other : Errno) (space : Space) → Agree space kernel name object → Some errno ≡ Some other → read_failed kernel name object room (number_of errno) ≡ true →
    Takes (read kernel key reader name object room [] (Failed (number_of other) None)) space name
failed kernel key reader name object room errno other space agree same is =
    record {
      kernel = kernel;
      object = object;
      taken = ap (λ e. read kernel key reader name object room [] (Failed (number_of e) None)) (sym (same_Some errno other same)) ∙ ap (λ b. allowed b kernel) is;
      agree = agree;
    }

fails-by : (space : Space) (kernel : Kernel) (key : ℕ) (reader : Option ℕ) (name : ℕ) (object : Object) (room : Option ℕ) (errno : Errno) (enabled some : Bool) → Agree space kernel name object → object.waits ≡ false → space.object.enabled ≡ enabled →
    first_holding ((not enabled, Errno.Einval) ∷ (not some, Errno.Eagain) ∷ []) ≡ Some errno → Takes (read kernel key reader name object room [] (Failed (number_of errno) None)) space name
fails-by space kernel key reader name object room errno false some agree waits made is =
    failed kernel key reader name object room Errno.Einval errno space agree is (unenabled (is_enabled object) (has_room_for 1 room) (is-enabled agree ∙ made))
fails-by space kernel key reader name object room errno true false agree waits made is =
    failed kernel key reader name object room Errno.Eagain errno space agree is
    (fails (is_enabled object) false object.waits (has_unread kernel name) true (is-enabled agree ∙ made) waits (nothing-unread space kernel name object agree))
fails-by space kernel key reader name object room errno true true agree waits made is = absurd (none-some errno is)

pub no-message : (space : Space) (kernel : Kernel) (key : ℕ) (reader : Option ℕ) (name : ℕ) (object : Object) (room : Option ℕ) (errno : Errno) → Agree space kernel name object → object.waits ≡ false → read_error space ≡ Some errno →
    Takes (read kernel key reader name object room [] (Failed (number_of errno) None)) space name
no-message space kernel key reader name object room errno agree waits is = fails-by space kernel key reader name object room errno space.object.enabled (is_some (next_message space.object)) agree waits refl is
