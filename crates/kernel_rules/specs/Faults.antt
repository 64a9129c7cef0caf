-- What threads do that no line of a log shows: they find a page missing or write-protected, queue a fault, sleep, and leave it.
use Rattle.std.specs.Prelude.{ℕ, ◌==◌, ◌&&◌, ◌||◌, not, nat_lt, Bool, true, false, if◌then◌else◌, Option, Some, None, is_some, List, [], ◌∷◌, ◌++◌, filter, filter_map}
use Rattle.std.specs.List.{list_any}
use Rattle.foundation.specs.Ranges.{in_range}
use Rattle.kernel_rules.specs.declared.fault.Fault.{Fault}
use Rattle.kernel_rules.specs.Pages.{is_missing, is_of_minor, is_poisoned, may_be_missing, is_of_protection, shown}
use Rattle.kernel_rules.specs.declared.difference.Difference.TheVariants.{FaultOfEachThread, FaultTakenAway, FaultOnItsWay, LeftByASignal}
use Rattle.kernel_rules.specs.declared.known.Phase.{Phase}
use Rattle.kernel_rules.specs.declared.known.Phase.TheVariants.{Seen, Unread, Asleep}
use Rattle.kernel_rules.specs.declared.known.Page.{Page}
use Rattle.kernel_rules.specs.declared.fault.Reach.{Reach}
use Rattle.kernel_rules.specs.declared.fault.Reach.TheVariants.{Everywhere, Within}
use Rattle.kernel_rules.specs.State.{Kernel, page_is, pages_changed, of_object, allowed, noted_if}

-- the thread has looked at its page, and has queued nothing yet
abbrev pub is_seen : Phase → Bool
is_seen Seen = true
is_seen Unread = false
is_seen Asleep = false

-- the message of the fault is queued and unread
abbrev pub is_unread : Phase → Bool
is_unread Seen = false
is_unread Unread = true
is_unread Asleep = false

-- whether an access with these flags has to wait at a page that is registered with the object: it may be missing, and is registered for
-- that; it may not be mapped, which is a minor fault; or it may be write-protected. An access to a poisoned page is SIGBUS
abbrev pub stops_at : ℕ → ℕ → Page → Bool
stops_at object flags page =
    page.object == object && not (is_poisoned page.presence)
    && (if is_of_protection flags then page.protect && page.guarded && not (is_missing page.presence)
    else if is_of_minor flags then page.minor && may_be_missing page
    else page.missing && may_be_missing page)

-- whether a thread still has to wait
abbrev pub must_wait : Kernel → ℕ → Fault → Bool
must_wait kernel space fault = page_is (stops_at fault.object fault.flags) (kernel.pages space fault.page)

-- the fault of a thread, if it waits
abbrev pub fault_of : List Fault → ℕ → Option Fault
fault_of [] thread = None
fault_of (fault ∷ faults) thread = if fault.thread == thread then Some fault else fault_of faults thread

-- whether a thread waits
abbrev pub waits : Kernel → ℕ → Bool
waits kernel thread = is_some (fault_of kernel.faults thread)

-- whether flags are those of a fault: UFFD_PAGEFAULT_FLAG_WRITE is bit 0, UFFD_PAGEFAULT_FLAG_WP bit 1, which only a write gets, and
-- UFFD_PAGEFAULT_FLAG_MINOR bit 2, which comes without WP
abbrev pub are_flags : ℕ → Bool
are_flags flags = nat_lt flags 6 && not (flags == 2)

-- a thread finds that it has to wait at a page
abbrev pub sees : Kernel → ℕ → ℕ → ℕ → ℕ → Option Kernel
sees kernel thread object page flags = of_object (kernel.objects object) (λ o.
    allowed (not (waits kernel thread) && are_flags flags && page_is (stops_at object flags) (kernel.pages o.space page))
    (record (pages_changed kernel o.space page 1 (shown (is_of_protection flags))) {
      faults = kernel.faults ++ record { thread = thread; object = object; page = page; flags = flags; phase = Seen; read_by = None } ∷ [];
    }))

-- the faults without that of a thread
abbrev pub faults_without : List Fault → ℕ → List Fault
faults_without faults thread = filter (λ (fault : Fault). not (fault.thread == thread)) faults

-- whether a fault of the same page and kind is unread
abbrev pub is_twin : Fault → Fault → Bool
is_twin fault other =
    is_unread other.phase && other.object == fault.object && other.page == fault.page
    && (is_of_protection fault.flags && is_of_protection other.flags || not (is_of_protection fault.flags) && not (is_of_protection other.flags))

-- what a rule says of the fault of a thread
abbrev pub of_fault : Option Fault → (Fault → Option Kernel) → Option Kernel
of_fault None rule = None
of_fault (Some fault) rule = rule fault

-- a thread that has seen its page queues its fault, whether or not it still has to wait
abbrev pub queues : Kernel → ℕ → Option Kernel
queues kernel thread = of_fault (fault_of kernel.faults thread) (λ fault. of_object (kernel.objects fault.object) (λ o.
    allowed (is_seen fault.phase)
    (noted_if (list_any (is_twin fault) kernel.faults) FaultOfEachThread
    (noted_if (not (must_wait kernel o.space fault)) FaultOnItsWay
    (record kernel { faults = faults_without kernel.faults fault.thread ++ record fault { phase = Unread } ∷ [] })))))

-- the read of a fault that has to be answered, where it is to be counted
abbrev pub left_unanswered : (Fault → Bool) → Fault → Option ℕ
left_unanswered test fault = if test fault then fault.read_by else None

-- the kernel once the faults that pass the test are over. Where no call of the handler answers them they are counted
abbrev pub faults_over : Kernel → (Fault → Bool) → Bool → Kernel
faults_over kernel test answered =
    record kernel {
      faults = filter (λ (fault : Fault). not (test fault)) kernel.faults;
      unanswered = kernel.unanswered ++ (if answered then [] else filter_map (left_unanswered test) kernel.faults);
    }

-- the fault is this thread's
abbrev pub is_of_thread : ℕ → Fault → Bool
is_of_thread thread fault = fault.thread == thread

-- a thread leaves its fault: it looks once more before it sleeps, and need not wait; or a signal comes
abbrev pub leaves : Kernel → ℕ → Option Kernel
leaves kernel thread = of_fault (fault_of kernel.faults thread) (λ fault. of_object (kernel.objects fault.object) (λ o.
    Some (noted_if (must_wait kernel o.space fault) LeftByASignal (faults_over kernel (is_of_thread thread) false))))

-- whether a fault sleeps in a range of the object's pages
abbrev pub sleeps_in : ℕ → ℕ → ℕ → Fault → Bool
sleeps_in object first count fault = fault.object == object && in_range first count fault.page && not (is_seen fault.phase)

-- whether a fault sleeps anywhere in the object's pages
abbrev pub sleeps_at : ℕ → Fault → Bool
sleeps_at object fault = fault.object == object && not (is_seen fault.phase)

-- whether a fault sleeps in those of the object's pages that a call is of
abbrev pub sleeps : ℕ → Reach → Fault → Bool
sleeps object Everywhere fault = sleeps_at object fault
sleeps object (Within first count) fault = sleeps_in object first count fault

-- whether an unread fault does
abbrev pub is_unread_in : ℕ → Reach → Fault → Bool
is_unread_in object reach fault = sleeps object reach fault && is_unread fault.phase

-- the threads that sleep on faults which pass the test are woken. An unread message goes with its sleeper
abbrev pub woken : Kernel → (Fault → Bool) → Bool → Kernel
woken kernel test answered =
    noted_if (list_any (λ (fault : Fault). test fault && is_unread fault.phase) kernel.faults) FaultTakenAway (faults_over kernel test answered)
