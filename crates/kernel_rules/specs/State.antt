-- What a kernel has: userfault objects, the pages that are registered with them, the threads that sleep, and the map calls under way.
-- Address spaces, objects and threads are numbers; a page is the number of its first byte divided by the page size, without a bound.
use Rattle.std.specs.Prelude.{ℕ, ◌+◌, ◌%◌, ◌^◌, ◌==◌, ◌&&◌, ◌||◌, not, nat_le, nat_lt, Bool, true, false, if◌then◌else◌, Option, Some, None, is_some, List, [], ◌∷◌, ◌++◌}
use Rattle.foundation.specs.declared.TheConstants.{PAGE_SIZE}
use Rattle.foundation.specs.Bits.{is_one}
use Rattle.foundation.specs.Ranges.{in_range, none_below}
use Rattle.foundation.specs.Tests.{is_every}
use Rattle.kernel_rules.specs.Changes.{page_with}
use Rattle.kernel_rules.specs.declared.calling.Protecting.{Protecting}
use Rattle.kernel_rules.specs.declared.calling.Span.{Span}
use Rattle.kernel_rules.specs.declared.calling.Told.{Told}
use Rattle.kernel_rules.specs.declared.calling.Untold.{Untold}
use Rattle.kernel_rules.specs.declared.difference.Difference.{Difference}
use Rattle.kernel_rules.specs.declared.fault.Fault.{Fault}
use Rattle.kernel_rules.specs.declared.object.Object.{Object}
use Rattle.kernel_rules.specs.declared.object.Registration.{Registration}
use Rattle.kernel_rules.specs.declared.known.Page.{Page}

-- what a kernel has, as far as userfault objects are concerned
pub record Kernel : Type 0 where
  pub objects : ℕ → Option Object
  -- the ranges that were registered, also those that no longer are
  pub ranges : List Registration
  -- the registered pages of each address space
  pub pages : ℕ → ℕ → Option Page
  -- in the order in which the unread ones were queued
  pub faults : List Fault
  -- the map calls that have changed the map and have not returned, by their numbers, the oldest first
  pub calls : List ℕ
  -- the objects to which they have anything to tell
  pub told : List Told
  -- their events that are not read, those of each in the order in which the kernel queues them; and the calls whose next event is queued
  pub events : List Untold
  pub queued : List ℕ
  -- of MADV_DONTNEED and its like: the pages of which no REMOVE was read yet, and those that are to be cleared or freed then
  pub untold : List Span
  pub clears : List Span
  -- the pages that a UFFDIO_WRITEPROTECT under way has protected before its others
  pub protected : List Protecting
  -- what was done otherwise than by the model, the oldest first
  pub differs : List Difference
  -- the reads whose fault nobody has answered
  pub unanswered : List ℕ
  -- the pages, each with its space, that were registered for missing faults and missing when that ended
  pub owed : List (ℕ × ℕ)
  -- the calls that stopped at a page that was there: one that the log has put, or another
  pub twice : List ℕ
  pub there_before : List ℕ
  -- the calls on pages that are not registered
  pub outside : List ℕ

-- no object
abbrev pub fresh_kernel : Kernel
fresh_kernel =
    record {
      objects = λ object. None;
      ranges = [];
      pages = λ space page. None;
      faults = [];
      calls = [];
      told = [];
      events = [];
      queued = [];
      untold = [];
      clears = [];
      protected = [];
      differs = [];
      unanswered = [];
      owed = [];
      twice = [];
      there_before = [];
      outside = [];
    }

-- Ranges of bytes

-- whether a range of bytes is one of whole pages that a process may have: the user's half of an address space has 2^56 bytes at the most
abbrev pub is_range : ℕ → ℕ → Bool
is_range start len = start % PAGE_SIZE == 0 && len % PAGE_SIZE == 0 && nat_lt 0 len && nat_le (start + len) (2 ^ 56)

-- whether a kernel may refuse a range as one that no process has: where the user's half has 2^47 bytes but for a page, or vm.mmap_min_addr
-- is the usual 64 KiB
abbrev pub may_be_outside : ℕ → ℕ → Bool
may_be_outside start len = nat_lt start 0x10000 || nat_lt 0x7ffffffff000 (start + len)

-- whether a word has no bit that another one lacks
abbrev pub is_within : ℕ → ℕ → Bool
is_within word other = none_below (λ i. is_one word i && not (is_one other i)) 64

-- Pages

-- a function of two numbers, changed at one row in a range
abbrev pub set_pages : {A : Type 0} → (ℕ → ℕ → A) → ℕ → ℕ → ℕ → (ℕ → A) → ℕ → ℕ → A
set_pages at space first count new = λ other page. if space == other && in_range first count page then new page else at other page

-- whether a page is registered, and passes a test
abbrev pub page_is : (Page → Bool) → Option Page → Bool
page_is test None = false
page_is test (Some page) = test page

-- whether each page of a range is registered, and passes a test
abbrev pub each_page : Kernel → ℕ → ℕ → ℕ → (Page → Bool) → Bool
each_page kernel space first count test = is_every (λ page. page_is test (kernel.pages space page)) first count

-- whether a page of a range is registered, and passes a test
abbrev pub some_page : Kernel → ℕ → ℕ → ℕ → (Page → Bool) → Bool
some_page kernel space first count test = not (is_every (λ page. not (page_is test (kernel.pages space page))) first count)

-- the kernel with the pages of a range changed where they are registered
abbrev pub pages_changed : Kernel → ℕ → ℕ → ℕ → (Page → Page) → Kernel
pages_changed kernel space first count change =
    record kernel { pages = set_pages kernel.pages space first count (λ page. page_with change (kernel.pages space page)) }

-- Objects

-- the kernel with an object
abbrev pub with_object : Kernel → ℕ → Object → Kernel
with_object kernel name object = record kernel { objects = λ other. if name == other then Some object else kernel.objects other }

-- what a rule says of an object that is open
abbrev pub of_object : Option Object → (Object → Option Kernel) → Option Kernel
of_object None rule = None
of_object (Some object) rule = rule object

-- the kernel, if a rule allows the answer
abbrev pub allowed : Bool → Kernel → Option Kernel
allowed allows kernel = if allows then Some kernel else None

-- whether an object asked for a feature, by its bit
abbrev pub asked_for : Object → ℕ → Bool
asked_for object bit = features_have object.features where
  features_have : Option ℕ → Bool
  features_have None = false
  features_have (Some features) = is_one features bit

-- whether the handshake was made
abbrev pub is_enabled : Object → Bool
is_enabled object = is_some object.features

-- the kernel with a difference noted
abbrev pub noted_if : Bool → Difference → Kernel → Kernel
noted_if true difference kernel = record kernel { differs = kernel.differs ++ difference ∷ [] }
noted_if false difference kernel = kernel
