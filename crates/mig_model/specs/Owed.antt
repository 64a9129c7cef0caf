-- The pages that the destination still has to get, each with its origin, the page at the source that it is owed from; and the requests
-- for them.
use Rattle.std.specs.Prelude.{ℕ, zero, suc, ◌+◌, ◌-◌, ◌/◌, ◌==◌, ◌||◌, Bool, false, if◌then◌else◌, Option, Some, None, is_some, List, [], ◌∷◌, ◌++◌}
use Rattle.std.specs.Ordering.{nat_cmp}
use Rattle.std.specs.FinMap as finmap
use Rattle.std.specs.FinMap.{FinMap, get}
use Rattle.std.specs.FinSet.{FinSet, contains}
use Rattle.foundation.specs.declared.TheConstants.{PAGE_SIZE}
use Rattle.mig_base.specs.declared.TheConstants.{HIGH_PAGE}
use Rattle.mig_base.specs.declared.message.Message.{Message}
use Rattle.mig_base.specs.declared.message.Message.TheVariants.{PageFault, Remap, Remove, Unmap}
use Rattle.foundation.specs.Ranges.{in_range, least_below}
use Rattle.mig_base.specs.Pages.{put, remove_range, moved_range}
use Rattle.mig_base.specs.Sets.{pages_where}
use Rattle.mig_base.specs.Userfault.{Noted}
use Rattle.mig_model.specs.Guest.{is_changed_by}

-- the owed table: the origin at the source of each page that is still owed, by the page's place at the destination
abbrev pub Owed : Type 0
Owed = FinMap nat_cmp ℕ

-- the origin of each page once an event is applied: pages that are gone are no longer owed, and pages that moved are owed at their new
-- place. It is a function, to serve the table and the settled relation alike
abbrev pub owed_after : Message → (ℕ → Option ℕ) → ℕ → Option ℕ
owed_after (Remap from to len) owed page =
    if in_range (to / PAGE_SIZE) (len / PAGE_SIZE) page then owed (from / PAGE_SIZE + (page - to / PAGE_SIZE))
    else if in_range (from / PAGE_SIZE) (len / PAGE_SIZE) page then None
    else owed page
owed_after message owed page = if is_changed_by message page then None else owed page

-- the same of the table
abbrev pub owed_table_after : Message → Owed → Owed
owed_table_after (Remap from to len) owed = moved_range owed (from / PAGE_SIZE) (len / PAGE_SIZE) (to / PAGE_SIZE) (len / PAGE_SIZE) None
owed_table_after (Remove start end) owed = remove_range owed (start / PAGE_SIZE) (end / PAGE_SIZE - start / PAGE_SIZE)
owed_table_after (Unmap start end) owed = remove_range owed (start / PAGE_SIZE) (end / PAGE_SIZE - start / PAGE_SIZE)
owed_table_after (PageFault addr write wp tid) owed = owed

-- the settled relation: the owed table once the unread events are applied to it, in their order
abbrev pub settled_by : List Noted → (ℕ → Option ℕ) → ℕ → Option ℕ
settled_by [] owed = owed
settled_by (noted ∷ events) owed = settled_by events (owed_after noted.message owed)

-- whether a page is owed from this page of the source
abbrev pub owes_to : Owed → ℕ → ℕ → Bool
owes_to owed origin page = elim (get owed page) [ None ↦ false | Some other ↦ other == origin ]

-- the page at the destination where a page of the source is owed now, if any: the least, and in a reached world the only one
abbrev pub home : Owed → ℕ → Option ℕ
home owed origin = least_below (owes_to owed origin) HIGH_PAGE

-- the source pages that are owed somewhere: what a Recv lists
abbrev pub origins : Owed → FinSet nat_cmp
origins owed = pages_where (λ origin. is_some (home owed origin))

-- the table as the Package begins it: each owed page below a bound, owed from the source's page of the same number
unfoldable pub own_places : FinSet nat_cmp → ℕ → Owed
own_places owed zero = finmap.empty
own_places owed (suc bound) = put (own_places owed bound) bound (if contains owed bound then Some bound else None)

-- Requests

-- whether a source page was requested, and its copy not installed since
abbrev pub is_requested : List ℕ → ℕ → Bool
is_requested [] origin = false
is_requested (request ∷ requests) origin = request == origin || is_requested requests origin

-- the requests with one more at the end, unless it is among them
abbrev pub requesting : List ℕ → ℕ → List ℕ
requesting requests origin = if is_requested requests origin then requests else requests ++ origin ∷ []

-- the requests without that of a source page
abbrev pub without_request : List ℕ → ℕ → List ℕ
without_request [] origin = []
without_request (request ∷ requests) origin = if request == origin then requests else request ∷ without_request requests origin
