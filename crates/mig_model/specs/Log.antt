-- The dirty log of the source: which pages have a right copy under way, which a round still has to send, which were sent, and the
-- faults that its handler has read and not resolved yet.
use Rattle.std.specs.Prelude.{ℕ, not, Option, List, []}
use Rattle.std.specs.Ordering.{nat_cmp}
use Rattle.std.specs.FinSet as finset
use Rattle.std.specs.FinSet.{FinSet, contains}
use Rattle.mig_base.specs.declared.TheConstants.{HIGH_PAGE}
use Rattle.mig_base.specs.declared.message.Message.{Message}
use Rattle.foundation.specs.Ranges.{least_below}
use Rattle.mig_base.specs.Sets.{pages_where, with_range, without}
use Rattle.mig_model.specs.Space.{Space}
use Rattle.mig_model.specs.Guest.{Fault, held_after, rest_held, is_changed_by, is_present}

-- Sets of pages

-- the empty set of pages
abbrev pub no_pages : FinSet nat_cmp
no_pages = finset.empty

-- the pages of one set that are not in another
abbrev pub less : FinSet nat_cmp → FinSet nat_cmp → FinSet nat_cmp
less set other = finset.retain set (λ page. not (contains other page))

-- the pages of a set that an event did not change
abbrev pub unchanged : FinSet nat_cmp → Message → FinSet nat_cmp
unchanged set message = finset.retain set (λ page. not (is_changed_by message page))

-- the present pages of a space
abbrev pub present : Space → FinSet nat_cmp
present space = pages_where (λ page. is_present space page)

-- the least page of a set
abbrev pub least_of : FinSet nat_cmp → Option ℕ
least_of set = least_below (contains set) HIGH_PAGE

-- The log

-- what the source knows of its pages in an epoch: QEMU's dirty bitmap has a bit for each page that is not clean
pub record Log : Type 0 where
  -- pages that were not written since they were sent, as far as the events that were read tell: their newest copy is right
  pub clean : FinSet nat_cmp
  -- pages that this round still has to send
  pub todo : FinSet nat_cmp
  -- pages that were sent in this epoch
  pub sent : FinSet nat_cmp
  -- faults that were read and not resolved yet, in the order in which they were read
  pub held : List Fault

-- nothing was sent, and no fault read
abbrev pub empty_log : Log
empty_log = record { clean = no_pages; todo = no_pages; sent = no_pages; held = [] }

-- the log as pre-copy begins again after a break: nothing was sent in the new epoch, and held faults stay
abbrev pub forgotten : Log → Log
forgotten log = record log { clean = no_pages; todo = no_pages; sent = no_pages }

-- the present pages that are not clean
abbrev pub dirty : Space → Log → FinSet nat_cmp
dirty space log = less (present space) log.clean

-- a page is sent: it is clean, and leaves the round
abbrev pub log_sent : Log → ℕ → Log
log_sent log page = record log { todo = finset.remove log.todo page; clean = finset.insert log.clean page; sent = finset.insert log.sent page }

-- the same for neighbouring pages that are sent in one run
abbrev pub log_run_sent : Log → ℕ → ℕ → Log
log_run_sent log first count =
    record log { todo = without log.todo first count; clean = with_range log.clean first count; sent = with_range log.sent first count }

-- a message is read: a fault is held, and an event's pages are neither clean nor to be sent
abbrev pub log_read : Log → Message → Log
log_read log message = record log { clean = unchanged log.clean message; todo = unchanged log.todo message; held = held_after log.held message }

-- the first held fault is resolved, and no page becomes dirty by it
abbrev pub log_resolved : Log → Log
log_resolved log = record log { held = rest_held log.held }

-- a page is unprotected, since a store faulted on it: it is no longer clean, and the first held fault is resolved
abbrev pub log_written : Log → ℕ → Log
log_written log page = record log { clean = finset.remove log.clean page; held = rest_held log.held }
