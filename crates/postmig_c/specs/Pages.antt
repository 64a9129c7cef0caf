-- What a destination has at its pages: what its driver maps, gives back and puts.
use Rattle.std.specs.Prelude.{◌≡◌, ◌≢◌, ◌⊎◌, ℕ, ◌+◌, ◌<◌, ◌≤◌, if◌then◌else◌, Option, Some, None}
use Rattle.std.specs.FinMap.{get, contains_key}
use Rattle.mig_base.specs.declared.TheConstants.{HIGH_PAGE}
use Rattle.mig_base.specs.declared.Prot.{Prot}
use Rattle.mig_model.specs.Destination.{Destination}
use Rattle.postmig_c.specs.Commands.{prot_number}
use Rattle.postmig_c.specs.declared.pages.PageKind.{PageKind}
use Rattle.postmig_c.specs.declared.pages.PageRun.{PageRun}

-- what a mapped page is: 2 present, 3 owed, else 1 missing
abbrev pub state_at : Destination → ℕ → ℕ
state_at node page = if contains_key node.guest.space.host.bytes page then 2 else if contains_key node.owed page then 3 else 1

-- the protection and the state of a page, by the protection with which it is mapped; of one that is not mapped both are 0
abbrev pub kind_by : Destination → ℕ → Option Prot → PageKind
kind_by node page None = record { prot = 0; state = 0 }
kind_by node page (Some prot) = record { prot = prot_number prot; state = state_at node page }

-- the protection and the state of a page
abbrev pub page_kind : Destination → ℕ → PageKind
page_kind node page = kind_by node page (get node.guest.space.host.areas page)

-- the protection and the state of each page of a run
abbrev pub run_kind : PageRun → PageKind
run_kind run = record { prot = run.prot; state = run.state }

-- the run of pages from this one on that are alike: all are of this kind, and the page after them is not, or lies past the last page
pub record IsRunFrom (node : Destination) (from : ℕ) (run : PageRun) : Type 0 where
  pub some : 0 < run.count
  pub inside : from + run.count ≤ HIGH_PAGE
  pub alike : (page : ℕ) → from ≤ page → page < from + run.count → page_kind node page ≡ run_kind run
  pub ends : (from + run.count ≡ HIGH_PAGE) ⊎ (page_kind node (from + run.count) ≢ run_kind run)
