-- Slices that migrate side by side: each has two drivers, with nodes, channels and logs of its own.
use Rattle.std.specs.Prelude.{◌≡◌, ℕ, ◌/◌, Bool, List, map}
use Rattle.foundation.specs.declared.TheConstants.{PAGE_SIZE}
use Rattle.mig_base.specs.declared.command.Entry.{Entry}
use Rattle.mig_base.specs.Flat.{Memory}
use Rattle.mig_model.specs.Host.{memory}
use Rattle.mig_model.specs.Source.{is_released}
use Rattle.mig_laws.specs.Drivers.{AreDeeds, Deed, Drivers, entries_of, first_drivers, host_with}
use Rattle.slice_laws.specs.Slices.{Act, Cut, acts_in}

-- an entry, whichever thread of the guest made it: a processor of a node is the place that a thread has while it waits, and another one's later
abbrev pub unnamed : Entry → Entry
unnamed entry = record entry { cpu = 0 }

-- the migration of one slice by two drivers, whatever becomes of their channels. What took effect there are the given entries: those at the
-- source, and after them those at the destination
pub record Migration (entries : List Entry) : Type 0 where
  pub cpus : ℕ
  pub epoch : ℕ
  pub rounds : ℕ
  pub deeds : List Deed
  pub last : Drivers
  pub are : AreDeeds cpus (first_drivers cpus epoch rounds) deeds last
  pub entered : map unnamed entries ≡ map unnamed (entries_of last)

-- each slice has one
abbrev pub Migrations : Cut → List Act → Type 0
Migrations cut acts = (slice : ℕ) → Migration (acts_in cut slice acts)

-- what the driver of each slice's destination has
abbrev pub held : (cut : Cut) (acts : List Act) → Migrations cut acts → ℕ → Memory
held cut acts migrations slice = memory (host_with (migrations slice).last.nodes.destination.guest (migrations slice).last.there.held.pages)

-- whether the source of the slice that has an address is released
abbrev pub is_moved : (cut : Cut) (acts : List Act) → Migrations cut acts → ℕ → Bool
is_moved cut acts migrations addr = is_released (migrations (cut.slice (addr / PAGE_SIZE))).last.nodes.source.phase
