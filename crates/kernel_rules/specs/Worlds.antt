-- What a table of a run holds.
use Rattle.std.specs.Prelude.{ℕ, Bool, if◌then◌else◌, Option, Some, None, option_map}
use Rattle.std.specs.Borrow.{Bor}
use Rattle.kernel_rules.specs.declared.certify.Way.{Way}
use Rattle.kernel_rules.specs.declared.certify.Way.TheVariants as way
use Rattle.kernel_rules.specs.declared.certify.WorldTable.{WorldTable}
use Rattle.kernel_rules.specs.declared.run.Entry.{Entry}
use Rattle.kernel_rules.specs.declared.run.Made.{Made}
use Rattle.kernel_rules.specs.Certified.{Place, outcome_in}
use Rattle.kernel_rules.specs.Held.{kernel_of}
use Rattle.kernel_rules.specs.Runs.{Event, Outcome, all_left, event_of, none_left, refuses, starts, takes}
use Rattle.kernel_rules.specs.State.{Kernel}

-- the place that a table holds
abbrev pub place_of : WorldTable → Place
place_of table = record { kernel = kernel_of table.kernel; begun = table.begun.items; next = table.next }

-- the place, if a move was made
abbrev pub if_made : Bool → Place → Option Place
if_made made place = if made then Some place else None

-- the event of the entry that a move looks at, if there is one
abbrev pub event_seen : Option (Bor Entry) → Option Event
event_seen seen = option_map (λ (e : Bor Entry). event_of e.now) seen

-- its outcome, if a call ends there
abbrev pub outcome_seen : Option (Bor Entry) → Option Outcome
outcome_seen seen = outcome_in (event_seen seen)

-- the rule by which a call takes effect
abbrev pub rule_of : Way → Kernel → Made → Outcome → Option Kernel
rule_of way.Whole = takes
rule_of way.Refused = refuses
rule_of way.Begun = starts

-- how many messages it has left then
abbrev pub left_of : Way → Outcome → ℕ
left_of way.Whole = none_left
left_of way.Refused = none_left
left_of way.Begun = all_left
