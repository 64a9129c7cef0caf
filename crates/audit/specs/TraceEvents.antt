-- Waits and findings as events of a trace: an array of JSON with an object for each, on a line of its own.
use Rattle.std.specs.Prelude.{◌≡◌, ℕ, ◌/◌, ◌%◌, List, [], ◌++◌, length, codes, Bool, true, false}
use Rattle.std.specs.List.{flat_map}
use Rattle.std.specs.Fmt.{decimal}
use Rattle.audit.specs.declared.audit.Asked.{Asked}
use Rattle.audit.specs.declared.audit.Verdict.{Verdict}
use Rattle.audit.specs.declared.audit.Verdict.TheVariants as verdict

-- nanoseconds as microseconds with three decimals
abbrev pub microseconds : ℕ → List ℕ
microseconds time = decimal (time / 1000) ++ (codes "." ++ (decimal (time / 100 % 10) ++ (decimal (time / 10 % 10) ++ decimal (time % 10))))

-- an event of these fields, after which another one comes
abbrev pub event_line : List ℕ → List ℕ
event_line fields = codes "{" ++ (fields ++ codes "},\n")

-- this number of events was added
abbrev pub AddsEvents : ℕ → List ℕ → List ℕ → Type 0
AddsEvents count before after = (events : List (List ℕ)) × (length events ≡ count) × (after ≡ before ++ flat_map event_line events)

-- an array of this number of waits and of findings, and of the end of the log
abbrev pub IsTrace : ℕ → ℕ → List ℕ → Type 0
IsTrace waits findings text =
    (spans : List (List ℕ)) × (marks : List (List ℕ)) × (last : List ℕ) × (length spans ≡ waits) × (length marks ≡ findings)
    × (text ≡ codes "[\n" ++ flat_map event_line spans ++ flat_map event_line marks ++ codes "{" ++ last ++ codes "}\n]\n")

-- an array of events
abbrev pub IsAnyTrace : List ℕ → Type 0
IsAnyTrace text = (waits : ℕ) × (findings : ℕ) × IsTrace waits findings text

-- the events that are put out of a log: an array where they are asked for, or else nothing
abbrev pub AreEvents : Asked → List ℕ → Type 0
AreEvents asked text = traces asked.traces where
  traces : Bool → Type 0
  traces true = IsAnyTrace text
  traces false = text ≡ []

-- what is added to them: those of a log that was judged
abbrev pub IsTraced : Asked → Verdict → List ℕ → List ℕ → Type 0
IsTraced asked verdict.Wrong before after = after ≡ before
IsTraced asked said before after = (text : List ℕ) × AreEvents asked text × (after ≡ before ++ text)
