-- Certificates: what the checker of runs has shown of a log.
use Rattle.std.specs.Prelude.{◌≡◌, ℕ, ◌==◌, ◌&&◌, if◌then◌else◌, List, length, Option, Some, None}
use Rattle.kernel_rules.specs.Runs.{Event, Step, World, IsRun, finished}
use Rattle.kernel_rules.specs.State.{Kernel}
use Rattle.log_entries.specs.declared.entry_reader.EntryReader.{EntryReader}
use Rattle.log_entries.specs.declared.log_line.LogLine.{LogLine}
use Rattle.log_entries.specs.Events.{HasEvents}
use Rattle.log_entries.specs.Readers.{HasRead}
use Rattle.call_log.specs.Listing.{IsLog}
use Rattle.audit.specs.declared.certificate.Certificate.{Certificate}
use Rattle.audit.specs.declared.certificate.Certificate.TheVariants.{Certified, Missing}
use Rattle.audit.specs.declared.certificate.Missing.TheVariants.{Refused, Differs}
use Rattle.audit.specs.declared.certificate.Totals.{Totals}
use Rattle.audit.specs.declared.work.Unjudged.{Unjudged}

-- a kernel may have written a log with these events, and owes at its end and has put twice as many pages as this
abbrev pub MayBe : List Event → Totals → Type 0
MayBe events totals =
    (steps : List Step) × (last : World) × IsRun events steps last × (totals.owed ≡ length (finished last.kernel).owed) × (totals.twice ≡ length (finished last.kernel).twice)

-- the same of a log with these lines
abbrev pub IsCertifiedLog : List LogLine → Totals → Type 0
IsCertifiedLog lines totals = (events : List Event) × HasEvents lines events × MayBe events totals

-- what a certificate promises, where these entries were read
abbrev pub IsCertificate : EntryReader → Certificate → Type 0
IsCertificate entries (Certified totals) = (lines : List LogLine) → HasRead lines entries → IsCertifiedLog lines totals
IsCertificate entries (Missing why) = Unit {0}

-- a run is certified only of a log that has something to judge
abbrev pub NeedsWork : Certificate → Option Unjudged → Type 0
NeedsWork (Certified totals) nothing = nothing ≡ None
NeedsWork (Missing why) nothing = Unit {0}

-- a kernel may have written this input, and owes at its end and has put twice as many pages as this
abbrev pub IsCertifiedInput : List ℕ → Totals → Type 0
IsCertifiedInput input totals = (lines : List LogLine) × IsLog input lines × IsCertifiedLog lines totals

-- what a certificate promises of an input
abbrev pub Shows : Certificate → List ℕ → Type 0
Shows (Certified totals) input = IsCertifiedInput input totals
Shows (Missing why) input = Unit {0}

-- The checker's word

-- how many pages a kernel owes and has put twice at the end of a log
abbrev pub totals_at_end : Kernel → Totals
totals_at_end kernel = record { owed = length (finished kernel).owed; twice = length (finished kernel).twice }

-- the certificate where the checker has found these numbers, or has not taken the run, and the search has found those
abbrev pub certificate_from : Option Totals → Totals → Certificate
certificate_from None wanted = Missing Refused
certificate_from (Some found) wanted = if found.owed == wanted.owed && found.twice == wanted.twice then Certified found else Missing Differs
