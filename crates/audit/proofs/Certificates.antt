-- What the checker of runs has shown of a log.
use Rattle.std.proofs.Common.{Bor, ◌≡◌, ◌==◌, ◌&&◌, ◌∙◌, ℕ, Bool, true, false, List, [], ◌∷◌, ◌++◌, length, Option, Some, None, if◌then◌else◌, refl, sym, ap, subst}
use Rattle.std.specs.Prelude.{IfSome, option_map, slice_get}
use Rattle.std.specs.Option.{option_copied}
use Rattle.kernel_rules.specs.declared.kernel_table.KernelTable.{KernelTable}
use Rattle.kernel_rules.specs.declared.run.Move.{Move}
use Rattle.kernel_rules.specs.declared.run.Entry.{Entry}
use Rattle.kernel_rules.specs.Certified.{IsCertified, IsReached, Place, certified, fresh_place, moved, moved_all, moved_by, seen_at, steps_of}
use Rattle.kernel_rules.specs.Held.{kernel_of}
use Rattle.kernel_rules.specs.Runs.{Event, event_of, finished}
use Rattle.kernel_rules.specs.State.{Kernel}
use Rattle.kernel_rules.specs.Worlds.{if_made}
use Rattle.kernel_rules.proofs.Laws.{moved_more}
use Rattle.log_entries.specs.declared.entry_reader.EntryReader.{EntryReader}
use Rattle.log_entries.specs.declared.log_line.LogLine.{LogLine}
use Rattle.log_entries.specs.Readers.{HasRead}
use Rattle.audit.specs.declared.certificate.Certificate.{Certificate}
use Rattle.audit.specs.declared.certificate.Certificate.TheVariants.{Certified, Missing}
use Rattle.audit.specs.declared.certificate.Missing.TheVariants.{Differs}
use Rattle.audit.specs.declared.certificate.Totals.{Totals}
use Rattle.audit.specs.declared.work.Unjudged.{Unjudged}
use Rattle.audit.specs.Certificates.{IsCertificate, IsCertifiedLog, MayBe, NeedsWork, certificate_from, totals_at_end}

pub may_be : (log : List Event) (run : List Move) (old new : KernelTable) (totals : Totals) → IsCertified log run (kernel_of old) → kernel_of new ≡ finished (kernel_of old) → totals.owed ≡ length new.owed.items → totals.twice ≡ length new.twice.items
    → MayBe log totals
unfolding kernel_of
may_be log run old new totals made done owed twice =
    let end : finished made.0.kernel ≡ kernel_of new = ap finished made.2 ∙ sym done in
    (steps_of log 0 run, made.0, made.1, owed ∙ sym (ap (λ (k : Kernel). length k.owed) end), twice ∙ sym (ap (λ (k : Kernel). length k.twice) end))

-- A run that is checked move by move

pub reached_first : (log : List Event) (first : Place) → first ≡ fresh_place → IsReached log first
reached_first log first fresh = ([], ap (λ (p : Place). Some p) (sym fresh))

pub made_more : (log : List Event) (mid after : Place) (step : Move) (made : Bool) → IsReached log mid → moved log mid step ≡ if_made made after → (run : List Move) × (moved_all log fresh_place run ≡ if_made made after)
made_more log mid after step made reached is = (reached.0 ++ step ∷ [], moved_more log fresh_place mid reached.0 step (if_made made after) reached.1 is)

pub reached_more : (log : List Event) (mid after : Place) (step : Move) (made : Bool) → IsReached log mid → moved log mid step ≡ if_made made after → made ≡ true → IsReached log after
reached_more log mid after step true reached is made = made_more log mid after step true reached is
reached_more log mid after step false reached is made = absurd (cc)

pub refused_more : (log : List Event) (mid after : Place) (step : Move) (made : Bool) → IsReached log mid → moved log mid step ≡ if_made made after → made ≡ false → (run : List Move) × (moved_all log fresh_place run ≡ if_made false after)
refused_more log mid after step true reached is made = absurd (cc)
refused_more log mid after step false reached is made = made_more log mid after step false reached is

-- the event of an entry that is lent
seen_event : (seen : Option (Bor Entry)) (found : Option Entry) → option_copied seen ≡ found → option_map (λ (e : Bor Entry). event_of e.now) seen ≡ option_map event_of found
seen_event None found copied = ap (option_map event_of) copied
seen_event (Some one) found copied = ap (option_map event_of) copied

pub seen_moved : (log : List Event) (mid after : Place) (step : Move) (made : Bool) (at : ℕ) (found : Option Entry) (seen : Option (Bor Entry)) → at ≡ seen_at mid.next step → option_map event_of found ≡ slice_get log at → option_copied seen ≡ found
    → moved_by (option_map (λ (e : Bor Entry). event_of e.now) seen) mid step ≡ if_made made after → moved log mid step ≡ if_made made after
seen_moved log mid after step made at found seen here is copied by =
    let e : option_map (λ (e : Bor Entry). event_of e.now) seen ≡ slice_get log (seen_at mid.next step) = seen_event seen found copied ∙ is ∙ ap (slice_get log) here in
    ap (λ (o : Option Event). moved_by o mid step) (sym e) ∙ by

-- The numbers that the checker finds

pub none_found : (log : List Event) (run : List Move) (found : Option KernelTable) → option_map kernel_of found ≡ certified log run → found ≡ None → None ≡ option_map totals_at_end (certified log run)
none_found log run found exact none = subst (λ (f : Option KernelTable). None ≡ option_map totals_at_end (option_map kernel_of f)) (sym none) refl ∙ ap (option_map totals_at_end) exact

abbrev pub totals_with : ℕ → ℕ → Totals
totals_with owed twice = record { owed = owed; twice = twice }

same_totals : (a b c d : ℕ) → a ≡ c → b ≡ d → totals_with a b ≡ totals_with c d
same_totals a b c d e f = ap (λ (x : ℕ). totals_with x b) e ∙ ap (λ (y : ℕ). totals_with c y) f

pub some_found : (log : List Event) (run : List Move) (found : Option KernelTable) (old new : KernelTable) (owed twice : ℕ) → option_map kernel_of found ≡ certified log run → found ≡ Some old → kernel_of new ≡ finished (kernel_of old) → owed ≡ length new.owed.items → twice ≡ length new.twice.items
    → Some (totals_with owed twice) ≡ option_map totals_at_end (certified log run)
unfolding kernel_of
some_found log run found old new owed twice exact some done is_owed is_twice =
    let here : Some (kernel_of old) ≡ certified log run = ap (option_map kernel_of) (sym some) ∙ exact in
    let owes : owed ≡ length (finished (kernel_of old)).owed = is_owed ∙ ap (λ (k : Kernel). length k.owed) done in
    let puts : twice ≡ length (finished (kernel_of old)).twice = is_twice ∙ ap (λ (k : Kernel). length k.twice) done in
    ap (λ (t : Totals). Some t) (same_totals _ _ _ _ owes puts) ∙ ap (option_map totals_at_end) here

-- A certificate

pub needs_work : (made : Certificate) (nothing : Option Unjudged) → nothing ≡ None → NeedsWork made nothing
needs_work (Certified totals) nothing none = none
needs_work (Missing why) nothing none = tt

made_of : (reader : EntryReader) (log : List Event) (totals : Totals) → reader.whole ≡ true → log ≡ reader.entries → MayBe log totals → (lines : List LogLine) → HasRead lines reader → IsCertifiedLog lines totals
made_of reader log totals whole is may lines has =
    let h = has whole in
    (reader.entries, h.events, subst (λ (l : List Event). MayBe l totals) is may)

decided : (reader : EntryReader) (found : Totals) (same : Bool) → ((lines : List LogLine) → HasRead lines reader → IsCertifiedLog lines found) → IsCertificate reader (if same then Certified found else Missing Differs)
decided reader found true is = is
decided reader found false is = tt

from_found : (reader : EntryReader) (log : List Event) (found : Option Totals) (wanted : Totals) → reader.whole ≡ true → log ≡ reader.entries → IfSome found (MayBe log) → IsCertificate reader (certificate_from found wanted)
from_found reader log None wanted whole is may = tt
from_found reader log (Some totals) wanted whole is may = decided reader totals (totals.owed == wanted.owed && totals.twice == wanted.twice) (made_of reader log totals whole is may)

pub certificate : (reader : EntryReader) (log : List Event) (found : Option Totals) (wanted : Totals) (made : Certificate) → made ≡ certificate_from found wanted → reader.whole ≡ true → log ≡ reader.entries → IfSome found (MayBe log) → IsCertificate reader made
certificate reader log found wanted made by whole is may = subst (λ (m : Certificate). IsCertificate reader m) (sym by) (from_found reader log found wanted whole is may)

-- a certificate of entries in which more was put is one of those that were read
pub certificate_before : (old new : EntryReader) (made : Certificate) → ((lines : List LogLine) → HasRead lines old → HasRead lines new) → IsCertificate new made → IsCertificate old made
certificate_before old new (Certified totals) keeps is = λ lines has. is lines (keeps lines has)
certificate_before old new (Missing why) keeps is = tt
