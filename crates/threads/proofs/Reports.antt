-- A report and its parts.
use Rattle.std.proofs.Common.{arith, ◌≡◌, ℕ, List, [], ◌++◌, length, subst, sym, ap, ◌∙◌, append_assoc, true, false, Bool, not}
use Rattle.std.specs.Prelude.{Option, Result, Ok, Err, OnOk}
use Rattle.mig_base.specs.Flat.{IsFlatRun}
use Rattle.mig_base.specs.declared.command.Entry.{Entry}
use Rattle.mig_model.specs.Migration.{World}
use Rattle.rig.specs.declared.rig.CloseFault.{CloseFault}
use Rattle.rig.specs.Seats.{Handed, Seat, AreAnswered, answers_of, list_of}
use Rattle.threads.specs.Report.{IsHistory, report_lines, seat_lines, verdict_lines}

-- the answers of seats with which a rig was closed whose opening is empty
pub history : (rig : Handed) (seats : List Seat) (world : World) → rig.opening ≡ [] → IsFlatRun world.transcript → AreAnswered rig seats world.transcript (length world.source.guest.cpus) → IsHistory seats world
history rig seats world none flat answered = record {
  flat = flat;
  answers = λ k is. subst (λ (o : List Entry). answers_of k world.transcript ≡ answers_of k o ++ list_of k seats) none (answered.answers k is);
  count = let count = answered.count in grind arith;
}

-- what is appended for the seats, and then for the rest
pub printed : {E : Type 0} → (outcome : Result (Unit {0}) E) (old mid new : List ℕ) (seats all : List Seat) (entries others : List Entry) (fault : Option CloseFault) → seats ≡ all → entries ≡ others → mid ≡ old ++ seat_lines seats
    → OnOk outcome (new ≡ mid ++ verdict_lines (length entries) fault) → OnOk outcome (new ≡ old ++ report_lines all (length others) fault)
printed (Ok done) old mid new seats all entries others fault same told first last =
    let verdict = verdict_lines (length entries) fault in
    let whole : new ≡ old ++ report_lines seats (length entries) fault = last ∙ ap (λ m. m ++ verdict) first ∙ append_assoc old (seat_lines seats) verdict in
    subst (λ (es : List Entry). new ≡ old ++ report_lines all (length es) fault) told (subst (λ (ss : List Seat). new ≡ old ++ report_lines ss (length entries) fault) same whole)
printed (Err fault) old mid new seats all entries others found same told first last = tt
