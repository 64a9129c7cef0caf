-- The pair after a line of either side, and lines that need no channel.
use Rattle.std.proofs.Common.{◌≡◌, ◌||◌, Bool, true, false, List, [], ◌∷◌, ◌++◌, refl, sym}
use Rattle.std.specs.Prelude.{Result, Ok, Err, IsOk}
use Rattle.std.proofs.lemmas.Bool.{false≢true}
use Rattle.mig_base.specs.declared.refusal.Refusal.{Refusal}
use Rattle.mig_base.specs.declared.schedule.Step.{Step}
use Rattle.mig_model.specs.Destination.{Destination}
use Rattle.mig_model.specs.Source.{Source}
use Rattle.mig_model.specs.Wire.{Sent, sending, sending_if}
use Rattle.mig_laws.specs.Orders.{Pair, TakesFront, TakesUrgentFront, destination_may, is_alone, is_resume, source_may}
use Rattle.mig_laws.specs.Sides.{Did, Line, destination_line, node_by, source_line}

-- the source makes lines by itself that need no channel, and refuses none of them
abbrev pub IsSourceAlone : Source → List Line → Type 0
IsSourceAlone node [] = Unit {0}
IsSourceAlone node (line ∷ lines) = (is_alone line ≡ true) × IsOk (source_line node line) × IsSourceAlone (node_by node (source_line node line)) lines

-- the same of the destination
abbrev pub IsDestinationAlone : Destination → List Line → Type 0
IsDestinationAlone node [] = Unit {0}
IsDestinationAlone node (line ∷ lines) = (is_alone line ≡ true) × IsOk (destination_line node line) × IsDestinationAlone (node_by node (destination_line node line)) lines

-- One line

-- the pair after a line of the source
abbrev pub after_here : Pair → Line → Did Source → List Sent → Pair
after_here old line did back =
    record old {
      source = did.node;
      forward = sending old.forward did.node.epoch did.frames;
      urgent = sending old.urgent did.node.epoch did.urgent;
      back = back;
      up = is_resume line || old.up;
      at_source = old.at_source ++ did.entries;
    }

-- the pair after a line of the destination
abbrev pub after_there : Pair → Did Destination → List Sent → List Sent → Pair
after_there old did forward urgent =
    record old {
      destination = did.node;
      forward = forward;
      urgent = urgent;
      back = sending_if old.up old.back did.node.epoch did.frames;
      at_destination = old.at_destination ++ did.entries;
    }

-- a line of the source may come wherever the link is as it was, but for Resume
pub source-may-still : (up one other : Bool) (line : Line) → is_resume line ≡ false → source_may up one line ≡ true → source_may up other line ≡ true
source-may-still up one other (Line.Made Step.Resume) not_resume may = absurd (false≢true (sym not_resume))
source-may-still up one other (Line.Made _) not_resume may = may
source-may-still up one other (Line.Took sent) not_resume may = may
source-may-still up one other (Line.TookUrgent sent) not_resume may = may

-- Alone

pub got : {Node : Type 0} (given : Result (Did Node) Refusal) → IsOk given → (did : Did Node) × (given ≡ Ok did)
got (Ok did) ok = (did, refl)
got (Err refusal) ok = absurd (false≢true ok)

pub alone-may : (paused : Bool) (line : Line) → is_alone line ≡ true → source_may false paused line ≡ true
alone-may paused (Line.Made Step.Start) alone = absurd (false≢true alone)
alone-may paused (Line.Made Step.Resume) alone = absurd (false≢true alone)
alone-may paused (Line.Made (Step.Notice side)) alone = refl
alone-may paused (Line.Made _) alone = alone
alone-may paused (Line.Took sent) alone = absurd (false≢true alone)
alone-may paused (Line.TookUrgent sent) alone = absurd (false≢true alone)

pub alone-takes : (line : Line) (flight : List Sent) → is_alone line ≡ true → TakesFront line flight flight
alone-takes (Line.Made step) flight alone = refl
alone-takes (Line.Took sent) flight alone = absurd (false≢true alone)
alone-takes (Line.TookUrgent sent) flight alone = refl

pub alone-urgent : (line : Line) (flight : List Sent) → is_alone line ≡ true → TakesUrgentFront line flight flight
alone-urgent (Line.Made step) flight alone = refl
alone-urgent (Line.Took sent) flight alone = refl
alone-urgent (Line.TookUrgent sent) flight alone = absurd (false≢true alone)

pub alone-resume : (line : Line) → is_alone line ≡ true → is_resume line ≡ false
alone-resume (Line.Made Step.Resume) alone = absurd (false≢true alone)
alone-resume (Line.Made _) alone = refl
alone-resume (Line.Took sent) alone = refl
alone-resume (Line.TookUrgent sent) alone = refl

pub there-may : (line : Line) → is_alone line ≡ true → destination_may false line ≡ true
there-may (Line.Made (Step.Notice side)) alone = refl
there-may (Line.Made _) alone = refl
there-may (Line.Took sent) alone = absurd (false≢true alone)
there-may (Line.TookUrgent sent) alone = absurd (false≢true alone)
