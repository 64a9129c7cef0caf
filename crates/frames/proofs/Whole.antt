-- A whole stream, from the first read on.
use Rattle.std.proofs.Common.{◌≡◌, ℕ, List, [], ◌++◌, Option, None, Some, Ok, Err, refl, sym, ap, subst, ◌∙◌, append_assoc, append-nil}
use Rattle.std.specs.Prelude.{IfSome, IfOk, IfErr, OnOk, Result}
use Rattle.std.specs.Io.KnownBytes.{Appends, Consumes, IsAtEnd}
use Rattle.std.proofs.KnownBytes.{Appends-nil, Appends-trans, Consumes-trans}
use Rattle.mig_model.specs.Destination.{Destination}
use Rattle.mig_model.specs.Wire.{Sent}
use Rattle.frame_decoder.specs.declared.fault.StreamFault.{StreamFault}
use Rattle.frame_decoder.specs.Streams.{Splits}
use Rattle.frame_decoder.proofs.Whole.{spells_none}
use Rattle.frames.specs.declared.fault.FramesFault.{FramesFault}
use Rattle.frames.specs.declared.fault.FramesFault.TheVariants as faults
use Rattle.frames.specs.declared.reader.FrameReader.{FrameReader}
use Rattle.frames.specs.Answers.{answer_lines, refusals, Adds}
use Rattle.frames.specs.Endings.{IsAnswered, IsWhole, IsAnsweredInPart, FramesStop}
use Rattle.frames.specs.Parts.{EndsBy, EndsWhole, HaltsInPiece, Passes, WritesSome}
use Rattle.frames.proofs.Answering.{adds_then}
use Rattle.frames.proofs.Pieces.{Taken, taken_then, lines_then, refusals_then, taken_fault, taken_some, taken_nothing}
use Rattle.engine.proofs.Whole.{input_is}

-- the run so far: what was read, the frames that it has, their lines, which were written, and how many were refused
pub record Ran (start : Destination) (r0 r1 : Option (List ℕ)) (reader : FrameReader) (w0 w1 : Option (List ℕ)) : Type 0 where
  pub consumed : List ℕ
  pub frames : List Sent
  pub consumes : Consumes r0 r1 consumed
  pub taken : Taken start consumed frames reader.decoder reader.taker.destination
  pub appends : Appends w0 w1 (answer_lines start frames)
  pub counts : Adds 0 (refusals start frames) reader.taker.refused

-- the frames of one piece more
refused_then : (start : Destination) (p q : FrameReader) (stream chunk : List ℕ) (frames : List Sent) (w1 w2 : Option (List ℕ)) → Taken start stream frames p.decoder p.taker.destination → Adds 0 (refusals start frames) p.taker.refused
    → (passed : Passes p chunk q w1 w2) → Adds 0 (refusals start (frames ++ passed.frames)) q.taker.refused
refused_then start p q stream chunk frames w1 w2 taken counts passed =
    subst (λ (n : ℕ). Adds 0 n q.taker.refused) (refusals_then start stream frames passed.frames p.decoder p.taker.destination taken)
    (adds_then 0 (refusals start frames) p.taker.refused (refusals p.taker.destination passed.frames) q.taker.refused counts passed.passed.count)

pub ran_then : (start : Destination) (p q : FrameReader) (chunk : List ℕ) (r0 r1 r2 w0 w1 w2 : Option (List ℕ)) → Ran start r0 r1 p w0 w1 → Consumes r1 r2 chunk → Passes p chunk q w1 w2 → Ran start r0 r2 q w0 w2
ran_then start p q chunk r0 r1 r2 w0 w1 w2 ran more passed = record {
  consumed = ran.consumed ++ chunk;
  frames = ran.frames ++ passed.frames;
  consumes = Consumes-trans r0 r1 r2 ran.consumed chunk ran.consumes more;
  taken = taken_then start ran.consumed chunk ran.frames passed.frames p.decoder q.decoder p.taker.destination q.taker.destination ran.taken passed.passed.fed passed.passed.node;
  appends = subst (Appends w0 w2) (lines_then start ran.consumed ran.frames passed.frames p.decoder p.taker.destination ran.taken)
      (Appends-trans w0 w1 w2 (answer_lines start ran.frames) (answer_lines p.taker.destination passed.frames) ran.appends passed.appends);
  counts = refused_then start p q ran.consumed chunk ran.frames w1 w2 ran.taken ran.counts passed;
}

-- ---- faults in what was read

appends_nil : (a b c : Option (List ℕ)) (bs : List ℕ) → Appends a b bs → Appends b c [] → Appends a c bs
appends_nil a b c bs p q = subst (Appends a c) (append-nil bs) (Appends-trans a b c bs [] p q)

-- a part of the lines, where those of the frames before were written
part_of : (start : Destination) (p : FrameReader) (input consumed chunk unread more : List ℕ) (frames : List Sent) (w0 w1 w2 : Option (List ℕ)) → input ≡ (consumed ++ chunk) ++ unread → Taken start consumed frames p.decoder p.taker.destination
    → Appends w0 w1 (answer_lines start frames) → WritesSome p chunk more w1 w2 → IsAnsweredInPart start input more w0 w2
part_of start p input consumed chunk unread more frames w0 w1 w2 whole taken appends some =
    let front = taken_some start consumed chunk unread frames some.frames p.decoder p.taker.destination taken some.begins in
    record {
      front = front.front;
      rest = front.rest;
      frames = frames ++ some.frames;
      version = front.version;
      written = answer_lines start frames ++ some.written;
      whole = whole ∙ front.whole;
      spells = front.spells;
      lines = sym (lines_then start consumed frames some.frames p.decoder p.taker.destination taken) ∙ ap (λ (l : List ℕ). answer_lines start frames ++ l) some.lines
          ∙ sym (append_assoc (answer_lines start frames) some.written more);
      appends = Appends-trans w0 w1 w2 (answer_lines start frames) some.written appends some.appends;
    }

halts_from : (start : Destination) (p : FrameReader) (input consumed chunk unread : List ℕ) (frames : List Sent) (fault : FramesFault) (r2 w0 w1 w2 : Option (List ℕ)) → input ≡ (consumed ++ chunk) ++ unread
    → Taken start consumed frames p.decoder p.taker.destination → Appends w0 w1 (answer_lines start frames) → HaltsInPiece p chunk fault w1 w2 → FramesStop start input r2 fault w0 w2
halts_from start p input consumed chunk unread frames (faults.Stream fault) r2 w0 w1 w2 whole taken appends q =
    let behind = taken_fault start consumed chunk unread frames p.decoder q.0.0 p.taker.destination fault taken q.0.1 in
    record {
      frames = frames;
      version = behind.version;
      splits = subst (λ (s : List ℕ). Splits None s frames [] (Some fault) behind.version) (sym whole) behind.splits;
      appends = appends_nil w0 w1 w2 (answer_lines start frames) appends q.1;
    }
halts_from start p input consumed chunk unread frames faults.Truncated r2 w0 w1 w2 whole taken appends q = absurd q
halts_from start p input consumed chunk unread frames faults.ReadFault r2 w0 w1 w2 whole taken appends q = absurd q
halts_from start p input consumed chunk unread frames faults.WriteFault r2 w0 w1 w2 whole taken appends q =
    (q.0, q.1, part_of start p input consumed chunk unread q.0 frames w0 w1 w2 whole taken appends q.2)
halts_from start p input consumed chunk unread frames faults.NoMemory r2 w0 w1 w2 whole taken appends q =
    part_of start p input consumed chunk unread [] frames w0 w1 w2 whole taken appends q

pub ran_halts : (start : Destination) (p : FrameReader) (chunk : List ℕ) (fault : FramesFault) (r0 r1 r2 w0 w1 w2 : Option (List ℕ)) → Ran start r0 r1 p w0 w1 → Consumes r1 r2 chunk → HaltsInPiece p chunk fault w1 w2
    → IfSome r0 (λ input. FramesStop start input r2 fault w0 w2)
ran_halts start p chunk fault r0 r1 r2 w0 w1 w2 ran more q = by_input r0 r2 (Consumes-trans r0 r1 r2 ran.consumed chunk ran.consumes more)
  where
    by_input : (r0 r2 : Option (List ℕ)) → Consumes r0 r2 (ran.consumed ++ chunk) → IfSome r0 (λ input. FramesStop start input r2 fault w0 w2)
    by_input None r2 c = tt
    by_input (Some x) None c = absurd c
    by_input (Some x) (Some y) c = halts_from start p x ran.consumed chunk y ran.frames fault (Some y) w0 w1 w2 c ran.taken ran.appends q

-- ---- the end of the input

-- the last piece, which is empty, was answered, and these bytes are held then
abbrev answered : (start : Destination) (p q : FrameReader) (input consumed held : List ℕ) (frames : List Sent) (w0 w1 w2 : Option (List ℕ)) → input ≡ consumed → Taken start consumed frames p.decoder p.taker.destination
    → Appends w0 w1 (answer_lines start frames) → (passed : Passes p [] q w1 w2) → q.decoder.fault ≡ None → q.decoder.bytes ≡ held → IsAnswered start input held None w0 w2
answered start p q input consumed held frames w0 w1 w2 whole taken appends passed none is =
    let now = taken_then start consumed [] frames passed.frames p.decoder q.decoder p.taker.destination q.taker.destination taken passed.passed.fed passed.passed.node in
    let same : consumed ++ [] ≡ input = append-nil consumed ∙ sym whole in
    record {
      frames = frames ++ passed.frames;
      version = q.decoder.version;
      splits = subst (λ (s : List ℕ). Splits None s (frames ++ passed.frames) held None q.decoder.version) same
          (subst (λ (h : List ℕ). Splits None (consumed ++ []) (frames ++ passed.frames) h None q.decoder.version) is
          (subst (λ (o : Option StreamFault). Splits None (consumed ++ []) (frames ++ passed.frames) q.decoder.bytes o q.decoder.version) none now.splits));
      appends = subst (Appends w0 w2) (lines_then start consumed frames passed.frames p.decoder p.taker.destination taken)
          (Appends-trans w0 w1 w2 (answer_lines start frames) (answer_lines p.taker.destination passed.frames) appends passed.appends);
    }

-- it had no fault
no_fault : (start : Destination) (p q : FrameReader) (consumed : List ℕ) (frames : List Sent) (w1 w2 : Option (List ℕ)) → Taken start consumed frames p.decoder p.taker.destination → Passes p [] q w1 w2 → q.decoder.fault ≡ None
no_fault start p q consumed frames w1 w2 taken passed =
    (taken_nothing start consumed frames passed.frames p.decoder q.decoder p.taker.destination q.taker.destination passed.passed.fed.0 taken
    (taken_then start consumed [] frames passed.frames p.decoder q.decoder p.taker.destination q.taker.destination taken passed.passed.fed passed.passed.node)).fault

ends_whole : (start : Destination) (p q : FrameReader) (r0 r1 r2 w0 w1 w2 : Option (List ℕ)) → Ran start r0 r1 p w0 w1 → Consumes r1 r2 [] → IsAtEnd r2 → EndsWhole p q w1 w2 → IfSome r0 (λ input. IsWhole start input q.taker.refused w0 w2)
ends_whole start p q None r1 r2 w0 w1 w2 ran last e c = tt
ends_whole start p q (Some x) r1 r2 w0 w1 w2 ran last e c =
    let none = no_fault start p q ran.consumed ran.frames w1 w2 ran.taken c.0 in
    record {
      answered = answered start p q x ran.consumed [] ran.frames w0 w1 w2 (input_is x ran.consumed r1 r2 ran.consumes last e).0 ran.taken ran.appends c.0 none (c.1 none);
      counts = refused_then start p q ran.consumed [] ran.frames w1 w2 ran.taken ran.counts c.0;
    }

pub ran_finished : {E : Type 0} (result : Result ℕ E) (start : Destination) (p q : FrameReader) (r0 r1 r2 w0 w1 w2 : Option (List ℕ)) → Ran start r0 r1 p w0 w1 → Consumes r1 r2 [] → IsAtEnd r2
    → OnOk result (EndsWhole p q w1 w2) → IfOk result (λ refused. refused ≡ q.taker.refused) → IfOk result (λ refused. IfSome r0 (λ input. IsWhole start input refused w0 w2))
ran_finished (Err x) start p q r0 r1 r2 w0 w1 w2 ran last e c same = tt
ran_finished (Ok refused) start p q r0 r1 r2 w0 w1 w2 ran last e c same =
    subst (λ (n : ℕ). IfSome r0 (λ input. IsWhole start input n w0 w2)) (sym same) (ends_whole start p q r0 r1 r2 w0 w1 w2 ran last e c)

ends_by : (start : Destination) (p q : FrameReader) (fault : FramesFault) (r0 r1 r2 w0 w1 w2 : Option (List ℕ)) → Ran start r0 r1 p w0 w1 → Consumes r1 r2 [] → IsAtEnd r2 → EndsBy p fault q w1 w2
    → IfSome r0 (λ input. FramesStop start input r2 fault w0 w2)
ends_by start p q (faults.Stream fault) r0 r1 r2 w0 w1 w2 ran last e c = ran_halts start p [] (faults.Stream fault) r0 r1 r2 w0 w1 w2 ran last c
ends_by start p q faults.Truncated None r1 r2 w0 w1 w2 ran last e c = tt
ends_by start p q faults.Truncated (Some x) r1 r2 w0 w1 w2 ran last e c =
    let none = no_fault start p q ran.consumed ran.frames w1 w2 ran.taken c.0 in
    (q.decoder.bytes, c.1 none, answered start p q x ran.consumed q.decoder.bytes ran.frames w0 w1 w2 (input_is x ran.consumed r1 r2 ran.consumes last e).0 ran.taken ran.appends c.0 none refl)
ends_by start p q faults.ReadFault r0 r1 r2 w0 w1 w2 ran last e c = absurd c
ends_by start p q faults.WriteFault r0 r1 r2 w0 w1 w2 ran last e c = ran_halts start p [] faults.WriteFault r0 r1 r2 w0 w1 w2 ran last c
ends_by start p q faults.NoMemory r0 r1 r2 w0 w1 w2 ran last e c = ran_halts start p [] faults.NoMemory r0 r1 r2 w0 w1 w2 ran last c

pub ran_stopped : {T : Type 0} (result : Result T FramesFault) (start : Destination) (p q : FrameReader) (r0 r1 r2 w0 w1 w2 : Option (List ℕ)) → Ran start r0 r1 p w0 w1 → Consumes r1 r2 [] → IsAtEnd r2
    → IfErr result (λ fault. EndsBy p fault q w1 w2) → IfErr result (λ fault. IfSome r0 (λ input. FramesStop start input r2 fault w0 w2))
ran_stopped (Ok x) start p q r0 r1 r2 w0 w1 w2 ran last e c = tt
ran_stopped (Err fault) start p q r0 r1 r2 w0 w1 w2 ran last e c = ends_by start p q fault r0 r1 r2 w0 w1 w2 ran last e c

-- nothing was read where memory was refused at once
pub no_start : (start : Destination) (r w : Option (List ℕ)) → IfSome r (λ input. FramesStop start input r faults.NoMemory w w)
no_start start None w = tt
no_start start (Some x) w = record { front = []; rest = x; frames = []; version = None; written = []; whole = refl; spells = spells_none None; lines = refl; appends = Appends-nil w }
