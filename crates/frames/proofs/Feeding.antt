-- What becomes of a reader by one piece.
use Rattle.std.proofs.Common.{◌≡◌, ℕ, ◌<◌, List, [], ◌++◌, length, Option, Ok, Err, sym, ap, subst, ◌∙◌, append-nil, arith}
use Rattle.std.specs.Prelude.{IfErr, OnOk, Result}
use Rattle.std.specs.Io.KnownBytes.{Appends}
use Rattle.std.proofs.lemmas.List.{length-append}
use Rattle.mig_model.specs.Wire.{Sent}
use Rattle.engine.specs.Engine.{Front}
use Rattle.frame_decoder.specs.Feeding.{Fed}
use Rattle.frame_decoder.specs.Streams.{Held, Splits}
use Rattle.frames.specs.declared.fault.FramesFault.{FramesFault}
use Rattle.frames.specs.declared.fault.FramesFault.TheVariants as faults
use Rattle.frames.specs.declared.reader.FrameReader.{FrameReader}
use Rattle.frames.specs.Answers.{answer_lines, refusals, Adds}
use Rattle.frames.specs.Parts.{BeginsWith, FedUntil, Gathers, GathersSome, HaltsInPiece, Passes, TakesSome, WritesSome}
use Rattle.frames.proofs.Splitting.{splits_front}

-- Gathering

-- what is held and the piece begin with the frames that were answered
begins_all : (old : Held) (piece : List ℕ) (frames : List Sent) (new : Held) → Fed old piece (Ok frames) new → BeginsWith old piece frames
begins_all old piece frames new fed = record { front = fed.1.read; rest = fed.1.unread; version = new.version; whole = fed.1.whole; spells = fed.1.spells; faultless = fed.0 }

pub fed_some : (old : FrameReader) (piece : List ℕ) (frames : List Sent) (new : Held) (output : List ℕ) → Fed old.decoder piece (Ok frames) new → TakesSome old.taker.destination frames old.taker.output.items output → GathersSome old piece output
fed_some old piece frames new output fed some =
    let split = subst (λ (fs : List Sent). Splits old.decoder.version (old.decoder.bytes ++ piece) fs new.bytes new.fault new.version) some.parts fed.1 in
    let front = splits_front old.decoder.version new.version (old.decoder.bytes ++ piece) some.taken some.others new.bytes new.fault split in
    record {
      frames = some.taken;
      begins = record { front = front.front; rest = front.rest; version = front.version; whole = front.whole; spells = front.spells; faultless = fed.0 };
      gathers = some.gathers;
    }

-- Writing

pub piece_passes : {T E : Type 0} (result : Result T E) (old mid new : FrameReader) (piece : List ℕ) (w0 w1 : Option (List ℕ)) → old.taker.output.items ≡ [] → OnOk result (Gathers old piece mid) → new.decoder ≡ mid.decoder → new.taker.destination ≡ mid.taker.destination
    → new.taker.refused ≡ mid.taker.refused → Appends w0 w1 mid.taker.output.items → OnOk result (Passes old piece new w0 w1)
piece_passes (Err e) old mid new piece w0 w1 clean gathered decoder node refused appends = tt
piece_passes (Ok x) old mid new piece w0 w1 clean gathered decoder node refused appends = record {
  frames = gathered.frames;
  passed = record {
    fed = subst (λ (h : Held). Fed old.decoder piece (Ok gathered.frames) h) (sym decoder) gathered.passed.fed;
    node = node ∙ gathered.passed.node;
    count = subst (λ (n : ℕ). Adds old.taker.refused (refusals old.taker.destination gathered.frames) n) (sym refused) gathered.passed.count;
  };
  appends = subst (Appends w0 w1) (gathered.gathers ∙ ap (λ (l : List ℕ). l ++ answer_lines old.taker.destination gathered.frames) clean) appends;
}

writes_some : (old : FrameReader) (piece output written more : List ℕ) (w0 w1 : Option (List ℕ)) → old.taker.output.items ≡ [] → output ≡ written ++ more → Appends w0 w1 written → GathersSome old piece output → WritesSome old piece more w0 w1
writes_some old piece output written more w0 w1 clean parts appends some = record {
  frames = some.frames;
  written = written;
  begins = some.begins;
  lines = sym (some.gathers ∙ ap (λ (l : List ℕ). l ++ answer_lines old.taker.destination some.frames) clean) ∙ parts;
  appends = appends;
}

halts : (old : FrameReader) (piece output : List ℕ) (fault : FramesFault) (w0 w1 : Option (List ℕ)) → old.taker.output.items ≡ [] → FedUntil old piece fault output → Appends w0 w1 output → HaltsInPiece old piece fault w0 w1
halts old piece output (faults.Stream fault) w0 w1 clean fed appends = (fed.0, subst (Appends w0 w1) (fed.1 ∙ clean) appends)
halts old piece output faults.Truncated w0 w1 clean fed appends = absurd fed
halts old piece output faults.ReadFault w0 w1 clean fed appends = absurd fed
halts old piece output faults.WriteFault w0 w1 clean fed appends = absurd fed
halts old piece output faults.NoMemory w0 w1 clean fed appends = writes_some old piece output output [] w0 w1 clean (sym (append-nil output)) appends fed

pub piece_halts : {T : Type 0} (result : Result T FramesFault) (old : FrameReader) (piece output : List ℕ) (w0 w1 : Option (List ℕ)) → old.taker.output.items ≡ [] → IfErr result (λ fault. FedUntil old piece fault output) → Appends w0 w1 output
    → IfErr result (λ fault. HaltsInPiece old piece fault w0 w1)
piece_halts (Ok x) old piece output w0 w1 clean fed appends = tt
piece_halts (Err fault) old piece output w0 w1 clean fed appends = halts old piece output fault w0 w1 clean fed appends

-- nothing is missing where nothing was gathered
no_front : (output written more : List ℕ) → output ≡ [] → output ≡ written ++ more → 0 < length more → ⊥
no_front output written more none parts some = omega (arith, ap length none, ap length parts, length-append written more, some)

unwritten : (old : FrameReader) (piece output written more : List ℕ) (fault : FramesFault) (w0 w1 : Option (List ℕ)) → old.taker.output.items ≡ [] → FedUntil old piece fault output → output ≡ written ++ more → 0 < length more → Appends w0 w1 written
    → WritesSome old piece more w0 w1
unwritten old piece output written more (faults.Stream fault) w0 w1 clean fed parts some appends = absurd (no_front output written more (fed.1 ∙ clean) parts some)
unwritten old piece output written more faults.Truncated w0 w1 clean fed parts some appends = absurd fed
unwritten old piece output written more faults.ReadFault w0 w1 clean fed parts some appends = absurd fed
unwritten old piece output written more faults.WriteFault w0 w1 clean fed parts some appends = absurd fed
unwritten old piece output written more faults.NoMemory w0 w1 clean fed parts some appends = writes_some old piece output written more w0 w1 clean parts appends fed

pub piece_unwritten : {T : Type 0} (result : Result T FramesFault) (old mid : FrameReader) (piece : List ℕ) (w0 w1 : Option (List ℕ)) → old.taker.output.items ≡ [] → OnOk result (Gathers old piece mid)
    → IfErr result (λ fault. FedUntil old piece fault mid.taker.output.items) → Front mid.taker.output.items w0 w1 → HaltsInPiece old piece faults.WriteFault w0 w1
piece_unwritten (Ok x) old mid piece w0 w1 clean gathered fed front = (
  front.1,
  front.3,
  writes_some old piece mid.taker.output.items front.0 front.1 w0 w1 clean front.2 front.4
      (record { frames = gathered.frames; begins = begins_all old.decoder piece gathered.frames mid.decoder gathered.passed.fed; gathers = gathered.gathers }),
)
piece_unwritten (Err fault) old mid piece w0 w1 clean gathered fed front =
    (front.1, front.3, unwritten old piece mid.taker.output.items front.0 front.1 fault w0 w1 clean fed front.2 front.3 front.4)

-- The end
