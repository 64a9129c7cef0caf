-- The machine that reads a stream: what its decoder holds, the destination, and the frames that came.
use Rattle.std.proofs.Common.{◌≡◌, ℕ, ◌+◌, List, [], ◌++◌, Option, Some, None, Ok, refl, sym, ap, subst, ◌∙◌, append_assoc, append-nil, arith, inl, inr}
use Rattle.mig_model.specs.Destination.{Destination}
use Rattle.mig_model.specs.Wire.{Sent}
use Rattle.frame_decoder.specs.declared.fault.StreamFault.{StreamFault}
use Rattle.frame_decoder.specs.declared.version.Version.{Version}
use Rattle.frame_decoder.specs.Feeding.{Fed, FedFault, fresh}
use Rattle.frame_decoder.specs.Streams.{Held, Splits}
use Rattle.frame_decoder.proofs.Unique.{one_split}
use Rattle.frame_decoder.proofs.Whole.{spells_none, spells_join}
use Rattle.frames.specs.Answers.{answer_lines, after_frames, refusals}
use Rattle.frames.specs.Parts.{BeginsWith}
use Rattle.frames.proofs.Answering.{behind-append, answer_lines-append, refusals-append}
use Rattle.frames.proofs.Splitting.{IsFront, splits_then, splits_behind}

-- the bytes that came are these frames, and what is held; the destination was handed them
pub record Taken (start : Destination) (stream : List ℕ) (frames : List Sent) (decoder : Held) (node : Destination) : Type 0 where
  pub splits : Splits None stream frames decoder.bytes decoder.fault decoder.version
  pub handed : node ≡ after_frames start frames

pub taken_none : (start : Destination) → Taken start [] [] fresh start
taken_none start = record {
  splits = record { read = []; unread = []; whole = refl; spells = spells_none None; ends = (inl (record { short = omega arith }), refl) };
  handed = refl;
}

without_fault : (a b : Option Version) (stream : List ℕ) (frames : List Sent) (held : List ℕ) (fault : Option StreamFault) → fault ≡ None → Splits a stream frames held fault b → Splits a stream frames held None b
without_fault a b stream frames held fault none s = subst (λ (o : Option StreamFault). Splits a stream frames held o b) none s

pub taken_then : (start : Destination) (stream piece : List ℕ) (frames more : List Sent) (a b : Held) (m n : Destination) → Taken start stream frames a m → Fed a piece (Ok more) b → n ≡ after_frames m more → Taken start (stream ++ piece) (frames ++ more) b n
taken_then start stream piece frames more a b m n t fed is = record {
  splits = splits_then None a.version b.version stream piece frames more a.bytes b.bytes b.fault (without_fault None a.version stream frames a.bytes a.fault fed.0 t.splits) fed.1;
  handed = is ∙ ap (λ (d : Destination). after_frames d more) t.handed ∙ sym (behind-append start frames more);
}

pub lines_then : (start : Destination) (stream : List ℕ) (frames more : List Sent) (a : Held) (m : Destination) → Taken start stream frames a m → answer_lines start frames ++ answer_lines m more ≡ answer_lines start (frames ++ more)
lines_then start stream frames more a m t =
    ap (λ (d : Destination). answer_lines start frames ++ answer_lines d more) t.handed ∙ sym (answer_lines-append start frames more)

pub refusals_then : (start : Destination) (stream : List ℕ) (frames more : List Sent) (a : Held) (m : Destination) → Taken start stream frames a m → refusals start frames + refusals m more ≡ refusals start (frames ++ more)
refusals_then start stream frames more a m t =
    ap (λ (d : Destination). refusals start frames + refusals d more) t.handed ∙ sym (refusals-append start frames more)

-- the decoder answers a fault

pub record Faulted (stream : List ℕ) (frames : List Sent) (fault : StreamFault) : Type 0 where
  pub version : Option Version
  pub splits : Splits None stream frames [] (Some fault) version

faulted : (version : Option Version) (stream more : List ℕ) (frames : List Sent) (held : List ℕ) (now : Option StreamFault) (fault : StreamFault) → now ≡ Some fault → Splits None stream frames held now version → Faulted (stream ++ more) frames fault
faulted version stream more frames held now fault is s = record {
  version = version;
  splits = splits_behind None version stream more frames held fault (subst (λ (o : Option StreamFault). Splits None stream frames held o version) is s);
}

pub taken_fault : (start : Destination) (stream piece unread : List ℕ) (frames : List Sent) (a b : Held) (m : Destination) (fault : StreamFault) → Taken start stream frames a m → FedFault a piece fault b → Faulted ((stream ++ piece) ++ unread) frames fault
taken_fault start stream piece unread frames a b m fault t (inl f) =
    subst (λ (s : List ℕ). Faulted s frames fault) (sym (append_assoc stream piece unread)) (faulted a.version stream (piece ++ unread) frames a.bytes a.fault fault f.0 t.splits)
taken_fault start stream piece unread frames a b m fault t (inr f) =
    let now = splits_then None a.version b.version stream piece frames [] a.bytes b.bytes b.fault (without_fault None a.version stream frames a.bytes a.fault f.0 t.splits) f.2 in
    subst (λ (fs : List Sent). Faulted ((stream ++ piece) ++ unread) fs fault) (append-nil frames)
    (faulted b.version (stream ++ piece) unread (frames ++ []) b.bytes b.fault fault f.1 now)

-- some frames of a piece are taken

pub taken_some : (start : Destination) (stream piece unread : List ℕ) (frames more : List Sent) (a : Held) (m : Destination) → Taken start stream frames a m → BeginsWith a piece more → IsFront None ((stream ++ piece) ++ unread) (frames ++ more)
taken_some start stream piece unread frames more a m t b =
    let s = without_fault None a.version stream frames a.bytes a.fault b.faultless t.splits in
    let whole : stream ++ piece ≡ (s.read ++ b.front) ++ b.rest =
    ap (λ (l : List ℕ). l ++ piece) s.whole ∙ append_assoc s.read s.unread piece ∙ ap (λ (l : List ℕ). s.read ++ (l ++ piece)) (sym s.ends.1)
    ∙ ap (λ (l : List ℕ). s.read ++ l) b.whole ∙ sym (append_assoc s.read b.front b.rest) in
    record {
      front = s.read ++ b.front;
      rest = b.rest ++ unread;
      version = b.version;
      whole = ap (λ (l : List ℕ). l ++ unread) whole ∙ append_assoc (s.read ++ b.front) b.rest unread;
      spells = spells_join None a.version b.version s.read b.front frames more s.spells b.spells;
    }

-- an empty piece completes no frame, and has no fault

pub record Same (frames more : List Sent) (old new : Held) : Type 0 where
  pub none : frames ≡ frames ++ more
  pub fault : new.fault ≡ None
  pub bytes : old.bytes ≡ new.bytes

pub taken_nothing : (start : Destination) (stream : List ℕ) (frames more : List Sent) (a b : Held) (m n : Destination) → a.fault ≡ None → Taken start stream frames a m → Taken start (stream ++ []) (frames ++ more) b n → Same frames more a b
taken_nothing start stream frames more a b m n none t u =
    let same = one_split None stream frames (frames ++ more) a.bytes b.bytes a.fault b.fault a.version b.version t.splits
    (subst (λ (s : List ℕ). Splits None s (frames ++ more) b.bytes b.fault b.version) (append-nil stream) u.splits) in
    record { none = same.frames; fault = sym same.fault ∙ none; bytes = same.held }
