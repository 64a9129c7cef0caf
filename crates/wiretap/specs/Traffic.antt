-- What the steps of a run put on the wires, and a run with its output and these bytes.
use Rattle.std.specs.Prelude.{◌≡◌, ◌⊎◌, ℕ, List, [], ◌∷◌, ◌++◌, length, drop, Option}
use Rattle.std.specs.Io.KnownBytes.{Appends}
use Rattle.mig_model.specs.Parts.{Shrinks}
use Rattle.mig_model.specs.Wire.{Sent, Wire}
use Rattle.frame_decoder.specs.Streams.{texts}
use Rattle.frame_decoder.specs.declared.version.Version.TheVariants.{Two}
use Rattle.grammar.specs.declared.line.Language.TheVariants.{Script}
use Rattle.grammar.specs.declared.line.Line.{Line}
use Rattle.grammar.specs.declared.line.Line.TheVariants.{Skipped, Do, Enter}
use Rattle.grammar.specs.Lines.{Reads}
use Rattle.engine.specs.declared.line_runner.Mode.{Mode}
use Rattle.engine.specs.Script.{Obeys}
use Rattle.mig_model.specs.Migration.{World}
use Rattle.wiretap.specs.declared.taps.Taps.{Taps}

-- One step

-- the frames that a step put on a wire: those after the frames that were in flight before it
abbrev pub put_on : (old new : Wire) → List Sent
put_on old new = drop (length old.frames) new.frames

-- a step put these frames at the end of a wire, after all that was in flight; or it put none, and took frames from the front or none
abbrev pub IsPut : (old new : Wire) → List Sent → Type 0
IsPut old new put = (new.frames ≡ old.frames ++ put) ⊎ ((put ≡ []) × Shrinks old new)

-- bytes for each of the three wires
pub record Traffic : Type 0 where
  pub forward : List ℕ
  pub back : List ℕ
  pub urgent : List ℕ

-- no bytes
abbrev pub no_traffic : Traffic
no_traffic = record { forward = []; back = []; urgent = [] }

-- bytes, and more after them on each wire
abbrev pub with_more : Traffic → Traffic → Traffic
with_more first more = record { forward = first.forward ++ more.forward; back = first.back ++ more.back; urgent = first.urgent ++ more.urgent }

-- the texts of the frames that were put on each wire between two states
abbrev pub put_between : (old new : World) → Traffic
put_between old new =
    record {
      forward = texts Two (put_on old.forward new.forward);
      back = texts Two (put_on old.back new.back);
      urgent = texts Two (put_on old.urgent new.urgent);
    }

-- Runs

-- these lines lead from one state to the other, with this output, and their steps put these bytes on the wires
abbrev pub Puts : Mode → World → List Line → World → List ℕ → Traffic → Type 0
Puts mode old [] new text traffic = (new ≡ old) × (text ≡ []) × (traffic ≡ no_traffic)
Puts mode old (Skipped ∷ lines) new text traffic = Puts mode old lines new text traffic
Puts mode old (Do order ∷ lines) new text traffic = (mid : World) × (out : List ℕ) × (more : List ℕ) × (behind : Traffic)
    × Obeys mode old order mid out × (text ≡ out ++ more) × (traffic ≡ with_more (put_between old mid) behind) × Puts mode mid lines new more behind
Puts mode old (Enter entry ∷ lines) new text traffic = ⊥

-- each writer has got the bytes for its wire; `contents` are the bytes that a writer has
pub record Gets {T : Type 0} (contents : T → Option (List ℕ)) (old new : Taps T) (traffic : Traffic) : Type 0 where
  pub forward : Appends (contents old.forward) (contents new.forward) traffic.forward
  pub back : Appends (contents old.back) (contents new.back) traffic.back
  pub urgent : Appends (contents old.urgent) (contents new.urgent) traffic.urgent

-- a run of a script reads the whole input; its output was written, and what its steps put on the wires
pub record IsTapped {T : Type 0} (contents : T → Option (List ℕ)) (mode : Mode) (start : World) (input : List ℕ) (before after : Option (List ℕ)) (old new : Taps T) : Type 0 where
  pub lines : List Line
  pub end : World
  pub text : List ℕ
  pub traffic : Traffic
  pub reads : Reads Script input lines []
  pub puts : Puts mode start lines end text traffic
  pub appends : Appends before after text
  pub gets : Gets contents old new traffic
