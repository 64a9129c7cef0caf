-- The parts of a run, and their effect for the bytes of one piece.
use Rattle.std.specs.Prelude.{◌≡◌, ◌⊎◌, ℕ, List, [], ◌∷◌, ◌++◌, length, drop, Option}
use Rattle.std.specs.Io.KnownBytes.{Appends}
use Rattle.frame_decoder.specs.Streams.{texts}
use Rattle.frame_decoder.specs.declared.version.Version.TheVariants.{Two}
use Rattle.grammar.specs.declared.line.Language.TheVariants.{Script}
use Rattle.grammar.specs.declared.line.Line.{Line}
use Rattle.grammar.specs.Lines.{HasNoFeed, Reads}
use Rattle.engine.specs.declared.line_runner.Mode.{Mode}
use Rattle.engine.specs.Engine.{Place, Work, Running, Keeping, Does, ReadsEnded}
use Rattle.mig_model.specs.Migration.{World}
use Rattle.wiretap.specs.declared.marks.Marks.{Marks}
use Rattle.wiretap.specs.declared.taps.Taps.{Taps}
use Rattle.wiretap.specs.Traffic.{Traffic, no_traffic, with_more, put_between, Gets}

-- a world is run
pub record IsRunning (work : Work) : Type 0 where
  pub mode : Mode
  pub state : World
  pub is : work ≡ Running mode state

-- the counts are those of the bytes in flight in a world
pub record AreMarks (state : World) (marks : Marks) : Type 0 where
  pub forward : marks.forward ≡ length (texts Two state.forward.frames)
  pub back : marks.back ≡ length (texts Two state.back.frames)
  pub urgent : marks.urgent ≡ length (texts Two state.urgent.frames)

-- the bytes in flight in a world, on each wire those after the number that its count says
abbrev pub bytes_in_flight : Marks → World → Traffic
bytes_in_flight marks state =
    record {
      forward = drop marks.forward (texts Two state.forward.frames);
      back = drop marks.back (texts Two state.back.frames);
      urgent = drop marks.urgent (texts Two state.urgent.frames);
    }

-- what was put on the wires of a world that is run
abbrev pub put_on_wires : Work → Work → Traffic
put_on_wires (Running mode old) (Running again new) = put_between old new
put_on_wires (Running mode old) (Keeping entries) = no_traffic
put_on_wires (Keeping entries) work = no_traffic

-- the effect of lines on the work, their output, and what they put on the wires
abbrev pub Carries : Work → List Line → Work → List ℕ → Traffic → Type 0
Carries old [] new text traffic = (new ≡ old) × (text ≡ []) × (traffic ≡ no_traffic)
Carries old (line ∷ lines) new text traffic = (mid : Work) × (out : List ℕ) × (more : List ℕ) × (bytes_in_flight : Traffic)
    × Does old line mid out × (text ≡ out ++ more) × (traffic ≡ with_more (put_on_wires old mid) bytes_in_flight) × Carries mid lines new more bytes_in_flight

-- the bytes have no line feed, or one, which is the last of them
abbrev pub EndsOne : List ℕ → Type 0
EndsOne bytes = HasNoFeed bytes ⊎ ((front : List ℕ) × HasNoFeed front × (bytes ≡ front ++ 10 ∷ []))

-- these bytes lead from one place to the other; what their lines print was written, and what they put on the wires
pub record Moves {T : Type 0} (contents : T → Option (List ℕ)) (old : Place) (bytes : List ℕ) (new : Place) (before after : Option (List ℕ)) (from to : Taps T) : Type 0 where
  pub lines : List Line
  pub text : List ℕ
  pub traffic : Traffic
  pub reads : ReadsEnded Script (old.line ++ bytes) lines new.line
  pub carries : Carries old.work lines new.work text traffic
  pub appends : Appends before after text
  pub gets : Gets contents from to traffic

-- the same for the last line, which lacks its line feed, or for none
pub record Ends {T : Type 0} (contents : T → Option (List ℕ)) (old : Place) (end : Work) (before after : Option (List ℕ)) (from to : Taps T) : Type 0 where
  pub lines : List Line
  pub text : List ℕ
  pub traffic : Traffic
  pub reads : Reads Script old.line lines []
  pub carries : Carries old.work lines end text traffic
  pub appends : Appends before after text
  pub gets : Gets contents from to traffic

-- the whole input was read, its output written, and what its lines put on the wires
pub record ReadsAll {T : Type 0} (contents : T → Option (List ℕ)) (start : Work) (input : List ℕ) (end : Work) (before after : Option (List ℕ)) (from to : Taps T) : Type 0 where
  pub lines : List Line
  pub text : List ℕ
  pub traffic : Traffic
  pub reads : Reads Script input lines []
  pub carries : Carries start lines end text traffic
  pub appends : Appends before after text
  pub gets : Gets contents from to traffic
