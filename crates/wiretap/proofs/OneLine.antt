-- One line: its output, and what its step puts on the wires.
use Rattle.std.proofs.Common.{◌≡◌, ℕ, ◌+◌, List, [], ◌∷◌, ◌++◌, length, drop, Bool, true, false, Option, Some, None, refl, sym, ap, subst, ◌∙◌, append_assoc, append-nil, inl, inr, arith}
use Rattle.std.proofs.lemmas.List.{drop_all}
use Rattle.mig_model.specs.Wire.{Wire}
use Rattle.frame_decoder.specs.Streams.{texts}
use Rattle.frame_decoder.specs.declared.version.Version.TheVariants.{Two}
use Rattle.grammar.specs.declared.line.Language.{Language}
use Rattle.grammar.specs.declared.line.Language.TheVariants.{Script}
use Rattle.grammar.specs.declared.line.Line.{Line}
use Rattle.grammar.specs.declared.line.Line.TheVariants.{Skipped, Do, Enter}
use Rattle.grammar.specs.Lines.{HasNoFeed, Reads, ReadsLine}
use Rattle.grammar.specs.Orders.{step_of}
use Rattle.lines.specs.Lines.{with_feed}
use Rattle.grammar.proofs.Cuts.{no_feed-append, feed_inside, one_cut}
use Rattle.mig_base.specs.declared.schedule.Step.{Step}
use Rattle.engine.specs.declared.line_runner.Mode.{Mode}
use Rattle.engine.specs.Engine.{Place, Work, Running, Keeping, language_of, Does, Works, ReadsEnded, Passes, Closes, run_world}
use Rattle.engine.specs.Script.{MakesAny}
use Rattle.mig_model.specs.Migration.{World}
use Rattle.engine.specs.Worlds.{epoch_in}
use Rattle.wiretap.specs.declared.marks.Marks.{Marks}
use Rattle.wiretap.specs.declared.taps.Taps.{Taps}
use Rattle.wiretap.specs.Traffic.{Traffic, no_traffic, with_more, put_between, Gets}
use Rattle.wiretap.specs.Moves.{IsRunning, AreMarks, bytes_in_flight, put_on_wires, Carries, EndsOne, Moves, Ends}
use Rattle.wiretap.proofs.Puts.{ArePut, put_nothing, put_happens, behind_put}

-- At most one line

-- no line, or one
abbrev IsFew : List Line → Type 0
IsFew [] = Unit {0}
IsFew (line ∷ []) = Unit {0}
IsFew (line ∷ other ∷ lines) = ⊥

no_ended : (l : Language) (bytes : List ℕ) (line : Line) (lines : List Line) (rest : List ℕ) → HasNoFeed bytes → ReadsEnded l bytes (line ∷ lines) rest → ⊥
no_ended l bytes line lines rest none r = feed_inside r.1.raw r.0 (subst HasNoFeed r.1.whole none)

-- where no line feed but the last stands, one line ends
few_ended : (l : Language) (front : List ℕ) (lines : List Line) (rest : List ℕ) → HasNoFeed front → ReadsEnded l (front ++ 10 ∷ []) lines rest → IsFew lines
few_ended l front [] rest one r = tt
few_ended l front (line ∷ []) rest one r = tt
few_ended l front (line ∷ other ∷ lines) rest one r =
    let cut = one_cut r.1.raw front r.0 [] r.1.one one (sym r.1.whole) in
    no_ended l r.0 other lines rest (subst HasNoFeed (sym cut.1) tt) r.2

none_ended : (l : Language) (bytes : List ℕ) (lines : List Line) (rest : List ℕ) → HasNoFeed bytes → ReadsEnded l bytes lines rest → IsFew lines
none_ended l bytes [] rest none r = tt
none_ended l bytes (line ∷ lines) rest none r = absurd (no_ended l bytes line lines rest none r)

few : (l : Language) (held bytes : List ℕ) (lines : List Line) (rest : List ℕ) → HasNoFeed held → EndsOne bytes → ReadsEnded l (held ++ bytes) lines rest → IsFew lines
few l held bytes lines rest one ends r = elim ends [
  | inl none ↦ none_ended l (held ++ bytes) lines rest (no_feed-append held bytes one none) r
  | inr cut ↦
      let whole : held ++ bytes ≡ (held ++ cut.0) ++ 10 ∷ [] = ap (λ (b : List ℕ). held ++ b) cut.2 ∙ sym (append_assoc held cut.0 (10 ∷ [])) in
      few_ended l (held ++ cut.0) lines rest (no_feed-append held cut.0 one cut.1) (subst (λ (b : List ℕ). ReadsEnded l b lines rest) whole r)
]

-- a line with its line feed, if one ends it
pub ends_one : (ended : Bool) (raw whole : List ℕ) → HasNoFeed raw → whole ≡ with_feed ended raw → EndsOne whole
ends_one true raw whole one is = inr (raw, one, is)
ends_one false raw whole one is = inl (subst HasNoFeed (sym is) one)

-- nothing is a line
nothing_read : (l : Language) (line : Line) (rest : List ℕ) → ReadsLine l [] line rest → ⊥
nothing_read l line rest r = elim r [
  | inl ended ↦ feed_inside ended.raw rest (subst HasNoFeed ended.whole tt)
  | inr last ↦ omega (arith, last.0.some)
]

-- of bytes without a line feed at most one line is read
few_read : (l : Language) (bytes : List ℕ) (lines : List Line) (rest : List ℕ) → HasNoFeed bytes → Reads l bytes lines rest → IsFew lines
few_read l bytes [] rest none r = tt
few_read l bytes (line ∷ []) rest none r = tt
few_read l bytes (line ∷ other ∷ lines) rest none r = elim r.1 [
  | inl ended ↦ absurd (feed_inside ended.raw r.0 (subst HasNoFeed ended.whole none))
  | inr last ↦ absurd (nothing_read l other r.2.0 (subst (λ (b : List ℕ). ReadsLine l b other r.2.0) last.1 r.2.1))
]

-- What it puts on the wires

none_put : (wire : Wire) → texts Two (drop (length wire.frames) wire.frames) ≡ []
none_put wire = ap (texts Two) (drop_all (length wire.frames) wire.frames (omega arith))

pub nothing_between : (state : World) → put_between state state ≡ no_traffic
nothing_between state = λ i. record { forward = none_put state.forward i; back = none_put state.back i; urgent = none_put state.urgent i }

nothing_by : (work : Work) → IsRunning work → put_on_wires work work ≡ no_traffic
nothing_by work runs = rw runs.is (nothing_between runs.state)

more_of_nothing : (traffic : Traffic) → with_more traffic no_traffic ≡ traffic
more_of_nothing traffic = λ i. record { forward = append-nil traffic.forward i; back = append-nil traffic.back i; urgent = append-nil traffic.urgent i }

-- a line that carries one piece of work to another puts what lies between them
carries_few : (old : Work) (lines : List Line) (new : Work) (text : List ℕ) → IsRunning old → IsFew lines → Works old lines new text → Carries old lines new text (put_on_wires old new)
carries_few old [] new text runs is w = (w.0, w.1, ap (put_on_wires old) w.0 ∙ nothing_by old runs)
carries_few old (line ∷ []) new text runs is w =
    (w.0, w.1, w.2, no_traffic, w.3, w.4, ap (put_on_wires old) w.5.0 ∙ sym (more_of_nothing (put_on_wires old w.0)), (w.5.0, w.5.1, refl))
carries_few old (line ∷ other ∷ lines) new text runs is w = absurd is

-- Its frames come after those in flight

made_any : (mode : Mode) (old : World) (step : Option Step) (new : World) (text : List ℕ) → MakesAny mode old step new text → ArePut old new
made_any mode old (Some step) new text m = put_happens old step m.0 new m.1.1
made_any mode old None new text m = put_nothing old new m.0

same_state : (again mode : Mode) (new old : World) → Running again new ≡ Running mode old → new ≡ old
same_state again mode new old e = let h : Some new ≡ Some old = ap run_world e in cc

does_put : (mode : Mode) (old : World) (line : Line) (again : Mode) (new : World) (text : List ℕ) → Does (Running mode old) line (Running again new) text → ArePut old new
does_put mode old Skipped again new text d = put_nothing old new (same_state again mode new old d.0)
does_put mode old (Do order) again new text d =
    let step = step_of order (epoch_in old) in
    made_any mode old step new text (subst (λ (s : World). MakesAny mode old step s text) (sym (same_state again mode new d.0 d.1)) d.2)
does_put mode old (Enter entry) again new text d = absurd d

lines_put : (mode : Mode) (old : World) (lines : List Line) (again : Mode) (new : World) (text : List ℕ) → IsFew lines → Works (Running mode old) lines (Running again new) text → ArePut old new
lines_put mode old [] again new text is w = put_nothing old new (same_state again mode new old w.0)
lines_put mode old (line ∷ []) again new text is w = does_put mode old line again new w.1 (subst (λ (b : Work). Does (Running mode old) line b w.1) (sym w.5.0) w.3)
lines_put mode old (line ∷ other ∷ lines) again new text is w = absurd is

-- Running continues

does_running : (a : Work) (line : Line) (b : Work) (text : List ℕ) → IsRunning a → Does a line b text → IsRunning b
does_running a Skipped b text r d = record { mode = r.mode; state = r.state; is = d.0 ∙ r.is }
does_running (Running mode state) (Do order) b text r d = record { mode = mode; state = d.0; is = d.1 }
does_running (Running mode state) (Enter entry) b text r d = absurd d
does_running (Keeping entries) (Do order) b text r d = absurd d
does_running (Keeping entries) (Enter entry) b text r d = let h : None ≡ Some r.state = ap run_world r.is in absurd cc

works_running : (a : Work) (lines : List Line) (b : Work) (text : List ℕ) → IsRunning a → Works a lines b text → IsRunning b
works_running a [] b text r w = record { mode = r.mode; state = r.state; is = w.0 ∙ r.is }
works_running a (line ∷ lines) b text r w = works_running w.0 lines b w.2 (does_running a line w.0 w.1 r w.3) w.5

pub passes_running : (a b : Place) (bytes : List ℕ) (u v : Option (List ℕ)) → IsRunning a.work → Passes a bytes b u v → IsRunning b.work
passes_running a b bytes u v r p = works_running a.work p.advances.lines b.work p.text r p.advances.works

pub closes_running : (a : Place) (end : Work) (rest text more : List ℕ) (u v : Option (List ℕ)) → IsRunning a.work → Closes a end rest text more u v → IsRunning end
closes_running a end rest text more u v r c = works_running a.work c.lines end (text ++ more) r c.works

-- What was written

-- the bytes after those that were in flight are what the line has put
written : (old new : Work) (lines : List Line) (text : List ℕ) (marks : Marks) (r : IsRunning old) (s : IsRunning new) → IsFew lines → Works old lines new text
    → ((mode : Mode) (state : World) → old ≡ Running mode state → AreMarks state marks) → bytes_in_flight marks s.state ≡ put_on_wires old new
written old new lines text marks r s is w are =
    let works = rw (r.is, s.is) at w in
    behind_put r.state s.state marks (are r.mode r.state r.is) (lines_put r.mode r.state lines s.mode s.state text is works) ∙ sym (λ i. put_on_wires (r.is i) (s.is i))

pub moves_line : {T : Type 0} (contents : T → Option (List ℕ)) (a b : Place) (bytes : List ℕ) (w0 w1 : Option (List ℕ)) (t0 t1 : Taps T) (marks : Marks) (p : Passes a bytes b w0 w1) → IsRunning a.work → HasNoFeed a.line → EndsOne bytes
    → ((mode : Mode) (state : World) → a.work ≡ Running mode state → AreMarks state marks) → ((mode : Mode) (state : World) → b.work ≡ Running mode state → Gets contents t0 t1 (bytes_in_flight marks state)) → Moves contents a bytes b w0 w1 t0 t1
moves_line contents a b bytes w0 w1 t0 t1 marks p r one ends are gets =
    let l : language_of a.work ≡ Script = ap language_of r.is in
    let s = passes_running a b bytes w0 w1 r p in
    let is = few (language_of a.work) a.line bytes p.advances.lines b.line one ends p.advances.reads in
    record {
      lines = p.advances.lines;
      text = p.text;
      traffic = put_on_wires a.work b.work;
      reads = subst (λ (k : Language). ReadsEnded k (a.line ++ bytes) p.advances.lines b.line) l p.advances.reads;
      carries = carries_few a.work p.advances.lines b.work p.text r is p.advances.works;
      appends = p.appends;
      gets = subst (Gets contents t0 t1) (written a.work b.work p.advances.lines p.text marks r s is p.advances.works are) (gets s.mode s.state s.is);
    }

pub ends_line : {T : Type 0} (contents : T → Option (List ℕ)) (a : Place) (end : Work) (text : List ℕ) (w0 w1 : Option (List ℕ)) (t0 t1 : Taps T) (marks : Marks) (c : Closes a end [] text [] w0 w1) → IsRunning a.work → HasNoFeed a.line
    → ((mode : Mode) (state : World) → a.work ≡ Running mode state → AreMarks state marks) → ((mode : Mode) (state : World) → end ≡ Running mode state → Gets contents t0 t1 (bytes_in_flight marks state)) → Ends contents a end w0 w1 t0 t1
ends_line contents a end text w0 w1 t0 t1 marks c r one are gets =
    let l : language_of a.work ≡ Script = ap language_of r.is in
    let s = closes_running a end [] text [] w0 w1 r c in
    let is = few_read (language_of a.work) a.line c.lines [] one c.reads in
    let works : Works a.work c.lines end text = subst (λ (t : List ℕ). Works a.work c.lines end t) (append-nil text) c.works in
    record {
      lines = c.lines;
      text = text;
      traffic = put_on_wires a.work end;
      reads = subst (λ (k : Language). Reads k a.line c.lines []) l c.reads;
      carries = carries_few a.work c.lines end text r is works;
      appends = c.appends;
      gets = subst (Gets contents t0 t1) (written a.work end c.lines text marks r s is works are) (gets s.mode s.state s.is);
    }
