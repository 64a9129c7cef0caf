-- Lines one after the other, and a whole input.
use Rattle.std.proofs.Common.{◌≡◌, ℕ, List, [], ◌∷◌, ◌++◌, Option, None, Some, refl, sym, ap, subst, ◌∙◌, append_assoc, append-nil}
use Rattle.std.specs.Prelude.{IfSome, OnOk, Result, Ok, Err}
use Rattle.std.specs.Io.KnownBytes.{Consumes, IsAtEnd}
use Rattle.std.proofs.KnownBytes.{Appends-nil, Appends-trans, Consumes-nil, Consumes-trans}
use Rattle.grammar.specs.declared.line.Language.TheVariants.{Script}
use Rattle.grammar.specs.declared.line.Line.{Line}
use Rattle.grammar.specs.declared.line.Line.TheVariants.{Skipped, Do, Enter}
use Rattle.grammar.specs.Lines.{Reads}
use Rattle.engine.specs.declared.line_runner.Mode.{Mode}
use Rattle.engine.specs.Engine.{Place, Work, Running, ReadsEnded, start_of}
use Rattle.engine.specs.Script.{Runs, Writes}
use Rattle.mig_model.specs.Migration.{World, first_world}
use Rattle.engine.proofs.Lines.{reads_more, reads_then, reads_last}
use Rattle.engine.proofs.Transcripts.{run_promised}
use Rattle.engine.proofs.Whole.{input_is}
use Rattle.wiretap.specs.declared.fault.TapFault.{TapFault}
use Rattle.wiretap.specs.declared.taps.Taps.{Taps}
use Rattle.wiretap.specs.Traffic.{Traffic, no_traffic, with_more, put_between, Puts, Gets, IsTapped}
use Rattle.wiretap.specs.Moves.{put_on_wires, Carries, Moves, Ends, ReadsAll}
use Rattle.wiretap.proofs.OneLine.{nothing_between}

-- One after the other

more_then : (a b c : Traffic) → with_more (with_more a b) c ≡ with_more a (with_more b c)
more_then a b c = λ i. record { forward = append_assoc a.forward b.forward c.forward i; back = append_assoc a.back b.back c.back i; urgent = append_assoc a.urgent b.urgent c.urgent i }

carries_then : (a : Work) (xs : List Line) (b : Work) (t : List ℕ) (u : Traffic) (ys : List Line) (c : Work) (v : List ℕ) (w : Traffic)
    → Carries a xs b t u → Carries b ys c v w → Carries a (xs ++ ys) c (t ++ v) (with_more u w)
carries_then a [] b t u ys c v w p q = rw (p.1, p.2, ← p.0) q
carries_then a (x ∷ xs) b t u ys c v w p q = (
  p.0,
  p.1,
  p.2 ++ v,
  with_more p.3 w,
  p.4,
  ap (λ (z : List ℕ). z ++ v) p.5 ∙ append_assoc p.1 p.2 v,
  ap (λ (z : Traffic). with_more z w) p.6 ∙ more_then (put_on_wires a p.0) p.3 w,
  carries_then p.0 xs b p.2 p.3 ys c v w p.7 q,
)

gets_none : {T : Type 0} (contents : T → Option (List ℕ)) (t : Taps T) → Gets contents t t no_traffic
gets_none contents t = record { forward = Appends-nil (contents t.forward); back = Appends-nil (contents t.back); urgent = Appends-nil (contents t.urgent) }

gets_then : {T : Type 0} (contents : T → Option (List ℕ)) (t0 t1 t2 : Taps T) (u v : Traffic) → Gets contents t0 t1 u → Gets contents t1 t2 v → Gets contents t0 t2 (with_more u v)
gets_then contents t0 t1 t2 u v p q = record {
  forward = Appends-trans (contents t0.forward) (contents t1.forward) (contents t2.forward) u.forward v.forward p.forward q.forward;
  back = Appends-trans (contents t0.back) (contents t1.back) (contents t2.back) u.back v.back p.back q.back;
  urgent = Appends-trans (contents t0.urgent) (contents t1.urgent) (contents t2.urgent) u.urgent v.urgent p.urgent q.urgent;
}

pub moves_none : {T : Type 0} (contents : T → Option (List ℕ)) (a : Place) (w : Option (List ℕ)) (t : Taps T) → Moves contents a [] a w w t t
moves_none contents a w t = record {
  lines = [];
  text = [];
  traffic = no_traffic;
  reads = append-nil a.line;
  carries = (refl, refl, refl);
  appends = Appends-nil w;
  gets = gets_none contents t;
}

pub moves_then : {T : Type 0} (contents : T → Option (List ℕ)) (a b c : Place) (xs ys : List ℕ) (w0 w1 w2 : Option (List ℕ)) (t0 t1 t2 : Taps T)
    → Moves contents a xs b w0 w1 t0 t1 → Moves contents b ys c w1 w2 t1 t2 → Moves contents a (xs ++ ys) c w0 w2 t0 t2
moves_then contents a b c xs ys w0 w1 w2 t0 t1 t2 p q = record {
  lines = p.lines ++ q.lines;
  text = p.text ++ q.text;
  traffic = with_more p.traffic q.traffic;
  reads = subst (λ (t : List ℕ). ReadsEnded Script t (p.lines ++ q.lines) c.line) (append_assoc a.line xs ys)
      (reads_then Script ((a.line ++ xs) ++ ys) p.lines (b.line ++ ys) q.lines c.line (reads_more Script (a.line ++ xs) p.lines b.line ys p.reads) q.reads);
  carries = carries_then a.work p.lines b.work p.text p.traffic q.lines c.work q.text q.traffic p.carries q.carries;
  appends = Appends-trans w0 w1 w2 p.text q.text p.appends q.appends;
  gets = gets_then contents t0 t1 t2 p.traffic q.traffic p.gets q.gets;
}

-- The lines of a piece

-- a front of the bytes led from one place to the other, and the rest is left
pub record Done {T : Type 0} (contents : T → Option (List ℕ)) (a : Place) (bytes rest : List ℕ) (b : Place) (w0 w1 : Option (List ℕ)) (t0 t1 : Taps T) : Type 0 where
  pub front : List ℕ
  pub parts : bytes ≡ front ++ rest
  pub moves : Moves contents a front b w0 w1 t0 t1

pub done_none : {T : Type 0} (contents : T → Option (List ℕ)) (a : Place) (bytes : List ℕ) (w : Option (List ℕ)) (t : Taps T) → Done contents a bytes bytes a w w t t
done_none contents a bytes w t = record { front = []; parts = refl; moves = moves_none contents a w t }

pub done_line : {T : Type 0} (contents : T → Option (List ℕ)) (a b c : Place) (bytes rest line behind : List ℕ) (w0 w1 w2 : Option (List ℕ)) (t0 t1 t2 : Taps T)
    → Done contents a bytes rest b w0 w1 t0 t1 → rest ≡ line ++ behind → Moves contents b line c w1 w2 t1 t2 → Done contents a bytes behind c w0 w2 t0 t2
done_line contents a b c bytes rest line behind w0 w1 w2 t0 t1 t2 done cut moves = record {
  front = done.front ++ line;
  parts = done.parts ∙ ap (λ (t : List ℕ). done.front ++ t) cut ∙ sym (append_assoc done.front line behind);
  moves = moves_then contents a b c done.front line w0 w1 w2 t0 t1 t2 done.moves moves;
}

pub done_all : {T : Type 0} (contents : T → Option (List ℕ)) (a b : Place) (bytes rest : List ℕ) (w0 w1 : Option (List ℕ)) (t0 t1 : Taps T) → Done contents a bytes rest b w0 w1 t0 t1 → rest ≡ [] → Moves contents a bytes b w0 w1 t0 t1
done_all contents a b bytes rest w0 w1 t0 t1 done none =
    subst (λ (t : List ℕ). Moves contents a t b w0 w1 t0 t1) (sym (done.parts ∙ ap (λ (t : List ℕ). done.front ++ t) none ∙ append-nil done.front)) done.moves

-- A whole input

-- these bytes were read, and led to this place
pub record Ran {T : Type 0} (contents : T → Option (List ℕ)) (start : Work) (r0 r1 : Option (List ℕ)) (p : Place) (w0 w1 : Option (List ℕ)) (t0 t1 : Taps T) : Type 0 where
  pub consumed : List ℕ
  pub consumes : Consumes r0 r1 consumed
  pub moves : Moves contents (start_of start) consumed p w0 w1 t0 t1

pub ran_none : {T : Type 0} (contents : T → Option (List ℕ)) (start : Work) (p : Place) (r w : Option (List ℕ)) (t : Taps T) → p ≡ start_of start → Ran contents start r r p w w t t
ran_none contents start p r w t e = rw e (record { consumed = []; consumes = Consumes-nil r; moves = moves_none contents (start_of start) w t })

pub ran_then : {T : Type 0} (contents : T → Option (List ℕ)) (start : Work) (p q : Place) (chunk : List ℕ) (r0 r1 r2 w0 w1 w2 : Option (List ℕ)) (t0 t1 t2 : Taps T)
    → Ran contents start r0 r1 p w0 w1 t0 t1 → Consumes r1 r2 chunk → Moves contents p chunk q w1 w2 t1 t2 → Ran contents start r0 r2 q w0 w2 t0 t2
ran_then contents start p q chunk r0 r1 r2 w0 w1 w2 t0 t1 t2 ran more moves = record {
  consumed = ran.consumed ++ chunk;
  consumes = Consumes-trans r0 r1 r2 ran.consumed chunk ran.consumes more;
  moves = moves_then contents (start_of start) p q ran.consumed chunk w0 w1 w2 t0 t1 t2 ran.moves moves;
}

ran_ends : {T : Type 0} (contents : T → Option (List ℕ)) (start : Work) (p : Place) (end : Work) (r0 r1 r2 w0 w1 w2 : Option (List ℕ)) (t0 t1 t2 : Taps T) → Ran contents start r0 r1 p w0 w1 t0 t1 → Consumes r1 r2 [] → IsAtEnd r2
    → Ends contents p end w1 w2 t1 t2 → IfSome r0 (λ input. ReadsAll contents start input end w0 w2 t0 t2)
ran_ends contents start p end None r1 r2 w0 w1 w2 t0 t1 t2 ran last e c = tt
ran_ends contents start p end (Some x) r1 r2 w0 w1 w2 t0 t1 t2 ran last e c = record {
  lines = ran.moves.lines ++ c.lines;
  text = ran.moves.text ++ c.text;
  traffic = with_more ran.moves.traffic c.traffic;
  reads = subst (λ (t : List ℕ). Reads Script t (ran.moves.lines ++ c.lines) []) (sym (input_is x ran.consumed r1 r2 ran.consumes last e).0)
      (reads_last Script ran.consumed ran.moves.lines p.line c.lines [] ran.moves.reads c.reads);
  carries = carries_then start ran.moves.lines p.work ran.moves.text ran.moves.traffic c.lines end c.text c.traffic ran.moves.carries c.carries;
  appends = Appends-trans w0 w1 w2 ran.moves.text c.text ran.moves.appends c.appends;
  gets = gets_then contents t0 t1 t2 ran.moves.traffic c.traffic ran.moves.gets c.gets;
}

pub ran_finished : {T E : Type 0} (result : Result T E) {S : Type 0} (contents : S → Option (List ℕ)) (start : Work) (p : Place) (end : Work) (r0 r1 r2 w0 w1 w2 : Option (List ℕ)) (t0 t1 t2 : Taps S)
    → Ran contents start r0 r1 p w0 w1 t0 t1 → Consumes r1 r2 [] → IsAtEnd r2 → OnOk result (Ends contents p end w1 w2 t1 t2) → OnOk result (IfSome r0 (λ input. ReadsAll contents start input end w0 w2 t0 t2))
ran_finished (Err x) contents start p end r0 r1 r2 w0 w1 w2 t0 t1 t2 ran last e c = tt
ran_finished (Ok x) contents start p end r0 r1 r2 w0 w1 w2 t0 t1 t2 ran last e c = ran_ends contents start p end r0 r1 r2 w0 w1 w2 t0 t1 t2 ran last e c

-- Runs

nothing_more : (traffic : Traffic) → with_more no_traffic traffic ≡ traffic
nothing_more traffic = refl

-- the work on a world is a run
puts_of : (mode : Mode) (old : World) (lines : List Line) (new : Work) (text : List ℕ) (traffic : Traffic) → Carries (Running mode old) lines new text traffic → (end : World) × Puts mode old lines end text traffic
puts_of mode old [] new text traffic p = (old, (refl, p.1, p.2))
puts_of mode old (Skipped ∷ lines) new text traffic p =
    let rest = puts_of mode old lines new p.2 p.3 (subst (λ (w : Work). Carries w lines new p.2 p.3) p.4.0 p.7) in
    let same : text ≡ p.2 = p.5 ∙ ap (λ (t : List ℕ). t ++ p.2) p.4.1 in
    let none : traffic ≡ p.3 = p.6 ∙ ap (λ (w : Work). with_more (put_on_wires (Running mode old) w) p.3) p.4.0 ∙ ap (λ (t : Traffic). with_more t p.3) (nothing_between old) ∙ nothing_more p.3 in
    (rest.0, rw (same, none) rest.1)
puts_of mode old (Do order ∷ lines) new text traffic p =
    let rest = puts_of mode p.4.0 lines new p.2 p.3 (subst (λ (w : Work). Carries w lines new p.2 p.3) p.4.1 p.7) in
    let put : traffic ≡ with_more (put_between old p.4.0) p.3 = p.6 ∙ ap (λ (w : Work). with_more (put_on_wires (Running mode old) w) p.3) p.4.1 in
    (rest.0, (p.4.0, p.1, p.2, p.3, p.4.2, p.5, put, rest.1))
puts_of mode old (Enter entry ∷ lines) new text traffic p = absurd p.4

puts_run : (mode : Mode) (old : World) (lines : List Line) (new : World) (text : List ℕ) (traffic : Traffic) → Puts mode old lines new text traffic → Runs mode old lines new text
puts_run mode old [] new text traffic p = (p.0, p.1)
puts_run mode old (Skipped ∷ lines) new text traffic p = puts_run mode old lines new text traffic p
puts_run mode old (Do order ∷ lines) new text traffic p = (p.0, p.1, p.2, p.4, p.5, puts_run mode p.0 lines new p.2 p.3 p.7)
puts_run mode old (Enter entry ∷ lines) new text traffic p = absurd p

tapped_by : {T : Type 0} (contents : T → Option (List ℕ)) (mode : Mode) (start : World) (input : List ℕ) (end : Work) (w0 w1 : Option (List ℕ)) (t0 t1 : Taps T)
    → ReadsAll contents (Running mode start) input end w0 w1 t0 t1 → IsTapped contents mode start input w0 w1 t0 t1
tapped_by contents mode start input end w0 w1 t0 t1 p =
    let puts = puts_of mode start p.lines end p.text p.traffic p.carries in
    record { lines = p.lines; end = puts.0; text = p.text; traffic = p.traffic; reads = p.reads; puts = puts.1; appends = p.appends; gets = p.gets }

writes_by : {T : Type 0} (contents : T → Option (List ℕ)) (mode : Mode) (cpus : ℕ) (input : List ℕ) (end : Work) (w0 w1 : Option (List ℕ)) (t0 t1 : Taps T)
    → ReadsAll contents (Running mode (first_world cpus)) input end w0 w1 t0 t1 → Writes mode (first_world cpus) input w0 w1
writes_by contents mode cpus input end w0 w1 t0 t1 p =
    let puts = puts_of mode (first_world cpus) p.lines end p.text p.traffic p.carries in
    let runs = puts_run mode (first_world cpus) p.lines puts.0 p.text p.traffic puts.1 in
    record { lines = p.lines; text = p.text; reads = p.reads; prints = (puts.0, runs, run_promised mode cpus p.lines puts.0 p.text runs); appends = p.appends }

pub run_tapped : {T E : Type 0} (result : Result T E) {S : Type 0} (contents : S → Option (List ℕ)) (work : Work) (mode : Mode) (cpus : ℕ) (end : Work) (r w0 w1 : Option (List ℕ)) (t0 t1 : Taps S) → work ≡ Running mode (first_world cpus)
    → OnOk result (IfSome r (λ input. ReadsAll contents work input end w0 w1 t0 t1)) → OnOk result (IfSome r (λ input. IsTapped contents mode (first_world cpus) input w0 w1 t0 t1))
run_tapped (Err x) contents work mode cpus end r w0 w1 t0 t1 is p = tt
run_tapped (Ok x) contents work mode cpus end None w0 w1 t0 t1 is p = tt
run_tapped (Ok x) contents work mode cpus end (Some input) w0 w1 t0 t1 is p = tapped_by contents mode (first_world cpus) input end w0 w1 t0 t1 (subst (λ (w : Work). ReadsAll contents w input end w0 w1 t0 t1) is p)

pub run_written : {T E : Type 0} (result : Result T E) {S : Type 0} (contents : S → Option (List ℕ)) (work : Work) (mode : Mode) (cpus : ℕ) (end : Work) (r w0 w1 : Option (List ℕ)) (t0 t1 : Taps S) → work ≡ Running mode (first_world cpus)
    → OnOk result (IfSome r (λ input. ReadsAll contents work input end w0 w1 t0 t1)) → OnOk result (IfSome r (λ input. Writes mode (first_world cpus) input w0 w1))
run_written (Err x) contents work mode cpus end r w0 w1 t0 t1 is p = tt
run_written (Ok x) contents work mode cpus end None w0 w1 t0 t1 is p = tt
run_written (Ok x) contents work mode cpus end (Some input) w0 w1 t0 t1 is p = writes_by contents mode cpus input end w0 w1 t0 t1 (subst (λ (w : Work). ReadsAll contents w input end w0 w1 t0 t1) is p)

-- Results

pub on_ok : (r : Result (Unit {0}) TapFault) (P Q : Type 0) → (P → Q) → OnOk r P → OnOk r Q
on_ok (Ok done) P Q f p = f p
on_ok (Err fault) P Q f p = tt
