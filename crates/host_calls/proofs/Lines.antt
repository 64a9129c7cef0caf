-- The lines of a script that were read, and what they print.
use Rattle.std.proofs.Common.{◌≡◌, ℕ, ◌+◌, ◌≤◌, List, [], ◌∷◌, ◌++◌, Bool, true, false, Option, None, Some, refl, sym, ap, subst, append_assoc, append-nil, inl, inr}
use Rattle.std.specs.Prelude.{IfSome, OnOk, Result, Ok, Err}
use Rattle.grammar.specs.declared.line.Language.TheVariants.{Script}
use Rattle.grammar.specs.declared.line.Line.{Line}
use Rattle.grammar.specs.declared.line.Line.TheVariants.{Skipped, Do, Enter}
use Rattle.grammar.specs.Lines.{Reads}
use Rattle.grammar.specs.Orders.{step_of}
use Rattle.grammar.specs.Printed.{outcome_line}
use Rattle.grammar.specs.Spelling.{Spells}
use Rattle.mig_base.specs.declared.schedule.Step.{Step}
use Rattle.mig_model.specs.Migration.{World, first_world}
use Rattle.engine.specs.declared.fault.RunFault.{RunFault}
use Rattle.engine.specs.declared.fault.RunFault.TheVariants as faults
use Rattle.engine.specs.declared.line_runner.Mode.TheVariants.{Lines}
use Rattle.engine.specs.Lines.{held_line, raw_line, line_text, LineFault, joined, TakesAll, Finishes}
use Rattle.engine.specs.Script.{MakesAny, Runs as Printed}
use Rattle.engine.specs.Worlds.{epoch_in}
use Rattle.engine.proofs.RawLines.{ended_line, last_line}
use Rattle.engine.proofs.Transcripts.{run_promised}
use Rattle.host_calls.specs.declared.stepper.Stepper.{Stepper}
use Rattle.host_calls.specs.Parts.{Takes, Refuses}
use Rattle.host_calls.specs.Stepped.{IsLine, IsWrong, MakesAnyCalls as Steps, RunsCalls, WritesCalls}

-- One line

pub takes_line : (old : Stepper) (number : ℕ) (front text : List ℕ) (len : ℕ) (ended : Bool) (new : Stepper) (out : List ℕ) → text ≡ line_text ended front → len ≤ 256 → IsLine old.world text new.world out → Takes old number (held_line front len ended) new out
takes_line old number front text len ended new out e short line = (line.0, (short, subst (λ (t : List ℕ). Spells Script t line.0) e line.1), line.2)

pub refuses_line : (old : Stepper) (number : ℕ) (front text : List ℕ) (len : ℕ) (ended : Bool) (fault : RunFault) → text ≡ line_text ended front → LineFault (IsWrong text) number fault → LineFault (Refuses old number (held_line front len ended)) number fault
refuses_line old number front text len ended (faults.Line n) e h = (h.0, λ line s. h.1 line (subst (λ (t : List ℕ). Spells Script t line) (sym e) s.1))
refuses_line old number front text len ended fault e h = h

-- The lines of an input

-- these lines are those of the bytes, and lead from one state to the other
record Ran (bytes : List ℕ) (old new : World) (text : List ℕ) : Type 0 where
  pub lines : List Line
  pub reads : Reads Script bytes lines []
  pub runs : RunsCalls old lines new text

ran_all : (old : Stepper) (n : ℕ) (raws : List (List ℕ)) (last : List ℕ) (new : Stepper) (text : List ℕ) → TakesAll Takes old n raws last new text → Ran (joined raws ++ last) old.world new.world text
ran_all old n [] last new text p = elim p [
  | inl none ↦ record { lines = []; reads = none.0; runs = (ap (λ (s : Stepper). s.world) none.1, none.2) }
  | inr some ↦
      let took : Takes old n (raw_line last false) new text = some.2 in
      record {
        lines = took.0 ∷ [];
        reads = ([], inr (last_line Script last took.0 some.0 some.1 took.1, refl), refl);
        runs = (new.world, text, [], took.2, sym (append-nil text), (refl, refl));
      }
]
ran_all old n (raw ∷ raws) last new text p =
    let took : Takes old n (raw_line raw true) p.0 p.1 = p.4 in
    let rest = ran_all p.0 (n + 1) raws last new p.2 p.6 in
    record {
      lines = took.0 ∷ rest.lines;
      reads = (joined raws ++ last, inl (ended_line Script raw ((raw ++ 10 ∷ joined raws) ++ last) (joined raws ++ last) took.0 p.3 (append_assoc raw (10 ∷ joined raws) last) took.1), rest.reads);
      runs = (p.0.world, p.1, p.2, took.2, p.5, rest.runs);
    }

-- Runs

-- without the calls these are the lines of a run
plain_line : (old : World) (step : Option Step) (new : World) (text : List ℕ) → Steps old step new text → (plain : List ℕ) × MakesAny Lines old step new plain
plain_line old (Some step) new text made = (outcome_line made.0, (made.0, made.1, refl))
plain_line old None new text told = (text, told)

plain_run : (old : World) (lines : List Line) (new : World) (text : List ℕ) → RunsCalls old lines new text → (plain : List ℕ) × Printed Lines old lines new plain
plain_run old [] new text p = ([], (p.0, refl))
plain_run old (Skipped ∷ lines) new text p = plain_run old lines new p.2 (subst (λ (w : World). RunsCalls w lines new p.2) p.3.0 p.5)
plain_run old (Do order ∷ lines) new text p =
    let line = plain_line old (step_of order (epoch_in old)) p.0 p.1 p.3 in
    let rest = plain_run p.0 lines new p.2 p.5 in
    (line.0 ++ rest.0, (p.0, line.0, rest.0, line.1, refl, rest.1))
plain_run old (Enter entry ∷ lines) new text p = absurd p.3

writes : (cpus : ℕ) (start end : Stepper) (input : List ℕ) (before after : Option (List ℕ)) → start.world ≡ first_world cpus → Finishes Takes start input end [] before after → WritesCalls (first_world cpus) input before after
writes cpus start end input before after is f =
    let t = f.1 in
    let ran = ran_all start 1 t.raws f.0 t.end (t.written ++ []) t.all in
    let runs : RunsCalls (first_world cpus) ran.lines t.end.world t.written =
    subst (λ (w : World). RunsCalls w ran.lines t.end.world t.written) is (subst (λ (o : List ℕ). RunsCalls start.world ran.lines t.end.world o) (append-nil t.written) ran.runs) in
    let plain = plain_run (first_world cpus) ran.lines t.end.world t.written runs in
    record {
      lines = ran.lines;
      text = t.written;
      reads = rw (t.whole, f.2, append-nil f.0) ran.reads;
      prints = (t.end.world, runs, run_promised Lines cpus ran.lines t.end.world plain.0 plain.1);
      appends = t.appends;
    }

pub run_written : {T E : Type 0} (result : Result T E) (cpus : ℕ) (start end : Stepper) (input before after : Option (List ℕ)) → start.world ≡ first_world cpus
    → OnOk result (IfSome input (λ bytes. Finishes Takes start bytes end [] before after)) → OnOk result (IfSome input (λ bytes. WritesCalls (first_world cpus) bytes before after))
run_written (Err x) cpus start end input before after is p = tt
run_written (Ok x) cpus start end None before after is p = tt
run_written (Ok x) cpus start end (Some bytes) before after is p = writes cpus start end bytes before after is p
