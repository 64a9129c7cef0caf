-- What the reading of a script means for what finishes it.
use Rattle.std.proofs.Common.{◌≡◌, ℕ, List, [], ◌∷◌, ◌++◌, Option, Some, None, refl, ap, subst, ◌∙◌, inl, inr}
use Rattle.std.specs.Prelude.{IfSome, IfOk, IfErr, Result, Ok, Err}
use Rattle.std.proofs.KnownBytes.{Appends-nil}
use Rattle.mig_base.specs.declared.schedule.Step.{Step}
use Rattle.grammar.specs.declared.line.Language.TheVariants.{Script}
use Rattle.grammar.specs.declared.line.Line.{Line}
use Rattle.grammar.specs.declared.line.Line.TheVariants.{Skipped, Do, Enter}
use Rattle.grammar.specs.Orders.{step_of}
use Rattle.grammar.specs.Printed.{outcome_line}
use Rattle.engine.specs.declared.line_runner.Mode.{Mode}
use Rattle.engine.specs.declared.line_runner.Mode.TheVariants.{Lines}
use Rattle.engine.specs.declared.fault.RunFault.{RunFault}
use Rattle.engine.specs.declared.fault.RunFault.TheVariants as faults
use Rattle.engine.specs.Script.{reported, MakesAny, Runs, StopsBy}
use Rattle.engine.specs.Engine.{Work, Running, Works, Outputs, ReadsAll, language_of, run_world}
use Rattle.mig_model.specs.Migration.{World}
use Rattle.engine.specs.Worlds.{epoch_in}
use Rattle.finishing.specs.declared.ending.Ending.{Ending}
use Rattle.finishing.specs.Finished.{EndsScript, FailsAfterScript, LeadsTo, FinishesScript, FinishStops}

-- ---- the world of the script

-- what an order does, it does whatever is printed of it
any_lines : (mode : Mode) (old : World) (made : Option Step) (new : World) (text : List ℕ) → MakesAny mode old made new text → (out : List ℕ) × MakesAny Lines old made new out
any_lines mode old None new text p = (reported Lines old, (p.0, refl))
any_lines mode old (Some step) new text p = (outcome_line p.0, (p.0, p.1, refl))

works_run : (mode : Mode) (old : World) (lines : List Line) (new : Work) (text : List ℕ) → Works (Running mode old) lines new text → (end : World) × (out : List ℕ) × (new ≡ Running mode end) × Runs Lines old lines end out
works_run mode old [] new text p = (old, [], p.0, (refl, refl))
works_run mode old (Skipped ∷ lines) new text p = works_run mode old lines new p.2 (subst (λ (w : Work). Works w lines new p.2) p.3.0 p.5)
works_run mode old (Do order ∷ lines) new text p =
    let rest = works_run mode p.3.0 lines new p.2 (subst (λ (w : Work). Works w lines new p.2) p.3.1 p.5) in
    let made = any_lines mode old (step_of order (epoch_in old)) p.3.0 p.1 p.3.2 in
    (rest.0, made.0 ++ rest.1, rest.2, (p.3.0, made.0, rest.1, made.1, refl, rest.3))
works_run mode old (Enter entry ∷ lines) new text p = absurd p.3

-- the work on a whole script leads to a world
pub read_leads : (mode : Mode) (start : World) (work : Work) (input : List ℕ) (end : Work) (unread before after : Option (List ℕ)) → work ≡ Running mode start → ReadsAll work input end unread before after
    → (world : World) × (end ≡ Running mode world) × LeadsTo start input world
read_leads mode start work input end unread before after is all =
    let p = subst (λ (w : Work). ReadsAll w input end unread before after) is all in
    let ran = works_run mode start p.lines end p.text p.works in
    (ran.0, ran.2, record { lines = p.lines; out = ran.1; reads = p.reads; runs = ran.3 })

-- ---- endings

pub fails : (start world : World) (input : List ℕ) (fault : RunFault) (before after : Option (List ℕ)) → LeadsTo start input world → FailsAfterScript world fault before after → FinishStops start input fault before after
fails start world input (faults.Line n) before after leads p = absurd p
fails start world input faults.ReadFault before after leads p = absurd p
fails start world input faults.WriteFault before after leads p = inr (world, leads, p)
fails start world input faults.NoMemory before after leads p = p

pub stops_read : (mode : Mode) (start : World) (work : Work) (input : List ℕ) (unread : Option (List ℕ)) (fault : RunFault) (a b before : Option (List ℕ)) → work ≡ Running mode start
    → StopsBy Script (Outputs work) input unread fault a b → FinishStops start input fault before before
stops_read mode start work input unread (faults.Line n) a b before is p =
    (record { lines = p.lines; rest = p.rest; reads = p.reads; number = p.number; wrong = p.wrong }, Appends-nil before)
stops_read mode start work input unread faults.ReadFault a b before is p = Appends-nil before
stops_read mode start work input unread faults.WriteFault a b before is p = inl (Appends-nil before)
stops_read mode start work input unread faults.NoMemory a b before is p = Appends-nil before

-- ---- the same of a reader whose bytes may not be known

pub some_stops : (o : Option (List ℕ)) (mode : Mode) (start : World) (work : Work) (unread : Option (List ℕ)) (fault : RunFault) (a b before : Option (List ℕ)) → work ≡ Running mode start
    → IfSome o (λ input. StopsBy (language_of work) (Outputs work) input unread fault a b) → IfSome o (λ input. FinishStops start input fault before before)
some_stops None mode start work unread fault a b before is p = tt
some_stops (Some input) mode start work unread fault a b before is p =
    stops_read mode start (Running mode start) input unread fault a b before refl (subst (λ (w : Work). StopsBy (language_of w) (Outputs w) input unread fault a b) is p)

same_some : (x y : World) → Some x ≡ Some y → x ≡ y
same_some x y e = cc

-- the world that was handed over is that of the script
handed : (mode : Mode) (world other : World) (end : Work) → Some world ≡ run_world end → end ≡ Running mode other → world ≡ other
handed mode world other end is e = same_some world other (is ∙ ap run_world e)

pub some_finishes : (r : Result Ending RunFault) (o : Option (List ℕ)) (mode : Mode) (start world : World) (work end : Work) (unread a b before after : Option (List ℕ)) → work ≡ Running mode start
    → IfSome o (λ input. ReadsAll work input end unread a b) → Some world ≡ run_world end → IfOk r (λ ending. EndsScript ending world before after) → IfOk r (λ ending. IfSome o (λ input. FinishesScript ending start input before after))
some_finishes (Err fault) o mode start world work end unread a b before after is all same p = tt
some_finishes (Ok ending) None mode start world work end unread a b before after is all same p = tt
some_finishes (Ok ending) (Some input) mode start world work end unread a b before after is all same p =
    let read = read_leads mode start work input end unread a b is all in
    (read.0, read.2, subst (λ (w : World). EndsScript ending w before after) (handed mode world read.0 end same read.1) p)

pub some_fails : (r : Result Ending RunFault) (o : Option (List ℕ)) (mode : Mode) (start world : World) (work end : Work) (unread a b before after : Option (List ℕ)) → work ≡ Running mode start
    → IfSome o (λ input. ReadsAll work input end unread a b) → Some world ≡ run_world end → IfErr r (λ fault. FailsAfterScript world fault before after) → IfErr r (λ fault. IfSome o (λ input. FinishStops start input fault before after))
some_fails (Ok ending) o mode start world work end unread a b before after is all same p = tt
some_fails (Err fault) None mode start world work end unread a b before after is all same p = tt
some_fails (Err fault) (Some input) mode start world work end unread a b before after is all same p =
    let read = read_leads mode start work input end unread a b is all in
    fails start read.0 input fault before after read.2 (subst (λ (w : World). FailsAfterScript w fault before after) (handed mode world read.0 end same read.1) p)
