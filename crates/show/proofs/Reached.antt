-- What the reading of a script means for the world that is shown.
use Rattle.std.proofs.Common.{◌≡◌, ℕ, List, [], ◌∷◌, ◌++◌, Option, Some, refl, ap, sym, subst, ◌∙◌, inr}
use Rattle.std.specs.Prelude.{IfErr, OnErr, Result, Ok, Err}
use Rattle.grammar.specs.declared.line.Line.{Line}
use Rattle.grammar.specs.declared.line.Line.TheVariants.{Skipped, Do, Enter}
use Rattle.engine.specs.declared.line_runner.Mode.TheVariants.{Lines}
use Rattle.engine.specs.declared.fault.RunFault.{RunFault}
use Rattle.engine.specs.declared.fault.RunFault.TheVariants as faults
use Rattle.engine.specs.Script.{Runs}
use Rattle.engine.specs.Engine.{Front, Work, Running, Works, ReadsAll, run_world}
use Rattle.mig_model.specs.Migration.{World}
use Rattle.show.specs.declared.what.Asked.{Asked}
use Rattle.show.specs.Shown.{IsRun, IsText, LeadsTo, ShowStops, WriteStops}

works_run : (old : World) (lines : List Line) (new : Work) (text : List ℕ) → Works (Running Lines old) lines new text → (end : World) × (out : List ℕ) × (new ≡ Running Lines end) × Runs Lines old lines end out
works_run old [] new text p = (old, [], p.0, (refl, refl))
works_run old (Skipped ∷ lines) new text p = works_run old lines new p.2 (subst (λ (w : Work). Works w lines new p.2) p.3.0 p.5)
works_run old (Do order ∷ lines) new text p =
    let rest = works_run p.3.0 lines new p.2 (subst (λ (w : Work). Works w lines new p.2) p.3.1 p.5) in
    (rest.0, p.1 ++ rest.1, rest.2, (p.3.0, p.1, rest.1, p.3.2, refl, rest.3))
works_run old (Enter entry ∷ lines) new text p = absurd p.3

-- the work on a whole script leads to a world
read_leads : (start : World) (work : Work) (input : List ℕ) (end : Work) (unread before after : Option (List ℕ)) → work ≡ Running Lines start → ReadsAll work input end unread before after
    → (world : World) × (end ≡ Running Lines world) × LeadsTo start input world
read_leads start work input end unread before after is all =
    let p = subst (λ (w : Work). ReadsAll w input end unread before after) is all in
    let ran = works_run start p.lines end p.text p.works in
    (ran.0, ran.2, record { lines = p.lines; out = ran.1; reads = p.reads; runs = ran.3 })

same_some : (x y : World) → Some x ≡ Some y → x ≡ y
same_some x y e = cc

-- the world that was handed over is the one to which the script leads
pub handed_leads : (start world : World) (work : Work) (input : List ℕ) (end : Work) (unread before after : Option (List ℕ)) → work ≡ Running Lines start → ReadsAll work input end unread before after → Some world ≡ run_world end
    → LeadsTo start input world
handed_leads start world work input end unread before after is all same =
    let read = read_leads start work input end unread before after is all in
    subst (λ (w : World). LeadsTo start input w) (sym (same_some world read.0 (same ∙ ap run_world read.1))) read.2

-- What is written of a world

-- the text of a world was written in part
pub text_cut : {A : Type 0} (world : World) (asked : Asked) (result : Result A RunFault) (text bytes : List ℕ) (before after : Option (List ℕ)) → IsText asked.form world asked.what text → bytes ≡ text → IfErr result (λ fault. fault ≡ faults.WriteFault)
    → OnErr result (Front bytes before after) → IfErr result (λ fault. WriteStops world asked fault before after)
text_cut world asked (Ok done) text bytes before after of same is p = is
text_cut world asked (Err fault) text bytes before after of same is p =
    subst (λ (f : RunFault). WriteStops world asked f before after) (sym is) (text, of, subst (λ (t : List ℕ). Front t before after) same p)

-- How it ends

-- the world was reached, and its text could not be written
pub fails_shown : (start world : World) (asked : Asked) (input front : List ℕ) (fault : RunFault) (before after : Option (List ℕ)) → IsRun asked.at input front → LeadsTo start front world → WriteStops world asked fault before after
    → ShowStops start asked input fault before after
fails_shown start world asked input front (faults.Line n) before after run leads p = absurd p
fails_shown start world asked input front faults.ReadFault before after run leads p = absurd p
fails_shown start world asked input front faults.WriteFault before after run leads p = inr (world, record { front = front; run = run; leads = leads }, p)
fails_shown start world asked input front faults.NoMemory before after run leads p = p
