-- What is printed as a transcript is the transcript.
use Rattle.std.proofs.Common.{◌≡◌, ℕ, zero, suc, ◌+◌, ◌<◌, ◌≤◌, add-one, length-append, Option, Some, None, List, [], ◌∷◌, ◌++◌, length, take, drop, get_or, arith, refl, sym, ap, subst, ◌∙◌, append_assoc, append-nil, inl, inr}
use Rattle.mig_base.specs.declared.command.Entry.{Entry}
use Rattle.mig_base.specs.declared.schedule.Side.{Side}
use Rattle.mig_base.specs.declared.schedule.Step.{Step}
use Rattle.mig_base.specs.Flat.{IsFlatRun}
use Rattle.mig_model.specs.Migration.{first_world, World, next}
use Rattle.mig_model.specs.Promises.{IsReached}
use Rattle.mig_model.specs.Runs.{Happens}
use Rattle.mig_model.proofs.steps.ReachedLemmas.{reached-next}
use Rattle.mig_model.proofs.steps.StepCases.{MakesWorld, made-next}
use Rattle.world.proofs.HeadlineLemmas.{headline_reached}
use Rattle.grammar.specs.Texts.{entry_line}
use Rattle.grammar.specs.declared.line.Line.{Line}
use Rattle.grammar.specs.declared.line.Line.TheVariants.{Skipped, Do, Enter}
use Rattle.grammar.specs.Orders.{step_of}
use Rattle.grammar.specs.Printed.{Outcome}
use Rattle.engine.specs.declared.line_runner.Mode.{Mode}
use Rattle.engine.specs.declared.line_runner.Mode.TheVariants.{Transcript}
use Rattle.engine.specs.Script.{entry_lines, gained, MakesAny, Runs}
use Rattle.world.specs.Headline.{Headline}
use Rattle.engine.specs.Worlds.{Answered, epoch_in}

-- ---- a step makes the transcript longer, or leaves it

abbrev pub Grows : World → World → Type 0
Grows old new = (more : List Entry) × (new.transcript ≡ old.transcript ++ more)

no_more : (entries : List Entry) → (more : List Entry) × (entries ≡ entries ++ more)
no_more entries = ([], sym (append-nil entries))

stays : (world : World) → Grows world world
stays world = no_more world.transcript

same_entries : (world new : World) → new.transcript ≡ world.transcript → Grows world new
same_entries world new same = ([], same ∙ sym (append-nil world.transcript))

made_grows : (world : World) (step : Step) → MakesWorld (λ (new : World). Grows world new) world step
made_grows world (Step.Issue cpu command) = λ there idle runs. (_, refl)
made_grows world (Step.Retry cpu) = λ command is woken runs. (_, refl)
made_grows world Step.Start = λ idle used. no_more world.transcript
made_grows world Step.Round = λ precopy quiet. no_more world.transcript
made_grows world Step.Send = λ page is precopy up quiet. no_more world.transcript
made_grows world (Step.SendRun count) = λ first number is size precopy up quiet. no_more world.transcript
made_grows world Step.SourceRead = λ noted is started runs. no_more world.transcript
made_grows world Step.SourceAct = λ fault rest is started runs quiet. no_more world.transcript
made_grows world Step.Switch = λ precopy up quiet. no_more world.transcript
made_grows world (Step.Deliver n) = (λ sent rest is short. no_more world.transcript, λ sent rest is full started up late urgent. no_more world.transcript)
made_grows world (Step.DeliverBack n) = (λ sent rest is short. no_more world.transcript, λ sent rest is full started up. no_more world.transcript)
made_grows world Step.DestRead = λ noted is ran. no_more world.transcript
made_grows world Step.DestAct = λ fault rest is ran quiet. no_more world.transcript
made_grows world Step.Install = λ copy rest is ran quiet. no_more world.transcript
made_grows world (Step.Push ticket) = λ stopped up own present remains. no_more world.transcript
made_grows world (Step.PushUrgent ticket) = λ stopped up own present remains. no_more world.transcript
made_grows world (Step.DeliverUrgent n) = (λ sent rest is short. no_more world.transcript, λ sent rest is full ran up. no_more world.transcript)
made_grows world Step.Serve = λ page pages is stopped up. no_more world.transcript
made_grows world Step.End = λ stopped own up none. no_more world.transcript
made_grows world Step.Break = λ started kept up. no_more world.transcript
made_grows world (Step.Notice Side.Source) = λ started kept down. no_more world.transcript
made_grows world (Step.Notice Side.Destination) = λ started kept down. no_more world.transcript
made_grows world Step.Resume = λ source destination down used. no_more world.transcript

next_grows : (world : World) (step : Step) → Grows world (next world step)
next_grows world step = made-next (λ (new : World). Grows world new) world step (stays world) (made_grows world step)

is_next : (old : World) (step : Step) (outcome : Outcome) (new : World) → Answered old step outcome new → new ≡ next old step
is_next old step outcome new answered = elim answered.1 [
  | inl h ↦ h.1
  | inr h ↦ absurd (answered.0 h.0)
]

-- the same of what an order makes
any_grows : (mode : Mode) (old : World) (made : Option Step) (new : World) (out : List ℕ) → MakesAny mode old made new out → Grows old new
any_grows mode old None new out p = same_entries old new (ap (λ (w : World). w.transcript) p.0)
any_grows mode old (Some step) new out p = subst (λ (w : World). Grows old w) (sym (is_next old step p.0 new p.1)) (next_grows old step)

happens_grows : (old : World) (step : Step) (outcome : Outcome) (new : World) → Happens old step outcome new → Grows old new
happens_grows old step outcome new happens = elim happens [
  | inl h ↦ subst (λ (w : World). Grows old w) (sym h.1) (next_grows old step)
  | inr h ↦ subst (λ (w : World). Grows old w) (sym h.2) (stays old)
]

-- no entry is lost
pub longer : (old : World) (s : Step) (outcome : Outcome) (new : World) (a b : List Entry) → Happens old s outcome new → a ≡ old.transcript → b ≡ new.transcript → length a ≤ length b
longer old s outcome new a b happens is_a is_b =
    let grows = happens_grows old s outcome new happens in
    let size : length b ≡ length (a ++ grows.0) = ap length (is_b ∙ grows.1 ∙ ap (λ (es : List Entry). es ++ grows.0) (sym is_a)) in
    omega (arith, size, length-append a grows.0)

-- ---- the lines of entries

entry_lines-append : (xs ys : List Entry) → entry_lines (xs ++ ys) ≡ entry_lines xs ++ entry_lines ys
entry_lines-append [] ys = refl
entry_lines-append (x ∷ xs) ys = ap (λ (t : List ℕ). entry_line x ++ t) (entry_lines-append xs ys) ∙ sym (append_assoc (entry_line x) (entry_lines xs) (entry_lines ys))

-- one line more
lines_more : (es : List Entry) (n : ℕ) (other : Entry) → n < length es → entry_lines (take (suc n) es) ≡ entry_lines (take n es) ++ entry_line (get_or es n other)
lines_more [] n other lt = absurd (omega (arith, lt))
lines_more (e ∷ es) zero other lt = append-nil (entry_line e)
lines_more (e ∷ es) (suc n) other lt =
    ap (λ (t : List ℕ). entry_line e ++ t) (lines_more es n other (omega (arith, lt))) ∙ sym (append_assoc (entry_line e) (entry_lines (take n es)) (entry_line (get_or es n other)))

pub lines_printed : (start before after : List ℕ) (es : List Entry) (n : ℕ) (other : Entry) → n < length es → before ≡ start ++ entry_lines (take n es) → after ≡ before ++ entry_line (get_or es n other)
    → after ≡ start ++ entry_lines (take (n + 1) es)
lines_printed start before after es n other lt so_far printed =
    let line = entry_line (get_or es n other) in
    rw add-one
    (printed ∙ ap (λ (t : List ℕ). t ++ line) so_far ∙ append_assoc start (entry_lines (take n es)) line ∙ ap (λ (t : List ℕ). start ++ t) (sym (lines_more es n other lt)))

drop_front : (xs ys : List Entry) → drop (length xs) (xs ++ ys) ≡ ys
drop_front [] ys = refl
drop_front (x ∷ xs) ys = drop_front xs ys

-- the lines of a transcript are those of the entries before, and of those gained
gained_lines : (old new : World) → Grows old new → entry_lines new.transcript ≡ entry_lines old.transcript ++ entry_lines (gained old new)
gained_lines old new grows =
    let more : gained old new ≡ grows.0 = ap (λ (es : List Entry). drop (length old.transcript) es) grows.1 ∙ drop_front old.transcript grows.0 in
    ap entry_lines grows.1 ∙ entry_lines-append old.transcript grows.0 ∙ ap (λ (es : List Entry). entry_lines old.transcript ++ entry_lines es) (sym more)

-- what an order prints is the lines of the entries gained
any_printed : (old : World) (made : Option Step) (new : World) (out : List ℕ) → MakesAny Transcript old made new out → entry_lines new.transcript ≡ entry_lines old.transcript ++ out
any_printed old None new out p = ap (λ (w : World). entry_lines w.transcript) p.0 ∙ sym (append-nil (entry_lines old.transcript)) ∙ ap (λ (t : List ℕ). entry_lines old.transcript ++ t) (sym p.1)
any_printed old (Some step) new out p = gained_lines old new (any_grows Transcript old (Some step) new out p) ∙ ap (λ (t : List ℕ). entry_lines old.transcript ++ t) (sym p.2)

printed_lines : (old : World) (lines : List Line) (new : World) (text : List ℕ) → Runs Transcript old lines new text → entry_lines new.transcript ≡ entry_lines old.transcript ++ text
printed_lines old [] new text p =
    ap (λ (w : World). entry_lines w.transcript) p.0 ∙ sym (append-nil (entry_lines old.transcript)) ∙ ap (λ (t : List ℕ). entry_lines old.transcript ++ t) (sym p.1)
printed_lines old (Skipped ∷ lines) new text p = printed_lines old lines new text p
printed_lines old (Do order ∷ lines) new text p =
    let before = entry_lines old.transcript in
    printed_lines p.0 lines new p.2 p.5
    ∙ ap (λ (t : List ℕ). t ++ p.2) (any_printed old (step_of order (epoch_in old)) p.0 p.1 p.3)
    ∙ append_assoc before p.1 p.2
    ∙ ap (λ (t : List ℕ). before ++ t) (sym p.4)
printed_lines old (Enter entry ∷ lines) new text p = absurd p

pub printed_transcript : (cpus : ℕ) (lines : List Line) (end : World) (text : List ℕ) → Runs Transcript (first_world cpus) lines end text → text ≡ entry_lines end.transcript
printed_transcript cpus lines end text p = sym (printed_lines (first_world cpus) lines end text p)

-- ---- and the last state is one that a list of steps leads to

pub any_reached : (mode : Mode) (old : World) (made : Option Step) (new : World) (out : List ℕ) → IsReached old → MakesAny mode old made new out → IsReached new
any_reached mode old None new out reached p = subst IsReached (sym p.0) reached
any_reached mode old (Some step) new out reached p = subst IsReached (sym (is_next old step p.0 new p.1)) (reached-next old step reached)

run_reached : (mode : Mode) (old : World) (lines : List Line) (new : World) (text : List ℕ) → IsReached old → Runs mode old lines new text → IsReached new
run_reached mode old [] new text reached p = subst IsReached (sym p.0) reached
run_reached mode old (Skipped ∷ lines) new text reached p = run_reached mode old lines new text reached p
run_reached mode old (Do order ∷ lines) new text reached p =
    run_reached mode p.0 lines new p.2 (any_reached mode old (step_of order (epoch_in old)) p.0 p.1 reached p.3) p.5
run_reached mode old (Enter entry ∷ lines) new text reached p = absurd p

pub first_reached : (cpus : ℕ) → IsReached (first_world cpus)
first_reached cpus = record { cpus = cpus; epoch = 0; rounds = 0; steps = []; is = refl }

pub run_promised : (mode : Mode) (cpus : ℕ) (lines : List Line) (end : World) (text : List ℕ) → Runs mode (first_world cpus) lines end text → Headline end
run_promised mode cpus lines end text p = headline_reached end (run_reached mode (first_world cpus) lines end text (first_reached cpus) p)

pub flat_transcript : (cpus : ℕ) (lines : List Line) (end : World) (text : List ℕ) → Runs Transcript (first_world cpus) lines end text → IsFlatRun end.transcript
flat_transcript cpus lines end text p = (run_promised Transcript cpus lines end text p).core.flat
