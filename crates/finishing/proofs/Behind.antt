-- Lines after a script: what they spell, and where their run leads.
use Rattle.std.proofs.Common.{◌≡◌, ◌≢◌, ℕ, zero, suc, ◌+◌, ◌<◌, add-one, Option, Some, Ok, Err, List, [], ◌∷◌, ◌++◌, length, take, get_or, arith, refl, sym, ap, subst, ◌∙◌, append_assoc, append-nil, length-append, inl, inr}
use Rattle.std.specs.Prelude.{IsOk}
use Rattle.std.proofs.lemmas.Bool.{false≢true}
use Rattle.mig_base.specs.declared.refusal.Refusal.TheVariants.{NoMemory}
use Rattle.mig_base.specs.declared.schedule.Step.{Step}
use Rattle.mig_model.specs.Migration.{World, after_steps, next, outcome}
use Rattle.mig_model.specs.Promises.{AreAccepted, IsComplete}
use Rattle.grammar.specs.declared.line.Language.TheVariants.{Script}
use Rattle.grammar.specs.declared.line.Line.{Line}
use Rattle.grammar.specs.declared.line.Line.TheVariants.{Skipped, Do, Enter}
use Rattle.grammar.specs.declared.order.Order.{Order}
use Rattle.grammar.specs.Fits.{CanBeSpelled}
use Rattle.grammar.specs.Lines.{HasNoFeed, Reads}
use Rattle.grammar.specs.Orders.{HasStep, order_of}
use Rattle.grammar.specs.Printed.{Outcome, outcome_line}
use Rattle.grammar.proofs.Cuts.{feed_inside}
use Rattle.engine.specs.declared.line_runner.Mode.TheVariants.{Lines}
use Rattle.engine.specs.Script.{MakesAny, Runs}
use Rattle.engine.specs.Worlds.{epoch_in}
use Rattle.finishing.specs.Finished.{IsStepLine, AreLines, HaveLines, Adds, AreBehind, Completes, IsEnded, LeadsTo}

-- ---- one line more

lines_more : (xs : List Step) (n : ℕ) (other : Step) (text raw : List ℕ) → n < length xs → AreLines (take n xs) text → IsStepLine raw (get_or xs n other) → AreLines (take (suc n) xs) (text ++ (raw ++ 10 ∷ []))
lines_more [] n other text raw lt p q = absurd (omega (arith, lt))
lines_more (x ∷ xs) zero other text raw lt p q = (raw, [], q, ap (λ (t : List ℕ). t ++ (raw ++ 10 ∷ [])) p ∙ sym (append-nil (raw ++ 10 ∷ [])), refl)
lines_more (x ∷ xs) (suc n) other text raw lt p q =
    (p.0, p.1 ++ (raw ++ 10 ∷ []), p.2, ap (λ (t : List ℕ). t ++ (raw ++ 10 ∷ [])) p.3 ∙ append_assoc (p.0 ++ 10 ∷ []) p.1 (raw ++ 10 ∷ []), lines_more xs n other p.1 raw (omega (arith, lt)) p.4 q)

pub adds_more : (xs : List Step) (n : ℕ) (other : Step) (start before mid after raw : List ℕ) → n < length xs → Adds (take n xs) start before → IsStepLine raw (get_or xs n other) → mid ≡ before ++ raw → after ≡ mid ++ 10 ∷ []
    → Adds (take (n + 1) xs) start after
adds_more xs n other start before mid after raw lt p q grown ended =
    let tail = raw ++ 10 ∷ [] in (
      p.0 ++ tail,
      ended ∙ ap (λ (t : List ℕ). t ++ 10 ∷ []) grown ∙ append_assoc before raw (10 ∷ []) ∙ ap (λ (t : List ℕ). t ++ tail) p.1 ∙ append_assoc start p.0 tail,
      rw add-one (lines_more xs n other p.0 raw lt p.2 q),
    )

-- a line can say the step at a place
said_at : (xs : List Step) (n : ℕ) (other : Step) → n < length xs → HaveLines xs → CanBeSpelled (order_of (get_or xs n other))
said_at [] n other lt p = absurd (omega (arith, lt))
said_at (x ∷ xs) zero other lt p = p.0
said_at (x ∷ xs) (suc n) other lt p = said_at xs n other (omega (arith, lt)) p.1

pub order_at : (xs : List Step) (n : ℕ) (other : Step) (order : Order) → HasStep order (get_or xs n other) → order ≡ order_of (get_or xs n other) → n < length xs → HaveLines xs → CanBeSpelled order
order_at xs n other order has is lt p = subst CanBeSpelled (sym is) (said_at xs n other lt p)

-- ---- a run of lines, and then of others

runs_then : (s : World) (xs : List Line) (m : World) (a : List ℕ) (ys : List Line) (e : World) (b : List ℕ) → Runs Lines s xs m a → Runs Lines m ys e b → Runs Lines s (xs ++ ys) e (a ++ b)
runs_then s [] m a ys e b p q = rw (p.1, ← p.0) q
runs_then s (Skipped ∷ xs) m a ys e b p q = runs_then s xs m a ys e b p q
runs_then s (Do order ∷ xs) m a ys e b p q =
    (p.0, p.1, p.2 ++ b, p.3, ap (λ (t : List ℕ). t ++ b) p.4 ∙ append_assoc p.1 p.2 b, runs_then p.0 xs m p.2 ys e b p.5 q)
runs_then s (Enter entry ∷ xs) m a ys e b p q = absurd p

-- ---- lines that complete a migration are a script

not_lacking : (made : Outcome) → IsOk made → made ≢ Err NoMemory
not_lacking (Ok effect) is = λ h. cc
not_lacking (Err refusal) is = absurd (false≢true is)

-- a script that leads from one world to another
abbrev Leading : World → List ℕ → World → Type 0
Leading old text new = (lines : List Line) × (out : List ℕ) × Reads Script text lines [] × Runs Lines old lines new out

steps_run : (old : World) (steps : List Step) (text : List ℕ) → AreAccepted old steps → AreLines steps text → Leading old text (after_steps old steps)
steps_run old [] text accepted p = ([], [], p, (refl, refl))
steps_run old (step ∷ steps) text accepted p =
    let line = p.2.line in
    let out = outcome_line (outcome old step) in
    let rest = steps_run (next old step) steps p.1 accepted.1 p.4 in
    let makes : MakesAny Lines old (Some step) (next old step) out = (outcome old step, (not_lacking (outcome old step) accepted.0, inl (refl, refl)), refl) in (
      Do p.2.order ∷ rest.0,
      out ++ rest.1,
      (p.1, inl (record { raw = p.0; whole = p.3 ∙ append_assoc p.0 (10 ∷ []) p.1; one = line.one; short = line.short; spells = line.spells }), rest.2),
      (next old step, out, rest.1, subst (λ (made : Option Step). MakesAny Lines old made (next old step) out) (sym (p.2.makes (epoch_in old))) makes, refl, rest.3),
    )

-- a line feed before a script is an empty line
feed_first : (old : World) (text : List ℕ) (new : World) → Leading old text new → Leading old (10 ∷ text) new
feed_first old text new p =
    (Skipped ∷ p.0, p.1, (text, inl (record { raw = []; whole = refl; one = tt; short = omega arith; spells = tt }), p.2), p.3)

behind_run : (old : World) (steps : List Step) (text : List ℕ) → AreAccepted old steps → AreBehind steps text → Leading old text (after_steps old steps)
behind_run old steps text accepted p =
    let new = after_steps old steps in
    let lines = steps_run old steps p.1 accepted p.4 in
    elim p.2 [
      | inl none ↦ subst (λ (t : List ℕ). Leading old t new) (sym (p.3 ∙ ap (λ (f : List ℕ). f ++ p.1) none)) lines
      | inr feed ↦ subst (λ (t : List ℕ). Leading old t new) (sym (p.3 ∙ ap (λ (f : List ℕ). f ++ p.1) feed)) (feed_first old p.1 new lines)
    ]

-- ---- two scripts, one after the other

ended_behind : (raw mid front : List ℕ) → raw ++ 10 ∷ mid ≡ front ++ 10 ∷ [] → IsEnded mid
ended_behind [] mid [] e = inl cc
ended_behind [] mid (f ∷ front) e = inr (front, cc)
ended_behind (r ∷ raw) mid [] e =
    let none : raw ++ 10 ∷ mid ≡ [] = cc in
    absurd (omega (arith, ap length none, length-append raw (10 ∷ mid)))
ended_behind (r ∷ raw) mid (f ∷ front) e =
    let rest : raw ++ 10 ∷ mid ≡ front ++ 10 ∷ [] = cc in
    ended_behind raw mid front rest

ended_rest : (input raw mid : List ℕ) → input ≡ raw ++ 10 ∷ mid → IsEnded input → IsEnded mid
ended_rest input raw mid whole ended = elim ended [
  | inl none ↦ absurd (omega (arith, ap length (sym whole ∙ none), length-append raw (10 ∷ mid)))
  | inr feed ↦ ended_behind raw mid feed.0 (sym whole ∙ feed.1)
]

-- a last line without a line feed does not end with one
last_open : (input : List ℕ) → 0 < length input → HasNoFeed input → IsEnded input → ⊥
last_open input some one ended = elim ended [
  | inl none ↦ absurd (omega (arith, some, ap length none))
  | inr feed ↦ feed_inside feed.0 [] (subst HasNoFeed feed.1 one)
]

reads_then : (input : List ℕ) (lines : List Line) (text : List ℕ) (more : List Line) → IsEnded input → Reads Script input lines [] → Reads Script text more [] → Reads Script (input ++ text) (lines ++ more) []
reads_then input [] text more ended p q = subst (λ (t : List ℕ). Reads Script (t ++ text) more []) (sym p) q
reads_then input (line ∷ lines) text more ended p q = elim p.1 [
  | inl e ↦ (
    p.0 ++ text,
    inl (record { raw = e.raw; whole = ap (λ (t : List ℕ). t ++ text) e.whole ∙ append_assoc e.raw (10 ∷ p.0) text; one = e.one; short = e.short; spells = e.spells }),
    reads_then p.0 lines text more (ended_rest input e.raw p.0 e.whole ended) p.2 q,
  )
  | inr e ↦ absurd (last_open input e.0.some e.0.one ended)
]

pub finished : (start world : World) (input text : List ℕ) → IsEnded input → LeadsTo start input world → Completes world text → (end : World) × LeadsTo start (input ++ text) end × IsComplete end
finished start world input text ended p q =
    let behind = behind_run world q.steps text q.leads.accepted q.lines in
    let end = after_steps world q.steps in (
      end,
      record {
        lines = p.lines ++ behind.0;
        out = p.out ++ behind.1;
        reads = reads_then input p.lines text behind.0 ended p.reads behind.2;
        runs = runs_then start p.lines world p.out behind.0 end behind.1 p.runs behind.3;
      },
      subst IsComplete q.leads.is q.complete,
    )
