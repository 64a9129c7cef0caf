-- The lines of a script have one output, and lead to one state.
use Rattle.std.proofs.Common.{◌≡◌, ℕ, List, [], ◌∷◌, ◌++◌, Option, Some, None, sym, ap, subst, ◌∙◌, inl, inr}
use Rattle.mig_base.specs.declared.schedule.Step.{Step}
use Rattle.grammar.specs.declared.line.Line.{Line}
use Rattle.grammar.specs.declared.line.Line.TheVariants.{Skipped, Do, Enter}
use Rattle.grammar.specs.Orders.{step_of}
use Rattle.grammar.specs.Printed.{Outcome}
use Rattle.engine.specs.declared.line_runner.Mode.{Mode}
use Rattle.engine.specs.Script.{printed, MakesAny, Runs}
use Rattle.mig_model.specs.Migration.{World}
use Rattle.engine.specs.Worlds.{Answered, epoch_in}

-- a step has one outcome, unless memory runs out
one_answer : (old : World) (step : Step) (a b : Outcome) (s t : World) → Answered old step a s → Answered old step b t → (a ≡ b) × (s ≡ t)
one_answer old step a b s t p q = elim p.1 [
  | inl x ↦ elim q.1 [
    | inl y ↦ (x.0 ∙ sym y.0, x.1 ∙ sym y.1)
    | inr y ↦ absurd (q.0 y.0)
  ]
  | inr x ↦ absurd (p.0 x.0)
]

-- an order makes one state, and prints one text
one_order : (mode : Mode) (old : World) (made : Option Step) (s t : World) (a b : List ℕ) → MakesAny mode old made s a → MakesAny mode old made t b → (s ≡ t) × (a ≡ b)
one_order mode old None s t a b p q = (p.0 ∙ sym q.0, p.1 ∙ sym q.1)
one_order mode old (Some step) s t a b p q =
    let same = one_answer old step p.0 q.0 s t p.1 q.1 in
    (same.1, p.2 ∙ ap (λ (x : Outcome). printed mode old x s) same.0 ∙ ap (λ (x : World). printed mode old q.0 x) same.1 ∙ sym q.2)

-- lines have one output
pub one_run : (mode : Mode) (start : World) (lines : List Line) (s t : World) (a b : List ℕ) → Runs mode start lines s a → Runs mode start lines t b → (s ≡ t) × (a ≡ b)
one_run mode start [] s t a b p q = (p.0 ∙ sym q.0, p.1 ∙ sym q.1)
one_run mode start (Skipped ∷ lines) s t a b p q = one_run mode start lines s t a b p q
one_run mode start (Do order ∷ lines) s t a b p q =
    let same = one_order mode start (step_of order (epoch_in start)) p.0 q.0 p.1 q.1 p.3 q.3 in
    let rest = one_run mode q.0 lines s t p.2 q.2 (subst (λ (x : World). Runs mode x lines s p.2) same.0 p.5) q.5 in
    (rest.0, p.4 ∙ ap (λ (x : List ℕ). x ++ p.2) same.1 ∙ ap (λ (x : List ℕ). q.1 ++ x) rest.1 ∙ sym q.4)
one_run mode start (Enter entry ∷ lines) s t a b p q = absurd p
