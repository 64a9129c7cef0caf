-- The tables of the workers.
use Rattle.std.proofs.Common.{◌≡◌, ◌⊎◌, ℕ, ◌<◌, Bool, true, false, if◌then◌else◌, Option, None, List, [], ◌∷◌, length, refl, subst, sym, ap, ◌∙◌, inl, inr, get_or, zero, suc, arith}
use Rattle.std.specs.Prelude.{Ok, Err}
use Rattle.std.specs.List.{Contains}
use Rattle.std.proofs.lemmas.List.Elements.{Contains-get_or}
use Rattle.mig_base.specs.declared.schedule.Step.{Step}
use Rattle.mig_base.specs.declared.schedule.Ticket.{Ticket}
use Rattle.mig_model.specs.Runs.{Outcome}
use Rattle.rig.specs.declared.gate.Worker.{Worker}
use Rattle.rig.specs.Turns.{IsStepOf, due_after, may_succeed, steps_of, ticket_of}

-- each step of a table is its worker's
pub table_step : (now who : Worker) (steps : List Step) (at : ℕ) (none : Step) → now ≡ who → (who ≡ Worker.Source) ⊎ (who ≡ Worker.Dest) → steps ≡ steps_of who → at < length steps → IsStepOf now (get_or steps at none)
table_step now who steps at none same is table less =
    let inside : Contains (steps_of who) (get_or steps at none) = subst (λ (all : List Step). Contains all (get_or steps at none)) table (Contains-get_or steps at none less) in
    subst (λ (w : Worker). IsStepOf w (get_or steps at none)) (sym same)
    (elim is [
      | inl source ↦ subst (λ (w : Worker). Contains (steps_of w) (get_or steps at none) → IsStepOf w (get_or steps at none)) (sym source) (λ c. c) inside
      | inr dest ↦ subst (λ (w : Worker). Contains (steps_of w) (get_or steps at none) → IsStepOf w (get_or steps at none)) (sym dest) (λ c. c) inside
    ])

-- a table has steps
pub table_some : (who : Worker) (steps : List Step) → (who ≡ Worker.Source) ⊎ (who ≡ Worker.Dest) → steps ≡ steps_of who → zero < length steps
table_some who steps is table =
    elim is [
      | inl source ↦ subst (λ (all : List Step). zero < length all) (sym (table ∙ ap steps_of source)) (omega arith)
      | inr dest ↦ subst (λ (all : List Step). zero < length all) (sym (table ∙ ap steps_of dest)) (omega arith)
    ]

-- no step of a table is a push, so no ticket is due

abbrev no_tickets : List Step → Type 0
no_tickets [] = Unit {0}
no_tickets (step ∷ steps) = (ticket_of step ≡ None) × no_tickets steps

none_at : (steps : List Step) (at : ℕ) (none : Step) → no_tickets steps → at < length steps → ticket_of (get_or steps at none) ≡ None
none_at [] at none all less = absurd (omega arith)
none_at (step ∷ steps) zero none all less = all.0
none_at (step ∷ steps) (suc at) none all less = none_at steps at none all.1 (omega arith)

table_none : (who : Worker) (steps : List Step) → (who ≡ Worker.Source) ⊎ (who ≡ Worker.Dest) → steps ≡ steps_of who → no_tickets steps
table_none who steps is table =
    elim is [
      | inl source ↦ subst no_tickets (sym (table ∙ ap steps_of source)) (refl, (refl, (refl, (refl, (refl, (refl, (refl, tt)))))))
      | inr dest ↦ subst no_tickets (sym (table ∙ ap steps_of dest)) (refl, (refl, (refl, (refl, (refl, (refl, tt))))))
    ]

pub due_none : (step : Step) (result : Outcome) → ticket_of step ≡ None → due_after step result ≡ None
due_none step (Ok effect) none = refl
due_none step (Err refusal) none = either (may_succeed refusal) (ticket_of step) none
  where
    either : (may : Bool) (ticket : Option Ticket) → ticket ≡ None → (if may then ticket else None) ≡ None
    either true ticket none = none
    either false ticket none = refl

pub table_ticket : (who : Worker) (steps : List Step) (at : ℕ) (none : Step) → (who ≡ Worker.Source) ⊎ (who ≡ Worker.Dest) → steps ≡ steps_of who → at < length steps → ticket_of (get_or steps at none) ≡ None
table_ticket who steps at none is table less = none_at steps at none (table_none who steps is table) less
