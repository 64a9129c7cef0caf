use Rattle.std.proofs.Common.{◌≡◌, true, Option, Some, None, sym, ap, unwrap_or, ◌∙◌}
use Rattle.mig_base.specs.declared.effect.Effect.{Effect}
use Rattle.mig_base.specs.declared.message.Message.{Message}
use Rattle.mig_model.specs.Destination.{Destination, destination_read, settled}
use Rattle.mig_model.specs.DestinationSteps as machine
use Rattle.mig_model.specs.Effects.{read_effect}
use Rattle.mig_base.specs.Userfault.{next_message}
use Rattle.fault_handler.specs.contracts.destination.Destination.{the_view}
use Rattle.fault_handler.proofs.HandlerLemmas.{IsNoted, none_waits, noted_next, noted_order, noted_paged, noted_waits, read_done, read_effect_is, read_is, run_of, settled_done}
use Rattle.fault_handler.proofs.destination.Destination.read.Goals as goal
use Rattle.fault_handler.proofs.destination.Destination.read.Goals.{in-Some+in-Ok, in_default}

none_some : {A : Type 0} (x : A) → None ≡ Some x → ⊥
none_some x h = cc

pub invariant_of-self-in_default-read : goal.invariant_of-self-in_default-read
invariant_of-self-in_default-read c =
    let none = c.read.ensures.none.0 c.in_default-read.is in
    elim c.match-next_message.branch [
      | in-Some+in-Ok w ↦
          let noting = noted_next (the_view c.self.inside) (the_view c.match-next_message.self-inside) w.in-Some.message _ _ (sym c.next_message.ensures ∙ w.in-Some.is) (ap the_view w.self-inside-is) w.in-Ok.ensures.held w.in-Ok.ensures.owed in
          absurd (none_some noting.noted (sym none ∙ noted_waits _ _ noting))
      | in_default w ↦ rw ((c.read.ensures.unchanged none).0, w.self-inside-is) c.self.invariant
    ]

-- the message is noted before it is read
noting : (c : goal.After-self-1) → IsNoted (the_view c.self.inside) (the_view c.match-next_message.self-inside)
noting c = elim c.match-next_message.branch [
  | in-Some+in-Ok w ↦
      noted_next (the_view c.self.inside) (the_view c.match-next_message.self-inside) w.in-Some.message _ _ (sym c.next_message.ensures ∙ w.in-Some.is) (ap the_view w.self-inside-is) w.in-Ok.ensures.held w.in-Ok.ensures.owed
  | in_default w ↦
      let none = none_waits (next_message c.self.inside.space.object) (sym c.next_message.ensures ∙ w.in_default.is) in
      let there = ap (λ (n : Destination). next_message n.guest.space.object) (ap the_view w.self-inside-is) in
      absurd (none_some _ (sym (c.read.ensures.none.1 (there ∙ none)) ∙ c.in-Some-read.is))
]

pub invariant_of-self-2 : goal.invariant_of-self-2
invariant_of-self-2 c =
    let it = noting c in
    let guest = c.read.ensures.guest it.noted (noted_waits _ _ it) in
    (noted_order _ _ it c.read.new.space (ap (λ g. g.space) guest) c.read.ensures.lent c.self.invariant.0, noted_paged _ _ it c.self.invariant.1)

-- the destination after it
read : (c : goal.After-self-1) → record (the_view c.match-next_message.self-inside) { guest = record { space = c.read.new.space; cpus = c.read.new.cpus }; faults = c.saturating_add-self-inside.result } ≡ destination_read (the_view c.self.inside) (noting c).noted
read c =
    let it = noting c in
    let waits = noted_waits _ _ it in
    let same = ap (λ (o : Option (Message × Effect)). (unwrap_or o (c.in-Some-read.message, c.in-Some-read.effect)).0) (sym c.in-Some-read.is ∙ c.read.ensures.message it.noted waits) in
    read_is _ _ it c.read.new.space c.read.new.cpus c.faults_in.result _ c.in-Some-read.message (c.read.ensures.guest it.noted waits) same c.faults_in.ensures c.saturating_add-self-inside.ensures

run : (c : goal.After-self-1) → c.self.inside.has_run ≡ true
run c = ap (λ (n : Destination). n.has_run) c.self.view_is ∙ run_of _ (sym c.ensure_run.ensures ∙ c.in_ok-ensure_run.was)

pub returns-clause-made : goal.returns-clause-made
returns-clause-made c =
    let it = noting c in
    let reported = read_effect_is _ _ _ _ (sym c.in-Some-read.is ∙ c.read.ensures.message it.noted (noted_waits _ _ it)) in
    let here = ap (λ (n : Destination). read_effect n.guest.cpus it.noted.cpu it.noted.message) it.is in
    ap machine.read (sym c.self.view_is) ∙ read_done (the_view c.self.inside) _ c.in-Some-read.effect it.noted (run c) it.next (reported ∙ here) (read c)

pub returns-clause-settled : goal.returns-clause-settled
returns-clause-settled c page =
    settled_done (the_view c.self.inside) _ (noting c).noted page (noting c).next (run c) c.self.invariant.0 (read c) ∙ ap (λ (n : Destination). settled n page) c.self.view_is
