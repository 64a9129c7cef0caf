use Rattle.std.proofs.Common.{◌≡◌, ◌*◌, [], ◌⊎◌, ⊎_elim, inl, inr, not, refl, sym, ap, ◌∙◌}
use Rattle.std.specs.Prelude.{Err}
use Rattle.std.proofs.lemmas.Result.{err_from_is_err_and}
use Rattle.mig_base.specs.declared.refusal.Refusal.{Refusal}
use Rattle.mig_model.specs.Destination.{Destination, act_frames, destination_act}
use Rattle.mig_model.specs.DestinationSteps as step
use Rattle.mig_base.specs.Acts.{act_effect}
use Rattle.mig_base.specs.declared.act.Act.{Act}
use Rattle.mig_model.specs.Guest.{zero_installed}
use Rattle.mig_model.specs.NodeSteps.{sent}
use Rattle.mig_base.specs.Userfault.{changing}
use Rattle.fault_handler.specs.Memory.{act_grows}
use Rattle.fault_handler.specs.contracts.destination.Destination.{the_view}
use Rattle.fault_handler.proofs.HandlerLemmas.{IsFirstHeld, act_done, first_held, missing_at, next_lacks, same_first, woken_is, zeroed_is, zeroed_order, zeroed_tells}
use Rattle.fault_handler.proofs.PageLemmas.{requested_page}
use Rattle.fault_handler.proofs.destination.Destination.act.Goals as goal
use Rattle.fault_handler.proofs.destination.Destination.act.Goals.{in-Zeroed+in-Ok, in-Woke}

pub returns-in_err-fault-clause-memory : goal.returns-in_err-fault-clause-memory
returns-in_err-fault-clause-memory c fault rest waits lacks =
    let p = err_from_is_err_and c.from_residual.result c.from_residual.ensures.1 in
    let same = sym p.1 ∙ lacks in
    let none : p.0 ≡ Refusal.NoMemory = cc in
    absurd (next_lacks c.args.self.now (sym c.next_fault.ensures ∙ c.in_err-fault.was ∙ ap Err (sym p.2 ∙ none)))

pub request-requires : goal.request-requires
request-requires c = record { page = requested_page _ _ c.self.inside.owed c.self.inside.requests _ c.in-Requested.origin (sym c.act_of-act.ensures.act ∙ c.in-Requested.is) c.self.invariant.1 }

pub returns-in_err-request-in-Requested-clause-memory : goal.returns-in_err-request-in-Requested-clause-memory
returns-in_err-request-in-Requested-clause-memory c fault rest waits lacks =
    let first = same_first c.args.self.now fault c.in_ok-fault.fault rest (sym c.next_fault.ensures ∙ c.in_ok-fault.was) waits in
    let resolves : destination_act c.args.self.now fault ≡ Act.Requested c.in-Requested.origin =
    ap (destination_act c.args.self.now) (sym first) ∙ ap (λ (n : Destination). destination_act n c.in_ok-fault.fault) (sym c.self.view_is) ∙ sym c.act_of-act.ensures.act ∙ c.in-Requested.is in
    ap (λ act. act_grows act c.args.self.now) resolves ∙ ap not c.in_err-request-in-Requested.ensures.absent

pub make_zeros-requires-clause-quiet : goal.make_zeros-requires-clause-quiet
make_zeros-requires-clause-quiet c = ap (λ (n : Destination). changing n.guest.space.object) c.self.view_is ∙ (first_held c.args.self.now c.in_ok-fault.fault (sym c.next_fault.ensures ∙ c.in_ok-fault.was)).quiet

pub returns-in_default-clause-memory : goal.returns-in_default-clause-memory
returns-in_default-clause-memory c fault rest waits lacks =
    let first = same_first c.args.self.now fault c.in_ok-fault.fault rest (sym c.next_fault.ensures ∙ c.in_ok-fault.was) waits in
    let resolves : destination_act c.args.self.now fault ≡ Act.Zeroed =
    ap (destination_act c.args.self.now) (sym first) ∙ ap (λ (n : Destination). destination_act n c.in_ok-fault.fault) (sym c.self.view_is) ∙ sym c.act_of-act.ensures.act ∙ c.in-Zeroed.is in
    ap (λ act. act_grows act c.args.self.now) resolves

-- the fault that is resolved
first : (c : goal.After-effect-2) → IsFirstHeld c.args.self.now c.in_ok-fault.fault
first c = first_held c.args.self.now c.in_ok-fault.fault (sym c.next_fault.ensures ∙ c.in_ok-fault.was)

-- how it is resolved
resolves : (c : goal.After-effect-2) → c.act_of-act.result ≡ destination_act c.args.self.now c.in_ok-fault.fault
resolves c = c.act_of-act.ensures.act ∙ ap (λ (n : Destination). destination_act n c.in_ok-fault.fault) c.self.view_is

pub invariant_of-self-2 : goal.invariant_of-self-2
invariant_of-self-2 c = elim c.match-act.branch [
  | in-Zeroed+in-Ok w ↦
      let quiet : changing c.self.inside.space.object ≡ 0 = ap (λ (n : Destination). changing n.guest.space.object) c.self.view_is ∙ (first c).quiet in
      let nothing = (missing_at c.args.self.now (the_view c.self.inside) c.in_ok-fault.fault c.self.view_is (sym (resolves c) ∙ w.in-Zeroed.is)).nothing in
      rw w.self-inside-is (zeroed_order _ c.self.inside.space _ c.self.inside.owed c.in_ok-fault.fault.page quiet nothing (w.in-Ok.ensures.ok ∙ ap (zero_installed c.self.inside.space) c.page-page.ensures) c.self.invariant.0, c.self.invariant.1)
  | in-Woke w ↦ rw w.self-inside-is c.self.invariant
]

pub returns-clause-made : goal.returns-clause-made
returns-clause-made c =
    let node = c.args.self.now in
    let fault = c.in_ok-fault.fault in
    let next = sym c.next_fault.ensures ∙ c.in_ok-fault.was in
    elim c.match-act.branch [
      | in-Zeroed+in-Ok w ↦
          let zeroed = w.in-Zeroed.is in
          act_done node _ c.effect-2.result [] fault Act.Zeroed next (sym zeroed ∙ resolves c) (reported c Act.Zeroed zeroed) refl
          (zeroed_is node (the_view c.match-act.self-inside) w.make_zeros.new.space c.wake_page.new.self c.pop_front-2.new.self.items c.page-page.result fault.page
          (ap the_view w.self-inside-is ∙ ap (λ (n : Destination). record n { guest = record n.guest { space = w.make_zeros.new.space } }) c.self.view_is) c.page-page.ensures
          (w.in-Ok.ensures.ok ∙ ap (λ (n : Destination). zero_installed n.guest.space c.page-page.result) c.self.view_is ∙ ap (zero_installed node.guest.space) c.page-page.ensures)
          c.wake_page.ensures c.pop_front-2.ensures.rest)
      | in-Woke w ↦
          let same = ap the_view w.self-inside-is ∙ c.self.view_is in
          ⊎_elim (λ (is : c.act_of-act.result ≡ Act.Woke). woken c Act.Woke is (inl refl) same refl)
          (⊎_elim (λ (is : c.act_of-act.result ≡ Act.Forgot). woken c Act.Forgot is (inr (inl refl)) same refl)
          (λ (is : c.act_of-act.result ≡ Act.Unprotected). woken c Act.Unprotected is (inr (inr refl)) same refl)) w.in-Woke.is
    ]
  where
    reported : (c : goal.After-effect-2) (act : Act) → c.act_of-act.result ≡ act → c.effect-2.result ≡ act_effect act (4096 * c.in_ok-fault.fault.page)
    reported c act is = c.effect-2.ensures ∙ ap (λ a. act_effect a c.addr-addr.result) is ∙ ap (act_effect act) c.addr-addr.ensures

    woken : (c : goal.After-effect-2) (act : Act) → c.act_of-act.result ≡ act → (act ≡ Act.Woke) ⊎ ((act ≡ Act.Forgot) ⊎ (act ≡ Act.Unprotected)) → the_view c.match-act.self-inside ≡ c.args.self.now → [] ≡ act_frames act c.args.self.now →
        step.act c.args.self.now ≡ sent c.effect-2.result []
        (record (the_view c.match-act.self-inside) { guest = record { space = c.match-act.self-inside.space; cpus = c.wake_page.new.self }; held = c.pop_front-2.new.self.items })
    woken c act is which same sends =
        act_done c.args.self.now _ c.effect-2.result [] c.in_ok-fault.fault act (sym c.next_fault.ensures ∙ c.in_ok-fault.was) (sym is ∙ resolves c) (reported c act is) sends
        (woken_is c.args.self.now (the_view c.match-act.self-inside) c.wake_page.new.self c.pop_front-2.new.self.items c.page-page.result c.in_ok-fault.fault.page act same c.page-page.ensures c.wake_page.ensures c.pop_front-2.ensures.rest which)

pub returns-clause-zeroed : goal.returns-clause-zeroed
returns-clause-zeroed c page is =
    zeroed_tells c.args.self.now c.in_ok-fault.fault c.effect-2.result page (first c).quiet
    (c.effect-2.ensures ∙ ap (λ addr. act_effect c.act_of-act.result addr) c.addr-addr.ensures ∙ ap (λ act. act_effect act (4096 * c.in_ok-fault.fault.page)) (resolves c)) is
