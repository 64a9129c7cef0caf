use Rattle.std.proofs.Common.{◌≡◌, ◌∷◌, None, Some, refl, sym, ap, ◌∙◌, subst, ℕ, ◌*◌, false, eqb}
use Rattle.mig_base.specs.declared.effect.Effect.{Effect}
use Rattle.std.specs.FinMap.{get}
use Rattle.mig_model.specs.Cpus.{all_woken}
use Rattle.mig_model.specs.Destination.{Destination, installed_at}
use Rattle.mig_model.specs.Guest.{is_present}
use Rattle.mig_model.specs.Owed.{home}
use Rattle.mig_base.specs.Userfault.{changing}
use Rattle.fault_handler.specs.contracts.destination.Destination.{the_view}
use Rattle.mig_model.proofs.memory.Facts.{counted_is}
use Rattle.fault_handler.proofs.PageLemmas.{installed_paged}
use Rattle.fault_handler.proofs.ReadyLemmas.{pairs_now}
use Rattle.fault_handler.proofs.InstallLemmas.{IsFirst, IsVacant, dropped_is, install_done, installed_is, installed_order, pair_ends, same_pages, some_arrival, vacant}
use Rattle.fault_handler.proofs.destination.Destination.install.Goals as goal

pub returns-in_default-clause-made : goal.returns-in_default-clause-made
returns-in_default-clause-made c =
    let node = c.args.self.now in
    let one = some_arrival node c.in_ok-origin.origin (sym c.next_arrival.ensures ∙ c.in_ok-origin.was) in
    install_done node _ _ c.in_ok-origin.origin None one (sym c.in_default.is ∙ c.home.ensures.answer ∙ ap (λ (n : Destination). home n.owed c.in_ok-origin.origin) c.self.view_is) (ap Effect.Dropped c.page_address.ensures)
    (dropped_is node (the_view c.self.inside) c.in_ok-origin.origin c.saturating_add-self-inside.result c.pop_front.new.self.items one c.self.view_is c.pop_front.ensures.rest (c.saturating_add-self-inside.ensures ∙ counted_is c.self.inside.dropped 1))

-- the page of the copy
vacancy : (c : goal.After-put_first-arg-2-1) → IsVacant c.self.inside.space c.in-Some.page
vacancy c =
    let one = some_arrival c.args.self.now c.in_ok-origin.origin (sym c.next_arrival.ensures ∙ c.in_ok-origin.was) in
    vacant c.self.inside.space c.self.inside.owed c.in-Some.page c.in_ok-origin.origin c.is_in_order.ensures (ap (λ (n : Destination). changing n.guest.space.object) c.self.view_is ∙ one.quiet)
    (c.self.invariant.0.ready (ap (λ (n : Destination). n.has_run) c.self.view_is ∙ one.run)) ((c.home.ensures.only c.in-Some.page).0 c.in-Some.is)

pub put_first-requires-clause-watched : goal.put_first-requires-clause-watched
put_first-requires-clause-watched c = (vacancy c).watched

pub put_first-requires-clause-missing : goal.put_first-requires-clause-missing
put_first-requires-clause-missing c = (vacancy c).missing

-- the copy that was installed, and where it was owed
first : (c : goal.After-page_address-3) → IsFirst c.args.self.now c.in_ok-origin.origin
first c = some_arrival c.args.self.now c.in_ok-origin.origin (sym c.next_arrival.ensures ∙ c.in_ok-origin.was)

owes : (c : goal.After-page_address-3) → get c.self.inside.owed c.in-Some.page ≡ Some c.in_ok-origin.origin
owes c = (c.home.ensures.only c.in-Some.page).0 c.in-Some.is

waits : (c : goal.After-page_address-3) → c.self.inside.arrivals.items ≡ (first c).copy ∷ (first c).rest
waits c = ap (λ (n : Destination). n.arrivals) c.self.view_is ∙ (first c).is

pub invariant_of-self-2 : goal.invariant_of-self-2
invariant_of-self-2 c =
    let removed = c.settle.ensures.settled c.in-Some.page (owes c) in (
      installed_order _ c.self.inside.space _ c.self.inside.owed _ c.in-Some.page (first c).copy.bytes (ap (λ (n : Destination). changing n.guest.space.object) c.self.view_is ∙ (first c).quiet)
          (c.in_ok-put_first.ensures.space (first c).copy (first c).rest (waits c)) removed c.self.invariant.0,
      installed_paged c.self.inside.owed _ c.in-Some.page _ _ _ removed c.end.ensures c.self.invariant.1,
    )

-- the destination after it
new : (c : goal.After-page_address-3) →
    record (the_view c.self.inside) {
      guest = record { space = c.put_first.new.space; cpus = c.wake_page.new.self };
      owed = c.settle.new.self;
      requests = c.end.new.self;
      arrivals = c.put_first.new.arrivals.items;
      installed = c.saturating_add-self-inside-2.result;
    } ≡ installed_at c.args.self.now (first c).copy (first c).rest c.in-Some.page
new c =
    installed_is c.args.self.now (the_view c.self.inside) c.put_first.new.space c.wake_page.new.self c.settle.new.self c.end.new.self c.put_first.new.arrivals.items c.in_ok-origin.origin c.in-Some.page c.saturating_add-self-inside-2.result
    (first c) c.self.view_is (c.in_ok-put_first.ensures.space (first c).copy (first c).rest (waits c)) (c.wake_page.ensures ∙ ap (λ number. all_woken (λ q. eqb q number) c.self.inside.cpus) c.from.ensures) (c.settle.ensures.settled c.in-Some.page (owes c)) c.end.ensures (c.in_ok-put_first.ensures.arrivals (first c).copy (first c).rest (waits c))
    (c.saturating_add-self-inside-2.ensures ∙ counted_is c.self.inside.installed 1)

pub returns-clause-made : goal.returns-clause-made
returns-clause-made c =
    install_done c.args.self.now _ _ c.in_ok-origin.origin (Some c.in-Some.page) (first c) (sym c.in-Some.is ∙ c.home.ensures.answer ∙ ap (λ (n : Destination). home n.owed c.in_ok-origin.origin) c.self.view_is)
    (rw (c.page_address-2.ensures, c.page_address-3.ensures) refl) (new c)

-- the page of the effect
same : (c : goal.After-page_address-3) (page origin : ℕ) → Effect.Installed c.page_address-2.result c.page_address-3.result ≡ Effect.Installed (4096 * page) (4096 * origin) → (c.in-Some.page ≡ page) × (c.in_ok-origin.origin ≡ origin)
same c page origin h =
    same_pages c.in-Some.page c.in_ok-origin.origin page origin (ap (λ addr. Effect.Installed addr (4096 * c.in_ok-origin.origin)) (sym c.page_address-2.ensures) ∙ ap (λ addr. Effect.Installed c.page_address-2.result addr) (sym c.page_address-3.ensures) ∙ h)

pub returns-clause-missing : goal.returns-clause-missing
returns-clause-missing c page origin h =
    let ready = c.self.invariant.0.ready (ap (λ (n : Destination). n.has_run) c.self.view_is ∙ (first c).run) in
    let quiet = ap (λ (n : Destination). changing n.guest.space.object) c.self.view_is ∙ (first c).quiet in
    let was = (pairs_now c.self.inside.space c.self.inside.owed c.in-Some.page c.in_ok-origin.origin quiet ready (owes c)).1 in
    subst (λ q. is_present c.args.self.now.guest.space q ≡ false) (same c page origin h).0 (ap (λ (n : Destination). is_present n.guest.space c.in-Some.page) (sym c.self.view_is) ∙ was)

pub returns-clause-pair : goal.returns-clause-pair
returns-clause-pair c page origin h =
    let node = c.args.self.now in
    let both = same c page origin h in
    let owed : get node.owed page ≡ Some origin = ap (get node.owed) (sym both.0) ∙ ap (λ (n : Destination). get n.owed c.in-Some.page) (sym c.self.view_is) ∙ owes c ∙ ap Some both.1 in
    pair_ends node _ page origin (first c).copy (first c).rest (first c).quiet owed (new c ∙ ap (λ q. installed_at node (first c).copy (first c).rest q) both.0)
