-- What single steps enter in the transcript, put at missing pages, and do to the pages that remain.
use Rattle.std.proofs.Common.{◌≡◌, ℕ, ◌*◌, ◌/◌, ◌&&◌, true, not, eqb, Some, ◌++◌, refl, sym, ap, ◌∙◌, subst, arith, IsOk}
use Rattle.std.specs.Prelude.{Ok}
use Rattle.std.specs.FinMap.{get}
use Rattle.std.specs.FinSet.{contains}
use Rattle.std.proofs.lemmas.Bool.Decides.{nat_tests}
use Rattle.mig_base.specs.declared.effect.Effect.{Effect}
use Rattle.mig_base.specs.declared.schedule.Step.{Step}
use Rattle.mig_base.specs.declared.schedule.Ticket.{Ticket}
use Rattle.mig_base.specs.declared.command.Command.{Command}
use Rattle.mig_base.specs.Bytes.{zero_page}
use Rattle.mig_base.proofs.SetLemmas.{member_removed}
use Rattle.mig_base.specs.Commands.{is_access}
use Rattle.mig_model.specs.Space.{Space}
use Rattle.mig_base.specs.declared.act.Act.{Act}
use Rattle.mig_model.specs.Guest.{took_by, zero_installed}
use Rattle.mig_base.specs.declared.act.Act.TheVariants.{Zeroed}
use Rattle.mig_model.specs.Migration.{World, next, outcome, guest_of}
use Rattle.mig_base.specs.Acts.{act_effect}
use Rattle.mig_model.proofs.steps.StepWorlds.{after_dest_act, after_source_act}
use Rattle.mig_model.specs.Promises.{IsZeroed, keeps_remaining}
use Rattle.mig_model.proofs.memory.IoctlLemmas.{get-put_pages}
use Rattle.mig_model.proofs.transcript.PromiseLemmas.{source_zero, destination_zero}
use Rattle.mig_model.proofs.steps.StepCases.{MakesWorld, made-next, made-ok, made-effect}
use Rattle.mig_model.specs.Cpus.{entries_of, outstanding, processor_at}
use Rattle.mig_model.specs.Source.{source_act, source_acted_by, space_of}
use Rattle.mig_model.specs.Destination.{destination_act, destination_acted_by}
use Rattle.mig_model.proofs.memory.Facts.{some_command, page_again}

-- The transcript

pub entered_issue : (world : World) (cpu : ℕ) (command : Command) → IsOk (outcome world (Step.Issue cpu command)) →
    (next world (Step.Issue cpu command)).transcript ≡ world.transcript ++ entries_of cpu command (took_by (is_access command) (guest_of world).space command)
entered_issue world cpu command ok =
    made-ok (λ new. new.transcript ≡ world.transcript ++ entries_of cpu command (took_by (is_access command) (guest_of world).space command)) world (Step.Issue cpu command) (λ there idle may. refl) ok

pub entered_retry : (world : World) (cpu : ℕ) (command : Command) → IsOk (outcome world (Step.Retry cpu)) → outstanding (processor_at (guest_of world).cpus cpu) ≡ Some command →
    (next world (Step.Retry cpu)).transcript ≡ world.transcript ++ entries_of cpu command (took_by (is_access command) (guest_of world).space command)
entered_retry world cpu command ok waits =
    made-ok (λ new. new.transcript ≡ world.transcript ++ entries_of cpu command (took_by (is_access command) (guest_of world).space command)) world (Step.Retry cpu)
    (λ other is woken may. ap (λ c. world.transcript ++ entries_of cpu c (took_by (is_access c) (guest_of world).space c)) (some_command other command (sym is ∙ waits))) ok

-- Pages of zeros

pub told_zeroed : (act : Act) (a b : ℕ) → act_effect act a ≡ Effect.Zeroed b → (act ≡ Zeroed) × (a ≡ b)
told_zeroed act a b h = grind (arith, nat_tests)

zero_put : (space : Space) (page : ℕ) → get (zero_installed space page).host.bytes page ≡ Some zero_page
zero_put space page = grind (arith, nat_tests, get-put_pages)

source_put : (act : Act) (world : World) (page : ℕ) → act ≡ Zeroed → get (space_of (source_acted_by act world.source page)).host.bytes page ≡ Some zero_page
source_put act world page is = ap (λ a. get (space_of (source_acted_by a world.source page)).host.bytes page) is ∙ zero_put (space_of world.source) page

destination_put : (act : Act) (world : World) (page : ℕ) → act ≡ Zeroed → get (destination_acted_by act world.destination page).guest.space.host.bytes page ≡ Some zero_page
destination_put act world page is = ap (λ a. get (destination_acted_by a world.destination page).guest.space.host.bytes page) is ∙ zero_put world.destination.guest.space page

pub source_zeroed : (world : World) (addr : ℕ) → outcome world Step.SourceAct ≡ Ok (Effect.Zeroed addr) → IsZeroed (space_of world.source) (space_of (next world Step.SourceAct).source) (addr / 4096)
source_zeroed world addr answered =
    made-effect (λ effect new. effect ≡ Effect.Zeroed addr → IsZeroed (space_of world.source) (space_of new.source) (addr / 4096)) world Step.SourceAct (Effect.Zeroed addr)
    (λ fault rest is started unswitched quiet h.
    let told = told_zeroed (source_act world.source fault) (4096 * fault.page) addr h in
    subst (λ p. IsZeroed (space_of world.source) (space_of (after_source_act world fault).source) p) (page_again fault.page addr told.1)
    (record { missing = source_zero world fault told.0; zeros = source_put (source_act world.source fault) world fault.page told.0 })) answered refl

pub destination_zeroed : (world : World) (addr : ℕ) → outcome world Step.DestAct ≡ Ok (Effect.Zeroed addr) → IsZeroed world.destination.guest.space (next world Step.DestAct).destination.guest.space (addr / 4096)
destination_zeroed world addr answered =
    made-effect (λ effect new. effect ≡ Effect.Zeroed addr → IsZeroed world.destination.guest.space new.destination.guest.space (addr / 4096)) world Step.DestAct (Effect.Zeroed addr)
    (λ fault rest is ran quiet h.
    let told = told_zeroed (destination_act world.destination fault) (4096 * fault.page) addr h in
    subst (λ p. IsZeroed world.destination.guest.space (after_dest_act world fault).destination.guest.space p) (page_again fault.page addr told.1)
    (record { missing = destination_zero world fault told.0; zeros = destination_put (destination_act world.destination fault) world fault.page told.0 })) answered refl

-- The pages that remain

pub remaining_push : (world : World) (ticket : Ticket) (q : ℕ) → IsOk (outcome world (Step.Push ticket)) → contains (next world (Step.Push ticket)).source.remaining q ≡ (not (eqb q ticket.page) && contains world.source.remaining q)
remaining_push world ticket q ok =
    made-ok (λ new. contains new.source.remaining q ≡ (not (eqb q ticket.page) && contains world.source.remaining q)) world (Step.Push ticket)
    (λ stopped up own present remains. member_removed world.source.remaining ticket.page q) ok

pub remaining_push_urgent : (world : World) (ticket : Ticket) (q : ℕ) → IsOk (outcome world (Step.PushUrgent ticket)) → contains (next world (Step.PushUrgent ticket)).source.remaining q ≡ (not (eqb q ticket.page) && contains world.source.remaining q)
remaining_push_urgent world ticket q ok =
    made-ok (λ new. contains new.source.remaining q ≡ (not (eqb q ticket.page) && contains world.source.remaining q)) world (Step.PushUrgent ticket)
    (λ stopped up own present remains. member_removed world.source.remaining ticket.page q) ok

-- a page that remains in the new world did in the old one
abbrev RemainedIn : World → ℕ → World → Type 0
RemainedIn world q new = contains new.source.remaining q ≡ true → contains world.source.remaining q ≡ true

remaining_answer : (world : World) (step : Step) (q : ℕ) → keeps_remaining step ≡ true → MakesWorld (RemainedIn world q) world step
remaining_answer world step q keeps = grind (arith, nat_tests, member_removed)

pub remaining_shrinks : (world : World) (step : Step) (q : ℕ) → keeps_remaining step ≡ true → contains (next world step).source.remaining q ≡ true → contains world.source.remaining q ≡ true
remaining_shrinks world step q keeps = made-next (RemainedIn world q) world step (λ h. h) (remaining_answer world step q keeps)
