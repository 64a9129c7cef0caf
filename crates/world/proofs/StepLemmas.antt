-- What happens where a node makes a step, or refuses it.
use Rattle.std.proofs.Common.{◌≡◌, ℕ, ◌++◌, ◌&&◌, not, Bool, true, false, Ok, Err, IsOk, IfOk, IfErr, OnErr, Result, List, [], ◌∷◌, refl, sym, ap, ◌∙◌, subst, inl, inr, ⊎_elim, arith}
use Rattle.std.proofs.lemmas.Bool.{false≢true}
use Rattle.std.proofs.lemmas.Bool.Decides.{nat_tests}
use Rattle.mig_base.specs.declared.command.Entry.{Entry}
use Rattle.mig_base.specs.declared.effect.Effect.{Effect}
use Rattle.mig_base.specs.declared.refusal.Refusal.{Refusal}
use Rattle.mig_base.specs.declared.schedule.Side.{Side}
use Rattle.mig_base.specs.declared.schedule.Step.{Step}
use Rattle.mig_model.specs.Destination.{Destination}
use Rattle.mig_model.specs.DestinationSteps as destination
use Rattle.mig_model.specs.GuestSteps.{Tried, tried_with}
use Rattle.mig_model.specs.Migration.{Answer, World, answer, cut, destination_acts, destination_sends, guest_tries, made, next, next_by, outcome, outcome_by, source_acts, source_sends, source_sends_urgently, with_guest_by}
use Rattle.mig_model.specs.NodeSteps.{Acted, IsRefusedFor, Sends, acted, and_then, checked, in_phase, sent, while_down, while_up}
use Rattle.mig_model.specs.Runs.{Happens, is_delivery, may_lack, needs_memory}
use Rattle.mig_model.specs.Source.{Source, is_under_way}
use Rattle.mig_model.specs.SourceSteps as source
use Rattle.mig_model.specs.Wire.{Frame, Sent, Wire, sending, wire_if, wire_with}
use Rattle.mig_model.proofs.steps.StepLemmas.{is-up}

-- Any step

pub happens_made : (world new : World) (step : Step) (effect : Effect) → answer world step ≡ made effect new → Happens world step (Ok effect) new
unfolding outcome next
happens_made world new step effect h = inl (sym (ap outcome_by h), sym (ap (next_by world) h))

pub happens_refused : (world : World) (step : Step) (refusal : Refusal) → answer world step ≡ Err refusal → Happens world step (Err refusal) world
unfolding outcome next
happens_refused world step refusal h = inl (sym (ap outcome_by h), sym (ap (next_by world) h))

-- the steps that may need memory whatever effect they have
abbrev pub needs_always : Step → Bool
needs_always step = needs_memory step && not (is_delivery step)

lacks_by : (step : Step) (answered : Answer) → IsOk answered → needs_always step ≡ true → may_lack step (outcome_by answered) ≡ true
lacks_by step (Ok result) ok needs = grind (arith, nat_tests)
lacks_by step (Err refusal) ok needs = absurd (false≢true ok)

-- a step that is not made for lack of memory
pub happens_lacking : (world : World) (step : Step) → IsOk (answer world step) → needs_always step ≡ true → Happens world step (Err Refusal.NoMemory) world
unfolding outcome
happens_lacking world step ok needs = inr (refl, lacks_by step (answer world step) ok needs, refl)

-- a step that is not made: for its own refusal, or for lack of memory
pub happens_not : (world : World) (step : Step) (refusal : Refusal) → needs_always step ≡ true → IsRefusedFor (answer world step) refusal → Happens world step (Err refusal) world
happens_not world step refusal needs refused =
    ⊎_elim
    (λ (h : answer world step ≡ Err refusal). happens_refused world step refusal h)
    (λ (h : (refusal ≡ Refusal.NoMemory) × IsOk (answer world step)). subst (λ r. Happens world step (Err r) world) (sym h.0) (happens_lacking world step h.1 needs))
    refused

-- the same in a world that has changed in nothing but room
pub happens_kept : (world now : World) (step : Step) (refusal : Refusal) → now ≡ world → needs_always step ≡ true → IsRefusedFor (answer now step) refusal → Happens world step (Err refusal) now
happens_kept world now step refusal same needs refused = subst (λ w. Happens w step (Err refusal) now) same (happens_not now step refusal needs refused)

-- Steps of a node

-- the step of a source that sends while the link is up
pub up_sends : (world : World) (found : Result (Sends Source) Refusal) → world.up ≡ true → source_sends world (while_up world.up found) ≡ source_sends world found
up_sends world found up = ap (source_sends world) (is-up world.up found up)

then_ok : {A B : Type 0} (found : Result A Refusal) (go : A → Result B Refusal) → ((x : A) → IsOk (go x)) → IsOk found → IsOk (and_then found go)
then_ok (Ok x) go always ok = always x
then_ok (Err refusal) go always ok = absurd (false≢true ok)

-- a step that a node refuses: for the refusal of its step, or for lack of memory
pub node_refused : {A : Type 0} (world : World) (step : Step) (found : Result A Refusal) (go : A → Answer) (refusal : Refusal) → ((x : A) → IsOk (go x)) → answer world step ≡ and_then found go → needs_always step ≡ true → IsRefusedFor found refusal →
    Happens world step (Err refusal) world
node_refused world step found go refusal always is needs refused =
    ⊎_elim
    (λ (h : found ≡ Err refusal). happens_refused world step refusal (is ∙ ap (λ f. and_then f go) h))
    (λ (h : (refusal ≡ Refusal.NoMemory) × IsOk found).
    subst (λ r. Happens world step (Err r) world) (sym h.0) (happens_lacking world step (subst IsOk (sym is) (then_ok found go always h.1)) needs))
    refused

-- a step of the source that sends frames, in a world or in one that the step has changed elsewhere
pub source_sent : (world base : World) (step : Step) (found : Result (Sends Source) Refusal) (effect : Effect) (frames : List Frame) (new : Source) (wire : Wire) → answer world step ≡ source_sends base found → found ≡ sent effect frames new →
    wire ≡ wire_with base.forward new.epoch frames → Happens world step (Ok effect) (record base { source = new; forward = wire })
source_sent world base step found effect frames new wire is h put =
    happens_made world (record base { source = new; forward = wire }) step effect (is ∙ ap (source_sends base) h ∙ (λ i. made effect (record base { source = new; forward = sym put i })))

pub source_sent_urgently : (world : World) (step : Step) (found : Result (Sends Source) Refusal) (effect : Effect) (frames : List Frame) (new : Source) (wire : Wire) → answer world step ≡ source_sends_urgently world found → found ≡ sent effect frames new →
    wire ≡ wire_with world.urgent new.epoch frames → Happens world step (Ok effect) (record world { source = new; urgent = wire })
source_sent_urgently world step found effect frames new wire is h put =
    happens_made world (record world { source = new; urgent = wire }) step effect (is ∙ ap (source_sends_urgently world) h ∙ (λ i. made effect (record world { source = new; urgent = sym put i })))

-- a step of the source that sends nothing
pub source_acted : (world : World) (step : Step) (found : Result (Acted Source) Refusal) (effect : Effect) (new : Source) → answer world step ≡ source_acts world found → found ≡ acted effect new → Happens world step (Ok effect) (record world { source = new })
source_acted world step found effect new is h = happens_made world (record world { source = new }) step effect (is ∙ ap (source_acts world) h)

-- a step of the destination that sends frames back
pub destination_sent : (world base : World) (step : Step) (found : Result (Sends Destination) Refusal) (effect : Effect) (frames : List Frame) (new : Destination) (wire : Wire) → answer world step ≡ destination_sends base found → found ≡ sent effect frames new →
    wire ≡ wire_if base.up base.back new.epoch frames → Happens world step (Ok effect) (record base { destination = new; back = wire })
destination_sent world base step found effect frames new wire is h put =
    happens_made world (record base { destination = new; back = wire }) step effect (is ∙ ap (destination_sends base) h ∙ (λ i. made effect (record base { destination = new; back = sym put i })))

pub destination_acted : (world base : World) (step : Step) (found : Result (Acted Destination) Refusal) (effect : Effect) (new : Destination) → answer world step ≡ destination_acts base found → found ≡ acted effect new → Happens world step (Ok effect) (record base { destination = new })
destination_acted world base step found effect new is h = happens_made world (record base { destination = new }) step effect (is ∙ ap (destination_acts base) h)

-- a command, at the node that runs the guest
pub tried_here : (world : World) (step : Step) (found : Result Tried Refusal) (effect : Effect) (entries transcript : List Entry) (new : Source) → world.destination.has_run ≡ false → answer world step ≡ guest_tries world found → found ≡ tried_with effect entries new.guest →
    new ≡ record world.source { guest = new.guest } → transcript ≡ world.transcript ++ entries → Happens world step (Ok effect) (record world { source = new; transcript = transcript })
tried_here world step found effect entries transcript new ran is h same entered =
    happens_made world (record world { source = new; transcript = transcript }) step effect
    (is ∙ ap (guest_tries world) h ∙ (λ i. made effect (record (with_guest_by (ran i) world new.guest) { transcript = world.transcript ++ entries }))
    ∙ (λ i. made effect (record world { source = sym same i; transcript = sym entered i })))

pub tried_there : (world : World) (step : Step) (found : Result Tried Refusal) (effect : Effect) (entries transcript : List Entry) (new : Destination) → world.destination.has_run ≡ true → answer world step ≡ guest_tries world found → found ≡ tried_with effect entries new.guest →
    new ≡ record world.destination { guest = new.guest } → transcript ≡ world.transcript ++ entries → Happens world step (Ok effect) (record world { destination = new; transcript = transcript })
tried_there world step found effect entries transcript new ran is h same entered =
    happens_made world (record world { destination = new; transcript = transcript }) step effect
    (is ∙ ap (guest_tries world) h ∙ (λ i. made effect (record (with_guest_by (ran i) world new.guest) { transcript = world.transcript ++ entries }))
    ∙ (λ i. made effect (record world { destination = sym same i; transcript = sym entered i })))

-- Steps that send nothing, whatever they answer

pub source_acts_so : (world : World) (step : Step) (found : Result (Acted Source) Refusal) (result : Result Effect Refusal) (new : Source) → answer world step ≡ source_acts world found → needs_always step ≡ true → IfOk result (λ effect. found ≡ acted effect new) →
    IfErr result (IsRefusedFor found) → OnErr result (new ≡ world.source) → Happens world step result (record world { source = new })
source_acts_so world step found (Ok effect) new is needs h refused same = source_acted world step found effect new is h
source_acts_so world step found (Err refusal) new is needs h refused same = rw same (node_refused world step found _ refusal (λ x. refl) is needs refused)

pub destination_acts_so : (world : World) (step : Step) (found : Result (Acted Destination) Refusal) (result : Result Effect Refusal) (new : Destination) → answer world step ≡ destination_acts world found → needs_always step ≡ true → IfOk result (λ effect. found ≡ acted effect new) →
    IfErr result (IsRefusedFor found) → OnErr result (new ≡ world.destination) → Happens world step result (record world { destination = new })
destination_acts_so world step found (Ok effect) new is needs h refused same = destination_acted world world step found effect new is h
destination_acts_so world step found (Err refusal) new is needs h refused same = rw same (node_refused world step found _ refusal (λ x. refl) is needs refused)

-- Steps that need no memory

never_up : {A B : Type 0} (found : Result A Refusal) (go : A → Result B Refusal) → IsOk (and_then (while_up false found) go) → ⊥
never_up (Ok x) go ok = false≢true ok
never_up (Err refusal) go ok = grind (arith, nat_tests)

never_down : {A B : Type 0} (found : Result A Refusal) (go : A → Result B Refusal) → IsOk (and_then (while_down true found) go) → ⊥
never_down (Ok x) go ok = false≢true ok
never_down (Err refusal) go ok = grind (arith, nat_tests)

-- a step that is refused whatever memory there is
pub happens_never : (world : World) (step : Step) (refusal : Refusal) → (IsOk (answer world step) → ⊥) → IsRefusedFor (answer world step) refusal → Happens world step (Err refusal) world
happens_never world step refusal never refused =
    ⊎_elim
    (λ (h : answer world step ≡ Err refusal). happens_refused world step refusal h)
    (λ (h : (refusal ≡ Refusal.NoMemory) × IsOk (answer world step)). absurd (never h.1))
    refused

-- a step that needs the link is refused while it is down, and one that needs a broken link while it is up
pub refused_down : {A : Type 0} (world : World) (step : Step) (found : Result A Refusal) (go : A → Answer) (refusal : Refusal) → answer world step ≡ and_then (while_up world.up found) go → world.up ≡ false → IsRefusedFor (answer world step) refusal →
    Happens world step (Err refusal) world
refused_down world step found go refusal is down refused =
    happens_never world step refusal (λ ok. never_up found go (subst (λ up. IsOk (and_then (while_up up found) go)) down (subst IsOk is ok))) refused

pub refused_up : {A : Type 0} (world : World) (step : Step) (found : Result A Refusal) (go : A → Answer) (refusal : Refusal) → answer world step ≡ and_then (while_down world.up found) go → world.up ≡ true → IsRefusedFor (answer world step) refusal →
    Happens world step (Err refusal) world
refused_up world step found go refusal is up refused =
    happens_never world step refusal (λ ok. never_down found go (subst (λ up. IsOk (and_then (while_down up found) go)) up (subst IsOk is ok))) refused

pub notice_refused : (world : World) (side : Side) (refusal : Refusal) → world.up ≡ true → IsRefusedFor (answer world (Step.Notice side)) refusal → Happens world (Step.Notice side) (Err refusal) world
notice_refused world Side.Source refusal up refused = refused_up world (Step.Notice Side.Source) (source.pause world.source) _ refusal refl up refused
notice_refused world Side.Destination refusal up refused =
    refused_up world (Step.Notice Side.Destination) (in_phase (is_under_way world.source) (destination.pause world.destination)) _ refusal refl up refused

-- and one that the node makes, or refuses for its own reason
pub source_acts_always : (world : World) (step : Step) (found : Result (Acted Source) Refusal) (result : Result Effect Refusal) (new : Source) → answer world step ≡ source_acts world found → IfOk result (λ effect. found ≡ acted effect new) →
    IfErr result (λ refusal. found ≡ Err refusal) → OnErr result (new ≡ world.source) → Happens world step result (record world { source = new })
source_acts_always world step found (Ok effect) new is h refused same = source_acted world step found effect new is h
source_acts_always world step found (Err refusal) new is h refused same = rw same (happens_refused world step refusal (is ∙ ap (source_acts world) refused))

pub destination_acts_always : (world : World) (step : Step) (found : Result (Acted Destination) Refusal) (result : Result Effect Refusal) (new : Destination) → answer world step ≡ destination_acts world found → IfOk result (λ effect. found ≡ acted effect new) →
    IfErr result (λ refusal. found ≡ Err refusal) → OnErr result (new ≡ world.destination) → Happens world step result (record world { destination = new })
destination_acts_always world step found (Ok effect) new is h refused same = destination_acted world world step found effect new is h
destination_acts_always world step found (Err refusal) new is h refused same = rw same (happens_refused world step refusal (is ∙ ap (destination_acts world) refused))

-- Break

breaks_by : (world : World) (answered : Answer) → answer world Step.Break ≡ answered → Ok tt ≡ checked answered → answer world Step.Break ≡ made Effect.Broken (cut world)
breaks_by world answered is ok = grind (arith, nat_tests)

pub breaks : (world : World) → Ok tt ≡ checked (answer world Step.Break) → answer world Step.Break ≡ made Effect.Broken (cut world)
breaks world ok = breaks_by world (answer world Step.Break) refl ok

pub breaks_not : (world : World) (refusal : Refusal) → Err refusal ≡ checked (answer world Step.Break) → answer world Step.Break ≡ Err refusal
breaks_not world refusal h = grind (arith, nat_tests)
