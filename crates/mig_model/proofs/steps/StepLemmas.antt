-- What holds of a step that is not refused, by the words in which steps are defined, and so of the world after it.
use Rattle.std.proofs.lemmas.Bool.Decides.{nat_tests}
use Rattle.std.proofs.Common.{◌≡◌, ℕ, Bool, true, false, Option, Some, None, List, [], ◌∷◌, if◌then◌else◌, refl, ap, ◌∙◌, arith}
use Rattle.std.specs.Prelude.{Result, Ok, Err, IsOk, ok_or}
use Rattle.mig_base.specs.declared.effect.Effect.{Effect}
use Rattle.mig_base.specs.declared.refusal.Refusal.{Refusal}
use Rattle.mig_base.specs.declared.schedule.Step.{Step}
use Rattle.mig_model.specs.Guest.{Guest, is_changing}
use Rattle.mig_model.specs.GuestSteps.{when_quiet}
use Rattle.mig_model.specs.Migration.{World, Answer, answer, delivered, destination_acts, destination_sends, has_started, is_short, made, next, outcome, source_sends}
use Rattle.mig_model.specs.SourceSteps as source
use Rattle.mig_model.specs.DestinationSteps as destination
use Rattle.mig_model.specs.NodeSteps.{and_then, first_of, in_phase, is_out_of_phase, rest_of, unless, while_down, while_up}
use Rattle.mig_model.specs.Wire.{Sent, Wire, wire_behind, wire_moved}
use Rattle.std.proofs.Math.Bool.{or-true}

-- what holds of a result that is not a refusal
abbrev pub Holds : {A : Type 0} → (A → Type 0) → Result A Refusal → Type 0
Holds Q (Ok done) = Q done
Holds Q (Err refusal) = Unit {0}

-- what holds of the world after a step that is not refused
abbrev pub Leaves : (World → Type 0) → Answer → Type 0
Leaves P answer = Holds (λ made. P made.world) answer

pub holds-map : {A : Type 0} (Q R : A → Type 0) (result : Result A Refusal) → ((done : A) → Q done → R done) → Holds Q result → Holds R result
holds-map Q R (Ok done) as_well h = as_well done h
holds-map Q R (Err refusal) as_well h = tt

-- no test of the list holds
abbrev pub NoneApplies : List (Bool × Refusal) → Type 0
NoneApplies [] = Unit {0}
NoneApplies (reason ∷ reasons) = (reason.0 ≡ false) × NoneApplies reasons

holds-if : {A : Type 0} (Q : A → Type 0) (test : Bool) (refusal : Refusal) (rest : Result A Refusal) → (test ≡ false → Holds Q rest) → Holds Q (if test then Err refusal else rest)
holds-if Q true refusal rest h = tt
holds-if Q false refusal rest h = h refl

-- a step that is not refused has no reason to be
pub holds-unless : {A : Type 0} (Q : A → Type 0) (reasons : List (Bool × Refusal)) (rest : Result A Refusal) → (NoneApplies reasons → Holds Q rest) → Holds Q (unless reasons rest)
unfolding unless
holds-unless Q [] rest h = h tt
holds-unless Q (reason ∷ reasons) rest h = holds-if Q reason.0 reason.1 (unless reasons rest) (λ one. holds-unless Q reasons rest (λ others. h (one, others)))

pub holds-in_phase : {A : Type 0} (Q : A → Type 0) (allowed : Bool) (rest : Result A Refusal) → (allowed ≡ true → Holds Q rest) → Holds Q (in_phase allowed rest)
holds-in_phase Q true rest h = h refl
holds-in_phase Q false rest h = tt

pub holds-and_then : {A B : Type 0} (Q : B → Type 0) (found : Result A Refusal) (step : A → Result B Refusal) → Holds (λ x. Holds Q (step x)) found → Holds Q (and_then found step)
holds-and_then Q (Ok x) step h = h
holds-and_then Q (Err refusal) step h = tt

-- the link is up where the step needs it
pub holds-while_up : {A : Type 0} (Q : A → Type 0) (up : Bool) (result : Result A Refusal) → (up ≡ true → Holds Q result) → Holds Q (while_up up result)
holds-while_up Q true (Ok done) h = h refl
holds-while_up Q false (Ok done) h = tt
holds-while_up Q up (Err refusal) h = grind (arith, nat_tests)

-- what a step continues from
pub holds-ok_or : {A : Type 0} (Q : A → Type 0) (o : Option A) (refusal : Refusal) → ((x : A) → o ≡ Some x → Q x) → Holds Q (ok_or o refusal)
holds-ok_or Q None refusal h = tt
holds-ok_or Q (Some x) refusal h = h x refl

pub holds-when_quiet : {A : Type 0} (Q : A → Type 0) (guest : Guest) (o : Option A) → ((x : A) → o ≡ Some x → is_changing guest ≡ false → Q x) → Holds Q (when_quiet guest o)
holds-when_quiet Q guest None h = tt
holds-when_quiet Q guest (Some x) h = holds-unless Q _ _ (λ t. h x refl t.0)

-- a list with a first one is that one and the rest
pub first_and_rest : {A : Type 0} (l : List A) (x : A) → first_of l ≡ Some x → l ≡ x ∷ rest_of l
first_and_rest l x h = grind (arith, nat_tests)

pub holds-either : {A : Type 0} (Q : A → Type 0) (test : Bool) (one other : Result A Refusal) → (test ≡ true → Holds Q one) → (test ≡ false → Holds Q other) → Holds Q (if test then one else other)
holds-either Q true one other h k = h refl
holds-either Q false one other h k = k refl

-- Where nothing refuses a step

-- where no test of its list holds
pub not_refused : {A : Type 0} (reasons : List (Bool × Refusal)) (rest : Result A Refusal) → NoneApplies reasons → unless reasons rest ≡ rest
unfolding unless
not_refused [] rest none = refl
not_refused (reason ∷ reasons) rest none = ap (λ b. if b then Err reason.1 else unless reasons rest) none.0 ∙ not_refused reasons rest none.1

pub in-phase : {A : Type 0} (allowed : Bool) (rest : Result A Refusal) → allowed ≡ true → in_phase allowed rest ≡ rest
in-phase allowed rest is = ap (λ b. in_phase b rest) is

pub is-up : {A : Type 0} (up : Bool) (result : Result A Refusal) → up ≡ true → while_up up result ≡ result
is-up up result is = ap (λ b. while_up b result) is ∙ ap (λ b. if b then result else Err Refusal.Broken) (or-true (is_out_of_phase result))

pub is-down : {A : Type 0} (up : Bool) (result : Result A Refusal) → up ≡ false → while_down up result ≡ result
is-down up result is = ap (λ b. while_down b result) is ∙ ap (λ b. if b then result else Err Refusal.NotBroken) (or-true (is_out_of_phase result))

-- what a step continues from is there
pub goes_on : {A B : Type 0} (found : Result A Refusal) (x : A) (step : A → Result B Refusal) → found ≡ Ok x → and_then found step ≡ step x
goes_on found x step is = ap (λ f. and_then f step) is

pub is-quiet : {A : Type 0} (guest : Guest) (o : Option A) (x : A) → o ≡ Some x → is_changing guest ≡ false → when_quiet guest o ≡ Ok x
is-quiet guest o x is quiet = ap (when_quiet guest) is ∙ not_refused _ (Ok x) (quiet, tt)

-- a delivery by whether it completes the first frame
pub delivered_by : (on : Wire → World) (wire : Wire) (n : ℕ) (take : World → Sent → Answer) (sent : Sent) (rest : List Sent) (short : Bool) → wire.frames ≡ sent ∷ rest → is_short wire sent.frame n ≡ short →
    delivered on wire n take ≡ (if short then made (Effect.Moved n) (on (wire_moved wire n)) else take (on (wire_behind rest)) sent)
delivered_by on wire n take sent rest short first is =
    ap (λ (frames : List Sent). and_then (ok_or (first_of frames) Refusal.NothingThere) (λ one. if is_short wire one.frame n then made (Effect.Moved n) (on (wire_moved wire n)) else take (on (wire_behind (rest_of frames))) one)) first
    ∙ ap (λ b. if b then made (Effect.Moved n) (on (wire_moved wire n)) else take (on (wire_behind rest)) sent) is

-- the same for each wire
pub delivers : (world : World) (n : ℕ) (sent : Sent) (rest : List Sent) (short : Bool) → has_started world ≡ true → world.up ≡ true → world.forward.frames ≡ sent ∷ rest → is_short world.forward sent.frame n ≡ short →
    answer world (Step.Deliver n) ≡ (if short then made (Effect.Moved n) (record world { forward = wire_moved world.forward n }) else destination_sends (record world { forward = wire_behind rest }) (destination.take world.destination sent.epoch sent.frame))
delivers world n sent rest short started up first is =
    is-up world.up _ up ∙ in-phase (has_started world) _ started
    ∙ delivered_by (λ wire. record world { forward = wire }) world.forward n (λ behind one. destination_sends behind (destination.take behind.destination one.epoch one.frame)) sent rest short first is

pub delivers_back : (world : World) (n : ℕ) (sent : Sent) (rest : List Sent) (short : Bool) → has_started world ≡ true → world.up ≡ true → world.back.frames ≡ sent ∷ rest → is_short world.back sent.frame n ≡ short →
    answer world (Step.DeliverBack n) ≡ (if short then made (Effect.Moved n) (record world { back = wire_moved world.back n }) else source_sends (record world { back = wire_behind rest }) (source.take world.source sent.frame))
delivers_back world n sent rest short started up first is =
    is-up world.up _ up ∙ in-phase (has_started world) _ started
    ∙ delivered_by (λ wire. record world { back = wire }) world.back n (λ behind one. source_sends behind (source.take behind.source one.frame)) sent rest short first is

pub delivers_urgent : (world : World) (n : ℕ) (sent : Sent) (rest : List Sent) (short : Bool) → world.destination.has_run ≡ true → world.up ≡ true → world.urgent.frames ≡ sent ∷ rest → is_short world.urgent sent.frame n ≡ short →
    answer world (Step.DeliverUrgent n) ≡ (if short then made (Effect.Moved n) (record world { urgent = wire_moved world.urgent n }) else destination_acts (record world { urgent = wire_behind rest }) (destination.take_urgent world.destination sent.frame))
delivers_urgent world n sent rest short ran up first is =
    is-up world.up _ up ∙ in-phase world.destination.has_run _ ran
    ∙ delivered_by (λ wire. record world { urgent = wire }) world.urgent n (λ behind one. destination_acts behind (destination.take_urgent behind.destination one.frame)) sent rest short first is

-- Steps

pub leaves-next : (P : World → Type 0) (world : World) (step : Step) → P world → Leaves P (answer world step) → P (next world step)
unfolding next
leaves-next P world step before h = grind (arith, nat_tests)

pub leaves-ok : (P : World → Type 0) (world : World) (step : Step) → Leaves P (answer world step) → IsOk (outcome world step) → P (next world step)
unfolding next outcome
leaves-ok P world step h ok = grind (arith, nat_tests)

pub holds-effect : (P : Effect → World → Type 0) (world : World) (step : Step) (effect : Effect) → Holds (λ made. P made.effect made.world) (answer world step) → outcome world step ≡ Ok effect → P effect (next world step)
unfolding next outcome
holds-effect P world step effect h is = grind (arith, nat_tests)

pub next-refused : (world : World) (step : Step) (refusal : Refusal) → outcome world step ≡ Err refusal → next world step ≡ world
unfolding next outcome
next-refused world step refusal is = grind (arith, nat_tests)

pub outcome-ok : (effect : Effect) (world : World) (step : Step) → Holds (λ made. made.effect ≡ effect) (answer world step) → IsOk (outcome world step) → outcome world step ≡ Ok effect
unfolding outcome
outcome-ok effect world step h ok = grind (arith, nat_tests)
