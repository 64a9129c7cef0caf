-- A frame that is taken has no fault, but for having to wait.
use Rattle.std.proofs.Common.{◌≡◌, ℕ, ◌≤◌, ◌&&◌, ◌||◌, Bool, true, false, not, eqb, leb, ltb, Option, Some, None, List, [], ◌∷◌, refl, sym, ap, ◌∙◌, arith, cond, is_some, ◌<◌}
use Rattle.std.specs.Prelude.{Ok, Err, Result}
use Rattle.std.specs.Ordering.{nat_cmp}
use Rattle.std.specs.FinMap as finmap
use Rattle.std.specs.FinMap.{FinMap, contains_key, retain_keys, get, get-empty, get-retain_keys}
use Rattle.std.specs.FinSet as finset
use Rattle.std.specs.FinSet.{FinSet, contains, contains-empty, contains-retain, len-empty, nat_cmp-IsAntisymmetric}
use Rattle.std.proofs.lemmas.Bool.{false≢true, eq-eqb, leb-true, not_from_true, or_from}
use Rattle.std.proofs.lemmas.Bool.Decides.{nat_tests}
use Rattle.mig_base.specs.declared.fault.TakeFault.{TakeFault}
use Rattle.mig_base.specs.declared.phase.Received.{Received}
use Rattle.foundation.specs.Tests.{first_holding, is_empty}
use Rattle.mig_base.proofs.PageLemmas.{same_pages}
use Rattle.mig_base.proofs.SetLemmas.{member_below, same_members}
use Rattle.mig_base.specs.declared.TheConstants.{HIGH_PAGE}
use Rattle.mig_base.specs.declared.effect.Effect.{Effect}
use Rattle.mig_base.specs.declared.refusal.Refusal.{Refusal}
use Rattle.mig_base.specs.declared.schedule.Step.{Step}
use Rattle.mig_model.specs.Space.{Space, IsSoundSpace}
use Rattle.mig_model.specs.Migration.{World, Made, destination_sends, has_started, is_short, outcome, outcome_by}
use Rattle.mig_model.specs.NodeSteps.{sent, unless}
use Rattle.mig_model.proofs.steps.StepLemmas.{delivers}
use Rattle.mig_model.proofs.steps.StepWorlds.{after_deliver, back_sent}
use Rattle.mig_model.specs.Effects.{frame_effect}
use Rattle.mig_model.specs.Invariant.{IsSoundWorld}
use Rattle.mig_model.specs.Wire.{Frame, Sent, Copy, wire_behind}
use Rattle.mig_model.specs.Wire.Frame.{Advise, End, Recv}
use Rattle.mig_model.specs.Guest.{is_present}
use Rattle.mig_model.specs.Log.{no_pages, present}
use Rattle.mig_model.specs.Source.{Source, space_of}
use Rattle.mig_model.specs.Destination.{Destination, destination_answers, destination_took}
use Rattle.mig_model.specs.Faults.{frame_fault, back_fault, rebuild_fault, take_fault, urgent_fault, wait_fault, is_bad, is_too_soon, is_early, is_end}
use Rattle.mig_model.proofs.delivery.Taken.{IsTaken, IsTakenUrgent, IsGood, IsInPlaceBack}
use Rattle.mig_model.proofs.memory.Facts.{low_or}

-- Sets and maps without members

pub none_empty : (set : FinSet nat_cmp) → ((q : ℕ) → contains set q ≡ false) → not (eqb (finset.len set) 0) ≡ false
none_empty set h = ap (λ s. not (eqb (finset.len s) 0)) (same_members set finset.empty (λ q. h q ∙ sym (contains-empty nat_cmp q))) ∙ ap (λ n. not (eqb n 0)) (len-empty nat_cmp)

pub and_none : (a b : Bool) → (a ≡ true → b ≡ false) → (a && b) ≡ false
and_none a b h = grind (arith, nat_tests)

no_member : (set : FinSet nat_cmp) (test : ℕ → Bool) → ((q : ℕ) → contains set q ≡ true → test q ≡ false) → (q : ℕ) → contains (finset.retain set test) q ≡ false
no_member set test h q =
    contains-retain set test q (λ x e. ap test (sym (nat_cmp-IsAntisymmetric q x e))) ∙ and_none (contains set q) (test q) (h q)

gone : {X : Type 0} (keep : Bool) (o : Option X) → (is_some o ≡ true → keep ≡ false) → cond keep o None ≡ None
gone keep o h = grind (arith, nat_tests)

none_kept : {X : Type 0} (map : FinMap nat_cmp X) (keep : ℕ → Bool) → ((q : ℕ) → contains_key map q ≡ true → keep q ≡ false) → not (eqb (finmap.len (retain_keys map keep)) 0) ≡ false
none_kept {X} map keep h =
    ap (λ m. not (eqb (finmap.len m) 0))
    (same_pages (retain_keys map keep) finmap.empty (λ q. get-retain_keys map keep q (λ x e. ap keep (sym (nat_cmp-IsAntisymmetric q x e))) ∙ gone (keep q) (get map q) (h q) ∙ sym (get-empty nat_cmp q)))
    ∙ ap (λ n. not (eqb n 0)) (finmap.len-empty nat_cmp X)

-- The destination

empty_is : (arrivals : List Copy) → is_empty arrivals ≡ true → arrivals ≡ []
empty_is arrivals h = grind (arith, nat_tests)

soon_by : (none free all : Bool) → (free ≡ true → all ≡ true → none ≡ true) → (not none && free && all) ≡ false
soon_by none free all h = grind (arith, nat_tests)

not_too_soon : (node : Destination) (frame : Frame) → IsGood node frame → is_too_soon node frame ≡ false
not_too_soon node (End urgent) good =
    soon_by (eqb (finmap.len node.owed) 0) (is_empty node.arrivals) (leb urgent node.urgent_taken) (λ free all.
    ap (λ m. eqb (finmap.len m) 0) (good.1 (empty_is node.arrivals free) (leb-true urgent node.urgent_taken all)) ∙ ap (λ n. eqb n 0) (finmap.len-empty nat_cmp ℕ))
not_too_soon node Advise good = refl
not_too_soon node _ good = refl

torn_by : (kept mapped : Bool) → kept ≡ false → mapped ≡ true → (kept || not mapped) ≡ false
torn_by kept mapped h k = or_from kept (not mapped) h (not_from_true mapped k)

pub no_fewer : (came told : ℕ) → came ≤ told → ltb told came ≡ false
no_fewer came told h = grind (arith, nat_tests)

not_bad : (node : Destination) (frame : Frame) → IsGood node frame → is_bad node frame ≡ false
not_bad node frame good = grind (arith, nat_tests, eq-eqb, no_fewer, none_empty, no_member, torn_by, none_kept)

-- a frame that is taken is not wrong
pub no_frame_fault : (node : Destination) (sent : Sent) → IsTaken node sent → frame_fault node sent.epoch sent.frame ≡ None
no_frame_fault node sent taken = grind (arith, nat_tests, not_from_true, not_too_soon, not_bad)

pub no_urgent_fault : (node : Destination) (sent : Sent) → IsTakenUrgent node sent → urgent_fault node sent.epoch sent.frame ≡ None
no_urgent_fault node sent taken = grind (arith, nat_tests)

-- The source

pub no_back_fault : (node : Source) (sent : Sent) → IsInPlaceBack node sent.frame → sent.epoch ≡ node.epoch → back_fault node sent.epoch sent.frame ≡ None
no_back_fault node sent place own = grind (arith, nat_tests)

none_listed : (owed : FinSet nat_cmp) → owed ≡ no_pages → not (eqb (finset.len owed) 0) ≡ false
none_listed owed none = ap (λ s. not (eqb (finset.len s) 0)) none ∙ ap (λ n. not (eqb n 0)) (len-empty nat_cmp)

-- a Recv that is taken lists what the source has
pub no_rebuild_fault : (node : Source) (state : Received) (owed : FinSet nat_cmp) → ((page : ℕ) → is_present (space_of node) page ≡ true → contains (present (space_of node)) page ≡ true) → IsInPlaceBack node (Recv state owed) →
    rebuild_fault node state owed ≡ None
no_rebuild_fault node state owed below place = grind (arith, nat_tests, none_listed, not_from_true, none_empty, no_member)

-- A Deliver that completes a frame

-- what a step answers whose frame has such a fault
abbrev pub answer_to : Option TakeFault → Made → Result Effect Refusal
answer_to (Some TakeFault.InstallFirst) new = Err Refusal.InstallFirst
answer_to (Some fault) new = Err Refusal.UrgentFirst
answer_to None new = Ok new.effect

-- the two reasons for which it may be refused
abbrev fault_by : (install early : Bool) → Option TakeFault
fault_by install early = first_holding ((install, TakeFault.InstallFirst) ∷ (early, TakeFault.UrgentFirst) ∷ [])

told_by : (install early : Bool) (world : World) (node : Destination) (epoch : ℕ) (frame : Frame) →
    outcome_by (destination_sends world (unless ((install, Refusal.InstallFirst) ∷ (early, Refusal.UrgentFirst) ∷ []) (sent (frame_effect frame) (destination_answers node frame) (destination_took node epoch frame))))
    ≡ answer_to (fault_by install early) (record { effect = frame_effect frame; world = back_sent world (destination_took node epoch frame) (destination_answers node frame) })
unfolding unless
told_by true early world node epoch frame = refl
told_by false true world node epoch frame = refl
told_by false false world node epoch frame = refl

-- a frame that is not wrong has no fault but for having to wait
only_waits : (node : Destination) (sent : Sent) (fault : Option TakeFault) → frame_fault node sent.epoch sent.frame ≡ None → take_fault node sent.epoch sent.frame ≡ fault → wait_fault node sent.frame ≡ fault
only_waits node sent fault none h = sym (ap (λ o. elim o [ None ↦ wait_fault node sent.frame | Some other ↦ Some other ]) none) ∙ h

-- what is in flight, in a world whose first frame is this
pub record IsFull (world : World) (n : ℕ) (sent : Sent) (rest : List Sent) : Type 0 where
  pub started : has_started world ≡ true
  pub up : world.up ≡ true
  pub first : world.forward.frames ≡ sent ∷ rest
  pub full : is_short world.forward sent.frame n ≡ false
  pub right : frame_fault world.destination sent.epoch sent.frame ≡ None

pub full_by : (world : World) (n : ℕ) (sent : Sent) (rest : List Sent) (fault : Option TakeFault) → IsFull world n sent rest → take_fault world.destination sent.epoch sent.frame ≡ fault →
    outcome world (Step.Deliver n) ≡ answer_to fault (record { effect = frame_effect sent.frame; world = after_deliver world sent rest })
unfolding outcome
full_by world n sent rest fault is h =
    ap outcome_by (delivers world n sent rest false is.started is.up is.first is.full)
    ∙ told_by (is_end sent.frame && not (is_empty world.destination.arrivals)) (is_early world.destination sent.frame) (record world { forward = wire_behind rest }) world.destination sent.epoch sent.frame
    ∙ ap (λ f. answer_to f (record { effect = frame_effect sent.frame; world = after_deliver world sent rest })) (only_waits world.destination sent fault is.right h)

pub is_full : (world : World) (n : ℕ) (sent : Sent) (rest : List Sent) → IsSoundWorld world → world.up ≡ true → world.forward.frames ≡ sent ∷ rest → is_short world.forward sent.frame n ≡ false → IsTaken world.destination sent → IsFull world n sent rest
is_full world n sent rest kept up first full taken = grind (arith, nat_tests, no_frame_fault)

pub sound_below : (space : Space) → IsSoundSpace space → (page : ℕ) → is_present space page ≡ true → page < HIGH_PAGE
sound_below space sound page h = low_or (λ high. false≢true (sym (ap is_some (sound.host.mapped page (sound.host.bound page high))) ∙ h))

-- the present pages of a source
pub present_below : (space : Space) → IsSoundSpace space → (page : ℕ) → is_present space page ≡ true → contains (present space) page ≡ true
present_below space sound page h = grind (arith, nat_tests, member_below, sound_below)
