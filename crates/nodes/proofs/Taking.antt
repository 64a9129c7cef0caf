-- What a destination does with what bytes say.
use Rattle.std.proofs.Common.{◌≡◌, ◌⊎◌, ℕ, List, Option, Some, None, Result, Ok, Err, IfOk, IfErr, inl, inr, refl, sym, ap, ◌∙◌, ◌≤◌, subst, ⊎_elim}
use Rattle.std.specs.Option.{IfSome, option_map}
use Rattle.std.specs.Prelude.{OnErr, OnOk}
use Rattle.mig_base.specs.declared.effect.Effect.{Effect}
use Rattle.mig_model.specs.Wire.{Sent}
use Rattle.page_stream.specs.declared.frame.Frame.{Frame as CodeFrame}
use Rattle.page_stream.specs.Frames.{frame_of}
use Rattle.frame_decoder.specs.Streams.{IsTextOf, decoded_sent}
use Rattle.frame_decoder.specs.declared.version.Version.{Version}
use Rattle.nodes.specs.Heads.{IsHeadOfPage, IsHeadOfRun}
use Rattle.nodes.specs.DestinationCalls.{AFrame, Handed, IsAnswer, IsLeft, IsTaken, IsTakenUrgently, MayNotTake, MayNotTakeUrgently, Says, SaysNoFrame, SaysNothing, ZeroRun, after, effect_said, fault_of, urgent_after, urgent_fault_of, urgently_taken, zeros_taken}
use Rattle.nodes.specs.Faults.{urgent_taking_fault}
use Rattle.nodes.specs.Nodes.{PostingDestination}
use Rattle.nodes.specs.declared.fault.FrameFault.{FrameFault}
use Rattle.nodes.proofs.Sayings.{one_saying}

-- What was read

pub is_said : (bytes : List ℕ) (read : Option (ℕ × CodeFrame)) (epoch : ℕ) (frame : CodeFrame) → IfSome read (λ sent. (version : Version) × IsTextOf version bytes (decoded_sent sent)) → read ≡ Some (epoch, frame)
    → Says bytes (AFrame (record { epoch = epoch; frame = frame_of frame }))
is_said bytes read epoch frame reads is = inl (subst (λ (found : Option (ℕ × CodeFrame)). IfSome found (λ sent. (version : Version) × IsTextOf version bytes (decoded_sent sent))) is reads)

pub no_frame_said : (bytes : List ℕ) (read : Option (ℕ × CodeFrame)) → ((version : Version) (sent : Sent) → IsTextOf version bytes sent → option_map decoded_sent read ≡ Some sent) → read ≡ None
    → ((epoch page : ℕ) → IsHeadOfPage bytes epoch page → ⊥) → SaysNoFrame bytes
no_frame_said bytes read whole is none sent (inl text) = let h : option_map decoded_sent None ≡ Some sent = ap (option_map decoded_sent) (sym is) ∙ whole text.0 sent text.1 in absurd cc
no_frame_said bytes read whole is none sent (inr head) = none sent.epoch head.0 head.1

pub nothing_said : (bytes : List ℕ) → SaysNoFrame bytes → ((epoch first count : ℕ) → IsHeadOfRun bytes epoch first count → ⊥) → SaysNothing bytes
nothing_said bytes none no_run (AFrame sent) says = none sent says
nothing_said bytes none no_run (ZeroRun epoch first count) says = no_run epoch first count says

-- The wire from the source

pub was_taken : (bytes : List ℕ) (old : PostingDestination) (handed : Handed) (outcome : Result Effect FrameFault) (new : PostingDestination) → Says bytes handed
    → OnOk outcome (fault_of old.node handed ≡ None) → IfOk outcome (λ effect. effect ≡ effect_said handed) → OnOk outcome (new ≡ after old handed) → IfOk outcome (λ effect. IsTaken bytes old effect new)
was_taken bytes old handed (Ok effect) new says accepted is made = record { handed = handed; says = says; accepted = accepted; effect_is = is; new_is = made }
was_taken bytes old handed (Err fault) new says accepted is made = tt

pub not_taken : (bytes : List ℕ) (old : PostingDestination) (handed : Handed) (outcome : Result Effect FrameFault) → Says bytes handed
    → IfErr outcome (λ fault. (fault ≡ FrameFault.NoMemory) ⊎ (fault_of old.node handed ≡ Some fault)) → IfErr outcome (λ fault. MayNotTake bytes old fault)
not_taken bytes old handed (Ok effect) says refused = tt
not_taken bytes old handed (Err fault) says refused =
    ⊎_elim (λ (lack : fault ≡ FrameFault.NoMemory). inl lack) (λ (why : fault_of old.node handed ≡ Some fault). inr (inr (handed, says, why))) refused

pub left_as_it_was : (bytes : List ℕ) (old new : PostingDestination) (outcome : Result Effect FrameFault) → OnErr outcome (new ≡ old) → OnErr outcome (IsLeft bytes old new)
left_as_it_was bytes old new (Ok effect) same = tt
left_as_it_was bytes old new (Err fault) same = inl same

pub left_partly : (bytes : List ℕ) (old new : PostingDestination) (epoch first count : ℕ) (outcome : Result Effect FrameFault) → Says bytes (ZeroRun epoch first count)
    → OnErr outcome ((kept : ℕ) × (kept ≤ count) × (new ≡ zeros_taken old epoch first kept)) → OnErr outcome (IsLeft bytes old new)
left_partly bytes old new epoch first count (Ok effect) says part = tt
left_partly bytes old new epoch first count (Err fault) says part = inr (epoch, first, count, part.0, says, part.1, part.2)

lack_is_answer : (found : Option FrameFault) (effect : Effect) (last new : PostingDestination) (fault : FrameFault) → fault ≡ FrameFault.NoMemory → IsAnswer found effect last (Err fault) new
lack_is_answer None effect last new fault lack = lack
lack_is_answer (Some reason) effect last new fault lack = inr lack

pub is_answer : (bytes : List ℕ) (old : PostingDestination) (outcome : Result Effect FrameFault) (new : PostingDestination) → IfOk outcome (λ effect. IsTaken bytes old effect new)
    → IfErr outcome (λ fault. MayNotTake bytes old fault) → (handed : Handed) → Says bytes handed → IsAnswer (fault_of old.node handed) (effect_said handed) (after old handed) outcome new
is_answer bytes old (Ok effect) new taken refused handed says =
    subst (λ (h : Handed). IsAnswer (fault_of old.node h) (effect_said h) (after old h) (Ok effect) new) (one_saying bytes taken.handed handed taken.says says)
    (subst (λ (found : Option FrameFault). IsAnswer found (effect_said taken.handed) (after old taken.handed) (Ok effect) new) (sym taken.accepted) (taken.effect_is, taken.new_is))
is_answer bytes old (Err fault) new taken (inl lack) handed says = lack_is_answer (fault_of old.node handed) (effect_said handed) (after old handed) new fault lack
is_answer bytes old (Err fault) new taken (inr (inl nothing)) handed says = absurd (nothing.1 handed says)
is_answer bytes old (Err fault) new taken (inr (inr why)) handed says =
    subst (λ (found : Option FrameFault). IsAnswer found (effect_said handed) (after old handed) (Err fault) new)
    (sym (ap (λ (h : Handed). fault_of old.node h) (one_saying bytes handed why.0 says why.1) ∙ why.2)) (inl refl)

-- The urgent wire

pub was_taken_urgently : (bytes : List ℕ) (old : PostingDestination) (sent : Sent) (outcome : Result Effect FrameFault) (new : PostingDestination) → Says bytes (AFrame sent)
    → OnOk outcome (urgent_taking_fault old.node sent.epoch sent.frame ≡ None) → IfOk outcome (λ effect. effect ≡ effect_said (AFrame sent)) → OnOk outcome (new ≡ urgently_taken old sent.frame)
    → IfOk outcome (λ effect. IsTakenUrgently bytes old effect new)
was_taken_urgently bytes old sent (Ok effect) new says accepted is made = record { sent = sent; says = says; accepted = accepted; effect_is = is; new_is = made }
was_taken_urgently bytes old sent (Err fault) new says accepted is made = tt

pub not_taken_urgently : (bytes : List ℕ) (old : PostingDestination) (sent : Sent) (outcome : Result Effect FrameFault) → Says bytes (AFrame sent)
    → IfErr outcome (λ fault. (fault ≡ FrameFault.NoMemory) ⊎ (urgent_taking_fault old.node sent.epoch sent.frame ≡ Some fault)) → IfErr outcome (λ fault. MayNotTakeUrgently bytes old fault)
not_taken_urgently bytes old sent (Ok effect) says refused = tt
not_taken_urgently bytes old sent (Err fault) says refused =
    ⊎_elim (λ (lack : fault ≡ FrameFault.NoMemory). inl lack) (λ (why : urgent_taking_fault old.node sent.epoch sent.frame ≡ Some fault). inr (inr (sent, says, why))) refused

-- a Run is no frame of the urgent wire
no_run_there : (bytes : List ℕ) (old : PostingDestination) (outcome : Result Effect FrameFault) (new : PostingDestination) (epoch first count : ℕ) → IfOk outcome (λ effect. IsTakenUrgently bytes old effect new)
    → IfErr outcome (λ fault. MayNotTakeUrgently bytes old fault) → Says bytes (ZeroRun epoch first count) → IsAnswer (Some FrameFault.NotAFrame) (effect_said (ZeroRun epoch first count)) old outcome new
no_run_there bytes old (Ok effect) new epoch first count taken refused says =
    let h : AFrame taken.sent ≡ ZeroRun epoch first count = one_saying bytes (AFrame taken.sent) (ZeroRun epoch first count) taken.says says in absurd cc
no_run_there bytes old (Err fault) new epoch first count taken (inl lack) says = inr lack
no_run_there bytes old (Err fault) new epoch first count taken (inr (inl none)) says = inl none.0
no_run_there bytes old (Err fault) new epoch first count taken (inr (inr why)) says =
    let h : AFrame why.0 ≡ ZeroRun epoch first count = one_saying bytes (AFrame why.0) (ZeroRun epoch first count) why.1 says in absurd cc

-- one frame is said
the_frame : (bytes : List ℕ) (one other : Sent) → Says bytes (AFrame one) → Says bytes (AFrame other) → one ≡ other
the_frame bytes one other says also = let h : AFrame one ≡ AFrame other = one_saying bytes (AFrame one) (AFrame other) says also in cc

pub is_urgent_answer : (bytes : List ℕ) (old : PostingDestination) (outcome : Result Effect FrameFault) (new : PostingDestination) → IfOk outcome (λ effect. IsTakenUrgently bytes old effect new)
    → IfErr outcome (λ fault. MayNotTakeUrgently bytes old fault) → (handed : Handed) → Says bytes handed → IsAnswer (urgent_fault_of old.node handed) (effect_said handed) (urgent_after old handed) outcome new
is_urgent_answer bytes old outcome new taken refused (ZeroRun epoch first count) says = no_run_there bytes old outcome new epoch first count taken refused says
is_urgent_answer bytes old (Ok effect) new taken refused (AFrame sent) says =
    subst (λ (s : Sent). IsAnswer (urgent_taking_fault old.node s.epoch s.frame) (effect_said (AFrame s)) (urgently_taken old s.frame) (Ok effect) new) (the_frame bytes taken.sent sent taken.says says)
    (subst (λ (found : Option FrameFault). IsAnswer found (effect_said (AFrame taken.sent)) (urgently_taken old taken.sent.frame) (Ok effect) new) (sym taken.accepted) (taken.effect_is, taken.new_is))
is_urgent_answer bytes old (Err fault) new taken (inl lack) (AFrame sent) says = lack_is_answer (urgent_taking_fault old.node sent.epoch sent.frame) (effect_said (AFrame sent)) (urgently_taken old sent.frame) new fault lack
is_urgent_answer bytes old (Err fault) new taken (inr (inl none)) (AFrame sent) says = absurd (none.1 sent says)
is_urgent_answer bytes old (Err fault) new taken (inr (inr why)) (AFrame sent) says =
    subst (λ (found : Option FrameFault). IsAnswer found (effect_said (AFrame sent)) (urgently_taken old sent.frame) (Err fault) new)
    (sym (ap (λ (s : Sent). urgent_taking_fault old.node s.epoch s.frame) (the_frame bytes sent why.0 says why.1) ∙ why.2)) (inl refl)
