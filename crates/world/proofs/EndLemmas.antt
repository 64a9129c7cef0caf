-- Whether a Deliver has to wait: only if its frame is End, which has a tag of its own.
use Rattle.std.proofs.Common.{◌≡◌, ℕ, ◌<◌, ◌≤◌, ◌+◌, ◌-◌, ◌&&◌, Bool, true, false, not, eqb, ltb, Ok, Err, Result, List, [], ◌∷◌, length, get_or, refl, sym, ap, ◌∙◌, subst, arith, if◌then◌else◌}
use Rattle.std.proofs.lemmas.Bool.{false≢true}
use Rattle.std.proofs.lemmas.Bool.Decides.{nat_tests}
use Rattle.std.proofs.lemmas.List.Concat.{flat_map-cons}
use Rattle.frame_decoder.specs.Streams.{texts}
use Rattle.frame_decoder.specs.Versions.{version_of}
use Rattle.frame_decoder.specs.declared.version.Version.TheVariants.{Two}
use Rattle.page_stream.specs.Texts.{tag_code, text}
use Rattle.foundation.specs.Tests.{is_empty}
use Rattle.mig_base.specs.declared.phase.DestPhase.{DestPhase}
use Rattle.mig_base.specs.declared.phase.SourcePhase.{SourcePhase}
use Rattle.mig_base.specs.declared.refusal.Refusal.{Refusal}
use Rattle.mig_base.specs.declared.schedule.Step.{Step}
use Rattle.mig_model.specs.Destination.{Destination}
use Rattle.mig_model.specs.Faults.{is_early, is_end}
use Rattle.mig_model.specs.Invariant.{AreTold, HeldFits, IsTold}
use Rattle.mig_model.specs.Lengths.{text_len}
use Rattle.mig_model.specs.Migration.{World, answer, destination_sends, has_started, is_short}
use Rattle.mig_model.specs.NodeSteps.{Sends, checked, is_out_of_phase, unless}
use Rattle.mig_model.specs.Promises.{IsReached}
use Rattle.mig_model.specs.Source.{Source, is_stopped}
use Rattle.mig_model.specs.SourceSteps as source
use Rattle.mig_model.specs.Wire.{Copy, Frame, Sent, wire_behind}
use Rattle.mig_model.specs.Wire.Frame.{End}
use Rattle.mig_model.proofs.steps.EveryStep.{kept-reached, urgent-reached}
use Rattle.mig_model.proofs.memory.Facts.{by_test}
use Rattle.mig_model.proofs.invariant.FirstFrame.{comes}
use Rattle.mig_model.proofs.steps.StepLemmas.{delivers}
use Rattle.mig_model.proofs.invariant.UrgentWire.{placed}
use Rattle.world.proofs.DeliveryLemmas.{CanArrive}
use Rattle.world.specs.Answers.{has_sent_end}

-- What the source says of an End that it would send

end_known : (node : Source) → is_stopped node.phase ≡ true → is_out_of_phase (checked (source.end node)) ≡ eqb node.end_epoch node.epoch
unfolding unless
end_known node stopped = grind (arith, nat_tests)

pub sent_known : (node : Source) (phase : SourcePhase) (check : Result (Unit {0}) Refusal) → phase ≡ node.phase → phase ≡ SourcePhase.Stopped → check ≡ checked (source.end node) → is_out_of_phase check ≡ has_sent_end node
sent_known node phase check is stopped h =
    let at = ap is_stopped (sym is ∙ stopped) in
    ap is_out_of_phase h ∙ end_known node at ∙ sym (ap (λ b. b && eqb node.end_epoch node.epoch) at)

-- The first frame

-- the second byte in flight is the tag of the first frame
first_tag : (frames : List Sent) (sent : Sent) (rest : List Sent) → frames ≡ sent ∷ rest → get_or (texts Two frames) 1 0 ≡ tag_code sent.frame
unfolding text
first_tag frames sent rest first =
    ap (λ (frames : List Sent). get_or (texts Two frames) 1 0) first
    ∙ ap (λ (bytes : List ℕ). get_or bytes 1 0) (flat_map-cons (λ (sent : Sent). text (version_of Two) sent.epoch sent.frame) sent rest)

-- no other frame has the tag of End
tag_tells : (frame : Frame) → eqb (tag_code frame) 6 ≡ is_end frame
tag_tells frame = grind (arith, nat_tests)

pub end_first : (frames : List Sent) (sent : Sent) (rest : List Sent) (tag : ℕ) → frames ≡ sent ∷ rest → tag ≡ get_or (texts Two frames) 1 0 → eqb tag 6 ≡ is_end sent.frame
end_first frames sent rest tag first is = ap (λ n. eqb n 6) (is ∙ first_tag frames sent rest first) ∙ tag_tells sent.frame

end_len : (frame : Frame) → is_end frame ≡ true → text_len frame ≡ 16
end_len (End urgent) is = refl
end_len _ is = absurd (false≢true is)

-- fewer bytes of an End have come than it has
pub held_few : (frames : List Sent) (sent : Sent) (rest : List Sent) (held : ℕ) → frames ≡ sent ∷ rest → HeldFits frames held → true ≡ is_end sent.frame → held < 16
held_few frames sent rest held first fits end =
    let few = subst (λ (frames : List Sent). HeldFits frames held) first fits in
    let len = end_len sent.frame (sym end) in
    omega (arith, few, len)

-- A frame that arrives whole

full_by : (n length held : ℕ) → length ≡ 16 → 16 - held ≤ n → ltb n (length - held) ≡ false
full_by n length held is h = grind (arith, nat_tests)

-- no copy waits
none_waits : (end : Bool) (copies : List Copy) → length copies ≤ 0 → (end && not (is_empty copies)) ≡ false
none_waits true [] none = refl
none_waits false [] none = refl
none_waits end (copy ∷ copies) none = absurd (omega (arith, none))

checked_by : (world : World) (installs late early : Bool) (sends : Sends Destination) → installs ≡ false → late ≡ early → checked (destination_sends world (unless ((installs, Refusal.InstallFirst) ∷ (late, Refusal.UrgentFirst) ∷ []) (Ok sends))) ≡ (if early then Err Refusal.UrgentFirst else Ok tt)
unfolding unless
checked_by world true late early sends free is = absurd (false≢true (sym free))
checked_by world false true early sends free is = ap (λ b. if b then Err Refusal.UrgentFirst else Ok tt) is
checked_by world false false early sends free is = ap (λ b. if b then Err Refusal.UrgentFirst else Ok tt) is

checked_first : (world : World) (installs late : Bool) (sends : Sends Destination) → installs ≡ true → checked (destination_sends world (unless ((installs, Refusal.InstallFirst) ∷ (late, Refusal.UrgentFirst) ∷ []) (Ok sends))) ≡ Err Refusal.InstallFirst
unfolding unless
checked_first world true late sends waits = refl
checked_first world false late sends waits = absurd (false≢true waits)

-- the answer of a delivery whose first frame is complete, and for which no copy has to be installed: by whether urgent frames are still
-- to come
full_checked : (world : World) (n : ℕ) (can : CanArrive world.up (has_started world) world.forward) (early : Bool) → is_short world.forward can.sent.frame n ≡ false → (is_end can.sent.frame && not (is_empty world.destination.arrivals)) ≡ false →
    is_early world.destination can.sent.frame ≡ early → (if early then Err Refusal.UrgentFirst else Ok tt) ≡ checked (answer world (Step.Deliver n))
full_checked world n can early full free is =
    sym (checked_by (record world { forward = wire_behind can.rest }) (is_end can.sent.frame && not (is_empty world.destination.arrivals)) (is_early world.destination can.sent.frame) early _ free is)
    ∙ ap checked (sym (delivers world n can.sent can.rest false can.allowed can.up can.first full))

-- an End of which the last byte comes
end_full : (world : World) (n : ℕ) (can : CanArrive world.up (has_started world) world.forward) → true ≡ is_end can.sent.frame → 16 - world.forward.held ≤ n → is_short world.forward can.sent.frame n ≡ false
end_full world n can end enough = full_by n (text_len can.sent.frame) world.forward.held (end_len can.sent.frame (sym end)) enough

-- End is early exactly while urgent frames are in flight
end_comes : (from : SourcePhase) (to : DestPhase) (frame : Frame) → comes from to frame ≡ true → is_end frame ≡ true → to ≡ DestPhase.Running
end_comes from to frame h is = grind (arith, nat_tests)

early_by : (node : Destination) (epoch end_epoch count flying : ℕ) (frame : Frame) → IsTold epoch end_epoch count frame → count ≡ node.urgent_taken + flying → is_end frame ≡ true → is_early node frame ≡ ltb 0 flying
early_by node epoch end_epoch count flying frame told all is = grind (arith, nat_tests)

end_early : (world : World) (can : CanArrive world.up (has_started world) world.forward) → IsReached world → is_end can.sent.frame ≡ true → is_early world.destination can.sent.frame ≡ ltb 0 (length world.urgent.frames)
end_early world can reached is =
    let urgent = urgent-reached world reached in
    let runs = end_comes world.source.phase world.destination.phase can.sent.frame (placed world can.sent can.rest (kept-reached world reached) can.first can.up) is in
    let all = urgent.counted can.up (λ paused. let h : DestPhase.Running ≡ DestPhase.Paused = sym runs ∙ paused in cc) in
    early_by world.destination world.source.epoch world.source.end_epoch world.source.urgent_sent (length world.urgent.frames) can.sent.frame
    (subst (AreTold world.source.epoch world.source.end_epoch world.source.urgent_sent) can.first urgent.told).0 all is

some_fly : (frames : List Sent) → is_empty frames ≡ false → ltb 0 (length frames) ≡ true
some_fly [] h = absurd (false≢true (sym h))
some_fly (sent ∷ rest) h = grind (arith, nat_tests)

none_fly : (frames : List Sent) → is_empty frames ≡ true → ltb 0 (length frames) ≡ false
none_fly [] h = refl
none_fly (sent ∷ rest) h = absurd (false≢true h)

pub end_waits : (world : World) (n : ℕ) (can : CanArrive world.up (has_started world) world.forward) → IsReached world → true ≡ is_end can.sent.frame → 16 - world.forward.held ≤ n → length world.destination.arrivals ≤ 0 → is_empty world.urgent.frames ≡ false →
    Err Refusal.UrgentFirst ≡ checked (answer world (Step.Deliver n))
end_waits world n can reached end enough none some =
    full_checked world n can true (end_full world n can end enough) (none_waits _ world.destination.arrivals none) (end_early world can reached (sym end) ∙ some_fly world.urgent.frames some)

pub end_fits : (world : World) (n : ℕ) (can : CanArrive world.up (has_started world) world.forward) → IsReached world → true ≡ is_end can.sent.frame → 16 - world.forward.held ≤ n → length world.destination.arrivals ≤ 0 → is_empty world.urgent.frames ≡ true →
    Ok tt ≡ checked (answer world (Step.Deliver n))
end_fits world n can reached end enough none free =
    full_checked world n can false (end_full world n can end enough) (none_waits _ world.destination.arrivals none) (end_early world can reached (sym end) ∙ none_fly world.urgent.frames free)

some_waits : (end : Bool) (copies : List Copy) → true ≡ end → 0 < length copies → (end && not (is_empty copies)) ≡ true
some_waits end [] is some = absurd (omega (arith, some))
some_waits end (copy ∷ copies) is some = ap (λ b. b && true) (sym is)

pub end_installs : (world : World) (n : ℕ) (can : CanArrive world.up (has_started world) world.forward) → true ≡ is_end can.sent.frame → 16 - world.forward.held ≤ n → 0 < length world.destination.arrivals →
    Err Refusal.InstallFirst ≡ checked (answer world (Step.Deliver n))
end_installs world n can end enough some =
    sym (checked_first (record world { forward = wire_behind can.rest }) (is_end can.sent.frame && not (is_empty world.destination.arrivals)) (is_early world.destination can.sent.frame) _ (some_waits (is_end can.sent.frame) world.destination.arrivals end some))
    ∙ ap checked (sym (delivers world n can.sent can.rest false can.allowed can.up can.first (end_full world n can end enough)))

-- no other frame has to wait
not_early : (node : Destination) (frame : Frame) → is_end frame ≡ false → is_early node frame ≡ false
not_early node frame other = grind (arith, nat_tests)

pub other_fits : (world : World) (n : ℕ) (can : CanArrive world.up (has_started world) world.forward) → is_end can.sent.frame ≡ false → Ok tt ≡ checked (answer world (Step.Deliver n))
other_fits world n can other =
    by_test (is_short world.forward can.sent.frame n)
    (λ short. ap checked (sym (delivers world n can.sent can.rest true can.allowed can.up can.first short)))
    (λ full. full_checked world n can false full (ap (λ b. b && not (is_empty world.destination.arrivals)) other) (not_early world.destination can.sent.frame other))
