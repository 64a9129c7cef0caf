-- Every step of a world once all contents are changed.
use Rattle.std.proofs.lemmas.Bool.Decides.{nat_tests}
use Rattle.std.proofs.Common.{◌≡◌, ℕ, suc, ◌+◌, ◌-◌, ◌*◌, ◌<◌, ◌&&◌, Bool, true, false, cond, eqb, ltb, Option, Some, None, List, [], ◌∷◌, map, refl, sym, ap, ◌∙◌, arith}
use Rattle.std.specs.Prelude.{Result, Ok, Err}
use Rattle.std.specs.List.{All}
use Rattle.std.specs.Option.{option_map}
use Rattle.std.proofs.lemmas.Bool.{and_parts, eqb-true, false≢true}
use Rattle.std.proofs.lemmas.List.{map-append, length-map}
use Rattle.mig_base.specs.declared.command.Command.{Command}
use Rattle.mig_base.specs.declared.command.Command.TheVariants.{Load, Store}
use Rattle.mig_base.specs.declared.effect.Effect.{Effect}
use Rattle.mig_base.specs.declared.refusal.Refusal.{Refusal}
use Rattle.mig_base.specs.declared.schedule.Side.{Side}
use Rattle.mig_base.specs.declared.schedule.Step.{Step}
use Rattle.mig_model.specs.Destination.{Destination, is_dest_paused}
use Rattle.mig_model.specs.DestinationSteps as destination
use Rattle.mig_model.specs.Guest.{Guest}
use Rattle.mig_model.specs.GuestSteps.{Tried, issue, retry}
use Rattle.mig_model.specs.Lengths.{area_count, command_len, commands_len, run_count, text_len}
use Rattle.mig_model.specs.Migration.{Answer, Made, World, answer, cut, delivered, destination_acts, destination_sends, guest_by, guest_of, guest_tries, has_started, is_short, made, runs, source_acts, source_sends, source_sends_urgently, with_guest_by}
use Rattle.mig_model.specs.NodeSteps.{Acted, Sends, in_phase, while_down, while_up}
use Rattle.mig_model.specs.Source.{Source, is_under_way}
use Rattle.mig_model.specs.SourceSteps as source
use Rattle.mig_model.specs.Wire.{Frame, Sent, Wire, is_zeros, wire_behind}
use Rattle.mig_model.specs.Wire.Frame.{Advise, Page, Zero, Run, Discard, Package, End, Resume, Request, Recv, Done}
use Rattle.mig_laws.specs.Contents.{AreWholePages, IsByteMap, command_under, entry_under, guest_under}
use Rattle.mig_laws.specs.Runs.{KeepsOthers}
use Rattle.mig_laws.specs.Nodes.{destination_acted_under, destination_sends_under, map_ok, source_acted_under, source_sends_under, tried_under}
use Rattle.mig_laws.specs.Worlds.{AreWholeFrames, HasWholePages, IsWholeFrame, answer_under, bytes_in, destination_under, effect_under, ends_inside, first_bytes, frame_under, is_page, is_partial, moved_bytes, sent_under, source_under, step_under, wire_under, world_under}
use Rattle.mig_laws.proofs.DestinationNode as node
use Rattle.mig_laws.proofs.Frames.{wire_if-under, wire_with-under}
use Rattle.mig_laws.proofs.GuestSteps.{issue-under, retry-under}
use Rattle.mig_laws.proofs.SourceNode as from
use Rattle.mig_laws.proofs.StepForms.{in_phase-map, while_down-map, while_up-map}

-- what a step did, changed
abbrev pub made_under : (ℕ → ℕ) → (ℕ → List ℕ) → Made → Made
made_under f bytes made = record { effect = effect_under f bytes made.effect; world = world_under f made.world }

-- A command of the guest

guest_by-under : (f : ℕ → ℕ) (ran : Bool) (a b : Guest) → guest_by ran (guest_under f a) (guest_under f b) ≡ guest_under f (guest_by ran a b)
guest_by-under f true a b = refl
guest_by-under f false a b = refl

with_guest-under : (f : ℕ → ℕ) (ran : Bool) (world : World) (guest : Guest) → with_guest_by ran (world_under f world) (guest_under f guest) ≡ world_under f (with_guest_by ran world guest)
with_guest-under f true world guest = refl
with_guest-under f false world guest = refl

whole_guest : (ran : Bool) (a b : Guest) → AreWholePages a.space.host.bytes → AreWholePages b.space.host.bytes → AreWholePages (guest_by ran a b).space.host.bytes
whole_guest true a b one other = other
whole_guest false a b one other = one

tries-under : (f : ℕ → ℕ) (bytes : ℕ → List ℕ) (world : World) (step : Result Tried Refusal) → guest_tries (world_under f world) (map_ok (tried_under f bytes) step) ≡ map_ok (made_under f bytes) (guest_tries world step)
tries-under f bytes world (Err refusal) = refl
tries-under f bytes world (Ok tried) =
    let worlds = with_guest-under f world.destination.has_run world tried.guest in
    let entries = sym (map-append (entry_under f) world.transcript tried.entries) in
    λ i. made (effect_under f bytes tried.effect) (record (worlds i) { transcript = entries i })

-- Steps of a node

acts-under : (f : ℕ → ℕ) (bytes : ℕ → List ℕ) (world : World) (step : Result (Acted Source) Refusal) → source_acts (world_under f world) (map_ok (source_acted_under f bytes) step) ≡ map_ok (made_under f bytes) (source_acts world step)
acts-under f bytes world (Ok acted) = refl
acts-under f bytes world (Err refusal) = refl

sends-under : (f : ℕ → ℕ) (bytes : ℕ → List ℕ) (world : World) (step : Result (Sends Source) Refusal) → source_sends (world_under f world) (map_ok (source_sends_under f bytes) step) ≡ map_ok (made_under f bytes) (source_sends world step)
sends-under f bytes world (Ok sends) =
    ap (λ (wire : Wire). made (effect_under f bytes sends.effect) (record (world_under f world) { source = source_under f sends.node; forward = wire })) (wire_with-under f world.forward sends.node.epoch sends.frames _ refl)
sends-under f bytes world (Err refusal) = refl

sends_urgently-under : (f : ℕ → ℕ) (bytes : ℕ → List ℕ) (world : World) (step : Result (Sends Source) Refusal) → source_sends_urgently (world_under f world) (map_ok (source_sends_under f bytes) step) ≡ map_ok (made_under f bytes) (source_sends_urgently world step)
sends_urgently-under f bytes world (Ok sends) =
    ap (λ (wire : Wire). made (effect_under f bytes sends.effect) (record (world_under f world) { source = source_under f sends.node; urgent = wire })) (wire_with-under f world.urgent sends.node.epoch sends.frames _ refl)
sends_urgently-under f bytes world (Err refusal) = refl

there_acts-under : (f : ℕ → ℕ) (bytes : ℕ → List ℕ) (world : World) (step : Result (Acted Destination) Refusal) → destination_acts (world_under f world) (map_ok (destination_acted_under f bytes) step) ≡ map_ok (made_under f bytes) (destination_acts world step)
there_acts-under f bytes world (Ok acted) = refl
there_acts-under f bytes world (Err refusal) = refl

there_sends-under : (f : ℕ → ℕ) (bytes : ℕ → List ℕ) (world : World) (step : Result (Sends Destination) Refusal) → destination_sends (world_under f world) (map_ok (destination_sends_under f bytes) step) ≡ map_ok (made_under f bytes) (destination_sends world step)
there_sends-under f bytes world (Ok sends) =
    ap (λ (wire : Wire). made (effect_under f bytes sends.effect) (record (world_under f world) { destination = destination_under f sends.node; back = wire })) (wire_if-under f world.up world.back sends.node.epoch sends.frames _ refl)
there_sends-under f bytes world (Err refusal) = refl

-- Deliveries

command_len-under : (f : ℕ → ℕ) (o : Option Command) → command_len (option_map (command_under f) o) ≡ command_len o
command_len-under f None = refl
command_len-under f (Some (Store addr width value)) = refl
command_len-under f (Some (Load addr width)) = refl
command_len-under f (Some _) = refl

commands_len-under : (f : ℕ → ℕ) (commands : List (Option Command)) → commands_len (map (option_map (command_under f)) commands) ≡ commands_len commands
commands_len-under f [] = refl
commands_len-under f (command ∷ commands) = λ i. command_len-under f command i + commands_len-under f commands i

shorter : (held n : ℕ) → ltb n (4112 - held) ≡ false → ltb n (16 - held) ≡ ltb n (4112 - held)
shorter held n h = grind (arith, nat_tests)

page_short : (held n page : ℕ) (bytes : List ℕ) (zeros : Bool) → ltb n (4112 - held) ≡ false → ltb n (text_len (cond zeros (Zero page) (Page page bytes)) - held) ≡ ltb n (4112 - held)
page_short held n page bytes true h = shorter held n h
page_short held n page bytes false h = refl

-- a delivery completes the changed frame exactly if it completes the old one
pub is_short-under : (f : ℕ → ℕ) (wire : Wire) (frame : Frame) (n : ℕ) → (is_page frame && is_short wire frame n) ≡ false → is_short (wire_under f wire) (frame_under f frame) n ≡ is_short wire frame n
is_short-under f wire Advise n h = refl
is_short-under f wire (Page page bytes) n h = page_short wire.held n page (map f bytes) (is_zeros (map f bytes)) h
is_short-under f wire (Zero page) n h = refl
is_short-under f wire (Run first pages) n h = ap (λ k. ltb n (12 + (8 + 4096 * k) - wire.held)) (length-map pages (map f))
is_short-under f wire (Discard pages) n h = refl
is_short-under f wire (Package areas owed commands) n h =
    ap (λ k. ltb n (12 + (4 + 9 * area_count areas + (4 + 8 * run_count owed) + (1 + k)) - wire.held)) (commands_len-under f commands)
is_short-under f wire (End urgent) n h = refl
is_short-under f wire Resume n h = refl
is_short-under f wire (Request page) n h = refl
is_short-under f wire (Recv state owed) n h = refl
is_short-under f wire Done n h = refl

-- a delivery of `n` bytes ends inside the first frame in flight exactly if it did
abbrev pub IsAlikeFirst : (ℕ → ℕ) → List Sent → ℕ → ℕ → Type 0
IsAlikeFirst f [] held n = Unit {0}
IsAlikeFirst f (sent ∷ rest) held n =
    is_short (wire_under f (record { frames = sent ∷ rest; held = held })) (frame_under f sent.frame) n ≡ is_short (record { frames = sent ∷ rest; held = held }) sent.frame n

-- the same of a step, if it is a delivery
abbrev pub IsAlike : (ℕ → ℕ) → World → Step → Type 0
IsAlike f world (Step.Deliver n) = IsAlikeFirst f world.forward.frames world.forward.held n
IsAlike f world (Step.DeliverBack n) = IsAlikeFirst f world.back.frames world.back.held n
IsAlike f world (Step.DeliverUrgent n) = IsAlikeFirst f world.urgent.frames world.urgent.held n
IsAlike f world step = Unit {0}

first_alike : (f : ℕ → ℕ) (frames : List Sent) (held n : ℕ) → ends_inside (record { frames = frames; held = held }) n ≡ false → IsAlikeFirst f frames held n
first_alike f [] held n part = tt
first_alike f (sent ∷ rest) held n part = is_short-under f (record { frames = sent ∷ rest; held = held }) sent.frame n part

-- so it is where no delivery ends inside a Page
pub alike_whole : (f : ℕ → ℕ) (world : World) (step : Step) → is_partial world step ≡ false → IsAlike f world step
alike_whole f world (Step.Deliver n) part = first_alike f world.forward.frames world.forward.held n part
alike_whole f world (Step.DeliverBack n) part = first_alike f world.back.frames world.back.held n part
alike_whole f world (Step.DeliverUrgent n) part = first_alike f world.urgent.frames world.urgent.held n part
alike_whole f world _ part = tt

no_zeros : (f : ℕ → ℕ) → KeepsOthers f → (bytes : List ℕ) → All (λ byte. byte < 256) bytes → is_zeros (map f bytes) ≡ true → is_zeros bytes ≡ true
no_zeros f keeps [] all h = refl
no_zeros f keeps (byte ∷ bytes) all h =
    let both = and_parts (eqb (f byte) 0) (is_zeros (map f bytes)) h in
    let rest = no_zeros f keeps bytes (λ k d l. all (suc k) d (omega (arith, l))) both.1 in
    ap (λ n. eqb n 0 && is_zeros bytes) (keeps byte (all 0 0 (omega arith)) (eqb-true (f byte) 0 both.0)) ∙ rest

page_stays : (held n page : ℕ) (bytes : List ℕ) (zeros : Bool) → (zeros ≡ true → ⊥) → ltb n (text_len (cond zeros (Zero page) (Page page bytes)) - held) ≡ ltb n (4112 - held)
page_stays held n page bytes true never = absurd (never refl)
page_stays held n page bytes false never = refl

frame_kept : (f : ℕ → ℕ) → KeepsOthers f → (wire : Wire) (frame : Frame) (n : ℕ) → IsWholeFrame frame → is_short (wire_under f wire) (frame_under f frame) n ≡ is_short wire frame n
frame_kept f keeps wire (Page page bytes) n whole =
    page_stays wire.held n page (map f bytes) (is_zeros (map f bytes)) (λ zeros. false≢true (sym whole.1 ∙ no_zeros f keeps bytes whole.0.1 zeros))
frame_kept f keeps wire Advise n whole = refl
frame_kept f keeps wire (Zero page) n whole = refl
frame_kept f keeps wire (Run first pages) n whole = is_short-under f wire (Run first pages) n refl
frame_kept f keeps wire (Discard pages) n whole = refl
frame_kept f keeps wire (Package areas owed commands) n whole = is_short-under f wire (Package areas owed commands) n refl
frame_kept f keeps wire (End urgent) n whole = refl
frame_kept f keeps wire Resume n whole = refl
frame_kept f keeps wire (Request page) n whole = refl
frame_kept f keeps wire (Recv state owed) n whole = refl
frame_kept f keeps wire Done n whole = refl

first_kept : (f : ℕ → ℕ) → KeepsOthers f → (frames : List Sent) (held n : ℕ) → AreWholeFrames frames → IsAlikeFirst f frames held n
first_kept f keeps [] held n whole = tt
first_kept f keeps (sent ∷ rest) held n whole = frame_kept f keeps (record { frames = sent ∷ rest; held = held }) sent.frame n whole.0

-- and where the map takes no other byte to 0, since a Page stays a Page
pub alike_kept : (f : ℕ → ℕ) → KeepsOthers f → (world : World) → HasWholePages world → (step : Step) → IsAlike f world step
alike_kept f keeps world whole (Step.Deliver n) = first_kept f keeps world.forward.frames world.forward.held n whole.forward
alike_kept f keeps world whole (Step.DeliverBack n) = first_kept f keeps world.back.frames world.back.held n whole.back
alike_kept f keeps world whole (Step.DeliverUrgent n) = first_kept f keeps world.urgent.frames world.urgent.held n whole.urgent
alike_kept f keeps world whole _ = tt

either_way : (f : ℕ → ℕ) (bytes : ℕ → List ℕ) (n : ℕ) (moved : World) (short : Bool) (taken new : Answer) → new ≡ map_ok (made_under f bytes) taken →
    cond short (made (Effect.Moved n) (world_under f moved)) new ≡ map_ok (made_under f bytes) (cond short (made (Effect.Moved n) moved) taken)
either_way f bytes n moved true taken new h = refl
either_way f bytes n moved false taken new h = h

-- how a wire is put in a world, and how a frame is taken from it, before and after the change
record Takes (f : ℕ → ℕ) (on other : Wire → World) (take new : World → Sent → Answer) : Type 0 where
  puts : (wire : Wire) → other (wire_under f wire) ≡ world_under f (on wire)
  takes : (rest : List Sent) (sent : Sent) → AreWholeFrames (sent ∷ rest) → new (world_under f (on (wire_behind rest))) (sent_under f sent) ≡ map_ok (made_under f (λ addr. bytes_in sent.frame)) (take (on (wire_behind rest)) sent)

delivered-under : (f : ℕ → ℕ) (on other : Wire → World) (take new : World → Sent → Answer) → Takes f on other take new → (frames : List Sent) (held n : ℕ) → AreWholeFrames frames →
    IsAlikeFirst f frames held n →
    delivered other (wire_under f (record { frames = frames; held = held })) n new ≡ map_ok (made_under f (λ addr. first_bytes frames)) (delivered on (record { frames = frames; held = held }) n take)
delivered-under f on other take new both [] held n whole part = refl
delivered-under f on other take new both (sent ∷ rest) held n whole part =
    let wire : Wire = record { frames = sent ∷ rest; held = held } in
    let bytes = λ (addr : ℕ). bytes_in sent.frame in
    let moved : Wire = record { frames = sent ∷ rest; held = held + n } in
    ap (λ (b : Bool). cond b (made (Effect.Moved n) (other (wire_under f moved))) (new (other (wire_under f (wire_behind rest))) (sent_under f sent))) part
    ∙ ap (λ (w : World). cond (is_short wire sent.frame n) (made (Effect.Moved n) w) (new (other (wire_under f (wire_behind rest))) (sent_under f sent))) (both.puts moved)
    ∙ either_way f bytes n (on moved) (is_short wire sent.frame n) (take (on (wire_behind rest)) sent) _
    (ap (λ (w : World). new w (sent_under f sent)) (both.puts (wire_behind rest)) ∙ both.takes rest sent whole)

forward_takes : (f : ℕ → ℕ) → f 0 ≡ 0 → (world : World) →
    Takes f (λ wire. record world { forward = wire }) (λ wire. record (world_under f world) { forward = wire }) (λ behind sent. destination_sends behind (destination.take behind.destination sent.epoch sent.frame)) (λ behind sent. destination_sends behind (destination.take behind.destination sent.epoch sent.frame))
forward_takes f h world =
    record {
      puts = λ wire. refl;
      takes = λ rest sent whole.
          let behind = record world { forward = wire_behind rest } in
          ap (destination_sends (world_under f behind)) (node.take-under f h world.destination sent.epoch sent.frame whole.0)
          ∙ there_sends-under f (λ addr. bytes_in sent.frame) behind (destination.take world.destination sent.epoch sent.frame);
    }

back_takes : (f : ℕ → ℕ) (world : World) →
    Takes f (λ wire. record world { back = wire }) (λ wire. record (world_under f world) { back = wire }) (λ behind sent. source_sends behind (source.take behind.source sent.frame)) (λ behind sent. source_sends behind (source.take behind.source sent.frame))
back_takes f world =
    record {
      puts = λ wire. refl;
      takes = λ rest sent whole.
          let behind = record world { back = wire_behind rest } in
          ap (source_sends (world_under f behind)) (from.take-under f world.source sent.frame) ∙ sends-under f (λ addr. bytes_in sent.frame) behind (source.take world.source sent.frame);
    }

urgent_takes : (f : ℕ → ℕ) → f 0 ≡ 0 → (world : World) →
    Takes f (λ wire. record world { urgent = wire }) (λ wire. record (world_under f world) { urgent = wire }) (λ behind sent. destination_acts behind (destination.take_urgent behind.destination sent.frame)) (λ behind sent. destination_acts behind (destination.take_urgent behind.destination sent.frame))
urgent_takes f h world =
    record {
      puts = λ wire. refl;
      takes = λ rest sent whole.
          let behind = record world { urgent = wire_behind rest } in
          ap (destination_acts (world_under f behind)) (node.take_urgent-under f h world.destination sent.frame whole.0)
          ∙ there_acts-under f (λ addr. bytes_in sent.frame) behind (destination.take_urgent world.destination sent.frame);
    }

-- Every step

pub answer-map : (f : ℕ → ℕ) → IsByteMap f → (world : World) → HasWholePages world → (step : Step) → IsAlike f world step →
    answer (world_under f world) (step_under f step) ≡ map_ok (made_under f (moved_bytes world step)) (answer world step)
answer-map f is world whole (Step.Issue cpu command) part =
    let bytes = moved_bytes world (Step.Issue cpu command) in
    ap (λ (g : Guest). guest_tries (world_under f world) (issue g (runs world) cpu (command_under f command))) (guest_by-under f world.destination.has_run world.source.guest world.destination.guest)
    ∙ ap (guest_tries (world_under f world)) (issue-under f is bytes (guest_of world) (whole_guest world.destination.has_run world.source.guest world.destination.guest whole.source whole.destination) (runs world) cpu command)
    ∙ tries-under f bytes world (issue (guest_of world) (runs world) cpu command)
answer-map f is world whole (Step.Retry cpu) part =
    let bytes = moved_bytes world (Step.Retry cpu) in
    ap (λ (g : Guest). guest_tries (world_under f world) (retry g (runs world) cpu)) (guest_by-under f world.destination.has_run world.source.guest world.destination.guest)
    ∙ ap (guest_tries (world_under f world)) (retry-under f is bytes (guest_of world) (whole_guest world.destination.has_run world.source.guest world.destination.guest whole.source whole.destination) (runs world) cpu)
    ∙ tries-under f bytes world (retry (guest_of world) (runs world) cpu)
answer-map f is world whole Step.Start part =
    let bytes = moved_bytes world Step.Start in
    ap (source_sends (world_under f world)) (from.start-under f bytes world.source) ∙ sends-under f bytes world (source.start world.source)
answer-map f is world whole Step.Round part =
    let bytes = moved_bytes world Step.Round in
    ap (source_acts (world_under f world)) (from.round-under f bytes world.source) ∙ acts-under f bytes world (source.round world.source)
answer-map f is world whole Step.Send part =
    let bytes = moved_bytes world Step.Send in
    ap (source_sends (world_under f world)) (while_up-map (source_sends_under f bytes) world.up (source.send world.source) _ (from.send-under f is.keeps_zero world.source))
    ∙ sends-under f bytes world (while_up world.up (source.send world.source))
answer-map f is world whole (Step.SendRun count) part =
    let bytes = moved_bytes world (Step.SendRun count) in
    ap (source_sends (world_under f world)) (while_up-map (source_sends_under f bytes) world.up (source.send_run world.source count) _ (from.send_run-under f is.keeps_zero bytes world.source count))
    ∙ sends-under f bytes world (while_up world.up (source.send_run world.source count))
answer-map f is world whole Step.SourceRead part =
    let bytes = moved_bytes world Step.SourceRead in
    ap (source_acts (world_under f world)) (from.read-under f bytes world.source) ∙ acts-under f bytes world (source.read world.source)
answer-map f is world whole Step.SourceAct part =
    let bytes = moved_bytes world Step.SourceAct in
    ap (source_acts (world_under f world)) (from.act-under f is.keeps_zero bytes world.source) ∙ acts-under f bytes world (source.act world.source)
answer-map f is world whole Step.Switch part =
    let bytes = moved_bytes world Step.Switch in
    ap (source_sends (world_under f world)) (while_up-map (source_sends_under f bytes) world.up (source.switch world.source) _ (from.switch-under f bytes world.source))
    ∙ sends-under f bytes world (while_up world.up (source.switch world.source))
answer-map f is world whole (Step.Deliver n) part =
    while_up-map (made_under f (moved_bytes world (Step.Deliver n))) world.up _ _
    (in_phase-map (made_under f (moved_bytes world (Step.Deliver n))) (has_started world) _ _
    (delivered-under f _ _ _ _ (forward_takes f is.keeps_zero world) world.forward.frames world.forward.held n whole.forward part))
answer-map f is world whole (Step.DeliverBack n) part =
    while_up-map (made_under f (moved_bytes world (Step.DeliverBack n))) world.up _ _
    (in_phase-map (made_under f (moved_bytes world (Step.DeliverBack n))) (has_started world) _ _
    (delivered-under f _ _ _ _ (back_takes f world) world.back.frames world.back.held n whole.back part))
answer-map f is world whole Step.DestRead part =
    let bytes = moved_bytes world Step.DestRead in
    ap (destination_acts (world_under f world)) (node.read-under f bytes world.destination) ∙ there_acts-under f bytes world (destination.read world.destination)
answer-map f is world whole Step.DestAct part =
    let bytes = moved_bytes world Step.DestAct in
    ap (destination_sends (world_under f world)) (node.act-under f is.keeps_zero bytes world.destination) ∙ there_sends-under f bytes world (destination.act world.destination)
answer-map f is world whole Step.Install part =
    let bytes = moved_bytes world Step.Install in
    ap (destination_acts (world_under f world)) (node.install-under f bytes world.destination) ∙ there_acts-under f bytes world (destination.install world.destination)
answer-map f is world whole (Step.Push ticket) part =
    let bytes = moved_bytes world (Step.Push ticket) in
    ap (source_sends (world_under f world)) (while_up-map (source_sends_under f bytes) world.up (source.push world.source ticket) _ (from.push-under f is.keeps_zero world.source ticket))
    ∙ sends-under f bytes world (while_up world.up (source.push world.source ticket))
answer-map f is world whole (Step.PushUrgent ticket) part =
    let bytes = moved_bytes world (Step.PushUrgent ticket) in
    ap (source_sends_urgently (world_under f world)) (while_up-map (source_sends_under f bytes) world.up (source.push_urgent world.source ticket) _ (from.push_urgent-under f is.keeps_zero world.source ticket))
    ∙ sends_urgently-under f bytes world (while_up world.up (source.push_urgent world.source ticket))
answer-map f is world whole (Step.DeliverUrgent n) part =
    while_up-map (made_under f (moved_bytes world (Step.DeliverUrgent n))) world.up _ _
    (in_phase-map (made_under f (moved_bytes world (Step.DeliverUrgent n))) world.destination.has_run _ _
    (delivered-under f _ _ _ _ (urgent_takes f is.keeps_zero world) world.urgent.frames world.urgent.held n whole.urgent part))
answer-map f is world whole Step.Serve part =
    let bytes = moved_bytes world Step.Serve in
    ap (source_acts (world_under f world)) (while_up-map (source_acted_under f bytes) world.up (source.serve world.source) _ (from.serve-under f bytes world.source))
    ∙ acts-under f bytes world (while_up world.up (source.serve world.source))
answer-map f is world whole Step.End part =
    let bytes = moved_bytes world Step.End in
    ap (source_sends (world_under f world)) (while_up-map (source_sends_under f bytes) world.up (source.end world.source) _ (from.end-under f bytes world.source))
    ∙ sends-under f bytes world (while_up world.up (source.end world.source))
answer-map f is world whole Step.Break part =
    while_up-map (made_under f (moved_bytes world Step.Break)) world.up (in_phase (is_under_way world.source) (made Effect.Broken (cut world))) _
    (in_phase-map (made_under f (moved_bytes world Step.Break)) (is_under_way world.source) (made Effect.Broken (cut world)) _ refl)
answer-map f is world whole (Step.Notice Side.Source) part =
    let bytes = moved_bytes world (Step.Notice Side.Source) in
    ap (source_acts (world_under f world)) (while_down-map (source_acted_under f bytes) world.up (source.pause world.source) _ (from.pause-under f bytes world.source))
    ∙ acts-under f bytes world (while_down world.up (source.pause world.source))
answer-map f is world whole (Step.Notice Side.Destination) part =
    let bytes = moved_bytes world (Step.Notice Side.Destination) in
    let step = in_phase (is_under_way world.source) (destination.pause world.destination) in
    ap (destination_acts (world_under f world)) (while_down-map (destination_acted_under f bytes) world.up step _ (in_phase-map (destination_acted_under f bytes) (is_under_way world.source) (destination.pause world.destination) _ (node.pause-under f bytes world.destination)))
    ∙ there_acts-under f bytes world (while_down world.up step)
answer-map f is world whole Step.Resume part =
    let bytes = moved_bytes world Step.Resume in
    let up : World = record world { up = true } in
    let step = in_phase (is_dest_paused world.destination.phase) (source.resume world.source) in
    ap (source_sends (world_under f up)) (while_down-map (source_sends_under f bytes) world.up step _ (in_phase-map (source_sends_under f bytes) (is_dest_paused world.destination.phase) (source.resume world.source) _ (from.resume-under f bytes world.source)))
    ∙ sends-under f bytes up (while_down world.up step)

same_answer : (f : ℕ → ℕ) (world : World) (step : Step) (answer : Answer) → map_ok (made_under f (moved_bytes world step)) answer ≡ answer_under f world step answer
same_answer f world step (Ok made) = refl
same_answer f world step (Err refusal) = refl

pub answer-under : (f : ℕ → ℕ) → IsByteMap f → (world : World) → HasWholePages world → (step : Step) → IsAlike f world step →
    answer (world_under f world) (step_under f step) ≡ answer_under f world step (answer world step)
answer-under f is world whole step part = answer-map f is world whole step part ∙ same_answer f world step (answer world step)
