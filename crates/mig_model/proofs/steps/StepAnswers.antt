-- Where nothing refuses a step, what it answers: an equation for each step that leads to the completion of a migration.
use Rattle.std.proofs.Common.{◌≡◌, ℕ, ◌+◌, ◌&&◌, ◌||◌, Bool, true, false, not, eqb, Some, None, is_some, List, ◌∷◌, ap, ◌∙◌}
use Rattle.std.specs.Prelude.{ok_or}
use Rattle.std.specs.FinSet as finset
use Rattle.std.specs.FinSet.{contains}
use Rattle.foundation.specs.Tests.{is_empty}
use Rattle.mig_base.specs.declared.effect.Effect.{Effect}
use Rattle.mig_base.specs.declared.refusal.Refusal.{Refusal}
use Rattle.mig_base.specs.declared.schedule.Side.{Side}
use Rattle.mig_base.specs.declared.schedule.Step.{Step}
use Rattle.mig_model.specs.Destination.{install_by, is_dest_paused}
use Rattle.mig_model.specs.Effects.{frame_effect, install_effect, page_effect, read_effect}
use Rattle.mig_model.specs.Faults.{is_early, is_end}
use Rattle.mig_model.specs.Guest.{is_changing, is_present}
use Rattle.mig_model.specs.Log.{least_of, less}
use Rattle.mig_model.specs.Migration.{World, answer, destination_acts, destination_sends, is_short, made, source_acts, source_sends}
use Rattle.mig_model.specs.NodeSteps.{acted, first_of, is_used, rest_of}
use Rattle.mig_model.specs.Owed.{home}
use Rattle.mig_model.specs.Source.{bytes_of, is_handling, is_precopy, is_released, is_source_idle, is_source_paused, is_stopped, is_under_way, not_clean, space_of}
use Rattle.mig_model.specs.SourceSteps as source
use Rattle.mig_base.specs.Userfault.{Noted, next_message}
use Rattle.mig_model.specs.Wire.{Copy, Sent, wire_behind}
use Rattle.mig_model.proofs.memory.Facts.{eqb-self}
use Rattle.mig_model.proofs.steps.StepLemmas.{delivers, delivers_back, delivers_urgent, goes_on, in-phase, is-down, is-quiet, is-up, not_refused}
use Rattle.mig_model.proofs.steps.StepWorlds.{after_deliver, after_deliver_back, after_deliver_urgent, after_dest_read, after_end, after_install, after_notice, after_push, after_resume, after_source_read, after_start, after_switch}

-- The source

pub answers-start : (world : World) → is_source_idle world.source.phase ≡ true → is_used world.source.epoch ≡ false → answer world Step.Start ≡ made (Effect.Started (world.source.epoch + 1)) (after_start world)
answers-start world idle free = ap (source_sends world) (not_refused _ _ (ap not idle, (free, tt)))

pub answers-source_read : (world : World) (noted : Noted) → is_source_idle world.source.phase ≡ false → world.source.switched ≡ false → next_message (space_of world.source).object ≡ Some noted →
    answer world Step.SourceRead ≡ made (read_effect world.source.guest.cpus noted.cpu noted.message) (after_source_read world noted)
answers-source_read world noted started unswitched is =
    ap (source_acts world)
    (in-phase (is_handling world.source) _ (ap (λ b. not b && not world.source.switched) started ∙ ap not unswitched) ∙ goes_on _ noted _ (ap (λ o. ok_or o Refusal.NothingThere) is))

pub answers-switch : (world : World) → is_precopy world.source.phase ≡ true → world.up ≡ true → is_changing world.source.guest ≡ false →
    answer world Step.Switch ≡ made (Effect.Switched (finset.len (less world.source.log.sent world.source.log.clean)) (finset.len (not_clean world.source))) (after_switch world)
answers-switch world precopy up quiet = ap (source_sends world) (is-up world.up (source.switch world.source) up ∙ not_refused _ _ (ap not precopy, (quiet, tt)))

pub answers-push : (world : World) (page : ℕ) → is_stopped world.source.phase ≡ true → world.up ≡ true → is_present (space_of world.source) page ≡ true → contains world.source.remaining page ≡ true →
    answer world (Step.Push (record { epoch = world.source.epoch; page = page })) ≡ made (page_effect page (bytes_of world.source page)) (after_push world page)
answers-push world page stopped up present remains =
    ap (source_sends world)
    (is-up world.up (source.push world.source (record { epoch = world.source.epoch; page = page })) up
    ∙ not_refused _ _ (ap not stopped, (ap not (eqb-self world.source.epoch), (ap not present, (ap not remains, tt)))))

pub answers-end : (world : World) → is_stopped world.source.phase ≡ true → world.up ≡ true → eqb world.source.end_epoch world.source.epoch ≡ false → least_of world.source.remaining ≡ None → answer world Step.End ≡ made Effect.EndSent (after_end world)
answers-end world stopped up other none =
    ap (source_sends world)
    (is-up world.up (source.end world.source) up ∙ not_refused _ _ (ap (λ b. not b || eqb world.source.end_epoch world.source.epoch) stopped ∙ other, (ap is_some none, tt)))

-- Deliveries of bytes that complete the first frame

pub answers-deliver : (world : World) (n : ℕ) (sent : Sent) (rest : List Sent) → world.forward.frames ≡ sent ∷ rest → is_short world.forward sent.frame n ≡ false → is_source_idle world.source.phase ≡ false → world.up ≡ true →
    (is_end sent.frame && not (is_empty world.destination.arrivals)) ≡ false → is_early world.destination sent.frame ≡ false → answer world (Step.Deliver n) ≡ made (frame_effect sent.frame) (after_deliver world sent rest)
answers-deliver world n sent rest first full started up free came =
    delivers world n sent rest false (ap not started) up first full
    ∙ ap (destination_sends (record world { forward = wire_behind rest })) (not_refused _ _ (free, (came, tt)))

pub answers-deliver_back : (world : World) (n : ℕ) (sent : Sent) (rest : List Sent) → world.back.frames ≡ sent ∷ rest → is_short world.back sent.frame n ≡ false → is_source_idle world.source.phase ≡ false → world.up ≡ true →
    answer world (Step.DeliverBack n) ≡ made (frame_effect sent.frame) (after_deliver_back world sent rest)
answers-deliver_back world n sent rest first full started up = delivers_back world n sent rest false (ap not started) up first full

pub answers-deliver_urgent : (world : World) (n : ℕ) (sent : Sent) (rest : List Sent) → world.urgent.frames ≡ sent ∷ rest → is_short world.urgent sent.frame n ≡ false → world.destination.has_run ≡ true → world.up ≡ true →
    answer world (Step.DeliverUrgent n) ≡ made (frame_effect sent.frame) (after_deliver_urgent world sent rest)
answers-deliver_urgent world n sent rest first full ran up = delivers_urgent world n sent rest false ran up first full

-- The destination

pub answers-dest_read : (world : World) (noted : Noted) → world.destination.has_run ≡ true → next_message world.destination.guest.space.object ≡ Some noted →
    answer world Step.DestRead ≡ made (read_effect world.destination.guest.cpus noted.cpu noted.message) (after_dest_read world noted)
answers-dest_read world noted ran is = ap (destination_acts world) (in-phase world.destination.has_run _ ran ∙ goes_on _ noted _ (ap (λ o. ok_or o Refusal.NothingThere) is))

pub answers-install : (world : World) (copy : Copy) (rest : List Copy) → world.destination.has_run ≡ true → world.destination.arrivals ≡ copy ∷ rest → is_changing world.destination.guest ≡ false →
    answer world Step.Install ≡ made (install_effect (home world.destination.owed copy.page) copy.page) (after_install world copy rest)
answers-install world copy rest ran first quiet =
    ap (destination_acts world)
    (in-phase world.destination.has_run _ ran ∙ goes_on _ copy _ (is-quiet world.destination.guest _ copy (ap first_of first) quiet)
    ∙ ap (λ (copies : List Copy). acted (install_effect (home world.destination.owed copy.page) copy.page) (install_by (home world.destination.owed copy.page) world.destination copy (rest_of copies))) first)

-- The channel

-- whether a side is paused
abbrev pub is_paused_at : World → Side → Bool
is_paused_at world Side.Source = is_source_paused world.source.phase
is_paused_at world Side.Destination = is_dest_paused world.destination.phase

notices : (world : World) (side : Side) → is_under_way world.source ≡ true → is_paused_at world side ≡ false → world.up ≡ false → answer world (Step.Notice side) ≡ made (Effect.Noticed side) (after_notice world side)
notices world Side.Source going unpaused down =
    ap (source_acts world)
    (is-down world.up _ down
    ∙ in-phase (is_under_way world.source && not (is_source_paused world.source.phase)) _ (ap (λ b. b && not (is_source_paused world.source.phase)) going ∙ ap not unpaused))
notices world Side.Destination going unpaused down =
    ap (destination_acts world) (is-down world.up _ down ∙ in-phase (is_under_way world.source) _ going ∙ in-phase (not (is_dest_paused world.destination.phase)) _ (ap not unpaused))

pub answers-notice : (world : World) (side : Side) → is_source_idle world.source.phase ≡ false → is_released world.source.phase ≡ false → is_paused_at world side ≡ false → world.up ≡ false →
    answer world (Step.Notice side) ≡ made (Effect.Noticed side) (after_notice world side)
answers-notice world side started going unpaused down = notices world side (ap (λ b. not b && not (is_released world.source.phase)) started ∙ ap not going) unpaused down

pub answers-resume : (world : World) → is_source_paused world.source.phase ≡ true → is_dest_paused world.destination.phase ≡ true → world.up ≡ false → is_used world.source.epoch ≡ false →
    answer world Step.Resume ≡ made (Effect.Resumed (world.source.epoch + 1)) (after_resume world)
answers-resume world from to down free =
    ap (source_sends (record world { up = true })) (is-down world.up _ down ∙ in-phase (is_dest_paused world.destination.phase) _ to ∙ not_refused _ _ (ap not from, (free, tt)))
