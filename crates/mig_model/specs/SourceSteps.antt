-- The steps of the source. The sentence above a step names its refusals in the order in which they are tested; the first that applies
-- is given. Whether the link is up is asked by the world, after Phase and before the other refusals.
use Rattle.std.specs.Prelude.{ℕ, ◌+◌, ◌*◌, ◌==◌, ◌&&◌, ◌||◌, not, is_some, ok_or, if◌then◌else◌, Result, [], ◌∷◌}
use Rattle.std.specs.FinSet as finset
use Rattle.std.specs.FinSet.{contains}
use Rattle.foundation.specs.Ranges.{lesser}
use Rattle.mig_base.specs.Sets.{run_length}
use Rattle.mig_base.specs.Acts.{act_effect}
use Rattle.foundation.specs.declared.TheConstants.{PAGE_SIZE}
use Rattle.mig_base.specs.declared.TheConstants.{MAX_RUN}
use Rattle.mig_base.specs.declared.effect.Effect.{Effect}
use Rattle.mig_base.specs.declared.refusal.Refusal.{Refusal}
use Rattle.mig_base.specs.declared.schedule.Side.{Side}
use Rattle.mig_base.specs.declared.schedule.Ticket.{Ticket}
use Rattle.mig_model.specs.Effects.{frame_effect, page_effect, read_effect}
use Rattle.mig_model.specs.Guest.{is_changing, is_present}
use Rattle.mig_model.specs.GuestSteps.{when_quiet}
use Rattle.mig_model.specs.Log.{least_of, less}
use Rattle.mig_model.specs.NodeSteps.{Acted, Sends, acted, and_then, first_of, in_phase, is_used, rest_of, sent, unless}
use Rattle.mig_model.specs.Source.{Source, bytes_of, end_sent, is_handling, is_precopy, is_source_idle, is_source_paused, is_stopped, is_under_way, not_clean, page_pushed, page_sent, request_served, resumed, round_made, run_of, run_sent, source_act, source_acted, source_answers, source_paused, source_read, source_started, source_took, space_of, switch_frames, switch_made, urgent_pushed}
use Rattle.mig_base.specs.Userfault.{next_message}
use Rattle.mig_model.specs.Wire.{Frame, page_frame}
use Rattle.mig_model.specs.Wire.Frame.{Advise, Run, End, Resume}

-- Pre-copy

-- Start: refused as Phase if a migration has started, CountUsed if no epoch is left. Every mapped page is registered in both modes, and
-- Advise is sent in the next epoch
abbrev pub start : Source → Result (Sends Source) Refusal
start node =
    unless ((not (is_source_idle node.phase), Refusal.Phase) ∷ (is_used node.epoch, Refusal.CountUsed) ∷ [])
    (sent (Effect.Started (node.epoch + 1)) (Advise ∷ []) (source_started node))

-- Round: refused as Phase unless the source is in pre-copy, Changing while it has unread events, CountUsed if no number is left for it.
-- New pages are registered, and the present pages that are not clean are to be sent. The effect says its number and how many they are
abbrev pub round : Source → Result (Acted Source) Refusal
round node =
    unless
    ((not (is_precopy node.phase), Refusal.Phase) ∷ (is_changing node.guest, Refusal.Changing)
    ∷ (is_used node.rounds, Refusal.CountUsed) ∷ [])
    (acted (Effect.RoundMade (node.rounds + 1) (finset.len (not_clean node))) (round_made node))

-- the least page of the round, from which Send and SendRun continue: refused as Phase unless the source is in pre-copy, NothingThere if
-- the round is done, Changing while the source has unread events
abbrev pub next_to_send : Source → Result ℕ Refusal
next_to_send node = in_phase (is_precopy node.phase) (when_quiet node.guest (least_of node.log.todo))

-- Send: the least page of the round is write-protected, then read and sent in a frame Page or Zero, and is clean
abbrev pub send : Source → Result (Sends Source) Refusal
send node =
    and_then (next_to_send node) (λ page.
    sent (page_effect page (bytes_of node page)) (page_frame page (bytes_of node page) ∷ []) (page_sent node page))

-- how many pages a run may have: `count`, but at least 1 and at most MAX_RUN
abbrev pub run_bound : ℕ → ℕ
run_bound count = if count == 0 then 1 else lesser count MAX_RUN

-- `count` pages from the first on are write-protected, then read and sent in one frame Run, and are clean
abbrev pub send_pages : Source → ℕ → ℕ → Result (Sends Source) Refusal
send_pages node first count =
    sent (Effect.SentRun (PAGE_SIZE * first) count) (Run first (run_of node first count) ∷ []) (run_sent node first count)

-- SendRun: the least page of the round is sent, with those that follow it in the round without a gap, up to the bound
abbrev pub send_run : Source → ℕ → Result (Sends Source) Refusal
send_run node count = and_then (next_to_send node) (λ first. send_pages node first (run_length node.log.todo first (run_bound count)))

-- The handler

-- SourceRead: refused as Phase unless the source runs the processors in a migration, NothingThere if no message waits. A fault is held,
-- and pages that an event changed are neither clean nor to be sent
abbrev pub read : Source → Result (Acted Source) Refusal
read node =
    in_phase (is_handling node)
    (and_then (ok_or (next_message (space_of node).object) Refusal.NothingThere) (λ noted.
    acted (read_effect node.guest.cpus noted.cpu noted.message) (source_read node noted)))

-- SourceAct: refused as Phase unless the source runs the processors in a migration, NothingThere if no fault is held, Changing while
-- the source has unread events. The first held fault is resolved, and no longer held
abbrev pub act : Source → Result (Acted Source) Refusal
act node =
    in_phase (is_handling node)
    (and_then (when_quiet node.guest (first_of node.log.held)) (λ fault.
    acted (act_effect (source_act node fault) (PAGE_SIZE * fault.page)) (source_acted node fault)))

-- Post-copy

-- Switch: refused as Phase unless the source is in pre-copy, Changing while it has unread events. The processors have stopped for good,
-- and Discard and Package are sent. The effect says how many pages are discarded and how many are owed
abbrev pub switch : Source → Result (Sends Source) Refusal
switch node =
    unless ((not (is_precopy node.phase), Refusal.Phase) ∷ (is_changing node.guest, Refusal.Changing) ∷ [])
    (sent (Effect.Switched (finset.len (less node.log.sent node.log.clean)) (finset.len (not_clean node))) (switch_frames node)
    (switch_made node))

-- the page of a ticket is sent in a frame Page or Zero, and leaves this source: refused as Phase unless the source is stopped,
-- StaleEpoch for a ticket of another epoch, PageNotSendable if the source does not have the page, NotRemaining if it is not owed or was
-- pushed in this epoch
abbrev pub push_page : Source → Ticket → Source → Result (Sends Source) Refusal
push_page node ticket new =
    unless
    ((not (is_stopped node.phase), Refusal.Phase) ∷ (not (ticket.epoch == node.epoch), Refusal.StaleEpoch)
    ∷ (not (is_present (space_of node) ticket.page), Refusal.PageNotSendable)
    ∷ (not (contains node.remaining ticket.page), Refusal.NotRemaining) ∷ [])
    (sent (page_effect ticket.page (bytes_of node ticket.page)) (page_frame ticket.page (bytes_of node ticket.page) ∷ []) new)

-- Push: the page no longer remains
abbrev pub push : Source → Ticket → Result (Sends Source) Refusal
push node ticket = push_page node ticket (page_pushed node ticket.page)

-- PushUrgent: the same on the urgent wire. The source counts the frame, so that its End can announce it
abbrev pub push_urgent : Source → Ticket → Result (Sends Source) Refusal
push_urgent node ticket = push_page node ticket (urgent_pushed node ticket.page)

-- Serve: refused as Phase unless the source is stopped, NothingThere if no page is asked for. The oldest request leaves the queue, and
-- the effect says its page; nothing is sent
abbrev pub serve : Source → Result (Acted Source) Refusal
serve node =
    in_phase (is_stopped node.phase)
    (and_then (ok_or (first_of node.asked) Refusal.NothingThere) (λ page.
    acted (Effect.Asked (PAGE_SIZE * page)) (request_served node (rest_of node.asked))))

-- End: refused as Phase unless the source is stopped and has not sent End in this epoch, PagesLeft while a page remains to be pushed.
-- It announces the number of frames that were put on the urgent wire in this epoch
abbrev pub end : Source → Result (Sends Source) Refusal
end node =
    unless
    ((not (is_stopped node.phase) || node.end_epoch == node.epoch, Refusal.Phase)
    ∷ (is_some (least_of node.remaining), Refusal.PagesLeft) ∷ [])
    (sent Effect.EndSent (End node.urgent_sent ∷ []) (end_sent node))

-- The wire back

-- a frame of the wire back is taken, and answered
abbrev pub take : Source → Frame → Result (Sends Source) Refusal
take node frame = sent (frame_effect frame) (source_answers node frame) (source_took node frame)

-- A broken channel

-- Notice at the source: refused as Phase unless a migration is under way, and if the source is paused already
abbrev pub pause : Source → Result (Acted Source) Refusal
pause node = in_phase (is_under_way node && not (is_source_paused node.phase)) (acted (Effect.Noticed Side.Source) (source_paused node))

-- Resume: refused as Phase unless the source is paused, CountUsed if no epoch is left. Resume is sent in the next epoch
abbrev pub resume : Source → Result (Sends Source) Refusal
resume node =
    unless ((not (is_source_paused node.phase), Refusal.Phase) ∷ (is_used node.epoch, Refusal.CountUsed) ∷ [])
    (sent (Effect.Resumed (node.epoch + 1)) (Resume ∷ []) (resumed node))
