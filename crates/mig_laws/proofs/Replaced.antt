-- Where another destination takes the place of one that has not run, what happens is what could have happened to two processes of which
-- neither was replaced.
use Rattle.std.proofs.Common.{◌≡◌, inl, inr, ℕ, Bool, true, false, List, [], ◌∷◌, ◌++◌, if◌then◌else◌, append_assoc, refl, sym, ap, subst, ◌∙◌}
use Rattle.std.specs.Prelude.{Ok}
use Rattle.std.specs.FinMap as finmap
use Rattle.std.proofs.lemmas.Bool.{false≢true}
use Rattle.std.proofs.lemmas.List.{append-nil}
use Rattle.mig_base.specs.declared.phase.DestPhase.{DestPhase}
use Rattle.mig_base.specs.declared.phase.Received.{Received}
use Rattle.mig_base.specs.declared.refusal.Refusal.{Refusal}
use Rattle.mig_base.specs.declared.schedule.Side.{Side}
use Rattle.mig_base.specs.declared.schedule.Step.{Step}
use Rattle.mig_model.specs.Destination.{Destination, destination_took, first_destination, is_dest_paused}
use Rattle.mig_model.specs.DestinationSteps as destination
use Rattle.mig_model.specs.Log.{no_pages}
use Rattle.mig_model.specs.Source.{Source, is_stopped}
use Rattle.mig_model.specs.SourceSteps as source
use Rattle.mig_model.specs.Wire.{Frame, Sent, sending, sending_if}
use Rattle.mig_model.specs.Wire.Frame.{Advise, Page, Zero, Run, Discard, Package, End, Resume, Request, Recv, Done}
use Rattle.mig_model.proofs.steps.StepLemmas.{holds-unless}
use Rattle.mig_laws.specs.Orders.{TakesFront, destination_may, is_alone}
use Rattle.mig_laws.specs.Processes.{AreEvents, Channel, Event, IsEvent, IsHere, IsOpening, IsThere, Processes, first_processes, last_of, log_there, logged_there, put_first, put_later}
use Rattle.mig_laws.specs.Replacements.{not_run, resume_of}
use Rattle.mig_laws.specs.Sides.{Did, Line, destination_after, destination_entries, destination_line, entries_by, node_by, sends, source_line}
use Rattle.mig_laws.proofs.BeforeSwitch.{Come, is_quiet, line-before, takes_quiet}
use Rattle.mig_laws.proofs.AcceptedSteps.{ok-holds, sending_if-first}
use Rattle.mig_laws.proofs.NotRun.{AnswersNotRun, Copies, IsNotRun, comes_before_run, is_before_run, line-not_run}
use Rattle.mig_laws.proofs.OrderRuns.{issue-runs, never, over_map, retry-runs}

-- Frames in flight

abbrev pub AllCome : List Sent → Type 0
AllCome [] = Unit {0}
AllCome (sent ∷ rest) = (comes_before_run sent.frame ≡ true) × AllCome rest

abbrev pub AllQuiet : List Sent → Type 0
AllQuiet [] = Unit {0}
AllQuiet (sent ∷ rest) = (is_quiet sent.frame ≡ true) × AllQuiet rest

come-one : (flight : List Sent) (sent : Sent) → AllCome flight → comes_before_run sent.frame ≡ true → AllCome (flight ++ sent ∷ [])
come-one [] sent all one = (one, tt)
come-one (first ∷ flight) sent all one = (all.0, come-one flight sent all.1 one)

come-sending : (flight : List Sent) (epoch : ℕ) (frames : List Frame) → AllCome flight → Come frames → AllCome (sending flight epoch frames)
come-sending flight epoch [] all new = all
come-sending flight epoch (frame ∷ frames) all new =
    let one : Sent = record { epoch = epoch; frame = frame } in
    come-sending (flight ++ one ∷ []) epoch frames (come-one flight one all new.0) new.1

come-sending_if : (up : Bool) (flight : List Sent) (epoch : ℕ) (frames : List Frame) → AllCome flight → Come frames → AllCome (sending_if up flight epoch frames)
come-sending_if true flight epoch frames all new = come-sending flight epoch frames all new
come-sending_if false flight epoch frames all new = all

quiet-one : (flight : List Sent) (sent : Sent) → AllQuiet flight → is_quiet sent.frame ≡ true → AllQuiet (flight ++ sent ∷ [])
quiet-one [] sent all one = (one, tt)
quiet-one (first ∷ flight) sent all one = (all.0, quiet-one flight sent all.1 one)

quiet-answers : (flight : List Sent) (epoch : ℕ) (frames : List Frame) → AllQuiet flight → AnswersNotRun frames → AllQuiet (sending flight epoch frames)
quiet-answers flight epoch frames all (inl none) = subst (λ more. AllQuiet (sending flight epoch more)) (sym none) all
quiet-answers flight epoch frames all (inr one) =
    subst (λ more. AllQuiet (sending flight epoch more)) (sym one) (quiet-one flight (record { epoch = epoch; frame = Recv Received.NotRun no_pages }) all refl)

quiet-sending_if : (up : Bool) (flight : List Sent) (epoch : ℕ) (frames : List Frame) → AllQuiet flight → AnswersNotRun frames → AllQuiet (sending_if up flight epoch frames)
quiet-sending_if true flight epoch frames all new = quiet-answers flight epoch frames all new
quiet-sending_if false flight epoch frames all new = all

front-quiet : (line : Line) (flight rest : List Sent) → TakesFront line flight rest → AllQuiet flight → (takes_quiet line ≡ true) × AllQuiet rest
front-quiet (Line.Took sent) flight rest takes all = subst AllQuiet takes all
front-quiet (Line.Made step) flight rest takes all = (refl, subst AllQuiet (sym takes) all)
front-quiet (Line.TookUrgent sent) flight rest takes all = (refl, subst AllQuiet (sym takes) all)

front-come : (line : Line) (flight rest : List Sent) → TakesFront line flight rest → AllCome flight → (is_before_run line ≡ true) × AllCome rest
front-come (Line.Took sent) flight rest takes all = subst AllCome takes all
front-come (Line.Made step) flight rest takes all = (refl, subst AllCome (sym takes) all)
front-come (Line.TookUrgent sent) flight rest takes all = (refl, subst AllCome (sym takes) all)

-- a Resume is the first of them
abbrev pub HasResume : List Sent → Type 0
HasResume flight = (epoch : ℕ) × (rest : List Sent) × (flight ≡ resume_of epoch ∷ rest)

resume-sending_if : (up : Bool) (flight : List Sent) (epoch : ℕ) (frames : List Frame) → HasResume flight → HasResume (sending_if up flight epoch frames)
resume-sending_if up flight epoch frames (at, rest, is) = (at, sending_if up rest epoch frames, ap (λ f. sending_if up f epoch frames) is ∙ sending_if-first up (resume_of at) rest epoch frames)

-- Channels

-- a channel on which no Package and no End is in flight, and no Recv of a destination that runs
pub record IsCalm (channel : Channel) : Type 0 where
  come : AllCome channel.forward
  quiet : AllQuiet channel.back

-- one that the destination has not used yet
pub record IsOpened (channel : Channel) : Type 0 where
  calm : IsCalm channel
  resume : HasResume channel.forward

abbrev pub AllOpened : List Channel → Type 0
AllOpened [] = Unit {0}
AllOpened (channel ∷ later) = IsOpened channel × AllOpened later

last-calm : (first : Channel) (later : List Channel) → IsCalm first → AllOpened later → IsCalm (last_of first later)
last-calm first [] calm opened = calm
last-calm first (channel ∷ later) calm opened = last-calm channel later opened.0.calm opened.1

put_first-calm : (first : Channel) (later : List Channel) (new : Channel) → IsCalm first → IsCalm new → IsCalm (put_first first later new)
put_first-calm first [] new calm also = also
put_first-calm first (channel ∷ later) new calm also = calm

put_first-resume : (first : Channel) (later : List Channel) (new : Channel) → HasResume first.forward → (HasResume (last_of first later).forward → HasResume new.forward) → HasResume (put_first first later new).forward
put_first-resume first [] new resume kept = kept resume
put_first-resume first (channel ∷ later) new resume kept = resume

put_later-opened : (first : Channel) (later : List Channel) (new : Channel) → IsCalm new → (HasResume (last_of first later).forward → HasResume new.forward) → AllOpened later → AllOpened (put_later later new)
put_later-opened first [] new calm kept opened = tt
put_later-opened first (channel ∷ later) new calm kept opened =
    (record { calm = put_first-calm channel later new opened.0.calm calm; resume = put_first-resume channel later new opened.0.resume kept }, put_later-opened channel later new calm kept opened.1)

opened-one : (later : List Channel) (new : Channel) → AllOpened later → IsOpened new → AllOpened (later ++ new ∷ [])
opened-one [] new opened one = (one, tt)
opened-one (channel ∷ later) new opened one = (opened.0, opened-one later new opened.1 one)

-- Logs

pub after-append : (node : Destination) (lines more : List Line) → destination_after node (lines ++ more) ≡ destination_after (destination_after node lines) more
after-append node [] more = refl
after-append node (line ∷ lines) more = after-append (node_by node (destination_line node line)) lines more

pub entries-append : (node : Destination) (lines more : List Line) → destination_entries node (lines ++ more) ≡ destination_entries node lines ++ destination_entries (destination_after node lines) more
entries-append node [] more = refl
entries-append node (line ∷ lines) more =
    let next = node_by node (destination_line node line) in
    ap (λ entries. entries_by (destination_line node line) ++ entries) (entries-append next lines more)
    ∙ sym (append_assoc (entries_by (destination_line node line)) (destination_entries next lines) (destination_entries (destination_after next lines) more))

abbrev pub notice : Line
notice = Line.Made (Step.Notice Side.Destination)

-- What holds before the source has switched

abbrev pub EndsNoticed : List Line → Type 0
EndsNoticed log = (lines : List Line) × (log ≡ lines ++ notice ∷ [])

-- by the log of the destination's side
pub record IsBefore (cpus : ℕ) (log : List Line) (now : Processes) : Type 0 where
  pub running : is_stopped now.source.phase ≡ false
  pub first : IsCalm now.first
  pub later : AllOpened now.later
  pub is_not_run : IsNotRun cpus now.destination
  pub at : now.destination ≡ destination_after (first_destination cpus) log
  pub silent : destination_entries (first_destination cpus) log ≡ []
  pub resume : now.there ≡ true → is_dest_paused now.destination.phase ≡ true → HasResume now.first.forward
  pub noticed : is_dest_paused now.destination.phase ≡ true → EndsNoticed log

abbrev pub StillBefore : ℕ → List Line → Processes → Type 0
StillBefore cpus log now = now.source.switched ≡ false → IsBefore cpus log now

pub first-before : (cpus epoch rounds : ℕ) → StillBefore cpus [] (first_processes cpus epoch rounds)
first-before cpus epoch rounds off =
    record {
      running = refl;
      first = record { come = tt; quiet = tt };
      later = tt;
      is_not_run = (DestPhase.Idle, 0, finmap.empty, refl);
      at = refl;
      silent = refl;
      resume = λ there paused. absurd (false≢true paused);
      noticed = λ paused. absurd (false≢true paused);
    }

here-before : (cpus : ℕ) (log : List Line) (old : Processes) (line : Line) (new : Processes) → IsHere old line new → StillBefore cpus log old → StillBefore cpus log new
here-before cpus log old line new is still =
    subst (StillBefore cpus log) (sym is.2.is) (λ off.
    let last = last_of old.first old.later in
    let stays = line-before old.source line is.0 is.1 off in
    let before = still stays.0 in
    let calm = last-calm old.first old.later before.first before.later in
    let front = front-quiet line last.back is.2.back is.2.takes calm.quiet in
    let sent = stays.1 before.running front.0 in
    let puts : IsCalm is.2.channel = subst IsCalm (sym is.2.puts) (record { come = come-sending_if old.here last.forward is.0.node.epoch is.0.frames calm.come sent.1; quiet = front.1 }) in
    let kept : (HasResume last.forward → HasResume is.2.channel.forward) = λ resume. subst (λ (c : Channel). HasResume c.forward) (sym is.2.puts) (resume-sending_if old.here last.forward is.0.node.epoch is.0.frames resume) in
    record {
      running = sent.0;
      first = put_first-calm old.first old.later is.2.channel before.first puts;
      later = put_later-opened old.first old.later is.2.channel puts kept before.later;
      is_not_run = before.is_not_run;
      at = before.at;
      silent = before.silent;
      resume = λ there paused. put_first-resume old.first old.later is.2.channel (before.resume there paused) kept;
      noticed = before.noticed;
    })

pub resume-sent : (node : Source) (did : Did Source) → source_line node (Line.Made Step.Resume) ≡ Ok did → did.frames ≡ Resume ∷ []
resume-sent node did gives = ok-holds (λ (d : Did Source). d.frames ≡ Resume ∷ []) (sends (source.resume node)) did (over_map _ _ (source.resume node) (holds-unless _ _ _ (λ none. refl))) gives

opens-before : (cpus : ℕ) (log : List Line) (old new : Processes) → IsOpening old new → StillBefore cpus log old → StillBefore cpus log new
opens-before cpus log old new is still =
    subst (StillBefore cpus log) (sym is.is) (λ off.
    let stays = line-before old.source (Line.Made Step.Resume) is.did is.gives off in
    let before = still stays.0 in
    let sent = stays.1 before.running refl in
    let epoch = is.did.node.epoch in
    let channel : Channel = record { forward = sending [] epoch is.did.frames; back = []; urgent = sending [] epoch is.did.urgent } in
    let opened : IsOpened channel = record { calm = record { come = come-sending [] epoch is.did.frames tt sent.1; quiet = tt }; resume = (epoch, [], ap (λ frames. sending [] epoch frames) (resume-sent old.source is.did is.gives)) } in
    record {
      running = sent.0;
      first = before.first;
      later = opened-one old.later channel before.later opened;
      is_not_run = before.is_not_run;
      at = before.at;
      silent = before.silent;
      resume = before.resume;
      noticed = before.noticed;
    })

-- A line of the destination

took-node : (node : Destination) (sent : Sent) (did : Did Destination) → destination_line node (Line.Took sent) ≡ Ok did → did.node ≡ destination_took node sent.epoch sent.frame
took-node node sent did gives =
    ok-holds (λ (d : Did Destination). d.node ≡ destination_took node sent.epoch sent.frame) (sends (destination.take node sent.epoch sent.frame)) did
    (over_map _ _ (destination.take node sent.epoch sent.frame) (holds-unless _ _ _ (λ none. refl))) gives

abbrev is_resume_frame : Frame → Bool
is_resume_frame Resume = true
is_resume_frame frame = false

took-paused : (cpus : ℕ) (phase : DestPhase) (epoch : ℕ) (kept : Copies) (at : ℕ) (frame : Frame) → is_dest_paused (destination_took (not_run cpus phase epoch kept) at frame).phase ≡ true →
    (is_dest_paused phase ≡ true) × (is_resume_frame frame ≡ false)
took-paused cpus phase epoch kept at Advise paused = absurd (false≢true paused)
took-paused cpus phase epoch kept at (Page page bytes) paused = (paused, refl)
took-paused cpus phase epoch kept at (Zero page) paused = (paused, refl)
took-paused cpus phase epoch kept at (Run first pages) paused = (paused, refl)
took-paused cpus phase epoch kept at (Discard pages) paused = absurd (false≢true paused)
took-paused cpus phase epoch kept at (Package areas owed commands) paused = absurd (false≢true paused)
took-paused cpus phase epoch kept at (End urgent) paused = absurd (false≢true paused)
took-paused cpus phase epoch kept at Resume paused = absurd (false≢true paused)
took-paused cpus phase epoch kept at (Request page) paused = (paused, refl)
took-paused cpus phase epoch kept at (Recv state owed) paused = (paused, refl)
took-paused cpus phase epoch kept at Done paused = (paused, refl)

abbrev first-resume : List Sent → Bool
first-resume [] = true
first-resume (sent ∷ rest) = is_resume_frame sent.frame

first-is : (sent : Sent) (rest flight : List Sent) → flight ≡ sent ∷ rest → HasResume flight → is_resume_frame sent.frame ≡ true
first-is sent rest flight takes (at, more, is) = ap first-resume (sym takes ∙ is)

-- a destination that has not run is paused after a line by its notice alone
paused-by : (cpus : ℕ) (phase : DestPhase) (epoch : ℕ) (kept : Copies) (reads : Bool) (line : Line) (did : Did Destination) (flight rest : List Sent) → (if reads then destination_may true line else is_alone line) ≡ true →
    destination_line (not_run cpus phase epoch kept) line ≡ Ok did → TakesFront line flight rest → (reads ≡ true → is_dest_paused phase ≡ true → HasResume flight) → is_dest_paused did.node.phase ≡ true → (reads ≡ false) × (line ≡ notice)
paused-by cpus phase epoch kept true (Line.Took sent) did flight rest may gives takes resume paused =
    let was = took-paused cpus phase epoch kept sent.epoch sent.frame (ap (λ (n : Destination). is_dest_paused n.phase) (sym (took-node (not_run cpus phase epoch kept) sent did gives)) ∙ paused) in
    absurd (false≢true (sym was.1 ∙ first-is sent rest flight takes (resume refl was.0)))
paused-by cpus phase epoch kept false (Line.Took sent) did flight rest may gives takes resume paused = absurd (false≢true may)
paused-by cpus phase epoch kept reads (Line.TookUrgent sent) did flight rest may gives takes resume paused = absurd (never Refusal.Phase did gives)
paused-by cpus phase epoch kept reads (Line.Made (Step.Issue cpu command)) did flight rest may gives takes resume paused =
    absurd (false≢true (issue-runs _ (not_run cpus phase epoch kept).guest false cpu command did gives))
paused-by cpus phase epoch kept reads (Line.Made (Step.Retry cpu)) did flight rest may gives takes resume paused =
    absurd (false≢true (retry-runs _ (not_run cpus phase epoch kept).guest false cpu did gives))
paused-by cpus phase epoch kept true (Line.Made (Step.Notice Side.Destination)) did flight rest may gives takes resume paused = absurd (false≢true may)
paused-by cpus phase epoch kept false (Line.Made (Step.Notice Side.Destination)) did flight rest may gives takes resume paused = (refl, refl)
paused-by cpus phase epoch kept reads (Line.Made _) did flight rest may gives takes resume paused = absurd (never Refusal.Phase did gives)

there-before : (cpus : ℕ) (log : List Line) (old : Processes) (line : Line) (new : Processes) → IsThere old line new → StillBefore cpus log old → StillBefore cpus (log ++ line ∷ []) new
there-before cpus log old line new is still =
    subst (StillBefore cpus (log ++ line ∷ [])) (sym is.2.is) (λ off.
    let before = still off in
    let know = before.is_not_run in
    let front = front-come line old.first.forward is.2.forward is.2.takes before.first.come in
    let gives = subst (λ node. destination_line node line ≡ Ok is.0) know.3 is.1 in
    let stays = line-not_run cpus know.0 know.1 know.2 line is.0 front.0 gives in
    let resume : (old.there ≡ true → is_dest_paused know.0 ≡ true → HasResume old.first.forward) = λ there paused. before.resume there (ap (λ (n : Destination). is_dest_paused n.phase) know.3 ∙ paused) in
    let by = paused-by cpus know.0 know.1 know.2 old.there line is.0 old.first.forward is.2.forward is.2.may gives is.2.takes resume in
    let given = ap (λ node. destination_line node line) (sym before.at) ∙ is.1 in
    record {
      running = before.running;
      first = record { come = front.1; quiet = quiet-sending_if old.there old.first.back is.0.node.epoch is.0.frames before.first.quiet stays.frames };
      later = before.later;
      is_not_run = stays.node;
      at = sym (after-append (first_destination cpus) log (line ∷ []) ∙ (λ i. node_by (sym before.at i) (given i)));
      silent =
          entries-append (first_destination cpus) log (line ∷ []) ∙ ap (λ entries. entries ++ destination_entries (destination_after (first_destination cpus) log) (line ∷ [])) before.silent
          ∙ append-nil (entries_by (destination_line (destination_after (first_destination cpus) log) line)) ∙ ap entries_by given ∙ stays.entries;
      resume = λ there paused. absurd (false≢true (sym (by paused).0 ∙ there));
      noticed = λ paused. (log, ap (λ one. log ++ one ∷ []) (by paused).1);
    })

-- Every event

event-before : (cpus : ℕ) (log : List Line) (old : Processes) (event : Event) (new : Processes) → IsEvent old event new → StillBefore cpus log old → StillBefore cpus (log ++ logged_there event) new
event-before cpus log old (Event.There line) new is still = there-before cpus log old line new is still
event-before cpus log old (Event.Here line) new is still = subst (λ lines. StillBefore cpus lines new) (sym (append-nil log)) (here-before cpus log old line new is still)
event-before cpus log old Event.Opens new is still = subst (λ lines. StillBefore cpus lines new) (sym (append-nil log)) (opens-before cpus log old new is still)
event-before cpus log old Event.LosesHere new is still =
    subst (λ lines. StillBefore cpus lines new) (sym (append-nil log)) (subst (StillBefore cpus log) (sym is.is) (λ off.
    let before = still off in
    record { running = before.running; first = before.first; later = before.later; is_not_run = before.is_not_run; at = before.at; silent = before.silent; resume = before.resume; noticed = before.noticed }))
event-before cpus log old Event.LosesThere new is still =
    subst (λ lines. StillBefore cpus lines new) (sym (append-nil log)) (subst (StillBefore cpus log) (sym is.is) (λ off.
    let before = still off in
    record {
      running = before.running;
      first = before.first;
      later = before.later;
      is_not_run = before.is_not_run;
      at = before.at;
      silent = before.silent;
      resume = λ there paused. absurd (false≢true there);
      noticed = before.noticed;
    }))
event-before cpus log old Event.Joins new is still =
    subst (λ lines. StillBefore cpus lines new) (sym (append-nil log)) (subst (StillBefore cpus log) (sym is.is) (λ off.
    let before = still off in
    let opened = subst AllOpened is.opened before.later in
    record {
      running = before.running;
      first = opened.0.calm;
      later = opened.1;
      is_not_run = before.is_not_run;
      at = before.at;
      silent = before.silent;
      resume = λ there paused. opened.0.resume;
      noticed = before.noticed;
    }))

pub events-before : (cpus : ℕ) (log : List Line) (old : Processes) (events : List Event) (new : Processes) → AreEvents old events new → StillBefore cpus log old → StillBefore cpus (log ++ log_there events) new
events-before cpus log old [] new is still = subst (λ lines. StillBefore cpus lines new) (sym (append-nil log)) (subst (StillBefore cpus log) (sym is) still)
events-before cpus log old (event ∷ events) new is still =
    subst (λ lines. StillBefore cpus lines new) (append_assoc log (logged_there event) (log_there events))
    (events-before cpus (log ++ logged_there event) is.0 events new is.2 (event-before cpus log old event is.0 is.1 still))
