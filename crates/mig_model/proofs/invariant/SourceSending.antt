-- The source sends the next page of a round, or a run of neighbouring pages in one frame, and keeps what every world keeps.
use Rattle.std.proofs.Common.{◌≡◌, ℕ, zero, suc, ◌+◌, Bool, true, false, cond, eqb, Option, Some, List, [], ◌∷◌, ◌++◌, sym, ap, ◌∙◌, length, arith, ◌&&◌, ◌||◌, ltb, is_some, unwrap_or}
use Rattle.std.proofs.lemmas.Bool.Decides.{nat_tests}
use Rattle.foundation.specs.Ranges.{in_range}
use Rattle.std.specs.List.{list_all}
use Rattle.std.specs.Ordering.{nat_cmp}
use Rattle.std.specs.FinMap.{FinMap, get, insert}
use Rattle.mig_model.specs.Wire.{Frame, Sent, page_frame, copies_in, kept_after, kept_with, run_copies}
use Rattle.mig_model.specs.Wire.Frame.{Run}
use Rattle.mig_model.specs.Whereabouts.{copies_of, kept_by, IsPrecopying, is_unread}
use Rattle.mig_model.specs.Invariant.{Flow, flow_next, flow_after, AreWhole, IsSoundWorld, Wires}
use Rattle.mig_model.specs.Invariant.Flow.{BeforeAdvise, Copies}
use Rattle.mig_model.specs.Source.{Source, bytes_of, run_of, in_space, is_precopy, space_of}
use Rattle.mig_model.proofs.memory.HostLemmas.{get-put}
use Rattle.mig_model.specs.Migration.{World}
use Rattle.mig_model.proofs.steps.StepWorlds.{after_run, after_send}
use Rattle.mig_model.specs.SourceSteps.{run_bound}
use Rattle.mig_model.proofs.memory.Facts.{none_absurd, zero_bytes, kept_page, copies_of-append, AreWhole-append, eqb-self, only_one, AreOf-one, no_event}
use Rattle.mig_model.proofs.invariant.WireLemmas.{has_no_package, copies_in-page, flow_sent, fits-append, flight_up}
use Rattle.std.specs.FinSet.{FinSet, contains}
use Rattle.std.proofs.lemmas.Bool.{or_right}
use Rattle.mig_base.specs.declared.phase.DestPhase.{DestPhase}
use Rattle.mig_base.specs.declared.phase.SourcePhase.{SourcePhase}
use Rattle.mig_base.specs.declared.TheConstants.{HIGH_PAGE}
use Rattle.mig_base.specs.Bytes.{contents, zero_page}
use Rattle.mig_base.specs.Sets.{run_length}
use Rattle.foundation.proofs.RangeLemmas.{least_below_tells}
use Rattle.mig_base.proofs.SetLemmas.{member_below, member_inserted, member_removed, member_run, member_with_range, member_without}
use Rattle.mig_model.specs.Space.{Space, IsSoundSpace}
use Rattle.mig_model.specs.Ioctls.{protected_in}
use Rattle.mig_model.specs.Guest.{is_present, is_changing}
use Rattle.mig_model.specs.Log.{Log, least_of, log_run_sent, log_sent}
use Rattle.mig_model.proofs.memory.IoctlLemmas.{IsSoundSpace-protected}
use Rattle.mig_model.proofs.invariant.SourceKept.{source_holds, renewed, never_idle, has_not_run, in_one_is}
use Rattle.mig_model.proofs.invariant.SourceRounds.{precopy_unswitched, precopy_started, watched_below}

-- The frame of a page

-- it is kept as such
pub kept_after-page_frame : (kept : FinMap nat_cmp (List ℕ)) (page : ℕ) (bytes : List ℕ) → length bytes ≡ 4096 → kept_after kept (page_frame page bytes) ≡ insert kept page bytes
kept_after-page_frame kept page bytes n = kept_page (list_all (λ byte. eqb byte 0) bytes) kept page bytes (zero_bytes bytes n)

-- One more frame

pub copies_whole-push : (wire : List Sent) (sent : Sent) → AreWhole (copies_in sent.frame) → AreWhole (copies_of wire) → AreWhole (copies_of (wire ++ sent ∷ []))
copies_whole-push wire sent whole are = grind (arith, nat_tests, copies_of-append, AreWhole-append)

-- what is kept once one more frame after copies is taken
pub kept_by-push : (wire : List Sent) (flow : Flow) (sent : Sent) (kept : FinMap nat_cmp (List ℕ)) → flow_after flow wire ≡ Some Copies → kept_by kept (wire ++ sent ∷ []) ≡ kept_by (kept_by kept wire) (sent ∷ [])
kept_by-push wire flow sent kept h = (has_no_package flow kept wire (sent ∷ []) h).kept_then

-- A run of pages

later_in : (first count q : ℕ) → in_range (1 + first) count q ≡ true → in_range first (suc count) q ≡ true
later_in first count q h = grind (arith, nat_tests)

first_in : (first count : ℕ) → in_range first (suc count) first ≡ true
first_in first count = grind (arith, nat_tests)

-- its copies are whole pages
pub run_whole : (node : Source) (first count : ℕ) → ((q : ℕ) → in_range first count q ≡ true → length (bytes_of node q) ≡ 4096) → AreWhole (run_copies first (run_of node first count))
run_whole node first zero whole = tt
run_whole node first (suc count) whole = (whole first (first_in first count), run_whole node (1 + first) count (λ q h. whole q (later_in first count q h)))

none_in : (first q : ℕ) (x o : Option (List ℕ)) → o ≡ cond (in_range first 0 q) x o
none_in first q x o = grind (arith, nat_tests)

one_in : (f : ℕ → Option (List ℕ)) (first count q : ℕ) (o : Option (List ℕ)) → cond (in_range (1 + first) count q) (f q) (cond (eqb q first) (f first) o) ≡ cond (in_range first (suc count) q) (f q) o
one_in f first count q o = grind (arith, nat_tests)

get-kept_with : (node : Source) (kept : FinMap nat_cmp (List ℕ)) (first count q : ℕ) → get (kept_with kept (run_copies first (run_of node first count))) q ≡ cond (in_range first count q) (Some (bytes_of node q)) (get kept q)
get-kept_with node kept first zero q = none_in first q (Some (bytes_of node q)) (get kept q)
get-kept_with node kept first (suc count) q = grind (arith, nat_tests, get-put, one_in, get-kept_with node (insert kept first (bytes_of node first)) (1 + first) count q)

-- its pages' own bytes are the newest then
pub kept_by-run : (wire : List Sent) (flow : Flow) (kept : FinMap nat_cmp (List ℕ)) (epoch : ℕ) (node : Source) (first count : ℕ) → flow_after flow wire ≡ Some Copies → (q : ℕ) →
    get (kept_by kept (wire ++ record { epoch = epoch; frame = Run first (run_of node first count) } ∷ [])) q ≡ cond (in_range first count q) (Some (bytes_of node q)) (get (kept_by kept wire) q)
kept_by-run wire flow kept epoch node first count h q = grind (arith, nat_tests, kept_by-push, get-kept_with)

pub present_bytes : {X : Type 0} (o : Option X) (zeros : X) → is_some o ≡ true → Some (unwrap_or o zeros) ≡ o
present_bytes o zeros h = grind arith

pub protected_now : (low here present old : Bool) → low ≡ true → present ≡ true → (here || old) ≡ true → (low && cond here (true && present) old) ≡ true
protected_now low here present old low_ is h = grind arith

-- the pages are some of those to be sent, with no unread event
record AreSent (space : Space) (first count : ℕ) : Type 0 where
  present : (q : ℕ) → in_range first count q ≡ true → is_present space q ≡ true
  watched : (q : ℕ) → in_range first count q ≡ true → contains space.object.protect q ≡ true
  whole : (q : ℕ) → in_range first count q ≡ true → length (contents space.host.bytes q) ≡ 4096
  low : (q : ℕ) → in_range first count q ≡ true → ltb q HIGH_PAGE ≡ true

pub whole_bytes : (space : Space) (page : ℕ) (o : Option (List ℕ)) → IsSoundSpace space → get space.host.bytes page ≡ o → is_some o ≡ true → length (unwrap_or o zero_page) ≡ 4096
whole_bytes space page o sound e h = grind arith

are_sent : (world : World) (first count : ℕ) → IsSoundWorld world → world.source.switched ≡ false → (space_of world.source).object.events ≡ [] → ((q : ℕ) → in_range first count q ≡ true → contains world.source.log.todo q ≡ true) →
    AreSent (space_of world.source) first count
are_sent world first count kept unswitched quiet todo = grind (arith, nat_tests)

-- the frame carries the pages, and the log has them as clean and sent
record IsCarried (space : Space) (old : Log) (first count : ℕ) (frame : Frame) (log : Log) : Type 0 where
  clean_is : (q : ℕ) → contains log.clean q ≡ (in_range first count q || contains old.clean q)
  sent_is : (q : ℕ) → contains log.sent q ≡ (in_range first count q || contains old.sent q)
  todo_was : (q : ℕ) → contains log.todo q ≡ true → contains old.todo q ≡ true
  whole : AreWhole (copies_in frame)
  flow : flow_next Copies frame ≡ Some Copies
  newest : (wire : List Sent) (flow : Flow) (kept : FinMap nat_cmp (List ℕ)) (epoch : ℕ) → flow_after flow wire ≡ Some Copies → (q : ℕ) →
      get (kept_by kept (wire ++ record { epoch = epoch; frame = frame } ∷ [])) q ≡ cond (in_range first count q) (Some (contents space.host.bytes q)) (get (kept_by kept wire) q)

-- neighbouring pages are protected, then read
abbrev carried : Source → ℕ → ℕ → Log → ℕ → Source
carried source first count log pages = record (in_space source (protected_in (space_of source) first count true)) { log = log; pages_sent = pages }

abbrev carried_wire : World → Frame → List Sent
carried_wire world frame = world.forward.frames ++ record { epoch = world.source.epoch; frame = frame } ∷ []

still_after : (world : World) (first count : ℕ) (clean : FinSet nat_cmp) → IsSoundWorld world → world.source.switched ≡ false → AreSent (space_of world.source) first count →
    ((q : ℕ) → contains clean q ≡ (in_range first count q || contains world.source.log.clean q)) →
    (q : ℕ) → contains clean q ≡ true → is_unread (space_of world.source).object.events q ≡ false → contains (protected_in (space_of world.source) first count true).protected q ≡ true
still_after world first count clean kept unswitched are clean_is q h u = grind (arith, nat_tests, member_below, watched_below, or_right)

-- the copies of the clean pages are right once those of these pages are after them
carried_copies : (source : Source) (first count : ℕ) (frame : Frame) (log : Log) (pages epoch : ℕ) (flow : Flow) (kept : FinMap nat_cmp (List ℕ)) (wire : List Sent) → AreSent (space_of source) first count →
    IsCarried (space_of source) source.log first count frame log → flow_after flow wire ≡ Some Copies → IsPrecopying source kept wire →
    IsPrecopying (carried source first count log pages) kept (wire ++ record { epoch = epoch; frame = frame } ∷ [])
carried_copies source first count frame log pages epoch flow kept wire are is right old = grind (arith, nat_tests)

wires_carried : (from : SourcePhase) (to : DestPhase) (world : World) (first count : ℕ) (frame : Frame) (log : Log) (pages : ℕ) → is_precopy from ≡ true → AreSent (space_of world.source) first count →
    IsCarried (space_of world.source) world.source.log first count frame log →
    Wires (record world.source { phase = from }) (record world.destination { phase = to }) world.forward.frames world.back.frames world.urgent.frames →
    Wires (record (carried world.source first count log pages) { phase = from }) (record world.destination { phase = to }) (carried_wire world frame) world.back.frames world.urgent.frames
wires_carried SourcePhase.Precopy DestPhase.Idle world first count frame log pages now are is wires = (
  flow_sent BeforeAdvise Copies Copies world.forward.frames (record { epoch = world.source.epoch; frame = frame }) wires.0 is.flow,
  wires.1,
  carried_copies (record world.source { phase = SourcePhase.Precopy }) first count frame log pages world.source.epoch BeforeAdvise world.destination.kept world.forward.frames are is wires.0 wires.2,
)
wires_carried SourcePhase.Precopy DestPhase.Advised world first count frame log pages now are is wires = (
  flow_sent Copies Copies Copies world.forward.frames (record { epoch = world.source.epoch; frame = frame }) wires.0 is.flow,
  wires.1,
  carried_copies (record world.source { phase = SourcePhase.Precopy }) first count frame log pages world.source.epoch Copies world.destination.kept world.forward.frames are is wires.0 wires.2,
)
wires_carried SourcePhase.Precopy _ world first count frame log pages now are is wires = wires
wires_carried _ to world first count frame log pages now are is wires = none_absurd now

kept-carried : (world : World) (first count : ℕ) (frame : Frame) (log : Log) (pages : ℕ) → IsSoundWorld world → is_precopy world.source.phase ≡ true → world.up ≡ true → world.source.switched ≡ false → AreSent (space_of world.source) first count →
    IsCarried (space_of world.source) world.source.log first count frame log →
    IsSoundWorld (record world { source = carried world.source first count log pages; forward = record world.forward { frames = carried_wire world frame } })
kept-carried world first count frame log pages kept precopy up unswitched are is =
    let source = carried world.source first count log pages in
    let new : World = record world { source = source; forward = record world.forward { frames = carried_wire world frame } } in
    let bare = has_not_run world kept unswitched in
    let before = kept.pushing.before_switch unswitched in
    let holds = source_holds world kept bare in
    let space = IsSoundSpace-protected (space_of world.source) first count true are.watched kept.spaces.source_space in
    let idle = never_idle source.phase (space_of source) log.clean log.todo log.sent (precopy_started source.phase precopy) in
    let whole = copies_whole-push world.forward.frames (record { epoch = source.epoch; frame = frame }) is.whole kept.copies.copies_whole in
    let protected = still_after world first count log.clean kept unswitched are is.clean_is in
    let sendable = λ (q : ℕ) (h : contains log.todo q ≡ true) (u : is_unread (space_of source).object.events q ≡ false). kept.precopy.todo_sendable unswitched q (is.todo_was q h) u in
    let flight = flight_up new up (λ ran. none_absurd (sym bare ∙ ran)) (wires_carried source.phase world.destination.phase world first count frame log pages precopy are is (kept.flight.wires up)) in
    let forward_epoch = AreOf-one source.epoch world.forward.frames frame kept.epochs.forward_epoch in
    let held = fits-append world.forward.frames (record { epoch = source.epoch; frame = frame } ∷ []) world.forward.held kept.held.forward_held in
    renewed world source (carried_wire world frame) world.transcript kept bare (assumption)

-- One page

first_of_one : (page : ℕ) → in_range page 1 page ≡ true
first_of_one page = only_one page page ∙ eqb-self page

page_carried : (source : Source) (page : ℕ) → length (bytes_of source page) ≡ 4096 → IsCarried (space_of source) source.log page 1 (page_frame page (bytes_of source page)) (log_sent source.log page)
page_carried source page whole = grind (arith, nat_tests, member_removed, copies_in-page, member_inserted, only_one, kept_by-push, kept_after-page_frame, get-put)

pub kept-send : (world : World) (page : ℕ) → IsSoundWorld world → least_of world.source.log.todo ≡ Some page → is_precopy world.source.phase ≡ true → world.up ≡ true → is_changing world.source.guest ≡ false → IsSoundWorld (after_send world page)
kept-send world page kept found precopy up quiet =
    let unswitched = precopy_unswitched world.source.phase world.source.switched precopy kept.phases.source_phase in
    let are = are_sent world page 1 kept unswitched (no_event (space_of world.source).object.events quiet)
    (λ q h. ap (contains world.source.log.todo) (in_one_is page q h) ∙ least_below_tells (contains world.source.log.todo) HIGH_PAGE page found) in
    kept-carried world page 1 _ _ _ kept precopy up unswitched are (page_carried world.source page (are.whole page (first_of_one page)))

-- A run

run_carried : (source : Source) (first count : ℕ) → AreSent (space_of source) first count → IsCarried (space_of source) source.log first count (Run first (run_of source first count)) (log_run_sent source.log first count)
run_carried source first count are = grind (arith, nat_tests, member_with_range, member_without, run_whole, kept_by-run)

pub kept-run : (world : World) (first number count : ℕ) → IsSoundWorld world → number ≡ run_length world.source.log.todo first (run_bound count) → is_precopy world.source.phase ≡ true → world.up ≡ true → is_changing world.source.guest ≡ false →
    IsSoundWorld (after_run world first number)
kept-run world first number count kept many precopy up quiet =
    let unswitched = precopy_unswitched world.source.phase world.source.switched precopy kept.phases.source_phase in
    let are = are_sent world first number kept unswitched (no_event (space_of world.source).object.events quiet)
    (λ q h. member_run world.source.log.todo first (run_bound count) q (ap (λ n. in_range first n q) (sym many) ∙ h)) in
    kept-carried world first number _ _ _ kept precopy up unswitched are (run_carried world.source first number are)
