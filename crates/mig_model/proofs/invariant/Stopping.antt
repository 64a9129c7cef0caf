-- Push, Serve, End and Switch keep what every world keeps.
use Rattle.std.proofs.Common.{◌≡◌, ◌≢◌, ℕ, ◌<◌, ◌&&◌, ◌||◌, Bool, true, false, cond, not, eqb, Option, Some, None, List, [], ◌∷◌, ◌++◌, refl, sym, ap, ◌∙◌, subst, ◌⊎◌, arith, append-nil, length, is_some, unwrap_or, ◌≤◌, ltb}
use Rattle.std.specs.Ordering.{nat_cmp}
use Rattle.std.specs.FinMap.{FinMap, get, get-retain_keys, nat_cmp-IsAntisymmetric}
use Rattle.std.specs.FinSet as finset
use Rattle.std.specs.FinSet.{FinSet, contains, contains-empty, contains-retain}
use Rattle.std.proofs.lemmas.Bool.{false≢true, false_from_ne_true, eq-eqb, lt-ltb}
use Rattle.mig_base.specs.declared.phase.DestPhase.{DestPhase}
use Rattle.mig_base.specs.declared.phase.SourcePhase.{SourcePhase}
use Rattle.mig_base.specs.declared.TheConstants.{HIGH_PAGE}
use Rattle.mig_base.specs.Bytes.{zero_page}
use Rattle.foundation.specs.Ranges.{least_below}
use Rattle.mig_base.proofs.SetLemmas.{member_removed, same_members, member_below}
use Rattle.mig_model.specs.Host.{IsSound}
use Rattle.mig_model.specs.Space.{Space}
use Rattle.mig_model.specs.Wire.{Sent, Copy, page_frame, kept_after}
use Rattle.mig_model.specs.Wire.Frame.{End, Discard, Package}
use Rattle.mig_model.specs.Guest.{is_present, is_changing}
use Rattle.mig_model.specs.Migration.{World}
use Rattle.mig_model.proofs.steps.StepWorlds.{after_end, after_push, after_serve, after_switch}
use Rattle.mig_model.specs.Whereabouts.{IsSwitching, copies_of, has_copy, AreFaithful, after_package, is_urgent_or_left, IsPrecopying, is_unread, kept_by, package_in}
use Rattle.mig_model.specs.Invariant.{IsSoundWorld, IsSoundLog, IsSoundPushing, StoppedWires, Flow, flow_after, flow_of, AreWhole, AreSoundPhases, PrecopyWires}
use Rattle.mig_model.specs.Invariant.Flow.{BeforeAdvise, Copies, BeforePackage, Pushed, AfterEnd}
use Rattle.mig_model.proofs.invariant.WireLemmas.{flow_sent, has_package, copies_of-page, page_flow, fits-more, has_copy-append, flight_up, has_no_package}
use Rattle.mig_model.specs.Log.{least_of, no_pages, present, less}
use Rattle.mig_model.specs.Source.{Source, bytes_of, is_stopped, page_pushed, request_served, space_of, commands_of, is_precopy, not_clean, switch_made, switch_frames}
use Rattle.mig_model.proofs.memory.Facts.{none_absurd, eqb-self, eqb_other, low_or, copies_of-append, AreWhole-append, AreFaithful-append, AreOf-one, and_second, no_event, owed_is_present}
use Rattle.foundation.proofs.RangeLemmas.{least_below-some}
use Rattle.std.proofs.lemmas.Bool.Decides.{nat_tests}
use Rattle.std.proofs.lemmas.List.{append_assoc}
use Rattle.mig_model.proofs.memory.Facts.{and_second}
use Rattle.foundation.proofs.TestLemmas.{cond_not}

-- a world in these phases
abbrev pub in_phases : SourcePhase → DestPhase → World → World
in_phases from to world = record world { source = record world.source { phase = from }; destination = record world.destination { phase = to } }

pub no_member : (page : ℕ) → contains no_pages page ≡ false
no_member page = contains-empty nat_cmp page

-- as long as a page remains End was not sent
pub not_ended : (source : Source) (page : ℕ) → (source.end_epoch ≡ source.epoch → source.remaining ≡ no_pages) → contains source.remaining page ≡ true → source.end_epoch ≢ source.epoch
not_ended source page rest remains ended = false≢true (sym (ap (λ s. contains s page) (rest ended) ∙ no_member page) ∙ remains)

pub flow_open : (source : Source) → source.end_epoch ≢ source.epoch → flow_of source ≡ Pushed
flow_open source other = ap (λ b. cond b AfterEnd Pushed) (eqb_other source.end_epoch source.epoch other)

pub present_bytes : (o : Option (List ℕ)) → is_some o ≡ true → o ≡ Some (unwrap_or o zero_page)
present_bytes o h = grind arith

-- One copy more

pub or_true : (a : Bool) → (a || true) ≡ true
or_true a = grind arith

-- a page that was pushed is in flight where it remained
pushed_whereabouts : (remaining : FinSet nat_cmp) (urgent : List Sent) (copies : List Copy) (page q : ℕ) (bytes : List ℕ) → (is_urgent_or_left remaining urgent q || has_copy copies q) ≡ true →
    (is_urgent_or_left (finset.remove remaining page) urgent q || has_copy (copies ++ record { page = page; bytes = bytes } ∷ []) q) ≡ true
pushed_whereabouts remaining urgent copies page q bytes h = grind (arith, nat_tests, member_removed, has_copy-append)

pushed_flowing : (remaining : FinSet nat_cmp) (urgent : List Sent) (copies arrivals : List Copy) (page q : ℕ) (bytes : List ℕ) → (is_urgent_or_left remaining urgent q || has_copy copies q || has_copy arrivals q) ≡ true →
    (is_urgent_or_left (finset.remove remaining page) urgent q || has_copy (copies ++ record { page = page; bytes = bytes } ∷ []) q || has_copy arrivals q) ≡ true
pushed_flowing remaining urgent copies arrivals page q bytes h = grind (arith, nat_tests, member_removed, has_copy-append)

-- Push

abbrev pushed_frame : Source → ℕ → Sent
pushed_frame source page = record { epoch = source.epoch; frame = page_frame page (bytes_of source page) }

pushed_switching : (source : Source) (kept : FinMap nat_cmp (List ℕ)) (forward urgent : List Sent) (page : ℕ) → get (space_of source).host.bytes page ≡ Some (bytes_of source page) → length (bytes_of source page) ≡ 4096 →
    IsSwitching source kept forward urgent → IsSwitching (page_pushed source page) kept (forward ++ pushed_frame source page ∷ []) urgent
pushed_switching source kept forward urgent page held whole old =
    let more = pushed_frame source page ∷ [] in
    let there = has_package kept forward more _ old.plan in
    let copies : copies_of (after_package (forward ++ more)) ≡ copies_of (after_package forward) ++ record { page = page; bytes = bytes_of source page } ∷ [] =
    ap copies_of there.behind_more ∙ copies_of-append (after_package forward) more ∙ ap (λ c. copies_of (after_package forward) ++ c) (copies_of-page source.epoch page (bytes_of source page) whole) in
    record {
      owed = old.owed;
      plan = there.same ∙ old.plan;
      owed_present = old.owed_present;
      kept_rest = λ q. ap (λ k. get k q) there.kept_same ∙ old.kept_rest q;
      whereabouts = λ q owes.
          ap (λ c. is_urgent_or_left (finset.remove source.remaining page) urgent q || has_copy c q) copies
          ∙ pushed_whereabouts source.remaining urgent (copies_of (after_package forward)) page q (bytes_of source page) (old.whereabouts q owes);
      faithful = subst (λ c. AreFaithful (space_of source).host.bytes c) (sym copies) (AreFaithful-append (space_of source).host.bytes (copies_of (after_package forward)) _ old.faithful (held, tt));
    }

-- a world whose source is stopped
abbrev pub stopped_at : DestPhase → World → World
stopped_at to world = in_phases SourcePhase.Stopped to world

pushed_wires : (to : DestPhase) (world : World) (page : ℕ) → get (space_of world.source).host.bytes page ≡ Some (bytes_of world.source page) → length (bytes_of world.source page) ≡ 4096 → world.source.end_epoch ≢ world.source.epoch →
    ((flow : Flow) → flow_after flow world.forward.frames ≡ Some (flow_of world.source) → flow_after flow (world.forward.frames ++ pushed_frame world.source page ∷ []) ≡ Some (flow_of world.source)) →
    StoppedWires (stopped_at to world).source (stopped_at to world).destination world.forward.frames world.back.frames world.urgent.frames → StoppedWires (page_pushed (stopped_at to world).source page) (stopped_at to world).destination (world.forward.frames ++ pushed_frame world.source page ∷ []) world.back.frames world.urgent.frames
pushed_wires DestPhase.Idle world page held whole other flows old = (flows BeforeAdvise old.0, old.1, pushed_switching (stopped_at DestPhase.Idle world).source world.destination.kept world.forward.frames world.urgent.frames page held whole old.2)
pushed_wires DestPhase.Advised world page held whole other flows old = (flows Copies old.0, old.1, pushed_switching (stopped_at DestPhase.Advised world).source world.destination.kept world.forward.frames world.urgent.frames page held whole old.2)
pushed_wires DestPhase.Discarding world page held whole other flows old = (flows BeforePackage old.0, old.1, pushed_switching (stopped_at DestPhase.Discarding world).source world.destination.kept world.forward.frames world.urgent.frames page held whole old.2)
pushed_wires DestPhase.Running world page held whole other flows old = grind (arith, nat_tests, copies_of-append, copies_of-page, pushed_flowing)
pushed_wires DestPhase.Paused world page held whole other flows old = absurd old
pushed_wires DestPhase.Ended world page held whole other flows old = absurd (other old.2)

pub stopped_not_released : SourcePhase.Stopped ≢ SourcePhase.Released
stopped_not_released h = cc

-- once Switch was made, and the source is stopped
pub pushing_stopped : (source : Source) (up : Bool) → source.switched ≡ true → (source.end_epoch ≡ source.epoch → source.remaining ≡ no_pages) →
    ((page : ℕ) → contains source.remaining page ≡ true → is_present (space_of source) page ≡ true) → source.end_epoch ≤ source.epoch →
    IsSoundPushing SourcePhase.Stopped source.switched up source.epoch source.end_epoch (space_of source) source.remaining
pushing_stopped source up switched end_sent present before = grind (arith, nat_tests)

pub log_stopped : (source : Source) → source.switched ≡ true → IsSoundLog SourcePhase.Stopped source.switched (space_of source) source.log.clean source.log.todo source.log.sent
log_stopped source switched = grind (arith, nat_tests)

pub was_there : (remaining : FinSet nat_cmp) (page q : ℕ) → contains (finset.remove remaining page) q ≡ true → contains remaining q ≡ true
was_there remaining page q h = and_second (not (eqb q page)) (contains remaining q) (sym (member_removed remaining page q) ∙ h)

pushed_in : (from : SourcePhase) (to : DestPhase) (world : World) (page : ℕ) → is_stopped from ≡ true → world.up ≡ true → is_present (space_of world.source) page ≡ true → contains world.source.remaining page ≡ true →
    IsSoundWorld (in_phases from to world) → IsSoundWorld (after_push (in_phases from to world) page)
pushed_in SourcePhase.Stopped to world page stopped up present remains kept =
    let new : World = after_push (stopped_at to world) page in
    let source = world.source in
    let bytes = (space_of source).host.bytes in
    let more = pushed_frame source page ∷ [] in
    let held : get bytes page ≡ Some (bytes_of source page) = present_bytes (get bytes page) present in
    let whole : length (bytes_of source page) ≡ 4096 = kept.spaces.source_space.host.whole page (bytes_of source page) held in
    let other = not_ended source page kept.pushing.end_sent remains in
    let still = flow_open source other in
    let copies : copies_of (world.forward.frames ++ more) ≡ copies_of world.forward.frames ++ record { page = page; bytes = bytes_of source page } ∷ [] =
    copies_of-append world.forward.frames more ∙ ap (λ c. copies_of world.forward.frames ++ c) (copies_of-page source.epoch page (bytes_of source page) whole) in
    let flows = λ (flow : Flow) (h : flow_after flow world.forward.frames ≡ Some (flow_of source)). flow_sent flow Pushed Pushed world.forward.frames (pushed_frame source page) (h ∙ ap (λ f. Some f) still) (page_flow page (bytes_of source page)).1 ∙ ap (λ f. Some f) (sym still) in
    let pushing = pushing_stopped new.source new.up kept.phases.source_phase (λ h. absurd (other h)) (λ q h. kept.pushing.remaining_present q (was_there source.remaining page q h)) kept.pushing.ended_before in
    let copies_whole = subst AreWhole (sym copies) (AreWhole-append (copies_of world.forward.frames) _ kept.copies.copies_whole (whole, tt)) in
    let flight = flight_up new up
    (λ ran. subst (λ c. AreFaithful bytes c) (sym copies) (AreFaithful-append bytes (copies_of world.forward.frames) _ (kept.flight.flight_faithful ran) (held, tt)))
    (pushed_wires to world page held whole other flows (kept.flight.wires up)) in
    let forward_epoch = AreOf-one source.epoch world.forward.frames (page_frame page (bytes_of source page)) kept.epochs.forward_epoch in
    let forward_held = fits-more world.forward.frames world.forward.held source.epoch (page_frame page (bytes_of source page) ∷ []) kept.held.forward_held in
    assumption
pushed_in _ to world page stopped up present remains kept = none_absurd stopped

pub kept-push : (world : World) (page : ℕ) → IsSoundWorld world → is_stopped world.source.phase ≡ true → world.up ≡ true → is_present (space_of world.source) page ≡ true → contains world.source.remaining page ≡ true → IsSoundWorld (after_push world page)
kept-push world page kept stopped up present remains = pushed_in world.source.phase world.destination.phase world page stopped up present remains kept

-- Serve

served_wires : (to : DestPhase) (world : World) (pages : List ℕ) → StoppedWires (stopped_at to world).source (stopped_at to world).destination world.forward.frames world.back.frames world.urgent.frames →
    StoppedWires (request_served (stopped_at to world).source pages) (stopped_at to world).destination world.forward.frames world.back.frames world.urgent.frames
served_wires DestPhase.Running world pages old = (old.0, old.1, record { whereabouts = old.2.whereabouts })
served_wires DestPhase.Paused world pages old = absurd old
served_wires DestPhase.Ended world pages old = old
served_wires _ world pages old = (old.0, old.1, record { owed = old.2.owed; plan = old.2.plan; owed_present = old.2.owed_present; kept_rest = old.2.kept_rest; whereabouts = old.2.whereabouts; faithful = old.2.faithful })

pub kept-serve : (world : World) (pages : List ℕ) → IsSoundWorld world → is_stopped world.source.phase ≡ true → IsSoundWorld (after_serve world pages)
kept-serve world pages kept stopped = grind (arith, nat_tests, served_wires)

-- End

abbrev end_frame : Source → Sent
end_frame source = record { epoch = source.epoch; frame = End source.urgent_sent }

abbrev end_sent_by : Source → Source
end_sent_by source = record source { end_epoch = source.epoch }

-- where a number below the bound passes, one is found
some_least : (test : ℕ → Bool) (bound q : ℕ) → q < bound → test q ≡ true → least_below test bound ≡ None → ⊥
some_least test bound q l h none = false≢true (sym (ap is_some none) ∙ least_below-some test bound q l h)

pub present_below : (space : Space) (page : ℕ) → IsSound space.host → is_present space page ≡ true → page < HIGH_PAGE
present_below space page sound present = low_or (λ past. false≢true (sym (ap is_some (sound.mapped page (sound.bound page past))) ∙ present))

nothing_remains : (world : World) → IsSoundWorld world → least_of world.source.remaining ≡ None → world.source.remaining ≡ no_pages
nothing_remains world kept none =
    same_members world.source.remaining no_pages (λ q.
    false_from_ne_true (contains world.source.remaining q) (λ remains.
    let low = present_below (space_of world.source) q kept.spaces.source_space.host (kept.pushing.remaining_present q remains) in
    some_least (contains world.source.remaining) HIGH_PAGE q low remains none) ∙ sym (no_member q))

ended_switching : (source : Source) (kept : FinMap nat_cmp (List ℕ)) (forward urgent : List Sent) → IsSwitching source kept forward urgent → IsSwitching (end_sent_by source) kept (forward ++ end_frame source ∷ []) urgent
ended_switching source kept forward urgent old =
    let more = end_frame source ∷ [] in
    let there = has_package kept forward more _ old.plan in
    let copies : copies_of (after_package (forward ++ more)) ≡ copies_of (after_package forward) = ap copies_of there.behind_more ∙ copies_of-append (after_package forward) more ∙ append-nil (copies_of (after_package forward)) in
    record {
      owed = old.owed;
      plan = there.same ∙ old.plan;
      owed_present = old.owed_present;
      kept_rest = λ q. ap (λ k. get k q) there.kept_same ∙ old.kept_rest q;
      whereabouts = λ q owes. ap (λ c. is_urgent_or_left source.remaining urgent q || has_copy c q) copies ∙ old.whereabouts q owes;
      faithful = subst (λ c. AreFaithful (space_of source).host.bytes c) (sym copies) old.faithful;
    }

ended_wires : (to : DestPhase) (world : World) → eqb world.source.end_epoch world.source.epoch ≡ false →
    ((flow : Flow) → flow_after flow world.forward.frames ≡ Some (flow_of world.source) → flow_after flow (world.forward.frames ++ end_frame world.source ∷ []) ≡ Some (flow_of (end_sent_by world.source))) →
    StoppedWires (stopped_at to world).source (stopped_at to world).destination world.forward.frames world.back.frames world.urgent.frames → StoppedWires (end_sent_by (stopped_at to world).source) (stopped_at to world).destination (world.forward.frames ++ end_frame world.source ∷ []) world.back.frames world.urgent.frames
ended_wires DestPhase.Idle world other flows old = (flows BeforeAdvise old.0, old.1, ended_switching (stopped_at DestPhase.Idle world).source world.destination.kept world.forward.frames world.urgent.frames old.2)
ended_wires DestPhase.Advised world other flows old = (flows Copies old.0, old.1, ended_switching (stopped_at DestPhase.Advised world).source world.destination.kept world.forward.frames world.urgent.frames old.2)
ended_wires DestPhase.Discarding world other flows old = (flows BeforePackage old.0, old.1, ended_switching (stopped_at DestPhase.Discarding world).source world.destination.kept world.forward.frames world.urgent.frames old.2)
ended_wires DestPhase.Running world other flows old =
    let copies : copies_of (world.forward.frames ++ end_frame world.source ∷ []) ≡ copies_of world.forward.frames = copies_of-append world.forward.frames (end_frame world.source ∷ []) ∙ append-nil (copies_of world.forward.frames) in (
      flows Pushed old.0,
      old.1,
      record {
        whereabouts = λ q origin owed. ap (λ c. is_urgent_or_left world.source.remaining world.urgent.frames origin || has_copy c origin || has_copy world.destination.arrivals origin) copies ∙ old.2.whereabouts q origin owed;
      },
    )
ended_wires DestPhase.Paused world other flows old = absurd old
ended_wires DestPhase.Ended world other flows old = absurd (false≢true (sym other ∙ eq-eqb world.source.end_epoch world.source.epoch old.2))

ended_in : (from : SourcePhase) (to : DestPhase) (world : World) → is_stopped from ≡ true → world.up ≡ true → eqb world.source.end_epoch world.source.epoch ≡ false → least_of world.source.remaining ≡ None → IsSoundWorld (in_phases from to world) → IsSoundWorld (after_end (in_phases from to world))
ended_in SourcePhase.Stopped to world stopped up other none kept =
    let new : World = after_end (stopped_at to world) in
    let source = world.source in
    let bytes = (space_of source).host.bytes in
    let nothing = nothing_remains (in_phases SourcePhase.Stopped to world) kept none in
    let before : flow_of source ≡ Pushed = ap (λ b. cond b AfterEnd Pushed) other in
    let after : flow_of (end_sent_by source) ≡ AfterEnd = ap (λ b. cond b AfterEnd Pushed) (eqb-self source.epoch) in
    let copies : copies_of (world.forward.frames ++ end_frame source ∷ []) ≡ copies_of world.forward.frames = copies_of-append world.forward.frames (end_frame source ∷ []) ∙ append-nil (copies_of world.forward.frames) in
    let flows = λ (flow : Flow) (h : flow_after flow world.forward.frames ≡ Some (flow_of source)). flow_sent flow Pushed AfterEnd world.forward.frames (end_frame source) (h ∙ ap (λ f. Some f) before) refl ∙ ap (λ f. Some f) (sym after) in
    let pushing = pushing_stopped new.source new.up kept.phases.source_phase (λ h. nothing) kept.pushing.remaining_present (omega arith) in
    let copies_whole = subst AreWhole (sym copies) kept.copies.copies_whole in
    let flight = flight_up new up (λ ran. subst (λ c. AreFaithful bytes c) (sym copies) (kept.flight.flight_faithful ran)) (ended_wires to world other flows (kept.flight.wires up)) in
    let forward_epoch = AreOf-one source.epoch world.forward.frames (End source.urgent_sent) kept.epochs.forward_epoch in
    let forward_held = fits-more world.forward.frames world.forward.held source.epoch (End source.urgent_sent ∷ []) kept.held.forward_held in
    assumption
ended_in _ to world stopped up other none kept = none_absurd stopped

pub kept-end : (world : World) → IsSoundWorld world → is_stopped world.source.phase ≡ true → world.up ≡ true → eqb world.source.end_epoch world.source.epoch ≡ false → least_of world.source.remaining ≡ None → IsSoundWorld (after_end world)
kept-end world kept stopped up other none = ended_in world.source.phase world.destination.phase world stopped up other none kept

pub member_less : (set other : FinSet nat_cmp) (q : ℕ) → contains (less set other) q ≡ (contains set q && not (contains other q))
member_less set other q = contains-retain set (λ page. not (contains other page)) q (λ x e. ap (λ k. not (contains other k)) (sym (nat_cmp-IsAntisymmetric q x e)))

pub get-discarded : (kept : FinMap nat_cmp (List ℕ)) (pages : FinSet nat_cmp) (q : ℕ) → get (kept_after kept (Discard pages)) q ≡ cond (contains pages q) None (get kept q)
get-discarded kept pages q =
    get-retain_keys kept (λ page. not (contains pages page)) q (λ x e. ap (λ k. not (contains pages k)) (sym (nat_cmp-IsAntisymmetric q x e)))
    ∙ cond_not (contains pages q) (get kept q) None

-- one page: what is kept of it once it was discarded or not is its bytes, unless it is owed
rest_of : (clean sent low present : Bool) (k bytes : Option (List ℕ)) → (clean ≡ true → k ≡ bytes) → (is_some k ≡ true → sent ≡ true) → present ≡ is_some bytes → (present ≡ true → low ≡ true) →
    cond (sent && not clean) None k ≡ cond ((low && present) && not clean) None bytes
rest_of clean sent low present k bytes same was is below = grind (arith, nat_tests)

-- the two frames of a switch
abbrev discard_frame : Source → Sent
discard_frame source = record { epoch = source.epoch; frame = Discard (less source.log.sent source.log.clean) }

abbrev package_frame : Source → Sent
package_frame source = record { epoch = source.epoch; frame = Package (space_of source).host.areas (not_clean source) (commands_of source.guest.cpus) }

abbrev switched_wire : Source → List Sent → List Sent
switched_wire source forward = (forward ++ discard_frame source ∷ []) ++ package_frame source ∷ []

pub member_not_clean : (source : Source) (page : ℕ) → contains (not_clean source) page ≡ ((ltb page HIGH_PAGE && is_present (space_of source) page) && not (contains source.log.clean page))
member_not_clean source page = member_less (present (space_of source)) source.log.clean page ∙ ap (λ b. b && not (contains source.log.clean page)) (member_below (λ q. is_present (space_of source) q) HIGH_PAGE page)

switching : (flow : Flow) (world : World) → IsSoundWorld world → (space_of world.source).object.events ≡ [] → flow_after flow world.forward.frames ≡ Some Copies → IsPrecopying world.source world.destination.kept world.forward.frames →
    IsSwitching (switch_made world.source) world.destination.kept (switched_wire world.source world.forward.frames) world.urgent.frames
switching flow world kept quiet flows old =
    let source = world.source in
    let more = discard_frame source ∷ package_frame source ∷ [] in
    let joined : switched_wire source world.forward.frames ≡ world.forward.frames ++ more = append_assoc world.forward.frames (discard_frame source ∷ []) (package_frame source ∷ []) in
    let there = has_no_package flow world.destination.kept world.forward.frames more flows in
    let nothing_behind : copies_of (after_package (switched_wire source world.forward.frames)) ≡ [] = ap (λ w. copies_of (after_package w)) joined ∙ ap copies_of there.behind_then in
    record {
      owed = not_clean source;
      plan = ap package_in joined ∙ there.plan;
      owed_present = λ page h. owed_is_present source page h;
      kept_rest = λ page.
          ap (λ w. get (kept_by world.destination.kept w) page) joined
          ∙ ap (λ k. get k page) there.kept_then
          ∙ get-discarded (kept_by world.destination.kept world.forward.frames) (less source.log.sent source.log.clean) page
          ∙ ap (λ b. cond b None (get (kept_by world.destination.kept world.forward.frames) page)) (member_less source.log.sent source.log.clean page)
          ∙ rest_of (contains source.log.clean page) (contains source.log.sent page) (ltb page HIGH_PAGE) (is_present (space_of source) page) (get (kept_by world.destination.kept world.forward.frames) page) (get (space_of source).host.bytes page)
          (λ clean. old.clean_copy page clean (ap (λ e. is_unread e page) quiet)) (old.copies_sent page) refl
          (λ is. lt-ltb page HIGH_PAGE (present_below (space_of source) page kept.spaces.source_space.host is))
          ∙ sym (ap (λ b. cond b None (get (space_of source).host.bytes page)) (member_not_clean source page));
      whereabouts = λ page h. ap (λ b. (b || has_copy (copies_of world.urgent.frames) page) || has_copy (copies_of (after_package (switched_wire source world.forward.frames))) page) h;
      faithful = subst (λ c. AreFaithful (space_of source).host.bytes c) (sym nothing_behind) tt;
    }

flows_on : (flow : Flow) (world : World) → flow_after flow world.forward.frames ≡ Some Copies → world.source.end_epoch ≢ world.source.epoch → flow_after flow (switched_wire world.source world.forward.frames) ≡ Some (flow_of world.source)
flows_on flow world h other =
    flow_sent flow BeforePackage Pushed (world.forward.frames ++ discard_frame world.source ∷ []) (package_frame world.source) (flow_sent flow Copies BeforePackage world.forward.frames (discard_frame world.source) h refl) refl
    ∙ ap (λ f. Some f) (sym (flow_open world.source other))

switched_wires : (to : DestPhase) (world : World) → IsSoundWorld (in_phases SourcePhase.Precopy to world) → (space_of world.source).object.events ≡ [] → world.source.end_epoch ≢ world.source.epoch →
    PrecopyWires (in_phases SourcePhase.Precopy to world).source (in_phases SourcePhase.Precopy to world).destination world.forward.frames world.back.frames →
    StoppedWires (switch_made (in_phases SourcePhase.Precopy to world).source) (in_phases SourcePhase.Precopy to world).destination (switched_wire world.source world.forward.frames) world.back.frames world.urgent.frames
switched_wires DestPhase.Idle world kept quiet other old =
    (flows_on BeforeAdvise world old.0 other, old.1, switching BeforeAdvise (in_phases SourcePhase.Precopy DestPhase.Idle world) kept quiet old.0 old.2)
switched_wires DestPhase.Advised world kept quiet other old =
    (flows_on Copies world old.0 other, old.1, switching Copies (in_phases SourcePhase.Precopy DestPhase.Advised world) kept quiet old.0 old.2)
switched_wires DestPhase.Discarding world kept quiet other old = absurd old
switched_wires _ world kept quiet other old = absurd old

was_not_ended : (A : Type 0) → (A ⊎ (SourcePhase.Precopy ≡ SourcePhase.Idle)) → A
was_not_ended A told = grind (arith, nat_tests)

switched_in : (from : SourcePhase) (to : DestPhase) (world : World) → is_precopy from ≡ true → world.up ≡ true → (space_of world.source).object.events ≡ [] → IsSoundWorld (in_phases from to world) → IsSoundWorld (after_switch (in_phases from to world))
switched_in SourcePhase.Precopy to world precopy up quiet kept =
    let source = world.source in
    let other : source.end_epoch ≢ source.epoch = was_not_ended _ (kept.pushing.before_switch kept.phases.source_phase).1 in
    let copies : copies_of (switched_wire source world.forward.frames) ≡ copies_of world.forward.frames =
    copies_of-append (world.forward.frames ++ discard_frame source ∷ []) (package_frame source ∷ []) ∙ append-nil (copies_of (world.forward.frames ++ discard_frame source ∷ []))
    ∙ copies_of-append world.forward.frames (discard_frame source ∷ []) ∙ append-nil (copies_of world.forward.frames) in
    let new : World = after_switch (in_phases SourcePhase.Precopy to world) in
    let phases : AreSoundPhases new.source.phase new.source.switched new.destination.phase new.destination.has_run new.destination.ended (space_of new.source).object.events =
    record { source_phase = refl; destination_phase = kept.phases.destination_phase; ran_after_switch = λ ran. refl; ended_after_run = kept.phases.ended_after_run; source_quiet = λ h. quiet } in
    let precopy = log_stopped new.source refl in
    let pushing = pushing_stopped new.source new.up refl (λ h. absurd (other h)) (λ page h. owed_is_present source page h) kept.pushing.ended_before in
    let copies_whole = subst AreWhole (sym copies) kept.copies.copies_whole in
    let flight = flight_up new up (λ ran. absurd (false≢true (sym kept.phases.source_phase ∙ kept.phases.ran_after_switch ran))) (switched_wires to world kept quiet other (kept.flight.wires up)) in
    let forward_epoch = AreOf-one source.epoch (world.forward.frames ++ discard_frame source ∷ []) (package_frame source).frame (AreOf-one source.epoch world.forward.frames (discard_frame source).frame kept.epochs.forward_epoch) in
    let forward_held = fits-more world.forward.frames world.forward.held source.epoch (switch_frames source) kept.held.forward_held in
    assumption
switched_in _ to world precopy up quiet kept = none_absurd precopy

pub kept-switch : (world : World) → IsSoundWorld world → is_precopy world.source.phase ≡ true → world.up ≡ true → is_changing world.source.guest ≡ false → IsSoundWorld (after_switch world)
kept-switch world kept precopy up quiet = switched_in world.source.phase world.destination.phase world precopy up (no_event (space_of world.source).object.events quiet) kept
