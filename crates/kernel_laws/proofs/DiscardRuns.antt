-- MADV_DONTNEED in a log: its REMOVE is read, and it returns.
use Rattle.std.proofs.lemmas.Bool.Decides.{nat_tests}
use Rattle.std.proofs.Common.{◌≡◌, ℕ, ◌<◌, ◌+◌, ◌*◌, ◌/◌, ◌%◌, ◌||◌, true, false, eqb, Some, None, List, [], ◌∷◌, ◌++◌, map, arith, refl, sym, ap, ◌∙◌}
use Rattle.mig_base.specs.declared.message.Message.TheVariants.{Remove}
use Rattle.foundation.specs.Ranges.{pages_of}
use Rattle.mig_base.specs.Userfault.{Noted, Object as ModelObject, event_queued, is_watched, message_read, read_by, rest_noted}
use Rattle.foundation.proofs.TestLemmas.{or_first}
use Rattle.mig_model.specs.Ioctls.{has_events}
use Rattle.mig_model.specs.Space.{IsSoundSpace, Space}
use Rattle.uffd_log.specs.declared.call.Call.TheVariants as call
use Rattle.uffd_log.specs.declared.call.Descriptor.{Descriptor}
use Rattle.uffd_log.specs.declared.call.Message.TheVariants as log
use Rattle.uffd_log.specs.declared.line.Answer.{Answer}
use Rattle.uffd_log.specs.declared.line.Answer.TheVariants.{Value}
use Rattle.kernel_rules.specs.declared.run.Made.{Made}
use Rattle.kernel_rules.specs.MapCalls.{clearing, clears, madvised, returned}
use Rattle.kernel_rules.specs.Reads.{message_taken, read}
use Rattle.kernel_rules.specs.Runs as runs
use Rattle.kernel_rules.specs.Runs.{Event, Leads, Outcome, begins, effect_at_end, ends, is_still, lines_of, line_of, on_object, on_space, takes, world_with}
use Rattle.kernel_rules.specs.State.{Kernel, of_object}
use Rattle.kernel_laws.specs.Agreement.{Counterparts, message_of}
use Rattle.kernel_laws.specs.Logs.{lines_of_call, read_call, under_way}
use Rattle.kernel_laws.proofs.Beside.{world_of}
use Rattle.kernel_laws.proofs.Clearing.{dropped_space}
use Rattle.kernel_laws.proofs.Discards.{agree-discarded, announced, announces, announcing, clears-it, discarded, discarding, discards-it, quiet-again, range-watched, reader-may, reader-returns, span_for, takes-remove}
use Rattle.kernel_laws.proofs.EventReads.{remove_of}
use Rattle.kernel_laws.proofs.FaultReads.{sound-requeued, takes-read}
use Rattle.kernel_laws.proofs.Kernels.{is-enabled}
use Rattle.kernel_laws.proofs.LogRuns.{Differs, Goes, both-differ, call-ends, leads-append, steps_in, takes-effect}
use Rattle.kernel_laws.proofs.MapRuns.{but-first, first-begun, map-call}
use Rattle.kernel_laws.proofs.OpenCalls.{HasCalls, MayWake, Pending, none-begun, open_of, over_of}
use Rattle.kernel_laws.proofs.Unmaps.{remove-tells}
use Rattle.std.proofs.lemmas.List.Elements.{filter_map-append}

-- a MADV_DONTNEED of a processor that succeeds, or reaches a hole, with pages that are registered
pub record Discard : Type 0 where
  pub key : ℕ
  pub home : ℕ
  pub addr : ℕ
  pub len : ℕ
  pub cpu : ℕ
  pub answer : Answer
  pub whole : addr % 4096 ≡ 0
  pub wakes : MayWake addr (addr + 4096 * pages_of len)
  pub still : is_still (record { answer = answer; messages = []; runs = [] }) ≡ true
  pub ends : Some (record { answer = answer; messages = []; runs = [] }) ≡ effect_at_end answer (record { answer = answer; messages = []; runs = [] })
  pub takes : (kernel : Kernel) → madvised kernel key home addr len 4 answer ≡ Some (clearing kernel key home (addr / 4096) (pages_of len) false)

-- its REMOVE
abbrev pub noted_by : Discard → Noted
noted_by it = record { message = Remove it.addr (it.addr + 4096 * pages_of it.len); cpu = it.cpu }

-- as a call under way
abbrev pub pending_for : Discard → Pending
pending_for it = record { key = it.key; home = it.home; call = call.Madvise it.addr it.len 4; answer = it.answer; all = (noted_by it).message ∷ []; unread = record { rank = 0; message = (noted_by it).message } ∷ []; modelled = noted_by it ∷ [] }

-- it has begun, and has had no effect
abbrev pub waiting : Discard → runs.Begun
waiting it = record { made = (open_of (pending_for it)).made; out = None; left = 0 }

-- the space that the model has from then on
abbrev pub dropped_by : Discard → Space → Space
dropped_by it space = dropped_space space (it.addr / 4096) (pages_of it.len) it.addr (it.addr + 4096 * pages_of it.len) it.cpu true

-- a run of these lines leads from a world, whose kernel's object agrees with the model's, to one whose object agrees with this space
pub record From (start : runs.World) (after : List Pending) (one : Counterparts) (lines : List Event) (space : Space) : Type 0 where
  pub steps : List runs.Step
  pub last : Counterparts
  pub whole : lines_of steps ≡ lines
  pub leads : Leads start steps (under_way last.kernel (map open_of after))
  pub leaves : last.space ≡ space
  pub name : last.name ≡ one.name
  pub home : last.object.space ≡ one.object.space
  pub told : HasCalls after last
  pub differs : Differs lines one.kernel last.kernel

pub then-from : {start : runs.World} {mid after : List Pending} (one : Counterparts) (lines more : List Event) (space last : Space) → (first : From start mid one lines space) → Goes mid after first.last more last → From start after one (lines ++ more) last
then-from {start = start} {mid = mid} {after = after} one lines more space last first second =
    record {
      steps = first.steps ++ second.steps;
      last = second.last;
      whole = filter_map-append line_of first.steps second.steps ∙ (λ i. first.whole i ++ second.whole i);
      leads = leads-append start (under_way first.last.kernel (map open_of mid)) (under_way second.last.kernel (map open_of after)) first.steps second.steps first.leads second.leads;
      leaves = second.leaves;
      name = second.name ∙ first.name;
      home = second.home ∙ first.home;
      told = second.told;
      differs = both-differ lines more one.kernel first.last.kernel second.last.kernel first.differs second.differs;
    }

-- the object once that message is read, and it was the only one
read-back : (object : ModelObject) (noted : Noted) → object.faults ≡ [] → object.events ≡ [] → object ≡ message_read (event_queued object noted.message noted.cpu)
read-back object noted faults events =
    let queued = event_queued object noted.message noted.cpu in
    (λ i. record object { events = events i })
    ∙ (λ i. record object { events = rest_noted (sym events i ++ noted ∷ []) })
    ∙ ap (λ f. read_by f queued) (sym faults)

pub starts : (addr : ℕ) → addr % 4096 ≡ 0 → addr ≡ 4096 * (addr / 4096)
starts addr whole = omega (arith, whole)

pub stops : (addr count : ℕ) → addr % 4096 ≡ 0 → addr + 4096 * count ≡ 4096 * (addr / 4096 + count)
stops addr count whole = omega (arith, whole)

less-apart : (a b : ℕ) → a < b → (eqb a b || false) ≡ false
less-apart a b h = grind (arith, nat_tests, h)

-- it takes effect, queues its REMOVE, which is read, clears the pages and returns
pub remove-read : (it : Discard) (one : Counterparts) (key : ℕ) (on : Descriptor) → it.key < key → on.object ≡ one.name → HasCalls [] one → it.home ≡ one.object.space → one.space.object.enabled ≡ true → has_events one.space.object ≡ true →
    is_watched one.space.object (it.addr / 4096) (pages_of it.len) ≡ true → one.space.object.faults ≡ [] → one.space.object.events ≡ [] → IsSoundSpace (dropped_by it one.space) →
    From (world_of one.kernel (waiting it ∷ [])) [] one (lines_of_call key (read_call on (noted_by it).message) ++ ends it.key (open_of (pending_for it)).out ∷ [])
    (record (dropped_by it one.space) { object = message_read (dropped_by it one.space).object })
unfolding on_object on_space
remove-read it one key on low own told there enabled asked watched faults events sound =
    let kernel = one.kernel in
    let name = one.name in
    let first = it.addr / 4096 in
    let count = pages_of it.len in
    let p = pending_for it in
    let span = span_for it.key one.object.space first (first + count) in
    let over = over_of p in
    let out = (open_of p).out in
    let ended = read_call on (noted_by it).message in
    let made : Made = record { key = key; space = 0; thread = 0; program = 0; call = ended.call; last = false } in
    let begun : runs.Begun = record { made = made; out = None; left = 0 } in
    let read_over : runs.Begun = record { made = made; out = Some ended.out; left = 0 } in
    let k1 = discarding kernel name span in
    let k2 = announcing kernel name span in
    let k3 = announced kernel name span in
    let k4 = discarded kernel name span in
    let apart = less-apart it.key key low in
    let other : eqb it.key key ≡ false = or_first (eqb it.key key) false apart in
    let tells_it = remove-tells (map-call [] one it.key refl told enabled asked) first count true watched in
    let taken : takes kernel over.made out ≡ Some k1 = it.takes kernel ∙ (λ i. Some (clearing kernel it.key (there i) first count false)) ∙ ap (λ k. Some k) (discards-it kernel it.key one.object.space first count name told tells_it) in
    let says : message_of (noted_by it).message ≡ remove_of span = λ i. log.Remove (starts it.addr it.whole i) (stops it.addr count it.whole i) in
    let takes_it : read k2 key None name one.object None (message_of (noted_by it).message ∷ []) (Value 1) ≡ Some k3 =
    takes-read k2 k3 key None name one.object None (message_of (noted_by it).message) (is-enabled one.agree ∙ enabled) refl
    (ap (λ m. message_taken k2 key None name one.object m 0) says ∙ takes-remove kernel key name one.object span (range-watched one first count watched) one.agree.unread.none_queued) in
    let read_taken : takes k2 made ended.out ≡ Some k3 =
    ap (λ n. of_object (k2.objects n) (λ object. on_object k2 made n object ended.out ended.call)) own
    ∙ ap (λ o. of_object o (λ object. on_object k2 made name object ended.out ended.call)) one.agree.named
    ∙ takes_it in
    let new = dropped_space one.space first count it.addr (it.addr + 4096 * count) it.cpu false in
    record {
      steps = runs.Step.effect it.key out ∷ runs.Step.call_tells it.key ∷ (steps_in 0 key ended ++ runs.Step.call_clears it.key ∷ runs.Step.line (ends it.key out) ∷ []);
      last = record {
        space = new;
        kernel = returned k4 it.key;
        name = name;
        object = one.object;
        agree = agree-discarded one first count it.addr (it.addr + 4096 * count) it.cpu it.key (sound-requeued (dropped_by it one.space) one.space.object.faults one.space.object.events sound) events;
      };
      whole = refl;
      leads = (
        world_of k1 (over ∷ []),
        takes-effect [] kernel k1 over.made out refl taken,
        (
          world_of k2 (over ∷ []),
          ap (world_with (world_of k1 (over ∷ []))) (announces kernel name span),
          (
            world_of k2 (over ∷ begun ∷ []),
            (none-begun key (p ∷ []) apart, refl),
            (
              world_of k3 (over ∷ read_over ∷ []),
              takes-effect (p ∷ []) k2 k3 made ended.out apart read_taken,
              (
                under_way (returned k3 key) (map open_of (p ∷ [])),
                call-ends (p ∷ []) k3 made ended.out apart refl refl (reader-may kernel name key span other),
                (
                  world_of k4 (over ∷ []),
                  ap (λ k. world_with (world_of k (over ∷ [])) (clears k it.key)) (reader-returns kernel name key span other) ∙ ap (world_with (world_of k3 (over ∷ []))) (clears-it kernel name span),
                  (under_way (returned k4 it.key) [], (over, it.still, first-begun p [], refl, it.ends, refl, ap (λ b. world_of (returned k4 it.key) b) (sym (but-first p [] refl))), refl),
                ),
              ),
            ),
          ),
        ),
      );
      leaves = ap (λ o. record new { object = o }) (read-back one.space.object (noted_by it) faults events);
      name = refl;
      home = refl;
      told = quiet-again kernel name span;
      differs = λ moves none h. h;
    }
