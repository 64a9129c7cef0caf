-- Runs once all contents are changed.
use Rattle.std.proofs.lemmas.Bool.Decides.{nat_tests}
use Rattle.std.proofs.Common.{◌≡◌, ℕ, zero, suc, ◌-◌, ◌/◌, ◌&&◌, Bool, true, false, cond, ltb, leb, Option, Some, None, List, [], ◌∷◌, map, replicate, refl, sym, ap, ◌∙◌, arith}
use Rattle.std.specs.Prelude.{Ok, Err}
use Rattle.std.specs.Option.{option_map, option_and_then}
use Rattle.std.specs.List.{list_all}
use Rattle.std.specs.Ordering.{nat_cmp}
use Rattle.std.specs.FinMap.{FinMap, get}
use Rattle.std.proofs.lemmas.Bool.{and_parts}
use Rattle.mig_base.specs.declared.TheConstants.{HIGH_PAGE}
use Rattle.mig_base.specs.declared.command.Command.{Command}
use Rattle.mig_base.specs.declared.command.Command.TheVariants.{Store}
use Rattle.mig_base.specs.declared.command.Reply.{Reply}
use Rattle.mig_base.specs.declared.command.Reply.TheVariants.{Value}
use Rattle.mig_base.specs.declared.cpu_state.CpuState.{CpuState}
use Rattle.mig_base.specs.declared.schedule.Step.{Step}
use Rattle.mig_base.specs.Pages.{map_below}
use Rattle.mig_base.proofs.PageLemmas.{get-map_below, same_pages}
use Rattle.mig_model.specs.Guest.{Guest}
use Rattle.mig_model.specs.Host.{Host, bare_host, memory}
use Rattle.mig_model.specs.Lengths.{text_len}
use Rattle.mig_model.specs.Migration.{Answer, World, after_steps, answer, first_world_with, next, next_by, outcome, outcome_by}
use Rattle.mig_model.specs.Promises.{IsReached}
use Rattle.mig_model.specs.Runs.{outcomes}
use Rattle.mig_model.specs.Source.{space_of}
use Rattle.mig_model.specs.Whereabouts.{current_by, current_host, seen_bytes}
use Rattle.mig_model.specs.Destination.{settled}
use Rattle.mig_model.specs.Wire.{Frame, Sent, Wire, is_zeros}
use Rattle.mig_model.specs.Wire.Frame.{Page, Zero, Run, Package}
use Rattle.mig_laws.specs.Contents.{IsByteMap, command_under, cpu_under, digits_under, guest_under, host_under, memory_under, pages_under, reply_under}
use Rattle.mig_laws.specs.Runs.{AreAlikeGuests, AreAlikeWires, DecideAlike, IsReachedWhole, KeepsOthers, NonePartial, bare_command, bare_cpu, bare_frame, bare_reply, is_long, outcomes_under}
use Rattle.mig_laws.specs.Worlds.{HasWholePages, answer_under, copy_under, ends_inside, frame_under, is_page, is_partial, outcome_under, sent_under, step_under, wire_under, world_under}
use Rattle.mig_laws.proofs.ObjectCalls.{present-under}
use Rattle.mig_laws.proofs.PageMaps.{contains_key-map_values, get-map_values, map_values-empty}
use Rattle.mig_laws.proofs.Replies.{memory-under}
use Rattle.mig_laws.proofs.WholeWorlds.{whole-first, whole-next}
use Rattle.mig_laws.proofs.WorldSteps.{IsAlike, alike_kept, alike_whole, answer-under}

-- One step

outcome_of : (f : ℕ → ℕ) (world : World) (step : Step) (a : Answer) → outcome_by (answer_under f world step a) ≡ outcome_under f world step (outcome_by a)
outcome_of f world step (Ok made) = refl
outcome_of f world step (Err refusal) = refl

pub outcome-under : (f : ℕ → ℕ) → IsByteMap f → (world : World) → HasWholePages world → (step : Step) → IsAlike f world step → outcome (world_under f world) (step_under f step) ≡ outcome_under f world step (outcome world step)
unfolding outcome
outcome-under f is world whole step alike = ap outcome_by (answer-under f is world whole step alike) ∙ outcome_of f world step (answer world step)

next_of : (f : ℕ → ℕ) (world : World) (step : Step) (a : Answer) → next_by (world_under f world) (answer_under f world step a) ≡ world_under f (next_by world a)
next_of f world step (Ok made) = refl
next_of f world step (Err refusal) = refl

pub next-under : (f : ℕ → ℕ) → IsByteMap f → (world : World) → HasWholePages world → (step : Step) → IsAlike f world step → next (world_under f world) (step_under f step) ≡ world_under f (next world step)
unfolding next
next-under f is world whole step alike = ap (next_by (world_under f world)) (answer-under f is world whole step alike) ∙ next_of f world step (answer world step)

-- Runs

abbrev pub AreAlike : (ℕ → ℕ) → World → List Step → Type 0
AreAlike f world [] = Unit {0}
AreAlike f world (step ∷ steps) = IsAlike f world step × AreAlike f (next world step) steps

pub alike_run : (f : ℕ → ℕ) (world : World) (steps : List Step) → NonePartial world steps → AreAlike f world steps
alike_run f world [] none = tt
alike_run f world (step ∷ steps) none = (alike_whole f world step none.0, alike_run f (next world step) steps none.1)

pub kept_run : (f : ℕ → ℕ) → KeepsOthers f → (world : World) → HasWholePages world → (steps : List Step) → AreAlike f world steps
kept_run f keeps world whole [] = tt
kept_run f keeps world whole (step ∷ steps) = (alike_kept f keeps world whole step, kept_run f keeps (next world step) (whole-next world step whole) steps)

pub after-under : (f : ℕ → ℕ) → IsByteMap f → (world : World) → HasWholePages world → (steps : List Step) → AreAlike f world steps → after_steps (world_under f world) (map (step_under f) steps) ≡ world_under f (after_steps world steps)
after-under f is world whole [] alike = refl
after-under f is world whole (step ∷ steps) alike =
    ap (λ (w : World). after_steps w (map (step_under f) steps)) (next-under f is world whole step alike.0) ∙ after-under f is (next world step) (whole-next world step whole) steps alike.1

pub outcomes-under : (f : ℕ → ℕ) → IsByteMap f → (world : World) → HasWholePages world → (steps : List Step) → AreAlike f world steps → outcomes (world_under f world) (map (step_under f) steps) ≡ outcomes_under f world steps
outcomes-under f is world whole [] alike = refl
outcomes-under f is world whole (step ∷ steps) alike =
    let first = outcome-under f is world whole step alike.0 in
    let rest =
    ap (λ (w : World). outcomes w (map (step_under f) steps)) (next-under f is world whole step alike.0) ∙ outcomes-under f is (next world step) (whole-next world step whole) steps alike.1 in
    λ i. first i ∷ rest i

-- Long deliveries

longer : (n held : ℕ) → leb 4112 n ≡ true → ltb n (4112 - held) ≡ false
longer n held h = grind (arith, nat_tests)

long_first : (frame : Frame) (n held : ℕ) → leb 4112 n ≡ true → (is_page frame && ltb n (text_len frame - held)) ≡ false
long_first (Page page bytes) n held h = longer n held h
long_first _ n held h = refl

long_frames : (frames : List Sent) (n held : ℕ) → leb 4112 n ≡ true → ends_inside (record { frames = frames; held = held }) n ≡ false
long_frames [] n held h = refl
long_frames (sent ∷ rest) n held h = long_first sent.frame n held h

pub long_whole : (world : World) (step : Step) → is_long step ≡ true → is_partial world step ≡ false
long_whole world (Step.Deliver n) h = long_frames world.forward.frames n world.forward.held h
long_whole world (Step.DeliverBack n) h = long_frames world.back.frames n world.back.held h
long_whole world (Step.DeliverUrgent n) h = long_frames world.urgent.frames n world.urgent.held h
long_whole world _ h = refl

pub long_run : (world : World) (steps : List Step) → list_all is_long steps ≡ true → NonePartial world steps
long_run world [] h = tt
long_run world (step ∷ steps) h = let both = and_parts (is_long step) (list_all is_long steps) h in (long_whole world step both.0, long_run (next world step) steps both.1)

-- The first world has no contents

idle_stay : (f : ℕ → ℕ) (n : ℕ) → map (cpu_under f) (replicate n CpuState.Idle) ≡ replicate n CpuState.Idle
idle_stay f zero = refl
idle_stay f (suc n) = ap (λ (l : List CpuState). CpuState.Idle ∷ l) (idle_stay f n)

pub first-under : (f : ℕ → ℕ) (cpus epoch rounds : ℕ) → world_under f (first_world_with cpus epoch rounds) ≡ first_world_with cpus epoch rounds
first-under f cpus epoch rounds =
    let first = first_world_with cpus epoch rounds in
    let none = map_values-empty (map f) in
    let idle = idle_stay f cpus in
    λ i. record first {
      source = record first.source { guest = record { space = record (space_of first.source) { host = record bare_host { bytes = none i } }; cpus = idle i } };
      destination = record first.destination { kept = none i; guest = record { space = record first.destination.guest.space { host = record bare_host { bytes = none i } }; cpus = idle i } };
    }

-- the changed world of a run is the world of the changed run, so it is reached too
pub reached-by : (f : ℕ → ℕ) → IsByteMap f → (cpus epoch rounds : ℕ) (steps : List Step) → AreAlike f (first_world_with cpus epoch rounds) steps →
    after_steps (first_world_with cpus epoch rounds) (map (step_under f) steps) ≡ world_under f (after_steps (first_world_with cpus epoch rounds) steps)
reached-by f is cpus epoch rounds steps alike =
    ap (λ (w : World). after_steps w (map (step_under f) steps)) (sym (first-under f cpus epoch rounds)) ∙ after-under f is (first_world_with cpus epoch rounds) (whole-first cpus epoch rounds) steps alike

pub reached-under : (f : ℕ → ℕ) → IsByteMap f → (world : World) → IsReachedWhole world → IsReached (world_under f world)
reached-under f is world reached =
    let first = first_world_with reached.cpus reached.epoch reached.rounds in
    record {
      cpus = reached.cpus;
      epoch = reached.epoch;
      rounds = reached.rounds;
      steps = map (step_under f) reached.steps;
      is = ap (world_under f) reached.is ∙ sym (reached-by f is reached.cpus reached.epoch reached.rounds reached.steps (alike_run f first reached.steps reached.whole));
    }

pub kept-reached-under : (f : ℕ → ℕ) → IsByteMap f → KeepsOthers f → (world : World) → IsReached world → IsReached (world_under f world)
kept-reached-under f is keeps world reached =
    let first = first_world_with reached.cpus reached.epoch reached.rounds in
    record {
      cpus = reached.cpus;
      epoch = reached.epoch;
      rounds = reached.rounds;
      steps = map (step_under f) reached.steps;
      is =
          ap (world_under f) reached.is
          ∙ sym (reached-by f is reached.cpus reached.epoch reached.rounds reached.steps (kept_run f keeps first (whole-first reached.cpus reached.epoch reached.rounds) reached.steps));
    }

-- The memory that the guest sees

seen_by : (f : ℕ → ℕ) (there : Host) (from : Option ℕ) (o : Option (List ℕ)) →
    (elim (option_map (map f) o) as (λ x. Option (List ℕ)) [ Some bytes ↦ Some bytes | None ↦ option_and_then (get (pages_under f there.bytes)) from ])
    ≡ option_map (map f) (elim o as (λ x. Option (List ℕ)) [ Some bytes ↦ Some bytes | None ↦ option_and_then (get there.bytes) from ])
seen_by f there from (Some bytes) = refl
seen_by f there None None = refl
seen_by f there (Some origin) None = get-map_values (map f) there.bytes origin

seen-under : (f : ℕ → ℕ) (here there : Host) (owed : ℕ → Option ℕ) (page : ℕ) → seen_bytes (host_under f here) (host_under f there) owed page ≡ option_map (map f) (seen_bytes here there owed page)
seen-under f here there owed page =
    ap (λ (o : Option (List ℕ)). elim o [ Some bytes ↦ Some bytes | None ↦ option_and_then (get (pages_under f there.bytes)) (owed page) ]) (get-map_values (map f) here.bytes page)
    ∙ seen_by f there (owed page) (get here.bytes page)

below_cond : (f : ℕ → ℕ) (b : Bool) (o : Option (List ℕ)) → cond b (option_map (map f) o) None ≡ option_map (map f) (cond b o None)
below_cond f true o = refl
below_cond f false o = refl

below-under : (f : ℕ → ℕ) (here there : Host) (owed : ℕ → Option ℕ) → map_below (seen_bytes (host_under f here) (host_under f there) owed) HIGH_PAGE ≡ pages_under f (map_below (seen_bytes here there owed) HIGH_PAGE)
below-under f here there owed =
    same_pages _ _ (λ q.
    get-map_below (seen_bytes (host_under f here) (host_under f there) owed) HIGH_PAGE q
    ∙ ap (λ (o : Option (List ℕ)). cond (ltb q HIGH_PAGE) o None) (seen-under f here there owed q)
    ∙ below_cond f (ltb q HIGH_PAGE) (seen_bytes here there owed q)
    ∙ ap (option_map (map f)) (sym (get-map_below (seen_bytes here there owed) HIGH_PAGE q))
    ∙ sym (get-map_values (map f) (map_below (seen_bytes here there owed) HIGH_PAGE) q))

current-under : (f : ℕ → ℕ) (ran : Bool) (here there : Host) (owed : ℕ → Option ℕ) → current_by ran (host_under f here) (host_under f there) owed ≡ host_under f (current_by ran here there owed)
current-under f false here there owed = refl
current-under f true here there owed = ap (λ (pages : FinMap nat_cmp (List ℕ)). record { areas = here.areas; bytes = pages }) (below-under f here there owed)

pub current_host-under : (f : ℕ → ℕ) (world : World) → current_host (world_under f world) ≡ host_under f (current_host world)
current_host-under f world = current-under f world.destination.has_run world.destination.guest.space.host world.source.guest.space.host (settled world.destination)

pub seen_memory-under : (f : ℕ → ℕ) → f 0 ≡ 0 → (world : World) → memory (current_host (world_under f world)) ≡ memory_under f (memory (current_host world))
seen_memory-under f h world = ap memory (current_host-under f world) ∙ memory-under f (current_host world) h

-- What worlds decide alike

bare-command : (f : ℕ → ℕ) (command : Command) → bare_command (command_under f command) ≡ bare_command command
bare-command f (Store addr width value) = refl
bare-command f _ = refl

bare-option : (f : ℕ → ℕ) (o : Option Command) → option_map bare_command (option_map (command_under f) o) ≡ option_map bare_command o
bare-option f None = refl
bare-option f (Some command) = ap (λ (c : Command). Some c) (bare-command f command)

bare-commands : (f : ℕ → ℕ) (commands : List (Option Command)) → map (option_map bare_command) (map (option_map (command_under f)) commands) ≡ map (option_map bare_command) commands
bare-commands f [] = refl
bare-commands f (command ∷ commands) = λ i. bare-option f command i ∷ bare-commands f commands i

abbrev no_bytes : List ℕ → List ℕ
no_bytes bytes = []

bare-pages : (f : ℕ → ℕ) (pages : List (List ℕ)) → map no_bytes (map (map f) pages) ≡ map no_bytes pages
bare-pages f [] = refl
bare-pages f (bytes ∷ pages) = ap (λ (l : List (List ℕ)). [] ∷ l) (bare-pages f pages)

bare_either : (page : ℕ) (bytes : List ℕ) (zeros : Bool) → bare_frame (cond zeros (Zero page) (Page page bytes)) ≡ Zero page
bare_either page bytes true = refl
bare_either page bytes false = refl

bare-frame : (f : ℕ → ℕ) (frame : Frame) → bare_frame (frame_under f frame) ≡ bare_frame frame
bare-frame f (Page page bytes) = bare_either page (map f bytes) (is_zeros (map f bytes))
bare-frame f (Run first pages) = ap (λ (l : List (List ℕ)). Run first l) (bare-pages f pages)
bare-frame f (Package areas owed commands) = ap (λ (l : List (Option Command)). Package areas owed l) (bare-commands f commands)
bare-frame f _ = refl

bare-frames : (f : ℕ → ℕ) (frames : List Sent) → map (λ (sent : Sent). record sent { frame = bare_frame sent.frame }) (map (sent_under f) frames) ≡ map (λ (sent : Sent). record sent { frame = bare_frame sent.frame }) frames
bare-frames f [] = refl
bare-frames f (sent ∷ rest) = λ i. record sent { frame = bare-frame f sent.frame i } ∷ bare-frames f rest i

wires-alike : (f : ℕ → ℕ) (wire : Wire) → AreAlikeWires wire (wire_under f wire)
wires-alike f wire = record { frames = bare-frames f wire.frames; held = refl }

bare-reply : (f : ℕ → ℕ) (reply : Reply) → bare_reply (reply_under f reply) ≡ bare_reply reply
bare-reply f (Value number) = refl
bare-reply f _ = refl

bare-cpu : (f : ℕ → ℕ) (state : CpuState) → bare_cpu (cpu_under f state) ≡ bare_cpu state
bare-cpu f CpuState.Idle = refl
bare-cpu f (CpuState.Asleep command) = ap (λ (c : Command). CpuState.Asleep c) (bare-command f command)
bare-cpu f (CpuState.Woken command) = ap (λ (c : Command). CpuState.Woken c) (bare-command f command)
bare-cpu f (CpuState.InCall reply left) = ap (λ (r : Reply). CpuState.InCall r left) (bare-reply f reply)

-- a change that a second function does not see
unseen : {A B : Type 0} (change : A → A) (view : A → B) → ((x : A) → view (change x) ≡ view x) → (xs : List A) → map view (map change xs) ≡ map view xs
unseen change view same [] = refl
unseen change view same (x ∷ xs) = λ i. same x i ∷ unseen change view same xs i

guests-alike : (f : ℕ → ℕ) (guest : Guest) → AreAlikeGuests guest (guest_under f guest)
guests-alike f guest =
    record { areas = refl; present = present-under f guest.space; protected = refl; object = refl; cpus = unseen (cpu_under f) bare_cpu (bare-cpu f) guest.cpus }

pub decide-alike : (f : ℕ → ℕ) (world : World) → DecideAlike world (world_under f world)
decide-alike f world =
    record {
      phase = refl;
      source_phase = refl;
      destination_phase = refl;
      switched = refl;
      has_run = refl;
      ended = refl;
      epochs = (refl, refl, refl);
      log = refl;
      held = refl;
      remaining = refl;
      asked = refl;
      owed = refl;
      requests = refl;
      urgent_frames = (refl, refl);
      left = refl;
      counts = refl;
      kept = contains_key-map_values (map f) world.destination.kept;
      arrivals = unseen (copy_under f) (λ copy. copy.page) (λ copy. refl) world.destination.arrivals;
      source = guests-alike f world.source.guest;
      destination = guests-alike f world.destination.guest;
      forward = wires-alike f world.forward;
      back = wires-alike f world.back;
      urgent = wires-alike f world.urgent;
      up = refl;
    }

-- Every byte made 0

pub zeros_map : IsByteMap (λ n. 0)
zeros_map = record { keeps_zero = refl; byte = λ n l. omega arith }

pub digits_none : (k n : ℕ) → digits_under (λ m. 0) k n ≡ 0
unfolding digits_under
digits_none zero n = refl
digits_none (suc k) n = let rest = digits_none k (n / 256) in omega (arith, rest)
