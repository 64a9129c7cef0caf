-- A node at which a line is entered without bytes answers as the node that holds them all, and a driver does the same by both answers.
use Rattle.std.proofs.Common.{◌≡◌, ℕ, not, Bool, true, false, cond, Option, Some, None, List, [], map, get_or, refl, sym, ap, arith}
use Rattle.std.specs.Prelude.{Result, Ok, Err}
use Rattle.mig_base.specs.declared.command.Command.{Command}
use Rattle.mig_base.specs.declared.effect.Effect.{Effect}
use Rattle.mig_base.specs.declared.refusal.Refusal.{Refusal}
use Rattle.mig_base.specs.declared.schedule.Side.{Side}
use Rattle.mig_base.specs.declared.schedule.Step.{Step}
use Rattle.mig_model.specs.Destination.{Destination}
use Rattle.mig_model.specs.DestinationSteps as destination
use Rattle.mig_model.specs.Guest.{Guest}
use Rattle.mig_model.specs.GuestSteps.{Tried, issue, retry}
use Rattle.mig_model.specs.NodeSteps.{Acted, Sends}
use Rattle.mig_model.specs.Source.{Source}
use Rattle.mig_model.specs.SourceSteps as source
use Rattle.mig_model.specs.Wire.{Copy, is_zeros}
use Rattle.mig_laws.specs.Contents.{AreWholePages, IsByteMap, entry_under, guest_under}
use Rattle.mig_laws.specs.Drivers.{Held, There, here_after, no_byte, puts, there_after, entered, tries_again}
use Rattle.mig_laws.specs.Nodes.{destination_acted_under, destination_sends_under, map_ok, own_bytes, source_acted_under, source_sends_under, tried_under}
use Rattle.mig_laws.specs.Sides.{Did, Line, acts, destination_line, destination_step, sends, sends_urgently, source_line, source_step, tries}
use Rattle.mig_laws.specs.Worlds.{bytes_in, destination_under, effect_under, frame_under, source_under, step_under}
use Rattle.mig_laws.proofs.DestinationNode as there
use Rattle.mig_laws.proofs.GuestSteps.{issue-under, retry-under}
use Rattle.mig_laws.proofs.HeldDestination.{TakesWhole}
use Rattle.mig_laws.proofs.HeldGuests.{tries-under, zeroes-under}
use Rattle.mig_laws.proofs.OrderRuns.{never}
use Rattle.mig_laws.proofs.SourceNode as here
use Rattle.mig_laws.proofs.StepForms.{in_phase-map}

pub no_byte-map : IsByteMap no_byte
no_byte-map = record { keeps_zero = refl; byte = λ n below. omega arith }

-- what a line gives, without bytes
abbrev pub did_entered : {Node : Type 0} → (Node → Node) → (ℕ → List ℕ) → Did Node → Did Node
did_entered bare bytes did =
    record {
      effect = effect_under no_byte bytes did.effect;
      frames = map (frame_under no_byte) did.frames;
      urgent = map (frame_under no_byte) did.urgent;
      entries = map (entry_under no_byte) did.entries;
      node = bare did.node;
    }

-- The source

abbrev here_entered : (ℕ → List ℕ) → Did Source → Did Source
here_entered bytes did = did_entered (source_under no_byte) bytes did

acts-entered : (bytes : ℕ → List ℕ) (new step : Result (Acted Source) Refusal) → new ≡ map_ok (source_acted_under no_byte bytes) step → acts new ≡ map_ok (here_entered bytes) (acts step)
acts-entered bytes new (Ok acted) is = ap (λ (r : Result (Acted Source) Refusal). acts r) is
acts-entered bytes new (Err refusal) is = ap (λ (r : Result (Acted Source) Refusal). acts r) is

sends-entered : (bytes : ℕ → List ℕ) (new step : Result (Sends Source) Refusal) → new ≡ map_ok (source_sends_under no_byte bytes) step → sends new ≡ map_ok (here_entered bytes) (sends step)
sends-entered bytes new (Ok sent) is = ap (λ (r : Result (Sends Source) Refusal). sends r) is
sends-entered bytes new (Err refusal) is = ap (λ (r : Result (Sends Source) Refusal). sends r) is

urgently-entered : (bytes : ℕ → List ℕ) (new step : Result (Sends Source) Refusal) → new ≡ map_ok (source_sends_under no_byte bytes) step → sends_urgently new ≡ map_ok (here_entered bytes) (sends_urgently step)
urgently-entered bytes new (Ok sent) is = ap (λ (r : Result (Sends Source) Refusal). sends_urgently r) is
urgently-entered bytes new (Err refusal) is = ap (λ (r : Result (Sends Source) Refusal). sends_urgently r) is

tries-entered : (bytes : ℕ → List ℕ) (node : Source) (new step : Result Tried Refusal) → new ≡ map_ok (tried_under no_byte bytes) step →
    tries (λ guest. record (source_under no_byte node) { guest = guest }) new ≡ map_ok (here_entered bytes) (tries (λ guest. record node { guest = guest }) step)
tries-entered bytes node new (Ok tried) is = ap (λ (r : Result Tried Refusal). tries (λ guest. record (source_under no_byte node) { guest = guest }) r) is
tries-entered bytes node new (Err refusal) is = ap (λ (r : Result Tried Refusal). tries (λ guest. record (source_under no_byte node) { guest = guest }) r) is

-- the bytes of the page that a line of a source moves
abbrev pub bytes_here : Source → Line → ℕ → List ℕ
bytes_here node (Line.Took sent) = λ addr. bytes_in sent.frame
bytes_here node line = own_bytes node

step-here : (node : Source) → AreWholePages node.guest.space.host.bytes → (step : Step) → source_step (source_under no_byte node) (step_under no_byte step) ≡ map_ok (here_entered (own_bytes node)) (source_step node step)
step-here node whole (Step.Issue cpu command) = tries-entered (own_bytes node) node _ (issue node.guest (not node.switched) cpu command) (issue-under no_byte no_byte-map (own_bytes node) node.guest whole (not node.switched) cpu command)
step-here node whole (Step.Retry cpu) = tries-entered (own_bytes node) node _ (retry node.guest (not node.switched) cpu) (retry-under no_byte no_byte-map (own_bytes node) node.guest whole (not node.switched) cpu)
step-here node whole Step.Start = sends-entered (own_bytes node) _ (source.start node) (here.start-under no_byte (own_bytes node) node)
step-here node whole Step.Round = acts-entered (own_bytes node) _ (source.round node) (here.round-under no_byte (own_bytes node) node)
step-here node whole Step.Send = sends-entered (own_bytes node) _ (source.send node) (here.send-under no_byte refl node)
step-here node whole (Step.SendRun count) = sends-entered (own_bytes node) _ (source.send_run node count) (here.send_run-under no_byte refl (own_bytes node) node count)
step-here node whole Step.SourceRead = acts-entered (own_bytes node) _ (source.read node) (here.read-under no_byte (own_bytes node) node)
step-here node whole Step.SourceAct = acts-entered (own_bytes node) _ (source.act node) (here.act-under no_byte refl (own_bytes node) node)
step-here node whole Step.Switch = sends-entered (own_bytes node) _ (source.switch node) (here.switch-under no_byte (own_bytes node) node)
step-here node whole (Step.Push ticket) = sends-entered (own_bytes node) _ (source.push node ticket) (here.push-under no_byte refl node ticket)
step-here node whole (Step.PushUrgent ticket) = urgently-entered (own_bytes node) _ (source.push_urgent node ticket) (here.push_urgent-under no_byte refl node ticket)
step-here node whole Step.Serve = acts-entered (own_bytes node) _ (source.serve node) (here.serve-under no_byte (own_bytes node) node)
step-here node whole Step.End = sends-entered (own_bytes node) _ (source.end node) (here.end-under no_byte (own_bytes node) node)
step-here node whole (Step.Notice Side.Source) = acts-entered (own_bytes node) _ (source.pause node) (here.pause-under no_byte (own_bytes node) node)
step-here node whole Step.Resume = sends-entered (own_bytes node) _ (source.resume node) (here.resume-under no_byte (own_bytes node) node)
step-here node whole _ = refl

pub line-here-entered : (node : Source) → AreWholePages node.guest.space.host.bytes → (line : Line) → source_line (source_under no_byte node) (entered line) ≡ map_ok (did_entered (source_under no_byte) (bytes_here node line)) (source_line node line)
line-here-entered node whole (Line.Made step) = step-here node whole step
line-here-entered node whole (Line.Took sent) = sends-entered (λ addr. bytes_in sent.frame) _ (source.take node sent.frame) (here.take-under no_byte node sent.frame)
line-here-entered node whole (Line.TookUrgent sent) = refl

-- The destination

abbrev there_entered : (ℕ → List ℕ) → Did Destination → Did Destination
there_entered bytes did = did_entered (destination_under no_byte) bytes did

acts_there-entered : (bytes : ℕ → List ℕ) (new step : Result (Acted Destination) Refusal) → new ≡ map_ok (destination_acted_under no_byte bytes) step → acts new ≡ map_ok (there_entered bytes) (acts step)
acts_there-entered bytes new (Ok acted) is = ap (λ (r : Result (Acted Destination) Refusal). acts r) is
acts_there-entered bytes new (Err refusal) is = ap (λ (r : Result (Acted Destination) Refusal). acts r) is

sends_there-entered : (bytes : ℕ → List ℕ) (new step : Result (Sends Destination) Refusal) → new ≡ map_ok (destination_sends_under no_byte bytes) step → sends new ≡ map_ok (there_entered bytes) (sends step)
sends_there-entered bytes new (Ok sent) is = ap (λ (r : Result (Sends Destination) Refusal). sends r) is
sends_there-entered bytes new (Err refusal) is = ap (λ (r : Result (Sends Destination) Refusal). sends r) is

tries_there-entered : (bytes : ℕ → List ℕ) (node : Destination) (new step : Result Tried Refusal) → new ≡ map_ok (tried_under no_byte bytes) step →
    tries (λ guest. record (destination_under no_byte node) { guest = guest }) new ≡ map_ok (there_entered bytes) (tries (λ guest. record node { guest = guest }) step)
tries_there-entered bytes node new (Ok tried) is = ap (λ (r : Result Tried Refusal). tries (λ guest. record (destination_under no_byte node) { guest = guest }) r) is
tries_there-entered bytes node new (Err refusal) is = ap (λ (r : Result Tried Refusal). tries (λ guest. record (destination_under no_byte node) { guest = guest }) r) is

abbrev pub no_bytes : ℕ → List ℕ
no_bytes addr = []

-- the bytes of the page that a line of a destination moves
abbrev pub bytes_there : Line → ℕ → List ℕ
bytes_there (Line.Made step) = no_bytes
bytes_there (Line.Took sent) = λ addr. bytes_in sent.frame
bytes_there (Line.TookUrgent sent) = λ addr. bytes_in sent.frame

step-there : (node : Destination) → AreWholePages node.guest.space.host.bytes → (step : Step) → destination_step (destination_under no_byte node) (step_under no_byte step) ≡ map_ok (there_entered no_bytes) (destination_step node step)
step-there node whole (Step.Issue cpu command) = tries_there-entered no_bytes node _ (issue node.guest node.has_run cpu command) (issue-under no_byte no_byte-map no_bytes node.guest whole node.has_run cpu command)
step-there node whole (Step.Retry cpu) = tries_there-entered no_bytes node _ (retry node.guest node.has_run cpu) (retry-under no_byte no_byte-map no_bytes node.guest whole node.has_run cpu)
step-there node whole Step.DestRead = acts_there-entered no_bytes _ (destination.read node) (there.read-under no_byte no_bytes node)
step-there node whole Step.DestAct = sends_there-entered no_bytes _ (destination.act node) (there.act-under no_byte refl no_bytes node)
step-there node whole Step.Install = acts_there-entered no_bytes _ (destination.install node) (there.install-under no_byte no_bytes node)
step-there node whole (Step.Notice Side.Destination) = acts_there-entered no_bytes _ (destination.pause node) (there.pause-under no_byte no_bytes node)
step-there node whole _ = refl

pub line-there-entered : (node : Destination) → AreWholePages node.guest.space.host.bytes → (line : Line) → TakesWhole line →
    destination_line (destination_under no_byte node) (entered line) ≡ map_ok (did_entered (destination_under no_byte) (bytes_there line)) (destination_line node line)
line-there-entered node whole (Line.Made step) taken = step-there node whole step
line-there-entered node whole (Line.Took sent) taken = sends_there-entered (λ addr. bytes_in sent.frame) _ (destination.take node sent.epoch sent.frame) (there.take-under no_byte refl node sent.epoch sent.frame taken)
line-there-entered node whole (Line.TookUrgent sent) taken =
    in_phase-map (there_entered (λ addr. bytes_in sent.frame)) node.has_run (acts (destination.take_urgent node sent.frame)) _
    (acts_there-entered (λ addr. bytes_in sent.frame) _ (destination.take_urgent node sent.frame) (there.take_urgent-under no_byte refl node sent.frame taken))

-- What is answered

of_ok : {B : Type 0} → B → Result B Refusal → B
of_ok other (Ok given) = given
of_ok other (Err refusal) = other

-- what a node without bytes has done is what the node with all bytes does, without them
pub answered : {A B : Type 0} (g : A → B) (result : Result A Refusal) (given : B) → map_ok g result ≡ Ok given → (done : A) × (result ≡ Ok done) × (given ≡ g done)
unfolding of_ok
answered g (Ok done) given is = (done, refl, sym (ap (of_ok given) is))
answered g (Err refusal) given is = absurd (never refusal given is)

-- What a driver does

again-entered : (bytes : ℕ → List ℕ) (effect : Effect) (guest : Guest) (held : Held) (cpu : ℕ) (o : Option Command) → tries_again (effect_under no_byte bytes effect) (guest_under no_byte guest) held cpu o ≡ tries_again effect guest held cpu o
again-entered bytes effect guest held cpu None = refl
again-entered bytes effect guest held cpu (Some command) = tries-under no_byte bytes effect guest held cpu command

step-held : (step : Step) (bytes : ℕ → List ℕ) (effect : Effect) (guest : Guest) (held : Held) → here_after (Line.Made step) (effect_under no_byte bytes effect) (guest_under no_byte guest) held ≡ here_after (Line.Made step) effect guest held
step-held (Step.Issue cpu command) bytes effect guest held = tries-under no_byte bytes effect guest held cpu command
step-held (Step.Retry cpu) bytes effect guest held = again-entered bytes effect guest held cpu (get_or held.waits cpu None)
step-held Step.SourceAct bytes effect guest held = zeroes-under no_byte bytes effect held
step-held Step.DestAct bytes effect guest held = zeroes-under no_byte bytes effect held
step-held _ bytes effect guest held = refl

pub here-entered : (line : Line) (bytes : ℕ → List ℕ) (effect : Effect) (guest : Guest) (held : Held) → here_after line (effect_under no_byte bytes effect) (guest_under no_byte guest) held ≡ here_after line effect guest held
here-entered (Line.Made step) bytes effect guest held = step-held step bytes effect guest held
here-entered (Line.Took sent) bytes effect guest held = refl
here-entered (Line.TookUrgent sent) bytes effect guest held = refl

put_word : (b : Bool) (addr : ℕ) (came : List Copy) (there : There) → puts (cond b (Effect.SentZero addr) (Effect.SentPage addr)) came there ≡ there
put_word true addr came there = refl
put_word false addr came there = refl

put_took : (b : Bool) (addr : ℕ) (came : List Copy) (there : There) → puts (cond b (Effect.TookZero addr) (Effect.TookPage addr)) came there ≡ there
put_took true addr came there = refl
put_took false addr came there = refl

puts-entered : (bytes : ℕ → List ℕ) (effect : Effect) (came : List Copy) (there : There) → puts (effect_under no_byte bytes effect) came there ≡ puts effect came there
puts-entered bytes (Effect.SentPage addr) came there = put_word (is_zeros (map no_byte (bytes addr))) addr came there
puts-entered bytes (Effect.TookPage addr) came there = put_took (is_zeros (map no_byte (bytes addr))) addr came there
puts-entered bytes _ came there = refl

step_there-held : (step : Step) (bytes : ℕ → List ℕ) (effect : Effect) (node : Destination) (there : There) → there_after (Line.Made step) (effect_under no_byte bytes effect) (destination_under no_byte node) there ≡ there_after (Line.Made step) effect node there
step_there-held (Step.Issue cpu command) bytes effect node there = ap (λ (held : Held). record there { held = held }) (tries-under no_byte bytes effect node.guest there.held cpu command)
step_there-held (Step.Retry cpu) bytes effect node there = ap (λ (held : Held). record there { held = held }) (again-entered bytes effect node.guest there.held cpu (get_or there.held.waits cpu None))
step_there-held Step.SourceAct bytes effect node there = ap (λ (held : Held). record there { held = held }) (zeroes-under no_byte bytes effect there.held)
step_there-held Step.DestAct bytes effect node there = ap (λ (held : Held). record there { held = held }) (zeroes-under no_byte bytes effect there.held)
step_there-held Step.Install bytes effect node there = puts-entered bytes effect there.came there
step_there-held _ bytes effect node there = refl

pub there-entered : (line : Line) (bytes : ℕ → List ℕ) (effect : Effect) (node : Destination) (there : There) → there_after line (effect_under no_byte bytes effect) (destination_under no_byte node) there ≡ there_after line effect node there
there-entered (Line.Made step) bytes effect node there = step_there-held step bytes effect node there
there-entered (Line.Took sent) bytes effect node there = refl
there-entered (Line.TookUrgent sent) bytes effect node there = refl
