-- The steps of a guest once all contents are changed.
use Rattle.std.proofs.Common.{◌≡◌, ℕ, zero, suc, Bool, true, false, cond, ltb, Option, Some, None, List, map, set, length, refl, sym, ap, ◌∙◌}
use Rattle.std.specs.Prelude.{Result, Ok, Err, nat_eq}
use Rattle.std.specs.Option.{option_map}
use Rattle.std.proofs.lemmas.List.{length-map, map-set}
use Rattle.std.proofs.Math.ListN.{get_or-map}
use Rattle.mig_base.specs.Commands.{is_access, page_of}
use Rattle.mig_base.specs.declared.command.Access.{Access}
use Rattle.mig_base.specs.declared.command.Access.TheVariants.{Answered, Missing, Protected}
use Rattle.mig_base.specs.declared.command.Command.{Command}
use Rattle.mig_base.specs.declared.command.Reply.{Reply}
use Rattle.mig_base.specs.declared.cpu_state.CpuState.{CpuState}
use Rattle.mig_base.specs.declared.message.Message.{Message}
use Rattle.mig_base.specs.declared.message.Message.TheVariants.{PageFault, Remap, Remove, Unmap}
use Rattle.mig_base.specs.declared.refusal.Refusal.{Refusal}
use Rattle.mig_base.specs.Flat.{reply_of}
use Rattle.mig_model.specs.Cpus.{Cpus, Took, access_took, all_woken, call_took, entries_of, handed_over, idle_answer, idle_by, message_less, outstanding, processor_after, processor_at, woken_answer, woken_command, woken_if}
use Rattle.mig_model.specs.Effects.{event_effect, read_effect, try_effect}
use Rattle.mig_model.specs.Guest.{Guest, cpus_read, is_left_by, read_guest, resolved, space_by, took_by, tried}
use Rattle.mig_model.specs.GuestSteps.{issue, retry, tried_with, try_command, when_quiet}
use Rattle.mig_model.specs.Host.{memory}
use Rattle.mig_model.specs.NodeSteps.{and_then, in_phase}
use Rattle.mig_model.specs.Space.{Space, access_of, queued_by}
use Rattle.mig_laws.specs.Contents.{AreWholePages, IsByteMap, access_under, command_under, cpu_under, entry_under, guest_under, reply_under, space_under, took_under}
use Rattle.mig_laws.specs.Nodes.{map_ok, tried_under}
use Rattle.mig_laws.specs.Worlds.{effect_under}
use Rattle.mig_laws.proofs.Replies.{host_replied}
use Rattle.mig_laws.proofs.SpaceCommands.{access_of-under, accessed-under, called-under, is_access-under, page_of-under, queued_by-under}
use Rattle.mig_laws.proofs.StepForms.{and_then-map, and_then-same, in_phase-map, map-twice, unless-map}

-- Processors

pub processor_at-under : (f : ℕ → ℕ) (cpus : Cpus) (k : ℕ) → processor_at (map (cpu_under f) cpus) k ≡ cpu_under f (processor_at cpus k)
processor_at-under f cpus k = get_or-map (cpu_under f) cpus k CpuState.Idle

pub outstanding-under : (f : ℕ → ℕ) (state : CpuState) → outstanding (cpu_under f state) ≡ option_map (command_under f) (outstanding state)
outstanding-under f CpuState.Idle = refl
outstanding-under f (CpuState.Asleep command) = refl
outstanding-under f (CpuState.Woken command) = refl
outstanding-under f (CpuState.InCall reply left) = refl

woken_by_test : (f : ℕ → ℕ) (b : Bool) (command : Command) → cond b (CpuState.Woken (command_under f command)) (CpuState.Asleep (command_under f command)) ≡ cpu_under f (cond b (CpuState.Woken command) (CpuState.Asleep command))
woken_by_test f true command = refl
woken_by_test f false command = refl

woken_if-under : (f : ℕ → ℕ) (test : ℕ → Bool) (state : CpuState) → woken_if test (cpu_under f state) ≡ cpu_under f (woken_if test state)
woken_if-under f test CpuState.Idle = refl
woken_if-under f test (CpuState.Asleep command) =
    ap (λ p. cond (test p) (CpuState.Woken (command_under f command)) (CpuState.Asleep (command_under f command))) (page_of-under f command) ∙ woken_by_test f (test (page_of command)) command
woken_if-under f test (CpuState.Woken command) = refl
woken_if-under f test (CpuState.InCall reply left) = refl

pub all_woken-under : (f : ℕ → ℕ) (test : ℕ → Bool) (cpus : Cpus) → all_woken test (map (cpu_under f) cpus) ≡ map (cpu_under f) (all_woken test cpus)
all_woken-under f test cpus = map-twice (cpu_under f) (woken_if test) (woken_if test) (cpu_under f) (woken_if-under f test) cpus

message_less-under : (f : ℕ → ℕ) (state : CpuState) → message_less (cpu_under f state) ≡ cpu_under f (message_less state)
message_less-under f CpuState.Idle = refl
message_less-under f (CpuState.Asleep command) = refl
message_less-under f (CpuState.Woken command) = refl
message_less-under f (CpuState.InCall reply zero) = refl
message_less-under f (CpuState.InCall reply (suc zero)) = refl
message_less-under f (CpuState.InCall reply (suc (suc left))) = refl

handed_over-under : (f : ℕ → ℕ) (state : CpuState) → handed_over (cpu_under f state) ≡ option_map (reply_under f) (handed_over state)
handed_over-under f CpuState.Idle = refl
handed_over-under f (CpuState.Asleep command) = refl
handed_over-under f (CpuState.Woken command) = refl
handed_over-under f (CpuState.InCall reply zero) = refl
handed_over-under f (CpuState.InCall reply (suc zero)) = refl
handed_over-under f (CpuState.InCall reply (suc (suc left))) = refl

-- A command

took_access : (f : ℕ → ℕ) (access : Access) → access_took (access_under f access) ≡ took_under f (access_took access)
took_access f (Answered reply) = refl
took_access f Missing = refl
took_access f Protected = refl

took_call : (f : ℕ → ℕ) (reply : Reply) (n : ℕ) → call_took (reply_under f reply) n ≡ took_under f (call_took reply n)
took_call f reply zero = refl
took_call f reply (suc left) = refl

pub took_by-under : (f : ℕ → ℕ) → IsByteMap f → (access : Bool) (space : Space) → AreWholePages space.host.bytes → (command : Command) → took_by access (space_under f space) (command_under f command) ≡ took_under f (took_by access space command)
took_by-under f is true space whole command = ap access_took (access_of-under f is space whole command) ∙ took_access f (access_of space command)
took_by-under f is false space whole command =
    ap (λ (r : Reply). call_took r (queued_by (space_under f space) (command_under f command))) (host_replied f is space.host whole command)
    ∙ ap (λ n. call_took (reply_under f (reply_of (memory space.host) command)) n) (queued_by-under f is space whole command)
    ∙ took_call f (reply_of (memory space.host) command) (queued_by space command)

space_by-under : (f : ℕ → ℕ) → IsByteMap f → (access : Bool) (space : Space) → AreWholePages space.host.bytes → (cpu : ℕ) (command : Command) → space_by access (space_under f space) cpu (command_under f command) ≡ space_under f (space_by access space cpu command)
space_by-under f is true space whole cpu command = accessed-under f is space cpu whole command
space_by-under f is false space whole cpu command = called-under f is space cpu whole command

processor_after-under : (f : ℕ → ℕ) (command : Command) (took : Took) → processor_after (command_under f command) (took_under f took) ≡ cpu_under f (processor_after command took)
processor_after-under f command (Took.Answer reply) = refl
processor_after-under f command Took.Sleep = refl
processor_after-under f command (Took.Call reply left) = refl

entries_of-under : (f : ℕ → ℕ) (cpu : ℕ) (command : Command) (took : Took) → entries_of cpu (command_under f command) (took_under f took) ≡ map (entry_under f) (entries_of cpu command took)
entries_of-under f cpu command (Took.Answer reply) = refl
entries_of-under f cpu command Took.Sleep = refl
entries_of-under f cpu command (Took.Call reply left) = refl

try_effect-under : (f : ℕ → ℕ) (bytes : ℕ → List ℕ) (cpu : ℕ) (took : Took) → try_effect cpu (took_under f took) ≡ effect_under f bytes (try_effect cpu took)
try_effect-under f bytes cpu (Took.Answer reply) = refl
try_effect-under f bytes cpu Took.Sleep = refl
try_effect-under f bytes cpu (Took.Call reply left) = refl

tried-under : (f : ℕ → ℕ) → IsByteMap f → (access : Bool) (guest : Guest) → AreWholePages guest.space.host.bytes → (cpu : ℕ) (command : Command) → tried access (guest_under f guest) cpu (command_under f command) ≡ guest_under f (tried access guest cpu command)
tried-under f is access guest whole cpu command =
    let space = space_by-under f is access guest.space whole cpu command in
    let took = took_by access guest.space command in
    let cpus =
    ap (λ (t : Took). set (map (cpu_under f) guest.cpus) cpu (processor_after (command_under f command) t)) (took_by-under f is access guest.space whole command)
    ∙ ap (λ (s : CpuState). set (map (cpu_under f) guest.cpus) cpu s) (processor_after-under f command took)
    ∙ sym (map-set (cpu_under f) guest.cpus cpu (processor_after command took)) in
    λ i. record { space = space i; cpus = cpus i }

try_command-under : (f : ℕ → ℕ) → IsByteMap f → (bytes : ℕ → List ℕ) (guest : Guest) → AreWholePages guest.space.host.bytes → (cpu : ℕ) (command : Command) →
    try_command (guest_under f guest) cpu (command_under f command) ≡ map_ok (tried_under f bytes) (try_command guest cpu command)
try_command-under f is bytes guest whole cpu command =
    let new = command_under f command in
    let space = space_under f guest.space in
    let access = is_access command in
    let took = took_by access guest.space command in
    let tooks = took_by-under f is access guest.space whole command in
    let effects = ap (λ (t : Took). try_effect cpu t) tooks ∙ try_effect-under f bytes cpu took in
    let entries = ap (λ (t : Took). entries_of cpu new t) tooks ∙ entries_of-under f cpu command took in
    let guests = tried-under f is access guest whole cpu command in
    ap (λ (b : Bool). tried_with (try_effect cpu (took_by b space new)) (entries_of cpu new (took_by b space new)) (tried b (guest_under f guest) cpu new)) (is_access-under f command)
    ∙ (λ i. tried_with (effects i) (entries i) (guests i))

idle_by-under : (f : ℕ → ℕ) (state : CpuState) → idle_by (cpu_under f state) ≡ idle_by state
idle_by-under f CpuState.Idle = refl
idle_by-under f (CpuState.Asleep command) = refl
idle_by-under f (CpuState.Woken command) = refl
idle_by-under f (CpuState.InCall reply left) = refl

pub idle-under : (f : ℕ → ℕ) (cpus : Cpus) (k : ℕ) → idle_answer (map (cpu_under f) cpus) k ≡ idle_answer cpus k
idle-under f cpus k =
    ap (λ n. cond (ltb k n) (idle_by (processor_at (map (cpu_under f) cpus) k)) (Err Refusal.NoCpu)) (length-map cpus (cpu_under f))
    ∙ ap (λ (r : Result (Unit {0}) Refusal). cond (ltb k (length cpus)) r (Err Refusal.NoCpu)) (ap idle_by (processor_at-under f cpus k) ∙ idle_by-under f (processor_at cpus k))

pub issue-under : (f : ℕ → ℕ) → IsByteMap f → (bytes : ℕ → List ℕ) (guest : Guest) → AreWholePages guest.space.host.bytes → (runs : Bool) (cpu : ℕ) (command : Command) →
    issue (guest_under f guest) runs cpu (command_under f command) ≡ map_ok (tried_under f bytes) (issue guest runs cpu command)
issue-under f is bytes guest whole runs cpu command =
    ap (λ (r : Result (Unit {0}) Refusal). and_then r (λ idle. in_phase runs (try_command (guest_under f guest) cpu (command_under f command)))) (idle-under f guest.cpus cpu)
    ∙ and_then-same (tried_under f bytes) (idle_answer guest.cpus cpu) (λ idle. in_phase runs (try_command guest cpu command)) (λ idle. in_phase runs (try_command (guest_under f guest) cpu (command_under f command)))
    (λ idle. in_phase-map (tried_under f bytes) runs (try_command guest cpu command) _ (try_command-under f is bytes guest whole cpu command))

woken_command-under : (f : ℕ → ℕ) (state : CpuState) → woken_command (cpu_under f state) ≡ map_ok (command_under f) (woken_command state)
woken_command-under f CpuState.Idle = refl
woken_command-under f (CpuState.Asleep command) = refl
woken_command-under f (CpuState.Woken command) = refl
woken_command-under f (CpuState.InCall reply left) = refl

woken_test : (f : ℕ → ℕ) (b : Bool) (result : Result Command Refusal) → cond b (map_ok (command_under f) result) (Err Refusal.NoCpu) ≡ map_ok (command_under f) (cond b result (Err Refusal.NoCpu))
woken_test f true result = refl
woken_test f false result = refl

woken-under : (f : ℕ → ℕ) (cpus : Cpus) (k : ℕ) → woken_answer (map (cpu_under f) cpus) k ≡ map_ok (command_under f) (woken_answer cpus k)
woken-under f cpus k =
    ap (λ n. cond (ltb k n) (woken_command (processor_at (map (cpu_under f) cpus) k)) (Err Refusal.NoCpu)) (length-map cpus (cpu_under f))
    ∙ ap (λ (r : Result Command Refusal). cond (ltb k (length cpus)) r (Err Refusal.NoCpu)) (ap woken_command (processor_at-under f cpus k) ∙ woken_command-under f (processor_at cpus k))
    ∙ woken_test f (ltb k (length cpus)) (woken_command (processor_at cpus k))

pub retry-under : (f : ℕ → ℕ) → IsByteMap f → (bytes : ℕ → List ℕ) (guest : Guest) → AreWholePages guest.space.host.bytes → (runs : Bool) (cpu : ℕ) →
    retry (guest_under f guest) runs cpu ≡ map_ok (tried_under f bytes) (retry guest runs cpu)
retry-under f is bytes guest whole runs cpu =
    and_then-map (command_under f) (tried_under f bytes) (woken_answer guest.cpus cpu) (woken_answer (map (cpu_under f) guest.cpus) cpu) (λ command. in_phase runs (try_command guest cpu command))
    (λ command. in_phase runs (try_command (guest_under f guest) cpu command)) (woken-under f guest.cpus cpu)
    (λ command. in_phase-map (tried_under f bytes) runs (try_command guest cpu command) _ (try_command-under f is bytes guest whole cpu command))

-- Messages and faults

cpus_event : (f : ℕ → ℕ) (test : ℕ → Bool) (cpus : Cpus) (cpu : ℕ) →
    all_woken test (set (map (cpu_under f) cpus) cpu (message_less (processor_at (map (cpu_under f) cpus) cpu))) ≡ map (cpu_under f) (all_woken test (set cpus cpu (message_less (processor_at cpus cpu))))
cpus_event f test cpus cpu =
    ap (λ (s : CpuState). all_woken test (set (map (cpu_under f) cpus) cpu s)) (ap message_less (processor_at-under f cpus cpu) ∙ message_less-under f (processor_at cpus cpu))
    ∙ ap (λ (l : List CpuState). all_woken test l) (sym (map-set (cpu_under f) cpus cpu (message_less (processor_at cpus cpu))))
    ∙ all_woken-under f test (set cpus cpu (message_less (processor_at cpus cpu)))

cpus_read-under : (f : ℕ → ℕ) (cpus : Cpus) (cpu : ℕ) (message : Message) → cpus_read (map (cpu_under f) cpus) cpu message ≡ map (cpu_under f) (cpus_read cpus cpu message)
cpus_read-under f cpus cpu (PageFault addr write wp tid) = refl
cpus_read-under f cpus cpu (Remap from to len) = cpus_event f (is_left_by (Remap from to len)) cpus cpu
cpus_read-under f cpus cpu (Remove start end) = cpus_event f (is_left_by (Remove start end)) cpus cpu
cpus_read-under f cpus cpu (Unmap start end) = cpus_event f (is_left_by (Unmap start end)) cpus cpu

pub read_guest-under : (f : ℕ → ℕ) (guest : Guest) (cpu : ℕ) (message : Message) → read_guest (guest_under f guest) cpu message ≡ guest_under f (read_guest guest cpu message)
read_guest-under f guest cpu message = ap (λ (l : List CpuState). record { space = (guest_under f (read_guest guest cpu message)).space; cpus = l }) (cpus_read-under f guest.cpus cpu message)

event-under : (f : ℕ → ℕ) (bytes : ℕ → List ℕ) (event : Message) (cpu : ℕ) (o : Option Reply) → event_effect event cpu (option_map (reply_under f) o) ≡ effect_under f bytes (event_effect event cpu o)
event-under f bytes event cpu None = refl
event-under f bytes event cpu (Some reply) = refl

last-under : (f : ℕ → ℕ) (bytes : ℕ → List ℕ) (event : Message) (cpus : Cpus) (cpu : ℕ) → event_effect event cpu (handed_over (processor_at (map (cpu_under f) cpus) cpu)) ≡ effect_under f bytes (event_effect event cpu (handed_over (processor_at cpus cpu)))
last-under f bytes event cpus cpu =
    ap (λ (o : Option Reply). event_effect event cpu o) (ap handed_over (processor_at-under f cpus cpu) ∙ handed_over-under f (processor_at cpus cpu)) ∙ event-under f bytes event cpu (handed_over (processor_at cpus cpu))

pub read_effect-under : (f : ℕ → ℕ) (bytes : ℕ → List ℕ) (cpus : Cpus) (cpu : ℕ) (message : Message) → read_effect (map (cpu_under f) cpus) cpu message ≡ effect_under f bytes (read_effect cpus cpu message)
read_effect-under f bytes cpus cpu (PageFault addr write wp tid) = refl
read_effect-under f bytes cpus cpu (Remap from to len) = last-under f bytes (Remap from to len) cpus cpu
read_effect-under f bytes cpus cpu (Remove start end) = last-under f bytes (Remove start end) cpus cpu
read_effect-under f bytes cpus cpu (Unmap start end) = last-under f bytes (Unmap start end) cpus cpu

pub resolved-under : (f : ℕ → ℕ) (guest : Guest) (page : ℕ) (space new : Space) → new ≡ space_under f space → resolved (guest_under f guest) page new ≡ guest_under f (resolved guest page space)
resolved-under f guest page space new h = λ i. record { space = h i; cpus = all_woken-under f (λ q. nat_eq q page) guest.cpus i }

-- what a handler's step continues from
pub when_quiet-under : {A B : Type 0} (f : ℕ → ℕ) (g : A → B) (guest : Guest) (o : Option A) → when_quiet (guest_under f guest) (option_map g o) ≡ map_ok g (when_quiet guest o)
when_quiet-under f g guest None = refl
when_quiet-under f g guest (Some x) = unless-map g _ (Ok x) (Ok (g x)) refl
