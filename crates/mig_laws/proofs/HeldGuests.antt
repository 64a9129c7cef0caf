-- What a driver has of its guest after a command, a message or a fault: what the guest has that holds all bytes.
use Rattle.std.proofs.Common.{◌≡◌, ℕ, zero, suc, ◌+◌, ◌*◌, ◌/◌, Bool, true, false, cond, Option, Some, None, List, [], ◌∷◌, ◌++◌, map, set, refl, sym, ap, ◌∙◌, arith}
use Rattle.std.specs.Prelude.{nat_eq, replicate}
use Rattle.std.proofs.lemmas.List.{append-nil, length-map, map-set, set-get_or}
use Rattle.std.proofs.Math.ListN.{get_or-map}
use Rattle.std.specs.Ordering.{nat_cmp}
use Rattle.std.specs.FinMap.{FinMap, insert}
use Rattle.mig_base.specs.Bytes.{contents}
use Rattle.mig_base.specs.Flat.{reply_of}
use Rattle.mig_base.specs.declared.command.Access.{Access}
use Rattle.mig_base.specs.declared.command.Access.TheVariants.{Answered, Missing, Protected}
use Rattle.mig_base.specs.declared.command.Command.{Command}
use Rattle.mig_base.specs.declared.command.Entry.{Entry}
use Rattle.mig_base.specs.declared.command.Reply.{Reply}
use Rattle.mig_base.specs.declared.cpu_state.CpuState.{CpuState}
use Rattle.mig_base.specs.declared.effect.Effect.{Effect}
use Rattle.mig_base.specs.declared.message.Message.{Message}
use Rattle.mig_base.specs.declared.message.Message.TheVariants.{PageFault, Remap, Remove, Unmap}
use Rattle.mig_model.specs.Cpus.{Cpus, access_took, all_woken, call_took, entries_of, idle_processors, message_less, outstanding, processor_after, processor_at, woken_if}
use Rattle.mig_base.specs.Commands.{page_of}
use Rattle.mig_model.specs.Effects.{try_effect}
use Rattle.mig_model.specs.Guest.{Guest, cpus_read, is_left_by, took_by, tried}
use Rattle.mig_model.specs.Host.{host_after, memory}
use Rattle.mig_model.specs.Ioctls.{put_pages}
use Rattle.mig_model.specs.Source.{commands_of}
use Rattle.mig_model.specs.Space.{Space, access_of, accessed_by, called, queued_by}
use Rattle.mig_model.specs.Wire.{Frame, is_zeros, page_frame}
use Rattle.mig_model.specs.Wire.Frame.{Advise, Page, Zero, Run, Discard, Package, End, Resume, Request, Recv, Done}
use Rattle.mig_model.proofs.memory.Facts.{page_again}
use Rattle.mig_model.proofs.memory.SpaceLemmas.{access_reply}
use Rattle.mig_model.proofs.transcript.WaitingCommands.{less_same}
use Rattle.mig_laws.specs.Contents.{guest_under}
use Rattle.mig_laws.specs.Drivers.{Held, filled, makes, pages_from, tries, zeroes}
use Rattle.mig_laws.specs.Worlds.{effect_under, frame_under}

-- all that a driver has of a guest which holds all bytes
abbrev pub held_of : Guest → List Entry → Held
held_of guest entries = record { pages = guest.space.host.bytes; waits = commands_of guest.cpus; entries = entries }

-- another guest with the same pages, whose processors wait with the same commands
pub still : (old new : Guest) (entries : List Entry) → new.space.host.bytes ≡ old.space.host.bytes → commands_of new.cpus ≡ commands_of old.cpus → held_of old entries ≡ held_of new (entries ++ [])
still old new entries bytes waits = λ i. record { pages = sym bytes i; waits = sym waits i; entries = sym (append-nil entries) i }

-- Processors

woken_either : (b : Bool) (command : Command) → outstanding (cond b (CpuState.Woken command) (CpuState.Asleep command)) ≡ Some command
woken_either true command = refl
woken_either false command = refl

woken_one : (test : ℕ → Bool) (state : CpuState) → outstanding (woken_if test state) ≡ outstanding state
woken_one test CpuState.Idle = refl
woken_one test (CpuState.Asleep command) = woken_either (test (page_of command)) command
woken_one test (CpuState.Woken command) = refl
woken_one test (CpuState.InCall reply left) = refl

-- to be woken changes no command
pub woken_waits : (test : ℕ → Bool) (cpus : Cpus) → commands_of (all_woken test cpus) ≡ commands_of cpus
woken_waits test [] = refl
woken_waits test (state ∷ cpus) = λ i. woken_one test state i ∷ woken_waits test cpus i

-- that of those who sleep on one page
pub page_woken : (page : ℕ) (cpus : Cpus) → commands_of (all_woken (λ q. nat_eq q page) cpus) ≡ commands_of cpus
page_woken page cpus = woken_waits (λ q. nat_eq q page) cpus

pub set_waits : (cpus : Cpus) (k : ℕ) (new : CpuState) → commands_of (set cpus k new) ≡ set (commands_of cpus) k (outstanding new)
set_waits cpus k new = map-set outstanding cpus k new

-- idle processors wait for nothing
pub none_waits : (cpus : ℕ) → commands_of (idle_processors cpus) ≡ replicate {A = Option Command} cpus None
none_waits zero = refl
none_waits (suc cpus) = ap (λ (waits : List (Option Command)). None ∷ waits) (none_waits cpus)

same_waits : (cpus : Cpus) (k : ℕ) (new : CpuState) → outstanding new ≡ outstanding (processor_at cpus k) → commands_of (set cpus k new) ≡ commands_of cpus
same_waits cpus k new same =
    set_waits cpus k new ∙ ap (λ o. set (commands_of cpus) k o) (same ∙ sym (get_or-map outstanding cpus k CpuState.Idle)) ∙ set-get_or (commands_of cpus) k None

event_waits : (test : ℕ → Bool) (cpus : Cpus) (cpu : ℕ) → commands_of (all_woken test (set cpus cpu (message_less (processor_at cpus cpu)))) ≡ commands_of cpus
event_waits test cpus cpu = woken_waits test (set cpus cpu (message_less (processor_at cpus cpu))) ∙ same_waits cpus cpu (message_less (processor_at cpus cpu)) (less_same (processor_at cpus cpu))

-- nor does a message that is read
pub read_waits : (cpus : Cpus) (cpu : ℕ) (message : Message) → commands_of (cpus_read cpus cpu message) ≡ commands_of cpus
read_waits cpus cpu (PageFault addr write wp tid) = refl
read_waits cpus cpu (Remap from to len) = event_waits (is_left_by (Remap from to len)) cpus cpu
read_waits cpus cpu (Remove start end) = event_waits (is_left_by (Remove start end)) cpus cpu
read_waits cpus cpu (Unmap start end) = event_waits (is_left_by (Unmap start end)) cpus cpu

-- Commands

-- a command took effect: the memory is that after it, and its processor waits for nothing
pub made-held : (guest : Guest) (cpu : ℕ) (command : Command) (entries : List Entry) (space : Space) (state : CpuState) → space.host ≡ host_after guest.space.host command → outstanding state ≡ None →
    makes guest (held_of guest entries) cpu command
    ≡ held_of (record { space = space; cpus = set guest.cpus cpu state }) (entries ++ record { cpu = cpu; command = command; reply = reply_of (memory guest.space.host) command } ∷ [])
made-held guest cpu command entries space state host free =
    let waits = ap (λ o. set (commands_of guest.cpus) cpu o) (sym free) ∙ sym (set_waits guest.cpus cpu state) in
    λ i. record { pages = (sym host i).bytes; waits = waits i; entries = entries ++ record { cpu = cpu; command = command; reply = reply_of (memory guest.space.host) command } ∷ [] }

slept-held : (guest : Guest) (cpu : ℕ) (command : Command) (entries : List Entry) (space : Space) → space.host.bytes ≡ guest.space.host.bytes →
    tries (Effect.Asleep cpu) guest (held_of guest entries) cpu command ≡ held_of (record { space = space; cpus = set guest.cpus cpu (CpuState.Asleep command) }) (entries ++ [])
slept-held guest cpu command entries space bytes =
    λ i. record { pages = sym bytes i; waits = sym (set_waits guest.cpus cpu (CpuState.Asleep command)) i; entries = sym (append-nil entries) i }

access-held : (guest : Guest) (cpu : ℕ) (command : Command) (entries : List Entry) (access : Access) → ((reply : Reply) → access ≡ Answered reply → reply ≡ reply_of (memory guest.space.host) command) →
    tries (try_effect cpu (access_took access)) guest (held_of guest entries) cpu command
    ≡ held_of (record { space = accessed_by access guest.space cpu command; cpus = set guest.cpus cpu (processor_after command (access_took access)) }) (entries ++ entries_of cpu command (access_took access))
access-held guest cpu command entries (Answered reply) is =
    made-held guest cpu command entries (accessed_by (Answered reply) guest.space cpu command) CpuState.Idle refl refl
    ∙ (λ i. held_of (record { space = accessed_by (Answered reply) guest.space cpu command; cpus = set guest.cpus cpu CpuState.Idle }) (entries ++ record { cpu = cpu; command = command; reply = sym (is reply refl) i } ∷ []))
access-held guest cpu command entries Missing is = slept-held guest cpu command entries (accessed_by Missing guest.space cpu command) refl
access-held guest cpu command entries Protected is = slept-held guest cpu command entries (accessed_by Protected guest.space cpu command) refl

call-held : (guest : Guest) (cpu : ℕ) (command : Command) (entries : List Entry) (count : ℕ) →
    tries (try_effect cpu (call_took (reply_of (memory guest.space.host) command) count)) guest (held_of guest entries) cpu command
    ≡ held_of (record { space = called guest.space cpu command; cpus = set guest.cpus cpu (processor_after command (call_took (reply_of (memory guest.space.host) command) count)) })
    (entries ++ entries_of cpu command (call_took (reply_of (memory guest.space.host) command) count))
call-held guest cpu command entries zero = made-held guest cpu command entries (called guest.space cpu command) CpuState.Idle refl refl
call-held guest cpu command entries (suc count) = made-held guest cpu command entries (called guest.space cpu command) (CpuState.InCall (reply_of (memory guest.space.host) command) (suc count)) refl refl

pub tried-held : (access : Bool) (guest : Guest) (cpu : ℕ) (command : Command) (entries : List Entry) →
    tries (try_effect cpu (took_by access guest.space command)) guest (held_of guest entries) cpu command ≡ held_of (tried access guest cpu command) (entries ++ entries_of cpu command (took_by access guest.space command))
tried-held true guest cpu command entries = access-held guest cpu command entries (access_of guest.space command) (λ reply is. access_reply guest.space command reply is)
tried-held false guest cpu command entries = call-held guest cpu command entries (queued_by guest.space command)

-- Pages

pub put_one : (pages : FinMap nat_cmp (List ℕ)) (page : ℕ) (bytes : List ℕ) → insert pages (4096 * page / 4096) bytes ≡ put_pages pages page 1 (λ i. bytes)
unfolding put_pages
put_one pages page bytes =
    let same : page ≡ page + 0 = omega arith in
    ap (λ p. insert pages p bytes) (sym (page_again page (4096 * page) refl) ∙ same)

-- Frames

filled_either : (held : Held) (page : ℕ) (bytes : List ℕ) (zeros : Bool) → filled held (cond zeros (Zero page) (Page page bytes)) ≡ page_frame page (contents held.pages page)
filled_either held page bytes true = refl
filled_either held page bytes false = refl

pub filled-page : (held : Held) (page : ℕ) (bytes : List ℕ) → filled held (page_frame page bytes) ≡ page_frame page (contents held.pages page)
filled-page held page bytes = filled_either held page bytes (is_zeros bytes)

-- a frame is filled alike whatever bytes it had
pub filled-under : (f : ℕ → ℕ) (held : Held) (frame : Frame) → filled held (frame_under f frame) ≡ filled held frame
filled-under f held Advise = refl
filled-under f held (Page page bytes) = filled-page held page (map f bytes)
filled-under f held (Zero page) = refl
filled-under f held (Run first pages) = ap (λ n. Run first (pages_from held.pages first n)) (length-map pages (map f))
filled-under f held (Discard pages) = refl
filled-under f held (Package areas owed commands) = refl
filled-under f held (End urgent) = refl
filled-under f held Resume = refl
filled-under f held (Request page) = refl
filled-under f held (Recv state owed) = refl
filled-under f held Done = refl

pub all-filled-under : (f : ℕ → ℕ) (held : Held) (frames : List Frame) → map (filled held) (map (frame_under f) frames) ≡ map (filled held) frames
all-filled-under f held [] = refl
all-filled-under f held (frame ∷ frames) = λ i. filled-under f held frame i ∷ all-filled-under f held frames i

-- What a node without bytes answers

tried_word : (b : Bool) (addr : ℕ) (guest : Guest) (held : Held) (cpu : ℕ) (command : Command) → tries (cond b (Effect.SentZero addr) (Effect.SentPage addr)) guest held cpu command ≡ held
tried_word true addr guest held cpu command = refl
tried_word false addr guest held cpu command = refl

tried_took : (b : Bool) (addr : ℕ) (guest : Guest) (held : Held) (cpu : ℕ) (command : Command) → tries (cond b (Effect.TookZero addr) (Effect.TookPage addr)) guest held cpu command ≡ held
tried_took true addr guest held cpu command = refl
tried_took false addr guest held cpu command = refl

pub tries-under : (f : ℕ → ℕ) (bytes : ℕ → List ℕ) (effect : Effect) (guest : Guest) (held : Held) (cpu : ℕ) (command : Command) → tries (effect_under f bytes effect) (guest_under f guest) held cpu command ≡ tries effect guest held cpu command
tries-under f bytes (Effect.SentPage addr) guest held cpu command = tried_word (is_zeros (map f (bytes addr))) addr (guest_under f guest) held cpu command
tries-under f bytes (Effect.TookPage addr) guest held cpu command = tried_took (is_zeros (map f (bytes addr))) addr (guest_under f guest) held cpu command
tries-under f bytes _ guest held cpu command = refl

zeroed_word : (b : Bool) (addr : ℕ) (held : Held) → zeroes (cond b (Effect.SentZero addr) (Effect.SentPage addr)) held ≡ held
zeroed_word true addr held = refl
zeroed_word false addr held = refl

zeroed_took : (b : Bool) (addr : ℕ) (held : Held) → zeroes (cond b (Effect.TookZero addr) (Effect.TookPage addr)) held ≡ held
zeroed_took true addr held = refl
zeroed_took false addr held = refl

pub zeroes-under : (f : ℕ → ℕ) (bytes : ℕ → List ℕ) (effect : Effect) (held : Held) → zeroes (effect_under f bytes effect) held ≡ zeroes effect held
zeroes-under f bytes (Effect.SentPage addr) held = zeroed_word (is_zeros (map f (bytes addr))) addr held
zeroes-under f bytes (Effect.TookPage addr) held = zeroed_took (is_zeros (map f (bytes addr))) addr held
zeroes-under f bytes _ held = refl
