-- A command that is tried at the source, before it has stopped, keeps what every world keeps.
use Rattle.std.proofs.lemmas.Bool.Decides.{nat_tests}
use Rattle.std.proofs.Common.{◌≡◌, append-nil, ℕ, ◌||◌, Bool, true, false, cond, eqb, Some, List, [], ◌∷◌, ◌++◌, refl, sym, ap, ◌∙◌, subst, is_some, arith}
use Rattle.std.specs.Ordering.{nat_cmp}
use Rattle.std.specs.FinMap.{FinMap, get, insert, contains_key}
use Rattle.std.specs.FinSet.{contains}
use Rattle.std.proofs.lemmas.Bool.{and_from, or_right, or_parts}
use Rattle.mig_base.specs.declared.cpu_state.CpuState.{CpuState}
use Rattle.mig_base.specs.declared.command.Command.{Command}
use Rattle.mig_base.specs.declared.command.Reply.{Reply}
use Rattle.mig_base.specs.declared.command.Access.{Access}
use Rattle.mig_base.specs.declared.command.Access.TheVariants.{Answered, Missing, Protected}
use Rattle.mig_base.specs.Flat.{reply_of, memory_of, IsFlatRun}
use Rattle.mig_base.proofs.SetLemmas.{same_members}
use Rattle.mig_model.specs.Host.{Host, memory, host_changed, host_after}
use Rattle.mig_base.specs.Commands.{is_access}
use Rattle.mig_base.specs.Userfault.{Object, fault_queued}
use Rattle.mig_model.specs.Space.{Space, IsSoundSpace, access_of, accessed_by, called, queued_by, call_messages, modes_after}
use Rattle.mig_model.specs.Guest.{took_by, tried}
use Rattle.mig_model.specs.Migration.{World}
use Rattle.mig_model.proofs.steps.StepWorlds.{after_command}
use Rattle.mig_model.specs.Whereabouts.{is_unread}
use Rattle.mig_model.specs.Invariant.{IsSoundWorld, AreWholeEvents}
use Rattle.mig_model.proofs.memory.HostLemmas.{get-put}
use Rattle.mig_model.proofs.memory.SpaceLemmas.{IsSoundSpace-accessed, IsSoundSpace-called, access_reply}
use Rattle.mig_model.proofs.invariant.SourceKept.{source_holds, IsChanged, changed}
use Rattle.mig_model.proofs.owed.SourceMessages.{noted_all, events_queued, tells, is_unread-append, AreRight-append}
use Rattle.mig_model.proofs.owed.SourceCalls.{untouched, IsUnregistered, right_messages, no_messages, modes_same, none_missing}
use Rattle.mig_model.specs.Cpus.{access_took, call_took, entries_of}
use Rattle.mig_model.specs.Source.{space_of}
use Rattle.mig_model.proofs.memory.Facts.{queued_missing, queued_protect, entered_once, modes_events}
use Rattle.mig_model.proofs.memory.EntryLemmas.{entry_of, flat_after, holds_after}

-- Loads and stores that are answered

pub present_after : (host : Host) (command : Command) (reply : Reply) (page : ℕ) → is_access command ≡ true → contains_key host.bytes page ≡ true → contains_key (host_changed host command reply).bytes page ≡ true
present_after host command reply page access h = grind (arith, nat_tests, get-put)

never_answered : (missing protect : Bool) (reply other : Reply) → protect ≡ true → cond missing Missing (cond protect Protected (Answered reply)) ≡ Answered other → ⊥
never_answered missing protect reply other p h = grind arith

other_page : (bytes : FinMap nat_cmp (List ℕ)) (page q : ℕ) (held : List ℕ) → eqb q page ≡ false → get (insert bytes page held) q ≡ get bytes q
other_page bytes page q held other = get-put bytes page q held ∙ ap (λ b. cond b (Some held) (get bytes q)) other

elsewhere : (space : Space) (command : Command) (page : ℕ) (other : Reply) → is_access command ≡ true → access_of space command ≡ Answered other → contains space.object.protect page ≡ true → contains space.protected page ≡ true →
    get (host_after space.host command).bytes page ≡ get space.host.bytes page
elsewhere space command page other access answered watched protected = grind (arith, nat_tests, never_answered, and_from, other_page)

answered_changed : (world : World) (cpu : ℕ) (command : Command) (reply : Reply) (processors : List CpuState) → IsSoundWorld world → world.destination.has_run ≡ false → world.source.switched ≡ false → is_access command ≡ true →
    access_of (space_of world.source) command ≡ Answered reply →
    IsChanged world.source (record world.source.guest { space = record (space_of world.source) { host = host_after (space_of world.source).host command }; cpus = processors }) world.source.log.clean world.source.log.todo
    (world.transcript ++ record { cpu = cpu; command = command; reply = reply } ∷ [])
answered_changed world cpu command reply processors kept bare unswitched access answered =
    let space = space_of world.source in
    let holds = source_holds world kept bare in
    let sound = kept.spaces.source_space in
    let same : reply ≡ reply_of (memory space.host) command = access_reply space command reply answered in
    let entered : (world.transcript ++ entry_of space.host cpu command ∷ []) ≡ (world.transcript ++ record { cpu = cpu; command = command; reply = reply } ∷ []) =
    ap (λ r. world.transcript ++ record { cpu = cpu; command = command; reply = r } ∷ []) (sym same) in
    record {
      flat = subst IsFlatRun entered (flat_after space.host world.transcript cpu command holds kept.memory.flat);
      holds = holds_after space.host world.transcript cpu command sound.host holds ∙ ap memory_of entered;
      space = subst (λ a. IsSoundSpace (accessed_by a space cpu command)) answered (IsSoundSpace-accessed space cpu command access sound);
      modes = kept.spaces.both_modes;
      events = kept.spaces.source_events;
      idle = kept.precopy.idle_source;
      protected = λ page h u. kept.precopy.clean_protected unswitched page h u;
      sendable = λ page h u. let was = kept.precopy.todo_sendable unswitched page h u in (present_after space.host command (reply_of (memory space.host) command) page access was.0, was.1);
      copies = λ page h u.
          let protected = kept.precopy.clean_protected unswitched page h u in
          (h, u, elsewhere space command page reply access answered (sound.watched page protected) protected);
    }

-- Loads and stores that sleep

-- an object with other faults alone
record IsAlike (object new : Object) : Type 0 where
  events : new.events ≡ object.events
  missing : new.missing ≡ object.missing
  protect : new.protect ≡ object.protect

faulted_alike : (object : Object) (addr : ℕ) (write wp : Bool) (cpu : ℕ) → IsAlike object (fault_queued object addr write wp cpu)
faulted_alike object addr write wp cpu = grind (arith, nat_tests)

slept_changed : (world : World) (processors : List CpuState) (object : Object) → IsSoundWorld world → world.destination.has_run ≡ false → world.source.switched ≡ false → IsAlike (space_of world.source).object object →
    IsSoundSpace (record (space_of world.source) { object = object }) →
    IsChanged world.source (record world.source.guest { space = record (space_of world.source) { object = object }; cpus = processors }) world.source.log.clean world.source.log.todo (world.transcript ++ [])
slept_changed world processors object kept bare unswitched alike sound =
    let space = space_of world.source in
    let events = alike.events in
    let unread : (page : ℕ) → is_unread object.events page ≡ false → is_unread space.object.events page ≡ false = λ page u. ap (λ e. is_unread e page) (sym events) ∙ u in
    record {
      flat = subst IsFlatRun (sym (append-nil world.transcript)) kept.memory.flat;
      holds = source_holds world kept bare ∙ ap memory_of (sym (append-nil world.transcript));
      space = sound;
      modes = λ page. ap (λ s. contains s page) alike.missing ∙ kept.spaces.both_modes page ∙ sym (ap (λ s. contains s page) alike.protect);
      events = subst AreWholeEvents (sym events) kept.spaces.source_events;
      idle = λ h. let was = kept.precopy.idle_source h in (was.0, was.1, was.2, events ∙ was.3, λ page. ap (λ s. contains s page) alike.missing ∙ was.4 page);
      protected = λ page h u. kept.precopy.clean_protected unswitched page h (unread page u);
      sendable = λ page h u. let was = kept.precopy.todo_sendable unswitched page h (unread page u) in (was.0, ap (λ s. contains s page) alike.protect ∙ was.1);
      copies = λ page h u. (h, unread page u, refl);
    }

access_changed : (world : World) (cpu : ℕ) (command : Command) (processors : List CpuState) (answer : Access) → IsSoundWorld world → world.destination.has_run ≡ false → world.source.switched ≡ false → is_access command ≡ true →
    access_of (space_of world.source) command ≡ answer →
    IsChanged world.source (record world.source.guest { space = accessed_by answer (space_of world.source) cpu command; cpus = processors }) world.source.log.clean world.source.log.todo
    (world.transcript ++ entries_of cpu command (access_took answer))
access_changed world cpu command processors (Answered reply) kept bare unswitched access is = answered_changed world cpu command reply processors kept bare unswitched access is
access_changed world cpu command processors Missing kept bare unswitched access is =
    slept_changed world processors _ kept bare unswitched (faulted_alike (space_of world.source).object _ _ _ cpu)
    (subst (λ a. IsSoundSpace (accessed_by a (space_of world.source) cpu command)) is (IsSoundSpace-accessed (space_of world.source) cpu command access kept.spaces.source_space))
access_changed world cpu command processors Protected kept bare unswitched access is =
    slept_changed world processors _ kept bare unswitched (faulted_alike (space_of world.source).object _ _ _ cpu)
    (subst (λ a. IsSoundSpace (accessed_by a (space_of world.source) cpu command)) is (IsSoundSpace-accessed (space_of world.source) cpu command access kept.spaces.source_space))

-- Map calls

call_changed : (world : World) (cpu : ℕ) (command : Command) (processors : List CpuState) → IsSoundWorld world → world.destination.has_run ≡ false → world.source.switched ≡ false → is_access command ≡ false →
    IsChanged world.source (record world.source.guest { space = called (space_of world.source) cpu command; cpus = processors }) world.source.log.clean world.source.log.todo
    (world.transcript ++ entries_of cpu command (call_took (reply_of (memory (space_of world.source).host) command) (queued_by (space_of world.source) command)))
call_changed world cpu command processors kept bare unswitched call =
    let space = space_of world.source in
    let holds = source_holds world kept bare in
    let sound = kept.spaces.source_space in
    let reply = reply_of (memory space.host) command in
    let messages = call_messages space.object command reply in
    let modes = modes_after space.object command reply in
    let new = called space cpu command in
    let entered = ap (λ entries. world.transcript ++ entries) (sym (entered_once cpu command reply (queued_by space command))) in
    let missing : new.object.missing ≡ modes.missing = queued_missing modes messages cpu in
    let protect : new.object.protect ≡ modes.protect = queued_protect modes messages cpu in
    let events : new.object.events ≡ space.object.events ++ noted_all messages cpu = events_queued modes messages cpu ∙ ap (λ e. e ++ noted_all messages cpu) (modes_events space.object command reply) in
    let both : space.object.missing ≡ space.object.protect = same_members space.object.missing space.object.protect kept.spaces.both_modes in
    -- an unread event that tells nothing of the page leaves what was known of it
    let unread = λ (page : ℕ) (u : is_unread new.object.events page ≡ false). or_parts (is_unread space.object.events page) (tells messages page) (sym (is_unread-append space.object.events messages cpu page) ∙ ap (λ e. is_unread e page) (sym events) ∙ u) in
    let registered = λ (page : ℕ) (h : contains space.object.protect page ≡ true). or_right (contains space.object.missing page) (contains space.object.protect page) h in
    let same = λ (page : ℕ) (h : contains space.object.protect page ≡ true) (u : is_unread new.object.events page ≡ false). untouched space command reply page sound call refl (registered page h) (unread page u).1 in
    record {
      flat = subst IsFlatRun entered (flat_after space.host world.transcript cpu command holds kept.memory.flat);
      holds = holds_after space.host world.transcript cpu command sound.host holds ∙ ap memory_of entered;
      space = IsSoundSpace-called space cpu command call sound;
      modes = λ page. ap (λ s. contains s page) (missing ∙ modes_same space.object command reply both ∙ sym protect);
      events = subst AreWholeEvents (sym events) (AreRight-append space.object.events messages cpu kept.spaces.source_events (right_messages space.host space.object command reply sound.host refl));
      idle = λ h.
          let was = kept.precopy.idle_source h in
          let none : IsUnregistered space.object = λ page. ap (λ b. b || contains space.object.protect page) (was.4 page) ∙ sym (kept.spaces.both_modes page) ∙ was.4 page in
          let nothing : messages ≡ [] = no_messages space.object command reply none in
          (was.0, was.1, was.2, events ∙ ap (λ m. space.object.events ++ noted_all m cpu) nothing ∙ ap (λ e. e ++ []) was.3, λ page. ap (λ s. contains s page) missing ∙ none_missing space.object command reply was.4 page);
      protected = λ page h u.
          let was = kept.precopy.clean_protected unswitched page h (unread page u).0 in
          (same page (sound.watched page was) u).protected ∙ was;
      sendable = λ page h u.
          let was = kept.precopy.todo_sendable unswitched page h (unread page u).0 in
          let stays = same page was.1 u in
          (ap is_some stays.bytes ∙ was.0, ap (λ s. contains s page) protect ∙ stays.protect ∙ was.1);
      copies = λ page h u.
          let was = kept.precopy.clean_protected unswitched page h (unread page u).0 in
          (h, (unread page u).0, (same page (sound.watched page was) u).bytes);
    }

-- Every command

tried_changed : (world : World) (cpu : ℕ) (command : Command) (access : Bool) → IsSoundWorld world → world.destination.has_run ≡ false → world.source.switched ≡ false → is_access command ≡ access →
    IsChanged world.source (tried access world.source.guest cpu command) world.source.log.clean world.source.log.todo (world.transcript ++ entries_of cpu command (took_by access (space_of world.source) command))
tried_changed world cpu command true kept bare unswitched is = access_changed world cpu command _ (access_of (space_of world.source) command) kept bare unswitched is refl
tried_changed world cpu command false kept bare unswitched is = call_changed world cpu command _ kept bare unswitched is

abbrev tried_at_source : World → ℕ → Command → World
tried_at_source world cpu command =
    record world {
      source = record world.source { guest = tried (is_access command) world.source.guest cpu command };
      transcript = world.transcript ++ entries_of cpu command (took_by (is_access command) (space_of world.source) command);
    }

command_at_source : (world : World) (cpu : ℕ) (command : Command) → world.destination.has_run ≡ false → tried_at_source world cpu command ≡ after_command world cpu command
command_at_source world cpu command bare = rw bare refl

pub kept-command_at_source : (world : World) (cpu : ℕ) (command : Command) → world.destination.has_run ≡ false → world.source.switched ≡ false → IsSoundWorld world → IsSoundWorld (after_command world cpu command)
kept-command_at_source world cpu command bare unswitched kept =
    subst IsSoundWorld (command_at_source world cpu command bare)
    (changed world (tried (is_access command) world.source.guest cpu command) world.source.log.clean world.source.log.todo world.source.log.held world.source.rounds world.source.faults
    (world.transcript ++ entries_of cpu command (took_by (is_access command) (space_of world.source) command)) kept bare unswitched
    (tried_changed world cpu command (is_access command) kept bare unswitched refl))
