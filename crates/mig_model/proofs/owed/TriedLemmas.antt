-- A command that a processor tries at the destination: the destination's space stays in order with what is owed to it, and the host
-- that the guest sees answers as its memory does and changes as the command says.
use Rattle.std.proofs.lemmas.Bool.Decides.{nat_tests}
use Rattle.std.proofs.Common.{◌≡◌, ℕ, ◌*◌, Bool, true, false, cond, Option, List, [], ◌∷◌, refl, sym, ap, ◌∙◌, subst, ◌⊎◌, ⊎_elim, inl, inr, arith}
use Rattle.std.specs.FinMap.{contains_key}
use Rattle.std.specs.FinSet.{contains}
use Rattle.mig_base.specs.declared.command.Command.{Command}
use Rattle.mig_base.specs.declared.command.Reply.{Reply}
use Rattle.mig_base.specs.declared.command.Access.{Access}
use Rattle.mig_base.specs.declared.command.Access.TheVariants.{Answered, Missing, Protected}
use Rattle.mig_base.specs.declared.command.Entry.{Entry}
use Rattle.mig_base.specs.Flat.{reply_of}
use Rattle.mig_base.specs.Commands.{is_access, page_of}
use Rattle.mig_model.specs.Host.{Host, memory, host_changed, host_after, IsSound}
use Rattle.mig_base.specs.Userfault.{Noted, waits_fault}
use Rattle.mig_model.specs.Space.{Space, IsSoundSpace, is_made, access_of, accessed_by, called, modes_after, call_messages, queued_by}
use Rattle.mig_model.specs.Guest.{took_by, space_by}
use Rattle.mig_model.specs.Cpus.Took.{Answer, Sleep}
use Rattle.mig_model.specs.Whereabouts.{seen_host}
use Rattle.mig_model.specs.Invariant.{AreWholeEvents}
use Rattle.mig_model.proofs.memory.HostLemmas.{get-put}
use Rattle.mig_model.proofs.memory.SpaceLemmas.{IsSoundSpace-accessed, IsSoundSpace-called}
use Rattle.mig_model.proofs.owed.SeenLemmas.{answered_seen, owed_none, watched_mapped, seen_own, reply_of-seen_call}
use Rattle.mig_model.proofs.owed.SettledCalls.{settled-queued, right-queued}
use Rattle.mig_model.proofs.owed.EventLemmas.{settled_called, right_called}
use Rattle.mig_model.proofs.owed.ChangedLemmas.{called_seen, accessed_seen}
use Rattle.mig_model.proofs.owed.PairLemmas.{ArePairs, HasNone, pairs_watched, pairs_called, none_protected, none_in_mode}
use Rattle.mig_model.specs.Cpus.{Took, access_took, call_took, entries_of}
use Rattle.mig_model.specs.Owed.{settled_by}
use Rattle.mig_model.specs.Promises.{owed_changed}
use Rattle.mig_model.proofs.memory.Facts.{queued_missing, queued_protect, entered_once, modes_events}

-- what is settled in a space, from the owed table
abbrev pub settled_in : Space → (ℕ → Option ℕ) → ℕ → Option ℕ
settled_in space owed = settled_by space.object.events owed

-- the space of a destination in order, with the owed table
pub record IsReady (space : Space) (owed : ℕ → Option ℕ) : Type 0 where
  pub sound : IsSoundSpace space
  pub unprotected : HasNone space.protected
  pub only_missing : HasNone space.object.protect
  pub events : AreWholeEvents space.object.events
  pub pairs : ArePairs space (settled_in space owed)

-- what a try enters in the transcript, and how the seen host changes: nothing, or an entry as its memory answers
pub data IsEntered (old new : Host) (cpu : ℕ) (command : Command) (took : Took) : Type 0 where
  Silent : entries_of cpu command took ≡ [] → new ≡ old → IsEntered old new cpu command took
  Entered : entries_of cpu command took ≡ record { cpu = cpu; command = command; reply = reply_of (memory old) command } ∷ [] → new ≡ host_after old command → IsEntered old new cpu command took

pub record IsTried (there : Host) (owed : ℕ → Option ℕ) (old new : Space) (cpu : ℕ) (command : Command) (took : Took) : Type 0 where
  pub ready : IsReady new owed
  pub entered : IsEntered (seen_host old.host there (settled_in old owed)) (seen_host new.host there (settled_in new owed)) cpu command took

-- Accesses

-- one that sleeps
faulted : (waits : Bool) (faults : List Noted) (there : Host) (owed : ℕ → Option ℕ) (space : Space) (cpu : ℕ) (command : Command) → IsReady space owed →
    IsTried there owed space (record space { object = cond waits space.object (record space.object { faults = faults }) }) cpu command Sleep
faulted waits faults there owed space cpu command ready = grind (arith, nat_tests)

pairs_accessed : (space : Space) (owed : ℕ → Option ℕ) (command : Command) (reply : Reply) → is_access command ≡ true → ArePairs space owed →
    (is_made reply ≡ true → (contains_key space.host.bytes (page_of command) ≡ true) ⊎ (contains space.object.missing (page_of command) ≡ false)) →
    ArePairs (record space { host = host_changed space.host command reply }) owed
pairs_accessed space owed command reply access pairs own page origin h = grind (arith, nat_tests, get-put)

-- one that is answered
answered : (there : Host) (owed : ℕ → Option ℕ) (space : Space) (cpu : ℕ) (command : Command) (reply : Reply) → IsSound there → is_access command ≡ true → IsReady space owed → access_of space command ≡ Answered reply →
    IsTried there owed space (accessed_by (Answered reply) space cpu command) cpu command (Answer reply)
answered there owed space cpu command reply far access ready is =
    let now = settled_in space owed in
    let seen = seen_host space.host there now in
    let own_reply = reply_of (memory space.host) command in
    let sound = ready.sound in
    let watched = pairs_watched space now ready.pairs in
    let mapped = watched_mapped space now sound watched in
    let told = answered_seen space there now command reply sound watched access is in
    let new_sound : IsSoundSpace (accessed_by (Answered reply) space cpu command) = subst (λ a. IsSoundSpace (accessed_by a space cpu command)) is (IsSoundSpace-accessed space cpu command access sound) in
    let own : is_made own_reply ≡ true → (contains_key space.host.bytes (page_of command) ≡ true) ⊎ (contains space.object.missing (page_of command) ≡ false) = λ made. told.own (ap is_made told.here ∙ made) in
    let changes : seen_host (host_changed space.host command own_reply) there now ≡ host_changed seen command own_reply =
    accessed_seen space.host there now command own_reply access sound.host mapped new_sound.host
    (λ made. seen_own space.host there now (page_of command) sound.host mapped
    (⊎_elim (λ (present : contains_key space.host.bytes (page_of command) ≡ true). inl present) (λ (missing : contains space.object.missing (page_of command) ≡ false). inr (owed_none now (contains space.object.missing) (page_of command) watched missing)) (own made))) in
    record {
      ready = record {
        sound = new_sound;
        unprotected = ready.unprotected;
        only_missing = ready.only_missing;
        events = ready.events;
        pairs = pairs_accessed space now command own_reply access ready.pairs own;
      };
      entered = Entered
          (ap {B = List Entry} (λ r. record { cpu = cpu; command = command; reply = r } ∷ []) told.seen)
          (changes ∙ ap (host_changed seen command) (sym told.here ∙ told.seen));
    }

access_tried : (access : Access) (there : Host) (owed : ℕ → Option ℕ) (space : Space) (cpu : ℕ) (command : Command) → IsSound there → is_access command ≡ true → IsReady space owed → access_of space command ≡ access →
    IsTried there owed space (accessed_by access space cpu command) cpu command (access_took access)
access_tried (Answered reply) there owed space cpu command far access ready is = answered there owed space cpu command reply far access ready is
access_tried Missing there owed space cpu command far access ready is = faulted (waits_fault space.object.faults (4096 * page_of command) false) _ there owed space cpu command ready
access_tried Protected there owed space cpu command far access ready is = faulted (waits_fault space.object.faults (4096 * page_of command) true) _ there owed space cpu command ready

-- Map calls

-- what is settled after a map call: the owed relation has changed as the pages have
pub settled_then : (space : Space) (owed : ℕ → Option ℕ) (cpu : ℕ) (command : Command) → IsReady space owed →
    settled_in (called space cpu command) owed ≡ owed_changed (settled_in space owed) command (reply_of (memory space.host) command)
settled_then space owed cpu command ready = grind (arith, nat_tests, settled-queued, settled_called, pairs_watched)

call_tried : (there : Host) (owed : ℕ → Option ℕ) (space : Space) (cpu : ℕ) (command : Command) → IsSound there → is_access command ≡ false → IsReady space owed →
    IsTried there owed space (called space cpu command) cpu command (call_took (reply_of (memory space.host) command) (queued_by space command))
call_tried there owed space cpu command far call ready =
    let now = settled_in space owed in
    let reply = reply_of (memory space.host) command in
    let seen = seen_host space.host there now in
    let new = called space cpu command in
    let modes = modes_after space.object command reply in
    let messages = call_messages space.object command reply in
    let sound = ready.sound in
    let mapped = watched_mapped space now sound (pairs_watched space now ready.pairs) in
    let new_sound = IsSoundSpace-called space cpu command call sound in
    let settles : settled_in new owed ≡ owed_changed now command reply = settled_then space owed cpu command ready in
    let pairs : ArePairs new (owed_changed now command reply) =
    λ page origin h.
    let both = pairs_called space now command reply call sound refl ready.pairs page origin h in
    (ap (λ s. contains s page) (queued_missing modes messages cpu) ∙ both.0, both.1) in
    let alike : reply ≡ reply_of (memory seen) command = reply_of-seen_call space.host there now command call in
    record {
      ready = record {
        sound = new_sound;
        unprotected = none_protected space.protected command reply ready.unprotected;
        only_missing = λ page. ap (λ s. contains s page) (queued_protect modes messages cpu) ∙ none_in_mode space.object command reply ready.only_missing page;
        events = right-queued modes messages cpu (subst AreWholeEvents (sym (modes_events space.object command reply)) ready.events) (right_called space command reply sound refl);
        pairs = subst (ArePairs new) (sym settles) pairs;
      };
      entered = Entered
          (entered_once cpu command reply (queued_by space command) ∙ ap {B = List Entry} (λ r. record { cpu = cpu; command = command; reply = r } ∷ []) alike)
          (ap (seen_host new.host there) settles
          ∙ called_seen space.host there now command reply call sound.host mapped new_sound.host (watched_mapped new (owed_changed now command reply) new_sound (pairs_watched new (owed_changed now command reply) pairs))
          ∙ ap (host_changed seen command) alike);
    }

-- Every command

pub command_tries : (access : Bool) (there : Host) (owed : ℕ → Option ℕ) (space : Space) (cpu : ℕ) (command : Command) → is_access command ≡ access → IsSound there → IsReady space owed →
    IsTried there owed space (space_by access space cpu command) cpu command (took_by access space command)
command_tries true there owed space cpu command is far ready = access_tried (access_of space command) there owed space cpu command far is ready refl
command_tries false there owed space cpu command is far ready = call_tried there owed space cpu command far is ready
