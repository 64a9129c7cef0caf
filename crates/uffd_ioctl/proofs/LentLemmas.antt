-- A space that may be lent stays one.
use Rattle.std.proofs.Common.{◌≡◌, ℕ, ◌*◌, ◌/◌, ◌<◌, ◌≤◌, inl, Bool, true, false, cond, Option, Some, None, List, [], ◌∷◌, is_some, refl, sym, ap, ◌∙◌, ⊎_elim, arith}
use Rattle.std.specs.FinMap.{get, contains_key}
use Rattle.mig_base.specs.Commands.{is_access}
use Rattle.mig_base.specs.declared.TheConstants.{HIGH, LOW, LOW_PAGE}
use Rattle.mig_base.specs.declared.command.Access.{Access}
use Rattle.mig_base.specs.declared.command.Access.TheVariants.{Answered, Missing, Protected}
use Rattle.mig_base.specs.declared.command.Command.{Command}
use Rattle.mig_base.specs.declared.command.Command.TheVariants.{Load, Store, Mmap, Munmap, Mremap, DontNeed}
use Rattle.mig_base.specs.declared.command.Reply.{Reply}
use Rattle.mig_base.specs.declared.command.Reply.TheVariants.{At, Done}
use Rattle.mig_base.specs.declared.message.Message.{Message}
use Rattle.mig_base.specs.declared.message.Message.TheVariants.{PageFault, Remap, Remove, Unmap}
use Rattle.mig_base.specs.Flat.{reply_of}
use Rattle.mig_base.proofs.BoundLemmas.{IsBounded, changed_bounded}
use Rattle.mig_model.specs.Host.{Host, host_after, host_changed, memory}
use Rattle.mig_base.specs.Userfault.{Noted, Object, message_read, read_by, waits_fault}
use Rattle.mig_model.specs.Space.{Space, IsSoundSpace, access_of, accessed_by, all_queued, call_messages, called, modes_after}
use Rattle.mig_base.specs.declared.act.Act.{Act}
use Rattle.mig_model.specs.Guest.{Guest, read_guest, space_by}
use Rattle.mig_base.specs.declared.command.Errno.{Errno}
use Rattle.mig_model.specs.Ioctls as ioctls
use Rattle.mig_model.specs.Ioctls.{has_events, left_by}
use Rattle.mig_model.specs.Source.{Source, source_acted_by, space_of}
use Rattle.mig_model.proofs.memory.CommandLemmas.{memory-changed}
use Rattle.mig_model.proofs.memory.Facts.{none_absurd}
use Rattle.mig_model.proofs.memory.HostLemmas.{memory-none, memory-some}
use Rattle.uffd_ioctl.specs.Lent.{IsLent}
use Rattle.foundation.proofs.TestLemmas.{missing_none}

-- the object is enabled as before
record SameFeatures (object new : Object) : Type 0 where
  enabled : new.enabled ≡ object.enabled
  features : new.features ≡ object.features

-- so it is enough that the same areas, or none below, are mapped
still_lent : (space new : Space) → IsLent space → SameFeatures space.object new.object → ((page : ℕ) → page < LOW_PAGE → contains_key new.host.areas page ≡ false) → IsLent new
still_lent space new lent same low = record { enabled = same.enabled ∙ lent.enabled; events = features_events space.object new.object same.features lent.events; low = low }
  where
    features_events : (object new : Object) → new.features ≡ object.features → has_events object ≡ true → has_events new ≡ true
    features_events object new e h = rw e h

pub read_space : (guest : Guest) (cpu : ℕ) (message : Message) → (read_guest guest cpu message).space ≡ record guest.space { object = read_by guest.space.object.faults guest.space.object }
read_space guest cpu (PageFault addr write wp tid) = refl
read_space guest cpu (Remap from to len) = refl
read_space guest cpu (Remove start end) = refl
read_space guest cpu (Unmap start end) = refl

same_read : (faults : List Noted) (object : Object) → SameFeatures object (read_by faults object)
same_read [] object = record { enabled = refl; features = refl }
same_read (fault ∷ faults) object = record { enabled = refl; features = refl }

pub read_lent : (guest : Guest) (noted : Noted) → IsLent guest.space → IsLent (read_guest guest noted.cpu noted.message).space
read_lent guest noted lent =
    rw (read_space guest noted.cpu noted.message) (still_lent guest.space (record guest.space { object = message_read guest.space.object }) lent (same_read guest.space.object.faults guest.space.object) lent.low)

left_lent : (error : Option Errno) (old new : Space) → IsLent old → IsLent new → IsLent (left_by error old new)
left_lent None old new lent after = after
left_lent (Some errno) old new lent after = lent

pub read_space_lent : (space : Space) → IsLent space → IsLent (ioctls.read_space space)
read_space_lent space lent =
    left_lent (ioctls.read_error space) space (record space { object = message_read space.object }) lent
    (still_lent space (record space { object = message_read space.object }) lent (same_read space.object.faults space.object) lent.low)

pub acted_lent : (act : Act) (node : Source) (page : ℕ) → IsLent (space_of node) → IsLent (space_of (source_acted_by act node page))
acted_lent Act.Unprotected node page lent = record { enabled = lent.enabled; events = lent.events; low = lent.low }
acted_lent Act.Zeroed node page lent = record { enabled = lent.enabled; events = lent.events; low = lent.low }
acted_lent Act.Woke node page lent = lent
acted_lent Act.Forgot node page lent = lent
acted_lent (Act.Requested origin) node page lent = lent

-- Loads and stores

same_areas : (host : Host) (command : Command) (reply : Reply) → is_access command ≡ true → (host_changed host command reply).areas ≡ host.areas
same_areas host (Load addr width) reply h = refl
same_areas host (Store addr width value) Done h = refl
same_areas host (Store addr width value) _ h = refl
same_areas host (Mmap len prot place) reply h = none_absurd h
same_areas host (Munmap addr len) reply h = none_absurd h
same_areas host (Mremap addr old_len new_len may_move fixed) reply h = none_absurd h
same_areas host (DontNeed addr len) reply h = none_absurd h

same_queued : (waits : Bool) (object new : Object) → SameFeatures object new → SameFeatures object (cond waits object new)
same_queued true object new same = record { enabled = refl; features = refl }
same_queued false object new same = same

pub access_lent : (access : Access) (space : Space) (cpu : ℕ) (command : Command) → is_access command ≡ true → IsLent space → IsLent (accessed_by access space cpu command)
access_lent (Answered reply) space cpu command is lent =
    still_lent space _ lent (record { enabled = refl; features = refl }) (λ page l. ap (λ areas. contains_key areas page) (same_areas space.host command (reply_of (memory space.host) command) is) ∙ lent.low page l)
access_lent Missing space cpu command is lent = still_lent space _ lent (same_queued (waits_fault space.object.faults _ false) space.object _ (record { enabled = refl; features = refl })) lent.low
access_lent Protected space cpu command is lent = still_lent space _ lent (same_queued (waits_fault space.object.faults _ true) space.object _ (record { enabled = refl; features = refl })) lent.low

-- Map calls

same_modes : (object : Object) (command : Command) (reply : Reply) → SameFeatures object (modes_after object command reply)
same_modes object (Mmap len prot place) (At start) = record { enabled = refl; features = refl }
same_modes object (Munmap addr len) Done = record { enabled = refl; features = refl }
same_modes object (Mremap addr old_len new_len may_move fixed) (At target) = record { enabled = refl; features = refl }
same_modes object _ _ = record { enabled = refl; features = refl }

same_all : (object : Object) (messages : List Message) (cpu : ℕ) → SameFeatures object (all_queued object messages cpu)
same_all object [] cpu = record { enabled = refl; features = refl }
same_all object (message ∷ messages) cpu = let rest = same_all _ messages cpu in record { enabled = rest.enabled; features = rest.features }

none_some : {X : Type 0} (o : Option X) → ((x : X) → o ≡ Some x → ⊥) → is_some o ≡ false
none_some None h = refl
none_some (Some x) h = absurd (h x refl)

bounded : (space : Space) → IsSoundSpace space → IsLent space → IsBounded (memory space.host)
bounded space sound lent addr out =
    memory-none space.host addr
    (⊎_elim (λ (l : addr < LOW). missing_none (get space.host.areas (addr / 4096)) (lent.low (addr / 4096) (omega (arith, l)))) (λ (l : HIGH ≤ addr). sound.host.bound (addr / 4096) (omega (arith, l))) out)

some_no_none : {X : Type 0} (x : X) → Some x ≡ None → ⊥
some_no_none x h = cc

bounded_low : (host : Host) (page : ℕ) → IsBounded (memory host) → page < LOW_PAGE → contains_key host.areas page ≡ false
bounded_low host page none l =
    let at : 4096 * page / 4096 ≡ page = omega arith in
    none_some (get host.areas page) (λ prot e. some_no_none _ (sym (memory-some host (4096 * page) prot (ap (get host.areas) at ∙ e)) ∙ none (4096 * page) (inl (omega (arith, l)))))

pub call_lent : (space : Space) (cpu : ℕ) (command : Command) → IsSoundSpace space → IsLent space → IsLent (called space cpu command)
call_lent space cpu command sound lent =
    let reply = reply_of (memory space.host) command in
    let modes = same_modes space.object command reply in
    let queued = same_all (modes_after space.object command reply) (call_messages space.object command reply) cpu in
    let after : IsBounded (memory (host_after space.host command)) =
    λ addr out. ap (λ m. m addr) (memory-changed space.host command reply sound.host refl) ∙ changed_bounded (memory space.host) command reply (bounded space sound lent) refl addr out in
    still_lent space _ lent (record { enabled = queued.enabled ∙ modes.enabled; features = queued.features ∙ modes.features }) (λ page l. bounded_low (host_after space.host command) page after l)

-- Commands

pub space_lent : (access : Bool) (space : Space) (cpu : ℕ) (command : Command) → is_access command ≡ access → IsSoundSpace space → IsLent space → IsLent (space_by access space cpu command)
space_lent true space cpu command is sound lent = access_lent (access_of space command) space cpu command is lent
space_lent false space cpu command is sound lent = call_lent space cpu command sound lent
