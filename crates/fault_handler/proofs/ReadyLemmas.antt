-- What keeps the space of a destination ready: a command, a message that is read, and a page that is put.
use Rattle.std.proofs.lemmas.Bool.Decides.{nat_tests}
use Rattle.std.proofs.Common.{◌≡◌, ℕ, Bool, true, false, cond, eqb, length, Option, Some, None, List, [], ◌∷◌, refl, sym, ap, ◌∙◌, subst, arith}
use Rattle.std.specs.FinMap as finmap
use Rattle.std.specs.FinMap.{get, get-remove}
use Rattle.std.specs.Cmp.{nat_cmp_total, unsigned_tied}
use Rattle.std.proofs.lemmas.Bool.{eqb-true}
use Rattle.std.specs.FinSet.{contains}
use Rattle.mig_base.specs.Bytes.{zero_page}
use Rattle.mig_base.specs.Commands.{is_access}
use Rattle.mig_base.specs.Flat.{reply_of}
use Rattle.mig_base.specs.declared.command.Access.{Access}
use Rattle.mig_base.specs.declared.command.Access.TheVariants.{Answered, Missing, Protected}
use Rattle.mig_base.specs.declared.command.Command.{Command}
use Rattle.mig_base.specs.declared.message.Message.{Message}
use Rattle.mig_base.specs.declared.message.Message.TheVariants.{PageFault, Remap, Remove, Unmap}
use Rattle.mig_model.specs.Guest.{Guest, is_present, read_guest, space_by, zero_installed}
use Rattle.mig_model.specs.Host.{memory}
use Rattle.mig_model.specs.Promises.{AreFaults, IsFault}
use Rattle.mig_model.specs.Ioctls.{installed}
use Rattle.mig_model.specs.Owed.{Owed, owed_table_after, settled_by}
use Rattle.mig_model.specs.Space.{IsSoundSpace, Space, access_of, accessed_by, call_messages, modes_after}
use Rattle.mig_base.specs.Userfault.{Noted, changing, message_read, next_message, next_of}
use Rattle.mig_model.proofs.invariant.DestinationAct.{put-missing, put-unprotected}
use Rattle.mig_model.proofs.memory.Facts.{modes_events, some_is}
use Rattle.mig_model.proofs.owed.FaultLemmas.{AreFaults-tried}
use Rattle.mig_model.proofs.owed.SettledLemmas.{settled_by-applied}
use Rattle.mig_model.proofs.owed.TriedLemmas as tried
use Rattle.mig_model.proofs.owed.TriedLemmas.{command_tries}
use Rattle.uffd_ioctl.specs.Lent.{IsLent}
use Rattle.fault_handler.specs.Order.{AreInside, IsReady}
use Rattle.fault_handler.proofs.InsideLemmas.{called_inside, inside_queued}

-- Commands

access_inside : (access : Access) (space : Space) (cpu : ℕ) (command : Command) → AreInside space.object.events → AreInside (accessed_by access space cpu command).object.events
access_inside (Answered reply) space cpu command are = are
access_inside Missing space cpu command are = grind (arith, nat_tests)
access_inside Protected space cpu command are = grind (arith, nat_tests)

tried_inside : (access : Bool) (space : Space) (cpu : ℕ) (command : Command) → IsSoundSpace space → AreInside space.object.events → AreInside (space_by access space cpu command).object.events
tried_inside true space cpu command sound are = access_inside (access_of space command) space cpu command are
tried_inside false space cpu command sound are =
    let reply = reply_of (memory space.host) command in
    inside_queued (modes_after space.object command reply) (call_messages space.object command reply) cpu (subst AreInside (sym (modes_events space.object command reply)) are) (called_inside space command reply sound refl)

pub ready_tried : (access : Bool) (space : Space) (owed : Owed) (cpu : ℕ) (command : Command) → is_access command ≡ access → IsSoundSpace space → IsLent (space_by access space cpu command) → IsReady space owed → IsReady (space_by access space cpu command) owed
ready_tried access space owed cpu command is sound lent ready =
    let old : tried.IsReady space (get owed) = record { sound = sound; unprotected = ready.unprotected; only_missing = ready.only_missing; events = ready.events; pairs = ready.pairs } in
    let new = (command_tries access space.host (get owed) space cpu command is sound.host old).ready in
    record {
      lent = lent;
      unprotected = new.unprotected;
      only_missing = new.only_missing;
      events = new.events;
      inside = tried_inside access space cpu command sound ready.inside;
      faults = AreFaults-tried access space cpu command ready.faults;
      pairs = new.pairs;
    }

-- Messages

-- the space with these messages unread
abbrev with_queues : List Noted → List Noted → Space → Space
with_queues faults events space = record space { object = record space.object { faults = faults; events = events } }

event_read : (message : Message) (cpu : ℕ) (events : List Noted) (space : Space) (owed : Owed) → IsLent (with_queues [] events space) → IsReady (with_queues [] (record { message = message; cpu = cpu } ∷ events) space) owed →
    IsReady (with_queues [] events space) (owed_table_after message owed)
event_read message cpu events space owed lent ready =
    let noted : Noted = record { message = message; cpu = cpu } in
    record {
      lent = lent;
      unprotected = ready.unprotected;
      only_missing = ready.only_missing;
      events = ready.events.1;
      inside = ready.inside.1;
      faults = ready.faults;
      pairs = λ page origin h. ready.pairs page origin (ap (λ f. f page) (sym (settled_by-applied noted events owed)) ∙ h);
    }

fault_read : (message : Message) (cpu : ℕ) (faults events : List Noted) (space : Space) (owed : Owed) → IsFault message → IsLent (with_queues faults events space) → IsReady (with_queues (record { message = message; cpu = cpu } ∷ faults) events space) owed →
    IsReady (with_queues faults events space) (owed_table_after message owed)
fault_read (PageFault addr write wp tid) cpu faults events space owed fault lent ready =
    record { lent = lent; unprotected = ready.unprotected; only_missing = ready.only_missing; events = ready.events; inside = ready.inside; faults = ready.faults.1; pairs = ready.pairs }
fault_read (Remap from to len) cpu faults events space owed fault lent ready = absurd fault
fault_read (Remove start end) cpu faults events space owed fault lent ready = absurd fault
fault_read (Unmap start end) cpu faults events space owed fault lent ready = absurd fault

pub read_space : (guest : Guest) (cpu : ℕ) (message : Message) → (read_guest guest cpu message).space ≡ record guest.space { object = message_read guest.space.object }
read_space guest cpu (PageFault addr write wp tid) = refl
read_space guest cpu (Remap from to len) = refl
read_space guest cpu (Remove start end) = refl
read_space guest cpu (Unmap start end) = refl

ready_after : (faults events : List Noted) (space : Space) (owed : Owed) (noted : Noted) → next_of faults events ≡ Some noted →
    IsLent (record space { object = message_read (with_queues faults events space).object }) → IsReady (with_queues faults events space) owed →
    IsReady (record space { object = message_read (with_queues faults events space).object }) (owed_table_after noted.message owed)
ready_after [] [] space owed noted is lent ready = absurd (none_some is)
  where
    none_some : None ≡ Some noted → ⊥
    none_some h = cc
ready_after [] (first ∷ events) space owed noted is lent ready =
    subst (λ n. IsReady (with_queues [] events space) (owed_table_after n.message owed)) (some_is first noted is) (event_read first.message first.cpu events space owed lent ready)
ready_after (first ∷ faults) events space owed noted is lent ready =
    subst (λ n. IsReady (with_queues faults events space) (owed_table_after n.message owed)) (some_is first noted is) (fault_read first.message first.cpu faults events space owed ready.faults.0 lent ready)

pub ready_read : (guest : Guest) (owed : Owed) (noted : Noted) → next_message guest.space.object ≡ Some noted → IsLent (read_guest guest noted.cpu noted.message).space → IsReady guest.space owed →
    IsReady (read_guest guest noted.cpu noted.message).space (owed_table_after noted.message owed)
ready_read guest owed noted next lent ready =
    let space = guest.space in
    let same = read_space guest noted.cpu noted.message in
    subst (λ s. IsReady s (owed_table_after noted.message owed)) (sym same) (ready_after space.object.faults space.object.events space owed noted next (subst IsLent same lent) ready)

-- Pages that are put

-- where no event is unread what is settled is what the table has
pub settled_now : (events : List Noted) (owed : ℕ → Option ℕ) (page : ℕ) → length events ≡ 0 → settled_by events owed page ≡ owed page
settled_now [] owed page quiet = refl
settled_now (noted ∷ events) owed page quiet = absurd (omega arith)

-- the pairs of a space in which no event is unread
pub pairs_now : (space : Space) (owed : Owed) (page origin : ℕ) → changing space.object ≡ 0 → IsReady space owed → get owed page ≡ Some origin → (contains space.object.missing page ≡ true) × (is_present space page ≡ false)
pairs_now space owed page origin quiet ready h = by space.object.events quiet ready.pairs
  where
    by : (events : List Noted) → length events ≡ 0 → ((page origin : ℕ) → settled_by events (get owed) page ≡ Some origin → (contains space.object.missing page ≡ true) × (is_present space page ≡ false)) →
        (contains space.object.missing page ≡ true) × (is_present space page ≡ false)
    by [] none pairs = pairs page origin h
    by (noted ∷ events) none pairs = absurd (omega arith)

-- the pairs that are left are other pages' than the one that is put
ready_put : (space : Space) (owed now : Owed) (page : ℕ) (bytes : List ℕ) → changing space.object ≡ 0 → ((q origin : ℕ) → get now q ≡ Some origin → (eqb q page ≡ false) × (get owed q ≡ Some origin)) → IsReady space owed →
    IsReady (installed space page 1 (λ i. bytes) false) now
ready_put space owed now page bytes quiet left ready =
    record {
      lent = record { enabled = ready.lent.enabled; events = ready.lent.events; low = ready.lent.low };
      unprotected = put-unprotected space page bytes ready.unprotected;
      only_missing = ready.only_missing;
      events = ready.events;
      inside = ready.inside;
      faults = ready.faults;
      pairs = λ q origin h.
          let was = left q origin (sym (settled_now space.object.events (get now) q quiet) ∙ h) in
          let pair = pairs_now space owed q origin quiet ready was.1 in
          (pair.0, put-missing space page q bytes was.0 pair.1);
    }

-- a page that becomes zeros is owed from nowhere
pub ready_zeroed : (space : Space) (owed : Owed) (page : ℕ) → changing space.object ≡ 0 → get owed page ≡ None → IsReady space owed → IsReady (zero_installed space page) owed
ready_zeroed space owed page quiet nothing ready = ready_put space owed owed page zero_page quiet (λ q origin h. (other_page q origin h, h)) ready
  where
    some_none : (o : Option ℕ) (origin : ℕ) → o ≡ None → o ≡ Some origin → ⊥
    some_none o origin none some = cc

    other_page : (q origin : ℕ) → get owed q ≡ Some origin → eqb q page ≡ false
    other_page q origin h = by (eqb q page) refl
      where
        by : (b : Bool) → eqb q page ≡ b → b ≡ false
        by false is = refl
        by true is = absurd (some_none (get owed page) origin nothing (ap (get owed) (sym (eqb-true q page is)) ∙ h))

-- a page that is installed is owed no longer
pub ready_installed : (space : Space) (owed : Owed) (page : ℕ) (bytes : List ℕ) → changing space.object ≡ 0 → IsReady space owed → IsReady (installed space page 1 (λ i. bytes) false) (finmap.remove owed page)
ready_installed space owed page bytes quiet ready = ready_put space owed (finmap.remove owed page) page bytes quiet left ready
  where
    by : (b : Bool) (o : Option ℕ) (origin : ℕ) → cond b None o ≡ Some origin → (b ≡ false) × (o ≡ Some origin)
    by b o origin h = grind arith

    left : (q origin : ℕ) → get (finmap.remove owed page) q ≡ Some origin → (eqb q page ≡ false) × (get owed q ≡ Some origin)
    left q origin h = by (eqb q page) (get owed q) origin (sym (get-remove nat_cmp_total owed page q ∙ ap (λ b. cond b None (get owed q)) (unsigned_tied q page)) ∙ h)

-- What a message that is read leaves settled

settled_after : (faults events : List Noted) (space : Space) (owed : Owed) (noted : Noted) (page : ℕ) → next_of faults events ≡ Some noted → AreFaults faults →
    settled_by (message_read (with_queues faults events space).object).events (get (owed_table_after noted.message owed)) page ≡ settled_by events (get owed) page
settled_after [] [] space owed noted page is are = absurd (none_some is)
  where
    none_some : None ≡ Some noted → ⊥
    none_some h = cc
settled_after [] (first ∷ events) space owed noted page is are =
    subst (λ (n : Noted). settled_by events (get (owed_table_after n.message owed)) page ≡ settled_by (first ∷ events) (get owed) page) (some_is first noted is) (ap (λ f. f page) (settled_by-applied first events owed))
settled_after (first ∷ faults) events space owed noted page is are =
    subst (λ (n : Noted). settled_by events (get (owed_table_after n.message owed)) page ≡ settled_by events (get owed) page) (some_is first noted is) (same first.message are.0)
  where
    same : (message : Message) → IsFault message → settled_by events (get (owed_table_after message owed)) page ≡ settled_by events (get owed) page
    same (PageFault addr write wp tid) fault = refl
    same (Remap from to len) fault = absurd fault
    same (Remove start end) fault = absurd fault
    same (Unmap start end) fault = absurd fault

pub settled_read : (guest : Guest) (owed : Owed) (noted : Noted) (page : ℕ) → next_message guest.space.object ≡ Some noted → IsReady guest.space owed →
    settled_by (read_guest guest noted.cpu noted.message).space.object.events (get (owed_table_after noted.message owed)) page ≡ settled_by guest.space.object.events (get owed) page
settled_read guest owed noted page next ready =
    ap (λ (s : Space). settled_by s.object.events (get (owed_table_after noted.message owed)) page) (read_space guest noted.cpu noted.message)
    ∙ settled_after guest.space.object.faults guest.space.object.events guest.space owed noted page next ready.faults
