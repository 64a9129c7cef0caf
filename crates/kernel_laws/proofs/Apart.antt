-- A processor's access apart from the pages that a MADV_DONTNEED has taken: it ends as it would have with those pages.
use Rattle.std.proofs.lemmas.Bool.Decides.{nat_tests}
use Rattle.std.proofs.lemmas.Bool.{eqb-true, false≢true}
use Rattle.std.proofs.Common.{◌≡◌, ℕ, ◌+◌, ◌*◌, ◌/◌, ◌%◌, ◌^◌, ◌&&◌, ◌||◌, Bool, true, false, not, cond, eqb, ltb, Option, Some, None, List, [], ◌∷◌, ◌++◌, length, arith, refl, sym, ap, ◌∙◌}
use Rattle.std.specs.Prelude.{if◌then◌else◌}
use Rattle.std.specs.Ordering.{nat_cmp}
use Rattle.std.specs.FinMap.{FinMap, contains_key, get, insert}
use Rattle.std.specs.FinSet.{FinSet, contains}
use Rattle.mig_base.specs.declared.command.Access.{Access}
use Rattle.mig_base.specs.declared.command.Access.TheVariants.{Answered, Missing, Protected}
use Rattle.mig_base.specs.declared.command.Command.{Command}
use Rattle.mig_base.specs.declared.command.Command.TheVariants.{Load, Store}
use Rattle.mig_base.specs.declared.command.Errno.{Errno}
use Rattle.mig_base.specs.declared.command.Reply.{Reply}
use Rattle.mig_base.specs.declared.command.Reply.TheVariants as reply
use Rattle.mig_base.specs.declared.message.Message.{Message}
use Rattle.mig_base.specs.Bytes.{contents, low_bytes, overwrite}
use Rattle.mig_base.specs.Commands.{is_access, is_store, page_of}
use Rattle.mig_base.specs.Flat.{Cell, access_reply, allows_load, allows_store, is_aligned, number_at, reply_of}
use Rattle.mig_base.specs.Pages.{remove_range, set_range}
use Rattle.foundation.specs.Ranges.{in_range, pages_of, rounded}
use Rattle.mig_base.specs.Sets.{without}
use Rattle.mig_base.specs.Userfault.{Object, event_queued, fault_queued, is_registered, is_watched, thread_id, unregistered, waits_fault, Noted}
use Rattle.mig_base.proofs.PageLemmas.{get-remove_range, same_pages}
use Rattle.foundation.proofs.RangeLemmas.{in_range_bounds}
use Rattle.mig_base.proofs.SetLemmas.{member_without, same_members}
use Rattle.mig_model.specs.Host.{Host, host_after, host_changed, host_dropped, memory}
use Rattle.mig_model.specs.Space.{Space, accessed, accessed_by, all_queued, call_messages, called, is_made, message_if, modes_after, queued_by}
use Rattle.mig_model.proofs.memory.HostLemmas.{get-put, memory-at}
use Rattle.mig_model.proofs.memory.ReplyOfLemmas.{reply_of-prots}
use Rattle.mig_model.proofs.owed.SeenLemmas.{same_prots}
use Rattle.kernel_laws.specs.Logs.{is_remap}
use Rattle.kernel_laws.proofs.Clearing.{dropped_space}
use Rattle.kernel_laws.proofs.MapReplies.{by-reply, called_as}
use Rattle.kernel_laws.proofs.Registers.{kept}
use Rattle.kernel_laws.proofs.Unmaps.{is-watched, same-bytes}

-- A page apart

same-page : (bytes : FinMap nat_cmp (List ℕ)) (first count page : ℕ) → in_range first count page ≡ false → get (remove_range bytes first count) page ≡ get bytes page
same-page bytes first count page out = get-remove_range bytes first count page ∙ ap (λ b. cond b None (get bytes page)) out

same-contents : (bytes : FinMap nat_cmp (List ℕ)) (first count page : ℕ) → in_range first count page ≡ false → contents (remove_range bytes first count) page ≡ contents bytes page
same-contents bytes first count page out = grind (arith, nat_tests, same-page)

same-cell : (host : Host) (first count addr : ℕ) → in_range first count (addr / 4096) ≡ false → memory (host_dropped host first count) addr ≡ memory host addr
same-cell host first count addr out = grind (arith, nat_tests, memory-at, same-page)

same-guard : (pages : FinSet nat_cmp) (first count page : ℕ) → in_range first count page ≡ false → contains (without pages first count) page ≡ contains pages page
same-guard pages first count page out = grind (arith, nat_tests, member_without)

-- a store puts its page beside those that are taken
stored-apart : (bytes : FinMap nat_cmp (List ℕ)) (first count page : ℕ) (new : List ℕ) → in_range first count page ≡ false → insert (remove_range bytes first count) page new ≡ remove_range (insert bytes page new) first count
stored-apart bytes first count page new out =
    same_pages (insert (remove_range bytes first count) page new) (remove_range (insert bytes page new) first count) (λ q.
    get-put (remove_range bytes first count) page q new
    ∙ ap (λ o. cond (eqb q page) (Some new) o) (get-remove_range bytes first count q)
    ∙ either q (in_range first count q) (eqb q page) refl refl
    ∙ ap (λ o. cond (in_range first count q) None o) (sym (get-put bytes page q new))
    ∙ sym (get-remove_range (insert bytes page new) first count q))
  where
    either : (q : ℕ) (inside same : Bool) → in_range first count q ≡ inside → eqb q page ≡ same → cond same (Some new) (cond inside None (get bytes q)) ≡ cond inside None (cond same (Some new) (get bytes q))
    either q true true is h = absurd (false≢true (sym out ∙ ap (in_range first count) (sym (eqb-true q page h)) ∙ is))
    either q true false is h = refl
    either q false true is h = refl
    either q false false is h = refl

host-stored : (host : Host) (first count addr width value : ℕ) (answer : Reply) → in_range first count (addr / 4096) ≡ false →
    host_changed (host_dropped host first count) (Store addr width value) answer ≡ host_dropped (host_changed host (Store addr width value) answer) first count
host-stored host first count addr width value reply.Done out =
    let page = addr / 4096 in
    let put = λ (old : List ℕ). overwrite old (addr % 4096) (low_bytes value width) in
    ap (λ bytes. record host { bytes = bytes })
    (ap (λ old. insert (remove_range host.bytes first count) page (put old)) (same-contents host.bytes first count page out) ∙ stored-apart host.bytes first count page (put (contents host.bytes page)) out)
host-stored host first count addr width value answer out = refl

-- A fault beside an event
fault-apart : (object : Object) (message : Message) (other addr who : ℕ) (write wp : Bool) → fault_queued (event_queued object message other) addr write wp who ≡ event_queued (fault_queued object addr write wp who) message other
fault-apart object message other addr who write wp = by (waits_fault object.faults addr wp) where
  queued : Object
  queued = record object { faults = object.faults ++ record { message = Message.PageFault addr write wp (thread_id object who); cpu = who } ∷ [] }

  by : (b : Bool) → cond b (event_queued object message other) (event_queued queued message other) ≡ event_queued (cond b object queued) message other
  by true = refl
  by false = refl

-- How it ends

-- by whether the flat memory makes it, and the page is missing or protected
abbrev ends_so : (made gone protect : Bool) → Reply → Access
ends_so made gone protect answer = if not made then Answered answer else if gone then Missing else if protect then Protected else Answered answer

abbrev is_gone : Space → Command → Bool
is_gone space command = not (contains_key space.host.bytes (page_of command)) && contains space.object.missing (page_of command)

abbrev is_guarded : Space → Command → Bool
is_guarded space command = is_store command && contains space.object.protect (page_of command) && contains space.protected (page_of command)

abbrev dropped : Space → (first count start stop cpu : ℕ) → Space
dropped space first count start stop cpu = dropped_space space first count start stop cpu true

-- a load leaves the memory, whatever it gives
loaded : (space : Space) (first count start stop cpu who addr width : ℕ) (made gone protect : Bool) (answer other : Reply) →
    accessed_by (ends_so made gone protect answer) (dropped space first count start stop cpu) who (Load addr width) ≡ dropped (accessed_by (ends_so made gone protect other) space who (Load addr width)) first count start stop cpu
loaded space first count start stop cpu who addr width false gone protect answer other = refl
loaded space first count start stop cpu who addr width true true protect answer other =
    ap (λ o. record (dropped space first count start stop cpu) { object = o }) (fault-apart space.object (Message.Remove start stop) cpu (4096 * (addr / 4096)) who false false)
loaded space first count start stop cpu who addr width true false true answer other =
    ap (λ o. record (dropped space first count start stop cpu) { object = o }) (fault-apart space.object (Message.Remove start stop) cpu (4096 * (addr / 4096)) who true true)
loaded space first count start stop cpu who addr width true false false answer other = refl

load-made : (cell : Option Cell) (aligned : Bool) (n m : ℕ) → is_made (if aligned then access_reply cell allows_load (reply.Value n) else reply.BadAccess) ≡ is_made (if aligned then access_reply cell allows_load (reply.Value m) else reply.BadAccess)
load-made None true n m = refl
load-made (Some cell) true n m = by (allows_load cell.prot) where
  by : (b : Bool) → is_made (if b then reply.Value n else reply.Segv true) ≡ is_made (if b then reply.Value m else reply.Segv true)
  by true = refl
  by false = refl
load-made cell false n m = refl

host-kept : (space : Space) (first count start stop cpu addr width value : ℕ) (answer : Reply) → in_range first count (addr / 4096) ≡ false → reply_of (memory (host_dropped space.host first count)) (Store addr width value) ≡ answer →
    reply_of (memory space.host) (Store addr width value) ≡ answer →
    record (dropped space first count start stop cpu) { host = host_after (host_dropped space.host first count) (Store addr width value) } ≡ dropped (record space { host = host_after space.host (Store addr width value) }) first count start stop cpu
host-kept space first count start stop cpu addr width value answer out is was =
    ap (λ host. record (dropped space first count start stop cpu) { host = host })
    (ap (host_changed (host_dropped space.host first count) (Store addr width value)) is
    ∙ host-stored space.host first count addr width value answer out
    ∙ ap (λ answer. host_dropped (host_changed space.host (Store addr width value) answer) first count) (sym was))

-- a store of the same reply
stored : (space : Space) (first count start stop cpu who addr width value : ℕ) (made gone protect : Bool) (answer : Reply) → in_range first count (addr / 4096) ≡ false → reply_of (memory (host_dropped space.host first count)) (Store addr width value) ≡ answer →
    reply_of (memory space.host) (Store addr width value) ≡ answer →
    accessed_by (ends_so made gone protect answer) (dropped space first count start stop cpu) who (Store addr width value) ≡ dropped (accessed_by (ends_so made gone protect answer) space who (Store addr width value)) first count start stop cpu
stored space first count start stop cpu who addr width value true true protect answer out is was =
    ap (λ o. record (dropped space first count start stop cpu) { object = o }) (fault-apart space.object (Message.Remove start stop) cpu (4096 * (addr / 4096)) who true false)
stored space first count start stop cpu who addr width value true false true answer out is was =
    ap (λ o. record (dropped space first count start stop cpu) { object = o }) (fault-apart space.object (Message.Remove start stop) cpu (4096 * (addr / 4096)) who true true)
stored space first count start stop cpu who addr width value true false false answer out is was = host-kept space first count start stop cpu addr width value answer out is was
stored space first count start stop cpu who addr width value false gone protect answer out is was = host-kept space first count start stop cpu addr width value answer out is was

-- Both

kept-space : (space : Space) (first count : ℕ) (command : Command) → in_range first count (page_of command) ≡ false →
    (not (contains_key (remove_range space.host.bytes first count) (page_of command)) && contains space.object.missing (page_of command)) ≡ is_gone space command
kept-space space first count command out = ap (λ b. not b && contains space.object.missing (page_of command)) (same-bytes space.host.bytes first count (page_of command) out)

kept-guard : (space : Space) (first count : ℕ) (command : Command) → in_range first count (page_of command) ≡ false →
    (is_store command && contains space.object.protect (page_of command) && contains (without space.protected first count) (page_of command)) ≡ is_guarded space command
kept-guard space first count command out = ap (λ b. is_store command && contains space.object.protect (page_of command) && b) (same-guard space.protected first count (page_of command) out)

pub accessed-apart : (space : Space) (first count start stop cpu who : ℕ) (command : Command) → is_access command ≡ true → in_range first count (page_of command) ≡ false →
    accessed (dropped_space space first count start stop cpu true) who command ≡ dropped_space (accessed space who command) first count start stop cpu true
accessed-apart space first count start stop cpu who (Load addr width) access out =
    let now = memory (host_dropped space.host first count) in
    let before = memory space.host in
    let answer = reply_of now (Load addr width) in
    let made : is_made answer ≡ is_made (reply_of before (Load addr width)) =
    ap (λ cell. is_made (if is_aligned addr width then access_reply cell allows_load (reply.Value (number_at now addr width)) else reply.BadAccess)) (same-cell space.host first count addr out)
    ∙ load-made (before addr) (is_aligned addr width) (number_at now addr width) (number_at before addr width) in
    (λ i. accessed_by (ends_so (made i) (kept-space space first count (Load addr width) out i) (kept-guard space first count (Load addr width) out i) answer) (dropped space first count start stop cpu) who (Load addr width))
    ∙ loaded space first count start stop cpu who addr width (is_made (reply_of before (Load addr width))) (is_gone space (Load addr width)) (is_guarded space (Load addr width)) answer (reply_of before (Load addr width))
accessed-apart space first count start stop cpu who (Store addr width value) access out =
    let now = memory (host_dropped space.host first count) in
    let before = memory space.host in
    let store = Store addr width value in
    let answer = reply_of before store in
    let same : reply_of now store ≡ answer =
    ap (λ cell. if is_aligned addr width && ltb value (256 ^ width) then access_reply cell allows_store reply.Done else reply.BadAccess) (same-cell space.host first count addr out) in
    (λ i. accessed_by (ends_so (is_made (same i)) (kept-space space first count store out i) (kept-guard space first count store out i) (same i)) (dropped space first count start stop cpu) who store)
    ∙ stored space first count start stop cpu who addr width value (is_made answer) (is_gone space store) (is_guarded space store) answer out same refl
accessed-apart space first count start stop cpu who (Command.Mmap len prot place) access out = absurd (false≢true access)
accessed-apart space first count start stop cpu who (Command.Munmap addr len) access out = absurd (false≢true access)
accessed-apart space first count start stop cpu who (Command.Mremap addr old_len new_len may_move fixed) access out = absurd (false≢true access)
accessed-apart space first count start stop cpu who (Command.DontNeed addr len) access out = absurd (false≢true access)

-- A map call that queues no message

swapped-range : (bytes : FinMap nat_cmp (List ℕ)) (first count other more : ℕ) → remove_range (remove_range bytes first count) other more ≡ remove_range (remove_range bytes other more) first count
swapped-range bytes first count other more =
    same_pages (remove_range (remove_range bytes first count) other more) (remove_range (remove_range bytes other more) first count) (λ q.
    get-remove_range (remove_range bytes first count) other more q
    ∙ ap (λ o. cond (in_range other more q) None o) (get-remove_range bytes first count q)
    ∙ either (in_range other more q) (in_range first count q) (get bytes q)
    ∙ ap (λ o. cond (in_range first count q) None o) (sym (get-remove_range bytes other more q))
    ∙ sym (get-remove_range (remove_range bytes other more) first count q))
  where
    either : (a b : Bool) (found : Option (List ℕ)) → cond a None (cond b None found) ≡ cond b None (cond a None found)
    either true true found = refl
    either true false found = refl
    either false true found = refl
    either false false found = refl

swapped-set : (pages : FinSet nat_cmp) (first count other more : ℕ) → without (without pages first count) other more ≡ without (without pages other more) first count
swapped-set pages first count other more = same_members (without (without pages first count) other more) (without (without pages other more) first count) (λ q. by q) where
  by : (q : ℕ) → contains (without (without pages first count) other more) q ≡ contains (without (without pages other more) first count) q
  by q = grind (arith, nat_tests, member_without)

-- nothing is queued
none-queued : (object : Object) (messages : List Message) (cpu : ℕ) → length messages ≡ 0 → all_queued object messages cpu ≡ object
none-queued object [] cpu none = refl
none-queued object (message ∷ messages) cpu none = absurd (omega (arith, none))

some-message : (w : Bool) (message : Message) → w ≡ true → length (message_if w message) ≡ 0 → ⊥
some-message true message is none = omega (arith, none)
some-message false message is none = false≢true is

also-dropped : (space : Space) (first count start stop cpu who addr len : ℕ) (messages : List Message) → length messages ≡ 0 →
    record {
      host = host_dropped (host_dropped space.host first count) (addr / 4096) (pages_of len);
      protected = without (without space.protected first count) (addr / 4096) (pages_of len);
      object = all_queued (event_queued space.object (Message.Remove start stop) cpu) messages who;
    }
    ≡ dropped (record { host = host_dropped space.host (addr / 4096) (pages_of len); protected = without space.protected (addr / 4096) (pages_of len); object = all_queued space.object messages who }) first count start stop cpu
also-dropped space first count start stop cpu who addr len messages quiet =
    λ i. record {
      host = record space.host { bytes = swapped-range space.host.bytes first count (addr / 4096) (pages_of len) i };
      protected = swapped-set space.protected first count (addr / 4096) (pages_of len) i;
      object = (none-queued (event_queued space.object (Message.Remove start stop) cpu) messages who quiet ∙ ap (λ o. event_queued o (Message.Remove start stop) cpu) (sym (none-queued space.object messages who quiet))) i;
    }

-- the same areas are mapped
pub same-reply : (space : Space) (first count : ℕ) (command : Command) → is_access command ≡ false → reply_of (memory (host_dropped space.host first count)) command ≡ reply_of (memory space.host) command
same-reply space first count command access =
    reply_of-prots (memory (host_dropped space.host first count)) (memory space.host) command (same_prots (host_dropped space.host first count) space.host refl) access

called-as : (space : Space) (first count start stop cpu who : ℕ) (command : Command) (answer : Reply) → is_access command ≡ false → is_remap command answer ≡ false → length (call_messages space.object command answer) ≡ 0 →
    called_as (dropped space first count start stop cpu) who command answer ≡ dropped (called_as space who command answer) first count start stop cpu
called-as space first count start stop cpu who (Command.Mmap len prot place) (reply.At at) access followed quiet =
    let messages = call_messages space.object (Command.Mmap len prot place) (reply.At at) in
    let other = at / 4096 in
    let more = pages_of len in
    let object = unregistered space.object other more in
    λ i. record {
      host = record { areas = set_range space.host.areas other more prot; bytes = swapped-range space.host.bytes first count other more i };
      protected = swapped-set space.protected first count other more i;
      object = (none-queued (event_queued object (Message.Remove start stop) cpu) messages who quiet ∙ ap (λ o. event_queued o (Message.Remove start stop) cpu) (sym (none-queued object messages who quiet))) i;
    }
called-as space first count start stop cpu who (Command.Munmap addr len) reply.Done access followed quiet =
    let messages = call_messages space.object (Command.Munmap addr len) reply.Done in
    let other = addr / 4096 in
    let more = pages_of len in
    let object = unregistered space.object other more in
    λ i. record {
      host = record { areas = remove_range space.host.areas other more; bytes = swapped-range space.host.bytes first count other more i };
      protected = swapped-set space.protected first count other more i;
      object = (none-queued (event_queued object (Message.Remove start stop) cpu) messages who quiet ∙ ap (λ o. event_queued o (Message.Remove start stop) cpu) (sym (none-queued object messages who quiet))) i;
    }
called-as space first count start stop cpu who (Command.Mremap addr old_len new_len may_move fixed) (reply.At target) access followed quiet = absurd (false≢true (sym followed))
called-as space first count start stop cpu who (Command.DontNeed addr len) reply.Done access followed quiet = also-dropped space first count start stop cpu who addr len (call_messages space.object (Command.DontNeed addr len) reply.Done) quiet
called-as space first count start stop cpu who (Command.DontNeed addr len) (reply.Refused Errno.Enomem) access followed quiet =
    also-dropped space first count start stop cpu who addr len (call_messages space.object (Command.DontNeed addr len) (reply.Refused Errno.Enomem)) quiet
called-as space first count start stop cpu who (Store addr width value) answer access followed quiet = absurd (false≢true (sym access))
called-as space first count start stop cpu who command answer access followed quiet = refl

-- the unread events have no part in those of a call
pub same-messages : (object : Object) (events : List Noted) (command : Command) (answer : Reply) → call_messages (record object { events = events }) command answer ≡ call_messages object command answer
same-messages object events (Command.Mmap len prot place) (reply.At at) = refl
same-messages object events (Command.Munmap addr len) reply.Done = refl
same-messages object events (Command.Mremap addr old_len new_len may_move fixed) (reply.At at) = refl
same-messages object events (Command.DontNeed addr len) reply.Done = refl
same-messages object events (Command.DontNeed addr len) (reply.Refused Errno.Enomem) = refl
same-messages object events command answer = refl

pub same-queued : (space : Space) (first count start stop cpu : ℕ) (command : Command) → is_access command ≡ false → queued_by (dropped_space space first count start stop cpu true) command ≡ queued_by space command
same-queued space first count start stop cpu command access =
    ap (λ r. length (call_messages (event_queued space.object (Message.Remove start stop) cpu) command r)) (same-reply space first count command access)
    ∙ ap length (same-messages space.object (event_queued space.object (Message.Remove start stop) cpu).events command (reply_of (memory space.host) command))

pub called-apart : (space : Space) (first count start stop cpu who : ℕ) (command : Command) → is_access command ≡ false → is_remap command (reply_of (memory space.host) command) ≡ false → queued_by space command ≡ 0 →
    called (dropped_space space first count start stop cpu true) who command ≡ dropped_space (called space who command) first count start stop cpu true
called-apart space first count start stop cpu who command access followed quiet =
    by-reply (dropped space first count start stop cpu) who command (reply_of (memory space.host) command) (same-reply space first count command access)
    ∙ called-as space first count start stop cpu who command (reply_of (memory space.host) command) access followed quiet

-- What it leaves of the object

quiet-object : (space : Space) (who : ℕ) (command : Command) → queued_by space command ≡ 0 → (called space who command).object ≡ modes_after space.object command (reply_of (memory space.host) command)
quiet-object space who command quiet = none-queued (modes_after space.object command (reply_of (memory space.host) command)) (call_messages space.object command (reply_of (memory space.host) command)) who quiet

modes-enabled : (object : Object) (command : Command) (answer : Reply) → (modes_after object command answer).enabled ≡ object.enabled
modes-enabled object command answer = grind (arith, nat_tests)

modes-features : (object : Object) (command : Command) (answer : Reply) → (modes_after object command answer).features ≡ object.features
modes-features object command answer = grind (arith, nat_tests)

-- a page outside a range that is not watched
bare-range : (space : Space) (first count page : ℕ) (message : Message) → length (message_if (is_watched space.object first count) message) ≡ 0 → is_registered space.object page ≡ true → is_registered (unregistered space.object first count) page ≡ true
bare-range space first count page message quiet registered = by (in_range first count page) refl where
  by : (b : Bool) → in_range first count page ≡ b → is_registered (unregistered space.object first count) page ≡ true
  by true inside =
      let bounds = in_range_bounds first count page inside in
      absurd (some-message (is_watched space.object first count) message (is-watched space first count page bounds.0 bounds.1 registered) quiet)
  by false outside = (λ i. (kept space first count page outside).0 i || (kept space first count page outside).1 i) ∙ registered

modes-registered : (space : Space) (command : Command) (answer : Reply) (page : ℕ) → is_remap command answer ≡ false → length (call_messages space.object command answer) ≡ 0 → is_registered space.object page ≡ true → is_registered (modes_after space.object command answer) page ≡ true
modes-registered space (Command.Mmap len prot place) (reply.At at) page followed quiet registered = bare-range space (at / 4096) (pages_of len) page (Message.Unmap at (at + rounded len)) quiet registered
modes-registered space (Command.Munmap addr len) reply.Done page followed quiet registered = bare-range space (addr / 4096) (pages_of len) page (Message.Unmap addr (addr + rounded len)) quiet registered
modes-registered space (Command.Mremap addr old_len new_len may_move fixed) (reply.At target) page followed quiet registered = absurd (false≢true (sym followed))
modes-registered space command answer page followed quiet registered = registered

-- the pages that are registered stay so
pub quiet-kept : (space : Space) (who : ℕ) (command : Command) → is_remap command (reply_of (memory space.host) command) ≡ false → queued_by space command ≡ 0 →
    ((called space who command).object.enabled ≡ space.object.enabled) × ((called space who command).object.features ≡ space.object.features)
    × ((page : ℕ) → is_registered space.object page ≡ true → is_registered (called space who command).object page ≡ true)
quiet-kept space who command followed quiet =
    let answer = reply_of (memory space.host) command in
    let object = quiet-object space who command quiet in (
      ap (λ (o : Object). o.enabled) object ∙ modes-enabled space.object command answer,
      ap (λ (o : Object). o.features) object ∙ modes-features space.object command answer,
      λ page registered. ap (λ (o : Object). is_registered o page) object ∙ modes-registered space command answer page followed quiet registered,
    )
