-- A space whose userfault object is not enabled is a host and nothing else.
use Rattle.std.proofs.Common.{◌≡◌, ℕ, ◌+◌, ◌&&◌, ◌||◌, ◌-◌, ◌++◌, [], Bool, true, false, cond, not, ltb, List, length, Result, Ok, Err, OnErr, refl, sym, ap, ◌∙◌, subst}
use Rattle.std.proofs.lemmas.Bool.{false≢true}
use Rattle.std.specs.Ordering.{nat_cmp}
use Rattle.std.specs.FinMap.{contains_key}
use Rattle.std.specs.FinSet.{FinSet, contains, empty}
use Rattle.mig_base.specs.declared.TheConstants.{HIGH_PAGE}
use Rattle.mig_base.specs.declared.command.Command.{Command}
use Rattle.mig_base.specs.declared.command.Command.TheVariants.{Load, Store, Mmap, Munmap, Mremap, DontNeed}
use Rattle.mig_base.specs.declared.command.Errno.TheVariants.{Enomem}
use Rattle.mig_base.specs.declared.command.Reply.{Reply}
use Rattle.mig_base.specs.declared.command.Reply.TheVariants.{Done, At, Refused}
use Rattle.mig_base.specs.declared.command.Access.{Access}
use Rattle.mig_base.specs.declared.command.Access.TheVariants.{Answered}
use Rattle.mig_base.specs.declared.message.Message.{Message}
use Rattle.mig_base.specs.Flat.{reply_of, after}
use Rattle.foundation.specs.Ranges.{in_range}
use Rattle.mig_base.specs.Sets.{without, moved_set}
use Rattle.foundation.proofs.TestLemmas.{and_false}
use Rattle.foundation.proofs.RangeLemmas.{none_below-from}
use Rattle.mig_base.proofs.SetLemmas.{same_members, member_without, member_below}
use Rattle.mig_model.specs.Host.{Host, memory, host_after, IsSound}
use Rattle.mig_base.specs.Userfault.{fresh_object, is_registered, is_watched}
use Rattle.mig_model.specs.Space.{Space, access_of, accessed_by, accessed, is_made, message_if, call_messages, modes_after, protected_after, all_queued, called_with, called, queued_by}
use Rattle.mig_base.specs.Commands.{is_store, page_of, is_access}
use Rattle.mig_model.proofs.memory.CommandLemmas.{memory-changed}
use Rattle.mig_model.proofs.memory.SpaceLemmas.{IsSoundSpace-accessed, IsSoundSpace-called, no_member}
use Rattle.mig_model.proofs.owed.SourceCalls.{untold}
use Rattle.uffd_ioctl.specs.Spaces as spaces
use Rattle.hosts.specs.Spaces.{IsUnwatched, host_needs_room}

-- Accesses

never : (made missing store watched protect protected : Bool) (reply : Reply) → watched ≡ false → protect ≡ false
    → cond (not made) (Answered reply) (cond (missing && watched) Access.Missing (cond (store && protect && protected) Access.Protected (Answered reply))) ≡ Answered reply
never made missing store watched protect protected reply h k = rw (h, k) (plain made missing store reply)
  where
    plain : (made missing store : Bool) (reply : Reply) → cond (not made) (Answered reply) (cond (missing && false) Access.Missing (cond (store && false && protected) Access.Protected (Answered reply))) ≡ Answered reply
    plain false missing store reply = refl
    plain true true true reply = refl
    plain true true false reply = refl
    plain true false true reply = refl
    plain true false false reply = refl

pub access_unwatched : (space : Space) (command : Command) → IsUnwatched space → access_of space command ≡ Answered (reply_of (memory space.host) command)
access_unwatched space command unwatched =
    never (is_made (reply_of (memory space.host) command)) (not (contains_key space.host.bytes (page_of command))) (is_store command) (contains space.object.missing (page_of command)) (contains space.object.protect (page_of command)) (contains space.protected (page_of command)) (reply_of (memory space.host) command)
    (ap (λ o. contains o.missing (page_of command)) unwatched.object ∙ no_member (page_of command))
    (ap (λ o. contains o.protect (page_of command)) unwatched.object ∙ no_member (page_of command))

pub accessed_unwatched : (space : Space) (cpu : ℕ) (command : Command) → IsUnwatched space → accessed space cpu command ≡ record space { host = host_after space.host command }
accessed_unwatched space cpu command unwatched = ap (λ a. accessed_by a space cpu command) (access_unwatched space command unwatched)

pub stays_accessed : (space : Space) (cpu : ℕ) (command : Command) → is_access command ≡ true → IsUnwatched space → IsUnwatched (accessed space cpu command)
stays_accessed space cpu command is unwatched =
    record {
      sound = IsSoundSpace-accessed space cpu command is unwatched.sound;
      object = ap (λ s. s.object) (accessed_unwatched space cpu command unwatched) ∙ unwatched.object;
      protected = ap (λ s. s.protected) (accessed_unwatched space cpu command unwatched) ∙ unwatched.protected;
    }

-- Map calls

pub nothing_without : (first count : ℕ) → without empty first count ≡ empty
nothing_without first count =
    same_members (without empty first count) empty (λ q. member_without empty first count q ∙ ap (λ b. b && not (in_range first count q)) (no_member q) ∙ sym (no_member q))

none_anywhere : (low here along a old b : Bool) → a ≡ false → b ≡ false → (low && cond here (cond along a false) (old && b)) ≡ false
none_anywhere low here along a old b h k = rw (h, k) (in_or_not low here along old)
  where
    in_or_not : (low here along old : Bool) → (low && cond here (cond along false false) (old && false)) ≡ false
    in_or_not false here along old = refl
    in_or_not true true true old = refl
    in_or_not true true false old = refl
    in_or_not true false along true = refl
    in_or_not true false along false = refl

nothing_moved : (from count to new_count : ℕ) → moved_set empty from count to new_count false ≡ empty
nothing_moved from count to new_count =
    same_members (moved_set empty from count to new_count false) empty (λ q.
    member_below (λ page. cond (in_range to new_count page) (cond (ltb (page - to) count) (contains {R = nat_cmp} empty (from + (page - to))) false) (not (in_range from count page) && contains {R = nat_cmp} empty page)) HIGH_PAGE q
    ∙ none_anywhere (ltb q HIGH_PAGE) (in_range to new_count q) (ltb (q - to) count) (contains {R = nat_cmp} empty (from + (q - to))) (not (in_range from count q)) (contains {R = nat_cmp} empty q) (no_member (from + (q - to))) (no_member q)
    ∙ sym (no_member q))

no_watch : (first count : ℕ) → is_watched fresh_object first count ≡ false
no_watch first count =
    ap not (none_below-from (λ i. is_registered fresh_object (first + i)) count (λ i l. ap (λ b. b || contains {R = nat_cmp} empty (first + i)) (no_member (first + i)) ∙ no_member (first + i)))

protected_fresh : (command : Command) (reply : Reply) → protected_after empty command reply ≡ empty
protected_fresh (Load addr width) reply = refl
protected_fresh (Store addr width value) reply = refl
protected_fresh (Mmap len prot place) (At start) = nothing_without _ _
protected_fresh (Munmap addr len) Done = nothing_without _ _
protected_fresh (Mremap addr old_len new_len may_move fixed) (At target) = nothing_moved _ _ _ _
protected_fresh (DontNeed addr len) Done = nothing_without _ _
protected_fresh (DontNeed addr len) (Refused Enomem) = nothing_without _ _
protected_fresh command reply = refl

same_sets : (missing protect : FinSet nat_cmp) → missing ≡ empty → protect ≡ empty → record fresh_object { missing = missing; protect = protect } ≡ fresh_object
same_sets missing protect h k = rw (h, k) refl

grown_none : (from count to new_count page : ℕ) → moved_set empty from count to new_count (contains {R = nat_cmp} empty page) ≡ empty
grown_none from count to new_count page = ap (moved_set empty from count to new_count) (no_member page) ∙ nothing_moved from count to new_count

modes_fresh : (command : Command) (reply : Reply) → modes_after fresh_object command reply ≡ fresh_object
modes_fresh (Load addr width) reply = refl
modes_fresh (Store addr width value) reply = refl
modes_fresh (Mmap len prot place) (At start) = same_sets _ _ (nothing_without _ _) (nothing_without _ _)
modes_fresh (Munmap addr len) Done = same_sets _ _ (nothing_without _ _) (nothing_without _ _)
modes_fresh (Mremap addr old_len new_len may_move fixed) (At target) = same_sets _ _ (grown_none _ _ _ _ _) (grown_none _ _ _ _ _)
modes_fresh (DontNeed addr len) reply = refl
modes_fresh command reply = refl

unheard : (due : Bool) (first count : ℕ) (message : Message) → message_if (due && is_watched fresh_object first count) message ≡ []
unheard due first count message = untold _ message (ap (λ b. due && b) (no_watch first count) ∙ and_false due)

three_none : (a b c : List Message) → a ≡ [] → b ≡ [] → c ≡ [] → (a ++ b ++ c) ≡ []
three_none a b c h k l = rw (h, k, l) refl

messages_fresh : (command : Command) (reply : Reply) → call_messages fresh_object command reply ≡ []
messages_fresh (Load addr width) reply = refl
messages_fresh (Store addr width value) reply = refl
messages_fresh (Mmap len prot place) (At start) = untold _ _ (no_watch _ _)
messages_fresh (Munmap addr len) Done = untold _ _ (no_watch _ _)
messages_fresh (Mremap addr old_len new_len may_move fixed) (At target) = three_none _ _ _ (unheard _ _ _ _) (unheard _ _ _ _) (unheard _ _ _ _)
messages_fresh (DontNeed addr len) Done = untold _ _ (no_watch _ _)
messages_fresh (DontNeed addr len) (Refused Enomem) = untold _ _ (no_watch _ _)
messages_fresh command reply = refl

called_fresh : (space : Space) (cpu : ℕ) (command : Command) (reply : Reply) → called_with (record space { object = fresh_object; protected = empty }) cpu command reply ≡ record { host = host_after space.host command; object = fresh_object; protected = empty }
called_fresh space cpu command reply =
    ap (λ p. record { host = host_after space.host command; object = all_queued (modes_after fresh_object command reply) (call_messages fresh_object command reply) cpu; protected = p }) (protected_fresh command reply)
    ∙ ap (λ o. record { host = host_after space.host command; object = all_queued o (call_messages fresh_object command reply) cpu; protected = empty }) (modes_fresh command reply)
    ∙ ap (λ m. record { host = host_after space.host command; object = all_queued fresh_object m cpu; protected = empty }) (messages_fresh command reply)

pub called_unwatched : (space : Space) (cpu : ℕ) (command : Command) → IsUnwatched space → called space cpu command ≡ record { host = host_after space.host command; object = fresh_object; protected = empty }
called_unwatched space cpu command unwatched =
    ap (λ s. called s cpu command) (bare_of space unwatched) ∙ called_fresh space cpu command (reply_of (memory space.host) command)
  where
    bare_of : (space : Space) → IsUnwatched space → space ≡ record space { object = fresh_object; protected = empty }
    bare_of space unwatched = ap (λ o. record space { object = o }) unwatched.object ∙ ap (λ p. record space { object = fresh_object; protected = p }) unwatched.protected

pub stays_called : (space : Space) (cpu : ℕ) (command : Command) → is_access command ≡ false → IsUnwatched space → IsUnwatched (called space cpu command)
stays_called space cpu command is unwatched =
    record {
      sound = IsSoundSpace-called space cpu command is unwatched.sound;
      object = ap (λ s. s.object) (called_unwatched space cpu command unwatched);
      protected = ap (λ s. s.protected) (called_unwatched space cpu command unwatched);
    }

-- What a host whose object is not enabled answers and leaves

pub never_missing : (space : Space) (command : Command) (access : Access) → IsUnwatched space → access ≡ access_of space command → ((reply : Reply) → access ≡ Answered reply → ⊥) → ⊥
never_missing space command access unwatched is other = other (reply_of (memory space.host) command) (is ∙ access_unwatched space command unwatched)

answered_same : (a b : Reply) → Answered a ≡ Answered b → a ≡ b
answered_same a b h = cc

pub access_reply_is : (space : Space) (command : Command) (access : Access) (reply : Reply) → IsUnwatched space → access ≡ access_of space command → access ≡ Answered reply → reply ≡ reply_of (memory space.host) command
access_reply_is space command access reply unwatched is here =
    answered_same reply (reply_of (memory space.host) command) (sym here ∙ is ∙ access_unwatched space command unwatched)

pub accessed_host : (space new : Space) (cpu : ℕ) (command : Command) → IsUnwatched space → new ≡ accessed space cpu command → new.host ≡ host_after space.host command
accessed_host space new cpu command unwatched is = ap (λ s. s.host) is ∙ ap (λ s. s.host) (accessed_unwatched space cpu command unwatched)

pub called_host : (space new : Space) (cpu : ℕ) (command : Command) → IsUnwatched space → new ≡ called space cpu command → new.host ≡ host_after space.host command
called_host space new cpu command unwatched is = ap (λ s. s.host) is

pub stays_after_access : (space new : Space) (cpu : ℕ) (command : Command) → is_access command ≡ true → IsUnwatched space → new ≡ accessed space cpu command → IsUnwatched new
stays_after_access space new cpu command access unwatched is = subst IsUnwatched (sym is) (stays_accessed space cpu command access unwatched)

pub stays_after_call : (space new : Space) (cpu : ℕ) (command : Command) → is_access command ≡ false → IsUnwatched space → new ≡ called space cpu command → IsUnwatched new
stays_after_call space new cpu command call unwatched is = subst IsUnwatched (sym is) (stays_called space cpu command call unwatched)

pub memory_kept : (host value new : Host) (command : Command) → host ≡ value → IsSound host → new ≡ host_after host command → memory new ≡ after (memory value) command
memory_kept host value new command view sound is = ap memory is ∙ memory-changed host command (reply_of (memory host) command) sound refl ∙ ap (λ h. after (memory h) command) view

-- Which commands need memory

no_store : (made : Bool) → (made && false) ≡ true → ⊥
no_store true h = false≢true h
no_store false h = false≢true h

answered_needs : (space : Space) (command : Command) → is_access command ≡ true → spaces.needs_room_by (Answered (reply_of (memory space.host) command)) space command ≡ true → host_needs_room space.host command ≡ true
answered_needs space (Load addr width) access h = absurd (no_store (is_made (reply_of (memory space.host) (Load addr width))) h)
answered_needs space (Store addr width value) access h = h
answered_needs space (Mmap len prot place) access h = absurd (false≢true access)
answered_needs space (Munmap addr len) access h = absurd (false≢true access)
answered_needs space (Mremap addr old_len new_len may_move fixed) access h = absurd (false≢true access)
answered_needs space (DontNeed addr len) access h = absurd (false≢true access)

-- where a call has failed, this holds
at_err : {A E P : Type 0} (r : Result A E) → P → OnErr r P
at_err (Ok a) p = tt
at_err (Err e) p = p

pub access_needs : {A E : Type 0} (r : Result A E) (space : Space) (host : Host) (command : Command) → space.host ≡ host → is_access command ≡ true → IsUnwatched space → spaces.needs_room space command ≡ true → OnErr r (host_needs_room host command ≡ true)
access_needs r space host command view access unwatched h =
    at_err r (
    sym (ap (λ k. host_needs_room k command) view) ∙ answered_needs space command access (sym (ap (λ a. spaces.needs_room_by a space command) (access_unwatched space command unwatched)) ∙ h))

none_queued : (space : Space) (command : Command) → IsUnwatched space → queued_by space command ≡ 0
none_queued space command unwatched =
    ap (λ o. length (call_messages o command (reply_of (memory space.host) command))) unwatched.object ∙ ap length (messages_fresh command (reply_of (memory space.host) command))

map_call_needs : (space : Space) (command : Command) → is_access command ≡ false → IsUnwatched space → spaces.call_needs_room space command ≡ true → host_needs_room space.host command ≡ true
map_call_needs space (Load addr width) call unwatched h = absurd (false≢true (sym call))
map_call_needs space (Store addr width value) call unwatched h = absurd (false≢true (sym call))
map_call_needs space (Mmap len prot place) call unwatched h = h
map_call_needs space (Munmap addr len) call unwatched h = h
map_call_needs space (Mremap addr old_len new_len may_move fixed) call unwatched h = h
map_call_needs space (DontNeed addr len) call unwatched h = absurd (false≢true (sym (ap (ltb 0) (none_queued space (DontNeed addr len) unwatched)) ∙ h))

pub call_needs : {A E : Type 0} (r : Result A E) (space : Space) (host : Host) (command : Command) → space.host ≡ host → is_access command ≡ false → IsUnwatched space → spaces.call_needs_room space command ≡ true → OnErr r (host_needs_room host command ≡ true)
call_needs r space host command view call unwatched h = at_err r (sym (ap (λ k. host_needs_room k command) view) ∙ map_call_needs space command call unwatched h)
