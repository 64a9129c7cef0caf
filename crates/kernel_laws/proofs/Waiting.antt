-- Unread page faults: what keeps their threads on their way.
use Rattle.std.proofs.lemmas.Bool.{eqb-true, false≢true}
use Rattle.std.proofs.lemmas.List.{append-nil}
use Rattle.std.proofs.lemmas.List.Elements.{filter-append}
use Rattle.std.proofs.lemmas.Option.{none-some, same_Some}
use Rattle.std.proofs.Common.{◌≡◌, ℕ, ◌&&◌, Bool, true, false, not, cond, eqb, Option, Some, None, List, [], ◌∷◌, ◌++◌, filter, refl, sym, ap, subst, ◌∙◌}
use Rattle.mig_base.specs.Userfault.{Noted}
use Rattle.foundation.proofs.TestLemmas.{and_false, eqb-self}
use Rattle.uffd_log.specs.declared.call.Message.{Message}
use Rattle.uffd_log.specs.declared.call.Message.TheVariants as log
use Rattle.kernel_rules.specs.declared.fault.Fault.{Fault}
use Rattle.kernel_rules.specs.declared.object.Object.{Object}
use Rattle.kernel_rules.specs.Faults.{fault_of, faults_without, is_seen, is_unread}
use Rattle.kernel_rules.specs.Reads.{first_unread}
use Rattle.kernel_laws.specs.Agreement.{AreOnTheirWay, AreUnread, is_message_of, message_of}

-- Lists

swapped : {X : Type 0} (p q : X → Bool) (x : X) (passed other both : List X) (a b : Bool) → p x ≡ a → q x ≡ b → filter p other ≡ filter q passed →
    filter p (cond b (x ∷ other) other) ≡ filter q (cond a (x ∷ passed) passed)
swapped p q x passed other both true true hp hq same =
    ap (λ b. cond b (x ∷ filter p other) (filter p other)) hp ∙ ap (λ l. x ∷ l) same ∙ sym (ap (λ b. cond b (x ∷ filter q passed) (filter q passed)) hq)
swapped p q x passed other both true false hp hq same = same ∙ sym (ap (λ b. cond b (x ∷ filter q passed) (filter q passed)) hq)
swapped p q x passed other both false true hp hq same = ap (λ b. cond b (x ∷ filter p other) (filter p other)) hp ∙ same
swapped p q x passed other both false false hp hq same = same

-- two filters, in either order
filter-filter : {X : Type 0} (p q : X → Bool) (xs : List X) → filter p (filter q xs) ≡ filter q (filter p xs)
filter-filter p q [] = refl
filter-filter p q (x ∷ xs) = swapped p q x (filter p xs) (filter q xs) [] (p x) (q x) refl refl (filter-filter p q xs)

again : {X : Type 0} (p : X → Bool) (x : X) (passed : List X) (b : Bool) → p x ≡ b → filter p passed ≡ passed → filter p (cond b (x ∷ passed) passed) ≡ cond b (x ∷ passed) passed
again p x passed true is same = ap (λ b. cond b (x ∷ filter p passed) (filter p passed)) is ∙ ap (λ l. x ∷ l) same
again p x passed false is same = same

filter-twice : {X : Type 0} (p : X → Bool) (xs : List X) → filter p (filter p xs) ≡ filter p xs
filter-twice p [] = refl
filter-twice p (x ∷ xs) = again p x (filter p xs) (p x) refl (filter-twice p xs)

-- The fault of a thread

found-later : (b : Bool) (first found other : Option Fault) (one : Fault) → (found ≡ Some one → other ≡ Some one) → cond b first found ≡ Some one → cond b first other ≡ Some one
found-later true first found other one tells is = is
found-later false first found other one tells is = tells is

fault_of-append : (faults more : List Fault) (thread : ℕ) (one : Fault) → fault_of faults thread ≡ Some one → fault_of (faults ++ more) thread ≡ Some one
fault_of-append [] more thread one is = absurd (none-some one is)
fault_of-append (fault ∷ faults) more thread one is =
    found-later (eqb fault.thread thread) (Some fault) (fault_of faults thread) (fault_of (faults ++ more) thread) one (fault_of-append faults more thread one) is

found-kept : (p : Fault → Bool) (fault one : Fault) (rest : List Fault) (thread : ℕ) (found : Option Fault) (b e : Bool) → p fault ≡ b → eqb fault.thread thread ≡ e → (found ≡ Some one → fault_of rest thread ≡ Some one) →
    p one ≡ true → cond e (Some fault) found ≡ Some one → fault_of (cond b (fault ∷ rest) rest) thread ≡ Some one
found-kept p fault one rest thread found true true passes same tells kept is = ap (λ e. cond e (Some fault) (fault_of rest thread)) same ∙ is
found-kept p fault one rest thread found true false passes same tells kept is = ap (λ e. cond e (Some fault) (fault_of rest thread)) same ∙ tells is
found-kept p fault one rest thread found false true passes same tells kept is = absurd (false≢true (sym passes ∙ ap p (same_Some fault one is) ∙ kept))
found-kept p fault one rest thread found false false passes same tells kept is = tells is

fault_of-filter : (p : Fault → Bool) (faults : List Fault) (thread : ℕ) (one : Fault) → p one ≡ true → fault_of faults thread ≡ Some one → fault_of (filter p faults) thread ≡ Some one
fault_of-filter p [] thread one kept is = is
fault_of-filter p (fault ∷ faults) thread one kept is =
    found-kept p fault one (filter p faults) thread (fault_of faults thread) (p fault) (eqb fault.thread thread) refl refl (fault_of-filter p faults thread one kept) kept is

-- no fault of a thread
none-kept : (p : Fault → Bool) (fault : Fault) (rest : List Fault) (thread : ℕ) (found : Option Fault) (b e : Bool) → eqb fault.thread thread ≡ e → (found ≡ None → fault_of rest thread ≡ None) →
    cond e (Some fault) found ≡ None → fault_of (cond b (fault ∷ rest) rest) thread ≡ None
none-kept p fault rest thread found b true same tells is = absurd (none-some fault (sym is))
none-kept p fault rest thread found true false same tells is = ap (λ e. cond e (Some fault) (fault_of rest thread)) same ∙ tells is
none-kept p fault rest thread found false false same tells is = tells is

no_fault-filter : (p : Fault → Bool) (faults : List Fault) (thread : ℕ) → fault_of faults thread ≡ None → fault_of (filter p faults) thread ≡ None
no_fault-filter p [] thread is = refl
no_fault-filter p (fault ∷ faults) thread is = none-kept p fault (filter p faults) thread (fault_of faults thread) (p fault) (eqb fault.thread thread) refl (no_fault-filter p faults thread) is

found-last : (b : Bool) (fault : Fault) (found other : Option Fault) (one : Fault) → (found ≡ None → other ≡ Some one) → cond b (Some fault) found ≡ None → cond b (Some fault) other ≡ Some one
found-last true fault found other one tells is = absurd (none-some fault (sym is))
found-last false fault found other one tells is = tells is

fault_of-push : (faults : List Fault) (one : Fault) → fault_of faults one.thread ≡ None → fault_of (faults ++ one ∷ []) one.thread ≡ Some one
fault_of-push [] one is = ap (λ b. cond b (Some one) None) (eqb-self one.thread)
fault_of-push (fault ∷ faults) one is = found-last (eqb fault.thread one.thread) fault (fault_of faults one.thread) (fault_of (faults ++ one ∷ []) one.thread) one (fault_of-push faults one) is

-- two threads, of which one waits
other-thread : (faults : List Fault) (one : Fault) (thread : ℕ) (b : Bool) → eqb thread one.thread ≡ b → fault_of faults one.thread ≡ Some one → fault_of faults thread ≡ None → b ≡ false
other-thread faults one thread false is found none = refl
other-thread faults one thread true is found none = absurd (none-some one (sym none ∙ ap (fault_of faults) (eqb-true thread one.thread is) ∙ found))

-- The first that is unread

unread-kept : (fault : Fault) (rest : List Fault) (name : ℕ) (found : Option Fault) (b u : Bool) → (eqb fault.object name && is_unread fault.phase) ≡ u → (found ≡ None → first_unread rest name ≡ None) →
    cond u (Some fault) found ≡ None → first_unread (cond b (fault ∷ rest) rest) name ≡ None
unread-kept fault rest name found b true is tells none = absurd (none-some fault (sym none))
unread-kept fault rest name found true false is tells none = ap (λ u. cond u (Some fault) (first_unread rest name)) is ∙ tells none
unread-kept fault rest name found false false is tells none = tells none

first_unread-filter : (p : Fault → Bool) (faults : List Fault) (name : ℕ) → first_unread faults name ≡ None → first_unread (filter p faults) name ≡ None
first_unread-filter p [] name is = refl
first_unread-filter p (fault ∷ faults) name is =
    unread-kept fault (filter p faults) name (first_unread faults name) (p fault) (eqb fault.object name && is_unread fault.phase) refl (first_unread-filter p faults name) is

unread-later : (u : Bool) (fault : Fault) (found other last : Option Fault) → (found ≡ None → other ≡ last) → cond u (Some fault) found ≡ None → cond u (Some fault) other ≡ last
unread-later true fault found other last tells none = absurd (none-some fault (sym none))
unread-later false fault found other last tells none = tells none

pub first_unread-append : (faults more : List Fault) (name : ℕ) → first_unread faults name ≡ None → first_unread (faults ++ more) name ≡ first_unread more name
first_unread-append [] more name is = refl
first_unread-append (fault ∷ faults) more name is =
    unread-later (eqb fault.object name && is_unread fault.phase) fault (first_unread faults name) (first_unread (faults ++ more) name) (first_unread more name) (first_unread-append faults more name) is

pub gone : (faults : List Fault) (name thread : ℕ) → first_unread faults name ≡ None → first_unread (faults_without faults thread) name ≡ None
gone faults name thread is = first_unread-filter (λ (other : Fault). not (eqb other.thread thread)) faults name is

-- a fault that is not unread is none
pub not_unread : (fault : Fault) (name : ℕ) → is_unread fault.phase ≡ false → first_unread (fault ∷ []) name ≡ None
not_unread fault name is = ap (λ u. cond (eqb fault.object name && u) (Some fault) None) is ∙ ap (λ u. cond u (Some fault) None) (and_false (eqb fault.object name))

-- Threads on their way

pub on-append : (faults more : List Fault) (name : ℕ) (object : Object) (messages : List Noted) → AreOnTheirWay faults name object messages → AreOnTheirWay (faults ++ more) name object messages
on-append faults more name object [] on = tt
on-append faults more name object (noted ∷ rest) on =
    let fault = on.0 in
    let left = faults_without more fault.thread in (
      fault,
      record { found = fault_of-append faults more fault.thread fault on.1.found; watched = on.1.watched; seen = on.1.seen; told = on.1.told },
      subst (λ l. AreOnTheirWay l name object rest) (sym (filter-append (λ (other : Fault). not (eqb other.thread fault.thread)) faults more))
          (on-append (faults_without faults fault.thread) left name object rest on.2),
    )

pub on-filter : (p : Fault → Bool) → ((fault : Fault) → is_seen fault.phase ≡ true → p fault ≡ true) → (faults : List Fault) (name : ℕ) (object : Object) (messages : List Noted) → AreOnTheirWay faults name object messages →
    AreOnTheirWay (filter p faults) name object messages
on-filter p spares faults name object [] on = tt
on-filter p spares faults name object (noted ∷ rest) on =
    let fault = on.0 in (
      fault,
      record { found = fault_of-filter p faults fault.thread fault (spares fault on.1.seen) on.1.found; watched = on.1.watched; seen = on.1.seen; told = on.1.told },
      subst (λ l. AreOnTheirWay l name object rest) (filter-filter p (λ (other : Fault). not (eqb other.thread fault.thread)) faults)
          (on-filter p spares (faults_without faults fault.thread) name object rest on.2),
    )

-- one more thread finds its page
pub on-push : (faults : List Fault) (name : ℕ) (object : Object) (messages : List Noted) (noted : Noted) (one : Fault) → AreOnTheirWay faults name object messages → fault_of faults one.thread ≡ None →
    one.object ≡ name → is_seen one.phase ≡ true → is_message_of object one (message_of noted.message) ≡ true → AreOnTheirWay (faults ++ one ∷ []) name object (messages ++ noted ∷ [])
on-push faults name object [] noted one on none watched seen told = (one, record { found = fault_of-push faults one none; watched = watched; seen = seen; told = told }, tt)
on-push faults name object (first ∷ rest) noted one on none watched seen told =
    let fault = on.0 in
    let test = λ (other : Fault). not (eqb other.thread fault.thread) in
    let stays : filter test (one ∷ []) ≡ one ∷ [] = ap (λ b. cond (not b) (one ∷ []) []) (other-thread faults fault one.thread (eqb one.thread fault.thread) refl on.1.found none) in (
      fault,
      record { found = fault_of-append faults (one ∷ []) fault.thread fault on.1.found; watched = on.1.watched; seen = on.1.seen; told = on.1.told },
      subst (λ l. AreOnTheirWay l name object (rest ++ noted ∷ [])) (sym (filter-append test faults (one ∷ []) ∙ ap (λ l. filter test faults ++ l) stays))
          (on-push (faults_without faults fault.thread) name object rest noted one on.2 (no_fault-filter test faults one.thread none) watched seen told),
    )

-- an object that has put a page
told-puts : (object : Object) (fault : Fault) (message : Message) → is_message_of object fault message ≡ true → is_message_of (record object { puts = true }) fault message ≡ true
told-puts object fault (log.Fault addr flags thread) is = is
told-puts object fault (log.Fork child) is = is
told-puts object fault (log.Remap from to len) is = is
told-puts object fault (log.Remove start end) is = is
told-puts object fault (log.Unmap start end) is = is

on-puts : (faults : List Fault) (name : ℕ) (object : Object) (messages : List Noted) → AreOnTheirWay faults name object messages → AreOnTheirWay faults name (record object { puts = true }) messages
on-puts faults name object [] on = tt
on-puts faults name object (noted ∷ rest) on = (
  on.0,
  record { found = on.1.found; watched = on.1.watched; seen = on.1.seen; told = told-puts object on.0 (message_of noted.message) on.1.told },
  on-puts (faults_without faults on.0.thread) name object rest on.2,
)

-- What is unread

pub unread-filter : (p : Fault → Bool) → ((fault : Fault) → is_seen fault.phase ≡ true → p fault ≡ true) → (faults : List Fault) (name : ℕ) (object : Object) (messages : List Noted) → AreUnread faults name object messages →
    AreUnread (filter p faults) name object messages
unread-filter p spares faults name object messages unread =
    record { on_their_way = on-filter p spares faults name object messages unread.on_their_way; none_queued = first_unread-filter p faults name unread.none_queued }

pub unread-puts : (faults : List Fault) (name : ℕ) (object : Object) (messages : List Noted) → AreUnread faults name object messages → AreUnread faults name (record object { puts = true }) messages
unread-puts faults name object messages unread = record { on_their_way = on-puts faults name object messages unread.on_their_way; none_queued = unread.none_queued }

-- a thread that has its first message read sleeps on
pub unread-read : (faults : List Fault) (name : ℕ) (object : Object) (noted : Noted) (rest : List Noted) (one asleep : Fault) → (unread : AreUnread faults name object (noted ∷ rest)) → one.thread ≡ unread.on_their_way.0.thread →
    is_unread asleep.phase ≡ false → AreUnread (faults_without (faults_without faults unread.on_their_way.0.thread ++ one ∷ []) unread.on_their_way.0.thread ++ asleep ∷ []) name object rest
unread-read faults name object noted rest one asleep unread same slept =
    let thread = unread.on_their_way.0.thread in
    let test = λ (other : Fault). not (eqb other.thread thread) in
    let left = faults_without faults thread in
    let gone : filter test (one ∷ []) ≡ [] = ap (λ b. cond (not b) (one ∷ []) []) (ap (λ n. eqb n thread) same ∙ eqb-self thread) in
    let append_none : left ++ [] ≡ left = append-nil left in
    let now : faults_without (left ++ one ∷ []) thread ≡ left = filter-append test left (one ∷ []) ∙ ap (λ l. filter test left ++ l) gone ∙ ap (λ l. l ++ []) (filter-twice test faults) ∙ append_none in
    subst (λ l. AreUnread (l ++ asleep ∷ []) name object rest) (sym now)
    (record {
      on_their_way = on-append left (asleep ∷ []) name object rest unread.on_their_way.2;
      none_queued = first_unread-append left (asleep ∷ []) name (first_unread-filter test faults name unread.none_queued) ∙ not_unread asleep name slept;
    })

-- one more thread, whose fault is not queued
pub unread-push : (faults : List Fault) (name : ℕ) (object : Object) (messages : List Noted) (noted : Noted) (one : Fault) → AreUnread faults name object messages → fault_of faults one.thread ≡ None →
    one.object ≡ name → is_seen one.phase ≡ true → is_unread one.phase ≡ false → is_message_of object one (message_of noted.message) ≡ true → AreUnread (faults ++ one ∷ []) name object (messages ++ noted ∷ [])
unread-push faults name object messages noted one unread none watched seen queued told =
    record {
      on_their_way = on-push faults name object messages noted one unread.on_their_way none watched seen told;
      none_queued = first_unread-append faults (one ∷ []) name unread.none_queued ∙ not_unread one name queued;
    }
