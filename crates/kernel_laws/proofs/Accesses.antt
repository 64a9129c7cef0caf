-- A thread that makes an access: it finds its page missing or write-protected, or is answered.
use Rattle.std.proofs.lemmas.Bool.Decides.{nat_tests}
use Rattle.std.proofs.lemmas.Bool.{false≢true, not-true}
use Rattle.std.proofs.Common.{◌≡◌, ℕ, ◌+◌, ◌*◌, ◌/◌, ◌%◌, ◌<◌, ◌&&◌, ◌||◌, Bool, true, false, not, cond, eqb, ltb, Option, Some, None, [], ◌∷◌, ◌++◌, arith, refl, sym, ap, subst, ◌∙◌}
use Rattle.std.specs.FinMap.{contains_key}
use Rattle.std.specs.FinSet.{contains}
use Rattle.mig_base.specs.declared.command.Access.{Access}
use Rattle.mig_base.specs.declared.command.Access.TheVariants.{Answered, Missing, Protected}
use Rattle.mig_base.specs.declared.command.Command.{Command}
use Rattle.mig_base.specs.declared.command.Reply.{Reply}
use Rattle.mig_base.specs.declared.message.Message.{Message}
use Rattle.foundation.specs.Bits.{is_one}
use Rattle.mig_base.specs.Commands.{is_access, is_store, page_of}
use Rattle.mig_base.specs.Flat.{reply_of}
use Rattle.mig_base.specs.Messages.{fault_flags}
use Rattle.foundation.specs.Ranges.{in_range}
use Rattle.mig_base.specs.Userfault.{Noted, is_registered, thread_id, waits_fault}
use Rattle.mig_base.proofs.SetSizes.{only_where}
use Rattle.foundation.proofs.TestLemmas.{eqb-self, missing_none}
use Rattle.mig_model.specs.Host.{Host, host_after, memory}
use Rattle.mig_model.specs.Space.{IsSoundSpace, Space, access_of, accessed_by}
use Rattle.mig_model.proofs.memory.HostLemmas.{get-put}
use Rattle.mig_model.proofs.memory.Registering.{pages_again}
use Rattle.kernel_rules.specs.declared.fault.Fault.{Fault}
use Rattle.kernel_rules.specs.declared.known.Page.{Page}
use Rattle.kernel_rules.specs.declared.known.Phase.TheVariants.{Seen}
use Rattle.kernel_rules.specs.declared.known.Presence.TheVariants.{Missing as MissingPage}
use Rattle.kernel_rules.specs.declared.object.Object.{Object}
use Rattle.kernel_rules.specs.Changes.{page_with}
use Rattle.kernel_rules.specs.Faults.{are_flags, fault_of, sees, stops_at, waits}
use Rattle.kernel_rules.specs.Pages.{is_missing, is_of_minor, is_of_protection, is_poisoned, is_present, known_as, may_be_missing, shown}
use Rattle.kernel_rules.specs.Reads.{is_message}
use Rattle.kernel_rules.specs.State.{Kernel, allowed, asked_for, of_object, page_is, pages_changed}
use Rattle.kernel_laws.specs.Agreement.{Agree, AgreesAt, Counterparts, IsPage, Takes, features_of}
use Rattle.kernel_laws.specs.Reading.{makes}
use Rattle.kernel_laws.proofs.Pages.{known}
use Rattle.kernel_laws.proofs.FaultReads.{agree-requeued, requeued}
use Rattle.kernel_laws.proofs.Waiting.{unread-push}

-- Flags

of-protection : (write wp : Bool) → is_of_protection (fault_flags write wp) ≡ wp
unfolding is_one
of-protection true true = refl
of-protection true false = refl
of-protection false true = refl
of-protection false false = refl

of-minor : (write : Bool) → is_of_minor (fault_flags write false) ≡ false
unfolding is_one
of-minor true = refl
of-minor false = refl

judged : (write wp : Bool) → (wp ≡ true → write ≡ true) → are_flags (fault_flags write wp) ≡ true
judged true true stores = refl
judged true false stores = refl
judged false true stores = absurd (false≢true (stores refl))
judged false false stores = refl

-- The page

-- what a fault of a page says: it is present if it is write-protected, else missing
abbrev IsShown : Space → ℕ → Bool → Type 0
IsShown space page protected = contains_key space.host.bytes page ≡ protected

known-absent : (missing : Bool) → is_present (known_as missing MissingPage) ≡ false
known-absent true = refl
known-absent false = refl

known-whole : (missing : Bool) → is_poisoned (known_as missing MissingPage) ≡ false
known-whole true = refl
known-whole false = refl

page-shown : (space : Space) (name page : ℕ) (protected b : Bool) (found : Option Page) → IsSoundSpace space → (b ≡ true → IsShown space page protected) → AgreesAt space name page found → AgreesAt space name page (cond b (page_with (shown protected) found) found)
page-shown space name page protected false found sound is agrees = agrees
page-shown space name page protected true None sound is agrees = agrees
page-shown space name page true true (Some one) sound is agrees =
    record { object = agrees.object; missing = agrees.missing; protect = agrees.protect; registered = agrees.registered; absent = λ h. absurd (false≢true h); present = λ h. is refl; whole = refl; plain = agrees.plain; guarded = agrees.guarded }
page-shown space name page false true (Some one) sound is agrees =
    record {
      object = agrees.object;
      missing = agrees.missing;
      protect = agrees.protect;
      registered = agrees.registered;
      absent = λ h. is refl;
      present = λ h. absurd (false≢true (sym (known-absent one.missing) ∙ h));
      whole = known-whole one.missing;
      plain = agrees.plain;
      guarded = λ guarded. absurd (false≢true (sym (is refl) ∙ sound.present page guarded));
    }

same-page : (s page q : ℕ) → (eqb s s && in_range page 1 q) ≡ true → page ≡ q
same-page s page q h = grind (arith, nat_tests)

agree-shown : (space : Space) (kernel : Kernel) (name : ℕ) (object : Object) (page : ℕ) (protected : Bool) → Agree space kernel name object → IsShown space page protected →
    Agree space (record (pages_changed kernel object.space page 1 (shown protected)) { faults = kernel.faults }) name object
agree-shown space kernel name object page protected agree is =
    record {
      sound = agree.sound;
      named = agree.named;
      features = agree.features;
      unread = agree.unread;
      pages = λ q.
          page-shown space name q protected (eqb object.space object.space && in_range page 1 q) (kernel.pages object.space q) agree.sound
          (λ inside. subst (λ at. IsShown space at protected) (same-page object.space page q inside) is) (agree.pages q);
      untold = agree.untold;
      alone = agree.alone;
      ranged = agree.ranged;
    }

-- what a page has at which the model has an access wait
pub record Stops (space : Space) (page : ℕ) (wp : Bool) : Type 0 where
  pub there : contains_key space.host.bytes page ≡ wp
  pub missing : wp ≡ false → contains space.object.missing page ≡ true
  pub protect : wp ≡ true → (contains space.object.protect page ≡ true) × (contains space.protected page ≡ true)

watched : (space : Space) (page : ℕ) (wp : Bool) → Stops space page wp → is_registered space.object page ≡ true
watched space page true stops = or_last (contains space.object.missing page) (contains space.object.protect page) (stops.protect refl).0 where
  or_last : (a b : Bool) → b ≡ true → (a || b) ≡ true
  or_last a b h = grind (arith, nat_tests)
watched space page false stops = ap (λ b. b || contains space.object.protect page) (stops.missing refl)

stop-missing : (own poisoned p m protected minor missing there : Bool) → own ≡ true → poisoned ≡ false → p ≡ false → m ≡ false → missing ≡ true → there ≡ false →
    (own && not poisoned && cond p protected (cond m (minor && not there) (missing && not there))) ≡ true
stop-missing own poisoned p m protected minor missing there ho hw hp hf hm ht = grind (arith, nat_tests)

stop-protected : (own poisoned p protect guarded absent missing : Bool) → own ≡ true → poisoned ≡ false → p ≡ true → protect ≡ true → guarded ≡ true → absent ≡ false → (own && not poisoned && cond p (protect && guarded && not absent) missing) ≡ true
stop-protected own poisoned p protect guarded absent missing ho hd hp hw hg ha = grind (arith, nat_tests)

not-missing : (absent there : Bool) → (absent ≡ true → there ≡ false) → there ≡ true → absent ≡ false
not-missing absent there h is = grind (arith, nat_tests)

stops-one : (space : Space) (name page : ℕ) (write wp : Bool) (one : Page) → Stops space page wp → IsPage space name page one → stops_at name (fault_flags write wp) one ≡ true
stops-one space name page write false one stops is =
    stop-missing (eqb one.object name) (is_poisoned one.presence) (is_of_protection (fault_flags write false)) (is_of_minor (fault_flags write false)) (one.protect && one.guarded && not (is_missing one.presence)) one.minor one.missing
    (is_present one.presence) (ap (λ n. eqb n name) is.object ∙ eqb-self name) is.whole (of-protection write false) (of-minor write) (is.missing ∙ stops.missing refl) (only_where (is_present one.presence) (contains_key space.host.bytes page) is.present stops.there)
stops-one space name page write true one stops is =
    stop-protected (eqb one.object name) (is_poisoned one.presence) (is_of_protection (fault_flags write true)) one.protect one.guarded (is_missing one.presence)
    (cond (is_of_minor (fault_flags write true)) (one.minor && may_be_missing one) (one.missing && may_be_missing one)) (ap (λ n. eqb n name) is.object ∙ eqb-self name) is.whole (of-protection write true) (is.protect ∙ (stops.protect refl).0) (is.guarded (stops.protect refl).1)
    (not-missing (is_missing one.presence) (contains_key space.host.bytes page) is.absent stops.there)

-- The message

-- the thread is named by its number if the object asked for that
named-thread : (b : Bool) (thread cpu : ℕ) → (b ≡ true → thread ≡ cpu + 1) → cond b (eqb thread (cond b (cpu + 1) 0) && ltb 0 (cond b (cpu + 1) 0)) (eqb (cond b (cpu + 1) 0) 0) ≡ true
named-thread true thread cpu is = ap (λ n. eqb n (cpu + 1) && ltb 0 (cpu + 1)) (is refl) ∙ named (cpu + 1) (omega (arith))
  where
    named : (n : ℕ) → 0 < n → (eqb n n && ltb 0 n) ≡ true
    named n h = grind (arith, nat_tests)
named-thread false thread cpu is = refl

pub asked : (space : Space) (kernel : Kernel) (name : ℕ) (object : Object) (bit : ℕ) → Agree space kernel name object → space.object.enabled ≡ true → asked_for object bit ≡ is_one space.object.features bit
asked space kernel name object bit agree enabled = by space.object.enabled agree.features enabled where
  by : (made : Bool) → object.features ≡ features_of made space.object.features → made ≡ true → asked_for object bit ≡ is_one space.object.features bit
  by true is h = ap (λ features. asked_for (record object { features = features }) bit) is
  by false is h = absurd (false≢true h)

four : (page addr flags thread : Bool) → page ≡ true → addr ≡ true → flags ≡ true → thread ≡ true → (page && addr && flags && thread) ≡ true
four page addr flags thread hp ha hf ht = grind (arith, nat_tests)

aligned : (exact : Bool) (page : ℕ) → (exact || eqb (4096 * page % 4096) 0) ≡ true
aligned exact page = grind (arith, nat_tests)

is-told : (space : Space) (kernel : Kernel) (name : ℕ) (object : Object) (fault : Fault) (cpu : ℕ) → Agree space kernel name object → space.object.enabled ≡ true → (is_one space.object.features 8 ≡ true → fault.thread ≡ cpu + 1) →
    is_message object fault (4096 * fault.page) fault.flags (thread_id space.object cpu) ≡ true
is-told space kernel name object fault cpu agree enabled named =
    let thread = thread_id space.object cpu in
    four (eqb fault.page (4096 * fault.page / 4096)) (asked_for object 11 || eqb (4096 * fault.page % 4096) 0) (eqb fault.flags fault.flags) (cond (asked_for object 8) (eqb fault.thread thread && ltb 0 thread) (eqb thread 0))
    (ap (eqb fault.page) (pages_again fault.page) ∙ eqb-self fault.page) (aligned (asked_for object 11) fault.page) (eqb-self fault.flags)
    (ap (λ b. cond b (eqb fault.thread thread && ltb 0 thread) (eqb thread 0)) (asked space kernel name object 8 agree enabled) ∙ named-thread (is_one space.object.features 8) fault.thread cpu named)

-- The thread waits

three : (waits flags stops : Bool) → waits ≡ false → flags ≡ true → stops ≡ true → (not waits && flags && stops) ≡ true
three waits flags stops hw hf hs = grind (arith, nat_tests)

-- the model's object with one more page fault
abbrev noted_of : Space → (page cpu : ℕ) → (write wp : Bool) → Noted
noted_of space page cpu write wp = record { message = Message.PageFault (4096 * page) write wp (thread_id space.object cpu); cpu = cpu }

sees-taken : (space : Space) (kernel : Kernel) (name : ℕ) (object : Object) (cpu thread page : ℕ) (write wp : Bool) → Agree space kernel name object → space.object.enabled ≡ true → waits kernel thread ≡ false →
    (is_one space.object.features 8 ≡ true → thread ≡ cpu + 1) → (wp ≡ true → write ≡ true) → Stops space page wp → Takes (sees kernel thread name page (fault_flags write wp)) (requeued space (space.object.faults ++ noted_of space page cpu write wp ∷ []) space.object.events) name
sees-taken space kernel name object cpu thread page write wp agree enabled idle named stores stops =
    let flags = fault_flags write wp in
    let one : Fault = record { thread = thread; object = name; page = page; flags = flags; phase = Seen; read_by = None } in
    let now = pages_changed kernel object.space page 1 (shown (is_of_protection flags)) in
    let new = record now { faults = kernel.faults ++ one ∷ [] } in
    let noted : Noted = record { message = Message.PageFault (4096 * page) write wp (thread_id space.object cpu); cpu = cpu } in
    let told = is-told space kernel name object one cpu agree enabled named in
    let unread = unread-push kernel.faults name object space.object.faults noted one agree.unread (missing_none (fault_of kernel.faults thread) idle) refl refl refl told in
    let stop = known space name page (kernel.pages object.space page) (stops_at name flags) (agree.pages page) (watched space page wp stops) (λ p is. stops-one space name page write wp p stops is) in
    record {
      kernel = new;
      object = object;
      taken = ap (λ o. of_object o (λ o. allowed (not (waits kernel thread) && are_flags flags && page_is (stops_at name flags) (kernel.pages o.space page)) (record (pages_changed kernel o.space page 1 (shown (is_of_protection flags))) {
        faults = kernel.faults ++ one ∷ [];
      }))) agree.named ∙ ap (λ b. allowed b new) (three (waits kernel thread) (are_flags flags) _ idle (judged write wp stores) stop);
      agree = agree-requeued space now name object kernel.faults new.faults (space.object.faults ++ noted ∷ []) (agree-shown space kernel name object page (is_of_protection flags) agree (stops.there ∙ sym (of-protection write wp))) unread;
    }

finds-taken : (one : Counterparts) (cpu thread page : ℕ) (write wp b : Bool) → one.space.object.enabled ≡ true → waits one.kernel thread ≡ false → (is_one one.space.object.features 8 ≡ true → thread ≡ cpu + 1) → (wp ≡ true → write ≡ true) → Stops one.space page wp →
    Takes (cond b (Some one.kernel) (sees one.kernel thread one.name page (fault_flags write wp)))
    (record one.space { object = cond b one.space.object (record one.space.object { faults = one.space.object.faults ++ noted_of one.space page cpu write wp ∷ [] }) }) one.name
finds-taken one cpu thread page write wp true enabled idle named stores stops = record { kernel = one.kernel; object = one.object; taken = refl; agree = one.agree }
finds-taken one cpu thread page write wp false enabled idle named stores stops = sees-taken one.space one.kernel one.name one.object cpu thread page write wp one.agree enabled idle named stores stops

-- An access that is answered

page-stored : (space : Space) (host : Host) (name page : ℕ) (found : Option Page) → (is_registered space.object page ≡ true → contains_key host.bytes page ≡ contains_key space.host.bytes page) → AgreesAt space name page found →
    AgreesAt (record space { host = host }) name page found
page-stored space host name page None same agrees = agrees
page-stored space host name page (Some one) same agrees =
    record {
      object = agrees.object;
      missing = agrees.missing;
      protect = agrees.protect;
      registered = agrees.registered;
      absent = λ h. same agrees.registered ∙ agrees.absent h;
      present = λ h. same agrees.registered ∙ agrees.present h;
      whole = agrees.whole;
      plain = agrees.plain;
      guarded = agrees.guarded;
    }

-- a page that is touched was there, if it is registered
was-there : (made absent missing protect answered : Bool) (reply : Reply) → cond (not made) (Answered reply) (cond (absent && missing) Missing (cond protect Protected (Answered reply))) ≡ Answered reply → made ≡ true → missing ≡ true → absent ≡ false
was-there made absent missing protect answered reply h is watched = grind (arith, nat_tests)

either-missing : (m p : Bool) → (m || p) ≡ true → (p ≡ true → m ≡ true) → m ≡ true
either-missing m p h tells = grind (arith, nat_tests)

stored : (space : Space) (command : Command) (page : ℕ) (reply : Reply) → access_of space command ≡ Answered reply → (contains space.object.protect (page_of command) ≡ true → contains space.object.missing (page_of command) ≡ true) →
    is_registered space.object page ≡ true → is_access command ≡ true → contains_key (host_after space.host command).bytes page ≡ contains_key space.host.bytes page
stored space command page reply answered watched registered access = grind (arith, nat_tests, get-put)

answered-taken : (one : Counterparts) (cpu : ℕ) (command : Command) (reply : Reply) → is_access command ≡ true → access_of one.space command ≡ Answered reply →
    (contains one.space.object.protect (page_of command) ≡ true → contains one.space.object.missing (page_of command) ≡ true) → IsSoundSpace (record one.space { host = host_after one.space.host command }) →
    Takes (Some one.kernel) (record one.space { host = host_after one.space.host command }) one.name
answered-taken one cpu command reply access answered watched sound =
    let agree = one.agree in
    record {
      kernel = one.kernel;
      object = one.object;
      taken = refl;
      agree = record {
        sound = sound;
        named = agree.named;
        features = agree.features;
        unread = agree.unread;
        pages = λ page. page-stored one.space (host_after one.space.host command) one.name page (one.kernel.pages one.object.space page) (λ registered. stored one.space command page reply answered watched registered access) (agree.pages page);
        untold = agree.untold;
        alone = agree.alone;
        ranged = agree.ranged;
      };
    }

-- How an access ends

stops-missing : (made absent missing protect : Bool) (reply : Reply) → cond (not made) (Answered reply) (cond (absent && missing) Missing (cond protect Protected (Answered reply))) ≡ Missing → (absent ≡ true) × (missing ≡ true)
stops-missing made absent missing protect reply h = (grind (arith, nat_tests), grind (arith, nat_tests))

stops-protected : (made missing store protect protected : Bool) (reply : Reply) → cond (not made) (Answered reply) (cond missing Missing (cond (store && protect && protected) Protected (Answered reply))) ≡ Protected → (protect ≡ true) × (protected ≡ true)
stops-protected made missing store protect protected reply h = (grind (arith, nat_tests), grind (arith, nat_tests))

pub makes-taken : (one : Counterparts) (cpu thread : ℕ) (command : Command) (access : Access) → is_access command ≡ true → one.space.object.enabled ≡ true → waits one.kernel thread ≡ false →
    (is_one one.space.object.features 8 ≡ true → thread ≡ cpu + 1) → (contains one.space.object.protect (page_of command) ≡ true → contains one.space.object.missing (page_of command) ≡ true) →
    IsSoundSpace (accessed_by access one.space cpu command) → access_of one.space command ≡ access → Takes (makes access one thread command) (accessed_by access one.space cpu command) one.name
makes-taken one cpu thread command (Answered reply) is enabled idle named watched sound ends = answered-taken one cpu command reply is ends watched sound
makes-taken one cpu thread command Missing is enabled idle named watched sound ends =
    let page = page_of command in
    let says = stops-missing _ (not (contains_key one.space.host.bytes page)) (contains one.space.object.missing page) _ (reply_of (memory one.space.host) command) ends in
    let stops : Stops one.space page false =
    record { there = not-true (contains_key one.space.host.bytes page) says.0; missing = λ h. says.1; protect = λ h. absurd (false≢true h) } in
    finds-taken one cpu thread page (is_store command) false (waits_fault one.space.object.faults (4096 * page) false) enabled idle named (λ h. absurd (false≢true h)) stops
makes-taken one cpu thread command Protected is enabled idle named watched sound ends =
    let page = page_of command in
    let says = stops-protected _ _ (is_store command) (contains one.space.object.protect page) (contains one.space.protected page) (reply_of (memory one.space.host) command) ends in
    let stops : Stops one.space page true =
    record { there = one.agree.sound.present page says.1; missing = λ h. absurd (false≢true (sym h)); protect = λ h. says } in
    finds-taken one cpu thread page true true (waits_fault one.space.object.faults (4096 * page) true) enabled idle named (λ h. refl) stops
