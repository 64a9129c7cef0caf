-- An access of an idle processor that meets no fault changes bytes and the transcript alone: without bytes the guest stays as it is.
use Rattle.std.proofs.Common.{◌≡◌, ℕ, ◌/◌, ◌&&◌, not, Bool, true, false, cond, eqb, ltb, Option, Some, None, is_some, List, [], ◌∷◌, map, set, length, refl, sym, ap, ◌∙◌}
use Rattle.std.specs.Prelude.{Result, Ok, Err, replicate}
use Rattle.std.specs.Option.{option_map}
use Rattle.std.specs.Ordering.{nat_cmp}
use Rattle.std.specs.FinMap.{FinMap, contains_key, get, insert}
use Rattle.std.specs.FinSet.{contains}
use Rattle.std.proofs.lemmas.Bool.{eqb-true, false≢true}
use Rattle.std.proofs.lemmas.List.{set-get_or}
use Rattle.mig_base.specs.Commands.{is_access, is_store, page_of}
use Rattle.mig_base.specs.Flat.{reply_of}
use Rattle.mig_base.specs.declared.command.Access.{Access}
use Rattle.mig_base.specs.declared.command.Access.TheVariants.{Answered, Missing, Protected}
use Rattle.mig_base.specs.declared.command.Command.{Command}
use Rattle.mig_base.specs.declared.command.Command.TheVariants.{Load, Store, Mmap, Munmap, Mremap, DontNeed}
use Rattle.mig_base.specs.declared.command.Reply.{Reply}
use Rattle.mig_base.specs.declared.command.Reply.TheVariants.{Done}
use Rattle.mig_base.specs.declared.cpu_state.CpuState.{CpuState}
use Rattle.mig_base.specs.declared.effect.Effect.{Effect}
use Rattle.mig_base.specs.declared.refusal.Refusal.{Refusal}
use Rattle.mig_model.specs.Bounds.{IsPageBytes}
use Rattle.mig_model.specs.Cpus.{Cpus, access_took, entries_of, idle_answer, idle_by, processor_after, processor_at}
use Rattle.mig_model.specs.Effects.{try_effect}
use Rattle.mig_model.specs.Guest.{Guest, took_by, tried}
use Rattle.mig_model.specs.GuestSteps.{Tried, issue, tried_with, try_command}
use Rattle.mig_model.specs.Host.{Host, host_after, host_changed, memory}
use Rattle.mig_model.specs.NodeSteps.{and_then, in_phase}
use Rattle.mig_model.specs.Space.{access_of, accessed_by, is_made}
use Rattle.mig_model.proofs.memory.HostLemmas.{get-put}
use Rattle.mig_laws.specs.Contents.{AreWholePages, cpu_under, guest_under, host_under, pages_under}
use Rattle.mig_laws.specs.Drivers.{MeetsNoFault, no_byte}
use Rattle.mig_laws.proofs.GuestSteps.{idle-under}
use Rattle.mig_laws.proofs.OrderRuns.{never}
use Rattle.mig_laws.proofs.PageMaps.{get-map_values}
use Rattle.mig_laws.proofs.WholePages.{changed_whole}
use Rattle.mig_base.proofs.PageLemmas.{same_pages}

-- The access is answered

answered_at : (made present missing store protect protected : Bool) (reply : Reply) → present ≡ true → (store ≡ true → protected ≡ false) →
    cond (not made) (Answered reply) (cond (not present && missing) Missing (cond (store && protect && protected) Protected (Answered reply))) ≡ Answered reply
answered_at false present missing store protect protected reply is free = refl
answered_at true false missing store protect protected reply is free = absurd (false≢true is)
answered_at true true missing false protect protected reply is free = refl
answered_at true true missing true false protected reply is free = refl
answered_at true true missing true true protected reply is free = ap (λ p. cond p Protected (Answered reply)) (free refl)

-- what the guest with all bytes does by it
abbrev pub quiet : Guest → ℕ → Command → Tried
quiet guest cpu command =
    record {
      effect = Effect.Answered cpu (reply_of (memory guest.space.host) command);
      entries = record { cpu = cpu; command = command; reply = reply_of (memory guest.space.host) command } ∷ [];
      guest = record { space = record guest.space { host = host_after guest.space.host command }; cpus = set guest.cpus cpu CpuState.Idle };
    }

tried-quiet : (guest : Guest) (cpu : ℕ) (command : Command) → is_access command ≡ true → access_of guest.space command ≡ Answered (reply_of (memory guest.space.host) command) → try_command guest cpu command ≡ Ok (quiet guest cpu command)
tried-quiet guest cpu command access answered =
    ap (λ b. tried_with (try_effect cpu (took_by b guest.space command)) (entries_of cpu command (took_by b guest.space command)) (tried b guest cpu command)) access
    ∙ ap (λ (x : Access).
    tried_with (try_effect cpu (access_took x)) (entries_of cpu command (access_took x)) (record { space = accessed_by x guest.space cpu command; cpus = set guest.cpus cpu (processor_after command (access_took x)) })) answered

pub issued-quiet : (guest : Guest) (runs : Bool) (cpu : ℕ) (command : Command) → runs ≡ true → MeetsNoFault (guest_under no_byte guest) guest.space.host.bytes cpu command → issue guest runs cpu command ≡ Ok (quiet guest cpu command)
issued-quiet guest runs cpu command may meets =
    let idle : idle_answer guest.cpus cpu ≡ Ok tt = sym (idle-under no_byte guest.cpus cpu) ∙ meets.idle in
    let reply = reply_of (memory guest.space.host) command in
    let answered = answered_at (is_made reply) (contains_key guest.space.host.bytes (page_of command)) (contains guest.space.object.missing (page_of command)) (is_store command) (contains guest.space.object.protect (page_of command))
    (contains guest.space.protected (page_of command)) reply meets.present meets.unprotected in
    ap (λ (r : Result (Unit {0}) Refusal). and_then r (λ one. in_phase runs (try_command guest cpu command))) idle ∙ ap (λ b. in_phase b (try_command guest cpu command)) may ∙ tried-quiet guest cpu command meets.access answered

-- Without bytes nothing changes

blank : (bytes : List ℕ) → map no_byte bytes ≡ replicate {A = ℕ} (length bytes) 0
blank [] = refl
blank (byte ∷ bytes) = ap (λ (rest : List ℕ). 0 ∷ rest) (blank bytes)

blank_alike : (a b : Option (List ℕ)) → ((bytes : List ℕ) → a ≡ Some bytes → IsPageBytes bytes) → ((bytes : List ℕ) → b ≡ Some bytes → IsPageBytes bytes) → is_some a ≡ is_some b → option_map (map no_byte) a ≡ option_map (map no_byte) b
blank_alike None None one other same = refl
blank_alike None (Some bytes) one other same = absurd (false≢true same)
blank_alike (Some bytes) None one other same = absurd (false≢true (sym same))
blank_alike (Some bytes) (Some more) one other same =
    ap (λ (l : List ℕ). Some l) (blank bytes ∙ ap (λ n. replicate {A = ℕ} n 0) ((one bytes refl).0 ∙ sym (other more refl).0) ∙ sym (blank more))

-- maps of the same whole pages are one map without bytes
pages-alike : (new old : FinMap nat_cmp (List ℕ)) → AreWholePages new → AreWholePages old → ((q : ℕ) → contains_key new q ≡ contains_key old q) → pages_under no_byte new ≡ pages_under no_byte old
pages-alike new old one other same =
    same_pages _ _ (λ q. get-map_values (map no_byte) new q ∙ blank_alike (get new q) (get old q) (one q) (other q) (same q) ∙ sym (get-map_values (map no_byte) old q))

put_key : (b : Bool) (pages : FinMap nat_cmp (List ℕ)) (page q : ℕ) (put : List ℕ) → eqb q page ≡ b → contains_key pages page ≡ true → is_some (cond b (Some put) (get pages q)) ≡ is_some (get pages q)
put_key true pages page q put is present = sym (ap (λ p. contains_key pages p) (eqb-true q page is) ∙ present)
put_key false pages page q put is present = refl

put_keys : (pages : FinMap nat_cmp (List ℕ)) (page : ℕ) (put : List ℕ) → contains_key pages page ≡ true → (q : ℕ) → contains_key (insert pages page put) q ≡ contains_key pages q
put_keys pages page put present q = ap is_some (get-put pages page q put) ∙ put_key (eqb q page) pages page q put refl present

host-quiet : (host : Host) (command : Command) (reply : Reply) → is_access command ≡ true → contains_key host.bytes (page_of command) ≡ true → AreWholePages host.bytes → reply ≡ reply_of (memory host) command →
    host_under no_byte (host_changed host command reply) ≡ host_under no_byte host
host-quiet host (Store addr width value) Done access present whole is =
    ap (λ (pages : FinMap nat_cmp (List ℕ)). record host { bytes = pages })
    (pages-alike (host_changed host (Store addr width value) Done).bytes host.bytes (changed_whole host (Store addr width value) Done is whole) whole (put_keys host.bytes (addr / 4096) _ present))
host-quiet host (Store addr width value) _ access present whole is = refl
host-quiet host (Load addr width) reply access present whole is = refl
host-quiet host (Mmap len prot place) reply access present whole is = absurd (false≢true access)
host-quiet host (Munmap addr len) reply access present whole is = absurd (false≢true access)
host-quiet host (Mremap addr old_len new_len may_move fixed) reply access present whole is = absurd (false≢true access)
host-quiet host (DontNeed addr len) reply access present whole is = absurd (false≢true access)

idle_state : (there : Bool) (state : CpuState) → cond there (idle_by state) (Err Refusal.NoCpu) ≡ Ok tt → state ≡ CpuState.Idle
idle_state true CpuState.Idle is = refl
idle_state true (CpuState.Asleep command) is = absurd (never Refusal.Busy tt is)
idle_state true (CpuState.Woken command) is = absurd (never Refusal.Busy tt is)
idle_state true (CpuState.InCall reply left) is = absurd (never Refusal.Busy tt is)
idle_state false state is = absurd (never Refusal.NoCpu tt is)

idle-same : (cpus : Cpus) (cpu : ℕ) → idle_answer cpus cpu ≡ Ok tt → set cpus cpu CpuState.Idle ≡ cpus
idle-same cpus cpu idle = ap (λ state. set cpus cpu state) (sym (idle_state (ltb cpu (length cpus)) (processor_at cpus cpu) idle)) ∙ set-get_or cpus cpu CpuState.Idle

pub guest-quiet : (guest : Guest) (cpu : ℕ) (command : Command) → AreWholePages guest.space.host.bytes → MeetsNoFault (guest_under no_byte guest) guest.space.host.bytes cpu command → guest_under no_byte (quiet guest cpu command).guest ≡ guest_under no_byte guest
guest-quiet guest cpu command whole meets =
    let host = host-quiet guest.space.host command (reply_of (memory guest.space.host) command) meets.access meets.present whole refl in
    let cpus = ap (λ (l : Cpus). map (cpu_under no_byte) l) (idle-same guest.cpus cpu (sym (idle-under no_byte guest.cpus cpu) ∙ meets.idle)) in
    λ i. record { space = record guest.space { host = host i }; cpus = cpus i }
