-- The host that the guest sees at the destination: what it has, and what it answers.
use Rattle.std.proofs.Common.{◌≡◌, ℕ, ◌/◌, ◌&&◌, Bool, true, false, cond, not, Option, Some, None, List, refl, sym, ap, ◌∙◌, ◌⊎◌, ⊎_elim, inl, inr, arith}
use Rattle.std.specs.Option.{option_and_then}
use Rattle.std.specs.Ordering.{nat_cmp}
use Rattle.std.specs.FinMap.{FinMap, get, contains_key}
use Rattle.std.specs.FinSet.{contains}
use Rattle.std.proofs.lemmas.Bool.Decides.{nat_tests}
use Rattle.std.proofs.lemmas.Bool.{or_left}
use Rattle.mig_base.specs.declared.Prot.{Prot}
use Rattle.mig_base.specs.declared.command.Command.{Command}
use Rattle.mig_base.specs.declared.command.Reply.{Reply}
use Rattle.mig_base.specs.declared.command.Access.TheVariants.{Answered, Missing, Protected}
use Rattle.mig_base.specs.Flat.{reply_of}
use Rattle.mig_base.proofs.PageLemmas.{get-map_below}
use Rattle.mig_model.specs.Host.{Host, memory, IsSound}
use Rattle.mig_base.specs.Commands.{is_access, page_of, is_store}
use Rattle.mig_model.specs.Space.{Space, IsSoundSpace, is_made, access_of}
use Rattle.mig_model.specs.Whereabouts.{seen_bytes, seen_host}
use Rattle.mig_model.proofs.memory.HostLemmas.{memory-at}
use Rattle.mig_model.proofs.memory.ReplyOfLemmas.{prots, reply_of-prots, reply_of-page, reply_of-unmade}
use Rattle.mig_model.specs.Log.{present}
use Rattle.mig_model.specs.Promises.{gone}
use Rattle.mig_model.specs.Migration.{made}

abbrev pub PageMap : Type 0 → Type 0
PageMap X = FinMap nat_cmp X

-- each page that is owed is mapped
abbrev pub AreMapped : Host → (ℕ → Option ℕ) → Type 0
AreMapped here owed = (page origin : ℕ) → owed page ≡ Some origin → contains_key here.areas page ≡ true

-- one page of the destination as it is seen
abbrev pub overlay : PageMap (List ℕ) → Option (List ℕ) → Option ℕ → Option (List ℕ)
overlay there o origin = elim o [ Some bytes ↦ Some bytes | None ↦ option_and_then (get there) origin ]

-- a page that is not mapped is not owed, nor is one that does not pass any test that owed pages pass
pub owed_none : (owed : ℕ → Option ℕ) (test : ℕ → Bool) (page : ℕ) → ((page origin : ℕ) → owed page ≡ Some origin → test page ≡ true) → test page ≡ false → owed page ≡ None
owed_none owed test page h is = grind (arith, nat_tests)

-- what the seen host has at each page
pub get-seen : (here there : Host) (owed : ℕ → Option ℕ) (page : ℕ) → IsSound here → AreMapped here owed → get (seen_host here there owed).bytes page ≡ seen_bytes here there owed page
get-seen here there owed page sound mapped = grind (arith, nat_tests, get-map_below)

pub IsSound-seen : (here there : Host) (owed : ℕ → Option ℕ) → IsSound here → IsSound there → AreMapped here owed → IsSound (seen_host here there owed)
IsSound-seen here there owed sound far mapped = grind (arith, nat_tests, get-seen)

-- Replies

prots-memory : (host : Host) → prots (memory host) ≡ (λ addr. get host.areas (addr / 4096))
prots-memory host = grind (arith, nat_tests, memory-at)

-- two hosts with the same areas have the same protections
pub same_prots : (host other : Host) → host.areas ≡ other.areas → prots (memory host) ≡ prots (memory other)
same_prots host other h = prots-memory host ∙ ap {B = ℕ → Option Prot} (λ areas addr. get areas (addr / 4096)) h ∙ sym (prots-memory other)

-- a map call is answered alike
pub reply_of-seen_call : (here there : Host) (owed : ℕ → Option ℕ) (command : Command) → is_access command ≡ false → reply_of (memory here) command ≡ reply_of (memory (seen_host here there owed)) command
reply_of-seen_call here there owed command call = reply_of-prots (memory here) (memory (seen_host here there owed)) command (same_prots here (seen_host here there owed) refl) call

-- a page with the same bytes has the same cells
same_cells : (areas : PageMap Prot) (bytes other : PageMap (List ℕ)) (page addr : ℕ) → get bytes page ≡ get other page → addr / 4096 ≡ page → memory (record { areas = areas; bytes = bytes }) addr ≡ memory (record { areas = areas; bytes = other }) addr
same_cells areas bytes other page addr h at = grind (arith, nat_tests, memory-at)

-- a page that is present, or is not owed, is seen as it is
pub seen_own : (here there : Host) (owed : ℕ → Option ℕ) (page : ℕ) → IsSound here → AreMapped here owed → (contains_key here.bytes page ≡ true) ⊎ (owed page ≡ None) → get (seen_host here there owed).bytes page ≡ get here.bytes page
seen_own here there owed page sound mapped h = grind (arith, nat_tests, get-seen)

answered_how : (made gone protect : Bool) (reply other : Reply) → cond (not made) (Answered reply) (cond gone Missing (cond protect Protected (Answered reply))) ≡ Answered other → (other ≡ reply) × ((made ≡ false) ⊎ (gone ≡ false))
answered_how made gone protect reply other h = grind (arith, nat_tests)

here_or_none : (present missing : Bool) → (not present && missing) ≡ false → (present ≡ true) ⊎ (missing ≡ false)
here_or_none present missing h = grind (arith, nat_tests)

-- an owed page is registered for missing faults
abbrev pub AreWatched : Space → (ℕ → Option ℕ) → Type 0
AreWatched space owed = (page origin : ℕ) → owed page ≡ Some origin → contains space.object.missing page ≡ true

pub watched_mapped : (space : Space) (owed : ℕ → Option ℕ) → IsSoundSpace space → AreWatched space owed → AreMapped space.host owed
watched_mapped space owed sound watched page origin h = sound.mapped page (or_left (contains space.object.missing page) (contains space.object.protect page) (watched page origin h))

-- an access that is answered is answered alike; and if it is made, its page is seen as it is
pub record IsAnswered (space : Space) (there : Host) (owed : ℕ → Option ℕ) (command : Command) (reply : Reply) : Type 0 where
  pub here : reply ≡ reply_of (memory space.host) command
  pub seen : reply ≡ reply_of (memory (seen_host space.host there owed)) command
  pub own : is_made reply ≡ true → (contains_key space.host.bytes (page_of command) ≡ true) ⊎ (contains space.object.missing (page_of command) ≡ false)

own_of : (reply : Reply) (present missing : Bool) → (is_made reply ≡ false) ⊎ ((not present && missing) ≡ false) → is_made reply ≡ true → (present ≡ true) ⊎ (missing ≡ false)
own_of reply present missing h made = grind (arith, nat_tests)

pub answered_seen : (space : Space) (there : Host) (owed : ℕ → Option ℕ) (command : Command) (reply : Reply) → IsSoundSpace space → AreWatched space owed → is_access command ≡ true → access_of space command ≡ Answered reply → IsAnswered space there owed command reply
answered_seen space there owed command reply sound watched access h =
    let page = page_of command in
    let seen = seen_host space.host there owed in
    let mapped = watched_mapped space owed sound watched in
    let how = answered_how (is_made (reply_of (memory space.host) command)) (not (contains_key space.host.bytes page) && contains space.object.missing page) (is_store command && contains space.object.protect page && contains space.protected page) (reply_of (memory space.host) command) reply h in
    record {
      here = how.0;
      seen = how.0 ∙ ⊎_elim
          (λ (un : is_made (reply_of (memory space.host) command) ≡ false). sym (reply_of-unmade (memory space.host) (memory seen) command (same_prots space.host seen refl) access un))
          (λ (there_is : (not (contains_key space.host.bytes page) && contains space.object.missing page) ≡ false).
          reply_of-page (memory space.host) (memory seen) command access
          (λ addr at. same_cells space.host.areas space.host.bytes seen.bytes page addr
          (sym (seen_own space.host there owed page sound.host mapped
          (⊎_elim (λ (present : contains_key space.host.bytes page ≡ true). inl present) (λ (not_missing : contains space.object.missing page ≡ false). inr (owed_none owed (contains space.object.missing) page watched not_missing))
          (here_or_none (contains_key space.host.bytes page) (contains space.object.missing page) there_is)))) at))
          how.1;
      own = λ made.
          own_of reply (contains_key space.host.bytes page) (contains space.object.missing page)
          (⊎_elim (λ (un : is_made (reply_of (memory space.host) command) ≡ false). inl (ap is_made how.0 ∙ un)) (λ (there_is : (not (contains_key space.host.bytes page) && contains space.object.missing page) ≡ false). inr there_is) how.1) made;
    }
