-- The host that the guest sees changes as a command says, and each page that is still owed stays registered and missing.
use Rattle.std.proofs.lemmas.Bool.Decides.{nat_tests}
use Rattle.std.proofs.Common.{◌≡◌, ℕ, ◌+◌, ◌-◌, ◌/◌, Bool, true, false, cond, eqb, ltb, Option, Some, None, List, refl, sym, ap, ◌∙◌, arith}
use Rattle.std.specs.FinMap.{get, insert}
use Rattle.mig_base.specs.declared.Prot.{Prot}
use Rattle.mig_base.specs.declared.command.Errno.TheVariants.{Enomem}
use Rattle.mig_base.specs.declared.command.Command.{Command}
use Rattle.mig_base.specs.declared.command.Command.TheVariants.{Load, Store, Mmap, Munmap, Mremap, DontNeed}
use Rattle.mig_base.specs.declared.command.Reply.{Reply}
use Rattle.mig_base.specs.declared.command.Reply.TheVariants.{Done, At, Refused}
use Rattle.foundation.specs.Ranges.{in_range, pages_of}
use Rattle.mig_base.specs.Pages.{remove_range, moved_range}
use Rattle.mig_base.proofs.PageLemmas.{same_pages, get-remove_range, get-moved_range}
use Rattle.mig_model.specs.Host.{Host, host_changed, IsSound}
use Rattle.mig_base.specs.Commands.{is_access, page_of}
use Rattle.mig_model.specs.Space.{is_made}
use Rattle.mig_model.specs.Whereabouts.{seen_host}
use Rattle.mig_model.proofs.memory.HostLemmas.{get-put}
use Rattle.mig_model.proofs.owed.SeenLemmas.{PageMap, AreMapped, overlay, get-seen}
use Rattle.mig_model.specs.Promises.{gone, moved_owed, owed_changed}
use Rattle.mig_model.proofs.memory.Facts.{none_absurd}

-- The seen host

abbrev host_of : PageMap Prot → PageMap (List ℕ) → Host
host_of areas bytes = record { areas = areas; bytes = bytes }

same_host : (areas : PageMap Prot) (a b : PageMap (List ℕ)) → ((page : ℕ) → get a page ≡ get b page) → host_of areas a ≡ host_of areas b
same_host areas a b h = ap (host_of areas) (same_pages a b h)

overlay_gone : (there : PageMap (List ℕ)) (c : Bool) (o : Option (List ℕ)) (origin : Option ℕ) → overlay there (cond c None o) (cond c None origin) ≡ cond c None (overlay there o origin)
overlay_gone there c o origin = grind (arith, nat_tests)

overlay_moved : (there : PageMap (List ℕ)) (new old from : Bool) (a b : Option (List ℕ)) (x y : Option ℕ) →
    overlay there (cond new (cond old a None) (cond from None b)) (cond new (cond old x None) (cond from None y)) ≡ cond new (cond old (overlay there a x) None) (cond from None (overlay there b y))
overlay_moved there new old from a b x y = grind (arith, nat_tests)

-- a range that goes
gone_seen : (here there : Host) (areas : PageMap Prot) (owed : ℕ → Option ℕ) (first count : ℕ) → IsSound here → AreMapped here owed →
    IsSound (record { areas = areas; bytes = remove_range here.bytes first count }) → AreMapped (record { areas = areas; bytes = remove_range here.bytes first count }) (gone owed first count) →
    seen_host (record { areas = areas; bytes = remove_range here.bytes first count }) there (gone owed first count) ≡ host_of areas (remove_range (seen_host here there owed).bytes first count)
gone_seen here there areas owed first count sound mapped new_sound new_mapped =
    let seen = seen_host here there owed in
    let new : Host = record { areas = areas; bytes = remove_range here.bytes first count } in
    same_host areas (seen_host new there (gone owed first count)).bytes (remove_range seen.bytes first count)
    (λ page.
    get-seen new there (gone owed first count) page new_sound new_mapped
    ∙ ap (λ o. overlay there.bytes o (gone owed first count page)) (get-remove_range here.bytes first count page)
    ∙ overlay_gone there.bytes (in_range first count page) (get here.bytes page) (owed page)
    ∙ ap (λ o. cond (in_range first count page) None o) (sym (get-seen here there owed page sound mapped))
    ∙ sym (get-remove_range seen.bytes first count page))

-- a range that moves
moved_seen : (here there : Host) (areas : PageMap Prot) (owed : ℕ → Option ℕ) (from count to new_count : ℕ) → IsSound here → AreMapped here owed →
    IsSound (record { areas = areas; bytes = moved_range here.bytes from count to new_count None }) → AreMapped (record { areas = areas; bytes = moved_range here.bytes from count to new_count None }) (moved_owed owed from count to new_count) →
    seen_host (record { areas = areas; bytes = moved_range here.bytes from count to new_count None }) there (moved_owed owed from count to new_count) ≡ host_of areas (moved_range (seen_host here there owed).bytes from count to new_count None)
moved_seen here there areas owed from count to new_count sound mapped new_sound new_mapped =
    let seen = seen_host here there owed in
    let new : Host = record { areas = areas; bytes = moved_range here.bytes from count to new_count None } in
    same_host areas (seen_host new there (moved_owed owed from count to new_count)).bytes (moved_range seen.bytes from count to new_count None)
    (λ page.
    get-seen new there (moved_owed owed from count to new_count) page new_sound new_mapped
    ∙ ap (λ o. overlay there.bytes o (moved_owed owed from count to new_count page)) (get-moved_range here.bytes from count to new_count page None)
    ∙ overlay_moved there.bytes (in_range to new_count page) (ltb (page - to) count) (in_range from count page) (get here.bytes (from + (page - to))) (get here.bytes page) (owed (from + (page - to))) (owed page)
    ∙ ap (λ o. cond (in_range to new_count page) (cond (ltb (page - to) count) o None) (cond (in_range from count page) None (overlay there.bytes (get here.bytes page) (owed page)))) (sym (get-seen here there owed (from + (page - to)) sound mapped))
    ∙ ap (λ o. cond (in_range to new_count page) (cond (ltb (page - to) count) (get seen.bytes (from + (page - to))) None) (cond (in_range from count page) None o)) (sym (get-seen here there owed page sound mapped))
    ∙ sym (get-moved_range seen.bytes from count to new_count page None))

-- every map call
pub called_seen : (here there : Host) (owed : ℕ → Option ℕ) (command : Command) (reply : Reply) → is_access command ≡ false → IsSound here → AreMapped here owed →
    IsSound (host_changed here command reply) → AreMapped (host_changed here command reply) (owed_changed owed command reply) →
    seen_host (host_changed here command reply) there (owed_changed owed command reply) ≡ host_changed (seen_host here there owed) command reply
called_seen here there owed (Load addr width) reply call sound mapped new_sound new_mapped = none_absurd (sym call)
called_seen here there owed (Store addr width value) reply call sound mapped new_sound new_mapped = none_absurd (sym call)
called_seen here there owed (Mmap len prot place) (At start) call sound mapped new_sound new_mapped = gone_seen here there _ owed (start / 4096) (pages_of len) sound mapped new_sound new_mapped
called_seen here there owed (Munmap addr len) Done call sound mapped new_sound new_mapped = gone_seen here there _ owed (addr / 4096) (pages_of len) sound mapped new_sound new_mapped
called_seen here there owed (Mremap addr old_len new_len may_move fixed) (At target) call sound mapped new_sound new_mapped = grind (arith, nat_tests, moved_seen)
called_seen here there owed (DontNeed addr len) Done call sound mapped new_sound new_mapped = gone_seen here there _ owed (addr / 4096) (pages_of len) sound mapped new_sound new_mapped
called_seen here there owed (DontNeed addr len) (Refused Enomem) call sound mapped new_sound new_mapped = gone_seen here there _ owed (addr / 4096) (pages_of len) sound mapped new_sound new_mapped
called_seen here there owed _ _ call sound mapped new_sound new_mapped = refl

-- a page that is written

overlay_put : (there : PageMap (List ℕ)) (c : Bool) (held : List ℕ) (o : Option (List ℕ)) (origin : Option ℕ) → overlay there (cond c (Some held) o) origin ≡ cond c (Some held) (overlay there o origin)
overlay_put there c held o origin = grind (arith, nat_tests)

put_seen : (here there : Host) (owed : ℕ → Option ℕ) (page : ℕ) (held : List ℕ) → IsSound here → AreMapped here owed → IsSound (record here { bytes = insert here.bytes page held }) →
    seen_host (record here { bytes = insert here.bytes page held }) there owed ≡ record (seen_host here there owed) { bytes = insert (seen_host here there owed).bytes page held }
put_seen here there owed page held sound mapped new_sound =
    let seen = seen_host here there owed in
    let new : Host = record here { bytes = insert here.bytes page held } in
    same_host here.areas (seen_host new there owed).bytes (insert seen.bytes page held)
    (λ q.
    get-seen new there owed q new_sound mapped
    ∙ ap (λ o. overlay there.bytes o (owed q)) (get-put here.bytes page q held)
    ∙ overlay_put there.bytes (eqb q page) held (get here.bytes q) (owed q)
    ∙ ap (λ o. cond (eqb q page) (Some held) o) (sym (get-seen here there owed q sound mapped))
    ∙ sym (get-put seen.bytes page q held))

-- every access, whose page is seen as it is if it is made
pub accessed_seen : (here there : Host) (owed : ℕ → Option ℕ) (command : Command) (reply : Reply) → is_access command ≡ true → IsSound here → AreMapped here owed → IsSound (host_changed here command reply) →
    (is_made reply ≡ true → get (seen_host here there owed).bytes (page_of command) ≡ get here.bytes (page_of command)) →
    seen_host (host_changed here command reply) there owed ≡ host_changed (seen_host here there owed) command reply
accessed_seen here there owed command reply access sound mapped new_sound own = grind (arith, nat_tests, put_seen)
