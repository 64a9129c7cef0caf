-- What a command does to the pages of a host once their bytes are changed.
use Rattle.std.proofs.lemmas.Bool.Decides.{nat_tests}
use Rattle.std.proofs.Common.{◌≡◌, ℕ, zero, suc, ◌+◌, ◌/◌, ◌%◌, ◌^◌, ◌&&◌, Bool, true, cond, ltb, List, ◌∷◌, ◌++◌, map, take, drop, length, unwrap_or, refl, sym, ap, ◌∙◌, arith}
use Rattle.std.specs.Prelude.{replicate}
use Rattle.std.specs.Ordering.{nat_cmp}
use Rattle.std.specs.FinMap.{FinMap, get, insert}
use Rattle.std.proofs.lemmas.List.{map-append, take-map, drop-map, length-map}
use Rattle.mig_base.specs.declared.command.Errno.TheVariants.{Enomem}
use Rattle.mig_base.specs.declared.command.Command.{Command}
use Rattle.mig_base.specs.declared.command.Command.TheVariants.{Store, Mmap, Munmap, Mremap, DontNeed}
use Rattle.mig_base.specs.declared.command.Reply.{Reply}
use Rattle.mig_base.specs.declared.command.Reply.TheVariants.{Done, At, BadAccess, Refused}
use Rattle.mig_base.specs.Bytes.{contents, low_bytes, overwrite, zero_page}
use Rattle.mig_base.specs.Flat.{is_aligned, reply_of}
use Rattle.mig_base.specs.Pages.{moved_range, remove_range, set_range}
use Rattle.foundation.specs.Ranges.{pages_of}
use Rattle.mig_model.specs.Host.{Host, host_after, host_changed, memory}
use Rattle.mig_laws.specs.Contents.{AreWholePages, IsByteMap, command_under, host_under, number_under, pages_under, reply_under, stored_under}
use Rattle.mig_laws.proofs.Numbers.{low_bytes-under}
use Rattle.mig_laws.proofs.PageMaps.{get-map_values, map_values-insert, map_values-moved_range, map_values-remove_range, unwrap_or-map}
use Rattle.mig_laws.proofs.Replies.{host_replied}

-- Pages

map-zeros : (f : ℕ → ℕ) (n : ℕ) → f 0 ≡ 0 → map f (replicate {A = ℕ} n 0) ≡ replicate {A = ℕ} n 0
map-zeros f zero h = refl
map-zeros f (suc n) h = ap (λ x. x ∷ map f (replicate {A = ℕ} n 0)) h ∙ ap (λ (xs : List ℕ). 0 ∷ xs) (map-zeros f n h)

pub zeros-under : (f : ℕ → ℕ) → f 0 ≡ 0 → map f zero_page ≡ zero_page
unfolding zero_page
zeros-under f h = map-zeros f 4096 h

pub contents-under : (f : ℕ → ℕ) (pages : FinMap nat_cmp (List ℕ)) (page : ℕ) → f 0 ≡ 0 → contents (pages_under f pages) page ≡ map f (contents pages page)
contents-under f pages page h = ap (λ o. unwrap_or o zero_page) (get-map_values (map f) pages page) ∙ unwrap_or-map (map f) (get pages page) zero_page zero_page (zeros-under f h)

overwrite-under : (f : ℕ → ℕ) (held bytes : List ℕ) (offset : ℕ) → overwrite (map f held) offset (map f bytes) ≡ map f (overwrite held offset bytes)
unfolding overwrite
overwrite-under f held bytes offset =
    ap (λ (front : List ℕ). front ++ (map f bytes ++ drop (offset + length (map f bytes)) (map f held))) (take-map f offset held)
    ∙ ap (λ n. map f (take offset held) ++ (map f bytes ++ drop (offset + n) (map f held))) (length-map bytes f)
    ∙ ap (λ (rest : List ℕ). map f (take offset held) ++ (map f bytes ++ rest)) (drop-map f (offset + length bytes) held)
    ∙ ap (λ (rest : List ℕ). map f (take offset held) ++ rest) (sym (map-append f bytes (drop (offset + length bytes) held)))
    ∙ sym (map-append f (take offset held) (bytes ++ drop (offset + length bytes) held))

-- A store that is made

right_form : (a : Bool) (reply : Reply) → Done ≡ cond a reply BadAccess → a ≡ true
right_form a reply h = grind (arith, nat_tests)

stored-under : (f : ℕ → ℕ) → IsByteMap f → (pages : FinMap nat_cmp (List ℕ)) (addr width value : ℕ) → (is_aligned addr width && ltb value (256 ^ width)) ≡ true →
    insert (pages_under f pages) (addr / 4096) (overwrite (contents (pages_under f pages) (addr / 4096)) (addr % 4096) (low_bytes (stored_under f addr width value) width))
    ≡ pages_under f (insert pages (addr / 4096) (overwrite (contents pages (addr / 4096)) (addr % 4096) (low_bytes value width)))
stored-under f is pages addr width value form =
    let page = addr / 4096 in
    let offset = addr % 4096 in
    let held = contents pages page in
    ap (λ b. insert (pages_under f pages) page (overwrite (contents (pages_under f pages) page) offset (low_bytes (cond b (number_under f value) value) width))) form
    ∙ ap (λ (bytes : List ℕ). insert (pages_under f pages) page (overwrite (contents (pages_under f pages) page) offset bytes)) (low_bytes-under f is value width)
    ∙ ap (λ (bytes : List ℕ). insert (pages_under f pages) page (overwrite bytes offset (map f (low_bytes value width)))) (contents-under f pages page is.keeps_zero)
    ∙ ap (λ (bytes : List ℕ). insert (pages_under f pages) page bytes) (overwrite-under f held (low_bytes value width) offset)
    ∙ sym (map_values-insert (map f) pages page (overwrite held offset (low_bytes value width)))

-- Every command

removed-under : (f : ℕ → ℕ) (pages : FinMap nat_cmp (List ℕ)) (first count : ℕ) → remove_range (pages_under f pages) first count ≡ pages_under f (remove_range pages first count)
removed-under f pages first count = sym (map_values-remove_range (map f) pages first count)

pub host_changed-under : (f : ℕ → ℕ) → IsByteMap f → (host : Host) (command : Command) (reply : Reply) → reply ≡ reply_of (memory host) command →
    host_changed (host_under f host) (command_under f command) (reply_under f reply) ≡ host_under f (host_changed host command reply)
host_changed-under f is host (Store addr width value) Done h =
    ap (λ (pages : FinMap nat_cmp (List ℕ)). record host { bytes = pages }) (stored-under f is host.bytes addr width value (right_form (is_aligned addr width && ltb value (256 ^ width)) _ h))
host_changed-under f is host (Mmap len prot place) (At start) h =
    ap (λ (pages : FinMap nat_cmp (List ℕ)). record { areas = set_range host.areas (start / 4096) (pages_of len) prot; bytes = pages }) (removed-under f host.bytes (start / 4096) (pages_of len))
host_changed-under f is host (Munmap addr len) Done h =
    ap (λ (pages : FinMap nat_cmp (List ℕ)). record { areas = remove_range host.areas (addr / 4096) (pages_of len); bytes = pages }) (removed-under f host.bytes (addr / 4096) (pages_of len))
host_changed-under f is host (Mremap addr old_len new_len may_move fixed) (At target) h =
    ap (λ (pages : FinMap nat_cmp (List ℕ)). record { areas = moved_range host.areas (addr / 4096) (pages_of old_len) (target / 4096) (pages_of new_len) (get host.areas (addr / 4096)); bytes = pages })
    (sym (map_values-moved_range (map f) host.bytes (addr / 4096) (pages_of old_len) (target / 4096) (pages_of new_len)))
host_changed-under f is host (DontNeed addr len) Done h = ap (λ (pages : FinMap nat_cmp (List ℕ)). record host { bytes = pages }) (removed-under f host.bytes (addr / 4096) (pages_of len))
host_changed-under f is host (DontNeed addr len) (Refused Enomem) h = ap (λ (pages : FinMap nat_cmp (List ℕ)). record host { bytes = pages }) (removed-under f host.bytes (addr / 4096) (pages_of len))
host_changed-under f is host _ _ h = refl

pub host_after-under : (f : ℕ → ℕ) → IsByteMap f → (host : Host) → AreWholePages host.bytes → (command : Command) → host_after (host_under f host) (command_under f command) ≡ host_under f (host_after host command)
host_after-under f is host whole command =
    ap (λ (reply : Reply). host_changed (host_under f host) (command_under f command) reply) (host_replied f is host whole command)
    ∙ host_changed-under f is host command (reply_of (memory host) command) refl
