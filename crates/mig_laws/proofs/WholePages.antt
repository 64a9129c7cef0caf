-- Maps of whole pages stay so, whatever a command does.
use Rattle.std.proofs.lemmas.Bool.Decides.{nat_tests}
use Rattle.std.proofs.Common.{◌≡◌, ℕ, zero, suc, ◌+◌, ◌-◌, ◌/◌, ◌%◌, ◌<◌, Bool, true, false, cond, eqb, ltb, Option, Some, None, unwrap_or, List, ◌++◌, length, take, drop, refl, sym, ap, ◌∙◌, subst, arith}
use Rattle.std.specs.Int.{byte_at, bytes_low_first}
use Rattle.std.specs.List.{All}
use Rattle.std.specs.Ordering.{nat_cmp}
use Rattle.std.specs.FinMap.{FinMap, empty, get, get-empty, get-retain_keys, insert, nat_cmp-IsAntisymmetric, retain_keys}
use Rattle.std.proofs.lemmas.List.Elements.{All-append, All-drop, All-replicate, All-take}
use Rattle.std.proofs.lemmas.Option.{none-some, same_Some}
use Rattle.mig_base.specs.declared.command.Errno.TheVariants.{Enomem}
use Rattle.mig_base.specs.declared.command.Command.{Command}
use Rattle.mig_base.specs.declared.command.Command.TheVariants.{Store, Mmap, Munmap, Mremap, DontNeed}
use Rattle.mig_base.specs.declared.command.Reply.{Reply}
use Rattle.mig_base.specs.declared.command.Reply.TheVariants.{Done, At, Refused}
use Rattle.mig_base.specs.Bytes.{contents, low_bytes, overwrite, zero_page}
use Rattle.mig_base.specs.Flat.{is_aligned, reply_of}
use Rattle.mig_base.specs.Pages.{moved_range, remove_range}
use Rattle.foundation.specs.Ranges.{in_range, pages_of}
use Rattle.mig_base.proofs.ByteLemmas.{length-overwrite, length-zero_page}
use Rattle.mig_base.proofs.PageLemmas.{get-moved_range, get-remove_range}
use Rattle.mig_model.specs.Bounds.{IsPageBytes}
use Rattle.mig_model.specs.Guest.{Guest, tried}
use Rattle.mig_model.specs.Host.{Host, host_changed, memory}
use Rattle.mig_model.specs.Ioctls.{put_pages}
use Rattle.mig_model.proofs.memory.CommandLemmas.{digits_low_bytes, stored_form}
use Rattle.mig_model.proofs.memory.HostLemmas.{get-put, some_kept}
use Rattle.mig_model.proofs.memory.IoctlLemmas.{get-put_pages}
use Rattle.mig_model.proofs.memory.MappingLemmas.{host_tried}
use Rattle.mig_model.proofs.memory.NumberLemmas.{aligned_inside}
use Rattle.mig_laws.specs.Contents.{AreWholePages}

abbrev AreBytes : List ℕ → Type 0
AreBytes bytes = All (λ byte. byte < 256) bytes

-- Bytes

byte_below : (i n : ℕ) → byte_at i n < 256
byte_below i n = grind (arith, nat_tests)

low_first_bytes : (k i n : ℕ) → AreBytes (bytes_low_first i k n)
low_first_bytes zero i n j d l = absurd (omega (arith, l))
low_first_bytes (suc k) i n zero d l = byte_below i n
low_first_bytes (suc k) i n (suc j) d l = low_first_bytes k (suc i) n j d (omega (arith, l))

pub zeros_whole : IsPageBytes zero_page
unfolding zero_page
zeros_whole = (length-zero_page, All-replicate (λ byte. byte < 256) 4096 0 (omega arith))

held_whole : (o : Option (List ℕ)) → ((bytes : List ℕ) → o ≡ Some bytes → IsPageBytes bytes) → IsPageBytes (unwrap_or o zero_page)
held_whole None h = zeros_whole
held_whole (Some bytes) h = h bytes refl

pub contents_whole : (pages : FinMap nat_cmp (List ℕ)) (page : ℕ) → AreWholePages pages → IsPageBytes (contents pages page)
contents_whole pages page whole = held_whole (get pages page) (λ bytes is. whole page bytes is)

written_bytes : (held bytes : List ℕ) (offset : ℕ) → AreBytes held → AreBytes bytes → AreBytes (overwrite held offset bytes)
unfolding overwrite
written_bytes held bytes offset old new =
    All-append (λ byte. byte < 256) (take offset held) (bytes ++ drop (offset + length bytes) held) (All-take (λ byte. byte < 256) offset held old)
    (All-append (λ byte. byte < 256) bytes (drop (offset + length bytes) held) new (All-drop (λ byte. byte < 256) (offset + length bytes) held old))

-- a page that a store of the right form has written is whole
written_whole : (held : List ℕ) (addr width value : ℕ) → is_aligned addr width ≡ true → IsPageBytes held → IsPageBytes (overwrite held (addr % 4096) (low_bytes value width))
written_whole held addr width value form whole =
    let inside = aligned_inside addr width form in
    let digits = digits_low_bytes value width inside.few in
    let count = digits.count in
    let fits = inside.inside in
    let long = whole.0 in (
      length-overwrite held (low_bytes value width) (addr % 4096) (omega (arith, count, fits, long)) ∙ long,
      written_bytes held (low_bytes value width) (addr % 4096) whole.1 (All-take (λ byte. byte < 256) width (bytes_low_first 0 8 value) (low_first_bytes 8 0 value)),
    )

-- Maps

pub none_whole : AreWholePages empty
none_whole page bytes h = absurd (none-some bytes (sym (get-empty nat_cmp page) ∙ h))

picked : (here : Bool) (put bytes : List ℕ) (o : Option (List ℕ)) → IsPageBytes put → (o ≡ Some bytes → IsPageBytes bytes) → cond here (Some put) o ≡ Some bytes → IsPageBytes bytes
picked true put bytes o new old h = subst IsPageBytes (same_Some put bytes h) new
picked false put bytes o new old h = old h

pub inserted_whole : (pages : FinMap nat_cmp (List ℕ)) (page : ℕ) (put : List ℕ) → AreWholePages pages → IsPageBytes put → AreWholePages (insert pages page put)
inserted_whole pages page put old new q bytes h = picked (eqb q page) put bytes (get pages q) new (old q bytes) (sym (get-put pages page q put) ∙ h)

pub put_whole : (pages : FinMap nat_cmp (List ℕ)) (page : ℕ) (put : List ℕ) → AreWholePages pages → IsPageBytes put → AreWholePages (put_pages pages page 1 (λ i. put))
put_whole pages page put old new q bytes h = picked (in_range page 1 q) put bytes (get pages q) new (old q bytes) (sym (get-put_pages pages page 1 q (λ i. put)) ∙ h)

removed_whole : (pages : FinMap nat_cmp (List ℕ)) (first count : ℕ) → AreWholePages pages → AreWholePages (remove_range pages first count)
removed_whole pages first count old q bytes h = old q bytes (some_kept (in_range first count q) bytes (get pages q) (sym (get-remove_range pages first count q) ∙ h))

moved : (target longer gone : Bool) (from own : Option (List ℕ)) (bytes : List ℕ) → (from ≡ Some bytes → IsPageBytes bytes) → (own ≡ Some bytes → IsPageBytes bytes) →
    cond target (cond longer from None) (cond gone None own) ≡ Some bytes → IsPageBytes bytes
moved true true gone from own bytes a b h = a h
moved true false gone from own bytes a b h = absurd (none-some bytes h)
moved false longer true from own bytes a b h = absurd (none-some bytes h)
moved false longer false from own bytes a b h = b h

moved_whole : (pages : FinMap nat_cmp (List ℕ)) (from count to new_count : ℕ) → AreWholePages pages → AreWholePages (moved_range pages from count to new_count None)
moved_whole pages from count to new_count old q bytes h =
    moved (in_range to new_count q) (ltb (q - to) count) (in_range from count q) (get pages (from + (q - to))) (get pages q) bytes (old (from + (q - to)) bytes) (old q bytes) (sym (get-moved_range pages from count to new_count q None) ∙ h)

retained : (keep : Bool) (o : Option (List ℕ)) (bytes : List ℕ) → cond keep o None ≡ Some bytes → o ≡ Some bytes
retained true o bytes h = h
retained false o bytes h = absurd (none-some bytes h)

pub retained_whole : (pages : FinMap nat_cmp (List ℕ)) (test : ℕ → Bool) → AreWholePages pages → AreWholePages (retain_keys pages test)
retained_whole pages test old q bytes h =
    old q bytes (retained (test q) (get pages q) bytes (sym (get-retain_keys pages test q (λ x e. ap test (sym (nat_cmp-IsAntisymmetric q x e)))) ∙ h))

-- Every command

pub changed_whole : (host : Host) (command : Command) (reply : Reply) → reply ≡ reply_of (memory host) command → AreWholePages host.bytes → AreWholePages (host_changed host command reply).bytes
changed_whole host (Store addr width value) Done is old =
    inserted_whole host.bytes (addr / 4096) _ old
    (written_whole (contents host.bytes (addr / 4096)) addr width value (stored_form (memory host) addr width value is) (contents_whole host.bytes (addr / 4096) old))
changed_whole host (Mmap len prot place) (At start) is old = removed_whole host.bytes (start / 4096) (pages_of len) old
changed_whole host (Munmap addr len) Done is old = removed_whole host.bytes (addr / 4096) (pages_of len) old
changed_whole host (Mremap addr old_len new_len may_move fixed) (At target) is old = moved_whole host.bytes (addr / 4096) (pages_of old_len) (target / 4096) (pages_of new_len) old
changed_whole host (DontNeed addr len) Done is old = removed_whole host.bytes (addr / 4096) (pages_of len) old
changed_whole host (DontNeed addr len) (Refused Enomem) is old = removed_whole host.bytes (addr / 4096) (pages_of len) old
changed_whole host _ _ is old = old

-- the pages of a guest once a processor has tried a command
pub tried_whole : (access : Bool) (guest : Guest) (cpu : ℕ) (command : Command) → AreWholePages guest.space.host.bytes → AreWholePages (tried access guest cpu command).space.host.bytes
tried_whole access guest cpu command old =
    host_tried (λ host. AreWholePages host.bytes) access guest.space cpu command old (changed_whole guest.space.host command (reply_of (memory guest.space.host) command) refl old)
