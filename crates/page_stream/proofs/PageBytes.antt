-- The bytes of the present pages are numbers below 256, whatever is stored.
use Rattle.std.proofs.lemmas.Bool.Decides.{nat_tests}
use Rattle.std.proofs.Common.{◌≡◌, ℕ, zero, suc, ◌+◌, ◌/◌, ◌%◌, ◌<◌, Bool, cond, eqb, Option, Some, None, List, ◌++◌, take, drop, sym, ◌∙◌, arith, length}
use Rattle.std.specs.Int.{byte_at, bytes_low_first}
use Rattle.std.specs.List.{All}
use Rattle.std.specs.Ordering.{nat_cmp}
use Rattle.std.specs.FinMap.{FinMap, get, insert}
use Rattle.std.proofs.lemmas.List.Elements.{All-append, All-drop, All-replicate, All-take}
use Rattle.foundation.specs.declared.TheConstants.{PAGE_SIZE}
use Rattle.mig_base.specs.declared.command.Errno.TheVariants.{Enomem}
use Rattle.mig_base.specs.declared.command.Command.{Command}
use Rattle.mig_base.specs.declared.command.Command.TheVariants.{Store, Mmap, Munmap, Mremap, DontNeed}
use Rattle.mig_base.specs.declared.command.Reply.{Reply}
use Rattle.mig_base.specs.declared.command.Reply.TheVariants.{Done, At, Refused}
use Rattle.mig_base.specs.Bytes.{contents, low_bytes, overwrite, zero_page}
use Rattle.mig_base.specs.Pages.{remove_range}
use Rattle.foundation.specs.Ranges.{in_range, pages_of}
use Rattle.mig_base.proofs.PageLemmas.{get-moved_range, get-remove_range}
use Rattle.mig_model.specs.Host.{Host, host_changed}
use Rattle.mig_model.specs.Ioctls.{put_pages}
use Rattle.mig_model.proofs.memory.HostLemmas.{get-put, some_kept}
use Rattle.mig_model.proofs.memory.IoctlLemmas.{get-put_pages}

abbrev pub AreBytes : List ℕ → Type 0
AreBytes bytes = All (λ byte. byte < 256) bytes

-- so of each page that a map has
abbrev pub HasBytes : FinMap nat_cmp (List ℕ) → Type 0
HasBytes pages = (page : ℕ) (bytes : List ℕ) → get pages page ≡ Some bytes → AreBytes bytes

byte_below : (i n : ℕ) → byte_at i n < 256
byte_below i n = grind (arith, nat_tests)

low_first_bytes : (k i n : ℕ) → AreBytes (bytes_low_first i k n)
low_first_bytes zero i n j d l = absurd (omega (arith, l))
low_first_bytes (suc k) i n zero d l = byte_below i n
low_first_bytes (suc k) i n (suc j) d l = low_first_bytes k (suc i) n j d (omega (arith, l))

pub zero_bytes : AreBytes zero_page
unfolding zero_page
zero_bytes = All-replicate (λ byte. byte < 256) PAGE_SIZE 0 (omega arith)

pub contents_bytes : (pages : FinMap nat_cmp (List ℕ)) (page : ℕ) → HasBytes pages → AreBytes (contents pages page)
contents_bytes pages page h = grind (arith, nat_tests, zero_bytes)

written_bytes : (held bytes : List ℕ) (offset : ℕ) → AreBytes held → AreBytes bytes → AreBytes (overwrite held offset bytes)
unfolding overwrite
written_bytes held bytes offset old new =
    All-append (λ byte. byte < 256) (take offset held) (bytes ++ drop (offset + length bytes) held) (All-take (λ byte. byte < 256) offset held old)
    (All-append (λ byte. byte < 256) bytes (drop (offset + length bytes) held) new (All-drop (λ byte. byte < 256) (offset + length bytes) held old))

put_bytes : (here : Bool) (put bytes : List ℕ) (o : Option (List ℕ)) → AreBytes put → (o ≡ Some bytes → AreBytes bytes) → cond here (Some put) o ≡ Some bytes → AreBytes bytes
put_bytes here put bytes o new old h = grind (arith, nat_tests)

pub inserted_bytes : (pages : FinMap nat_cmp (List ℕ)) (page : ℕ) (put : List ℕ) → HasBytes pages → AreBytes put → HasBytes (insert pages page put)
inserted_bytes pages page put old new q bytes h = put_bytes (eqb q page) put bytes (get pages q) new (old q bytes) (sym (get-put pages page q put) ∙ h)

pub zeroed_bytes : (pages : FinMap nat_cmp (List ℕ)) (page : ℕ) → HasBytes pages → HasBytes (put_pages pages page 1 (λ i. zero_page))
zeroed_bytes pages page old q bytes h = put_bytes (in_range page 1 q) zero_page bytes (get pages q) zero_bytes (old q bytes) (sym (get-put_pages pages page 1 q (λ i. zero_page)) ∙ h)

removed_bytes : (pages : FinMap nat_cmp (List ℕ)) (first count : ℕ) → HasBytes pages → HasBytes (remove_range pages first count)
removed_bytes pages first count old q bytes h = old q bytes (some_kept (in_range first count q) bytes (get pages q) (sym (get-remove_range pages first count q) ∙ h))

moved_bytes : (target longer gone : Bool) (from own : Option (List ℕ)) (bytes : List ℕ) → (from ≡ Some bytes → AreBytes bytes) → (own ≡ Some bytes → AreBytes bytes) →
    cond target (cond longer from None) (cond gone None own) ≡ Some bytes → AreBytes bytes
moved_bytes target longer gone from own bytes a b h = grind (arith, nat_tests)

-- every command leaves bytes
pub changed_bytes : (host : Host) (command : Command) (reply : Reply) → HasBytes host.bytes → HasBytes (host_changed host command reply).bytes
changed_bytes host (Store addr width value) Done old =
    inserted_bytes host.bytes (addr / 4096) _ old
    (written_bytes (contents host.bytes (addr / 4096)) (low_bytes value width) (addr % 4096) (contents_bytes host.bytes (addr / 4096) old) (All-take (λ byte. byte < 256) width (bytes_low_first 0 8 value) (low_first_bytes 8 0 value)))
changed_bytes host (Mmap len prot place) (At start) old = removed_bytes host.bytes (start / 4096) (pages_of len) old
changed_bytes host (Munmap addr len) Done old = removed_bytes host.bytes (addr / 4096) (pages_of len) old
changed_bytes host (Mremap addr old_len new_len may_move fixed) (At target) old = grind (arith, nat_tests, moved_bytes, get-moved_range)
changed_bytes host (DontNeed addr len) Done old = removed_bytes host.bytes (addr / 4096) (pages_of len) old
changed_bytes host (DontNeed addr len) (Refused Enomem) old = removed_bytes host.bytes (addr / 4096) (pages_of len) old
changed_bytes host _ _ old = old
