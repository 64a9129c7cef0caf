-- A command changes the pages of a host as it changes the flat memory that they mean.
use Rattle.std.proofs.lemmas.Bool.Decides.{nat_tests}
use Rattle.std.proofs.Common.{◌≡◌, ℕ, ◌+◌, ◌-◌, ◌/◌, ◌%◌, ◌^◌, ◌≤◌, ◌&&◌, Bool, true, cond, ltb, Option, None, List, [], refl, sym, ap, ◌∙◌, arith, length, is_some, unwrap_or}
use Rattle.std.specs.FinMap.{get, contains_key}
use Rattle.std.proofs.lemmas.Bool.{leb-true}
use Rattle.std.proofs.lemmas.List.{get_or-take, length-take}
use Rattle.mig_base.specs.declared.TheConstants.{HIGH, HIGH_PAGE}
use Rattle.mig_base.specs.declared.Prot.{Prot}
use Rattle.mig_base.specs.declared.command.Errno.TheVariants.{Enomem}
use Rattle.mig_base.specs.declared.command.Place.{Place}
use Rattle.mig_base.specs.declared.command.Command.{Command}
use Rattle.mig_base.specs.declared.command.Command.TheVariants.{Store, Mmap, Munmap, Mremap, DontNeed}
use Rattle.mig_base.specs.declared.command.Reply.{Reply}
use Rattle.mig_base.specs.declared.command.Reply.TheVariants.{Done, At, BadAccess, Refused}
use Rattle.foundation.specs.Ranges.{rounded, pages_of}
use Rattle.mig_base.specs.Bytes.{zero_page, contents, low_bytes}
use Rattle.mig_base.specs.Flat.{Memory, Cell, is_mapped, fill, zeros_with, clear, zeroed, moved, write, is_aligned, allows_store, access_reply, reply_of, changed}
use Rattle.mig_base.proofs.ReplyLemmas.{IsRemapped, found_inside, mmap_inside, munmap_whole, dontneed_done, dontneed_hole, mremap_told}
use Rattle.mig_base.proofs.ReplyLemmas.IsWhere.{Shrunk, Grew, Moved, Told}
use Rattle.mig_base.proofs.ByteLemmas.{get_or-zero_page, length-zero_page, length-overwrite}
use Rattle.mig_base.proofs.BoundLemmas.{one_prot_some, high_or}
use Rattle.mig_model.specs.Host.{Host, memory, host_changed, host_moved, host_dropped, IsSound}
use Rattle.mig_model.proofs.memory.NumberLemmas.{aligned_inside}
use Rattle.mig_model.proofs.memory.HostLemmas.{AreDigits, ReadsAs, is_mapped-memory, memory-none, memory-write, memory-map, memory-unmap, memory-dropped, memory-moved, IsSound-put, IsSound-map, IsSound-unmap, IsSound-dropped, IsSound-moved}
use Rattle.mig_model.proofs.memory.Facts.{and_second}

-- A store

done_form : (a : Bool) (reply : Reply) → Done ≡ cond a reply BadAccess → a ≡ true
done_form a reply h = grind (arith, nat_tests)

-- a store that is done has the right form
pub stored_form : (m : Memory) (addr width value : ℕ) → Done ≡ reply_of m (Store addr width value) → is_aligned addr width ≡ true
stored_form m addr width value h = grind (arith, nat_tests)

some_cell : (o : Option Cell) (a : Bool) → a ≡ true → Done ≡ cond a (access_reply o allows_store Done) BadAccess → is_some o ≡ true
some_cell o a e h = grind (arith, nat_tests)

-- and its page is mapped
pub stored_mapped : (host : Host) (addr width value : ℕ) → Done ≡ reply_of (memory host) (Store addr width value) → contains_key host.areas (addr / 4096) ≡ true
stored_mapped host addr width value h =
    let form = is_aligned addr width && ltb value (256 ^ width) in
    let right = done_form form (access_reply (memory host addr) allows_store Done) h in
    let here = some_cell (memory host addr) form right h in
    sym (ap (λ f. f addr) (is_mapped-memory host)) ∙ here

pub digits_low_bytes : (value width : ℕ) → width ≤ 8 → AreDigits (low_bytes value width) width value
digits_low_bytes value width few = grind (arith, nat_tests, length-take, get_or-take)

reads_or_zero : (o : Option (List ℕ)) → ReadsAs (unwrap_or o zero_page) (unwrap_or o [])
reads_or_zero o = grind (arith, nat_tests, get_or-zero_page)

pub length-contents : (host : Host) (page : ℕ) → IsSound host → length (contents host.bytes page) ≡ 4096
length-contents host page sound = grind (arith, nat_tests, length-zero_page)

memory-stored : (host : Host) (addr width value : ℕ) → IsSound host → is_aligned addr width ≡ true → memory (host_changed host (Store addr width value) Done) ≡ write (memory host) addr width value
memory-stored host addr width value sound form =
    let is = aligned_inside addr width form in
    memory-write host addr width value (contents host.bytes (addr / 4096)) (low_bytes value width) (reads_or_zero (get host.bytes (addr / 4096))) (length-contents host (addr / 4096) sound) (digits_low_bytes value width is.few) is.inside

IsSound-stored : (host : Host) (addr width value : ℕ) → IsSound host → contains_key host.areas (addr / 4096) ≡ true → is_aligned addr width ≡ true → IsSound (host_changed host (Store addr width value) Done)
IsSound-stored host addr width value sound mapped form = grind (arith, nat_tests, length-contents, IsSound-put, length-overwrite)

-- Ranges

memory-mapped : (host : Host) (len start : ℕ) (prot : Prot) (place : Place) → start % 4096 ≡ 0 → memory (host_changed host (Mmap len prot place) (At start)) ≡ fill (memory host) start (rounded len) (zeros_with prot)
memory-mapped host len start prot place whole = grind (arith, nat_tests, memory-map)

memory-unmapped : (host : Host) (addr len : ℕ) → addr % 4096 ≡ 0 → memory (host_changed host (Munmap addr len) Done) ≡ clear (memory host) addr (rounded len)
memory-unmapped host addr len whole = grind (arith, nat_tests, memory-unmap)

memory-zeroed : (host : Host) (addr len : ℕ) → addr % 4096 ≡ 0 → memory (host_dropped host (addr / 4096) (pages_of len)) ≡ zeroed (memory host) addr (rounded len)
memory-zeroed host addr len whole = grind (arith, nat_tests, memory-dropped)

memory-remapped : (host : Host) (addr old_len new_len target : ℕ) → addr % 4096 ≡ 0 → target % 4096 ≡ 0 →
    memory (host_moved host (addr / 4096) (pages_of old_len) (target / 4096) (pages_of new_len)) ≡ moved (memory host) addr (rounded old_len) target (rounded new_len)
memory-remapped host addr old_len new_len target old new = grind (arith, nat_tests, memory-moved)

-- The place of an mremap

pub past_none : (host : Host) (addr : ℕ) → IsSound host → HIGH ≤ addr → memory host addr ≡ None
past_none host addr sound l = memory-none host addr (sound.bound (addr / 4096) (omega arith))

-- the new range of an mremap begins with a page, and ends in the address space
pub record IsPlaced (target size : ℕ) : Type 0 where
  pub whole : target % 4096 ≡ 0
  pub high : target + size ≤ HIGH

pub remapped_place : (host : Host) (addr old_len new_len target : ℕ) → IsSound host → IsRemapped (memory host) addr old_len new_len target → IsPlaced target (rounded new_len)
remapped_place host addr old_len new_len target sound told =
    let some = told.new_some in
    let whole = told.whole in
    elim told.place [
      | Shrunk same shorter ↦
          let last = high_or (λ past. one_prot_some (memory host) addr (rounded old_len) (rounded new_len - 1) told.one_prot (omega (arith, shorter, some)) (past_none host (addr + (rounded new_len - 1)) sound past)) in
          rw same (record { whole = whole; high = omega (arith, last, some) })
      | Grew same can ↦ rw same (record { whole = whole; high = leb-true (addr + rounded new_len) HIGH (and_second _ _ can) })
      | Moved found ↦ let inside = found_inside (is_mapped (memory host)) (rounded new_len) target found in record { whole = inside.whole; high = inside.high }
      | Told at ↦ record { whole = at.inside.whole; high = at.inside.high }
    ]

high_pages : (start len : ℕ) → start + rounded len ≤ HIGH → start / 4096 + pages_of len ≤ HIGH_PAGE
high_pages start len h = omega arith

-- Every command

pub memory-changed : (host : Host) (command : Command) (reply : Reply) → IsSound host → reply ≡ reply_of (memory host) command → memory (host_changed host command reply) ≡ changed (memory host) command reply
memory-changed host (Store addr width value) Done sound h = memory-stored host addr width value sound (stored_form (memory host) addr width value h)
memory-changed host (Mmap len prot place) (At start) sound h = memory-mapped host len start prot place (mmap_inside (memory host) len prot place start h).whole
memory-changed host (Munmap addr len) Done sound h = memory-unmapped host addr len (munmap_whole addr len h)
memory-changed host (Mremap addr old_len new_len may_move fixed) (At target) sound h = grind (arith, nat_tests, mremap_told, memory-remapped, remapped_place)
memory-changed host (DontNeed addr len) Done sound h = memory-zeroed host addr len (dontneed_done (memory host) addr len h)
memory-changed host (DontNeed addr len) (Refused Enomem) sound h = memory-zeroed host addr len (dontneed_hole (memory host) addr len h)
memory-changed host _ _ sound h = refl

pub IsSound-changed : (host : Host) (command : Command) (reply : Reply) → IsSound host → reply ≡ reply_of (memory host) command → IsSound (host_changed host command reply)
IsSound-changed host (Store addr width value) Done sound h = IsSound-stored host addr width value sound (stored_mapped host addr width value h) (stored_form (memory host) addr width value h)
IsSound-changed host (Mmap len prot place) (At start) sound h = IsSound-map host (start / 4096) (pages_of len) prot sound (high_pages start len (mmap_inside (memory host) len prot place start h).high)
IsSound-changed host (Munmap addr len) Done sound h = IsSound-unmap host (addr / 4096) (pages_of len) sound
IsSound-changed host (Mremap addr old_len new_len may_move fixed) (At target) sound h = grind (arith, nat_tests, mremap_told, IsSound-moved, high_pages, remapped_place)
IsSound-changed host (DontNeed addr len) Done sound h = IsSound-dropped host (addr / 4096) (pages_of len) sound
IsSound-changed host (DontNeed addr len) (Refused Enomem) sound h = IsSound-dropped host (addr / 4096) (pages_of len) sound
IsSound-changed host _ _ sound h = sound
