-- munmap(2) and mmap(2) of a guest, by what the flat memory replies.
use Rattle.std.proofs.lemmas.Bool.Decides.{nat_tests}
use Rattle.std.proofs.lemmas.Bool.{and_from}
use Rattle.std.proofs.Common.{◌≡◌, ℕ, ◌<◌, ◌≤◌, ◌+◌, ◌*◌, ◌/◌, ◌%◌, ◌^◌, Bool, true, false, eqb, ltb, Option, Some, None, arith, refl, sym, ap, subst, ◌∙◌}
use Rattle.std.specs.Prelude.{if◌then◌else◌}
use Rattle.std.specs.FinMap.{FinMap}
use Rattle.std.specs.Ordering.{nat_cmp}
use Rattle.mig_base.specs.declared.Prot.{Prot}
use Rattle.mig_base.specs.declared.TheConstants.{HIGH}
use Rattle.mig_base.specs.declared.command.Command.{Command}
use Rattle.mig_base.specs.declared.command.Command.TheVariants.{Mmap, Munmap}
use Rattle.mig_base.specs.declared.command.Errno.{Errno}
use Rattle.mig_base.specs.declared.command.Place.{Place}
use Rattle.mig_base.specs.declared.command.Reply.{Reply}
use Rattle.mig_base.specs.declared.command.Reply.TheVariants.{At, Done, Refused}
use Rattle.mig_base.specs.Flat.{mmap_reply, munmap_reply, reply_of}
use Rattle.mig_base.specs.Pages.{remove_range, set_range}
use Rattle.foundation.specs.Ranges.{pages_of}
use Rattle.mig_base.specs.Userfault.{is_watched}
use Rattle.mig_base.proofs.ReplyLemmas.{mmap_inside, munmap_whole}
use Rattle.mig_model.specs.Host.{host_changed, memory}
use Rattle.mig_model.specs.Space.{IsSoundSpace, Space, all_queued, call_messages, called, modes_after, protected_after}
use Rattle.mig_model.proofs.memory.SpaceLemmas.{IsSoundSpace-called}
use Rattle.uffd_log.specs.declared.line.Answer.TheVariants as answer
use Rattle.kernel_rules.specs.MapCalls.{has_bytes, is_mappable, is_munmap_error, is_placed, mmapped, munmapped, unmapped, unmapped_bytes}
use Rattle.kernel_rules.specs.State.{Kernel, allowed}
use Rattle.kernel_laws.specs.Agreement.{Agree, Takes, number_of}
use Rattle.kernel_laws.specs.Maps.{MapCall}
use Rattle.kernel_laws.proofs.Unmaps.{unmapped-agree, unmapped_space}

-- The space after a call, by its reply

abbrev pub called_as : Space → ℕ → Command → Reply → Space
called_as space cpu command reply =
    record {
      host = host_changed space.host command reply;
      protected = protected_after space.protected command reply;
      object = all_queued (modes_after space.object command reply) (call_messages space.object command reply) cpu;
    }

pub by-reply : (space : Space) (cpu : ℕ) (command : Command) (reply : Reply) → reply_of (memory space.host) command ≡ reply → called space cpu command ≡ called_as space cpu command reply
by-reply space cpu command reply is = ap (called_as space cpu command) is

-- A range that is unmapped or mapped anew

below : (start len : ℕ) → start % 4096 ≡ 0 → start + 4096 * pages_of len ≤ HIGH → is_mappable (start / 4096) (pages_of len) ≡ true
below start len whole high = less (start / 4096 + pages_of len) (omega (arith, whole, high)) where
  less : (n : ℕ) → n < 2 ^ 52 → ltb n (2 ^ 52) ≡ true
  less n h = grind (arith, nat_tests)

-- the call's whole pages
takes-range : (it : MapCall) (cpu start len : ℕ) (command : Command) (reply : Reply) → reply_of (memory it.one.space.host) command ≡ reply → start % 4096 ≡ 0 → start + 4096 * pages_of len ≤ HIGH → has_bytes len ≡ true →
    (areas : FinMap nat_cmp Prot) → called_as it.one.space cpu command reply ≡ unmapped_space it.one.space areas (start / 4096) (pages_of len) start (start + 4096 * pages_of len) cpu (is_watched it.one.space.object (start / 4096) (pages_of len)) →
    IsSoundSpace (called it.one.space cpu command) → Takes (unmapped_bytes it.one.kernel it.key it.one.object.space start len) (called it.one.space cpu command) it.one.name
takes-range it cpu start len command reply is whole high some areas same sound =
    let first = start / 4096 in
    let count = pages_of len in
    let new : called it.one.space cpu command ≡ unmapped_space it.one.space areas first count start (start + 4096 * count) cpu (is_watched it.one.space.object first count) = by-reply it.one.space cpu command reply is ∙ same in
    record {
      kernel = unmapped it.one.kernel it.key it.one.object.space first count;
      object = it.one.object;
      taken = ap (λ b. allowed b (unmapped it.one.kernel it.key it.one.object.space first count)) (and_from (has_bytes len) (is_mappable first count) some (below start len whole high));
      agree = subst (λ s. Agree s (unmapped it.one.kernel it.key it.one.object.space first count) it.one.name it.one.object) (sym new)
          (unmapped-agree it areas first count start (start + 4096 * count) cpu (starts start whole) (ends start count whole) (subst IsSoundSpace new sound));
    }
  where
    starts : (start : ℕ) → start % 4096 ≡ 0 → start ≡ start / 4096 * 4096
    starts start whole = omega (arith, whole)

    ends : (start count : ℕ) → start % 4096 ≡ 0 → start + 4096 * count ≡ (start / 4096 + count) * 4096
    ends start count whole = omega (arith, whole)

-- nothing is done
pub takes-none : (it : MapCall) (cpu : ℕ) (command : Command) (rule : Option Kernel) → rule ≡ Some it.one.kernel → called it.one.space cpu command ≡ it.one.space → Takes rule (called it.one.space cpu command) it.one.name
takes-none it cpu command rule taken same =
    record { kernel = it.one.kernel; object = it.one.object; taken = taken; agree = subst (λ s. Agree s it.one.kernel it.one.name it.one.object) (sym same) it.one.agree }

-- munmap(2)

pub munmap-done : (addr len : ℕ) → munmap_reply addr len ≡ Done → (has_bytes len ≡ true) × (addr + 4096 * pages_of len ≤ HIGH)
munmap-done addr len is = (grind (arith, nat_tests), grind (arith, nat_tests))

pub munmap-taken : (it : MapCall) (cpu addr len : ℕ) → munmap_reply addr len ≡ Done → Takes (munmapped it.one.kernel it.key it.one.object.space addr len answer.Done) (called it.one.space cpu (Munmap addr len)) it.one.name
munmap-taken it cpu addr len is =
    let parts = munmap-done addr len is in
    takes-range it cpu addr len (Munmap addr len) Done is (munmap_whole addr len (sym is)) parts.1 parts.0 (remove_range it.one.space.host.areas (addr / 4096) (pages_of len)) refl (IsSoundSpace-called it.one.space cpu (Munmap addr len) refl it.one.agree.sound)

pub munmap-error : (addr len : ℕ) (errno : Errno) → munmap_reply addr len ≡ Refused errno → is_munmap_error (number_of errno) ≡ true
munmap-error addr len errno is = grind (arith, nat_tests)

pub munmap-refused : (it : MapCall) (cpu addr len : ℕ) (errno : Errno) → munmap_reply addr len ≡ Refused errno →
    Takes (munmapped it.one.kernel it.key it.one.object.space addr len (answer.Failed (number_of errno) None)) (called it.one.space cpu (Munmap addr len)) it.one.name
munmap-refused it cpu addr len errno is =
    takes-none it cpu (Munmap addr len) _ (ap (λ b. allowed b it.one.kernel) (munmap-error addr len errno is)) (by-reply it.one.space cpu (Munmap addr len) (Refused errno) is)

-- mmap(2)

refused-first : (b : Bool) (rest : Reply) (start : ℕ) → (if b then Refused Errno.Einval else rest) ≡ At start → b ≡ false
refused-first true rest start is = absurd (cc)
refused-first false rest start is = refl

some-bytes : (len : ℕ) → eqb len 0 ≡ false → has_bytes len ≡ true
some-bytes len some = grind (arith, nat_tests)

mmap-some : (it : MapCall) (len : ℕ) (prot : Prot) (place : Place) (start : ℕ) → mmap_reply (memory it.one.space.host) len prot place ≡ At start → has_bytes len ≡ true
mmap-some it len prot Place.Anywhere start is = some-bytes len (refused-first (eqb len 0) _ start is)
mmap-some it len prot (Place.Fixed addr) start is = some-bytes len (refused-first (eqb len 0) _ start is)
mmap-some it len prot (Place.NoReplace addr) start is = some-bytes len (refused-first (eqb len 0) _ start is)

pub mmap-taken : (it : MapCall) (cpu len : ℕ) (prot : Prot) (place : Place) (start addr flags : ℕ) → mmap_reply (memory it.one.space.host) len prot place ≡ At start → is_placed addr flags start ≡ true →
    Takes (mmapped it.one.kernel it.key it.one.object.space addr len flags (answer.Value start)) (called it.one.space cpu (Mmap len prot place)) it.one.name
mmap-taken it cpu len prot place start addr flags is placed =
    let inside = mmap_inside (memory it.one.space.host) len prot place start (sym is) in
    subst (λ b. Takes (if b then unmapped_bytes it.one.kernel it.key it.one.object.space start len else None) (called it.one.space cpu (Mmap len prot place)) it.one.name) (sym placed)
    (takes-range it cpu start len (Mmap len prot place) (At start) is inside.whole inside.high (mmap-some it len prot place start is) (set_range it.one.space.host.areas (start / 4096) (pages_of len) prot) refl
    (IsSoundSpace-called it.one.space cpu (Mmap len prot place) refl it.one.agree.sound))

pub mmap-refused : (it : MapCall) (cpu len : ℕ) (prot : Prot) (place : Place) (addr flags : ℕ) (errno : Errno) → mmap_reply (memory it.one.space.host) len prot place ≡ Refused errno →
    Takes (mmapped it.one.kernel it.key it.one.object.space addr len flags (answer.Failed (number_of errno) None)) (called it.one.space cpu (Mmap len prot place)) it.one.name
mmap-refused it cpu len prot place addr flags errno is = takes-none it cpu (Mmap len prot place) _ refl (by-reply it.one.space cpu (Mmap len prot place) (Refused errno) is)
