-- What loads, stores and munmap answer, and the bytes of a page that a store makes present.
use Rattle.std.proofs.Common.{◌≡◌, ℕ, ◌+◌, ◌/◌, ◌%◌, ◌^◌, ◌<◌, ◌≤◌, ◌&&◌, Bool, true, false, cond, not, eqb, ltb, Option, Some, None, List, [], refl, sym, ap, ◌∙◌, subst, arith, length, get_or, take, drop, is_some, unwrap_or}
use Rattle.std.specs.Int.{bytes_low_first}
use Rattle.std.specs.Ordering.{nat_cmp}
use Rattle.std.specs.FinMap.{FinMap, get, insert, contains_key}
use Rattle.std.proofs.lemmas.Bool.{false≢true, eq-eqb, le-ltb}
use Rattle.std.proofs.lemmas.List.{get_or-take, get_or-drop, length-take, length-drop}
use Rattle.mig_base.specs.declared.TheConstants.{HIGH}
use Rattle.mig_base.specs.declared.Prot.{Prot}
use Rattle.mig_base.specs.declared.command.Errno.TheVariants.{Einval}
use Rattle.mig_base.specs.declared.command.Command.TheVariants.{Load, Store}
use Rattle.mig_base.specs.declared.command.Reply.{Reply}
use Rattle.mig_base.specs.declared.command.Reply.TheVariants.{Value, Done, Segv, BadAccess, Refused}
use Rattle.foundation.specs.Ranges.{rounded}
use Rattle.mig_base.specs.Bytes.{contents, overwrite, little_endian, low_bytes}
use Rattle.mig_base.specs.Flat.{Cell, byte_of, is_aligned, allows_load, allows_store, access_reply, number_at, munmap_reply, reply_of}
use Rattle.mig_base.proofs.ByteLemmas.{length-overwrite}
use Rattle.foundation.proofs.TestLemmas.{eqb-self, eqb-above}
use Rattle.mig_model.specs.Host.{Host, byte_in, memory, host_changed, IsSound}
use Rattle.mig_model.proofs.memory.NumberLemmas.{aligned_inside, number_at-bytes, number_at-zeros}
use Rattle.mig_model.proofs.memory.HostLemmas.{memory-none, memory-some, IsSound-put, get-put}
use Rattle.mig_model.proofs.memory.CommandLemmas.{length-contents}

-- Accesses

access_cases : (form : Bool) (cell : Option Cell) (allows : Prot → Bool) (answer reply : Reply) → form ≡ true → access_reply cell allows answer ≡ reply → cond form (access_reply cell allows answer) BadAccess ≡ reply
access_cases form cell allows answer reply right h = ap (λ b. cond b (access_reply cell allows answer) BadAccess) right ∙ h

reply_unmapped : (host : Host) (addr : ℕ) (allows : Prot → Bool) (answer : Reply) → None ≡ get host.areas (addr / 4096) → access_reply (memory host addr) allows answer ≡ Segv false
reply_unmapped host addr allows answer h = ap (λ c. access_reply c allows answer) (memory-none host addr (sym h))

reply_allowed : (host : Host) (addr : ℕ) (prot : Prot) (allows : Prot → Bool) (answer : Reply) → Some prot ≡ get host.areas (addr / 4096) → true ≡ allows prot → access_reply (memory host addr) allows answer ≡ answer
reply_allowed host addr prot allows answer h may = ap (λ c. access_reply c allows answer) (memory-some host addr prot (sym h)) ∙ ap (λ b. cond b answer (Segv true)) (sym may)

reply_forbidden : (host : Host) (addr : ℕ) (prot : Prot) (allows : Prot → Bool) (answer : Reply) → Some prot ≡ get host.areas (addr / 4096) → false ≡ allows prot → access_reply (memory host addr) allows answer ≡ Segv true
reply_forbidden host addr prot allows answer h may = ap (λ c. access_reply c allows answer) (memory-some host addr prot (sym h)) ∙ ap (λ b. cond b answer (Segv true)) (sym may)

pub load_unmapped : (host : Host) (addr width : ℕ) → true ≡ is_aligned addr width → None ≡ get host.areas (addr / 4096) → Segv false ≡ reply_of (memory host) (Load addr width)
load_unmapped host addr width form h =
    let answer = Value (number_at (memory host) addr width) in
    sym (access_cases (is_aligned addr width) (memory host addr) allows_load answer (Segv false) (sym form) (reply_unmapped host addr allows_load answer h))

pub load_value : (host : Host) (addr width value : ℕ) (prot : Prot) → true ≡ is_aligned addr width → Some prot ≡ get host.areas (addr / 4096) → true ≡ allows_load prot → value ≡ number_at (memory host) addr width → Value value ≡ reply_of (memory host) (Load addr width)
load_value host addr width value prot form h may is =
    let answer = Value (number_at (memory host) addr width) in
    ap Value is ∙ sym (access_cases (is_aligned addr width) (memory host addr) allows_load answer answer (sym form) (reply_allowed host addr prot allows_load answer h may))

pub load_forbidden : (host : Host) (addr width : ℕ) (prot : Prot) → true ≡ is_aligned addr width → Some prot ≡ get host.areas (addr / 4096) → false ≡ allows_load prot → Segv true ≡ reply_of (memory host) (Load addr width)
load_forbidden host addr width prot form h may =
    let answer = Value (number_at (memory host) addr width) in
    sym (access_cases (is_aligned addr width) (memory host addr) allows_load answer (Segv true) (sym form) (reply_forbidden host addr prot allows_load answer h may))

both : (a b : Bool) → true ≡ a → true ≡ b → (a && b) ≡ true
both a b p q = ap (λ x. x && b) (sym p) ∙ sym q

pub store_unmapped : (host : Host) (addr width value : ℕ) → true ≡ is_aligned addr width → true ≡ ltb value (256 ^ width) → None ≡ get host.areas (addr / 4096) → Segv false ≡ reply_of (memory host) (Store addr width value)
store_unmapped host addr width value form fits h =
    sym (access_cases (is_aligned addr width && ltb value (256 ^ width)) (memory host addr) allows_store Done (Segv false) (both (is_aligned addr width) (ltb value (256 ^ width)) form fits) (reply_unmapped host addr allows_store Done h))

pub store_forbidden : (host : Host) (addr width value : ℕ) (prot : Prot) → true ≡ is_aligned addr width → true ≡ ltb value (256 ^ width) → Some prot ≡ get host.areas (addr / 4096) → false ≡ allows_store prot → Segv true ≡ reply_of (memory host) (Store addr width value)
store_forbidden host addr width value prot form fits h may =
    sym (access_cases (is_aligned addr width && ltb value (256 ^ width)) (memory host addr) allows_store Done (Segv true) (both (is_aligned addr width) (ltb value (256 ^ width)) form fits) (reply_forbidden host addr prot allows_store Done h may))

pub store_done : (host : Host) (addr width value : ℕ) (prot : Prot) → true ≡ is_aligned addr width → true ≡ ltb value (256 ^ width) → Some prot ≡ get host.areas (addr / 4096) → true ≡ allows_store prot → Done ≡ reply_of (memory host) (Store addr width value)
store_done host addr width value prot form fits h may =
    sym (access_cases (is_aligned addr width && ltb value (256 ^ width)) (memory host addr) allows_store Done Done (both (is_aligned addr width) (ltb value (256 ^ width)) form fits) (reply_allowed host addr prot allows_store Done h may))

byte_of-memory : (host : Host) (addr : ℕ) → contains_key host.areas (addr / 4096) ≡ true → byte_of (memory host addr) ≡ byte_in host.bytes addr
byte_of-memory host addr has =
    elim (get host.areas (addr / 4096)) as (λ o. get host.areas (addr / 4096) ≡ o → byte_of (memory host addr) ≡ byte_in host.bytes addr) [
      | None ↦ λ e. absurd (false≢true (sym (ap is_some e) ∙ has))
      | Some prot ↦ λ e. ap byte_of (memory-some host addr prot e)
    ] refl

pub number_present : (host : Host) (addr width : ℕ) (held digits : List ℕ) → true ≡ is_aligned addr width → contains_key host.areas (addr / 4096) ≡ true → Some held ≡ get host.bytes (addr / 4096) → length digits ≡ width → ((i : ℕ) → i < width → get_or digits i 0 ≡ get_or held (addr % 4096 + i) 0) → little_endian digits ≡ number_at (memory host) addr width
number_present host addr width held digits form has found count each =
    let is = aligned_inside addr width (sym form) in
    let inside = is.inside in
    sym (subst (λ w. number_at (memory host) addr w ≡ little_endian digits) count
    (number_at-bytes (memory host) addr digits (λ i l.
    let here : (addr + i) / 4096 ≡ addr / 4096 = omega arith in
    let at : (addr + i) % 4096 ≡ addr % 4096 + i = omega arith in
    byte_of-memory host (addr + i) (ap (contains_key host.areas) here ∙ has)
    ∙ ap (λ o. get_or (unwrap_or o []) ((addr + i) % 4096) 0) (ap (get host.bytes) here ∙ sym found)
    ∙ ap (λ n. get_or held n 0) at
    ∙ sym (each i (omega arith)))))

pub number_missing : (host : Host) (addr width : ℕ) → true ≡ is_aligned addr width → contains_key host.areas (addr / 4096) ≡ true → None ≡ get host.bytes (addr / 4096) → 0 ≡ number_at (memory host) addr width
number_missing host addr width form has missing =
    let is = aligned_inside addr width (sym form) in
    let inside = is.inside in
    sym (number_at-zeros (memory host) addr width (λ i l.
    let here : (addr + i) / 4096 ≡ addr / 4096 = omega arith in
    byte_of-memory host (addr + i) (ap (contains_key host.areas) here ∙ has)
    ∙ ap (λ o. get_or (unwrap_or o []) ((addr + i) % 4096) 0) (ap (get host.bytes) here ∙ sym missing)))

-- Unmapping

first_of_three : (a b c : Bool) → a ≡ true → b ≡ false → c ≡ false → cond (not a) (Refused Einval) (cond b (Refused Einval) (cond c (Refused Einval) Done)) ≡ Done
first_of_three a b c p q r = rw (p, q, r) refl

pub munmap_done : (addr bytes : ℕ) → addr % 4096 ≡ 0 → 0 < bytes → addr + rounded bytes ≤ HIGH → Done ≡ munmap_reply addr bytes
munmap_done addr bytes whole some high =
    sym (first_of_three (eqb (addr % 4096) 0) (eqb bytes 0) (ltb HIGH (addr + rounded bytes)) (eq-eqb (addr % 4096) 0 whole) (eqb-above bytes 0 some) (le-ltb HIGH (addr + rounded bytes) high))

-- A page put

pub get-put_same : (bytes : FinMap nat_cmp (List ℕ)) (page : ℕ) (held : List ℕ) → get (insert bytes page held) page ≡ Some held
get-put_same bytes page held = get-put bytes page page held ∙ ap (λ b. cond b (Some held) (get bytes page)) (eqb-self page)

pub has_put : (bytes : FinMap nat_cmp (List ℕ)) (page : ℕ) (held : List ℕ) → contains_key (insert bytes page held) page ≡ true
has_put bytes page held = ap is_some (get-put_same bytes page held)

-- the bytes of a number, taken as a store does
pub digits_of : (bytes : List ℕ) (taken width value : ℕ) → bytes ≡ bytes_low_first 0 8 value → taken ≡ width → take taken bytes ≡ low_bytes value width
digits_of bytes taken width value is same = ap (λ n. take n bytes) same ∙ ap (take width) is

pub digits_fit : (addr width : ℕ) (digits : List ℕ) (value : ℕ) → is_aligned addr width ≡ true → digits ≡ low_bytes value width → addr % 4096 + length digits ≤ 4096
digits_fit addr width digits value form is =
    let inside = aligned_inside addr width form in
    let fits = inside.inside in
    let few = inside.few in
    let count : length (low_bytes value width) ≡ width = simp length-take (omega arith) in
    let same = ap length is in
    omega arith

-- the bytes that a load reads
pub digits_read : (held : List ℕ) (offset taken width i : ℕ) → taken ≡ width → i < width → get_or (take taken (drop offset held)) i 0 ≡ get_or held (offset + i) 0
digits_read held offset taken width i same l = get_or-take taken (drop offset held) i 0 (omega arith) ∙ get_or-drop offset held i 0

pub digits_count : (held : List ℕ) (addr taken width : ℕ) → length held ≡ 4096 → taken ≡ width → is_aligned addr width ≡ true → length (take taken (drop (addr % 4096) held)) ≡ width
digits_count held addr taken width whole same form =
    let inside = (aligned_inside addr width form).inside in
    simp (length-take, length-drop) (omega arith)

-- A page of the host written

with_bytes : (host : Host) (a b : FinMap nat_cmp (List ℕ)) → a ≡ b → record host { bytes = a } ≡ record host { bytes = b }
with_bytes host a b h = ap (λ x. record { areas = host.areas; bytes = x }) h

pub write_is : (host value : Host) (new : FinMap nat_cmp (List ℕ)) (addr width number : ℕ) (digits : List ℕ) → host ≡ value → digits ≡ low_bytes number width → new ≡ insert host.bytes (addr / 4096) (overwrite (contents host.bytes (addr / 4096)) (addr % 4096) digits) → record host { bytes = new } ≡ host_changed value (Store addr width number) Done
write_is host value new addr width number digits view same is =
    with_bytes host new (insert host.bytes (addr / 4096) (overwrite (contents host.bytes (addr / 4096)) (addr % 4096) digits)) is
    ∙ ap (λ h. record { areas = h.areas; bytes = insert h.bytes (addr / 4096) (overwrite (contents h.bytes (addr / 4096)) (addr % 4096) digits) }) view
    ∙ ap (λ ds. record { areas = value.areas; bytes = insert value.bytes (addr / 4096) (overwrite (contents value.bytes (addr / 4096)) (addr % 4096) ds) }) same

pub sound_write : (host : Host) (new : FinMap nat_cmp (List ℕ)) (addr width number : ℕ) (digits : List ℕ) → IsSound host → contains_key host.areas (addr / 4096) ≡ true → is_aligned addr width ≡ true → digits ≡ low_bytes number width → new ≡ insert host.bytes (addr / 4096) (overwrite (contents host.bytes (addr / 4096)) (addr % 4096) digits) → IsSound (record host { bytes = new })
sound_write host new addr width number digits sound mapped form same is =
    let whole = length-contents host (addr / 4096) sound in
    let fits = digits_fit addr width digits number form same in
    subst IsSound (with_bytes host (insert host.bytes (addr / 4096) (overwrite (contents host.bytes (addr / 4096)) (addr % 4096) digits)) new (sym is))
    (IsSound-put host (addr / 4096) (overwrite (contents host.bytes (addr / 4096)) (addr % 4096) digits) sound mapped
    (length-overwrite (contents host.bytes (addr / 4096)) digits (addr % 4096) (omega arith) ∙ whole))
