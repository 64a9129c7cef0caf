-- The memory of a host, and how the changes of its maps change it.
use Rattle.std.proofs.Common.{◌≡◌, ℕ, ◌+◌, ◌-◌, ◌*◌, ◌/◌, ◌%◌, ◌^◌, ◌<◌, ◌≤◌, Bool, true, cond, eqb, ltb, Option, Some, None, List, [], refl, sym, ap, ◌∙◌, arith, length, get_or, unwrap_or}
use Rattle.std.specs.Option.{option_map}
use Rattle.std.specs.Ordering.{nat_cmp}
use Rattle.std.specs.Cmp.{nat_cmp_total, unsigned_tied}
use Rattle.std.specs.FinMap.{FinMap, get, insert, empty, len, contains_key, get-insert, get-empty}
use Rattle.std.proofs.lemmas.Bool.Decides.{nat_tests}
use Rattle.std.proofs.lemmas.Bool.{eq-eqb}
use Rattle.std.proofs.lemmas.Option.{none-some}
use Rattle.mig_base.specs.declared.TheConstants.{HIGH, HIGH_PAGE}
use Rattle.mig_base.specs.declared.Prot.{Prot}
use Rattle.foundation.specs.Ranges.{in_range, count_below}
use Rattle.mig_base.specs.Pages.{set_range, remove_range}
use Rattle.mig_base.specs.Bytes.{page_at, overwrite}
use Rattle.mig_base.specs.Flat.{Memory, Cell, no_memory, is_mapped, mapped_count, fill, clear, zeroed, moved, grown, write}
use Rattle.foundation.proofs.RangeLemmas.{count_below-blocks, in_range_tells}
use Rattle.mig_base.proofs.PageLemmas.{get-set_range, get-remove_range, get-moved_range, count_below-contains_key}
use Rattle.mig_base.proofs.ByteLemmas.{get_or-overwrite_below, get_or-overwrite_in, get_or-overwrite_above}
use Rattle.mig_model.specs.Host.{Host, byte_in, memory, host_moved, host_dropped, IsSound}
use Rattle.mig_model.proofs.memory.Facts.{in_range_first, eqb_other}

-- two memories that hold the same at each address are one
pub same_memory : (a b : Memory) → ((addr : ℕ) → a addr ≡ b addr) → a ≡ b
same_memory a b h = λ i addr. h addr i

abbrev pub cell_at : FinMap nat_cmp (List ℕ) → ℕ → Option Prot → Option Cell
cell_at bytes addr o = option_map (λ prot. record { byte = byte_in bytes addr; prot = prot }) o

pub memory-at : (host : Host) (addr : ℕ) → memory host addr ≡ cell_at host.bytes addr (get host.areas (addr / 4096))
unfolding memory
memory-at host addr = refl

pub memory-none : (host : Host) (addr : ℕ) → get host.areas (addr / 4096) ≡ None → memory host addr ≡ None
memory-none host addr h = memory-at host addr ∙ ap (cell_at host.bytes addr) h

pub memory-some : (host : Host) (addr : ℕ) (prot : Prot) → get host.areas (addr / 4096) ≡ Some prot → memory host addr ≡ Some (record { byte = byte_in host.bytes addr; prot = prot })
memory-some host addr prot h = memory-at host addr ∙ ap (cell_at host.bytes addr) h

-- nothing is mapped
pub memory-empty : memory (record { areas = empty; bytes = empty }) ≡ no_memory
memory-empty = same_memory (memory (record { areas = empty; bytes = empty })) no_memory (λ addr. memory-none (record { areas = empty; bytes = empty }) addr (get-empty nat_cmp (addr / 4096)))

pub IsSound-empty : IsSound (record { areas = empty; bytes = empty })
IsSound-empty =
    record {
      bound = λ page l. get-empty nat_cmp page;
      mapped = λ page h. get-empty nat_cmp page;
      whole = λ page bytes h. absurd (none-some bytes (sym (get-empty nat_cmp page) ∙ h));
    }

pub is_mapped-memory : (host : Host) → is_mapped (memory host) ≡ (λ addr. contains_key host.areas (addr / 4096))
is_mapped-memory host = grind (arith, nat_tests, memory-at)

-- each mapped page is 4096 mapped addresses
pub mapped_count-memory : (host : Host) → IsSound host → mapped_count (memory host) ≡ 4096 * len host.areas
mapped_count-memory host sound =
    ap (λ test. count_below test HIGH) (is_mapped-memory host)
    ∙ count_below-blocks 4096 (λ addr. contains_key host.areas (addr / 4096)) (λ page. contains_key host.areas page) HIGH_PAGE (λ k i l. ap (λ page. contains_key host.areas page) (omega arith))
    ∙ ap (λ n. 4096 * n) (count_below-contains_key HIGH_PAGE host.areas sound.bound)

-- A page put in

pub get-put : (bytes : FinMap nat_cmp (List ℕ)) (page q : ℕ) (held : List ℕ) → get (insert bytes page held) q ≡ cond (eqb q page) (Some held) (get bytes q)
get-put bytes page q held = get-insert nat_cmp_total bytes page held q ∙ ap (λ b. cond b (Some held) (get bytes q)) (unsigned_tied q page)

pub IsSound-put : (host : Host) (page : ℕ) (held : List ℕ) → IsSound host → contains_key host.areas page ≡ true → length held ≡ 4096 → IsSound (record host { bytes = insert host.bytes page held })
IsSound-put host page held sound has n = grind (arith, nat_tests, get-put)

-- A write

-- the digits of a number
pub record AreDigits (digits : List ℕ) (width value : ℕ) : Type 0 where
  pub count : length digits ≡ width
  pub each : (i : ℕ) → i < width → get_or digits i 0 ≡ value / 256 ^ i % 256

-- a page reads as the other, whether that is present or not
abbrev pub ReadsAs : List ℕ → List ℕ → Type 0
ReadsAs held other = (i : ℕ) → get_or held i 0 ≡ get_or other i 0

pub memory-write : (host : Host) (addr width value : ℕ) (held digits : List ℕ) → ReadsAs held (page_at host.bytes (addr / 4096)) → length held ≡ 4096 → AreDigits digits width value → addr % 4096 + width ≤ 4096 → memory (record host { bytes = insert host.bytes (addr / 4096) (overwrite held (addr % 4096) digits) }) ≡ write (memory host) addr width value
memory-write host addr width value held digits same n are inside = grind (arith, nat_tests, memory-at, get_or-overwrite_in, get_or-overwrite_below, get_or-overwrite_above, in_range_tells, get-put, eq-eqb, eqb_other)

-- Ranges of pages

in_range-pages : (first count q : ℕ) → in_range first count (q / 4096) ≡ in_range (first * 4096) (4096 * count) q
in_range-pages first count q = grind (arith, nat_tests)

byte_in-remove : (bytes : FinMap nat_cmp (List ℕ)) (first count addr : ℕ) → byte_in (remove_range bytes first count) addr ≡ cond (in_range first count (addr / 4096)) 0 (byte_in bytes addr)
byte_in-remove bytes first count addr = grind (arith, nat_tests, get-remove_range)

abbrev with_byte : ℕ → Option Prot → Option Cell
with_byte byte o = option_map (λ prot. record { byte = byte; prot = prot }) o

pub memory-map : (host : Host) (first count : ℕ) (prot : Prot) → memory (record { areas = set_range host.areas first count prot; bytes = remove_range host.bytes first count }) ≡ fill (memory host) (first * 4096) (4096 * count) (record { byte = 0; prot = prot })
memory-map host first count prot = grind (arith, nat_tests, memory-at, get-set_range, with_byte, byte_in-remove, in_range-pages)

pub some_kept : (b : Bool) (bytes : List ℕ) (p : Option (List ℕ)) → cond b None p ≡ Some bytes → p ≡ Some bytes
some_kept b bytes p h = grind (arith, nat_tests)

pub IsSound-map : (host : Host) (first count : ℕ) (prot : Prot) → IsSound host → first + count ≤ HIGH_PAGE → IsSound (record { areas = set_range host.areas first count prot; bytes = remove_range host.bytes first count })
IsSound-map host first count prot sound high = grind (arith, nat_tests, get-set_range, get-remove_range)

pub memory-unmap : (host : Host) (first count : ℕ) → memory (record { areas = remove_range host.areas first count; bytes = remove_range host.bytes first count }) ≡ clear (memory host) (first * 4096) (4096 * count)
memory-unmap host first count = grind (arith, nat_tests, memory-at, get-remove_range, in_range-pages)

pub IsSound-unmap : (host : Host) (first count : ℕ) → IsSound host → IsSound (record { areas = remove_range host.areas first count; bytes = remove_range host.bytes first count })
IsSound-unmap host first count sound = grind (arith, nat_tests, get-remove_range)

-- Pages made missing

pub memory-dropped : (host : Host) (first count : ℕ) → memory (host_dropped host first count) ≡ zeroed (memory host) (first * 4096) (4096 * count)
memory-dropped host first count = grind (arith, nat_tests, memory-at, byte_in-remove, cell_at, in_range-pages)

pub IsSound-dropped : (host : Host) (first count : ℕ) → IsSound host → IsSound (host_dropped host first count)
IsSound-dropped host first count sound = grind (arith, nat_tests, get-remove_range)

-- Pages moved

-- a cell from what a page has
abbrev cell_of : Option (List ℕ) → ℕ → Option Prot → Option Cell
cell_of held offset o = with_byte (get_or (unwrap_or held []) offset 0) o

abbrev zero_cell : Option Prot → Option Cell
zero_cell o = with_byte 0 o

chosen_cell : (new old from : Bool) (area growth here : Option Prot) (held own : Option (List ℕ)) (offset : ℕ) →
    cell_of (cond new (cond old held None) (cond from None own)) offset (cond new (cond old area growth) (cond from None here))
    ≡ cond new (cond old (cell_of held offset area) (zero_cell growth)) (cond from None (cell_of own offset here))
chosen_cell new old from area growth here held own offset = grind (arith, nat_tests)

shorter_pages : (to count q : ℕ) → ltb (q / 4096 - to) count ≡ ltb (q - to * 4096) (4096 * count)
shorter_pages to count q = grind (arith, nat_tests)

grown_cell : (host : Host) (from : ℕ) → zero_cell (get host.areas from) ≡ grown (memory host (from * 4096))
grown_cell host from = grind (arith, nat_tests, memory-at)

carried_cell : (host : Host) (from to q : ℕ) → to ≤ q / 4096 → cell_of (get host.bytes (from + (q / 4096 - to))) (q % 4096) (get host.areas (from + (q / 4096 - to))) ≡ memory host (from * 4096 + (q - to * 4096))
carried_cell host from to q l = grind (arith, nat_tests, memory-at)

taken_cell : (new old : Bool) (a b growth rest : Option Cell) → (new ≡ true → a ≡ b) → cond new (cond old a growth) rest ≡ cond new (cond old b growth) rest
taken_cell new old a b growth rest h = grind (arith, nat_tests)

pub memory-moved : (host : Host) (from count to new_count : ℕ) → memory (host_moved host from count to new_count) ≡ moved (memory host) (from * 4096) (4096 * count) (to * 4096) (4096 * new_count)
memory-moved host from count to new_count =
    let new = host_moved host from count to new_count in
    same_memory (memory new) (moved (memory host) (from * 4096) (4096 * count) (to * 4096) (4096 * new_count)) (λ q.
    let page = q / 4096 in
    let inside = in_range to new_count page in
    let carried = ltb (page - to) count in
    let gone = in_range from count page in
    memory-at new q
    ∙ ap (λ o. cell_of (get new.bytes page) (q % 4096) o) (get-moved_range host.areas from count to new_count page (get host.areas from))
    ∙ ap (λ o. cell_of o (q % 4096) (cond inside (cond carried (get host.areas (from + (page - to))) (get host.areas from)) (cond gone None (get host.areas page)))) (get-moved_range host.bytes from count to new_count page None)
    ∙ chosen_cell inside carried gone (get host.areas (from + (page - to))) (get host.areas from) (get host.areas page) (get host.bytes (from + (page - to))) (get host.bytes page) (q % 4096)
    ∙ taken_cell inside carried (cell_of (get host.bytes (from + (page - to))) (q % 4096) (get host.areas (from + (page - to)))) (memory host (from * 4096 + (q - to * 4096))) (zero_cell (get host.areas from)) (cond gone None (cell_at host.bytes q (get host.areas page)))
    (λ e. carried_cell host from to q (in_range_first to new_count page e).0)
    ∙ ap (λ c. cond inside (cond carried (memory host (from * 4096 + (q - to * 4096))) c) (cond gone None (cell_at host.bytes q (get host.areas page)))) (grown_cell host from)
    ∙ ap (λ c. cond inside (cond carried (memory host (from * 4096 + (q - to * 4096))) (grown (memory host (from * 4096)))) (cond gone None c)) (sym (memory-at host q))
    ∙ ap (λ b. cond b (cond carried (memory host (from * 4096 + (q - to * 4096))) (grown (memory host (from * 4096)))) (cond gone None (memory host q))) (in_range-pages to new_count q)
    ∙ ap (λ b. cond (in_range (to * 4096) (4096 * new_count) q) (cond b (memory host (from * 4096 + (q - to * 4096))) (grown (memory host (from * 4096)))) (cond gone None (memory host q))) (shorter_pages to count q)
    ∙ ap (λ b. cond (in_range (to * 4096) (4096 * new_count) q) (cond (ltb (q - to * 4096) (4096 * count)) (memory host (from * 4096 + (q - to * 4096))) (grown (memory host (from * 4096)))) (cond b None (memory host q))) (in_range-pages from count q))

pub IsSound-moved : (host : Host) (from count to new_count : ℕ) → IsSound host → to + new_count ≤ HIGH_PAGE → IsSound (host_moved host from count to new_count)
IsSound-moved host from count to new_count sound high = grind (arith, nat_tests, get-moved_range)
