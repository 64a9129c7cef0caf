-- A host needs memory only for a store to a page that reads as zeros, and for a mapping that changes.
use Rattle.std.proofs.Common.{◌≡◌, ℕ, zero, suc, ◌+◌, ◌*◌, ◌/◌, ◌%◌, ◌&&◌, not, eqb, Bool, true, Option, Some, None, List, [], ◌∷◌, get_or, unwrap_or, refl, sym, ap, ◌∙◌, subst, arith}
use Rattle.std.specs.List.{list_all}
use Rattle.std.specs.Option.{option_map}
use Rattle.std.specs.FinMap.{get}
use Rattle.std.proofs.lemmas.Bool.{false≢true, and_from, and_parts}
use Rattle.mig_base.specs.declared.Prot.{Prot}
use Rattle.mig_base.specs.declared.command.Command.{Command}
use Rattle.mig_base.specs.declared.command.Command.TheVariants.{Load, Store, Mmap, Munmap, Mremap, DontNeed}
use Rattle.mig_base.specs.Bytes.{page_at}
use Rattle.mig_base.specs.Flat.{Memory, reply_of}
use Rattle.foundation.proofs.RangeLemmas.{none_below-from}
use Rattle.mig_model.specs.Host.{Host, byte_in, memory}
use Rattle.mig_model.specs.Space.{is_made}
use Rattle.page_table.specs.Bytes.{Page, is_zeros, write_needs_room}
use Rattle.uffd_ioctl.specs.Spaces.{store_needs_room}
use Rattle.hosts.specs.Spaces.{host_needs_room}
use Rattle.report.specs.Checks.{is_zero, is_page_of_zeros, may_need_room}

byte_zero : (bytes : List ℕ) (k : ℕ) → list_all (λ byte. eqb byte 0) bytes ≡ true → eqb (get_or bytes k 0) 0 ≡ true
byte_zero [] k h = refl
byte_zero (byte ∷ bytes) zero h = (and_parts (eqb byte 0) (list_all (λ x. eqb x 0) bytes) h).0
byte_zero (byte ∷ bytes) (suc k) h = byte_zero bytes k (and_parts (eqb byte 0) (list_all (λ x. eqb x 0) bytes) h).1

page_zero : (page : Page) (bytes : List ℕ) (k : ℕ) → write_needs_room page bytes ≡ true → eqb (get_or (unwrap_or page []) k 0) 0 ≡ true
page_zero None bytes k h = refl
page_zero (Some held) bytes k h = byte_zero held k (and_parts (is_zeros held) (not (is_zeros bytes)) h).0

cell_zero : (prot : Option Prot) (byte : ℕ) → eqb byte 0 ≡ true → is_zero (option_map (λ p. record { byte = byte; prot = p }) prot) ≡ true
cell_zero None byte h = refl
cell_zero (Some prot) byte h = h

zeros_there : (host : Host) (page : ℕ) (bytes : List ℕ) → write_needs_room (get host.bytes page) bytes ≡ true → is_page_of_zeros (memory host) page ≡ true
unfolding memory
zeros_there host page bytes h =
    none_below-from (λ i. not (is_zero (memory host (4096 * page + i)))) 4096
    (λ i below.
    let here : (4096 * page + i) / 4096 ≡ page = omega arith in
    let zero_byte : eqb (byte_in host.bytes (4096 * page + i)) 0 ≡ true = subst (λ p. eqb (get_or (page_at host.bytes p) ((4096 * page + i) % 4096) 0) 0 ≡ true) (sym here) (page_zero (get host.bytes page) bytes ((4096 * page + i) % 4096) h) in
    ap not (cell_zero (get host.areas ((4096 * page + i) / 4096)) (byte_in host.bytes (4096 * page + i)) zero_byte))

own_memory : (host : Host) (command : Command) → host_needs_room host command ≡ true → may_need_room (memory host) command ≡ true
own_memory host (Load addr width) h = absurd (false≢true h)
own_memory host (Store addr width value) h =
    let parts = and_parts (is_made (reply_of (memory host) (Store addr width value))) (store_needs_room host (Store addr width value)) h in
    and_from (is_made (reply_of (memory host) (Store addr width value))) (is_page_of_zeros (memory host) (addr / 4096)) parts.0 (zeros_there host (addr / 4096) _ parts.1)
own_memory host (Mmap len prot place) h = h
own_memory host (Munmap addr len) h = h
own_memory host (Mremap addr old_len new_len may_move fixed) h = h
own_memory host (DontNeed addr len) h = absurd (false≢true h)

pub memory_needs : (host : Host) (memory_is : Memory) (command : Command) → memory host ≡ memory_is → host_needs_room host command ≡ true → may_need_room memory_is command ≡ true
memory_needs host memory_is command same h = sym (ap (λ m. may_need_room m command) same) ∙ own_memory host command h
