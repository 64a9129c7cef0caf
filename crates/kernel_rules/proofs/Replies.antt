-- Replies of a kernel, once their tests are known.
use Rattle.std.proofs.Common.{◌≡◌, ◌∙◌, ℕ, Bool, true, false, List, [], ◌∷◌, ◌++◌, Option, Some, None, refl, ap}
use Rattle.std.proofs.lemmas.Bool.{eq-eqb, ne_eqb}
use Rattle.std.specs.Prelude.{◌/◌, ◌==◌, ◌&&◌, is_some, not, filter, filter_map}
use Rattle.foundation.specs.declared.TheConstants.{PAGE_SIZE}
use Rattle.foundation.specs.Bits.{is_one}
use Rattle.uffd_log.specs.declared.call.Descriptor.{Descriptor}
use Rattle.uffd_log.specs.declared.line.Answer.{Answer}
use Rattle.uffd_log.specs.declared.line.Answer.TheVariants.{Opened, Done}
use Rattle.kernel_rules.specs.declared.difference.Difference.TheVariants as differs
use Rattle.kernel_rules.specs.declared.fault.Fault.{Fault}
use Rattle.kernel_rules.specs.declared.filling.Filling.{Filling}
use Rattle.kernel_rules.specs.Tests.{passes}
use Rattle.kernel_rules.specs.declared.known.Page.{Page}
use Rattle.kernel_rules.specs.declared.object.Object.{Object}
use Rattle.kernel_rules.specs.declared.object.Registration.{Registration}
use Rattle.kernel_rules.specs.declared.kernel_table.KernelTable.{KernelTable}
use Rattle.kernel_rules.specs.Faults.{faults_over, left_unanswered, sleeps_in, sleeps_at, woken}
use Rattle.kernel_rules.specs.Held.{kernel_of}
use Rattle.kernel_rules.specs.Ioctls.{bytes_or_none, closed, end_ranges, is_changing, is_part, is_right, is_watching, kept_pages, filled, filled_in_part, opened, pages_set, protected_in, protects_missing, put_halted, refused_while_changing, unregistered, unregistered_in, without_object_of, without_protected}
use Rattle.kernel_rules.specs.Pages.{protected_page}
use Rattle.kernel_rules.specs.State.{Kernel, allowed, each_page, is_enabled, is_range, is_within, noted_if, pages_changed, with_object}

pub opened_is : (kernel after : Kernel) (space program flags : ℕ) (answer : Answer) (on : Descriptor) (bit : Bool) → answer ≡ Opened on → is_some (kernel.objects on.object) ≡ false → is_within flags 0x80801 ≡ true → bit ≡ is_one flags 11
    → after ≡ with_object kernel on.object (record { space = space; program = program; waits = not bit; features = None; puts = false }) → opened kernel space program flags answer ≡ Some after
opened_is kernel after space program flags answer on bit is fresh known bit_is after_is = rw (is, fresh, known, after_is, bit_is) refl

pub unregistered_is : (kernel mid after : Kernel) (name : ℕ) (object : Object) (start len : ℕ) (answer : Answer) → answer ≡ Done → is_enabled object ≡ true → is_range start len ≡ true
    → mid ≡ unregistered_in kernel name object (start / PAGE_SIZE) (len / PAGE_SIZE) → after ≡ woken mid (sleeps_in name (start / PAGE_SIZE) (len / PAGE_SIZE)) false
    → unregistered kernel name object start len answer ≡ Some after
unregistered_is kernel mid after name object start len answer is enabled right mid_is after_is = rw (is, enabled, right, after_is, mid_is) refl

-- the last descriptor of an object is closed
pub closed_is : (kernel noted ended left : Kernel) (name : ℕ) (object : Object) (watching : Bool) (ranges : List Registration) → watching ≡ is_watching kernel name object → ranges ≡ kernel.ranges
    → noted ≡ noted_if watching differs.Close kernel → ended ≡ end_ranges noted name object ranges → left ≡ without_object_of ended name
    → woken left (sleeps_at name) false ≡ closed kernel name object
closed_is kernel noted ended left name object watching ranges watching_is ranges_is noted_is ended_is left_is = rw (left_is, ended_is, noted_is, watching_is, ranges_is) refl

-- a range is protected
pub protected_kept : (kernel mid put dropped after : Kernel) (key name : ℕ) (object : Object) (first count bits : ℕ) (each bit missing : Bool) (kept : List (ℕ × Option Page))
    → each ≡ each_page kernel object.space first count (λ page. page.protect) → bit ≡ is_one bits 0 → missing ≡ protects_missing object → kept ≡ kept_pages kernel key object.space kernel.protected
    → mid ≡ pages_changed kernel object.space first count (protected_page bit missing) → put ≡ pages_set mid object.space kept → dropped ≡ without_protected put key
    → after ≡ noted_if (not each) differs.WriteProtectOverAHole dropped → (bits ≡ 0 → ⊥) → after ≡ protected_in kernel key name object first count bits
protected_kept kernel mid put dropped after key name object first count bits each bit missing kept each_is bit_is missing_is kept_is mid_is put_is dropped_is after_is some =
    rw (after_is, dropped_is, put_is, mid_is, kept_is, each_is, bit_is, missing_is, ne_eqb bits 0 some) refl

-- a range is no longer protected
pub protected_woken : (kernel mid put dropped after : Kernel) (key name : ℕ) (object : Object) (first count bits : ℕ) (each bit missing : Bool) (kept : List (ℕ × Option Page))
    → each ≡ each_page kernel object.space first count (λ page. page.protect) → bit ≡ is_one bits 0 → missing ≡ protects_missing object → kept ≡ kept_pages kernel key object.space kernel.protected
    → mid ≡ pages_changed kernel object.space first count (protected_page bit missing) → put ≡ pages_set mid object.space kept → dropped ≡ without_protected put key
    → after ≡ noted_if (not each) differs.WriteProtectOverAHole dropped → bits ≡ 0 → woken after (sleeps_in name first count) true ≡ protected_in kernel key name object first count bits
protected_woken kernel mid put dropped after key name object first count bits each bit missing kept each_is bit_is missing_is kept_is mid_is put_is dropped_is after_is zero =
    rw (after_is, dropped_is, put_is, mid_is, kept_is, each_is, bit_is, missing_is, eq-eqb bits 0 zero) refl

-- a call that puts pages has put a part of them, or none
pub part_halted : (kernel : Kernel) (key name : ℕ) (object : Object) (start len : ℕ) (how : Filling) (bytes : Option ℕ) (done : ℕ) → (is_part len bytes && is_right object start len how.bits how.most) ≡ true
    → done ≡ bytes_or_none bytes
    → put_halted kernel key name object start len how bytes ≡ filled_in_part kernel key name object (start / PAGE_SIZE) (done / PAGE_SIZE) how
part_halted kernel key name object start len how bytes done part is = rw (part, is) refl

pub none_halted : (kernel : Kernel) (key name : ℕ) (object : Object) (start len : ℕ) (how : Filling) (bytes : Option ℕ) → (is_part len bytes && is_right object start len how.bits how.most) ≡ false
    → put_halted kernel key name object start len how bytes ≡ refused_while_changing kernel name
none_halted kernel key name object start len how bytes fails = rw fails refl

-- all pages of a call are put
pub all_put : (kernel after : Kernel) (name : ℕ) (object : Object) (start len : ℕ) (how : Filling) (bytes : ℕ) → bytes ≡ len → is_right object start len how.bits how.most ≡ true → is_changing kernel name ≡ false
    → each_page kernel object.space (start / PAGE_SIZE) (len / PAGE_SIZE) (passes how.test) ≡ true
    → after ≡ filled kernel name object (start / PAGE_SIZE) (len / PAGE_SIZE) how
    → allowed
    (bytes == len && is_right object start len how.bits how.most && not (is_changing kernel name) && each_page kernel object.space (start / PAGE_SIZE) (len / PAGE_SIZE) (passes how.test))
    (filled kernel name object (start / PAGE_SIZE) (len / PAGE_SIZE) how) ≡ Some after
all_put kernel after name object start len how bytes whole right calm may is = rw (eq-eqb bytes len whole, right, calm, may, is) refl

-- no fault is left
pub none_left : (faults : List Fault) → [] ≡ filter (λ (fault : Fault). not true) faults
none_left [] = refl
none_left (fault ∷ faults) = none_left faults

-- no thread waits
pub all_over : (old new : KernelTable) → new ≡ record old { faults = new.faults; unanswered = new.unanswered } → new.faults.items ≡ []
    → new.unanswered.items ≡ old.unanswered.items ++ filter_map (left_unanswered (λ (fault : Fault). true)) old.faults.items → kernel_of new ≡ faults_over (kernel_of old) (λ (fault : Fault). true) false
unfolding kernel_of
all_over old new same cleared noted =
    ap kernel_of same ∙ ap (λ fs. record (kernel_of old) { faults = fs; unanswered = new.unanswered.items }) (cleared ∙ none_left old.faults.items)
    ∙ ap (λ us. record (kernel_of old) { faults = filter (λ (fault : Fault). not true) old.faults.items; unanswered = us }) noted
