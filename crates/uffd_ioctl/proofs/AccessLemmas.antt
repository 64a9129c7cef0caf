-- What loads and stores answer, and how a store changes a space.
use Rattle.std.proofs.Common.{◌≡◌, ℕ, zero, suc, ◌/◌, ◌%◌, ◌^◌, ◌<◌, ◌&&◌, Bool, true, false, cond, eqb, ltb, Option, Some, None, List, Result, Ok, Err, OnOk, refl, sym, ap, ◌∙◌, subst, arith, is_some}
use Rattle.std.proofs.lemmas.Bool.{false≢true}
use Rattle.std.proofs.lemmas.Bool.Decides.{nat_tests}
use Rattle.std.specs.Ordering.{nat_cmp}
use Rattle.std.specs.FinMap.{FinMap, get, insert, contains_key}
use Rattle.std.specs.FinSet.{FinSet, contains}
use Rattle.std.specs.List.{list_all}
use Rattle.std.specs.Prelude.{replicate}
use Rattle.mig_base.specs.declared.TheConstants.{HIGH_PAGE}
use Rattle.mig_base.specs.declared.Prot.{Prot}
use Rattle.mig_base.specs.declared.command.Command.{Command}
use Rattle.mig_base.specs.declared.command.Reply.{Reply}
use Rattle.mig_base.specs.declared.command.Command.TheVariants.{Load, Store, Mmap, Munmap, Mremap, DontNeed}
use Rattle.mig_base.specs.declared.command.Reply.TheVariants.{Value, Done, Segv, BadAccess}
use Rattle.mig_base.specs.Bytes.{contents, overwrite, low_bytes, zero_page}
use Rattle.mig_base.specs.Flat.{Cell, is_aligned, allows_load, allows_store, access_reply, number_at, reply_of, after, Memory}
use Rattle.mig_model.specs.Host.{Host, memory, host_changed, IsSound}
use Rattle.mig_base.specs.Commands.{is_access, page_of}
use Rattle.mig_base.specs.Userfault.{Object}
use Rattle.mig_model.specs.Space.{Space, IsSoundSpace, is_made, called}
use Rattle.mig_model.specs.Wire.{is_zeros}
use Rattle.mig_model.proofs.memory.CommandLemmas.{memory-changed}
use Rattle.mig_model.proofs.memory.HostLemmas.{is_mapped-memory, get-put}
use Rattle.mig_model.proofs.memory.Facts.{some_either}
use Rattle.page_table.specs.Views.{Pages}
use Rattle.uffd_ioctl.specs.Spaces.{machine_space}
use Rattle.uffd_ioctl.proofs.AnswerLemmas.{sound_write, write_is}

-- A page written

pub stays_present : (bytes : FinMap nat_cmp (List ℕ)) (page q : ℕ) (held : List ℕ) → contains_key bytes q ≡ true → contains_key (insert bytes page held) q ≡ true
stays_present bytes page q held h = ap is_some (get-put bytes page q held) ∙ some_either (eqb q page) held (get bytes q) h

-- a space stays sound whose host does, if all its present pages stay so
sound_pages : (areas : FinMap nat_cmp Prot) (old new : Pages) (object : Object) (page : ℕ) (held : List ℕ) → IsSoundSpace (machine_space areas old object) → IsSound (record { areas = areas; bytes = new.bytes }) →
    new.bytes ≡ insert old.bytes page held → new.protected ≡ old.protected → IsSoundSpace (machine_space areas new object)
sound_pages areas old new object page held sound host is same =
    let was = λ (q : ℕ) (h : contains new.protected q ≡ true). sym (ap (λ s. contains s q) same) ∙ h in
    record {
      host = host;
      mapped = sound.mapped;
      present = λ q h. ap (λ b. contains_key b q) is ∙ stays_present old.bytes page q held (sound.present q (was q h));
      watched = λ q h. sound.watched q (was q h);
    }

pub sound_written : (areas : FinMap nat_cmp Prot) (old new : Pages) (object : Object) (addr width number : ℕ) (digits : List ℕ) → IsSoundSpace (machine_space areas old object) →
    contains_key areas (addr / 4096) ≡ true → is_aligned addr width ≡ true → digits ≡ low_bytes number width →
    new.bytes ≡ insert old.bytes (addr / 4096) (overwrite (contents old.bytes (addr / 4096)) (addr % 4096) digits) → new.protected ≡ old.protected → IsSoundSpace (machine_space areas new object)
sound_written areas old new object addr width number digits sound mapped form number_is is same =
    sound_pages areas old new object (addr / 4096) (overwrite (contents old.bytes (addr / 4096)) (addr % 4096) digits) sound
    (sound_write (record { areas = areas; bytes = old.bytes }) new.bytes addr width number digits sound.host mapped form number_is is) is same

-- a space whose host is another, and whose protected pages and object are the same
with_host : (host other : Host) (object : Object) (value : Space) (protected : FinSet nat_cmp) → host ≡ other → protected ≡ value.protected → object ≡ value.object →
    record { host = host; protected = protected; object = object } ≡ record value { host = other }
with_host host other object value protected is same object_is = cc

pub written_space : (areas : FinMap nat_cmp Prot) (old new : Pages) (object : Object) (value : Space) (addr width number : ℕ) (digits : List ℕ) → machine_space areas old object ≡ value → digits ≡ low_bytes number width →
    new.bytes ≡ insert old.bytes (addr / 4096) (overwrite (contents old.bytes (addr / 4096)) (addr % 4096) digits) → new.protected ≡ old.protected →
    machine_space areas new object ≡ record value { host = host_changed value.host (Store addr width number) Done }
written_space areas old new object value addr width number digits view number_is is same =
    with_host (record { areas = areas; bytes = new.bytes }) (host_changed value.host (Store addr width number) Done) object value new.protected
    (write_is (record { areas = areas; bytes = old.bytes }) value.host new.bytes addr width number digits (ap (λ s. s.host) view) number_is is)
    (same ∙ ap (λ s. s.protected) view) (ap (λ s. s.object) view)

-- A page of zeros

zeros_pass : (n : ℕ) → list_all (λ byte. eqb byte 0) (replicate n 0) ≡ true
zeros_pass zero = refl
zeros_pass (suc n) = zeros_pass n

pub all_zeros : is_zeros zero_page ≡ true
unfolding zero_page
all_zeros = zeros_pass 4096

-- An access that the flat memory would make

no_made : (reply : Reply) → is_made reply ≡ false → is_made reply ≡ true → ⊥
no_made reply none made = false≢true (sym none ∙ made)

made_some : (form : Bool) (cell : Option Cell) (allows : Prot → Bool) (answer : Reply) → is_made (cond form (access_reply cell allows answer) BadAccess) ≡ true → is_some cell ≡ true
made_some false cell allows answer h = absurd (no_made BadAccess refl h)
made_some true None allows answer h = absurd (no_made (Segv false) refl h)
made_some true (Some cell) allows answer h = refl

mapped_at : (host : Host) (addr : ℕ) → is_some (memory host addr) ≡ true → contains_key host.areas (addr / 4096) ≡ true
mapped_at host addr h = sym (ap (λ f. f addr) (is_mapped-memory host)) ∙ h

access_mapped : (host : Host) (command : Command) → is_access command ≡ true → is_made (reply_of (memory host) command) ≡ true → contains_key host.areas (page_of command) ≡ true
access_mapped host (Load addr width) access made =
    mapped_at host addr (made_some (is_aligned addr width) (memory host addr) allows_load (Value (number_at (memory host) addr width)) made)
access_mapped host (Store addr width value) access made =
    mapped_at host addr (made_some (is_aligned addr width && ltb value (256 ^ width)) (memory host addr) allows_store Done made)
access_mapped host (Mmap len prot place) access made = absurd (false≢true access)
access_mapped host (Munmap addr len) access made = absurd (false≢true access)
access_mapped host (Mremap addr old_len new_len may_move fixed) access made = absurd (false≢true access)
access_mapped host (DontNeed addr len) access made = absurd (false≢true access)

-- its page is mapped
pub made_mapped : (host : Host) (command : Command) (reply : Reply) → is_access command ≡ true → reply ≡ reply_of (memory host) command → true ≡ is_made reply → contains_key host.areas (page_of command) ≡ true
made_mapped host command reply access is made = access_mapped host command access (sym (made ∙ ap is_made is))

below_high : (host : Host) (page : ℕ) → IsSound host → contains_key host.areas page ≡ true → page < HIGH_PAGE
below_high host page sound has = grind (arith, nat_tests)

-- and lies inside the address space
pub made_below : (space : Space) (command : Command) (reply : Reply) → IsSoundSpace space → is_access command ≡ true → reply ≡ reply_of (memory space.host) command → true ≡ is_made reply → page_of command < HIGH_PAGE
made_below space command reply sound access is made = below_high space.host (page_of command) sound.host (made_mapped space.host command reply access is made)

-- The flat memory

pub memory_called : (space value new : Space) (cpu : ℕ) (command : Command) → space ≡ value → IsSoundSpace space → new ≡ called value cpu command → memory new.host ≡ after (memory value.host) command
memory_called space value new cpu command view sound made =
    ap (λ s. memory s.host) made ∙ memory-changed value.host command (reply_of (memory value.host) command) (subst IsSoundSpace view sound).host refl

pub memory_called_ok : {A E : Type 0} (r : Result A E) (space value new : Space) (cpu : ℕ) (command made : Command) → space ≡ value → IsSoundSpace space → command ≡ made → OnOk r (new ≡ called value cpu made) → OnOk r (memory new.host ≡ after (memory value.host) command)
memory_called_ok (Ok a) space value new cpu command made view sound is h = memory_called space value new cpu command view sound (h ∙ ap (called value cpu) (sym is))
memory_called_ok (Err e) space value new cpu command made view sound is h = tt

-- a store that is made is answered Done
done_cell : (allowed : Bool) → is_made (cond allowed Done (Segv true)) ≡ true → Done ≡ cond allowed Done (Segv true)
done_cell true h = refl
done_cell false h = absurd (false≢true h)

done_by : (form : Bool) (cell : Option Cell) → is_made (cond form (access_reply cell allows_store Done) BadAccess) ≡ true → Done ≡ cond form (access_reply cell allows_store Done) BadAccess
done_by false cell h = absurd (false≢true h)
done_by true None h = absurd (false≢true h)
done_by true (Some cell) h = done_cell (allows_store cell.prot) h

stored_done : (m : Memory) (addr width number : ℕ) → is_made (reply_of m (Store addr width number)) ≡ true → Done ≡ reply_of m (Store addr width number)
stored_done m addr width number h = done_by (is_aligned addr width && ltb number (256 ^ width)) (m addr) h

pub memory_stored : (space value new : Space) (addr width number : ℕ) (command : Command) (reply : Reply) → space ≡ value → IsSoundSpace space → command ≡ Store addr width number → reply ≡ reply_of (memory value.host) command → is_made reply ≡ true
    → new ≡ record value { host = host_changed value.host (Store addr width number) Done } → memory new.host ≡ after (memory value.host) command
memory_stored space value new addr width number command reply view sound store is made_it made =
    let here : is_made (reply_of (memory value.host) (Store addr width number)) ≡ true = ap (λ c. is_made (reply_of (memory value.host) c)) (sym store) ∙ ap is_made (sym is) ∙ made_it in
    ap (λ s. memory s.host) made
    ∙ ap (λ r. memory (host_changed value.host (Store addr width number) r)) (stored_done (memory value.host) addr width number here)
    ∙ memory-changed value.host (Store addr width number) (reply_of (memory value.host) (Store addr width number)) (subst IsSoundSpace view sound).host refl
    ∙ ap (after (memory value.host)) (sym store)
