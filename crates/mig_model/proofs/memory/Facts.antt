-- Small facts on tests, options, numbers and lists, each in one place.
use Rattle.std.proofs.Common.{◌≡◌, ℕ, ◌+◌, ◌*◌, ◌/◌, ◌%◌, ◌^◌, ◌-◌, min, ◌<◌, ◌≤◌, ◌||◌, Bool, true, false, cond, not, eqb, ltb, if◌then◌else◌, Option, Some, is_some, List, [], ◌∷◌, ◌++◌, length, refl, sym, ap, ◌∙◌, arith}
use Rattle.std.proofs.lemmas.Bool.Decides.{nat_tests}
use Rattle.std.proofs.lemmas.Bool.{false≢true, and_parts, eqb-true}
use Rattle.std.specs.Prelude.{replicate}
use Rattle.std.proofs.Common.{append-nil}
use Rattle.std.proofs.lemmas.List.{append_assoc}
use Rattle.std.specs.List.{list_all}
use Rattle.std.specs.Ordering.{nat_cmp}
use Rattle.std.specs.FinMap.{FinMap, insert}
use Rattle.std.specs.FinSet.{contains, contains-empty, contains-retain, nat_cmp-IsAntisymmetric}
pub use Rattle.std.proofs.lemmas.Option.{same_Some as some_command, same_Some as some_is}
pub use Rattle.std.proofs.lemmas.Bool.{ne_eqb as eqb_other}
use Rattle.mig_base.proofs.SetLemmas.{member_below}
use Rattle.mig_base.specs.declared.TheConstants.{HIGH_PAGE}
use Rattle.mig_model.specs.Wire.Frame.{Page, Zero}
use Rattle.mig_base.specs.declared.command.Command.{Command}
use Rattle.mig_base.specs.declared.command.Reply.{Reply}
use Rattle.mig_base.specs.declared.effect.Effect.{Effect}
use Rattle.mig_base.specs.declared.message.Message.{Message}
use Rattle.foundation.specs.Ranges.{lesser}
use Rattle.mig_base.specs.Bytes.{zero_page}
pub use Rattle.foundation.proofs.RangeLemmas.{in_range_bounds as in_range_first, in_range-one as only_one}
pub use Rattle.foundation.proofs.TestLemmas.{and_second, and_first as and_left, eqb-self, same_or_other, and_false, and_true, or_assoc, missing_none, below_or_at, cond_none as none_or}
use Rattle.mig_base.specs.Userfault.{Noted, Object, event_queued}
use Rattle.mig_model.specs.Space.{all_queued, modes_after}
use Rattle.mig_model.specs.Cpus.{call_took, entries_of}
use Rattle.mig_model.specs.Guest.{counted, is_present}
use Rattle.mig_model.specs.Wire.{Copy, Frame, Sent, Wire, copies_in, kept_after}
use Rattle.mig_model.specs.Log.{no_pages, present}
use Rattle.mig_model.specs.Owed.{owed_after, settled_by}
use Rattle.mig_model.specs.Source.{Source, not_clean, space_of}
use Rattle.mig_model.specs.Whereabouts.{AreFaithful, copies_of}
use Rattle.mig_model.specs.Invariant.{AreOf, AreWhole}
use Rattle.mig_model.specs.Parts.{Grows}

pub none_absurd : {A : Type 0} → false ≡ true → A
none_absurd h = absurd (false≢true h)

pub not_up : true ≡ false → ⊥
not_up h = false≢true (sym h)

pub no_page : {A : Type 0} (page : ℕ) → contains no_pages page ≡ true → A
no_page page h = absurd (false≢true (sym (contains-empty nat_cmp page) ∙ h))

pub low_or : {page : ℕ} → (HIGH_PAGE ≤ page → ⊥) → page < HIGH_PAGE
low_or h = grind (arith, nat_tests)

pub queued_missing : (object : Object) (messages : List Message) (cpu : ℕ) → (all_queued object messages cpu).missing ≡ object.missing
queued_missing object [] cpu = refl
queued_missing object (message ∷ messages) cpu = queued_missing (event_queued object message cpu) messages cpu

pub queued_protect : (object : Object) (messages : List Message) (cpu : ℕ) → (all_queued object messages cpu).protect ≡ object.protect
queued_protect object [] cpu = refl
queued_protect object (message ∷ messages) cpu = queued_protect (event_queued object message cpu) messages cpu

pub lesser_right : (a b : ℕ) → lesser a b ≤ b
lesser_right a b = grind (arith, nat_tests)

pub put_whole : (here : Bool) (put held : List ℕ) (o : Option (List ℕ)) → length put ≡ 4096 → (o ≡ Some held → length held ≡ 4096) → cond here (Some put) o ≡ Some held → length held ≡ 4096
put_whole here put held o n rest h = grind (arith, nat_tests)

pub up_not_down : {A : Type 0} (up : Bool) → up ≡ true → up ≡ false → A
up_not_down up h k = none_absurd (sym k ∙ h)

pub whole_page : (addr n : ℕ) → addr % 4096 ≡ 0 → (addr + 4096 * n) % 4096 ≡ 0
whole_page addr n h = omega arith

pub lesser_left : (a b : ℕ) → lesser a b ≤ a
lesser_left a b = grind (arith, nat_tests)

pub either : {A : Type 0} (a b : Bool) → (a || b) ≡ true → (a ≡ true → A) → (b ≡ true → A) → A
either a b h one two = grind (arith, nat_tests)

pub all_zero : (bytes : List ℕ) → list_all (λ byte. eqb byte 0) bytes ≡ true → bytes ≡ replicate (length bytes) 0
all_zero [] h = refl
all_zero (byte ∷ bytes) h =
    let tests = and_parts (eqb byte 0) (list_all (λ x. eqb x 0) bytes) h in
    ap (λ x. x ∷ bytes) (eqb-true byte 0 tests.0) ∙ ap (λ xs. 0 ∷ xs) (all_zero bytes tests.1)

pub zero_bytes : (bytes : List ℕ) → length bytes ≡ 4096 → list_all (λ byte. eqb byte 0) bytes ≡ true → bytes ≡ zero_page
unfolding zero_page
zero_bytes bytes n h = all_zero bytes h ∙ ap (λ k. replicate {A = ℕ} k 0) n

pub kept_page : (b : Bool) (kept : FinMap nat_cmp (List ℕ)) (page : ℕ) (bytes : List ℕ) → (b ≡ true → bytes ≡ zero_page) → kept_after kept (if b then Zero page else Page page bytes) ≡ insert kept page bytes
kept_page b kept page bytes h = grind (arith, nat_tests)

pub dropped_not : (a c d : ℕ) → Effect.Dropped a ≡ Effect.Installed c d → ⊥
dropped_not a c d h = cc

pub as_it_was : (wire : Wire) → Grows wire wire
as_it_was wire = record { more = []; is = ap (λ f. record wire { frames = f }) (sym (append-nil wire.frames)) }

pub copies_of-append : (a b : List Sent) → copies_of (a ++ b) ≡ copies_of a ++ copies_of b
copies_of-append [] b = refl
copies_of-append (sent ∷ a) b = ap (λ copies. copies_in sent.frame ++ copies) (copies_of-append a b) ∙ sym (append_assoc (copies_in sent.frame) (copies_of a) (copies_of b))

pub AreWhole-append : (a b : List Copy) → AreWhole a → AreWhole b → AreWhole (a ++ b)
AreWhole-append [] b x y = y
AreWhole-append (copy ∷ a) b x y = (x.0, AreWhole-append a b x.1 y)

pub AreFaithful-append : (bytes : FinMap nat_cmp (List ℕ)) (a b : List Copy) → AreFaithful bytes a → AreFaithful bytes b → AreFaithful bytes (a ++ b)
AreFaithful-append bytes [] b x y = y
AreFaithful-append bytes (copy ∷ a) b x y = (x.0, AreFaithful-append bytes a b x.1 y)

pub AreOf-one : (epoch : ℕ) (wire : List Sent) (frame : Frame) → AreOf epoch wire → AreOf epoch (wire ++ record { epoch = epoch; frame = frame } ∷ [])
AreOf-one epoch [] frame h = (refl, tt)
AreOf-one epoch (sent ∷ wire) frame h = (h.0, AreOf-one epoch wire frame h.1)

pub settled-push : (events : List Noted) (noted : Noted) (owed : ℕ → Option ℕ) → settled_by (events ++ noted ∷ []) owed ≡ owed_after noted.message (settled_by events owed)
settled-push [] noted owed = refl
settled-push (first ∷ events) noted owed = settled-push events noted (owed_after first.message owed)

pub page_again : (page addr : ℕ) → 4096 * page ≡ addr → page ≡ addr / 4096
page_again page addr h = omega (arith, h)

pub entered_once : (cpu : ℕ) (command : Command) (reply : Reply) (count : ℕ) → entries_of cpu command (call_took reply count) ≡ record { cpu = cpu; command = command; reply = reply } ∷ []
entered_once cpu command reply count = grind (arith, nat_tests)

pub modes_events : (object : Object) (command : Command) (reply : Reply) → (modes_after object command reply).events ≡ object.events
modes_events object command reply = grind (arith, nat_tests)

pub owed_is_present : (source : Source) (page : ℕ) → contains (not_clean source) page ≡ true → is_present (space_of source) page ≡ true
owed_is_present source page h =
    let both = and_parts (contains (present (space_of source)) page) (not (contains source.log.clean page))
    (sym (contains-retain (present (space_of source)) (λ q. not (contains source.log.clean q)) page (λ x e. ap (λ q. not (contains source.log.clean q)) (sym (nat_cmp-IsAntisymmetric page x e)))) ∙ h) in
    (and_parts (ltb page HIGH_PAGE) (is_present (space_of source) page) (sym (member_below _ HIGH_PAGE page) ∙ both.0)).1

pub no_event : (events : List Noted) → ltb 0 (length events) ≡ false → events ≡ []
no_event [] h = refl
no_event (noted ∷ events) h = absurd (grind (arith, nat_tests))

pub some_either : {X : Type 0} (here : Bool) (value : X) (o : Option X) → is_some o ≡ true → is_some (cond here (Some value) o) ≡ true
some_either here value o h = grind (arith, nat_tests)

-- by the answer of a test
pub by_test : {A : Type 0} (here : Bool) → (here ≡ true → A) → (here ≡ false → A) → A
by_test here holds fails = grind (arith, nat_tests)

-- a count of 64 bits
pub counted_is : (count more : ℕ) → min (count + more) (2 ^ 64 - 1) ≡ counted count more
counted_is count more = grind arith
