-- The calls of a handler that reads a message.
use Rattle.std.proofs.lemmas.Bool.Decides.{nat_tests}
use Rattle.std.proofs.Common.{max, ◌≡◌, ℕ, ◌+◌, ◌-◌, Bool, true, false, Option, Some, None, List, [], ◌∷◌, refl, sym, ◌∙◌, subst, inl, inr, arith}
use Rattle.std.specs.Prelude.{Ok, set}
use Rattle.mig_base.specs.declared.command.Reply.{Reply}
use Rattle.mig_base.specs.declared.cpu_state.CpuState.{CpuState}
use Rattle.mig_base.specs.declared.message.Message.{Message}
use Rattle.mig_base.specs.declared.message.Message.TheVariants.{PageFault, Remap, Remove, Unmap}
use Rattle.mig_base.specs.declared.wake.Wake.TheVariants.{Range}
use Rattle.mig_model.specs.Bounds.{IsPage}
use Rattle.mig_model.specs.Cpus.{all_woken, handed_over, message_less, processor_at}
use Rattle.mig_model.specs.Guest.{Guest, in_bytes, is_left_by, read_guest}
use Rattle.mig_model.specs.Ioctls.{is_bad_range, read_error, read_space, wake_answer}
use Rattle.mig_model.specs.Effects.{event_effect, read_effect}
use Rattle.mig_model.specs.Space.{Space}
use Rattle.mig_base.specs.Userfault.{Noted, Object, message_read, next_message}
use Rattle.mig_model.proofs.memory.Registering.{left_new}
use Rattle.mig_model.proofs.transcript.RightCommands.{AllRight}
use Rattle.mig_model.proofs.transcript.WaitingCommands.{less_same, set_same}
use Rattle.host_calls.specs.declared.call.Call.{Call}
use Rattle.host_calls.specs.Calls.{range_woken, read_calls, woken_calls}
use Rattle.host_calls.specs.Made.{AreMade}
use Rattle.host_calls.proofs.Woken.{cut_end, cut_range, woken_alike}

-- the space once its message is read
abbrev read_of : Space → Space
read_of space = record space { object = message_read space.object }

not_refused : (space : Space) (noted : Noted) → space.object.enabled ≡ true → next_message space.object ≡ Some noted → read_error space ≡ None
not_refused space noted enabled some = grind (arith, nat_tests)

read_leaves : (space : Space) (noted : Noted) → space.object.enabled ≡ true → next_message space.object ≡ Some noted → read_of space ≡ read_space space
read_leaves space noted enabled some = sym (left_new (read_error space) space (read_of space) (not_refused space noted enabled some))

still_enabled : (object : Object) → object.enabled ≡ true → (message_read object).enabled ≡ true
still_enabled object enabled = grind (arith, nat_tests)

wake_accepted : (space : Space) (addr len : ℕ) → space.object.enabled ≡ true → is_bad_range addr len ≡ false → wake_answer space addr len ≡ Ok (Range addr len)
wake_accepted space addr len enabled good = grind (arith, nat_tests)

-- the guest between the read and the wake-up
abbrev mid_guest : Guest → ℕ → Guest
mid_guest guest cpu = record { space = read_of guest.space; cpus = set guest.cpus cpu (message_less (processor_at guest.cpus cpu)) }

still_right : (cpus : List CpuState) (cpu : ℕ) → AllRight cpus → AllRight (set cpus cpu (message_less (processor_at cpus cpu)))
still_right cpus cpu right k command is = right k command (sym (set_same cpus cpu (message_less (processor_at cpus cpu)) (less_same (processor_at cpus cpu)) k) ∙ is)

abbrev woken_guest : Guest → ℕ → (ℕ → Bool) → Guest
woken_guest guest cpu test = record { space = read_of guest.space; cpus = all_woken test (set guest.cpus cpu (message_less (processor_at guest.cpus cpu))) }

-- a read, and a wake-up of a range that holds the pages of the test
event_made : (bytes : List ℕ) (guest : Guest) (noted : Noted) (cpu start len : ℕ) (test : ℕ → Bool) → guest.space.object.enabled ≡ true → next_message guest.space.object ≡ Some noted → AllRight guest.cpus
    → ((page : ℕ) → IsPage page → in_bytes (max start 65536) (max start 65536 + (len - (65536 - start))) page ≡ test page)
    → AreMade bytes (Call.Read ∷ range_woken start len ∷ []) guest (woken_guest guest cpu test)
event_made bytes guest noted cpu start len test enabled some right same = (
  mid_guest guest cpu,
  record { answer = not_refused guest.space noted enabled some; leaves = read_leaves guest.space noted enabled some; goes_on = inr (cpu, refl) },
  (
    woken_guest guest cpu test,
    record {
      answer = wake_accepted (read_of guest.space) (max start 65536) (len - (65536 - start)) (still_enabled guest.space.object enabled);
      leaves = refl;
      wakes = sym (woken_alike (in_bytes (max start 65536) (max start 65536 + (len - (65536 - start)))) test (mid_guest guest cpu).cpus same (still_right guest.cpus cpu right));
    },
    refl,
  ),
)

event_calls : (event : Message) (cpu : ℕ) (o : Option Reply) → read_calls (event_effect event cpu o) ≡ Call.Read ∷ woken_calls event
event_calls event cpu None = refl
event_calls event cpu (Some reply) = refl

pub read_made : (bytes : List ℕ) (guest : Guest) (noted : Noted) (cpu : ℕ) (message : Message) → guest.space.object.enabled ≡ true → next_message guest.space.object ≡ Some noted → AllRight guest.cpus
    → AreMade bytes (read_calls (read_effect guest.cpus cpu message)) guest (read_guest guest cpu message)
read_made bytes guest noted cpu (PageFault addr write wp tid) enabled some right = (
  record guest { space = read_of guest.space },
  record { answer = not_refused guest.space noted enabled some; leaves = read_leaves guest.space noted enabled some; goes_on = inl refl },
  refl,
)
read_made bytes guest noted cpu (Remap from to len) enabled some right =
    subst (λ calls. AreMade bytes calls guest (read_guest guest cpu (Remap from to len))) (sym (event_calls (Remap from to len) cpu (handed_over (processor_at guest.cpus cpu))))
    (event_made bytes guest noted cpu from len (is_left_by (Remap from to len)) enabled some right (λ page is. cut_range from len page is))
read_made bytes guest noted cpu (Remove start end) enabled some right =
    subst (λ calls. AreMade bytes calls guest (read_guest guest cpu (Remove start end))) (sym (event_calls (Remove start end) cpu (handed_over (processor_at guest.cpus cpu))))
    (event_made bytes guest noted cpu start (end - start) (is_left_by (Remove start end)) enabled some right (λ page is. cut_end start end page is))
read_made bytes guest noted cpu (Unmap start end) enabled some right =
    subst (λ calls. AreMade bytes calls guest (read_guest guest cpu (Unmap start end))) (sym (event_calls (Unmap start end) cpu (handed_over (processor_at guest.cpus cpu))))
    (event_made bytes guest noted cpu start (end - start) (is_left_by (Unmap start end)) enabled some right (λ page is. cut_end start end page is))
