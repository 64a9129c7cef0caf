-- A call is its shape with its number and its addresses.
use Rattle.std.proofs.Common.{◌≡◌, ◌∙◌, ℕ, List, Some, get_or, refl, ap}
use Rattle.std.proofs.lemmas.Option.{get_or_from_slice_get}
use Rattle.std.specs.Prelude.{slice_get}
use Rattle.uffd_log.specs.declared.call.Call.{Call}
use Rattle.uffd_log.specs.declared.call.Call.TheVariants as call
use Rattle.kernel_rules.specs.declared.run.Made.{Made}
use Rattle.kernel_rules.specs.Runs.{begins}
use Rattle.log_entries.specs.Shapes.{call_with, from_of, made_with, shape_of, to_of}

call_again : (c : Call) → call_with (call_with c 0 0) (to_of c) (from_of c) ≡ c
call_again (call.Open device flags) = refl
call_again (call.Api on api features) = refl
call_again (call.Register on start len mode) = refl
call_again (call.Unregister on start len) = refl
call_again (call.Wake on start len) = refl
call_again (call.Copy on to from len mode) = refl
call_again (call.Move on to from len mode) = refl
call_again (call.ZeroPage on start len mode) = refl
call_again (call.Continue on start len mode) = refl
call_again (call.Poison on start len mode) = refl
call_again (call.WriteProtect on start len mode) = refl
call_again (call.Read on room) = refl
call_again (call.Poll on) = refl
call_again (call.NonBlock on set) = refl
call_again (call.Dup on target) = refl
call_again (call.Close on) = refl
call_again (call.Scan on start len) = refl
call_again (call.Mmap addr len prot flags) = refl
call_again (call.Munmap addr len) = refl
call_again (call.Mremap addr old_len new_len flags target) = refl
call_again (call.Madvise addr len advice) = refl
call_again call.Fork = refl

-- the shape of a call, with what it says alone
made_again : (made : Made) → made_with (shape_of made) made.key (to_of made.call) (from_of made.call) ≡ made
made_again made = ap (λ (c : Call). record made { call = c }) (call_again made.call)

-- the call that begins in a slot, by the shape in a table
pub begun_again : (table : List Made) (n to from : ℕ) (shape made d : Made) → slice_get table n ≡ Some shape → shape ≡ shape_of made → to ≡ to_of made.call → from ≡ from_of made.call
    → begins (made_with (get_or table n d) made.key to from) ≡ begins made
begun_again table n to from shape made d found shape_is to_is from_is =
    ap (λ (m : Made). begins (made_with m made.key to from)) (get_or_from_slice_get table n shape d found ∙ shape_is) ∙ ap (λ (t : ℕ). begins (made_with (shape_of made) made.key t from)) to_is
    ∙ ap (λ (f : ℕ). begins (made_with (shape_of made) made.key (to_of made.call) f)) from_is ∙ ap (λ (m : Made). begins m) (made_again made)
