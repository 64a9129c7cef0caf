-- A range that is cut where no page may be mapped: the same processors sleep on it.
use Rattle.std.proofs.lemmas.Bool.Decides.{nat_tests}
use Rattle.std.proofs.Common.{max, ◌≡◌, ℕ, suc, ◌+◌, ◌-◌, ◌/◌, ◌<◌, ◌≤◌, Bool, Some, List, [], ◌∷◌, refl, ap, ◌∙◌, if◌then◌else◌, arith}
use Rattle.mig_base.specs.declared.command.Command.{Command}
use Rattle.mig_base.specs.declared.cpu_state.CpuState.{CpuState}
use Rattle.mig_base.specs.Commands.{page_of}
use Rattle.foundation.specs.Ranges.{in_range}
use Rattle.mig_model.specs.Bounds.{IsPage}
use Rattle.mig_model.specs.Cpus.{all_woken, outstanding, woken_if}
use Rattle.mig_model.specs.Guest.{in_bytes}
use Rattle.mig_model.proofs.transcript.RightCommands.{AllRight, IsInside}
use Rattle.mig_model.proofs.invariant.FaultPages.{access_page}

-- Ranges

-- two tests of ranges agree where both hold of a page or neither does
same_range : (a m b n page : ℕ) → (a ≤ page → page < a + m → (b ≤ page) × (page < b + n)) → (b ≤ page → page < b + n → (a ≤ page) × (page < a + m)) → in_range a m page ≡ in_range b n page
same_range a m b n page there back = grind (arith, nat_tests)

pub cut_range : (start len page : ℕ) → IsPage page → in_bytes (max start 65536) (max start 65536 + (len - (65536 - start))) page ≡ in_bytes start (start + len) page
cut_range start len page is =
    let low : 16 ≤ page = is.0 in
    same_range (max start 65536 / 4096) ((max start 65536 + (len - (65536 - start))) / 4096 - max start 65536 / 4096) (start / 4096) ((start + len) / 4096 - start / 4096) page
    (λ a b. (omega (arith, low, a, b), omega (arith, low, a, b))) (λ a b. (omega (arith, low, a, b), omega (arith, low, a, b)))

-- a range by its end
by_end : (start end page : ℕ) → in_bytes start (start + (end - start)) page ≡ in_bytes start end page
by_end start end page =
    same_range (start / 4096) ((start + (end - start)) / 4096 - start / 4096) (start / 4096) (end / 4096 - start / 4096) page
    (λ a b. (a, omega (arith, a, b))) (λ a b. (a, omega (arith, a, b)))

pub cut_end : (start end page : ℕ) → IsPage page → in_bytes (max start 65536) (max start 65536 + ((end - start) - (65536 - start))) page ≡ in_bytes start end page
cut_end start end page is = cut_range start (end - start) page is ∙ by_end start end page

-- Processors

one_alike : (one other : ℕ → Bool) (p : CpuState) → ((page : ℕ) → IsPage page → one page ≡ other page) → ((command : Command) → outstanding p ≡ Some command → IsInside command) → woken_if one p ≡ woken_if other p
one_alike one other CpuState.Idle same right = refl
one_alike one other (CpuState.Asleep command) same right =
    ap (λ (b : Bool). if b then CpuState.Woken command else CpuState.Asleep command) (same (page_of command) (access_page command (right command refl)))
one_alike one other (CpuState.Woken command) same right = refl
one_alike one other (CpuState.InCall reply left) same right = refl

-- tests that agree on the pages that may be mapped wake the same processors
pub woken_alike : (one other : ℕ → Bool) (ps : List CpuState) → ((page : ℕ) → IsPage page → one page ≡ other page) → AllRight ps → all_woken one ps ≡ all_woken other ps
woken_alike one other [] same right = refl
woken_alike one other (p ∷ ps) same right = λ i. one_alike one other p same (right 0) i ∷ woken_alike one other ps same (λ k. right (suc k)) i
