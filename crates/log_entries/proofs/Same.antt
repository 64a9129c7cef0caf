-- Calls that a test finds equal are the same.
use Rattle.std.proofs.Common.{◌≡◌, ◌∙◌, ℕ, Bool, true, false, true≢false, refl, sym, ap, rules}
use Rattle.std.specs.Prelude.{◌==◌, ◌&&◌}
use Rattle.std.proofs.lemmas.Bool.{and_parts, eqb-true}
use Rattle.kernel_rules.specs.contracts.run.MadePartialEq.TheImpl as mades
use Rattle.kernel_rules.specs.declared.run.Made.{Made}
use Rattle.uffd_log.specs.contracts.call.CallPartialEq.TheImpl as calls
use Rattle.uffd_log.specs.contracts.call.DescriptorPartialEq.TheImpl as descriptors
use Rattle.uffd_log.specs.declared.call.Call.{Call}
use Rattle.uffd_log.specs.declared.call.Call.TheVariants as call
use Rattle.uffd_log.specs.declared.call.Descriptor.{Descriptor}

two : (a b a' b' : ℕ) → (a == a' && b == b') ≡ true → (a ≡ a') × (b ≡ b')
two a b a' b' e = let p = and_parts (a == a') (b == b') e in (eqb-true a a' p.0, eqb-true b b' p.1)

three : (a b c a' b' c' : ℕ) → (a == a' && (b == b' && c == c')) ≡ true → (a ≡ a') × (b ≡ b') × (c ≡ c')
three a b c a' b' c' e = let p = and_parts (a == a') (b == b' && c == c') e in let q = two b c b' c' p.1 in (eqb-true a a' p.0, q.0, q.1)

four : (a b c d a' b' c' d' : ℕ) → (a == a' && (b == b' && (c == c' && d == d'))) ≡ true → (a ≡ a') × (b ≡ b') × (c ≡ c') × (d ≡ d')
four a b c d a' b' c' d' e = let p = and_parts (a == a') (b == b' && (c == c' && d == d')) e in let q = three b c d b' c' d' p.1 in (eqb-true a a' p.0, q.0, q.1, q.2)

five : (a b c d f a' b' c' d' f' : ℕ) → (a == a' && (b == b' && (c == c' && (d == d' && f == f')))) ≡ true → (a ≡ a') × (b ≡ b') × (c ≡ c') × (d ≡ d') × (f ≡ f')
five a b c d f a' b' c' d' f' e = let p = and_parts (a == a') (b == b' && (c == c' && (d == d' && f == f'))) e in let q = four b c d f b' c' d' f' p.1 in (eqb-true a a' p.0, q.0, q.1, q.2, q.3)

descriptor_same : (a b : Descriptor) → descriptors.ghosts.eq a b ≡ true → a ≡ b
descriptor_same a b e =
    let p = two a.object a.fd b.object b.fd e in
    ap (λ (n : ℕ). record a { object = n }) p.0 ∙ ap (λ (n : ℕ). record b { fd = n }) p.1

pub call_same : (a b : Call) → calls.ghosts.eq a b ≡ true → a ≡ b
call_same (call.Open device flags) (call.Open device' flags') e = search rules
call_same (call.Open device flags) _ e = absurd (true≢false (sym e))
call_same (call.Api on api features) (call.Api on' api' features') e = let p = and_parts (descriptors.ghosts.eq on on') (api == api' && features == features') e in let q = two api features api' features' p.1 in rw (descriptor_same on on' p.0, q.0, q.1) refl
call_same (call.Api on api features) _ e = absurd (true≢false (sym e))
call_same (call.Register on start len mode) (call.Register on' start' len' mode') e = let p = and_parts (descriptors.ghosts.eq on on') (start == start' && (len == len' && mode == mode')) e in let q = three start len mode start' len' mode' p.1 in rw (descriptor_same on on' p.0, q.0, q.1, q.2) refl
call_same (call.Register on start len mode) _ e = absurd (true≢false (sym e))
call_same (call.Unregister on start len) (call.Unregister on' start' len') e = let p = and_parts (descriptors.ghosts.eq on on') (start == start' && len == len') e in let q = two start len start' len' p.1 in rw (descriptor_same on on' p.0, q.0, q.1) refl
call_same (call.Unregister on start len) _ e = absurd (true≢false (sym e))
call_same (call.Wake on start len) (call.Wake on' start' len') e = let p = and_parts (descriptors.ghosts.eq on on') (start == start' && len == len') e in let q = two start len start' len' p.1 in rw (descriptor_same on on' p.0, q.0, q.1) refl
call_same (call.Wake on start len) _ e = absurd (true≢false (sym e))
call_same (call.Copy on to from len mode) (call.Copy on' to' from' len' mode') e = let p = and_parts (descriptors.ghosts.eq on on') (to == to' && (from == from' && (len == len' && mode == mode'))) e in let q = four to from len mode to' from' len' mode' p.1 in rw (descriptor_same on on' p.0, q.0, q.1, q.2, q.3) refl
call_same (call.Copy on to from len mode) _ e = absurd (true≢false (sym e))
call_same (call.Move on to from len mode) (call.Move on' to' from' len' mode') e = let p = and_parts (descriptors.ghosts.eq on on') (to == to' && (from == from' && (len == len' && mode == mode'))) e in let q = four to from len mode to' from' len' mode' p.1 in rw (descriptor_same on on' p.0, q.0, q.1, q.2, q.3) refl
call_same (call.Move on to from len mode) _ e = absurd (true≢false (sym e))
call_same (call.ZeroPage on start len mode) (call.ZeroPage on' start' len' mode') e = let p = and_parts (descriptors.ghosts.eq on on') (start == start' && (len == len' && mode == mode')) e in let q = three start len mode start' len' mode' p.1 in rw (descriptor_same on on' p.0, q.0, q.1, q.2) refl
call_same (call.ZeroPage on start len mode) _ e = absurd (true≢false (sym e))
call_same (call.Continue on start len mode) (call.Continue on' start' len' mode') e = let p = and_parts (descriptors.ghosts.eq on on') (start == start' && (len == len' && mode == mode')) e in let q = three start len mode start' len' mode' p.1 in rw (descriptor_same on on' p.0, q.0, q.1, q.2) refl
call_same (call.Continue on start len mode) _ e = absurd (true≢false (sym e))
call_same (call.Poison on start len mode) (call.Poison on' start' len' mode') e = let p = and_parts (descriptors.ghosts.eq on on') (start == start' && (len == len' && mode == mode')) e in let q = three start len mode start' len' mode' p.1 in rw (descriptor_same on on' p.0, q.0, q.1, q.2) refl
call_same (call.Poison on start len mode) _ e = absurd (true≢false (sym e))
call_same (call.WriteProtect on start len mode) (call.WriteProtect on' start' len' mode') e = let p = and_parts (descriptors.ghosts.eq on on') (start == start' && (len == len' && mode == mode')) e in let q = three start len mode start' len' mode' p.1 in rw (descriptor_same on on' p.0, q.0, q.1, q.2) refl
call_same (call.WriteProtect on start len mode) _ e = absurd (true≢false (sym e))
call_same (call.Read on room) (call.Read on' room') e = search rules
call_same (call.Read on room) _ e = absurd (true≢false (sym e))
call_same (call.Poll on) (call.Poll on') e = ap (λ (o : Descriptor). call.Poll o) (descriptor_same on on' e)
call_same (call.Poll on) _ e = absurd (true≢false (sym e))
call_same (call.NonBlock on set) (call.NonBlock on' set') e = search rules
call_same (call.NonBlock on set) _ e = absurd (true≢false (sym e))
call_same (call.Dup on target) (call.Dup on' target') e = search rules
call_same (call.Dup on target) _ e = absurd (true≢false (sym e))
call_same (call.Close on) (call.Close on') e = ap (λ (o : Descriptor). call.Close o) (descriptor_same on on' e)
call_same (call.Close on) _ e = absurd (true≢false (sym e))
call_same (call.Scan on start len) (call.Scan on' start' len') e = let p = and_parts (descriptors.ghosts.eq on on') (start == start' && len == len') e in let q = two start len start' len' p.1 in rw (descriptor_same on on' p.0, q.0, q.1) refl
call_same (call.Scan on start len) _ e = absurd (true≢false (sym e))
call_same (call.Mmap addr len prot flags) (call.Mmap addr' len' prot' flags') e = let q = four addr len prot flags addr' len' prot' flags' e in rw (q.0, q.1, q.2, q.3) refl
call_same (call.Mmap addr len prot flags) _ e = absurd (true≢false (sym e))
call_same (call.Munmap addr len) (call.Munmap addr' len') e = let q = two addr len addr' len' e in rw (q.0, q.1) refl
call_same (call.Munmap addr len) _ e = absurd (true≢false (sym e))
call_same (call.Mremap addr old_len new_len flags target) (call.Mremap addr' old_len' new_len' flags' target') e = let q = five addr old_len new_len flags target addr' old_len' new_len' flags' target' e in rw (q.0, q.1, q.2, q.3, q.4) refl
call_same (call.Mremap addr old_len new_len flags target) _ e = absurd (true≢false (sym e))
call_same (call.Madvise addr len advice) (call.Madvise addr' len' advice') e = let q = three addr len advice addr' len' advice' e in rw (q.0, q.1, q.2) refl
call_same (call.Madvise addr len advice) _ e = absurd (true≢false (sym e))
call_same call.Fork call.Fork e = refl
call_same call.Fork _ e = absurd (true≢false (sym e))

last_same : (a b : Made) → mades.ghosts.eq a b ≡ true → a.last ≡ b.last
last_same a b e =
    elim a.last as (λ x. mades.ghosts.eq (record a { last = x }) b ≡ true → x ≡ b.last) [
      | true ↦ λ f. elim b.last as (λ y. mades.ghosts.eq (record a { last = true }) (record b { last = y }) ≡ true → true ≡ y) [
        | true ↦ λ g. refl
        | false ↦ λ g. let p = and_parts (a.key == b.key) _ g in let q = and_parts (a.space == b.space) _ p.1 in let t = and_parts (a.thread == b.thread) _ q.1 in let g = and_parts (a.program == b.program) _ t.1 in let r = and_parts (calls.ghosts.eq a.call b.call) _ g.1 in absurd (true≢false (sym r.1))
      ] f
      | false ↦ λ f. elim b.last as (λ y. mades.ghosts.eq (record a { last = false }) (record b { last = y }) ≡ true → false ≡ y) [
        | false ↦ λ g. refl
        | true ↦ λ g. let p = and_parts (a.key == b.key) _ g in let q = and_parts (a.space == b.space) _ p.1 in let t = and_parts (a.thread == b.thread) _ q.1 in let g = and_parts (a.program == b.program) _ t.1 in let r = and_parts (calls.ghosts.eq a.call b.call) _ g.1 in absurd (true≢false (sym r.1))
      ] f
    ] e

pub made_same : (a b : Made) → mades.ghosts.eq a b ≡ true → a ≡ b
made_same a b e =
    let p = and_parts (a.key == b.key) _ e in
    let q = and_parts (a.space == b.space) _ p.1 in
    let t = and_parts (a.thread == b.thread) _ q.1 in
    let g = and_parts (a.program == b.program) _ t.1 in
    let r = and_parts (calls.ghosts.eq a.call b.call) _ g.1 in
    let made : ℕ → ℕ → ℕ → ℕ → Call → Bool → Made = λ k s h p c l. record { key = k; space = s; thread = h; program = p; call = c; last = l } in
    ap (λ (k : ℕ). made k a.space a.thread a.program a.call a.last) (eqb-true a.key b.key p.0)
    ∙ ap (λ (s : ℕ). made b.key s a.thread a.program a.call a.last) (eqb-true a.space b.space q.0)
    ∙ ap (λ (h : ℕ). made b.key b.space h a.program a.call a.last) (eqb-true a.thread b.thread t.0)
    ∙ ap (λ (n : ℕ). made b.key b.space b.thread n a.call a.last) (eqb-true a.program b.program g.0)
    ∙ ap (λ (c : Call). made b.key b.space b.thread b.program c a.last) (call_same a.call b.call r.0)
    ∙ ap (λ (l : Bool). made b.key b.space b.thread b.program b.call l) (last_same a b e)
