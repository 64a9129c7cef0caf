-- Lists of calls that grow by one.
use Rattle.std.proofs.Common.{◌≡◌, ℕ, zero, suc, ◌+◌, ◌*◌, ◌<◌, List, [], ◌∷◌, ◌++◌, length, take, get_or, refl, sym, ap, ◌∙◌, append_assoc, arith}
use Rattle.std.proofs.lemmas.List.{take_more}
use Rattle.mig_base.specs.declared.Area.{Area}
use Rattle.mig_base.specs.declared.Prot.TheVariants.{NoAccess}
use Rattle.host_calls.specs.declared.call.Call.{Call}
use Rattle.host_calls.specs.Calls.{pages_from, registers}

pages_last : (addr count : ℕ) → pages_from addr (suc count) ≡ pages_from addr count ++ Call.Page (addr + 4096 * count) ∷ []
pages_last addr zero = ap (λ (a : ℕ). Call.Page a ∷ []) (omega arith)
pages_last addr (suc count) =
    ap (λ (calls : List Call). Call.Page addr ∷ calls)
    (pages_last (addr + 4096) count ∙ ap (λ (a : ℕ). pages_from (addr + 4096) count ++ Call.Page a ∷ []) (omega arith))

pub pages_more : (addr count : ℕ) (front calls more : List Call) → calls ≡ front ++ pages_from addr count → more ≡ calls ++ Call.Page (addr + 4096 * count) ∷ [] → more ≡ front ++ pages_from addr (count + 1)
pages_more addr count front calls more is last =
    let next : suc count ≡ count + 1 = omega arith in
    last
    ∙ ap (λ (c : List Call). c ++ Call.Page (addr + 4096 * count) ∷ []) is
    ∙ append_assoc front (pages_from addr count) (Call.Page (addr + 4096 * count) ∷ [])
    ∙ ap (λ (c : List Call). front ++ c) (sym (pages_last addr count) ∙ ap (pages_from addr) next)

-- what a read past the end shows
abbrev pub no_area : Area
no_area = record { first = 0; count = 0; prot = NoAccess }

abbrev register_of : Area → ℕ → Call
register_of area mode = Call.Register (4096 * area.first) (4096 * area.count) mode

registers_last : (areas : List Area) (area : Area) (mode : ℕ) → registers (areas ++ area ∷ []) mode ≡ registers areas mode ++ register_of area mode ∷ []
registers_last [] area mode = refl
registers_last (first ∷ areas) area mode = ap (λ (calls : List Call). register_of first mode ∷ calls) (registers_last areas area mode)

pub registers_more : (areas : List Area) (i mode : ℕ) (front calls more : List Call) → i < length areas → calls ≡ front ++ registers (take i areas) mode
    → more ≡ calls ++ Call.Register (4096 * (get_or areas i no_area).first) (4096 * (get_or areas i no_area).count) mode ∷ [] → more ≡ front ++ registers (take (i + 1) areas) mode
registers_more areas i mode front calls more below is last =
    let area = get_or areas i no_area in
    last
    ∙ ap (λ (c : List Call). c ++ register_of area mode ∷ []) is
    ∙ append_assoc front (registers (take i areas) mode) (register_of area mode ∷ [])
    ∙ ap (λ (c : List Call). front ++ c) (sym (registers_last (take i areas) area mode) ∙ ap (λ (a : List Area). registers a mode) (sym (take_more areas i no_area below)))
