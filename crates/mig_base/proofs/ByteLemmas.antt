-- Pages of zeros, pages that others were written into, and the join of lists of bytes.
use Rattle.std.proofs.Common.{◌≡◌, ℕ, ◌+◌, ◌-◌, ◌<◌, ◌≤◌, List, [], ◌∷◌, ◌++◌, append_assoc, refl, sym, ap, ◌∙◌, subst, arith, length, take, drop, get_or, ⊎_elim, length-append}
use Rattle.std.specs.Prelude.{replicate}
use Rattle.std.specs.List.{concat}
use Rattle.std.proofs.lemmas.List.{append-nil, drop-drop, get_or-take, get_or_append_left, get_or-append_right, get_or-drop, get_or-replicate, length-take, length-drop, length-replicate}
use Rattle.std.proofs.Math.ListN.{get_or-eq_default}
use Rattle.std.proofs.lemmas.Bool.{cases_lt}
use borrow.Rule.Slice.PartMut.{put_mid}
use Rattle.mig_base.specs.Bytes.{zero_page, overwrite}

zeros : ℕ → List ℕ
zeros n = replicate {A = ℕ} n 0

get_or-same : (n i : ℕ) → get_or (zeros n) i 0 ≡ 0
unfolding zeros
get_or-same n i = ⊎_elim
    (λ (below : i < n). get_or-replicate {A = ℕ} n i 0 0 below)
    (λ (past : n ≤ i). get_or-eq_default (replicate {A = ℕ} n 0) 0 (subst (λ k. k ≤ i) (sym (length-replicate {A = ℕ} n 0)) past))
    (cases_lt i n)

pub length-zero_page : length zero_page ≡ 4096
unfolding zero_page
length-zero_page = length-replicate {A = ℕ} 4096 0

pub get_or-zero_page : (i : ℕ) → get_or zero_page i 0 ≡ 0
unfolding zero_page zeros
get_or-zero_page i = get_or-same 4096 i

pub length-overwrite : (held bytes : List ℕ) (offset : ℕ) → offset + length bytes ≤ length held → length (overwrite held offset bytes) ≡ length held
unfolding overwrite
length-overwrite held bytes offset h =
    simp (length-append, length-take, length-drop) (omega arith)

pub get_or-overwrite_below : (held bytes : List ℕ) (offset i : ℕ) → offset + length bytes ≤ length held → i < offset → get_or (overwrite held offset bytes) i 0 ≡ get_or held i 0
unfolding overwrite
get_or-overwrite_below held bytes offset i h l =
    let front : i < length (take offset held) = simp length-take (omega arith) in
    get_or_append_left (take offset held) (bytes ++ drop (offset + length bytes) held) 0 i front ∙ get_or-take offset held i 0 l

pub get_or-overwrite_in : (held bytes : List ℕ) (offset i : ℕ) → offset + length bytes ≤ length held → offset ≤ i → i < offset + length bytes → get_or (overwrite held offset bytes) i 0 ≡ get_or bytes (i - offset) 0
unfolding overwrite
get_or-overwrite_in held bytes offset i h l u =
    let front : length (take offset held) ≡ offset = simp length-take (omega arith) in
    get_or-append_right (take offset held) (bytes ++ drop (offset + length bytes) held) offset i 0 front l
    ∙ get_or_append_left bytes (drop (offset + length bytes) held) 0 (i - offset) (omega arith)

pub get_or-overwrite_above : (held bytes : List ℕ) (offset i : ℕ) → offset + length bytes ≤ length held → offset + length bytes ≤ i → get_or (overwrite held offset bytes) i 0 ≡ get_or held i 0
unfolding overwrite
get_or-overwrite_above held bytes offset i h l =
    let front : length (take offset held) ≡ offset = simp length-take (omega arith) in
    let at : offset + length bytes + (i - offset - length bytes) ≡ i = omega arith in
    get_or-append_right (take offset held) (bytes ++ drop (offset + length bytes) held) offset i 0 front (omega arith)
    ∙ get_or-append_right bytes (drop (offset + length bytes) held) (length bytes) (i - offset) 0 refl (omega arith)
    ∙ get_or-drop (offset + length bytes) held (i - offset - length bytes) 0
    ∙ ap (λ n. get_or held n 0) at

-- a part of a list that was replaced, as std says it
pub overwrite-put_mid : (held copied bytes : List ℕ) (offset len : ℕ) → copied ≡ bytes → len ≡ length bytes → put_mid offset len held copied ≡ overwrite held offset bytes
unfolding overwrite
overwrite-put_mid held copied bytes offset len same count = rw (same, count) (ap (λ xs. take offset held ++ (bytes ++ xs)) (drop-drop (length bytes) offset held))

-- the join with one more list
pub concat-push : (front : List (List ℕ)) (last : List ℕ) → concat (front ++ last ∷ []) ≡ concat front ++ last
concat-push [] last = append-nil last
concat-push (piece ∷ front) last = ap (λ (rest : List ℕ). piece ++ rest) (concat-push front last) ∙ sym (append_assoc piece (concat front) last)
