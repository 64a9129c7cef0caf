-- Reading items one after the other, as a loop does.
use Rattle.std.proofs.Common.{◌≡◌, ℕ, suc, ◌-◌, ◌+◌, ◌≤◌, ◌<◌, List, [], ◌∷◌, ◌++◌, Result, Ok, Err, refl, sym, ap, ◌∙◌, append_assoc, arith}
use Rattle.std.proofs.lemmas.List.{append-nil}
use Rattle.frame_decoder.specs.declared.fault.StreamFault.{StreamFault}
use Rattle.frame_decoder.specs.declared.fault.StreamFault.TheVariants as faults
use Rattle.frame_decoder.specs.Reading.{◌>>=◌, FailsToRead, many_from}

-- what was read before, and what is still read
abbrev pub with_front : {A : Type 0} → List A → Result (List A × List ℕ) StreamFault → Result (List A × List ℕ) StreamFault
with_front front read = read >>= λ x. Ok (front ++ x.0, x.1)

regroup : {A : Type 0} (front : List A) (n : A) (read : Result (List A × List ℕ) StreamFault) → with_front front (read >>= λ x. Ok (n ∷ x.0, x.1)) ≡ with_front (front ++ n ∷ []) read
regroup {A} front n (Ok x) = ap (λ (ns : List A). Ok (ns, x.1)) (simp append_assoc)
regroup front n (Err f) = refl

id_front : {A : Type 0} (read : Result (List A × List ℕ) StreamFault) → with_front [] read ≡ read
id_front (Ok x) = refl
id_front (Err f) = refl

same_fault : {A : Type 0} (e : StreamFault) (front : List A) (read : Result (A × List ℕ) StreamFault) (more : A × List ℕ → Result (List A × List ℕ) StreamFault) (total : Result (List A × List ℕ) StreamFault)
    → FailsToRead e read → with_front front (read >>= more) ≡ total → FailsToRead e total
same_fault faults.NoMemory front read more total h so = tt
same_fault faults.BadTag front read more total h so = sym so ∙ rw h refl
same_fault faults.BadLength front read more total h so = sym so ∙ rw h refl
same_fault faults.BadField front read more total h so = sym so ∙ rw h refl

-- the items of a loop: so far `front` was read of `total`, and `rest` are left, of which `count` items are read
module _ {S A : Type 0} (item : S → List ℕ → Result (A × List ℕ) StreamFault) (next : S → A → S) where
  pub record Reads (front : List A) (state : S) (count : ℕ) (rest : List ℕ) (total : Result (List A × List ℕ) StreamFault) : Type 0 where
    pub so_far : with_front front (many_from item next state count rest) ≡ total

  pub begins : (state : S) (count : ℕ) (bytes : List ℕ) → Reads [] state (count - 0) bytes (many_from item next state count bytes)
  begins state count bytes = let e : count - 0 ≡ count = omega arith in record { so_far = rw e (id_front (many_from item next state count bytes)) }

  pub goes_on : (front : List A) (state : S) (count i : ℕ) (bytes : List ℕ) (n : A) (after : List ℕ) (total : Result (List A × List ℕ) StreamFault) → i < count → item state bytes ≡ Ok (n, after)
      → Reads front state (count - i) bytes total → Reads (front ++ n ∷ []) (next state n) (count - (i + 1)) after total
  unfolding many_from
  goes_on front state count i bytes n after total lt h so =
      let k : count - i ≡ suc (count - (i + 1)) = omega arith in
      let one : with_front front (many_from item next state (count - i) bytes) ≡ with_front (front ++ n ∷ []) (many_from item next (next state n) (count - (i + 1)) after) = rw (k, h) (regroup front n (many_from item next (next state n) (count - (i + 1)) after)) in
      record { so_far = sym one ∙ so.so_far }

  pub ends : (e : StreamFault) (front : List A) (state : S) (count i : ℕ) (bytes : List ℕ) (total : Result (List A × List ℕ) StreamFault) → i < count → FailsToRead e (item state bytes)
      → Reads front state (count - i) bytes total → FailsToRead e total
  unfolding many_from
  ends e front state count i bytes total lt h so =
      let k : count - i ≡ suc (count - (i + 1)) = omega arith in
      let one = rw k at so.so_far in
      same_fault e front (item state bytes) (λ first. many_from item next (next state first.0) (count - (i + 1)) first.1 >>= λ others. Ok (first.0 ∷ others.0, others.1)) total h one

  pub is_done : (front : List A) (state : S) (count i : ℕ) (bytes : List ℕ) (total : Result (List A × List ℕ) StreamFault) → count ≤ i → Reads front state (count - i) bytes total → total ≡ Ok (front, bytes)
  unfolding many_from
  is_done front state count i bytes total le so =
      let k : count - i ≡ 0 = omega arith in
      let one : with_front front (many_from item next state (count - i) bytes) ≡ Ok (front, bytes) = rw k (ap (λ (ns : List A). Ok (ns, bytes)) (append-nil front)) in
      sym so.so_far ∙ one
