-- Writing one text after the other.
use Rattle.std.proofs.Common.{◌≡◌, ℕ, ◌+◌, ◌<◌, ◌≤◌, List, [], ◌∷◌, ◌++◌, length, get_or, take, drop, sym, ap, subst, ◌∙◌, append_assoc, arith, add-one, vec_len, vec_capacity}
use Rattle.std.specs.Global.{Vec}
use Rattle.std.specs.List.{flat_map}
use Rattle.std.proofs.lemmas.List.{append-nil, length-append, take-append-drop, take_all}
use Rattle.std.proofs.lemmas.List.Concat.{flat_map-cons, flat_map-append}
use Rattle.std.proofs.Math.Seq.{take-suc}
use Rattle.page_stream.specs.Writing.{Puts}

pub puts_then : (a b c : Vec ℕ) (x y : List ℕ) → Puts a b x → Puts b c y → Puts a c (x ++ y)
puts_then a b c x y p q = record {
  items = q.items ∙ ap (λ (t : List ℕ). t ++ y) p.items ∙ append_assoc a.items x y;
  len = omega (arith, p.len, q.len, length-append x y);
  capacity = omega (arith, p.capacity, q.capacity);
}

last_text : {A : Type 0} (text : A → List ℕ) (xs : List A) (i : ℕ) (d : A) → i < length xs → flat_map text (take (i + 1) xs) ≡ flat_map text (take i xs) ++ text (get_or xs i d)
last_text text xs i d lt =
    let one : flat_map text (get_or xs i d ∷ []) ≡ text (get_or xs i d) = flat_map-cons text (get_or xs i d) [] ∙ append-nil (text (get_or xs i d)) in
    rw (add-one, take-suc xs i d lt) (flat_map-append text (take i xs) (get_or xs i d ∷ []) ∙ ap (λ (t : List ℕ). flat_map text (take i xs) ++ t) one)

-- a head, and the texts of the first items: one item more
pub puts_more : {A : Type 0} (old now next : Vec ℕ) (head : List ℕ) (text : A → List ℕ) (xs : List A) (i : ℕ) (d : A) → i < length xs
    → Puts old now (head ++ flat_map text (take i xs)) → Puts now next (text (get_or xs i d)) → Puts old next (head ++ flat_map text (take (i + 1) xs))
puts_more old now next head text xs i d lt p q =
    let e : (head ++ flat_map text (take i xs)) ++ text (get_or xs i d) ≡ head ++ flat_map text (take (i + 1) xs) =
    append_assoc head (flat_map text (take i xs)) (text (get_or xs i d)) ∙ ap (λ (t : List ℕ). head ++ t) (sym (last_text text xs i d lt)) in
    subst (Puts old next) e (puts_then old now next (head ++ flat_map text (take i xs)) (text (get_or xs i d)) p q)

-- the room of all is room for the next
pub puts_room : {A : Type 0} (old now : Vec ℕ) (head : List ℕ) (text : A → List ℕ) (xs : List A) (i : ℕ) (d : A) → i < length xs
    → vec_len old + length (head ++ flat_map text xs) ≤ vec_capacity old → Puts old now (head ++ flat_map text (take i xs)) → vec_len now + length (text (get_or xs i d)) ≤ vec_capacity now
puts_room old now head text xs i d lt room p =
    let all : flat_map text xs ≡ flat_map text (take (i + 1) xs) ++ flat_map text (drop (i + 1) xs) = ap (flat_map text) (sym (take-append-drop (i + 1) xs)) ∙ flat_map-append text (take (i + 1) xs) (drop (i + 1) xs) in
    omega (
      arith,
      room,
      p.len,
      p.capacity,
      ap length all,
      length-append head (flat_map text xs),
      length-append head (flat_map text (take i xs)),
      length-append (flat_map text (take (i + 1) xs)) (flat_map text (drop (i + 1) xs)),
      ap length (last_text text xs i d lt),
      length-append (flat_map text (take i xs)) (text (get_or xs i d)),
    )

pub puts_all : {A : Type 0} (old now : Vec ℕ) (head : List ℕ) (text : A → List ℕ) (xs : List A) (i : ℕ) → length xs ≤ i → Puts old now (head ++ flat_map text (take i xs)) → Puts old now (head ++ flat_map text xs)
puts_all {A} old now head text xs i le p = subst (λ (t : List A). Puts old now (head ++ flat_map text t)) (take_all i xs le) p
