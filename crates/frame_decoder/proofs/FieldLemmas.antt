-- A field that is read is the field that was written, and what was written is read again.
use Rattle.std.proofs.Common.{◌≡◌, ℕ, zero, suc, ◌+◌, ◌^◌, ◌<◌, ◌≤◌, Bool, true, false, cond, ltb, List, [], ◌∷◌, ◌++◌, length, get_or, take, drop, Result, Ok, Err, refl, sym, ap, subst, ◌∙◌, append_assoc, arith, inl, inr}
use Rattle.std.specs.List.{All, flat_map}
use Rattle.std.specs.Int.{Width, w32, w64, byte_len, from_be_bytes, to_be_bytes}
use Rattle.std.proofs.lemmas.Bool.{cases_lt, ltb-false, le-ltb}
use Rattle.std.proofs.lemmas.List.{get_or_default, take_at, drop_at, take-append-drop, length-append, length-take, get_or-drop, get_or-take, get_or_past}
use Rattle.std.proofs.lemmas.List.Concat.{flat_map-cons}
use Rattle.std.proofs.lemmas.Nat.{be_bytes_4, be_bytes_8, from_be_bytes-to_be_bytes_4, from_be_bytes-to_be_bytes_8}
use Rattle.frame_decoder.specs.declared.fault.StreamFault.{StreamFault}
use Rattle.frame_decoder.specs.declared.fault.StreamFault.TheVariants as faults
use Rattle.foundation.specs.declared.TheConstants.{PAGE_SIZE}
use Rattle.mig_model.specs.Bounds.{IsPageBytes}
use Rattle.frame_decoder.specs.Reading.{◌>>=◌, tested, byte_at, number_in, content_at, many_from}

abbrev pub IsBytes : List ℕ → Type 0
IsBytes bytes = (i : ℕ) → get_or bytes i 0 < 256

pub IsBytes-drop : (n : ℕ) (bytes : List ℕ) → IsBytes bytes → IsBytes (drop n bytes)
IsBytes-drop n bytes h i = rw get_or-drop (h (n + i))

pub IsBytes-take : (n : ℕ) (bytes : List ℕ) → IsBytes bytes → IsBytes (take n bytes)
IsBytes-take n bytes h i =
    elim (cases_lt i n) [
      | inl lt ↦ rw (get_or-take n bytes i 0 lt) (h i)
      | inr le ↦ rw (get_or_past (take n bytes) i 0 (omega (arith, length-take n bytes))) (omega arith)
    ]

pub IsBytes-rest : (b : ℕ) (bytes : List ℕ) → IsBytes (b ∷ bytes) → IsBytes bytes
IsBytes-rest b bytes h i = h (suc i)

-- the value of a step that did not fail
pub bind_ok : {A B : Type 0} (r : Result A StreamFault) (f : A → Result B StreamFault) (y : B) → (r >>= f) ≡ Ok y → (x : A) × (r ≡ Ok x) × (f x ≡ Ok y)
bind_ok (Ok x) f y e = (x, refl, e)
bind_ok (Err d) f y e = absurd cc

-- the step in the middle of two
pub bind_split : {A B C : Type 0} (r : Result A StreamFault) (f : A → Result B StreamFault) (g : B → Result C StreamFault) (y : C) → (r >>= λ x. f x >>= g) ≡ Ok y → (m : B) × ((r >>= f) ≡ Ok m) × (g m ≡ Ok y)
bind_split (Ok x) f g y e = bind_ok (f x) g y e
bind_split (Err d) f g y e = absurd cc

pub bind_then : {A B C : Type 0} (r : Result A StreamFault) (f : A → Result B StreamFault) (g : B → Result C StreamFault) (y : B) → (r >>= f) ≡ Ok y → (r >>= λ x. f x >>= g) ≡ g y
bind_then (Ok x) f g y e = rw e refl
bind_then (Err d) f g y e = absurd cc

pub checked_ok : {A : Type 0} (test : Bool) (x y : A) → tested test x ≡ Ok y → (test ≡ true) × (x ≡ y)
checked_ok true x y e = (refl, cc)
checked_ok false x y e = absurd cc

guard_ok : {A : Type 0} (b : Bool) (d : StreamFault) (x y : A) → cond b (Err d) (Ok x) ≡ Ok y → (b ≡ false) × (x ≡ y)
guard_ok true d x y e = absurd cc
guard_ok false d x y e = (refl, cc)

abbrev done : {A : Type 0} → A → Result A StreamFault
done x = Ok x

pub ok_is : {A : Type 0} (x y : A) → done x ≡ done y → x ≡ y
ok_is x y e = cc

-- what a reader took from the front
pub record Takes (bytes text rest : List ℕ) : Type 0 where
  pub parts : bytes ≡ text ++ rest
  pub rest_fits : IsBytes rest

pub Takes-then : (a x b y c : List ℕ) → Takes a x b → Takes b y c → Takes a (x ++ y) c
Takes-then a x b y c p q = record { parts = p.parts ∙ ap (λ (t : List ℕ). x ++ t) q.parts ∙ sym (append_assoc x y c); rest_fits = q.rest_fits }

-- a reader reads the texts of the values that fit, and nothing else
pub record IsReader {A : Type 0} (read : List ℕ → Result (A × List ℕ) StreamFault) (text : A → List ℕ) (Fits : A → Type 0) : Type 0 where
  pub takes : (bytes : List ℕ) (x : A × List ℕ) → IsBytes bytes → read bytes ≡ Ok x → Takes bytes (text x.0) x.1 × Fits x.0
  pub again : (a : A) (rest : List ℕ) → Fits a → read (text a ++ rest) ≡ Ok (a, rest)

-- One, two or three fields in a row, and then some step

pub one_takes : {A C : Type 0} {ra : List ℕ → Result (A × List ℕ) StreamFault} {ta : A → List ℕ} {Fa : A → Type 0}
    (a : IsReader ra ta Fa) (k : A → List ℕ → Result C StreamFault) (bytes : List ℕ) (y : C) → IsBytes bytes → (ra bytes >>= λ x. k x.0 x.1) ≡ Ok y
    → (x : A) × (rest : List ℕ) × Takes bytes (ta x) rest × Fa x × (k x rest ≡ Ok y)
one_takes {ra = ra} a k bytes y fits e =
    let p = bind_ok (ra bytes) (λ x. k x.0 x.1) y e in
    let t = a.takes bytes p.0 fits p.1 in
    (p.0.0, p.0.1, t.0, t.1, p.2)

pub one_again : {A C : Type 0} {ra : List ℕ → Result (A × List ℕ) StreamFault} {ta : A → List ℕ} {Fa : A → Type 0}
    (a : IsReader ra ta Fa) (k : A → List ℕ → Result C StreamFault) (x : A) (rest : List ℕ) → Fa x → (ra (ta x ++ rest) >>= λ x. k x.0 x.1) ≡ k x rest
one_again a k x rest fx = rw (a.again x rest fx) refl

pub two_takes : {A B C : Type 0} {ra : List ℕ → Result (A × List ℕ) StreamFault} {ta : A → List ℕ} {Fa : A → Type 0} {rb : List ℕ → Result (B × List ℕ) StreamFault} {tb : B → List ℕ} {Fb : B → Type 0}
    (a : IsReader ra ta Fa) (b : IsReader rb tb Fb) (k : A → B → List ℕ → Result C StreamFault) (bytes : List ℕ) (y : C) → IsBytes bytes → (ra bytes >>= λ x. rb x.1 >>= λ z. k x.0 z.0 z.1) ≡ Ok y
    → (x : A) × (z : B) × (rest : List ℕ) × Takes bytes (ta x ++ tb z) rest × Fa x × Fb z × (k x z rest ≡ Ok y)
two_takes {ta = ta} {rb = rb} {tb = tb} a b k bytes y fits e =
    let p = one_takes a (λ x rest. rb rest >>= λ z. k x z.0 z.1) bytes y fits e in
    let q = one_takes b (λ z rest. k p.0 z rest) p.1 y p.2.rest_fits p.4 in
    (p.0, q.0, q.1, Takes-then bytes (ta p.0) p.1 (tb q.0) q.1 p.2 q.2, p.3, q.3, q.4)

pub two_again : {A B C : Type 0} {ra : List ℕ → Result (A × List ℕ) StreamFault} {ta : A → List ℕ} {Fa : A → Type 0} {rb : List ℕ → Result (B × List ℕ) StreamFault} {tb : B → List ℕ} {Fb : B → Type 0}
    (a : IsReader ra ta Fa) (b : IsReader rb tb Fb) (k : A → B → List ℕ → Result C StreamFault) (x : A) (z : B) (rest : List ℕ) → Fa x → Fb z
    → (ra ((ta x ++ tb z) ++ rest) >>= λ x. rb x.1 >>= λ z. k x.0 z.0 z.1) ≡ k x z rest
two_again {ta = ta} {rb = rb} {tb = tb} a b k x z rest fx fz =
    rw (append_assoc (ta x) (tb z) rest) (one_again a (λ x rest. rb rest >>= λ z. k x z.0 z.1) x (tb z ++ rest) fx ∙ one_again b (λ z rest. k x z rest) z rest fz)

pub three_takes : {A B D C : Type 0} {ra : List ℕ → Result (A × List ℕ) StreamFault} {ta : A → List ℕ} {Fa : A → Type 0} {rb : List ℕ → Result (B × List ℕ) StreamFault} {tb : B → List ℕ} {Fb : B → Type 0} {rd : List ℕ → Result (D × List ℕ) StreamFault} {td : D → List ℕ} {Fd : D → Type 0}
    (a : IsReader ra ta Fa) (b : IsReader rb tb Fb) (d : IsReader rd td Fd) (k : A → B → D → List ℕ → Result C StreamFault) (bytes : List ℕ) (y : C) → IsBytes bytes
    → (ra bytes >>= λ x. rb x.1 >>= λ z. rd z.1 >>= λ w. k x.0 z.0 w.0 w.1) ≡ Ok y
    → (x : A) × (z : B) × (w : D) × (rest : List ℕ) × Takes bytes ((ta x ++ tb z) ++ td w) rest × Fa x × Fb z × Fd w × (k x z w rest ≡ Ok y)
three_takes {ta = ta} {tb = tb} {rd = rd} {td = td} a b d k bytes y fits e =
    let p = two_takes a b (λ x z rest. rd rest >>= λ w. k x z w.0 w.1) bytes y fits e in
    let q = one_takes d (λ w rest. k p.0 p.1 w rest) p.2 y p.3.rest_fits p.6 in
    (p.0, p.1, q.0, q.1, Takes-then bytes (ta p.0 ++ tb p.1) p.2 (td q.0) q.1 p.3 q.2, p.4, p.5, q.3, q.4)

pub three_again : {A B D C : Type 0} {ra : List ℕ → Result (A × List ℕ) StreamFault} {ta : A → List ℕ} {Fa : A → Type 0} {rb : List ℕ → Result (B × List ℕ) StreamFault} {tb : B → List ℕ} {Fb : B → Type 0} {rd : List ℕ → Result (D × List ℕ) StreamFault} {td : D → List ℕ} {Fd : D → Type 0}
    (a : IsReader ra ta Fa) (b : IsReader rb tb Fb) (d : IsReader rd td Fd) (k : A → B → D → List ℕ → Result C StreamFault) (x : A) (z : B) (w : D) (rest : List ℕ) → Fa x → Fb z → Fd w
    → (ra (((ta x ++ tb z) ++ td w) ++ rest) >>= λ x. rb x.1 >>= λ z. rd z.1 >>= λ w. k x.0 z.0 w.0 w.1) ≡ k x z w rest
three_again {ta = ta} {tb = tb} {rd = rd} {td = td} a b d k x z w rest fx fz fw =
    rw (append_assoc (ta x ++ tb z) (td w) rest) (two_again a b (λ x z rest. rd rest >>= λ w. k x z w.0 w.1) x z (td w ++ rest) fx fz ∙ one_again d (λ w rest. k x z w rest) w rest fw)

-- Numbers, bytes, and the bytes of a page

pub record IsWide (w : Width) (limit : ℕ) : Type 0 where
  pub len : (n : ℕ) → length (to_be_bytes w n) ≡ byte_len w
  pub back : (bytes : List ℕ) → length bytes ≡ byte_len w → IsBytes bytes → to_be_bytes w (from_be_bytes w bytes) ≡ bytes
  pub again : (n : ℕ) → n < limit → from_be_bytes w (to_be_bytes w n) ≡ n
  pub below : (bytes : List ℕ) → IsBytes bytes → from_be_bytes w bytes < limit

wide32 : IsWide w32 (2 ^ 32)
wide32 = record {
  len = λ n. refl;
  back = λ bytes len fits. be_bytes_4 bytes _ len fits refl;
  again = λ n lt. from_be_bytes-to_be_bytes_4 n lt;
  below = λ bytes fits. omega (arith, fits 0, fits 1, fits 2, fits 3);
}

wide64 : IsWide w64 (2 ^ 64)
wide64 = record {
  len = λ n. refl;
  back = λ bytes len fits. be_bytes_8 bytes _ len fits refl;
  again = λ n lt. from_be_bytes-to_be_bytes_8 n lt;
  below = λ bytes fits. omega (arith, fits 0, fits 1, fits 2, fits 3, fits 4, fits 5, fits 6, fits 7);
}

number_takes : (w : Width) (limit : ℕ) (wide : IsWide w limit) (bytes : List ℕ) (x : ℕ × List ℕ) → IsBytes bytes → number_in w bytes ≡ Ok x → Takes bytes (to_be_bytes w x.0) x.1 × (x.0 < limit)
number_takes w limit wide bytes x fits e =
    let g = guard_ok (ltb (length bytes) (byte_len w)) faults.BadField (from_be_bytes w (take (byte_len w) bytes), drop (byte_len w) bytes) x e in
    let long : byte_len w ≤ length bytes = ltb-false _ _ g.0 in
    let n-is : from_be_bytes w (take (byte_len w) bytes) ≡ x.0 = ap (λ (p : ℕ × List ℕ). p.0) g.1 in
    let rest-is : drop (byte_len w) bytes ≡ x.1 = ap (λ (p : ℕ × List ℕ). p.1) g.1 in
    let front : to_be_bytes w x.0 ≡ take (byte_len w) bytes = rw (← n-is) (wide.back (take (byte_len w) bytes) (omega (arith, length-take (byte_len w) bytes)) (IsBytes-take (byte_len w) bytes fits)) in
    (record { parts = rw (front, ← rest-is) (sym (take-append-drop (byte_len w) bytes)); rest_fits = rw (← rest-is) (IsBytes-drop (byte_len w) bytes fits) }, rw (← n-is) (wide.below (take (byte_len w) bytes) (IsBytes-take (byte_len w) bytes fits)))

number_again : (w : Width) (limit : ℕ) (wide : IsWide w limit) (n : ℕ) (rest : List ℕ) → n < limit → number_in w (to_be_bytes w n ++ rest) ≡ Ok (n, rest)
number_again w limit wide n rest lt =
    let len = wide.len n in
    let long : ltb (length (to_be_bytes w n ++ rest)) (byte_len w) ≡ false = le-ltb _ _ (omega (arith, length-append (to_be_bytes w n) rest)) in
    rw (long, take_at (to_be_bytes w n) rest (byte_len w) len, drop_at (to_be_bytes w n) rest (byte_len w) len, wide.again n lt) refl

pub reads_32 : IsReader (number_in w32) (to_be_bytes w32) (λ n. n < 2 ^ 32)
reads_32 = record { takes = number_takes w32 (2 ^ 32) wide32; again = number_again w32 (2 ^ 32) wide32 }

pub reads_64 : IsReader (number_in w64) (to_be_bytes w64) (λ n. n < 2 ^ 64)
reads_64 = record { takes = number_takes w64 (2 ^ 64) wide64; again = number_again w64 (2 ^ 64) wide64 }

abbrev pub byte_text : ℕ → List ℕ
byte_text b = b ∷ []

byte_takes : (bytes : List ℕ) (x : ℕ × List ℕ) → IsBytes bytes → byte_at bytes ≡ Ok x → Takes bytes (byte_text x.0) x.1 × (x.0 < 256)
byte_takes [] x fits e = absurd cc
byte_takes (b ∷ bytes) x fits e =
    subst (λ (x : ℕ × List ℕ). Takes (b ∷ bytes) (byte_text x.0) x.1 × (x.0 < 256)) (ok_is (b, bytes) x e) (record { parts = refl; rest_fits = IsBytes-rest b bytes fits }, fits 0)

pub reads_byte : IsReader byte_at byte_text (λ b. b < 256)
reads_byte = record { takes = byte_takes; again = λ b rest lt. refl }

all_bytes : (bytes : List ℕ) → IsBytes bytes → All (λ byte. byte < 256) bytes
all_bytes bytes fits k d lt = rw (get_or_default bytes k d 0 lt) (fits k)

abbrev pub content_text : List ℕ → List ℕ
content_text bytes = bytes

content_takes : (bytes : List ℕ) (x : List ℕ × List ℕ) → IsBytes bytes → content_at bytes ≡ Ok x → Takes bytes x.0 x.1 × IsPageBytes x.0
unfolding content_at
content_takes bytes x fits e =
    let g = guard_ok (ltb (length bytes) PAGE_SIZE) faults.BadField (take PAGE_SIZE bytes, drop PAGE_SIZE bytes) x e in
    let long : 4096 ≤ length bytes = ltb-false _ _ g.0 in
    subst (λ (x : List ℕ × List ℕ). Takes bytes x.0 x.1 × IsPageBytes x.0) g.1
    (record { parts = sym (take-append-drop PAGE_SIZE bytes); rest_fits = IsBytes-drop PAGE_SIZE bytes fits }, (omega (arith, length-take PAGE_SIZE bytes), all_bytes (take PAGE_SIZE bytes) (IsBytes-take PAGE_SIZE bytes fits)))

content_again : (a rest : List ℕ) → IsPageBytes a → content_at (a ++ rest) ≡ Ok (a, rest)
unfolding content_at
content_again a rest h =
    let len = h.0 in
    let long : ltb (length (a ++ rest)) PAGE_SIZE ≡ false = le-ltb _ _ (omega (arith, len, length-append a rest)) in
    rw (long, take_at a rest PAGE_SIZE len, drop_at a rest PAGE_SIZE len) refl

pub reads_content : IsReader content_at content_text IsPageBytes
reads_content = record { takes = content_takes; again = content_again }

-- As many items as a count says

-- each item fits after those before it
abbrev pub AllFrom : {S A : Type 0} → (Fits : S → A → Type 0) → (next : S → A → S) → S → List A → Type 0
AllFrom Fits next state [] = Unit {0}
AllFrom Fits next state (x ∷ xs) = Fits state x × AllFrom Fits next (next state x) xs

many_takes : {S A : Type 0} {item : S → List ℕ → Result (A × List ℕ) StreamFault} {text : A → List ℕ} {Fits : S → A → Type 0} (r : (state : S) → IsReader (item state) text (Fits state)) (next : S → A → S)
    (state : S) (n : ℕ) (bytes : List ℕ) (x : List A × List ℕ) → IsBytes bytes → many_from item next state n bytes ≡ Ok x → Takes bytes (flat_map text x.0) x.1 × (length x.0 ≡ n) × AllFrom Fits next state x.0
unfolding many_from
many_takes {A = A} {text = text} {Fits = Fits} r next state zero bytes x fits e =
    subst (λ (y : List A × List ℕ). Takes bytes (flat_map text y.0) y.1 × (length y.0 ≡ 0) × AllFrom Fits next state y.0) (ok_is ([], bytes) x e) (record { parts = refl; rest_fits = fits }, refl, tt)
many_takes {A = A} {item = item} {text = text} {Fits = Fits} r next state (suc n) bytes x fits e =
    let a = bind_ok (item state bytes) (λ first. many_from item next (next state first.0) n first.1 >>= λ others. Ok (first.0 ∷ others.0, others.1)) x e in
    let b = bind_ok (many_from item next (next state a.0.0) n a.0.1) (λ others. Ok (a.0.0 ∷ others.0, others.1)) x a.2 in
    let first = (r state).takes bytes a.0 fits a.1 in
    let second = many_takes r next (next state a.0.0) n a.0.1 b.0 first.0.rest_fits b.1 in
    let both = Takes-then bytes (text a.0.0) a.0.1 (flat_map text b.0.0) b.0.1 first.0 second.0 in
    let made : List A × List ℕ = (a.0.0 ∷ b.0.0, b.0.1) in
    subst (λ (y : List A × List ℕ). Takes bytes (flat_map text y.0) y.1 × (length y.0 ≡ suc n) × AllFrom Fits next state y.0) {x = made} {y = x} (ok_is made x b.2) (rw flat_map-cons both, ap suc second.1, (first.1, second.2))

many_again : {S A : Type 0} {item : S → List ℕ → Result (A × List ℕ) StreamFault} {text : A → List ℕ} {Fits : S → A → Type 0} (r : (state : S) → IsReader (item state) text (Fits state)) (next : S → A → S)
    (state : S) (xs : List A) (rest : List ℕ) → AllFrom Fits next state xs → many_from item next state (length xs) (flat_map text xs ++ rest) ≡ Ok (xs, rest)
unfolding many_from
many_again r next state [] rest fits = refl
many_again {item = item} {text = text} r next state (x ∷ xs) rest fits =
    let regrouped : flat_map text (x ∷ xs) ++ rest ≡ text x ++ (flat_map text xs ++ rest) = ap (λ (t : List ℕ). t ++ rest) (flat_map-cons text x xs) ∙ append_assoc (text x) (flat_map text xs) rest in
    ap (many_from item next state (suc (length xs))) regrouped ∙ rw ((r state).again x (flat_map text xs ++ rest) fits.0, many_again r next (next state x) xs rest fits.1) refl

-- a count, which a reader reads, and that many items
pub counted_takes : {S A : Type 0} {count : List ℕ → Result (ℕ × List ℕ) StreamFault} {ct : ℕ → List ℕ} {Fc : ℕ → Type 0} (c : IsReader count ct Fc)
    {item : S → List ℕ → Result (A × List ℕ) StreamFault} {text : A → List ℕ} {Fits : S → A → Type 0} (r : (state : S) → IsReader (item state) text (Fits state)) (next : S → A → S)
    (state : S) (bytes : List ℕ) (x : List A × List ℕ) → IsBytes bytes → (count bytes >>= λ n. many_from item next state n.0 n.1) ≡ Ok x
    → Takes bytes (ct (length x.0) ++ flat_map text x.0) x.1 × Fc (length x.0) × AllFrom Fits next state x.0
counted_takes {ct = ct} {Fc = Fc} c {item = item} {text = text} r next state bytes x fits e =
    let p = one_takes c (λ n rest. many_from item next state n rest) bytes x fits e in
    let m = many_takes r next state p.0 p.1 x p.2.rest_fits p.4 in
    let both = Takes-then bytes (ct p.0) p.1 (flat_map text x.0) x.1 p.2 m.0 in
    (subst (λ (n : ℕ). Takes bytes (ct n ++ flat_map text x.0) x.1) (sym m.1) both, subst Fc (sym m.1) p.3, m.2)

pub counted_again : {S A : Type 0} {count : List ℕ → Result (ℕ × List ℕ) StreamFault} {ct : ℕ → List ℕ} {Fc : ℕ → Type 0} (c : IsReader count ct Fc)
    {item : S → List ℕ → Result (A × List ℕ) StreamFault} {text : A → List ℕ} {Fits : S → A → Type 0} (r : (state : S) → IsReader (item state) text (Fits state)) (next : S → A → S)
    (state : S) (xs : List A) (rest : List ℕ) → Fc (length xs) → AllFrom Fits next state xs → (count ((ct (length xs) ++ flat_map text xs) ++ rest) >>= λ n. many_from item next state n.0 n.1) ≡ Ok (xs, rest)
counted_again {ct = ct} c {item = item} {text = text} r next state xs rest fc fits =
    rw (append_assoc (ct (length xs)) (flat_map text xs) rest) (one_again c (λ n rest. many_from item next state n rest) (length xs) (flat_map text xs ++ rest) fc ∙ many_again r next state xs rest fits)
