-- Answers, seats and how many there are.
use Rattle.std.proofs.Common.{◌≡◌, ℕ, suc, zero, List, [], ◌∷◌, ◌++◌, refl, sym, ap, ◌∙◌, ◌<◌, ◌≤◌, ◌+◌, length, length-append, append-nil, Bool, true, false, arith, subst, if◌then◌else◌, ◌==◌, inl, inr, get_or}
use Rattle.std.proofs.Math.Nat.{eq-or-lt_of_le}
use Rattle.std.proofs.lemmas.Bool.Decides.{nat_tests}
use Rattle.std.proofs.lemmas.Bool.{false≢true}
use Rattle.std.specs.List.{All}
use Rattle.std.proofs.lemmas.List.Elements.{All-head, All-tail}
use Rattle.mig_base.specs.declared.TheConstants.{MAX_CPUS}
use Rattle.mig_base.specs.declared.command.Entry.{Entry}
use Rattle.rig.specs.declared.seat.Answer.{Answer}
use Rattle.std.specs.Prelude.{Result, Ok, Err, IfOk}
use Rattle.mig_model.specs.Migration.{World}
use Rattle.rig.specs.Seats.{Seat, Handed, values_of, seats_of, list_of, answers_of, entry_answer, calls_of, AreAnswered, IsRight}

same-number : (m n : ℕ) → m ≡ n → (m == n) ≡ true
same-number m n same = grind (arith, nat_tests)

-- no seat, no list
none-by : (list rest : List Answer) (count : ℕ) (b : Bool) → (count ≡ 0 → rest ≡ []) → (if b then 1 else 0) + count ≡ 0 → (if b then list ++ rest else rest) ≡ []
none-by list rest count true empty none = absurd (omega arith)
none-by list rest count false empty none = empty (omega arith)

pub list_of-none : (k : ℕ) (seats : List Seat) → seats_of k seats ≡ 0 → list_of k seats ≡ []
list_of-none k [] none = refl
list_of-none k (s ∷ ss) none = none-by s.answers (list_of k ss) (seats_of k ss) (s.cpu == k) (list_of-none k ss) none

-- a number for each processor, added up
unfoldable total : ℕ → (ℕ → ℕ) → ℕ
total zero f = 0
total (suc n) f = total n f + f n

total-same : (n : ℕ) (f g : ℕ → ℕ) → ((k : ℕ) → k < n → f k ≡ g k) → total n f ≡ total n g
unfolding total
total-same zero f g same = refl
total-same (suc n) f g same =
    let below : total n f ≡ total n g = total-same n f g (λ k less. same k (omega arith)) in
    let here : f n ≡ g n = same n (omega arith) in
    omega arith

total-plus : (n : ℕ) (f g : ℕ → ℕ) → total n (λ k. f k + g k) ≡ total n f + total n g
unfolding total
total-plus zero f g = omega arith
total-plus (suc n) f g = let below : total n (λ k. f k + g k) ≡ total n f + total n g = total-plus n f g in omega arith

total-empty : (n : ℕ) → total n (λ k. 0) ≡ 0
unfolding total
total-empty zero = refl
total-empty (suc n) = let below : total n (λ k. 0) ≡ 0 = total-empty n in omega arith

-- only the number c weighs
is-c : (c n w : ℕ) → c ≡ n → (if c == n then w else 0) ≡ w
is-c c n w same = grind (arith, nat_tests)

not-c : (c n w : ℕ) → (c ≡ n → ⊥) → (if c == n then w else 0) ≡ 0
not-c c n w other = grind (arith, nat_tests)

total-none : (n c w : ℕ) → n ≤ c → total n (λ k. if c == k then w else 0) ≡ 0
unfolding total
total-none zero c w past = refl
total-none (suc n) c w past =
    let below : total n (λ k. if c == k then w else 0) ≡ 0 = total-none n c w (omega arith) in
    let here : (if c == n then w else 0) ≡ 0 = not-c c n w (λ same. omega arith) in
    omega arith

total-one : (n c w : ℕ) → c < n → total n (λ k. if c == k then w else 0) ≡ w
unfolding total
total-one zero c w below = absurd (omega arith)
total-one (suc n) c w below =
    let least : c ≤ n = omega arith in
    elim (eq-or-lt_of_le least) [
      | inl same ↦
          let rest : total n (λ k. if c == k then w else 0) ≡ 0 = total-none n c w (omega arith) in
          let here : (if c == n then w else 0) ≡ w = is-c c n w same in
          omega arith
      | inr less ↦
          let rest : total n (λ k. if c == k then w else 0) ≡ w = total-one n c w less in
          let here : (if c == n then w else 0) ≡ 0 = not-c c n w (λ same. omega arith) in
          omega arith
    ]

-- the lengths of all items, added up
weight : (X Y : Type 0) → (X → List Y) → List X → ℕ
weight X Y value [] = 0
weight X Y value (x ∷ xs) = length (value x) + weight X Y value xs

picked-more : {Y : Type 0} (list rest : List Y) (b : Bool) → length (if b then list ++ rest else rest) ≡ (if b then length list else 0) + length rest
picked-more list rest true = length-append list rest
picked-more list rest false = omega arith

picked-total : (X Y : Type 0) (number : X → ℕ) (value : X → List Y) (n : ℕ) (xs : List X) → All (λ x. number x < n) xs → total n (λ k. length (values_of number value k xs)) ≡ weight X Y value xs
unfolding weight
picked-total X Y number value n [] all = total-empty n
picked-total X Y number value n (x ∷ xs) all =
    let rest : total n (λ k. length (values_of number value k xs)) ≡ weight X Y value xs = picked-total X Y number value n xs (All-tail (λ x. number x < n) x xs all) in
    let one : total n (λ k. if number x == k then length (value x) else 0) ≡ length (value x) = total-one n (number x) (length (value x)) (All-head (λ x. number x < n) x xs all) in
    let split : total n (λ k. length (values_of number value k (x ∷ xs))) ≡ total n (λ k. (if number x == k then length (value x) else 0) + length (values_of number value k xs)) =
    total-same n (λ k. length (values_of number value k (x ∷ xs))) (λ k. (if number x == k then length (value x) else 0) + length (values_of number value k xs)) (λ k less. picked-more (value x) (values_of number value k xs) (number x == k)) in
    let plus : total n (λ k. (if number x == k then length (value x) else 0) + length (values_of number value k xs)) ≡ total n (λ k. if number x == k then length (value x) else 0) + total n (λ k. length (values_of number value k xs)) =
    total-plus n (λ k. if number x == k then length (value x) else 0) (λ k. length (values_of number value k xs)) in
    omega arith

weight-entries : (entries : List Entry) → weight Entry Answer (λ e. entry_answer e ∷ []) entries ≡ length entries
unfolding weight
weight-entries [] = refl
weight-entries (e ∷ es) = let rest : weight Entry Answer (λ e. entry_answer e ∷ []) es ≡ length es = weight-entries es in omega arith

weight-seats : (seats : List Seat) → weight Seat Answer (λ s. s.answers) seats ≡ calls_of seats
unfolding weight
weight-seats [] = refl
weight-seats (s ∷ ss) = let rest : weight Seat Answer (λ s. s.answers) ss ≡ calls_of ss = weight-seats ss in omega arith

few : {X : Type 0} (number : X → ℕ) (m n : ℕ) (xs : List X) → m ≤ n → All (λ x. number x < m) xs → All (λ x. number x < n) xs
few number m n xs most all k d inside = let one : number (get_or xs k d) < m = all k d inside in omega arith

-- the entries are those of the opening transcript, and one for each answer of a seat
pub counted : (rig : Handed) (seats : List Seat) (entries : List Entry) (cpus n : ℕ) → ((k : ℕ) → k < n → IsRight rig seats entries cpus k) → All (λ e. e.cpu < n) entries → All (λ e. e.cpu < n) rig.opening → All (λ s. s.cpu < n) seats → length entries ≡ length rig.opening + calls_of seats
counted rig seats entries cpus n right all_entries all_opening all_seats =
    let one : total n (λ k. length (answers_of k entries)) ≡ length entries = picked-total Entry Answer (λ e. e.cpu) (λ e. entry_answer e ∷ []) n entries all_entries ∙ weight-entries entries in
    let two : total n (λ k. length (answers_of k rig.opening)) ≡ length rig.opening = picked-total Entry Answer (λ e. e.cpu) (λ e. entry_answer e ∷ []) n rig.opening all_opening ∙ weight-entries rig.opening in
    let three : total n (λ k. length (list_of k seats)) ≡ calls_of seats = picked-total Seat Answer (λ s. s.cpu) (λ s. s.answers) n seats all_seats ∙ weight-seats seats in
    let split : total n (λ k. length (answers_of k entries)) ≡ total n (λ k. length (answers_of k rig.opening) + length (list_of k seats)) =
    total-same n (λ k. length (answers_of k entries)) (λ k. length (answers_of k rig.opening) + length (list_of k seats)) (λ k less. ap length (right k less).answers ∙ length-append (answers_of k rig.opening) (list_of k seats)) in
    let plus : total n (λ k. length (answers_of k rig.opening) + length (list_of k seats)) ≡ total n (λ k. length (answers_of k rig.opening)) + total n (λ k. length (list_of k seats)) =
    total-plus n (λ k. length (answers_of k rig.opening)) (λ k. length (list_of k seats)) in
    omega arith

pub few_entries : (m n : ℕ) (entries : List Entry) → m ≤ n → All (λ e. e.cpu < m) entries → All (λ e. e.cpu < n) entries
few_entries m n entries most all = few (λ e. e.cpu) m n entries most all

-- the first seat is the processor's only one
first-by : (k : ℕ) (list rest : List Answer) (count : ℕ) (b : Bool) → b ≡ true → (count ≡ 0 → rest ≡ []) → (if b then 1 else 0) + count ≤ 1 → (if b then list ++ rest else rest) ≡ list
first-by k list rest count true is empty once = ap (λ r. list ++ r) (empty (omega arith)) ∙ append-nil list
first-by k list rest count false is empty once = absurd (false≢true is)

pub list_of-first : (k : ℕ) (seats : List Seat) (d : Seat) → 1 ≤ length seats → (get_or seats 0 d).cpu ≡ k → seats_of k seats ≤ 1 → list_of k seats ≡ (get_or seats 0 d).answers
list_of-first k [] d some is once = absurd (omega arith)
list_of-first k (s ∷ ss) d some is once =
    let same : (s.cpu == k) ≡ true = same-number s.cpu k is in
    first-by k s.answers (list_of k ss) (seats_of k ss) (s.cpu == k) same (list_of-none k ss) once

-- one answer more on both sides
behind_of : List Answer → List Answer
behind_of [] = []
behind_of (x ∷ xs) = xs

pub continues-more : (here wanted behind rest : List Answer) (x y : Answer) (P : Type 0) → here ≡ x ∷ behind → wanted ≡ y ∷ rest → x ≡ y → (here ≡ wanted → P) × (P → here ≡ wanted) → (behind ≡ rest → P) × (P → behind ≡ rest)
unfolding behind_of
continues-more here wanted behind rest x y P h w same kept =
    (λ e. kept.0 (h ∙ ap (λ xs. x ∷ xs) e ∙ ap (λ z. z ∷ rest) same ∙ sym w), λ p. ap behind_of (sym h ∙ kept.1 p ∙ w))

-- what a rig keeps of the world that it is given
pub kept_opening : (entries opening : List Entry) (handed cpus count : ℕ) → opening ≡ entries → handed ≡ cpus → cpus ≡ count → (1 ≤ cpus) × (cpus ≤ MAX_CPUS) → All (λ e. e.cpu < count) entries →
    All (λ e. e.cpu < handed) opening × (handed ≤ MAX_CPUS)
kept_opening entries opening handed cpus count same many is range within =
    let most : cpus ≤ MAX_CPUS = range.1 in
    (subst (λ es. All (λ e. e.cpu < handed) es) (sym same) (subst (λ n. All (λ e. e.cpu < n) entries) (sym (many ∙ is)) within), subst (λ n. n ≤ MAX_CPUS) (sym many) most)

pub few_number : (k cpus count : ℕ) → cpus ≡ count → (1 ≤ cpus) × (cpus ≤ MAX_CPUS) → k < count → k < MAX_CPUS
few_number k cpus count is range less = let most : cpus ≤ MAX_CPUS = range.1 in omega arith

-- what was tested is what the rig has
pub same_right : {opening kept : List Entry} → {handed flags : List Bool} → {rig : Handed} → {seats others : List Seat} → {entries told : List Entry} → {cpus count k : ℕ} → opening ≡ kept → handed ≡ flags →
    record { opening = kept; handed = flags } ≡ rig → seats ≡ others → entries ≡ told → cpus ≡ count → IsRight (record { opening = opening; handed = handed }) seats entries cpus k → IsRight rig others told count k
same_right {opening} {kept} {handed} {flags} {rig} {seats} {others} {entries} {told} {cpus} {count} {k} opens flagged same seated like is right =
    let one : IsRight (record { opening = kept; handed = handed }) seats entries cpus k = subst (λ (o : List Entry). IsRight (record { opening = o; handed = handed }) seats entries cpus k) opens right in
    let two : IsRight (record { opening = kept; handed = flags }) seats entries cpus k = subst (λ (h : List Bool). IsRight (record { opening = kept; handed = h }) seats entries cpus k) flagged one in
    let three : IsRight rig seats entries cpus k = subst (λ (r : Handed). IsRight r seats entries cpus k) same two in
    let four : IsRight rig others entries cpus k = subst (λ (ss : List Seat). IsRight rig ss entries cpus k) seated three in
    let five : IsRight rig others told cpus k = subst (λ (es : List Entry). IsRight rig others es cpus k) like four in
    subst (λ (n : ℕ). IsRight rig others told n k) is five

-- the parts of what a rig that was closed without a fault promises
pub answered-answers : {E : Type 0} → (rig : Handed) (seats : List Seat) (result : Result World E) → IfOk result (λ world. AreAnswered rig seats world.transcript (length world.source.guest.cpus)) →
    IfOk result (λ world. (k : ℕ) → k < length world.source.guest.cpus → answers_of k world.transcript ≡ answers_of k rig.opening ++ list_of k seats)
answered-answers rig seats (Ok world) is = is.answers
answered-answers rig seats (Err fault) is = tt

pub answered-once : {E : Type 0} → (rig : Handed) (seats : List Seat) (result : Result World E) → IfOk result (λ world. AreAnswered rig seats world.transcript (length world.source.guest.cpus)) →
    IfOk result (λ world. (k : ℕ) → k < length world.source.guest.cpus → seats_of k seats ≤ 1)
answered-once rig seats (Ok world) is = is.once
answered-once rig seats (Err fault) is = tt
