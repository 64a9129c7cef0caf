-- How what was found grows, and that a list that is closed under the moves is whole.
use Rattle.std.proofs.Common.{◌≡◌, ℕ, ◌+◌, ◌<◌, ◌≤◌, List, [], ◌∷◌, ◌++◌, length, get_or, take, arith, refl, sym, ◌∙◌, ap, subst, inl, inr, append_assoc, length-append}
use Rattle.std.proofs.Math.ListN.{get_or-append}
use Rattle.std.proofs.Math.Seq.{get_or-append_seam}
use Rattle.std.proofs.lemmas.Bool.{cases_lt}
use Rattle.std.proofs.lemmas.List.{append-nil, get_or_default, get_or-map, length-map, map-append, take-append-le, take_all, take_more}
use Rattle.std.proofs.lemmas.List.Elements.{All-push, All-head, All-tail, Contains-append_left, Contains-get_or, Contains-push, Contains-push_cases}
use Rattle.std.specs.List.{All, Contains}
use Rattle.reachable.specs.declared.found.Found.{Found}
use Rattle.reachable.specs.Reachable.{after, Leads, AreDistinct, AreSound, AreFollowed, Grows, states_of, AreAll}

-- a state that is not there stays apart from those that are
pub distinct-push : {S : Type 0} (states : List S) (state : S) → AreDistinct states → (Contains states state → ⊥) → AreDistinct (states ++ state ∷ [])
distinct-push states state distinct new i j d lt within same =
    let longer : length (states ++ state ∷ []) ≡ length states + 1 = length-append states (state ∷ []) in
    let i_in : i < length states = omega arith in
    elim (cases_lt j (length states)) [
      | inl below ↦ distinct i j d lt below (sym (get_or-append states (state ∷ []) d i i_in) ∙ same ∙ get_or-append states (state ∷ []) d j below)
      | inr past ↦
          let last : j ≡ length states = omega arith in
          let is_last : get_or (states ++ state ∷ []) j d ≡ state = rw last (get_or-append_seam states state [] d) in
          let same_state : get_or states i d ≡ state = sym (get_or-append states (state ∷ []) d i i_in) ∙ same ∙ is_last in
          new (subst (Contains states) same_state (Contains-get_or states i d i_in))
    ]

-- one move more
pub after-push : {S M : Type 0} (next : S → M → S) (state : S) (path : List M) (step : M) → after next state (path ++ step ∷ []) ≡ next (after next state path) step
after-push next state [] step = refl
after-push next state (x ∷ path) step = after-push next (next state x) path step

pub leads-push : {S M : Type 0} (next : S → M → S) (moves : List M) (first : S) (path : List M) (state : S) (step : M) → Leads next moves first path state → Contains moves step → Leads next moves first (path ++ step ∷ []) (next state step)
leads-push next moves first path state step leads among = record {
  among = All-push (Contains moves) path step leads.among among;
  is = ap (λ s. next s step) leads.is ∙ sym (after-push next first path step);
}

-- a sound list that grows by a state to which a move leads from one of its own
pub sound-push : {S M : Type 0} (next : S → M → S) (moves : List M) (first : S) (found : List (Found S M)) (from : ℕ) (step : M) (new : Found S M)
    → AreSound next moves first found → from < length found → Contains moves step → new.path.items ≡ (get_or found from new).path.items ++ step ∷ []
    → new.state ≡ next (get_or found from new).state step → (Contains (states_of found) new.state → ⊥) → AreSound next moves first (found ++ new ∷ [])
sound-push {S} {M} next moves first found from step new sound within among path state absent =
    let place : Found S M = get_or found from new in
    let led : Leads next moves first (place.path.items ++ step ∷ []) (next place.state step) = leads-push next moves first place.path.items place.state step (sound.leads from new within) among in
    let led_here : Leads next moves first new.path.items new.state =
    subst (λ (p : List M). Leads next moves first p new.state) (sym path) (subst (λ (s : S). Leads next moves first (place.path.items ++ step ∷ []) s) (sym state) led) in
    let longer : states_of (found ++ new ∷ []) ≡ states_of found ++ new.state ∷ [] = map-append (λ (it : Found S M). it.state) found (new ∷ []) in
    record {
      leads = All-push (λ (it : Found S M). Leads next moves first it.path.items it.state) found new sound.leads led_here;
      begins = subst (λ (states : List S). Contains states first) (sym longer) (Contains-append_left (states_of found) (new.state ∷ []) first sound.begins);
      distinct = subst (λ (states : List S). AreDistinct states) (sym longer) (distinct-push (states_of found) new.state sound.distinct absent);
    }

-- the list grows by it
pub grows-push : {S M : Type 0} (next : S → M → S) (moves : List M) (found : List (Found S M)) (from : ℕ) (step : M) (new : Found S M)
    → from < length found → Contains moves step → new.path.items ≡ (get_or found from new).path.items ++ step ∷ []
    → new.state ≡ next (get_or found from new).state step → (Contains (states_of found) new.state → ⊥) → Grows next moves found (found ++ new ∷ [])
grows-push next moves found from step new within among path state absent = record {
  more = new ∷ [];
  extends = refl;
  sound = λ first sound. sound-push next moves first found from step new sound within among path state absent;
}

-- a list that has the first state, and is closed under the moves, has each state that they lead to
pub whole : {S M : Type 0} (next : S → M → S) (moves : List M) (states : List S) (state : S) → AreFollowed next moves states states → Contains states state → (path : List M) → All (Contains moves) path → Contains states (after next state path)
whole next moves states state followed there [] among = there
whole next moves states state followed there (step ∷ path) among = whole next moves states (next state step) followed (followed state step there (All-head (Contains moves) step path among)) path (All-tail (Contains moves) step path among)

-- a list is its own growth
pub grows-refl : {S M : Type 0} (next : S → M → S) (moves : List M) (found : List (Found S M)) → Grows next moves found found
grows-refl {S} {M} next moves found = record { more = []; extends = sym (append-nil found); sound = λ first sound. sound }

pub grows-trans : {S M : Type 0} (next : S → M → S) (moves : List M) (old mid new : List (Found S M)) → Grows next moves old mid → Grows next moves mid new → Grows next moves old new
grows-trans {S} {M} next moves old mid new one two = record {
  more = one.more ++ two.more;
  extends = two.extends ∙ ap (λ (found : List (Found S M)). found ++ two.more) one.extends ∙ append_assoc old one.more two.more;
  sound = λ first sound. two.sound first (one.sound first sound);
}

-- the states of a longer list are more
pub states-grow : {S M : Type 0} (next : S → M → S) (moves : List M) (old new : List (Found S M)) (grows : Grows next moves old new) → states_of new ≡ states_of old ++ states_of grows.more
states-grow {S} {M} next moves old new grows = ap (λ (found : List (Found S M)). states_of found) grows.extends ∙ map-append (λ (it : Found S M). it.state) old grows.more

-- what was found stays found
pub stays : {S M : Type 0} (next : S → M → S) (moves : List M) (old new : List (Found S M)) (state : S) → Grows next moves old new → Contains (states_of old) state → Contains (states_of new) state
stays {S} next moves old new state grows there =
    subst (λ (states : List S). Contains states state) (sym (states-grow next moves old new grows)) (Contains-append_left (states_of old) (states_of grows.more) state there)

-- the state at a place stays there
pub place-stays : {S M : Type 0} (next : S → M → S) (moves : List M) (old new : List (Found S M)) (at : ℕ) (d : S) → Grows next moves old new → at < length old → get_or (states_of new) at d ≡ get_or (states_of old) at d
place-stays {S} {M} next moves old new at d grows within =
    let within_states : at < length (states_of old) = rw (length-map old (λ (it : Found S M). it.state)) within in
    ap (λ (states : List S). get_or states at d) (states-grow next moves old new grows) ∙ get_or-append (states_of old) (states_of grows.more) d at within_states

-- the length of a longer list
pub longer : {S M : Type 0} (next : S → M → S) (moves : List M) (old new : List (Found S M)) (at : ℕ) → Grows next moves old new → at < length old → at < length new
longer {S} {M} next moves old new at grows within =
    let whole_length : length new ≡ length old + length grows.more = ap (λ (found : List (Found S M)). length found) grows.extends ∙ length-append old grows.more in
    omega arith

-- the moves were followed from one state more
pub followed-more : {S M : Type 0} (next : S → M → S) (moves : List M) (old new : List (Found S M)) (at : ℕ) → Grows next moves old new → at < length old
    → AreFollowed next moves (states_of old) (take at (states_of old)) → ((d : S) → AreFollowed next moves (states_of new) (get_or (states_of old) at d ∷ []))
    → AreFollowed next moves (states_of new) (take (at + 1) (states_of new))
followed-more {S} {M} next moves old new at grows within before here state step there among =
    let within_states : at < length (states_of old) = rw (length-map old (λ (it : Found S M). it.state)) within in
    let taken : take (at + 1) (states_of new) ≡ take at (states_of old) ++ get_or (states_of old) at state ∷ [] =
    ap (λ (states : List S). take (at + 1) states) (states-grow next moves old new grows)
    ∙ take-append-le (at + 1) (states_of old) (states_of grows.more) (omega arith)
    ∙ take_more (states_of old) at state within_states in
    elim (Contains-push_cases (take at (states_of old)) (get_or (states_of old) at state) state (subst (λ (states : List S). Contains states state) taken there)) [
      | inl earlier ↦ stays next moves old new (next state step) grows (before state step earlier among)
      | inr same ↦ here state state step (subst (λ (s : S). Contains (s ∷ []) state) (sym same) (Contains-push [] state)) among
    ]

-- a sound list from whose states all moves were followed is whole
pub all-found : {S M : Type 0} (next : S → M → S) (moves : List M) (first : S) (found : List (Found S M)) → AreSound next moves first found
    → AreFollowed next moves (states_of found) (states_of found) → AreAll next moves first found
all-found {S} next moves first found sound followed = record {
  leads = sound.leads;
  whole = λ state path leads. subst (λ (s : S). Contains (states_of found) s) (sym leads.is) (whole next moves (states_of found) first followed sound.begins path leads.among);
  distinct = sound.distinct;
}

-- what a move from the state at a place leads to
pub followed-to : {S M : Type 0} (next : S → M → S) (old : List (Found S M)) (moves : List M) (from turn : ℕ) (it : Found S M) (move : M) (state : S) (step : M)
    → from < length old → turn < length moves → it ≡ get_or old from it → move ≡ get_or moves turn move
    → next (get_or (states_of old) from state) (get_or moves turn step) ≡ next it.state move
followed-to {S} {M} next old moves from turn it move state step in_old in_moves is_it is_move =
    ap (λ (s : S). next s (get_or moves turn step)) (get_or-map (λ (at : Found S M). at.state) old from it state in_old ∙ ap (λ (at : Found S M). at.state) (sym is_it))
    ∙ ap (λ (m : M). next it.state m) (get_or_default moves turn step move in_moves ∙ sym is_move)

-- the state at a place is there
pub has-it : {S M : Type 0} (old : List (Found S M)) (from : ℕ) (it : Found S M) → from < length old → it ≡ get_or old from it → Contains (states_of old) it.state
has-it {S} {M} old from it in_old is_it =
    let in_states : from < length (states_of old) = rw (length-map old (λ (at : Found S M). at.state)) in_old in
    subst (λ (s : S). Contains (states_of old) s) (get_or-map (λ (at : Found S M). at.state) old from it it.state in_old ∙ ap (λ (at : Found S M). at.state) (sym is_it))
    (Contains-get_or (states_of old) from it.state in_states)

-- one move more was followed
pub followed-next : {S M : Type 0} (next : S → M → S) (moves : List M) (first mid new : List (Found S M)) (from at : ℕ) → from < length first
    → Grows next moves first mid → Grows next moves mid new
    → ((turn : ℕ) (state : S) (step : M) → turn < at → Contains (states_of mid) (next (get_or (states_of first) from state) (get_or moves turn step)))
    → ((state : S) (step : M) → Contains (states_of new) (next (get_or (states_of mid) from state) (get_or moves at step)))
    → (turn : ℕ) (state : S) (step : M) → turn < at + 1 → Contains (states_of new) (next (get_or (states_of first) from state) (get_or moves turn step))
followed-next {S} {M} next moves first mid new from at within one two before here turn state step lt =
    elim (cases_lt turn at) [
      | inl earlier ↦ stays next moves mid new (next (get_or (states_of first) from state) (get_or moves turn step)) two (before turn state step earlier)
      | inr past ↦
          let same : turn ≡ at = omega arith in
          subst (λ (s : S). Contains (states_of new) (next s (get_or moves turn step))) (place-stays next moves first mid from state one within)
          (subst (λ (k : ℕ). Contains (states_of new) (next (get_or (states_of mid) from state) (get_or moves k step))) (sym same) (here state step))
    ]

-- all moves were followed
pub followed-all : {S M : Type 0} (next : S → M → S) (moves : List M) (old new : List (Found S M)) (from at : ℕ) → length moves ≤ at
    → ((turn : ℕ) (state : S) (step : M) → turn < at → Contains (states_of new) (next (get_or (states_of old) from state) (get_or moves turn step)))
    → (d : S) → AreFollowed next moves (states_of new) (get_or (states_of old) from d ∷ [])
followed-all {S} {M} next moves old new from at all before d state step there among =
    let is_state : get_or (states_of old) from d ≡ state =
    elim (Contains-push_cases [] (get_or (states_of old) from d) state there) [ inl none ↦ absurd (omega (arith, none.1)) | inr same ↦ same ] in
    let got : Contains (states_of new) (next (get_or (states_of old) from d) (get_or moves among.0 step)) = before among.0 d step (omega (arith, among.1)) in
    subst (λ (s : S). Contains (states_of new) (next s step)) is_state
    (subst (λ (m : M). Contains (states_of new) (next (get_or (states_of old) from d) m)) among.2 got)

-- moves were followed from all states
pub followed-whole : {S M : Type 0} (next : S → M → S) (moves : List M) (found : List (Found S M)) (at : ℕ) → length found ≤ at
    → AreFollowed next moves (states_of found) (take at (states_of found)) → AreFollowed next moves (states_of found) (states_of found)
followed-whole {S} {M} next moves found at all followed =
    let all_states : length (states_of found) ≤ at = rw (length-map found (λ (it : Found S M). it.state)) all in
    subst (λ (states : List S). AreFollowed next moves (states_of found) states) (take_all at (states_of found) all_states) followed
