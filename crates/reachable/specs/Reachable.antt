-- The states that some list of moves leads to, and a list of all of them.
use Rattle.std.specs.Prelude.{◌≡◌, ◌≢◌, ℕ, ◌<◌, List, [], ◌∷◌, ◌++◌, length, map}
use Rattle.std.specs.List.{All, Contains, slice_index_or}
use Rattle.reachable.specs.declared.found.Found.{Found}
use Rattle.reachable.specs.declared.found.Reached.{Reached}

-- where moves lead, one after the other
abbrev pub after : {S M : Type 0} → (S → M → S) → S → List M → S
after next state [] = state
after next state (step ∷ steps) = after next (next state step) steps

-- these moves are among those of the system, and lead to a state
pub record Leads {S M : Type 0} (next : S → M → S) (moves : List M) (first : S) (path : List M) (state : S) : Type 0 where
  pub among : All (Contains moves) path
  pub is : state ≡ after next first path

-- no state is there twice
abbrev pub AreDistinct : {S : Type 0} → List S → Type 0
AreDistinct {S} states = (i j : ℕ) (d : S) → i < j → j < length states → slice_index_or states i d ≢ slice_index_or states j d

-- the states of what was found
abbrev pub states_of : {S M : Type 0} → List (Found S M) → List S
states_of found = map (λ it. it.state) found

-- the state at a place
abbrev pub state_at : {S M : Type 0} → List (Found S M) → ℕ → S → S
state_at found place default = slice_index_or (states_of found) place default

-- the states are those that some list of moves leads to, each once, with such a list
pub record AreAll {S M : Type 0} (next : S → M → S) (moves : List M) (first : S) (found : List (Found S M)) : Type 0 where
  pub leads : All (λ it. Leads next moves first it.path.items it.state) found
  pub whole : (state : S) (path : List M) → Leads next moves first path state → Contains (states_of found) state
  pub distinct : AreDistinct (states_of found)

-- each state has its hash beside it
abbrev pub IsHashed : {S M : Type 0} → (S → ℕ) → Reached S M → Type 0
IsHashed hash_of reached = reached.hashes.items ≡ map hash_of (states_of reached.found.items)

-- what a walk has found so far
pub record AreSound {S M : Type 0} (next : S → M → S) (moves : List M) (first : S) (found : List (Found S M)) : Type 0 where
  pub leads : All (λ it. Leads next moves first it.path.items it.state) found
  pub begins : Contains (states_of found) first
  pub distinct : AreDistinct (states_of found)

-- more was found: the old list is the front of the new one, which is as sound
pub record Grows {S M : Type 0} (next : S → M → S) (moves : List M) (old new : List (Found S M)) : Type 0 where
  pub more : List (Found S M)
  pub extends : new ≡ old ++ more
  pub sound : (first : S) → AreSound next moves first old → AreSound next moves first new

-- each move from each of these states leads to one that was found
abbrev pub AreFollowed : {S M : Type 0} → (S → M → S) → List M → List S → List S → Type 0
AreFollowed {S} {M} next moves states followed = (state : S) (step : M) → Contains followed state → Contains moves step → Contains states (next state step)
