-- The pages of claims, and the test of claims at the end.
use Rattle.std.specs.Prelude.{◌≡◌, ◌≢◌, ◌⊎◌, ◌↔◌, ◌++◌, ℕ, ⊤, ◌<◌, true, List, Option, Some, None, length, slice_index, AllPairs, Contains}
use Rattle.std.specs.Ordering.{nat_cmp}
use Rattle.std.specs.FinSet.{FinSet, contains}
use Rattle.mig_model.specs.Migration.{World}
use Rattle.pusher.specs.Seats.{Starting, Held}

-- the list has exactly the pages of the set, each once
abbrev pub Lists : FinSet nat_cmp → List ℕ → Type 0
Lists set pages = AllPairs ◌≢◌ pages × ((q : ℕ) → (contains set q ≡ true) ↔ Contains pages q)

-- each page of the claims remains to be sent, or the seat has claimed it
abbrev pub AreKept : Starting → Held → FinSet nat_cmp → Type 0
AreKept claims seat remaining = (i : ℕ) → i < length claims.pages → (contains remaining (slice_index claims.pages i) ≡ true) ⊎ Contains seat.claimed i

-- if there are claims of the world's epoch, each of their pages remains to be sent there, or the seat has claimed it
abbrev pub AreFound : Option (Starting × Held) → World → Type 0
AreFound None world = ⊤
AreFound (Some c) world = c.0.epoch ≡ world.source.epoch → AreKept c.0 c.1 world.source.remaining

-- there are claims, they are of the world's epoch, and some page of them neither remains to be sent nor was claimed by the seat
abbrev pub IsLost : Option (Starting × Held) → World → Type 0
IsLost None world = ⊥
IsLost (Some c) world = (c.0.epoch ≡ world.source.epoch) × (AreKept c.0 c.1 world.source.remaining → ⊥)

-- the first list begins with the second
abbrev pub BeginsWith : List ℕ → List ℕ → Type 0
BeginsWith xs front = (behind : List ℕ) × (xs ≡ front ++ behind)

-- a seat after more claims: it has claimed and seen what it had before, in that order, and then perhaps more; its share is the same
pub record Continues (old new : Held) : Type 0 where
  pub claimed : BeginsWith new.claimed old.claimed
  pub seen : BeginsWith new.seen old.seen
  pub share : new.share ≡ old.share
