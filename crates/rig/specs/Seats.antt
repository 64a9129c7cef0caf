-- Seats, and the entries of one processor.
use Rattle.std.specs.Prelude.{Bool, ◌≡◌, ℕ, ◌<◌, ◌≤◌, ◌+◌, ◌==◌, true, if◌then◌else◌, List, [], ◌∷◌, ◌++◌, length, Some}
use Rattle.std.specs.List.{slice_get}
use Rattle.mig_base.specs.declared.command.Entry.{Entry}
use Rattle.mig_base.specs.declared.TheConstants.{MAX_CPUS}
use Rattle.mig_model.specs.Migration.{World}
use Rattle.rig.specs.declared.seat.Answer.{Answer}

-- a seat: the number of its processor, and the answers to its calls, in order
pub record Seat : Type 0 where
  pub cpu : ℕ
  pub answers : List Answer

-- a rig as callers see it: the opening, which is the transcript when the rig was made, and the seats that were handed out
pub record Handed : Type 0 where
  pub opening : List Entry
  pub handed : List Bool

-- the values of the items with the number `k`, joined
abbrev pub values_of : {X : Type 0} → {Y : Type 0} → (X → ℕ) → (X → List Y) → ℕ → List X → List Y
values_of number value k [] = []
values_of number value k (x ∷ xs) = if number x == k then value x ++ values_of number value k xs else values_of number value k xs

-- the command and the reply of an entry
abbrev pub entry_answer : Entry → Answer
entry_answer entry = record { command = entry.command; reply = entry.reply }

-- the answers of a processor, in the order of the transcript
abbrev pub answers_of : ℕ → List Entry → List Answer
answers_of k entries = values_of (λ (e : Entry). e.cpu) (λ e. entry_answer e ∷ []) k entries

-- the answers of a processor's seat, [] if there is no seat
abbrev pub list_of : ℕ → List Seat → List Answer
list_of k seats = values_of (λ (s : Seat). s.cpu) (λ s. s.answers) k seats

-- the number of seats of a processor
abbrev pub seats_of : ℕ → List Seat → ℕ
seats_of k [] = 0
seats_of k (s ∷ ss) = (if s.cpu == k then 1 else 0) + seats_of k ss

-- the number of answers of all seats
abbrev pub calls_of : List Seat → ℕ
calls_of [] = 0
calls_of (s ∷ ss) = length s.answers + calls_of ss

-- the processor `k` is right: its answers are those of the opening and then its seat's; at most one seat has come back, and exactly one if
-- it was handed out; and if the world does not have the processor, no seat has
pub record IsRight (rig : Handed) (seats : List Seat) (entries : List Entry) (cpus : ℕ) (k : ℕ) : Type 0 where
  pub answers : answers_of k entries ≡ answers_of k rig.opening ++ list_of k seats
  pub once : seats_of k seats ≤ 1
  pub back : slice_get rig.handed k ≡ Some true → seats_of k seats ≡ 1
  pub known : cpus ≤ k → seats_of k seats ≡ 0

-- the least processor that is not right
pub record IsLeastWrong (rig : Handed) (seats : List Seat) (entries : List Entry) (cpus : ℕ) (k : ℕ) : Type 0 where
  pub wrong : IsRight rig seats entries cpus k → ⊥
  pub least : (j : ℕ) → j < k → IsRight rig seats entries cpus j

-- every processor is right
abbrev pub SeatsAreRight : Handed → List Seat → World → Type 0
SeatsAreRight rig seats world = (k : ℕ) → k < MAX_CPUS → IsRight rig seats world.transcript (length world.source.guest.cpus) k

-- each processor's answers are those of the opening and then its seat's, at most one seat of it has come back, and the transcript has no
-- further entries
pub record AreAnswered (rig : Handed) (seats : List Seat) (entries : List Entry) (cpus : ℕ) : Type 0 where
  pub answers : (k : ℕ) → k < cpus → answers_of k entries ≡ answers_of k rig.opening ++ list_of k seats
  pub once : (k : ℕ) → k < cpus → seats_of k seats ≤ 1
  pub count : length entries ≡ length rig.opening + calls_of seats
