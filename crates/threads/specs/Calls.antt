-- The calls of the processors of a run.
use Rattle.std.specs.Prelude.{◌≡◌, ℕ, ◌+◌, ◌*◌, ◌-◌, ◌/◌, ◌%◌, ◌==◌, ◌||◌, nat_lt, not, if◌then◌else◌, suc, List, [], ◌∷◌}
use Rattle.mig_base.specs.declared.Prot.{Prot}
use Rattle.foundation.specs.declared.TheConstants.{PAGE_SIZE}
use Rattle.mig_base.specs.declared.TheConstants.{LOW}
use Rattle.mig_base.specs.declared.command.Command.{Command}
use Rattle.mig_base.specs.declared.command.Place.{Place}
use Rattle.rig.specs.declared.seat.Answer.{Answer}

-- the number of calls of a processor that makes this number of stores: a map, the stores, and the same number of loads
abbrev pub calls_with : ℕ → ℕ
calls_with stores = 1 + 2 * stores

-- the first of the eight pages of a processor. The second half of its pages is the first half of the next processor's
abbrev pub first_address : ℕ → ℕ
first_address cpu = LOW + cpu * 4 * PAGE_SIZE

-- the address of the n-th store, and of the n-th load, each counted from 0: they go round the pages, in each round to the next 8 bytes of
-- a page
abbrev pub nth_address : ℕ → ℕ → ℕ
nth_address cpu n = first_address cpu + (n % 8 * PAGE_SIZE + n / 8 * 8 % PAGE_SIZE)

-- the n-th call, counted from 0
abbrev pub nth_call : ℕ → ℕ → ℕ → Command
nth_call cpu stores n =
    if n == 0 then Command.Mmap (8 * PAGE_SIZE) Prot.ReadWrite (Place.Fixed (first_address cpu))
    else if not (nat_lt stores n) then Command.Store (nth_address cpu (n - 1)) 8 n
    else Command.Load (nth_address cpu (n - 1 - stores)) 8

-- the answers are those to the calls of a processor from the n-th on
abbrev pub AreCalls : ℕ → ℕ → ℕ → List Answer → Type 0
AreCalls cpu stores n [] = n ≡ calls_with stores
AreCalls cpu stores n (answer ∷ answers) = (answer.command ≡ nth_call cpu stores n) × AreCalls cpu stores (suc n) answers
