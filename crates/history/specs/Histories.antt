-- When a history is that of one flat memory: the operations can be put into one order, as if each took effect at one moment of its
-- interval (linearizability: Herlihy and Wing, 1990), in which each reply is that of the flat memory of mig_base.
use Rattle.std.specs.Prelude.{◌≡◌, ◌≢◌, ℕ, ◌<◌, ◌≤◌, ◌==◌, List, [], ◌∷◌, ◌++◌, if◌then◌else◌}
use Rattle.std.specs.List.{All, AllPairs}
use Rattle.std.specs.List.Sorted.{IsPermutation}
use Rattle.mig_base.specs.declared.Prot.TheVariants.{ReadWrite}
use Rattle.mig_base.specs.declared.command.Place.TheVariants.{Fixed}
use Rattle.mig_base.specs.declared.command.Command.{Command}
use Rattle.mig_base.specs.declared.command.Command.TheVariants as command
use Rattle.mig_base.specs.declared.command.Reply.{Reply}
use Rattle.mig_base.specs.declared.command.Reply.TheVariants as reply
use Rattle.mig_base.specs.declared.command.Entry.{Entry}
use Rattle.mig_base.specs.Flat.{IsFlatRun}
use Rattle.history.specs.declared.operation.TheConstants.{NEVER}
use Rattle.history.specs.declared.operation.Clock.{Clock}
use Rattle.history.specs.declared.operation.Clock.TheVariants.{Counter, Time}
use Rattle.history.specs.declared.operation.Action.{Action}
use Rattle.history.specs.declared.operation.Action.TheVariants as action
use Rattle.history.specs.declared.operation.Operation.{Operation}

-- an entry of a transcript
abbrev pub entry : ℕ → Command → Reply → Entry
entry thread made replied = record { cpu = thread; command = made; reply = replied }

-- the entries that an action of a thread is: an exchange is a load and then a store, with nothing between them
abbrev pub entries_of : ℕ → Action → List Entry
entries_of thread (action.Load addr width value) = entry thread (command.Load addr width) (reply.Value value) ∷ []
entries_of thread (action.Store addr width value) = entry thread (command.Store addr width value) reply.Done ∷ []
entries_of thread (action.Swap addr width value found) = entry thread (command.Load addr width) (reply.Value found) ∷ entry thread (command.Store addr width value) reply.Done ∷ []
entries_of thread (action.Map addr len) = entry thread (command.Mmap len ReadWrite (Fixed addr)) (reply.At addr) ∷ []
entries_of thread (action.Unmap addr len) = entry thread (command.Munmap addr len) reply.Done ∷ []
entries_of thread (action.Discard addr len) = entry thread (command.DontNeed addr len) reply.Done ∷ []

-- the entries of operations, made in turn
abbrev pub entries : List Operation → List Entry
entries [] = []
entries (operation ∷ operations) = entries_of operation.thread operation.action ++ entries operations

-- of two operations of one thread the first was made before the second: it had ended when that one began. A clock may give both one tick for
-- all: then their lines are in the order in which they were made
pub record IsMadeBefore (first second : Operation) : Type 0 where
  pub ended : first.end ≤ second.begin
  pub lines : second.end ≤ first.begin → first.line < second.line

-- the first of two operations may take effect before the second: the second had not ended when the first began, and if one thread made
-- both, then the first was made before the second
pub record MayPrecede (first second : Operation) : Type 0 where
  pub began : first.begin ≤ second.end
  pub one_thread : first.thread ≡ second.thread → IsMadeBefore first second

-- an order of all operations of a history that explains it
pub record Explains (history order : List Operation) : Type 0 where
  pub all : IsPermutation history order
  -- it agrees with each interval, and with the order in which each thread made its operations
  pub timed : All (λ operation. operation.begin ≤ operation.end) order
  pub agrees : AllPairs MayPrecede order
  -- each reply is that of one flat memory in which nothing is mapped at first
  pub flat : IsFlatRun (entries order)

-- the ticks that an operation was given; an end that is not known is none
abbrev pub ticks_of : Operation → List ℕ
ticks_of operation = operation.begin ∷ (if operation.end == NEVER then [] else operation.end ∷ [])

-- the ticks of operations
abbrev pub ticks : List Operation → List ℕ
ticks [] = []
ticks (operation ∷ operations) = ticks_of operation ++ ticks operations

-- the clock gave its ticks as it should: a counter gives none twice, so that an operation ends at a later tick than it begins. Another clock
-- may give one tick to several operations, and to the begin and the end of one
abbrev pub GaveTicks : Clock → List Operation → Type 0
GaveTicks Counter history = AllPairs (λ x y. x ≢ y) (ticks history)
GaveTicks Time history = Unit {0}

-- the history is that of one flat memory
pub record IsKept (clock : Clock) (history : List Operation) : Type 0 where
  pub order : List Operation
  pub explains : Explains history order
  pub ticked : GaveTicks clock history
