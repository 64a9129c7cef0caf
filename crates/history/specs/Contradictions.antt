-- How operations contradict each other: what makes an order of all of them impossible. A location is an address with a width, in bytes.
use Rattle.std.specs.Prelude.{◌≡◌, ◌≢◌, ℕ, ◌<◌, ◌≤◌, ◌⊎◌, ◌==◌, not, Bool, true, Option, Some, None, IfSome, List, [], ◌∷◌, length, slice_index_or, if◌then◌else◌}
use Rattle.std.specs.List.{All, Contains}
use Rattle.foundation.specs.Ranges.{in_range, rounded}
use Rattle.mig_base.specs.Flat.{is_aligned, overlaps}
use Rattle.history.specs.declared.operation.TheConstants.{NEVER}
use Rattle.history.specs.declared.operation.Clock.{Clock}
use Rattle.history.specs.declared.operation.Clock.TheVariants.{Counter, Time}
use Rattle.history.specs.declared.operation.Action.{Action}
use Rattle.history.specs.declared.operation.Action.TheVariants.{Load, Store, Swap, Map, Unmap, Discard}
use Rattle.history.specs.declared.operation.Operation.{Operation}
use Rattle.history.specs.declared.cycle.Value.{Value}
use Rattle.history.specs.declared.contradiction.Contradiction.{Contradiction}
use Rattle.history.specs.declared.contradiction.Contradiction.TheVariants.{NoSource, Fork, Cycle, Backward, OneTick, Overlap}
use Rattle.history.specs.Histories.{IsMadeBefore, ticks_of}

-- the value that an action found at an address, if it is one that reads there
abbrev pub found_at : ℕ → Action → Option ℕ
found_at place (Load addr width value) = if addr == place then Some value else None
found_at place (Store addr width value) = None
found_at place (Swap addr width value found) = if addr == place then Some found else None
found_at place (Map addr len) = None
found_at place (Unmap addr len) = None
found_at place (Discard addr len) = None

-- what an action left at an address: a value, or nothing where it unmapped the page; None if it left there what was there
abbrev pub left_at : ℕ → Action → Option (Option ℕ)
left_at place (Load addr width value) = None
left_at place (Store addr width value) = if addr == place then Some (Some value) else None
left_at place (Swap addr width value found) = if addr == place then Some (Some value) else None
left_at place (Map addr len) = if in_range addr (rounded len) place then Some (Some 0) else None
left_at place (Unmap addr len) = if in_range addr (rounded len) place then Some None else None
left_at place (Discard addr len) = if in_range addr (rounded len) place then Some (Some 0) else None

-- whether an access and a location are the same bytes, or share none
abbrev pub is_apart_or_same : ℕ → ℕ → ℕ → ℕ → Bool
is_apart_or_same place size addr width = (if addr == place then width == size else not (overlaps addr width place size))

-- whether an action is an access to the whole location, or to none of it, or a map call
abbrev pub keeps_whole : ℕ → ℕ → Action → Bool
keeps_whole place size (Load addr width value) = is_apart_or_same place size addr width
keeps_whole place size (Store addr width value) = is_apart_or_same place size addr width
keeps_whole place size (Swap addr width value found) = is_apart_or_same place size addr width
keeps_whole place size (Map addr len) = true
keeps_whole place size (Unmap addr len) = true
keeps_whole place size (Discard addr len) = true

-- an aligned location whose bytes no operation of a history reads or writes in parts
pub record IsLocation (history : List Operation) (place size : ℕ) : Type 0 where
  pub aligned : is_aligned place size ≡ true
  pub whole : All (λ operation. keeps_whole place size operation.action ≡ true) history

-- one operation had ended when another began, at a later tick; or one thread made it before the other, perhaps at one tick
abbrev pub Before : Operation → Operation → Type 0
Before first second = (first.end < second.begin) ⊎ ((first.thread ≡ second.thread) × IsMadeBefore first second)

-- a value cannot be at the location both before and after the operation, if none brought it back: the operation found another there, or
-- left something there
abbrev pub Disturbs : ℕ → ℕ → Operation → Type 0
Disturbs place value operation =
    (left_at place operation.action ≢ None) ⊎ ((other : ℕ) × (found_at place operation.action ≡ Some other) × (other ≢ value))

-- `reader` cannot have found what `source` left: `source` began when it had ended, or an operation that disturbs the value came between
abbrev pub CannotGive : Option Operation → Operation → Operation → Type 0
CannotGive None reader source = Before reader source
CannotGive (Some between) reader source = Before reader source ⊎ Before source between

-- no operation can have given `reader` the value that it found. That is the contradiction
--   never-written: no operation left the value
--   future: each that left it began when the reader had ended
--   stale, survived: or had ended when another began, which left another value, found another, or cleared the page, and which had ended
--     when the reader began
--   zeros: the same, of the value 0, which a map call leaves
pub record HasNoSource (history : List Operation) (place size value : ℕ) (reader : Operation) (between : Option Operation) : Type 0 where
  pub location : IsLocation history place size
  pub reads : Contains history reader
  pub found : found_at place reader.action ≡ Some value
  pub disturbed : IfSome between (λ it. Contains history it × Before it reader × Disturbs place value it)
  pub sources : All (λ source. left_at place source.action ≡ Some (Some value) → CannotGive between reader source) history

-- clock: an operation ended before it began, or a counter gave one tick for both
abbrev pub IsBackward : Clock → Operation → Type 0
IsBackward Counter operation = (operation.end ≤ operation.begin) × (operation.end ≢ NEVER)
IsBackward Time operation = operation.end < operation.begin

-- clock: a counter gave two operations one tick
abbrev pub ShareTick : Clock → Operation → Operation → Type 0
ShareTick Counter first second = (tick : ℕ) × Contains (ticks_of first) tick × Contains (ticks_of second) tick
ShareTick Time first second = ⊥

-- clock: two operations of one thread, of which neither had ended when the other began
pub record Overlaps (first second : Operation) : Type 0 where
  pub apart : first.line ≢ second.line
  pub one_thread : first.thread ≡ second.thread
  pub first_open : second.begin < first.end
  pub second_open : first.begin < second.end

-- the one operation that may have given a reader the value that it found, if there is one
abbrev pub IsOnly : Option Operation → Operation → Type 0
IsOnly None source = ⊥
IsOnly (Some only) source = source ≡ only

-- an operation found at a location what `source` left there, and no other can have given it that: each other that left the value began when
-- the reader had ended, or had ended when `source` began, which had ended when the reader began
pub record IsReader (history : List Operation) (place : ℕ) (source reader : Operation) : Type 0 where
  pub value : ℕ
  pub left : left_at place source.action ≡ Some (Some value)
  pub found : found_at place reader.action ≡ Some value
  pub between : Option Operation
  pub came : IfSome between (λ it. (it ≡ source) × Before it reader)
  pub sources : All (λ other. left_at place other.action ≡ Some (Some value) → IsOnly (Some source) other ⊎ CannotGive between reader other) history

-- an operation left something at a location, or found there what that one left
abbrev pub Sees : List Operation → ℕ → Operation → Operation → Type 0
Sees history place source member = (member ≡ source) ⊎ IsReader history place source member

-- forked: two exchanges found what one operation left, and each left something in its place
pub record IsFork (history : List Operation) (place size : ℕ) (source first second : Operation) : Type 0 where
  pub location : IsLocation history place size
  pub source_there : Contains history source
  pub first_there : Contains history first
  pub second_there : Contains history second
  pub apart : first.line ≢ second.line
  pub first_reads : IsReader history place source first
  pub second_reads : IsReader history place source second
  pub first_leaves : left_at place first.action ≢ None
  pub second_leaves : left_at place second.action ≢ None

-- what `source` left at a location was there before what `next` left: an operation that saw the one had ended when one began that saw the
-- other
pub record LeftFirst (history : List Operation) (place : ℕ) (source early next late : Operation) : Type 0 where
  pub apart : source.line ≢ next.line
  pub leaves : left_at place source.action ≢ None
  pub early_sees : Sees history place source early
  pub late_sees : Sees history place next late
  pub ended : Before early late

-- an index of a history is that of an operation
abbrev pub IsAt : List Operation → ℕ → Operation → Type 0
IsAt history index operation = (index < length history) × (slice_index_or history index operation ≡ operation)

-- a value was at a location before the next one: the operation that left the next found it, or the intervals say so
abbrev pub WasBefore : List Operation → ℕ → Value → Value → Type 0
WasBefore history place value next =
    (source early after late : Operation) × IsAt history value.source source × IsAt history value.early early × IsAt history next.source after × IsAt history next.late late × (IsReader history place source after ⊎ LeftFirst history place source early after late)

-- from `last` on each value was there before the next, and the last before `first`
abbrev pub IsRound : List Operation → ℕ → Value → Value → List Value → Type 0
IsRound history place first last [] = WasBefore history place last first
IsRound history place first last (next ∷ values) = WasBefore history place last next × IsRound history place first next values

-- split: each of these values was there before the next, and the last before the first
abbrev pub IsCycle : List Operation → ℕ → List Value → Type 0
IsCycle history place [] = ⊥
IsCycle history place (first ∷ values) = IsRound history place first first values

-- what a contradiction says of a history is so
abbrev pub Contradicts : Clock → List Operation → Contradiction → Type 0
Contradicts clock history (NoSource reader None) = (it : Operation) × IsAt history reader it × (place size value : ℕ) × HasNoSource history place size value it None
Contradicts clock history (NoSource reader (Some between)) =
    (it middle : Operation) × IsAt history reader it × IsAt history between middle × (place size value : ℕ) × HasNoSource history place size value it (Some middle)
Contradicts clock history (Fork source first second) =
    (it one other : Operation) × IsAt history source it × IsAt history first one × IsAt history second other × (place size : ℕ) × IsFork history place size it one other
Contradicts clock history (Cycle place size values) = IsLocation history place size × IsCycle history place values.items
Contradicts clock history (Backward at) = (it : Operation) × IsAt history at it × IsBackward clock it
Contradicts clock history (OneTick first second) = (first ≢ second) × (one other : Operation) × IsAt history first one × IsAt history second other × ShareTick clock one other
Contradicts clock history (Overlap first second) = (one other : Operation) × IsAt history first one × IsAt history second other × Overlaps one other
