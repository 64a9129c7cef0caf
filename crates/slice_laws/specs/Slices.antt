-- A guest's memory that is cut into slices. Each slice has an address space of its own, in which it migrates by itself; each processor of the
-- guest accesses all of them.
use Rattle.std.specs.Prelude.{◌≡◌, ℕ, ◌+◌, ◌*◌, ◌/◌, ◌%◌, ◌==◌, ◌++◌, Bool, not, if◌then◌else◌, List, [], ◌∷◌}
use Rattle.foundation.specs.declared.TheConstants.{PAGE_SIZE}
use Rattle.mig_base.specs.declared.command.Command.{Command}
use Rattle.mig_base.specs.declared.command.Command.TheVariants.{Load, Store}
use Rattle.mig_base.specs.declared.command.Entry.{Entry}
use Rattle.mig_base.specs.Commands.{is_access, page_of}
use Rattle.mig_base.specs.Flat.{Memory, after, memory_of, no_memory, reply_of}

-- a cut at page boundaries: which slice has a page of the guest, and as which page of its address space
pub record Cut : Type 0 where
  pub slice : ℕ → ℕ
  pub page : ℕ → ℕ

-- no two pages of the guest are one page of a slice
abbrev pub IsCut : Cut → Type 0
IsCut cut = (one other : ℕ) → cut.slice one ≡ cut.slice other → cut.page one ≡ cut.page other → one ≡ other

-- where its slice has an address of the guest
abbrev pub place_of : Cut → ℕ → ℕ
place_of cut addr = PAGE_SIZE * cut.page (addr / PAGE_SIZE) + addr % PAGE_SIZE

-- the guest's memory, where each slice has a flat memory
abbrev pub joined : Cut → (ℕ → Memory) → Memory
joined cut memories = λ addr. memories (cut.slice (addr / PAGE_SIZE)) (place_of cut addr)

-- what changes or reads the guest's memory, with its reply: a load or store of a processor, at an address of the guest, or a map call in the
-- address space of a slice
pub data Act : Type 0 where
  Access : (entry : Entry) → Act
  MapCall : (slice : ℕ) (entry : Entry) → Act

-- whether an act has a command of its kind
abbrev pub is_act : Act → Bool
is_act (Act.Access entry) = is_access entry.command
is_act (Act.MapCall slice entry) = not (is_access entry.command)

-- a load or store at its place in the slice
abbrev pub placed : Cut → Command → Command
placed cut (Load addr width) = Load (place_of cut addr) width
placed cut (Store addr width value) = Store (place_of cut addr) width value
placed cut command = command

-- what an act is for one of the slices: an aligned access lies in one page, and so in one slice
abbrev pub act_in : Cut → ℕ → Act → List Entry
act_in cut slice (Act.Access entry) =
    if slice == cut.slice (page_of entry.command) then record entry { command = placed cut entry.command } ∷ [] else []
act_in cut slice (Act.MapCall at entry) = if slice == at then entry ∷ [] else []

-- the entries of one slice
abbrev pub acts_in : Cut → ℕ → List Act → List Entry
acts_in cut slice [] = []
acts_in cut slice (act ∷ acts) = act_in cut slice act ++ acts_in cut slice acts

-- the flat memories of the slices after an act: that of its slice is changed as its command changes it, and no other
abbrev pub stepped : Cut → (ℕ → Memory) → Act → ℕ → Memory
stepped cut memories (Act.Access entry) =
    λ slice. if slice == cut.slice (page_of entry.command) then after (memories slice) (placed cut entry.command) else memories slice
stepped cut memories (Act.MapCall at entry) = λ slice. if slice == at then after (memories slice) entry.command else memories slice

-- an act of one flat memory, the guest's: an access has the reply and the effect that every flat memory gives it. A map call has the reply of
-- its slice's memory
abbrev pub IsAct : Cut → (ℕ → Memory) → Act → Type 0
IsAct cut memories (Act.Access entry) =
    (entry.reply ≡ reply_of (joined cut memories) entry.command)
    × (joined cut (stepped cut memories (Act.Access entry)) ≡ after (joined cut memories) entry.command)
IsAct cut memories (Act.MapCall at entry) = entry.reply ≡ reply_of (memories at) entry.command

-- acts in the one order in which they took effect, in which each thread's come in its own order
abbrev pub AreActs : Cut → (ℕ → Memory) → List Act → Type 0
AreActs cut memories [] = Unit {0}
AreActs cut memories (act ∷ acts) = IsAct cut memories act × AreActs cut (stepped cut memories act) acts

-- the flat memories of the slices after all of them
abbrev pub memories_from : Cut → (ℕ → Memory) → List Act → ℕ → Memory
memories_from cut memories [] = memories
memories_from cut memories (act ∷ acts) = memories_from cut (stepped cut memories act) acts

-- in each slice nothing is mapped at first
abbrev pub no_memories : ℕ → Memory
no_memories slice = no_memory

-- the guest's memory after acts, by what each slice sees of them
abbrev pub memory_after : Cut → List Act → Memory
memory_after cut acts = joined cut (λ slice. memory_of (acts_in cut slice acts))
