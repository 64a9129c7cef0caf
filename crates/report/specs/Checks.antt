-- What a check finds: the first entry whose reply is not that of one flat memory.
use Rattle.std.specs.Prelude.{◌≡◌, ◌≢◌, ℕ, ◌*◌, ◌/◌, ◌==◌, ◌&&◌, Bool, true, false, not, List, Option, Some, None, take, slice_get}
use Rattle.foundation.specs.declared.TheConstants.{PAGE_SIZE}
use Rattle.mig_base.specs.declared.command.Reply.{Reply}
use Rattle.mig_base.specs.declared.command.Entry.{Entry}
use Rattle.mig_base.specs.declared.command.Command.{Command}
use Rattle.mig_base.specs.declared.command.Command.TheVariants.{Load, Store, DontNeed}
use Rattle.mig_base.specs.Flat.{Cell, Memory, reply_of, IsFlatRun, memory_of}
use Rattle.foundation.specs.Tests.{is_every}
use Rattle.mig_model.specs.Space.{is_made}
use Rattle.uffd_ioctl.specs.Spaces.{is_refused}
use Rattle.report.specs.declared.check.CheckFault.{CheckFault}
use Rattle.report.specs.declared.check.CheckFault.TheVariants.{Wrong, NoMemory}

-- the entry at the index is the first whose reply is wrong, and `expected` is the right reply
pub record FirstWrong (entries : List Entry) (index : ℕ) (expected : Reply) : Type 0 where
  -- the entry at the index
  pub entry : Entry
  pub inside : slice_get entries index ≡ Some entry
  -- the entries before it are a flat run
  pub before : IsFlatRun (take index entries)
  -- the memory that they leave answers the command with the expected reply, and the entry has another reply
  pub answers : expected ≡ reply_of (memory_of (take index entries)) entry.command
  pub differs : entry.reply ≢ expected

-- whether an address has no other byte than zero
abbrev pub is_zero : Option Cell → Bool
is_zero None = true
is_zero (Some cell) = cell.byte == 0

-- whether a page of a memory reads as zeros
abbrev pub is_page_of_zeros : Memory → ℕ → Bool
is_page_of_zeros memory page = is_every (λ addr. is_zero (memory addr)) (PAGE_SIZE * page) PAGE_SIZE

-- whether one flat memory may need room for a command: for a store that is made to a page of zeros, of which it may have no bytes, or for
-- a mapping that mmap, munmap or mremap changes
abbrev pub may_need_room : Memory → Command → Bool
may_need_room memory (Load addr width) = false
may_need_room memory (Store addr width value) = is_made (reply_of memory (Store addr width value)) && is_page_of_zeros memory (addr / PAGE_SIZE)
may_need_room memory (DontNeed addr len) = false
may_need_room memory command = not (is_refused (reply_of memory command))

-- memory ran out at one of the entries, whose command may need room; the entries before it are a flat run
pub record LacksRoom (entries : List Entry) : Type 0 where
  pub index : ℕ
  pub entry : Entry
  pub inside : slice_get entries index ≡ Some entry
  pub before : IsFlatRun (take index entries)
  pub needs : may_need_room (memory_of (take index entries)) entry.command ≡ true

-- what a fault says about the entries
abbrev pub IsFaultOf : List Entry → CheckFault → Type 0
IsFaultOf entries (Wrong index expected) = FirstWrong entries index expected
IsFaultOf entries NoMemory = LacksRoom entries
