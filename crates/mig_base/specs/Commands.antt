-- Commands: which of them are accesses, and what these touch.
use Rattle.std.specs.Prelude.{ℕ, ◌/◌, Bool, true, false}
use Rattle.foundation.specs.declared.TheConstants.{PAGE_SIZE}
use Rattle.mig_base.specs.declared.command.Command.{Command}
use Rattle.mig_base.specs.declared.command.Command.TheVariants.{Load, Store, Mmap, Munmap, Mremap, DontNeed}

-- whether a command is a load or a store
abbrev pub is_access : Command → Bool
is_access (Load addr width) = true
is_access (Store addr width value) = true
is_access (Mmap len prot place) = false
is_access (Munmap addr len) = false
is_access (Mremap addr old_len new_len may_move fixed) = false
is_access (DontNeed addr len) = false

-- whether a command is a store
abbrev pub is_store : Command → Bool
is_store (Store addr width value) = true
is_store _ = false

-- the page that a load or store touches: an aligned access lies in one page. 0 for a map call
abbrev pub page_of : Command → ℕ
page_of (Load addr width) = addr / PAGE_SIZE
page_of (Store addr width value) = addr / PAGE_SIZE
page_of _ = 0
