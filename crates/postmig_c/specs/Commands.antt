-- The command of numbers.
use Rattle.std.specs.Prelude.{ℕ, ◌==◌, nat_lt, not, if◌then◌else◌, Option, Some, None}
use Rattle.std.specs.Option.{option_map}
use Rattle.mig_base.specs.declared.Prot.{Prot}
use Rattle.mig_base.specs.declared.command.Command.{Command}
use Rattle.mig_base.specs.declared.command.Place.{Place}
use Rattle.postmig_c.specs.declared.commands.CommandNumbers.{CommandNumbers}

-- a protection by its number
abbrev pub prot_of : ℕ → Option Prot
prot_of number = if number == 0 then Some Prot.NoAccess else if number == 1 then Some Prot.Read else if number == 2 then Some Prot.ReadWrite else None

-- the number of a protection
abbrev pub prot_number : Prot → ℕ
prot_number Prot.NoAccess = 0
prot_number Prot.Read = 1
prot_number Prot.ReadWrite = 2

-- a place by its number
abbrev pub place_of : ℕ → ℕ → Option Place
place_of number target = if number == 0 then Some Place.Anywhere else if number == 1 then Some (Place.Fixed target) else if number == 2 then Some (Place.NoReplace target) else None

-- the target of an mremap by the number of its place: none, or a fixed one
abbrev pub fixed_of : ℕ → ℕ → Option (Option ℕ)
fixed_of number target = if number == 0 then Some None else if number == 1 then Some (Some target) else None

-- the width of an access, if a byte holds it
abbrev pub width_of : ℕ → Option ℕ
width_of width = if nat_lt width 256 then Some width else None

-- the mmap of numbers, by its protection and its place
abbrev pub mmap_of : ℕ → Option Prot → Option Place → Option Command
mmap_of len None place = None
mmap_of len (Some prot) None = None
mmap_of len (Some prot) (Some place) = Some (Command.Mmap len prot place)

-- the command of numbers, if they have one
abbrev pub command_of : CommandNumbers → Option Command
command_of numbers =
    if numbers.kind == 1 then option_map (λ width. Command.Load numbers.addr width) (width_of numbers.width)
    else if numbers.kind == 2 then option_map (λ width. Command.Store numbers.addr width numbers.value) (width_of numbers.width)
    else if numbers.kind == 3 then mmap_of numbers.length (prot_of numbers.prot) (place_of numbers.place numbers.target)
    else if numbers.kind == 4 then Some (Command.Munmap numbers.addr numbers.length)
    else if numbers.kind == 5 then option_map (λ fixed. Command.Mremap numbers.addr numbers.length numbers.new_length (not (numbers.may_move == 0)) fixed) (fixed_of numbers.place numbers.target)
    else if numbers.kind == 6 then Some (Command.DontNeed numbers.addr numbers.length)
    else None
