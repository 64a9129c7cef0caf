-- What the areas of a host decide about its replies to map calls, whatever bytes its pages have.
use Rattle.std.specs.Prelude.{◌≡◌, ℕ, Option, Some, None, Result, Ok, Err, List}
use Rattle.std.specs.Ordering.{nat_cmp}
use Rattle.std.specs.FinMap.{FinMap}
use Rattle.mig_base.specs.declared.Prot.{Prot}
use Rattle.mig_base.specs.declared.command.Errno.{Errno}
use Rattle.mig_base.specs.declared.command.Command.{Command}
use Rattle.mig_base.specs.declared.command.Reply.{Reply}
use Rattle.mig_base.specs.declared.command.Reply.TheVariants.{At, Refused}
use Rattle.mig_base.specs.Flat.{Memory, reply_of}
use Rattle.mig_model.specs.Host.{Host, memory, IsSound}

-- a host with these areas
abbrev pub host_of : FinMap nat_cmp Prot → FinMap nat_cmp (List ℕ) → Host
host_of areas bytes = record { areas = areas; bytes = bytes }

-- P holds for the memory of every host with these areas
abbrev pub OfMemory : FinMap nat_cmp Prot → (Memory → Type 0) → Type 0
OfMemory areas P = (bytes : FinMap nat_cmp (List ℕ)) → IsSound (host_of areas bytes) → P (memory (host_of areas bytes))

-- every host with these areas gives this reply to the command
abbrev pub Replies : FinMap nat_cmp Prot → Reply → Command → Type 0
Replies areas reply command = OfMemory areas (λ memory. reply ≡ reply_of memory command)

-- the reply of a call that returns a place, or is refused
abbrev pub reply_at : Result ℕ Errno → Reply
reply_at (Ok start) = At start
reply_at (Err errno) = Refused errno

-- the reply, unless the call is refused
abbrev pub unless_refused : Option Errno → Reply → Reply
unless_refused None answer = answer
unless_refused (Some errno) answer = Refused errno
