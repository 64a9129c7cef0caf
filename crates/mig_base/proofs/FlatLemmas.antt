-- A run that continues by one entry.
use Rattle.std.proofs.Common.{◌≡◌, List, [], ◌∷◌, ◌++◌, refl}
use Rattle.mig_base.specs.declared.command.Entry.{Entry}
use Rattle.mig_base.specs.Flat.{Memory, reply_of, after, IsRunFrom, memory_from}

pub memory_from-push : (memory : Memory) (entries : List Entry) (entry : Entry) → memory_from memory (entries ++ entry ∷ []) ≡ after (memory_from memory entries) entry.command
memory_from-push memory [] entry = refl
memory_from-push memory (e ∷ entries) entry = memory_from-push (after memory e.command) entries entry

pub IsRunFrom-push : (memory : Memory) (entries : List Entry) (entry : Entry) → IsRunFrom memory entries → entry.reply ≡ reply_of (memory_from memory entries) entry.command → IsRunFrom memory (entries ++ entry ∷ [])
IsRunFrom-push memory [] entry run same = (same, tt)
IsRunFrom-push memory (e ∷ entries) entry run same = (run.0, IsRunFrom-push (after memory e.command) entries entry run.1 same)
