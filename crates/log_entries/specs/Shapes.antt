-- What calls of a program say alike, and what each says alone: its number and its addresses.
use Rattle.std.specs.Prelude.{ℕ}
use Rattle.uffd_log.specs.declared.call.Call.{Call}
use Rattle.uffd_log.specs.declared.call.Call.TheVariants as call
use Rattle.kernel_rules.specs.declared.run.Made.{Made}

-- where a call writes, or its range begins
abbrev pub to_of : Call → ℕ
to_of (call.Register on start len mode) = start
to_of (call.Unregister on start len) = start
to_of (call.Wake on start len) = start
to_of (call.Copy on to from len mode) = to
to_of (call.Move on to from len mode) = to
to_of (call.ZeroPage on start len mode) = start
to_of (call.Continue on start len mode) = start
to_of (call.Poison on start len mode) = start
to_of (call.WriteProtect on start len mode) = start
to_of (call.Scan on start len) = start
to_of (call.Mmap addr len prot flags) = addr
to_of (call.Munmap addr len) = addr
to_of (call.Mremap addr old_len new_len flags target) = addr
to_of (call.Madvise addr len advice) = addr
to_of _ = 0

-- where a call reads; where mremap(2) moves its range
abbrev pub from_of : Call → ℕ
from_of (call.Copy on to from len mode) = from
from_of (call.Move on to from len mode) = from
from_of (call.Mremap addr old_len new_len flags target) = target
from_of _ = 0

-- a call with these addresses, if it has any
abbrev pub call_with : Call → ℕ → ℕ → Call
call_with (call.Register on start len mode) t f = call.Register on t len mode
call_with (call.Unregister on start len) t f = call.Unregister on t len
call_with (call.Wake on start len) t f = call.Wake on t len
call_with (call.Copy on to from len mode) t f = call.Copy on t f len mode
call_with (call.Move on to from len mode) t f = call.Move on t f len mode
call_with (call.ZeroPage on start len mode) t f = call.ZeroPage on t len mode
call_with (call.Continue on start len mode) t f = call.Continue on t len mode
call_with (call.Poison on start len mode) t f = call.Poison on t len mode
call_with (call.WriteProtect on start len mode) t f = call.WriteProtect on t len mode
call_with (call.Scan on start len) t f = call.Scan on t len
call_with (call.Mmap addr len prot flags) t f = call.Mmap t len prot flags
call_with (call.Munmap addr len) t f = call.Munmap t len
call_with (call.Mremap addr old_len new_len flags target) t f = call.Mremap t old_len new_len flags f
call_with (call.Madvise addr len advice) t f = call.Madvise t len advice
call_with c t f = c

-- a call without its number and its addresses
abbrev pub shape_of : Made → Made
shape_of made = record made { key = 0; call = call_with made.call 0 0 }

-- a call of a shape, with its number and its addresses
abbrev pub made_with : Made → ℕ → ℕ → ℕ → Made
made_with shape key to from = record shape { key = key; call = call_with shape.call to from }
