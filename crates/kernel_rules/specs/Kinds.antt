-- The calls on objects in four groups, by which a table has a call take effect.
use Rattle.std.specs.Prelude.{Bool, true, false, if◌then◌else◌, Option, None}
use Rattle.uffd_log.specs.declared.call.Call.{Call}
use Rattle.uffd_log.specs.declared.call.Call.TheVariants as call
use Rattle.kernel_rules.specs.State.{Kernel}

-- what a rule says, of calls of one group
abbrev pub only : Bool → Option Kernel → Option Kernel
only holds rule = if holds then rule else None

-- UFFDIO_COPY, UFFDIO_ZEROPAGE and UFFDIO_WRITEPROTECT
abbrev pub is_install : Call → Bool
is_install (call.Copy on to from len mode) = true
is_install (call.ZeroPage on start len mode) = true
is_install (call.WriteProtect on start len mode) = true
is_install _ = false

-- UFFDIO_CONTINUE, UFFDIO_POISON and UFFDIO_MOVE
abbrev pub is_filling : Call → Bool
is_filling (call.Continue on start len mode) = true
is_filling (call.Poison on start len mode) = true
is_filling (call.Move on to from len mode) = true
is_filling _ = false

-- the other calls on ranges of an object
abbrev pub is_on_range : Call → Bool
is_on_range (call.Register on start len mode) = true
is_on_range (call.Unregister on start len) = true
is_on_range (call.Wake on start len) = true
is_on_range (call.Scan on start len) = true
is_on_range _ = false
