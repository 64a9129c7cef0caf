-- The pages whose sleepers a call wakes.
use Rattle.std.specs.Prelude.{ℕ, ◌+◌, ◌==◌, Bool, true}
use Rattle.mig_model.specs.Guest.{in_bytes}
use Rattle.vcpu.specs.declared.sleepers.Sleepers.{Sleepers}

-- whether processors that sleep on this page are woken. `Between` means the pages from that of its start up to, but not including, that
-- of its end; `Span` the same up to that of start + len
abbrev pub are_woken : Sleepers → ℕ → Bool
are_woken (Sleepers.OnPage woken) page = page == woken
are_woken (Sleepers.Between start end) page = in_bytes start end page
are_woken (Sleepers.Span start len) page = in_bytes start (start + len) page
are_woken Sleepers.OnAnyPage page = true
