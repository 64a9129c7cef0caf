use Rattle.std.proofs.Common.{◌≡◌, ℕ, ◌+◌, ◌-◌, ◌<◌, true}
use Rattle.dirty_log.specs.Spaces.{is_sendable}
use Rattle.dirty_log.proofs.spaces.are_sendable.Given as goal

abbrev pub invariant-loop-page : goal.invariant-loop-page
invariant-loop-page l = (i : ℕ) → i < l.page - l.first → is_sendable l.space (l.first + i) ≡ true
