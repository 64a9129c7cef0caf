-- Parts of the rule for well-formed frames, each the contract of one function.
use Rattle.std.specs.Prelude.{ℕ, ◌+◌, ◌<◌, ◌≤◌, Option, None, Some, List, length}
use Rattle.mig_base.specs.declared.TheConstants.{LOW_PAGE, HIGH_PAGE, MAX_RUN}
use Rattle.mig_base.specs.declared.command.Command.{Command}
use Rattle.mig_model.specs.Bounds.{ArePageBytes, IsRightAccess}

-- a run has 1 to `MAX_RUN` pages, all of them may be mapped, and each has its 4096 bytes
abbrev pub IsRunOf : ℕ → List (List ℕ) → Type 0
IsRunOf first pages = (0 < length pages) × (length pages ≤ MAX_RUN) × (LOW_PAGE ≤ first) × (first + length pages ≤ HIGH_PAGE) × ArePageBytes pages

-- a processor waits for nothing, or for an aligned load or store whose value fits its width
abbrev pub IsProperWait : Option Command → Type 0
IsProperWait None = Unit {0}
IsProperWait (Some command) = IsRightAccess command
