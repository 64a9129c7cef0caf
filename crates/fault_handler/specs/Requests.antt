-- The pages of the source that a destination has asked for.
use Rattle.std.specs.Prelude.{ℕ, ◌==◌, List}
use Rattle.std.specs.List.{IsDistinct}

-- each page is in the list once
abbrev pub StandOnce : List ℕ → Type 0
StandOnce pages = IsDistinct (λ page other. page == other) pages
