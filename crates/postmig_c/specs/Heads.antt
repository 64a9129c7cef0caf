-- Heads of frames that are written to a piece of memory of the caller.
use Rattle.std.specs.Prelude.{◌≡◌, ℕ, List, take}
use Rattle.nodes.specs.Heads.{IsPageHead, IsRunHead}

-- the piece begins with the 16 bytes of the head of a Page
abbrev pub BeginsPage : ℕ → ℕ → ℕ → List ℕ → Type 0
BeginsPage epoch page count out = (count ≡ 16) × IsPageHead (take count out) epoch page

-- the piece begins with the 20 bytes of the head of a Run
abbrev pub BeginsRun : ℕ → ℕ → ℕ → ℕ → List ℕ → Type 0
BeginsRun epoch first pages count out = (count ≡ 20) × IsRunHead (take count out) epoch first pages
