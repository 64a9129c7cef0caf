-- What the text of strace is not.
use Rattle.std.specs.Prelude.{◌≡◌, ◌≢◌, ℕ, List, ◌∷◌}

-- the text has a first byte, and that is not the u with which a log begins
abbrev pub IsNoLog : List ℕ → Type 0
IsNoLog text = (byte : ℕ) × (rest : List ℕ) × (text ≡ byte ∷ rest) × (byte ≢ 117)
