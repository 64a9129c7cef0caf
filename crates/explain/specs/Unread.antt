-- What a clause reads of a `NotingReader`.
use Rattle.std.specs.Prelude.{ℕ, List, Option}
use Rattle.explain.specs.declared.noting.NotingReader.{NotingReader}

-- the bytes that its reader has left, where they are known
abbrev pub unread : {R : Type 0} → (R → Option (List ℕ)) → NotingReader R → Option (List ℕ)
unread remaining noting = remaining noting.reader
