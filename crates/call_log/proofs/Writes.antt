-- Bytes that go out in several writes.
use Rattle.std.proofs.Common.{◌≡◌, ℕ, List, ◌++◌, take, drop, sym, ap, ◌∙◌, append_assoc}
use Rattle.std.specs.Prelude.{Option}
use Rattle.std.specs.Io.KnownBytes.{Appends}
use Rattle.std.proofs.lemmas.List.{take-append-drop}
use Rattle.std.proofs.KnownBytes.{Appends-trans}

-- a front of the bytes went out, and rest is left
pub record Wrote (bytes rest : List ℕ) (before after : Option (List ℕ)) : Type 0 where
  pub written : List ℕ
  pub parts : bytes ≡ written ++ rest
  pub appends : Appends before after written

pub wrote_more : (bytes rest : List ℕ) (n : ℕ) (a b c : Option (List ℕ)) → Wrote bytes rest a b → Appends b c (take n rest) → Wrote bytes (drop n rest) a c
wrote_more bytes rest n a b c so_far next = record {
  written = so_far.written ++ take n rest;
  parts = so_far.parts ∙ ap (λ (t : List ℕ). so_far.written ++ t) (sym (take-append-drop n rest)) ∙ sym (append_assoc so_far.written (take n rest) (drop n rest));
  appends = Appends-trans a b c so_far.written (take n rest) so_far.appends next;
}
