-- The lines of a test, one after the other.
use Rattle.std.proofs.Common.{◌≡◌, ℕ, ◌+◌, ◌<◌, ◌≤◌, List, [], ◌∷◌, ◌++◌, length, refl, sym, subst, arith, inl, inr, length-append}
use Rattle.std.specs.Str.Lines.{strip_carriage_return}
use Rattle.grammar.specs.Lines.{HasNoFeed}
use Rattle.grammar.proofs.Cuts.{feed_inside, one_cut, feed_behind}
use Rattle.mig_model.specs.Migration.{World}
use Rattle.expected.specs.Cases.{Case, IsCase, ReadsCase, ReadsCases, BeginsWrong, Agrees}

pub reads_then : (n m : ℕ) (a : List ℕ) (xs : List Case) (b : List ℕ) (ys : List Case) (c : List ℕ) → ReadsCases n a xs b → m ≡ n + length xs → ReadsCases m b ys c → ReadsCases n a (xs ++ ys) c
reads_then n m a [] b ys c p e q =
    let same : m ≡ n = omega (arith, e) in
    subst (λ (t : List ℕ). ReadsCases n t ys c) (sym p) (subst (λ (k : ℕ). ReadsCases k b ys c) same q)
reads_then n m a (x ∷ xs) b ys c p e q = (p.0, p.1, reads_then (n + 1) m p.0 xs b ys c p.2 (omega (arith, e)) q)

pub agrees_then : (a : World) (xs : List Case) (b : World) (ys : List Case) (c : World) → Agrees a xs b → Agrees b ys c → Agrees a (xs ++ ys) c
agrees_then a [] b ys c p q = subst (λ (w : World). Agrees w ys c) p q
agrees_then a (x ∷ xs) b ys c p q = (p.0, p.1, p.2, p.3, agrees_then p.0 xs b ys c p.4 q)

pub ended_reads : (n : ℕ) (raw rest : List ℕ) (case : Case) → HasNoFeed raw → length raw ≤ 256 → IsCase n (strip_carriage_return raw) case → ReadsCase n (raw ++ 10 ∷ rest) case rest
ended_reads n raw rest case one short says = inl (record { raw = raw; whole = refl; one = one; short = short; says = says })

pub ended_wrong : (n : ℕ) (raw rest : List ℕ) → HasNoFeed raw → ((case : Case) → IsCase n (strip_carriage_return raw) case → ⊥) → BeginsWrong n (raw ++ 10 ∷ rest)
ended_wrong n raw rest one wrong = record {
  some = omega (arith, length-append raw (10 ∷ rest));
  wrong = λ case behind r. elim r [
    | inl e ↦
        let cut = one_cut e.raw raw behind rest e.one one (sym e.whole) in
        wrong case (subst (λ (t : List ℕ). IsCase n (strip_carriage_return t) case) cut.0 e.says)
    | inr e ↦ feed_inside raw rest e.one
  ];
}

pub last_wrong : (n : ℕ) (raw : List ℕ) → 0 < length raw → HasNoFeed raw → ((case : Case) → IsCase n raw case → ⊥) → BeginsWrong n raw
last_wrong n raw some one wrong = record {
  some = some;
  wrong = λ case rest r. elim r [
    | inl e ↦ feed_inside e.raw rest (subst (λ (t : List ℕ). HasNoFeed t) e.whole one)
    | inr e ↦ wrong case e.says
  ];
}

-- a line of more than 256 bytes is wrong, whatever comes after them
pub long_wrong : (n : ℕ) (raw more : List ℕ) → HasNoFeed raw → 256 < length raw → BeginsWrong n (raw ++ more)
long_wrong n raw more one long = record {
  some = omega (arith, long, length-append raw more);
  wrong = λ case rest r. elim r [
    | inl e ↦ omega (arith, long, e.short, feed_behind e.raw raw rest more one (sym e.whole))
    | inr e ↦ omega (arith, long, e.short, length-append raw more)
  ];
}
