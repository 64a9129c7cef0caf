-- Where nothing is listed.
use Rattle.std.proofs.Common.{◌≡◌, ℕ, ◌+◌, ◌<◌, ◌⊎◌, List, [], ◌∷◌, ◌++◌, length, refl, ap, arith, inl, inr, length-append}
use Rattle.std.specs.Prelude.{◌↔◌}
use Rattle.std.specs.List.{concat}
use Rattle.grammar.specs.declared.line.Language.{Language}
use Rattle.grammar.specs.declared.line.Line.{Line}
use Rattle.grammar.specs.Lines.{ReadsLine, Reads, BeginsWrong}
use Rattle.grammar.proofs.Meaning.{no_fault}
use Rattle.lint.specs.Listing.{IsListed, Lists}

-- the bytes begin with lines of the language, and then one that is wrong
pub record FirstWrong (l : Language) (bytes : List ℕ) : Type 0 where
  pub lines : List Line
  pub rest : List ℕ
  pub reads : Reads l bytes lines rest
  pub wrong : BeginsWrong l rest

abbrev Clean : Language → List ℕ → List (List ℕ) → Type 0
Clean l bytes texts = (concat texts ≡ []) × (lines : List Line) × Reads l bytes lines []

abbrev Listed : Language → List ℕ → List (List ℕ) → Type 0
Listed l bytes texts = (0 < length (concat texts)) × FirstWrong l bytes

listed_some : (name : List ℕ) (n : ℕ) (text more : List ℕ) → IsListed name n text → 0 < length (text ++ more)
listed_some name n text more p = omega (arith, length-append text more, ap length p.parts, length-append {A = ℕ})

one_more : (l : Language) (bytes mid text : List ℕ) (texts : List (List ℕ)) (line : Line) → ReadsLine l bytes line mid → text ≡ [] → Clean l mid texts ⊎ Listed l mid texts → Clean l bytes (text ∷ texts) ⊎ Listed l bytes (text ∷ texts)
one_more l bytes mid text texts line r none rest = elim rest [
  | inl p ↦ inl (rw none p.0, line ∷ p.1, (mid, r, p.2))
  | inr p ↦ inr (rw none p.0, record { lines = line ∷ p.1.lines; rest = p.1.rest; reads = (mid, r, p.1.reads); wrong = p.1.wrong })
]

either : (l : Language) (name : List ℕ) (n : ℕ) (bytes : List ℕ) (texts : List (List ℕ)) → Lists l name n bytes texts [] → Clean l bytes texts ⊎ Listed l bytes texts
either l name n bytes [] p = inl (refl, [], p)
either l name n bytes (text ∷ texts) p = elim p.1 [
  | inl right ↦ one_more l bytes p.0 text texts right.0 right.1 right.2 (either l name (n + 1) p.0 texts p.2)
  | inr wrong ↦ inr (listed_some name n text (concat texts) wrong.2, record { lines = []; rest = bytes; reads = refl; wrong = wrong.0 })
]

pub nothing : (l : Language) (name input : List ℕ) (texts : List (List ℕ)) → Lists l name 1 input texts [] → (concat texts ≡ []) ↔ ((lines : List Line) × Reads l input lines [])
nothing l name input texts p = elim (either l name 1 input texts p) [
  | inl clean ↦ (λ _. (clean.1, clean.2), λ _. clean.0)
  | inr wrong ↦ (
    λ none. absurd (omega (arith, wrong.0, ap length none)),
    λ whole. absurd (no_fault l input whole.0 wrong.1.lines wrong.1.rest whole.1 wrong.1.reads wrong.1.wrong),
  )
]
