-- Where the lines of a script end.
use Rattle.std.proofs.Common.{◌≡◌, ℕ, List, [], ◌∷◌, ◌++◌, sym, ap, subst, ◌∙◌, append_assoc, inl}
use Rattle.grammar.specs.declared.line.Language.{Language}
use Rattle.grammar.specs.declared.line.Line.{Line}
use Rattle.grammar.specs.declared.line.Line.TheVariants.{Skipped, Do, Enter}
use Rattle.grammar.specs.Lines.{EndedLine, Reads}
use Rattle.engine.specs.Engine.{Work, Running, Keeping, language_of, Does, Works, ReadsEnded}

ended_more : (l : Language) (bytes : List ℕ) (line : Line) (mid more : List ℕ) → EndedLine l bytes line mid → EndedLine l (bytes ++ more) line (mid ++ more)
ended_more l bytes line mid more e = record {
  raw = e.raw;
  whole = ap (λ (b : List ℕ). b ++ more) e.whole ∙ append_assoc e.raw (10 ∷ mid) more;
  one = e.one;
  short = e.short;
  spells = e.spells;
}

pub reads_more : (l : Language) (bytes : List ℕ) (lines : List Line) (rest more : List ℕ) → ReadsEnded l bytes lines rest → ReadsEnded l (bytes ++ more) lines (rest ++ more)
reads_more l bytes [] rest more r = ap (λ (b : List ℕ). b ++ more) r
reads_more l bytes (line ∷ lines) rest more r = (r.0 ++ more, ended_more l bytes line r.0 more r.1, reads_more l r.0 lines rest more r.2)

pub reads_then : (l : Language) (a : List ℕ) (xs : List Line) (b : List ℕ) (ys : List Line) (c : List ℕ) → ReadsEnded l a xs b → ReadsEnded l b ys c → ReadsEnded l a (xs ++ ys) c
reads_then l a [] b ys c p q = subst (λ (t : List ℕ). ReadsEnded l t ys c) (sym p) q
reads_then l a (x ∷ xs) b ys c p q = (p.0, p.1, reads_then l p.0 xs b ys c p.2 q)

pub reads_is : (l : Language) (a : List ℕ) (xs : List Line) (b : List ℕ) → ReadsEnded l a xs b → Reads l a xs b
reads_is l a [] b p = p
reads_is l a (x ∷ xs) b p = (p.0, inl p.1, reads_is l p.0 xs b p.2)

pub reads_last : (l : Language) (a : List ℕ) (xs : List Line) (b : List ℕ) (ys : List Line) (c : List ℕ) → ReadsEnded l a xs b → Reads l b ys c → Reads l a (xs ++ ys) c
reads_last l a [] b ys c p last = subst (λ (t : List ℕ). Reads l t ys c) (sym p) last
reads_last l a (x ∷ xs) b ys c p last = (p.0, inl p.1, reads_last l p.0 xs b ys c p.2 last)

pub works_then : (a : Work) (xs : List Line) (b : Work) (t : List ℕ) (ys : List Line) (c : Work) (u : List ℕ) → Works a xs b t → Works b ys c u → Works a (xs ++ ys) c (t ++ u)
works_then a [] b t ys c u p q = rw (p.1, ← p.0) q
works_then a (x ∷ xs) b t ys c u p q =
    (p.0, p.1, p.2 ++ u, p.3, ap (λ (z : List ℕ). z ++ u) p.4 ∙ append_assoc p.1 p.2 u, works_then p.0 xs b p.2 ys c u p.5 q)

-- a line leaves the language as it is
does_keep : (a : Work) (x : Line) (b : Work) (t : List ℕ) → Does a x b t → language_of b ≡ language_of a
does_keep a Skipped b t d = ap language_of d.0
does_keep (Running mode state) (Do order) b t d = ap language_of d.1
does_keep (Running mode state) (Enter entry) b t d = absurd d
does_keep (Keeping entries) (Do order) b t d = absurd d
does_keep (Keeping entries) (Enter entry) b t d = ap language_of d.0

pub works_keep : (a : Work) (xs : List Line) (b : Work) (t : List ℕ) → Works a xs b t → language_of b ≡ language_of a
works_keep a [] b t p = ap language_of p.0
works_keep a (x ∷ xs) b t p = works_keep p.0 xs b p.2 p.5 ∙ does_keep a x p.0 p.1 p.3
