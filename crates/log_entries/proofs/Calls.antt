-- The lines of a call among others.
use Rattle.std.proofs.Common.{◌≡◌, ℕ, ◌==◌, ◌&&◌, Bool, true, false, List, [], ◌∷◌, ◌++◌, refl, sym, ap, subst, ◌∙◌, append-nil}
use Rattle.std.specs.Prelude.{if◌then◌else◌, not, filter}
use Rattle.std.proofs.lemmas.Bool.{and_parts, and_from, eq-eqb, eqb-true}
use Rattle.std.proofs.lemmas.List.Elements.{filter-append}
use Rattle.uffd_log.specs.declared.line.Line.{Line}
use Rattle.uffd_log.specs.declared.line.Line.TheVariants as line
use Rattle.log_entries.specs.declared.log_line.LogLine.{LogLine}
use Rattle.log_entries.specs.Events.{is_of}
use Rattle.log_entries.specs.Readers.{others, own}

-- the numbers of two pairs
two : (a b x y p q : ℕ) → (a == x && b == y) ≡ true → (a == p && b == q) ≡ true → (p == x && q == y) ≡ true
two a b x y p q e f =
    let u = and_parts (a == x) (b == y) e in
    let v = and_parts (a == p) (b == q) f in
    and_from (p == x) (q == y) (eq-eqb p x (sym (eqb-true a p v.0) ∙ eqb-true a x u.0)) (eq-eqb q y (sym (eqb-true b q v.1) ∙ eqb-true b y u.1))

-- a line is of one call
pub of_one : (pid n p m : ℕ) (l : Line) → is_of pid n l ≡ true → is_of p m l ≡ true → (p == pid && m == n) ≡ true
of_one pid n p m (line.Begin stamp k c) e f = two stamp.pid k pid n p m e f
of_one pid n p m (line.End stamp k a) e f = two stamp.pid k pid n p m e f
of_one pid n p m (line.Read stamp k message) e f = two stamp.pid k pid n p m e f
of_one pid n p m (line.Have stamp k start len bits) e f = two stamp.pid k pid n p m e f
of_one pid n p m (line.Found stamp on) e f = absurd (cc)
of_one pid n p m (line.Dropped stamp on) e f = absurd (cc)
of_one pid n p m (line.Started stamp parent) e f = absurd (cc)
of_one pid n p m (line.Forked stamp parent) e f = absurd (cc)
of_one pid n p m (line.Exit stamp) e f = absurd (cc)
of_one pid n p m (line.Lost count) e f = absurd (cc)

-- a filter of what another filter leaves

kept_none : (t u : LogLine → Bool) → ((one : LogLine) → t one ≡ true → u one ≡ true) → (lines : List LogLine) → filter t (filter (λ (one : LogLine). not (u one)) lines) ≡ []
kept_none t u h [] = refl
kept_none t u h (one ∷ lines) =
    elim (u one) as (λ b. u one ≡ b → filter t (filter (λ (one : LogLine). not (u one)) (one ∷ lines)) ≡ []) [
      | true ↦ λ e. rw e (kept_none t u h lines)
      | false ↦ λ e.
          elim (t one) as (λ b. t one ≡ b → filter t (filter (λ (one : LogLine). not (u one)) (one ∷ lines)) ≡ []) [
            | true ↦ λ f. let g = h one f in absurd (cc)
            | false ↦ λ f. rw (e, f) (kept_none t u h lines)
          ] refl
    ] refl

kept_all : (t u : LogLine → Bool) → ((one : LogLine) → u one ≡ true → t one ≡ false) → (lines : List LogLine) → filter t (filter (λ (one : LogLine). not (u one)) lines) ≡ filter t lines
kept_all t u h [] = refl
kept_all t u h (one ∷ lines) =
    elim (u one) as (λ b. u one ≡ b → filter t (filter (λ (one : LogLine). not (u one)) (one ∷ lines)) ≡ filter t (one ∷ lines)) [
      | true ↦ λ e. let f = h one e in rw (e, f) (kept_all t u h lines)
      | false ↦ λ e.
          elim (t one) as (λ b. t one ≡ b → filter t (filter (λ (one : LogLine). not (u one)) (one ∷ lines)) ≡ filter t (one ∷ lines)) [
            | true ↦ λ f. rw (e, f) (ap (λ (l : List LogLine). one ∷ l) (kept_all t u h lines))
            | false ↦ λ f. rw (e, f) (kept_all t u h lines)
          ] refl
    ] refl

-- the lines of a call that was taken away, and of another one

of_same : (pid n p m : ℕ) → (p == pid && m == n) ≡ true → (l : Line) → is_of pid n l ≡ true → is_of p m l ≡ true
of_same pid n p m e l f =
    let u = and_parts (p == pid) (m == n) e in
    let P : ℕ → Type 0 = λ k. is_of k m l ≡ true in
    let Q : ℕ → Type 0 = λ k. is_of pid k l ≡ true in
    subst P (sym (eqb-true p pid u.0)) (subst Q (sym (eqb-true m n u.1)) f)

not_of : (pid n p m : ℕ) → (p == pid && m == n) ≡ false → (l : Line) → is_of p m l ≡ true → is_of pid n l ≡ false
not_of pid n p m e l f =
    elim (is_of pid n l) as (λ b. is_of pid n l ≡ b → is_of pid n l ≡ false) [
      | true ↦ λ g. let k = of_one pid n p m l g f in absurd (cc)
      | false ↦ λ g. g
    ] refl

pub own_others : (pid n p m : ℕ) (lines : List LogLine) → own pid n (others p m lines) ≡ (if p == pid && m == n then [] else own pid n lines)
own_others pid n p m lines =
    elim (p == pid && m == n) as (λ b. (p == pid && m == n) ≡ b → own pid n (others p m lines) ≡ (if b then [] else own pid n lines)) [
      | true ↦ λ e. kept_none (λ (one : LogLine). is_of pid n one.line) (λ (one : LogLine). is_of p m one.line) (λ one. of_same pid n p m e one.line) lines
      | false ↦ λ e. kept_all (λ (one : LogLine). is_of pid n one.line) (λ (one : LogLine). is_of p m one.line) (λ one. not_of pid n p m e one.line) lines
    ] refl

pub own_push : (pid n : ℕ) (lines : List LogLine) (one : LogLine) → own pid n (lines ++ one ∷ []) ≡ own pid n lines ++ (if is_of pid n one.line then one ∷ [] else [])
own_push pid n lines one =
    filter-append (λ (one : LogLine). is_of pid n one.line) lines (one ∷ [])
    ∙ ap (λ (l : List LogLine). own pid n lines ++ l) (
    elim (is_of pid n one.line) as (λ b. is_of pid n one.line ≡ b → own pid n (one ∷ []) ≡ (if b then one ∷ [] else [])) [
      | true ↦ λ e. rw e refl
      | false ↦ λ e. rw e refl
    ] refl
    )

pub same_call : (pid n p m : ℕ) (l : Line) → is_of pid n l ≡ true → is_of p m l ≡ true → (p ≡ pid) × (m ≡ n)
same_call pid n p m l e f =
    let u = and_parts (p == pid) (m == n) (of_one pid n p m l e f) in
    (eqb-true p pid u.0, eqb-true m n u.1)

-- the lines that are kept where a call begins: they are those of the calls under way

pub own_begun : (pid n p m : ℕ) (kept : List LogLine) (one : LogLine) → is_of pid n one.line ≡ (p == pid && m == n)
    → own pid n (others p m kept ++ one ∷ []) ≡ (if is_of pid n one.line then one ∷ [] else own pid n kept)
own_begun pid n p m kept one of =
    own_push pid n (others p m kept) one ∙ rw (own_others pid n p m kept, of) (
    elim (p == pid && m == n) as (λ b. (if b then [] else own pid n kept) ++ (if b then one ∷ [] else []) ≡ (if b then one ∷ [] else own pid n kept)) [
      | true ↦ refl
      | false ↦ append-nil (own pid n kept)
    ]
    )
