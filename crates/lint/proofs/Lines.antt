-- The listing of the lines that were read.
use Rattle.std.proofs.Common.{◌≡◌, ℕ, ◌+◌, ◌<◌, List, [], ◌∷◌, ◌++◌, length, Option, Some, None, Bool, true, false, refl, sym, ap, subst, ◌∙◌, append_assoc, append-nil, rules, inl, inr}
use Rattle.std.specs.Prelude.{◌↔◌, IsTrue, IfSome}
use Rattle.std.specs.List.{concat}
use Rattle.std.specs.Io.KnownBytes.{Appends}
use Rattle.grammar.specs.declared.line.Language.{Language}
use Rattle.engine.specs.declared.fault.RunFault.{RunFault}
use Rattle.engine.specs.declared.fault.RunFault.TheVariants as faults
use Rattle.grammar.specs.Lines.{HasNoFeed}
use Rattle.engine.specs.Lines.{raw_line, TakesAll, joined, Taken, Finishes, Stops as Breaks}
use Rattle.engine.proofs.RawLines.{ended_line, ended_wrong, last_line, last_wrong}
use Rattle.lint.specs.declared.linter.Linter.{Linter}
use Rattle.lint.specs.Listing.{ListsLine, Lists, ListsAll, ListsWithin, ListingStops}
use Rattle.lint.specs.Parts.{ListsRaw, Takes}

-- One line

lists_ended : (l : Language) (name : List ℕ) (n : ℕ) (raw rest text : List ℕ) → HasNoFeed raw → ListsRaw l name n (raw_line raw true) text → ListsLine l name n (raw ++ 10 ∷ rest) text rest
lists_ended l name n raw rest text one r = elim r [
  | inl p ↦ inl (p.0.0, inl (ended_line l raw (raw ++ 10 ∷ rest) rest p.0.0 one refl p.0.1), p.1)
  | inr p ↦ inr (ended_wrong l raw rest one (λ line s. p.0 (line, s)), inl (raw, one, refl), p.1)
]

lists_last : (l : Language) (name : List ℕ) (n : ℕ) (raw text : List ℕ) → 0 < length raw → HasNoFeed raw → ListsRaw l name n (raw_line raw false) text → ListsLine l name n raw text []
lists_last l name n raw text some one r = elim r [
  | inl p ↦ inl (p.0.0, inr (last_line l raw p.0.0 some one p.0.1, refl), p.1)
  | inr p ↦ inr (last_wrong l raw some one (λ line s. p.0 (line, s)), inr (one, refl), p.1)
]

-- Lines

nil_front : (xs ys : List ℕ) → xs ++ ys ≡ [] → (xs ≡ []) × (ys ≡ [])
nil_front [] ys e = (refl, e)
nil_front (x ∷ xs) ys e = cc

nil_both : (xs ys : List ℕ) → xs ≡ [] → ys ≡ [] → xs ++ ys ≡ []
nil_both xs ys e d = rw e d

-- whether nothing was listed of these lines and nothing of those
clean_then : (a b c : Bool) (xs ys text : List ℕ) → text ≡ xs ++ ys → IsTrue b ↔ (IsTrue a × (xs ≡ [])) → IsTrue c ↔ (IsTrue b × (ys ≡ [])) → IsTrue c ↔ (IsTrue a × (text ≡ []))
clean_then a b c xs ys text whole p q = (
  λ h.
      let last = q.0 h in
      let first = p.0 last.0 in
      (first.0, whole ∙ nil_both xs ys first.1 last.1),
  λ h.
      let both = nil_front xs ys (sym whole ∙ h.1) in
      q.1 (p.1 (h.0, both.0), both.1),
)

-- what was listed of these lines
record Listed (l : Language) (name : List ℕ) (n : ℕ) (bytes rest : List ℕ) (old new : Linter) (text : List ℕ) : Type 0 where
  pub texts : List (List ℕ)
  pub lists : Lists l name n bytes texts rest
  pub whole : concat texts ≡ text
  pub clean : IsTrue new.clean ↔ (IsTrue old.clean × (text ≡ []))

lists_all : (l : Language) (name : List ℕ) (n : ℕ) (old : Linter) (raws : List (List ℕ)) (last rest : List ℕ) (new : Linter) (text : List ℕ) → old.language ≡ l → old.name.now ≡ name → (0 < length last → rest ≡ []) → TakesAll Takes old n raws last new text
    → Listed l name n (joined raws ++ (last ++ rest)) rest old new text
lists_all l name n old [] last rest new text language is ends p = elim p [
  | inl none ↦ record {
    texts = [];
    lists = ap (λ (t : List ℕ). t ++ rest) none.0;
    whole = sym none.2;
    clean = (λ h. (subst (λ (s : Linter). IsTrue s.clean) none.1 h, none.2), λ h. subst (λ (s : Linter). IsTrue s.clean) (sym none.1) h.0);
  }
  | inr some ↦
      let nil = ends some.0 in
      let took : Takes old n (raw_line last false) new text = some.2 in
      let line : ListsLine l name n last text [] = lists_last l name n last text some.0 some.1 (rw (← language, ← is) took.lists) in
      record {
        texts = text ∷ [];
        lists = ([], subst (λ (t : List ℕ). ListsLine l name n t text []) (sym (ap (λ (t : List ℕ). last ++ t) nil ∙ append-nil last)) line, sym nil);
        whole = append-nil text;
        clean = took.clean;
      }
]
lists_all l name n old (raw ∷ raws) last rest new text language is ends p =
    let took : Takes old n (raw_line raw true) p.0 p.1 = p.4 in
    let behind = joined raws ++ (last ++ rest) in
    let more = lists_all l name (n + 1) p.0 raws last rest new p.2 (took.language ∙ language) (took.name ∙ is) ends p.6 in
    let line : ListsLine l name n (raw ++ 10 ∷ behind) p.1 behind = lists_ended l name n raw behind p.1 p.3 (rw (← language, ← is) took.lists) in
    record {
      texts = p.1 ∷ more.texts;
      lists = (behind, subst (λ (t : List ℕ). ListsLine l name n t p.1 behind) (sym (append_assoc raw (10 ∷ joined raws) (last ++ rest))) line, more.lists);
      whole = ap (λ (t : List ℕ). p.1 ++ t) more.whole ∙ sym p.5;
      clean = clean_then old.clean p.0.clean new.clean p.1 p.2 text p.5 took.clean more.clean;
    }

-- The input

-- a listing begins
pub record IsNew (l : Language) (title : List ℕ) (linter : Linter) : Type 0 where
  pub language : linter.language ≡ l
  pub name : linter.name.now ≡ title
  pub clean : linter.clean ≡ true

within : (l : Language) (name : List ℕ) (start : Linter) (input last more held : List ℕ) (unread before after : Option (List ℕ)) → IsNew l name start → (t : Taken Takes start input last more before after) → IfSome unread (λ bytes. t.rest ≡ held ++ bytes)
    → ListsWithin l name input unread held more before after
within l name start input last more held unread before after fresh t read =
    let all = lists_all l name 1 start t.raws last t.rest t.end (t.written ++ more) fresh.language fresh.name t.ends t.all in
    record {
      texts = all.texts;
      rest = t.rest;
      written = t.written;
      lists = subst (λ (b : List ℕ). Lists l name 1 b all.texts t.rest) (sym t.whole) all.lists;
      read = read;
      parts = all.whole;
      appends = t.appends;
    }

pub lists_stopped : (l : Language) (name : List ℕ) (start : Linter) (input unread before after : Option (List ℕ)) (fault : RunFault) → IsNew l name start
    → IfSome input (λ bytes. Breaks Takes (λ _ _ _. ⊥) start bytes unread fault before after) → IfSome input (λ bytes. ListingStops l name bytes unread fault before after)
lists_stopped l name start None unread before after fault fresh s = tt
lists_stopped l name start (Some x) unread before after (faults.Line n) fresh s = s.2.1.wrong
lists_stopped l name start (Some x) unread before after faults.ReadFault fresh s = (s.0, s.1, within l name start x [] [] s.0 unread before after fresh s.2 s.3)
lists_stopped l name start (Some x) unread before after faults.WriteFault fresh s = (s.4.0, s.1, s.2, within l name start x s.0 s.1 s.4.0 unread before after fresh s.3 s.4.1)
lists_stopped l name start (Some x) unread before after faults.NoMemory fresh s = (s.1.0, within l name start x [] [] s.1.0 unread before after fresh s.0 s.1.1)

pub lists_finished : (l : Language) (name : List ℕ) (start end : Linter) (input before after : Option (List ℕ)) → IsNew l name start
    → IfSome input (λ bytes. Finishes Takes start bytes end [] before after) → IfSome input (λ bytes. ListsAll l name bytes end.clean before after)
lists_finished l name start end None before after fresh f = tt
lists_finished l name start end (Some x) before after fresh f =
    let t = f.1 in
    let all = lists_all l name 1 start t.raws f.0 t.rest t.end (t.written ++ []) fresh.language fresh.name t.ends t.all in
    let whole : concat all.texts ≡ t.written = all.whole ∙ append-nil t.written in
    record {
      texts = all.texts;
      lists = subst (λ (rest : List ℕ). Lists l name 1 x all.texts rest) f.2 (subst (λ (b : List ℕ). Lists l name 1 b all.texts t.rest) (sym t.whole) all.lists);
      clean = (
        λ h. all.whole ∙ (all.clean.0 (subst (λ (s : Linter). IsTrue s.clean) (sym f.3) h)).1,
        λ none. subst (λ (s : Linter). IsTrue s.clean) f.3 (all.clean.1 (rw fresh.clean (search rules), sym all.whole ∙ none)),
      );
      appends = subst (λ (o : List ℕ). Appends before after o) (sym whole) t.appends;
    }
