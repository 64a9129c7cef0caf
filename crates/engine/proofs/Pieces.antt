-- A piece of a script, line by line, and the writing of its output.
use Rattle.std.proofs.Common.{◌≡◌, ℕ, ◌+◌, ◌<◌, ◌≤◌, List, [], ◌∷◌, ◌++◌, length, Option, refl, sym, ap, subst, ◌∙◌, append_assoc, append-nil, inl, inr}
use Rattle.std.specs.Prelude.{Result, Ok, Err, OnOk, OnErr, IfErr}
use Rattle.std.specs.Io.KnownBytes.{Appends}
use Rattle.std.proofs.KnownBytes.{Appends-nil}
use Rattle.grammar.specs.declared.line.Line.{Line}
use Rattle.engine.specs.declared.fault.RunFault.{RunFault}
use Rattle.engine.specs.declared.fault.RunFault.TheVariants as faults
use Rattle.grammar.specs.Spelling.{Spells}
use Rattle.grammar.specs.Lines.{HasNoFeed, LastLine, BeginsWrong}
use Rattle.engine.specs.Engine.{Gathered, Place, Work, language_of, Works, Made, MakeFault, Advances, Fed, Faults, FedUntil, Front, Passes, Halts, Closes, CloseFault}
use Rattle.grammar.proofs.Cuts.{feed_inside}
use Rattle.engine.proofs.Runs.{fed_then, until_then, until_more, fed_held, one_work}

-- ---- the lines of a piece

-- a front of the bytes led from one place to the other, and rest is left
pub record Feeds (a : Place) (bytes rest : List ℕ) (b : Place) : Type 0 where
  pub front : List ℕ
  pub parts : bytes ≡ front ++ rest
  pub fed : Fed a front b

pub parts_then : (bytes front rest line behind : List ℕ) → bytes ≡ front ++ rest → rest ≡ line ++ behind → bytes ≡ (front ++ line) ++ behind
parts_then bytes front rest line behind e cut = e ∙ ap (λ (t : List ℕ). front ++ t) cut ∙ sym (append_assoc front line behind)

pub feeds_line : (a b c : Place) (bytes rest line behind : List ℕ) → Feeds a bytes rest b → rest ≡ line ++ behind → Fed b line c → Feeds a bytes behind c
feeds_line a b c bytes rest line behind so_far cut fed = record {
  front = so_far.front ++ line;
  parts = parts_then bytes so_far.front rest line behind so_far.parts cut;
  fed = fed_then a b c so_far.front line so_far.fed fed;
}

pub feeds_until : (a b : Place) (bytes rest line behind output : List ℕ) (fault : RunFault) → Feeds a bytes rest b → rest ≡ line ++ behind → FedUntil b line fault output → FedUntil a bytes fault output
feeds_until a b bytes rest line behind output fault so_far cut until =
    subst (λ (t : List ℕ). FedUntil a t fault output) (sym (parts_then bytes so_far.front rest line behind so_far.parts cut))
    (until_more a (so_far.front ++ line) behind output fault (until_then a b so_far.front line output fault so_far.fed until))

pub feeds_all : (a b : Place) (bytes rest : List ℕ) → Feeds a bytes rest b → rest ≡ [] → Fed a bytes b
feeds_all a b bytes rest so_far none = subst (λ (t : List ℕ). Fed a t b) (sym (so_far.parts ∙ ap (λ (t : List ℕ). so_far.front ++ t) none ∙ append-nil so_far.front)) so_far.fed

-- ---- the output of a piece

-- nothing was gathered before
only : (before output text : List ℕ) → before ≡ [] → output ≡ before ++ text → output ≡ text
only before output text none e = rw none at e

pub piece_passes : {T E : Type 0} (fed : Result T E) (a b c : Place) (bytes : List ℕ) (u v : Option (List ℕ)) → a.output ≡ [] → OnOk fed (Fed a bytes b) → c ≡ record b { output = [] } → Appends u v b.output
    → OnOk fed (Passes a bytes c u v)
piece_passes (Err x) a b c bytes u v none f e appends = tt
piece_passes (Ok x) a b c bytes u v none f e appends = rw e (record {
  text = f.text;
  advances = record { lines = f.advances.lines; reads = f.advances.reads; number = f.advances.number; works = f.advances.works };
  appends = subst (λ (t : List ℕ). Appends u v t) (only a.output b.output f.text none f.gathers) appends;
})

-- the output that was written is taken away
pub cleared : (b : Place) (runner new : Gathered) (line : List ℕ) (number : ℕ) → record { work = runner.work; output = runner.output; line = line; number = number } ≡ b → new ≡ record runner { output = [] }
    → record { work = new.work; output = new.output; line = line; number = number } ≡ record b { output = [] }
cleared b runner new line number e none = rw (none, ← e) refl

until_halts : (a : Place) (bytes output : List ℕ) (fault : RunFault) (u v : Option (List ℕ)) → a.output ≡ [] → FedUntil a bytes fault output → Appends u v output → Halts a bytes fault u v
until_halts a bytes output (faults.Line n) u v none f appends = (f.text, f.faults, subst (λ (t : List ℕ). Appends u v t) (only a.output output f.text none f.gathers) appends)
until_halts a bytes output faults.ReadFault u v none f appends = f.faults
until_halts a bytes output faults.WriteFault u v none f appends = absurd f.faults
until_halts a bytes output faults.NoMemory u v none f appends = (f.text, f.faults, subst (λ (t : List ℕ). Appends u v t) (only a.output output f.text none f.gathers) appends)

pub piece_halts : {T : Type 0} (fed : Result T RunFault) (a : Place) (bytes output : List ℕ) (u v : Option (List ℕ)) → a.output ≡ [] → IfErr fed (λ fault. FedUntil a bytes fault output) → Appends u v output
    → IfErr fed (λ fault. Halts a bytes fault u v)
piece_halts (Ok x) a bytes output u v none f appends = tt
piece_halts (Err fault) a bytes output u v none f appends = until_halts a bytes output fault u v none f appends

advances_unwritten : (a b : Place) (bytes text output : List ℕ) (u v : Option (List ℕ)) → Advances a bytes b text → output ≡ text → Front output u v → Halts a bytes faults.WriteFault u v
advances_unwritten a b bytes text output u v p e front = (
  front.0,
  front.1,
  record { lines = p.lines; rest = b.line; end = b.work; reads = p.reads; works = subst (λ (t : List ℕ). Works a.work p.lines b.work t) (sym e ∙ front.2) p.works },
  front.3,
  front.4,
)

until_unwritten : (a : Place) (bytes text output : List ℕ) (fault : RunFault) (u v : Option (List ℕ)) → Faults a bytes fault text → output ≡ text → Front output u v → Halts a bytes faults.WriteFault u v
until_unwritten a bytes text output (faults.Line n) u v p e front = (
  front.0,
  front.1,
  record { lines = p.lines; rest = p.rest; end = p.end; reads = p.reads; works = subst (λ (t : List ℕ). Works a.work p.lines p.end t) (sym e ∙ front.2) p.works },
  front.3,
  front.4,
)
until_unwritten a bytes text output faults.ReadFault u v p e front = absurd p
until_unwritten a bytes text output faults.WriteFault u v p e front = absurd p
until_unwritten a bytes text output faults.NoMemory u v p e front = (
  front.0,
  front.1,
  record { lines = p.lines; rest = p.rest; end = p.end; reads = p.reads; works = subst (λ (t : List ℕ). Works a.work p.lines p.end t) (append-nil text ∙ sym e ∙ front.2) p.works },
  front.3,
  front.4,
)

pub piece_unwritten : {T : Type 0} (fed : Result T RunFault) (a b : Place) (bytes : List ℕ) (u v : Option (List ℕ)) → a.output ≡ [] → OnOk fed (Fed a bytes b) → IfErr fed (λ fault. FedUntil a bytes fault b.output) → Front b.output u v
    → Halts a bytes faults.WriteFault u v
piece_unwritten (Ok x) a b bytes u v none f h front = advances_unwritten a b bytes f.text b.output u v f.advances (only a.output b.output f.text none f.gathers) front
piece_unwritten (Err fault) a b bytes u v none f h front = until_unwritten a bytes h.text b.output fault u v h.faults (only a.output b.output h.text none h.gathers) front

-- ---- the last line

-- an open line that is not empty
pub record IsOpen (a : Place) : Type 0 where
  pub some : 0 < length a.line
  pub one : HasNoFeed a.line
  pub short : length a.line ≤ 256

last_line : (a : Place) (line : Line) → IsOpen a → Spells (language_of a.work) a.line line → LastLine (language_of a.work) a.line line
last_line a line held spells = record { some = held.some; one = held.one; short = held.short; spells = spells }

last_wrong : (a : Place) → IsOpen a → ((line : Line) → Spells (language_of a.work) a.line line → ⊥) → BeginsWrong (language_of a.work) a.line
last_wrong a held wrong = record {
  some = held.some;
  wrong = λ line rest r. elim r [
    | inl e ↦ feed_inside e.raw rest (subst (λ (t : List ℕ). HasNoFeed t) e.whole held.one)
    | inr e ↦ wrong line e.0.spells
  ];
}

pub closes_nothing : (a : Place) (u : Option (List ℕ)) → a.line ≡ [] → Closes a a.work [] [] [] u u
closes_nothing a u none = record { lines = []; reads = none; works = (refl, refl); appends = Appends-nil u }

pub closes_made : {T E : Type 0} (run : Result T E) (a : Place) (new : Gathered) (end : Work) (u v : Option (List ℕ)) → IsOpen a → a.output ≡ [] → OnOk run (Made (record { work = a.work; output = a.output }) a.line new) → end ≡ new.work
    → Appends u v new.output → OnOk run ((text : List ℕ) × Closes a end [] text [] u v)
closes_made (Err x) a new end u v held none m is appends = tt
closes_made (Ok x) a new end u v held none m is appends = (
  m.2.out,
  record {
    lines = m.0 ∷ [];
    reads = ([], inr (last_line a m.0 held m.1, refl), refl);
    works = subst (λ (w : Work). Works a.work (m.0 ∷ []) w (m.2.out ++ [])) (sym is)
        (subst (λ (t : List ℕ). Works a.work (m.0 ∷ []) new.work t) (sym (append-nil m.2.out)) (one_work a.work m.0 new.work m.2.out m.2.does));
    appends = subst (λ (t : List ℕ). Appends u v t) (only a.output new.output m.2.out none m.2.gathers) appends;
  },
)

closes_fault : (a : Place) (output : List ℕ) (fault : RunFault) (u v : Option (List ℕ)) → IsOpen a → output ≡ [] → MakeFault (language_of a.work) (a.number + 1) a.line fault → Appends u v output → CloseFault a fault u v
closes_fault a output (faults.Line n) u v held none h appends = record {
  number = h.0;
  wrong = last_wrong a held h.1;
  appends = subst (λ (t : List ℕ). Appends u v t) none appends;
}
closes_fault a output faults.ReadFault u v held none h appends = h
closes_fault a output faults.WriteFault u v held none h appends = absurd h
closes_fault a output faults.NoMemory u v held none h appends =
    (a.work, a.line, [], record { lines = []; reads = refl; works = (refl, refl); appends = subst (λ (t : List ℕ). Appends u v t) none appends })

pub closes_faulted : {T : Type 0} (run : Result T RunFault) (a : Place) (output : List ℕ) (u v : Option (List ℕ)) → IsOpen a → a.output ≡ [] → IfErr run (λ fault. MakeFault (language_of a.work) (a.number + 1) a.line fault)
    → OnErr run (output ≡ a.output) → Appends u v output → IfErr run (λ fault. CloseFault a fault u v)
closes_faulted (Ok x) a output u v held none h kept appends = tt
closes_faulted (Err fault) a output u v held none h kept appends = closes_fault a output fault u v held (kept ∙ none) h appends

pub closes_unwritten : {T : Type 0} (run : Result T RunFault) (a : Place) (new : Gathered) (u v : Option (List ℕ)) → IsOpen a → a.output ≡ [] → OnOk run (Made (record { work = a.work; output = a.output }) a.line new)
    → OnErr run (new.output ≡ a.output) → Front new.output u v → CloseFault a faults.WriteFault u v
closes_unwritten (Ok x) a new u v held none m kept front = (
  new.work,
  [],
  front.0,
  front.1,
  front.3,
  record {
    lines = m.0 ∷ [];
    reads = ([], inr (last_line a m.0 held m.1, refl), refl);
    works = subst (λ (t : List ℕ). Works a.work (m.0 ∷ []) new.work t) (sym (only a.output new.output m.2.out none m.2.gathers) ∙ front.2) (one_work a.work m.0 new.work m.2.out m.2.does);
    appends = front.4;
  },
)
closes_unwritten (Err x) a new u v held none m kept front = (
  a.work,
  a.line,
  front.0,
  front.1,
  front.3,
  record {
    lines = [];
    reads = refl;
    works = (refl, sym front.2 ∙ kept ∙ none);
    appends = front.4;
  },
)
