-- How a run continues: line by line.
use Rattle.std.proofs.Common.{◌≡◌, ℕ, ◌+◌, ◌<◌, ◌≤◌, List, [], ◌∷◌, ◌++◌, length, refl, sym, ap, subst, ◌∙◌, append_assoc, append-nil, arith, inl, inr, length-append}
use Rattle.std.specs.Str.Lines.{strip_carriage_return}
use Rattle.grammar.specs.declared.line.Language.{Language}
use Rattle.grammar.specs.declared.order.Order.{Order}
use Rattle.grammar.specs.declared.line.Line.{Line}
use Rattle.grammar.specs.declared.line.Line.TheVariants.{Do}
use Rattle.engine.specs.declared.line_runner.Mode.{Mode}
use Rattle.engine.specs.Script.{Obeys}
use Rattle.mig_model.specs.Migration.{World}
use Rattle.engine.specs.declared.fault.RunFault.{RunFault}
use Rattle.engine.specs.declared.fault.RunFault.TheVariants as faults
use Rattle.grammar.specs.Spelling.{Spells}
use Rattle.grammar.specs.Lines.{HasNoFeed, BeginsWrong}
use Rattle.engine.specs.Engine.{Gathered, Place, Work, Running, language_of, Takes, Does, Works, ReadsEnded, Made, MakeFault, Advances, Fed, FaultAt, FaultWithin, Faults, FedUntil}
use Rattle.grammar.proofs.Cuts.{no_feed-append, feed_inside, one_cut, feed_behind}
use Rattle.engine.proofs.Lines.{reads_more, reads_then, works_then, works_keep}

-- ---- one line

-- an order that was carried out on the world, and what is printed of it gathered
pub obeyed : (old : Gathered) (mode : Mode) (state new : World) (order : Order) (text output : List ℕ) → old.work ≡ Running mode state → Obeys mode state order new text → output ≡ old.output ++ text
    → Takes old (Do order) (record { work = Running mode new; output = output })
obeyed old mode state new order text output is obeys gathers = record {
  out = text;
  does = subst (λ (w : Work). Does w (Do order) (Running mode new) text) (sym is) (new, refl, obeys);
  gathers = gathers;
}

-- ---- one after the other

-- the lines of what was read, and then those of ys
reads_after : (a b : Place) (xs ys text : List ℕ) (p : Advances a xs b text) (lines : List Line) (rest : List ℕ) → ReadsEnded (language_of b.work) (b.line ++ ys) lines rest
    → ReadsEnded (language_of a.work) (a.line ++ (xs ++ ys)) (p.lines ++ lines) rest
reads_after a b xs ys text p lines rest r =
    let l = language_of a.work in
    let same : language_of b.work ≡ l = works_keep a.work p.lines b.work text p.works in
    let behind : ReadsEnded l (b.line ++ ys) lines rest = subst (λ (k : Language). ReadsEnded k (b.line ++ ys) lines rest) same r in
    subst (λ (t : List ℕ). ReadsEnded l t (p.lines ++ lines) rest) (append_assoc a.line xs ys)
    (reads_then l ((a.line ++ xs) ++ ys) p.lines (b.line ++ ys) lines rest (reads_more l (a.line ++ xs) p.lines b.line ys p.reads) behind)

pub advances_then : (a b c : Place) (xs ys text more : List ℕ) → Advances a xs b text → Advances b ys c more → Advances a (xs ++ ys) c (text ++ more)
advances_then a b c xs ys text more p q = record {
  lines = p.lines ++ q.lines;
  reads = reads_after a b xs ys text p q.lines c.line q.reads;
  number = omega (arith, p.number, q.number, length-append p.lines q.lines);
  works = works_then a.work p.lines b.work text q.lines c.work more p.works q.works;
}

pub fault_at_then : (a b : Place) (xs ys text more : List ℕ) (n : ℕ) → Advances a xs b text → FaultAt b ys n more → FaultAt a (xs ++ ys) n (text ++ more)
fault_at_then a b xs ys text more n p q = record {
  lines = p.lines ++ q.lines;
  rest = q.rest;
  end = q.end;
  reads = reads_after a b xs ys text p q.lines q.rest q.reads;
  number = omega (arith, q.number, p.number, length-append p.lines q.lines);
  wrong = λ more. subst (λ (k : Language). BeginsWrong k (q.rest ++ more)) (works_keep a.work p.lines b.work text p.works) (q.wrong more);
  works = works_then a.work p.lines b.work text q.lines q.end more p.works q.works;
}

pub fault_within_then : (a b : Place) (xs ys text more unwritten : List ℕ) → Advances a xs b text → FaultWithin b ys more unwritten → FaultWithin a (xs ++ ys) (text ++ more) unwritten
fault_within_then a b xs ys text more unwritten p q = record {
  lines = p.lines ++ q.lines;
  rest = q.rest;
  end = q.end;
  reads = reads_after a b xs ys text p q.lines q.rest q.reads;
  works = subst (λ (t : List ℕ). Works a.work (p.lines ++ q.lines) q.end t) (sym (append_assoc text more unwritten))
      (works_then a.work p.lines b.work text q.lines q.end (more ++ unwritten) p.works q.works);
}

pub faults_then : (a b : Place) (xs ys text more : List ℕ) (fault : RunFault) → Advances a xs b text → Faults b ys fault more → Faults a (xs ++ ys) fault (text ++ more)
faults_then a b xs ys text more (faults.Line n) p q = fault_at_then a b xs ys text more n p q
faults_then a b xs ys text more faults.ReadFault p q = q
faults_then a b xs ys text more faults.WriteFault p q = q
faults_then a b xs ys text more faults.NoMemory p q = fault_within_then a b xs ys text more [] p q

-- bytes that come after a fault change nothing
fault_at_more : (a : Place) (xs others : List ℕ) (n : ℕ) (text : List ℕ) → FaultAt a xs n text → FaultAt a (xs ++ others) n text
fault_at_more a xs others n text q = record {
  lines = q.lines;
  rest = q.rest ++ others;
  end = q.end;
  reads = subst (λ (t : List ℕ). ReadsEnded (language_of a.work) t q.lines (q.rest ++ others)) (append_assoc a.line xs others) (reads_more (language_of a.work) (a.line ++ xs) q.lines q.rest others q.reads);
  number = q.number;
  wrong = λ more. subst (λ (t : List ℕ). BeginsWrong (language_of a.work) t) (sym (append_assoc q.rest others more)) (q.wrong (others ++ more));
  works = q.works;
}

fault_within_more : (a : Place) (xs others text unwritten : List ℕ) → FaultWithin a xs text unwritten → FaultWithin a (xs ++ others) text unwritten
fault_within_more a xs others text unwritten q = record {
  lines = q.lines;
  rest = q.rest ++ others;
  end = q.end;
  reads = subst (λ (t : List ℕ). ReadsEnded (language_of a.work) t q.lines (q.rest ++ others)) (append_assoc a.line xs others) (reads_more (language_of a.work) (a.line ++ xs) q.lines q.rest others q.reads);
  works = q.works;
}

faults_more : (a : Place) (xs others text : List ℕ) (fault : RunFault) → Faults a xs fault text → Faults a (xs ++ others) fault text
faults_more a xs others text (faults.Line n) q = fault_at_more a xs others n text q
faults_more a xs others text faults.ReadFault q = q
faults_more a xs others text faults.WriteFault q = q
faults_more a xs others text faults.NoMemory q = fault_within_more a xs others text [] q

-- ---- bytes of the open line

advances_held : (a b : Place) (bytes : List ℕ) → b ≡ record a { line = a.line ++ bytes } → Advances a bytes b []
advances_held a b bytes e = rw e (record { lines = []; reads = refl; number = omega arith; works = (refl, refl) })

pub fed_held : (a b : Place) (bytes : List ℕ) → b ≡ record a { line = a.line ++ bytes } → Fed a bytes b
fed_held a b bytes e = record { text = []; advances = advances_held a b bytes e; gathers = rw e (sym (append-nil a.output)) }

-- a line of more than 256 bytes is wrong, whatever comes after them
long_line : (a : Place) (bytes : List ℕ) → HasNoFeed a.line → HasNoFeed bytes → 256 < length (a.line ++ bytes) → FaultAt a bytes (a.number + 1) []
long_line a bytes one none long = record {
  lines = [];
  rest = a.line ++ bytes;
  end = a.work;
  reads = refl;
  number = omega arith;
  wrong = λ more. record {
    some = omega (arith, long, length-append (a.line ++ bytes) more);
    wrong = λ line rest r. elim r [
      | inl e ↦
          let behind = feed_behind e.raw (a.line ++ bytes) rest more (no_feed-append a.line bytes one none) (sym e.whole) in
          absurd (omega (arith, behind, e.short, long))
      | inr e ↦ absurd (omega (arith, e.0.short, long, length-append (a.line ++ bytes) more))
    ];
  };
  works = (refl, refl);
}

nothing_made : (a : Place) (bytes : List ℕ) → FaultWithin a bytes [] []
nothing_made a bytes = record { lines = []; rest = a.line ++ bytes; end = a.work; reads = refl; works = (refl, refl) }

pub until_long : (a : Place) (bytes : List ℕ) → HasNoFeed a.line → HasNoFeed bytes → 256 < length a.line + length bytes → FedUntil a bytes (faults.Line (a.number + 1)) a.output
until_long a bytes one none long = record {
  text = [];
  faults = long_line a bytes one none (omega (arith, long, length-append a.line bytes));
  gathers = sym (append-nil a.output);
}

pub until_memory : (a : Place) (bytes : List ℕ) → FedUntil a bytes faults.NoMemory a.output
until_memory a bytes = record { text = []; faults = nothing_made a bytes; gathers = sym (append-nil a.output) }

-- ---- the end of a line

-- the work of one line
pub one_work : (a : Work) (line : Line) (b : Work) (text : List ℕ) → Does a line b text → Works a (line ∷ []) b text
one_work a line b text d = (b, text, [], d, sym (append-nil text), (refl, refl))

pub fed_line : (a : Place) (text : List ℕ) (new : Gathered) → HasNoFeed a.line → length a.line ≤ 256 → text ≡ strip_carriage_return a.line
    → Made (record { work = a.work; output = a.output }) text new → Fed a (10 ∷ []) (record { work = new.work; output = new.output; line = []; number = a.number + 1 })
fed_line a text new one short e made = record {
  text = made.2.out;
  advances = record {
    lines = made.0 ∷ [];
    reads = ([], record { raw = a.line; whole = refl; one = one; short = short; spells = subst (λ (t : List ℕ). Spells (language_of a.work) t made.0) e made.1 }, refl);
    number = refl;
    works = one_work a.work made.0 new.work made.2.out made.2.does;
  };
  gathers = made.2.gathers;
}

wrong_line : (l : Language) (raw more : List ℕ) → HasNoFeed raw → ((line : Line) → Spells l (strip_carriage_return raw) line → ⊥) → BeginsWrong l (raw ++ 10 ∷ more)
wrong_line l raw more one wrong = record {
  some = omega (arith, length-append raw (10 ∷ more));
  wrong = λ line rest r. elim r [
    | inl e ↦
        let cut = one_cut e.raw raw rest more e.one one (sym e.whole) in
        wrong line (subst (λ (t : List ℕ). Spells l (strip_carriage_return t) line) cut.0 e.spells)
    | inr e ↦ feed_inside raw more e.0.one
  ];
}

make_faults : (a : Place) (text : List ℕ) (fault : RunFault) → HasNoFeed a.line → text ≡ strip_carriage_return a.line → MakeFault (language_of a.work) (a.number + 1) text fault → Faults a (10 ∷ []) fault []
make_faults a text (faults.Line n) one e h = record {
  lines = [];
  rest = a.line ++ 10 ∷ [];
  end = a.work;
  reads = refl;
  number = h.0 ∙ omega arith;
  wrong = λ more. subst (λ (t : List ℕ). BeginsWrong (language_of a.work) t) (sym (append_assoc a.line (10 ∷ []) more))
      (wrong_line (language_of a.work) a.line more one (λ line s. h.1 line (subst (λ (t : List ℕ). Spells (language_of a.work) t line) (sym e) s)));
  works = (refl, refl);
}
make_faults a text faults.ReadFault one e h = h
make_faults a text faults.WriteFault one e h = h
make_faults a text faults.NoMemory one e h = nothing_made a (10 ∷ [])

pub until_line : (a : Place) (text output : List ℕ) (fault : RunFault) → HasNoFeed a.line → text ≡ strip_carriage_return a.line → MakeFault (language_of a.work) (a.number + 1) text fault → output ≡ a.output
    → FedUntil a (10 ∷ []) fault output
until_line a text output fault one e h kept = record { text = []; faults = make_faults a text fault one e h; gathers = kept ∙ sym (append-nil a.output) }

-- ---- pieces

pub fed_then : (a b c : Place) (xs ys : List ℕ) → Fed a xs b → Fed b ys c → Fed a (xs ++ ys) c
fed_then a b c xs ys p q = record {
  text = p.text ++ q.text;
  advances = advances_then a b c xs ys p.text q.text p.advances q.advances;
  gathers = q.gathers ∙ ap (λ (t : List ℕ). t ++ q.text) p.gathers ∙ append_assoc a.output p.text q.text;
}

pub until_then : (a b : Place) (xs ys output : List ℕ) (fault : RunFault) → Fed a xs b → FedUntil b ys fault output → FedUntil a (xs ++ ys) fault output
until_then a b xs ys output fault p q = record {
  text = p.text ++ q.text;
  faults = faults_then a b xs ys p.text q.text fault p.advances q.faults;
  gathers = q.gathers ∙ ap (λ (t : List ℕ). t ++ q.text) p.gathers ∙ append_assoc a.output p.text q.text;
}

pub until_more : (a : Place) (xs others output : List ℕ) (fault : RunFault) → FedUntil a xs fault output → FedUntil a (xs ++ others) fault output
until_more a xs others output fault q = record { text = q.text; faults = faults_more a xs others q.text fault q.faults; gathers = q.gathers }
