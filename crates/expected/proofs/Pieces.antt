-- The bytes of a piece, line by line.
use Rattle.std.proofs.Common.{◌≡◌, ℕ, ◌+◌, ◌<◌, ◌≤◌, ◌^◌, List, [], ◌∷◌, ◌++◌, length, refl, sym, ap, subst, ◌∙◌, arith, append_assoc, append-nil, length-append, inr}
use Rattle.std.specs.Prelude.{Some, IfOk, IfErr, Result, Ok, Err, string_bytes}
use Rattle.std.specs.Str.Lines.{strip_carriage_return}
use Rattle.grammar.specs.Lines.{HasNoFeed}
use Rattle.grammar.proofs.Cuts.{no_feed-append}
use Rattle.engine.specs.declared.fault.RunFault.{RunFault}
use Rattle.engine.specs.declared.fault.RunFault.TheVariants as faults
use Rattle.mig_model.specs.Migration.{World, first_world}
use Rattle.expected.specs.declared.outcome.Outcome.{Outcome}
use Rattle.expected.specs.declared.outcome.Outcome.TheVariants.{Same, Differs}
use Rattle.expected.specs.declared.player.Player.{Player}
use Rattle.expected.specs.declared.tester.Tester.{Tester}
use Rattle.expected.specs.Cases.{Case, Asks, IsCase, ReadsCase, ReadsCases, BeginsWrong, Agrees}
use Rattle.expected.specs.Tests.{difference_line, Met, SomeMet, Unmet, WrongAt, Comes}
use Rattle.expected.specs.Parts.{Passed, Failed, LeadsPlayer, FaultAtLine, Ran, After, FaultIn, FaultAtEnd}
use Rattle.expected.proofs.Reached.{agrees_promised, does_promised}
use Rattle.expected.proofs.Counting.{count_then, count_push}
use Rattle.expected.proofs.Lines.{reads_then, agrees_then, ended_reads, ended_wrong, last_wrong, long_wrong}

-- nothing was read
pub ran_none : (cpus : ℕ) (t : Tester) → t.line.items ≡ [] → t.number ≡ 0 → t.player.world ≡ first_world cpus → t.player.answers ≡ 0 → Ran cpus [] t
ran_none cpus t line number world answers = record {
  cases = [];
  reads = λ more. sym (ap (λ (l : List ℕ). l ++ more) line);
  agrees = world;
  number = number;
  answers = answers;
  one = subst HasNoFeed (sym line) tt;
  short = omega (arith, ap length line);
}

-- bytes of the open line
pub ran_hold : (cpus : ℕ) (front bytes : List ℕ) (a b : Tester) → HasNoFeed bytes → b.line.items ≡ a.line.items ++ bytes → b.player.world ≡ a.player.world → b.number ≡ a.number → b.player.answers ≡ a.player.answers
    → length a.line.items + length bytes ≤ 256 → Ran cpus front a → Ran cpus (front ++ bytes) b
ran_hold cpus front bytes a b one line world number answers short ran = record {
  cases = ran.cases;
  reads = λ more.
      subst (λ (t : List ℕ). ReadsCases 1 t ran.cases (b.line.items ++ more)) (sym (append_assoc front bytes more))
      (subst (λ (t : List ℕ). ReadsCases 1 (front ++ (bytes ++ more)) ran.cases t) (sym (ap (λ (l : List ℕ). l ++ more) line ∙ append_assoc a.line.items bytes more)) (ran.reads (bytes ++ more)));
  agrees = subst (λ (w : World). Agrees (first_world cpus) ran.cases w) (sym world) ran.agrees;
  number = number ∙ ran.number;
  answers = answers ∙ ran.answers;
  one = subst HasNoFeed (sym line) (no_feed-append a.line.items bytes ran.one one);
  short = omega (arith, short, ap length line, length-append a.line.items bytes);
}

-- the lines so far meet their answers, whatever comes after them
pub met_of : (cpus : ℕ) (bytes : List ℕ) (t : Tester) (ran : Ran cpus bytes t) (more : List ℕ) → Met cpus (bytes ++ more) ran.cases t.player.world (t.line.items ++ more)
met_of cpus bytes t ran more = record { reads = ran.reads more; agrees = ran.agrees; promised = agrees_promised cpus ran.cases t.player.world ran.agrees }

-- a line that ended, and met its answer
ran_line : (cpus : ℕ) (bytes : List ℕ) (a b : Tester) → b.line.items ≡ [] → b.number ≡ a.number + 1 → a.number + 1 < 2 ^ 64 → Ran cpus bytes a → Passed (a.number + 1) a.player.world a.player.answers (strip_carriage_return a.line.items) b.player → Ran cpus (bytes ++ 10 ∷ []) b
ran_line cpus bytes a b line number few ran p = record {
  cases = ran.cases ++ p.case ∷ [];
  reads = λ more.
      let here : ReadsCases (a.number + 1) (a.line.items ++ 10 ∷ more) (p.case ∷ []) more = (more, ended_reads (a.number + 1) a.line.items more p.case ran.one ran.short p.says, refl) in
      subst (λ (t : List ℕ). ReadsCases 1 t (ran.cases ++ p.case ∷ []) (b.line.items ++ more)) (sym (append_assoc bytes (10 ∷ []) more))
      (subst (λ (t : List ℕ). ReadsCases 1 (bytes ++ 10 ∷ more) (ran.cases ++ p.case ∷ []) t) (sym (ap (λ (l : List ℕ). l ++ more) line))
      (reads_then 1 (a.number + 1) (bytes ++ 10 ∷ more) ran.cases (a.line.items ++ 10 ∷ more) (p.case ∷ []) more (ran.reads (10 ∷ more)) (omega (arith, ran.number)) here));
  agrees = agrees_then (first_world cpus) ran.cases a.player.world (p.case ∷ []) b.player.world ran.agrees (b.player.world, string_bytes b.player.printed, p.does, p.meets, refl);
  number = omega (arith, number, ran.number, length-append ran.cases (p.case ∷ []));
  answers = count_push ran.cases p.case a.player.answers b.player.answers ran.answers (omega (arith, ran.number)) p.counts;
  one = subst HasNoFeed (sym line) tt;
  short = omega (arith, ap length line);
}

-- a line that does not meet its answer
unmet_at : (name : List ℕ) (cpus : ℕ) (bytes : List ℕ) (a : Tester) (new : Player) (text more after : List ℕ) (ran : Ran cpus bytes a) → a.number + 1 < 2 ^ 64
    → ((case : Case) → IsCase (a.number + 1) text case → ReadsCase (a.number + 1) (a.line.items ++ more) case after) → Failed name (a.number + 1) a.player.world a.player.answers text new → Unmet name cpus (bytes ++ more) new.answers new.report.items
unmet_at name cpus bytes a new text more after ran few reads f =
    let same : a.number + 1 ≡ length ran.cases + 1 = omega (arith, ran.number) in
    record {
      cases = ran.cases;
      old = a.player.world;
      rest = a.line.items ++ more;
      met = met_of cpus bytes a ran more;
      order = f.order;
      answer = f.answer;
      after = after;
      reads = subst (λ (n : ℕ). ReadsCase n (a.line.items ++ more) (Asks f.order (Some f.answer)) after) same (reads (Asks f.order (Some f.answer)) f.says);
      new = new.world;
      out = string_bytes new.printed;
      obeys = f.obeys;
      promised = does_promised cpus ran.cases a.player.world (Asks f.order (Some f.answer)) new.world (string_bytes new.printed) ran.agrees f.obeys;
      differs = f.differs;
      says = subst (λ (n : ℕ). new.report.items ≡ difference_line name n f.answer (string_bytes new.printed)) same f.reports;
      counts = count_then ran.cases (Asks f.order (Some f.answer)) a.player.answers new.answers ran.answers (omega (arith, ran.number)) f.counts;
    }

pub line_after : (name : List ℕ) (cpus : ℕ) (bytes : List ℕ) (a b : Tester) (outcome : Outcome) → b.line.items ≡ [] → b.number ≡ a.number + 1 → a.number + 1 < 2 ^ 64 → Ran cpus bytes a
    → LeadsPlayer name (a.number + 1) a.player.world a.player.answers (strip_carriage_return a.line.items) outcome b.player → After name cpus (bytes ++ 10 ∷ []) outcome b
line_after name cpus bytes a b Same line number few ran p = ran_line cpus bytes a b line number few ran p
line_after name cpus bytes a b Differs line number few ran p = λ more.
    subst (λ (t : List ℕ). Unmet name cpus t b.player.answers b.player.report.items) (sym (append_assoc bytes (10 ∷ []) more))
    (unmet_at name cpus bytes a b.player (strip_carriage_return a.line.items) (10 ∷ more) more ran few (λ case says. ended_reads (a.number + 1) a.line.items more case ran.one ran.short says) p)

-- ---- faults

some_met : (cpus : ℕ) (bytes more : List ℕ) (a : Tester) → Ran cpus bytes a → SomeMet cpus (bytes ++ more)
some_met cpus bytes more a ran = (ran.cases, a.player.world, a.line.items ++ more, met_of cpus bytes a ran more)

wrong_at : (cpus : ℕ) (bytes more : List ℕ) (a : Tester) (n : ℕ) → Ran cpus bytes a → n ≡ a.number + 1 → BeginsWrong (a.number + 1) (a.line.items ++ more) → WrongAt cpus (bytes ++ more) n
wrong_at cpus bytes more a n ran number wrong =
    let same : n ≡ length ran.cases + 1 = omega (arith, number, ran.number) in
    record {
      cases = ran.cases;
      world = a.player.world;
      rest = a.line.items ++ more;
      met = met_of cpus bytes a ran more;
      number = same;
      wrong = subst (λ (k : ℕ). BeginsWrong k (a.line.items ++ more)) (sym number) wrong;
    }

pub line_fault : (cpus : ℕ) (bytes : List ℕ) (a : Tester) (fault : RunFault) → Ran cpus bytes a → FaultAtLine (a.number + 1) (strip_carriage_return a.line.items) fault → FaultIn cpus (bytes ++ 10 ∷ []) fault
line_fault cpus bytes a (faults.Line n) ran f = λ more.
    subst (λ (t : List ℕ). WrongAt cpus t n) (sym (append_assoc bytes (10 ∷ []) more)) (wrong_at cpus bytes (10 ∷ more) a n ran f.0 (ended_wrong (a.number + 1) a.line.items more ran.one f.1))
line_fault cpus bytes a faults.ReadFault ran f = absurd f
line_fault cpus bytes a faults.WriteFault ran f = absurd f
line_fault cpus bytes a faults.NoMemory ran f = λ more. subst (λ (t : List ℕ). SomeMet cpus t) (sym (append_assoc bytes (10 ∷ []) more)) (some_met cpus bytes (10 ∷ more) a ran)

pub long_fault : (cpus : ℕ) (front bytes : List ℕ) (a : Tester) → HasNoFeed bytes → 256 < length a.line.items + length bytes → Ran cpus front a → FaultIn cpus (front ++ bytes) (faults.Line (a.number + 1))
long_fault cpus front bytes a one long ran = λ more.
    subst (λ (t : List ℕ). WrongAt cpus t (a.number + 1)) (sym (append_assoc front bytes more))
    (wrong_at cpus front (bytes ++ more) a (a.number + 1) ran refl
    (subst (λ (t : List ℕ). BeginsWrong (a.number + 1) t) (append_assoc a.line.items bytes more)
    (long_wrong (a.number + 1) (a.line.items ++ bytes) more (no_feed-append a.line.items bytes ran.one one) (omega (arith, long, length-append a.line.items bytes)))))

pub memory_fault : (cpus : ℕ) (front bytes : List ℕ) (a : Tester) → Ran cpus front a → FaultIn cpus (front ++ bytes) faults.NoMemory
memory_fault cpus front bytes a ran = λ more. subst (λ (t : List ℕ). SomeMet cpus t) (sym (append_assoc front bytes more)) (some_met cpus front (bytes ++ more) a ran)

-- the same with more bytes after them
pub fault_more : (cpus : ℕ) (x y : List ℕ) (fault : RunFault) → FaultIn cpus x fault → FaultIn cpus (x ++ y) fault
fault_more cpus x y (faults.Line n) f = λ more. subst (λ (t : List ℕ). WrongAt cpus t n) (sym (append_assoc x y more)) (f (y ++ more))
fault_more cpus x y faults.ReadFault f = f
fault_more cpus x y faults.WriteFault f = f
fault_more cpus x y faults.NoMemory f = λ more. subst (λ (t : List ℕ). SomeMet cpus t) (sym (append_assoc x y more)) (f (y ++ more))

pub fault_at : (cpus : ℕ) (x y : List ℕ) (fault : RunFault) → x ≡ y → FaultIn cpus x fault → FaultIn cpus y fault
fault_at cpus x y fault e f = subst (λ (t : List ℕ). FaultIn cpus t fault) e f

pub unmet_more : (name : List ℕ) (cpus : ℕ) (x y : List ℕ) (answers : ℕ) (report : List ℕ) → ((more : List ℕ) → Unmet name cpus (x ++ more) answers report) → (more : List ℕ) → Unmet name cpus ((x ++ y) ++ more) answers report
unmet_more name cpus x y answers report f more = subst (λ (t : List ℕ). Unmet name cpus t answers report) (sym (append_assoc x y more)) (f (y ++ more))

-- ---- a piece

-- some of the bytes were read, and rest is left
pub record Fed (cpus : ℕ) (front bytes rest : List ℕ) (b : Tester) : Type 0 where
  pub read : List ℕ
  pub parts : bytes ≡ read ++ rest
  pub ran : Ran cpus (front ++ read) b

-- one line more
pub whole_line : (front bytes read rest line behind : List ℕ) → bytes ≡ read ++ rest → rest ≡ line ++ behind → front ++ bytes ≡ ((front ++ read) ++ line) ++ behind
whole_line front bytes read rest line behind parts cut =
    ap (λ (t : List ℕ). front ++ t) (parts ∙ ap (λ (t : List ℕ). read ++ t) cut)
    ∙ sym (append_assoc front read (line ++ behind))
    ∙ sym (append_assoc (front ++ read) line behind)

pub fed_line : (cpus : ℕ) (front bytes rest line behind : List ℕ) (a b : Tester) (fed : Fed cpus front bytes rest a) → rest ≡ line ++ behind → Ran cpus ((front ++ fed.read) ++ line) b → Fed cpus front bytes behind b
fed_line cpus front bytes rest line behind a b fed cut ran = record {
  read = fed.read ++ line;
  parts = fed.parts ∙ ap (λ (t : List ℕ). fed.read ++ t) cut ∙ sym (append_assoc fed.read line behind);
  ran = subst (λ (t : List ℕ). Ran cpus t b) (append_assoc front fed.read line) ran;
}

pub fed_fault : (cpus : ℕ) (front bytes rest line behind : List ℕ) (a : Tester) (fault : RunFault) (fed : Fed cpus front bytes rest a) → rest ≡ line ++ behind → FaultIn cpus ((front ++ fed.read) ++ line) fault → FaultIn cpus (front ++ bytes) fault
fed_fault cpus front bytes rest line behind a fault fed cut f =
    fault_at cpus _ _ fault (sym (whole_line front bytes fed.read rest line behind fed.parts cut)) (fault_more cpus ((front ++ fed.read) ++ line) behind fault f)

pub fed_unmet : (name : List ℕ) (cpus : ℕ) (front bytes rest line behind : List ℕ) (answers : ℕ) (report : List ℕ) (a : Tester) (fed : Fed cpus front bytes rest a) → rest ≡ line ++ behind
    → ((more : List ℕ) → Unmet name cpus (((front ++ fed.read) ++ line) ++ more) answers report) → (more : List ℕ) → Unmet name cpus ((front ++ bytes) ++ more) answers report
fed_unmet name cpus front bytes rest line behind answers report a fed cut f more =
    subst (λ (t : List ℕ). Unmet name cpus (t ++ more) answers report) (sym (whole_line front bytes fed.read rest line behind fed.parts cut))
    (unmet_more name cpus ((front ++ fed.read) ++ line) behind answers report f more)

-- all were read
pub fed_all : (cpus : ℕ) (front bytes rest : List ℕ) (b : Tester) → Fed cpus front bytes rest b → rest ≡ [] → Ran cpus (front ++ bytes) b
fed_all cpus front bytes rest b fed none = subst (λ (t : List ℕ). Ran cpus (front ++ t) b) (sym (fed.parts ∙ ap (λ (t : List ℕ). fed.read ++ t) none ∙ append-nil fed.read)) fed.ran

-- the outcome of the same bytes
pub after_at : (name : List ℕ) (cpus : ℕ) (x y : List ℕ) (outcome : Outcome) (t : Tester) → x ≡ y → After name cpus x outcome t → After name cpus y outcome t
after_at name cpus x y outcome t e p = subst (λ (z : List ℕ). After name cpus z outcome t) e p

-- ---- the last line

pub none_comes : (name : List ℕ) (cpus : ℕ) (input : List ℕ) (a : Tester) (report : List ℕ) → a.line.items ≡ [] → Ran cpus input a → Comes name cpus input Same a.player.answers report
none_comes name cpus input a report line ran = (
  ran.cases,
  a.player.world,
  subst (λ (t : List ℕ). Met cpus t ran.cases a.player.world []) (append-nil input)
      (subst (λ (t : List ℕ). Met cpus (input ++ []) ran.cases a.player.world t) (ap (λ (t : List ℕ). t ++ []) line) (met_of cpus input a ran [])),
  ran.answers,
)

last_reads : (n : ℕ) (raw : List ℕ) (case : Case) → 0 < length raw → HasNoFeed raw → length raw ≤ 256 → IsCase n raw case → ReadsCase n (raw ++ []) case []
last_reads n raw case some one short says =
    subst (λ (t : List ℕ). ReadsCase n t case []) (sym (append-nil raw)) (inr (record { some = some; one = one; short = short; says = says; none = refl }))

pub last_comes : (name : List ℕ) (cpus : ℕ) (input : List ℕ) (a : Tester) (new : Player) (outcome : Outcome) → 0 < length a.line.items → a.number + 1 < 2 ^ 64 → Ran cpus input a
    → LeadsPlayer name (a.number + 1) a.player.world a.player.answers a.line.items outcome new → Comes name cpus input outcome new.answers new.report.items
last_comes name cpus input a new Same some few ran p =
    let here : ReadsCases (a.number + 1) (a.line.items ++ []) (p.case ∷ []) [] = ([], last_reads (a.number + 1) a.line.items p.case some ran.one ran.short p.says, refl) in
    let agrees : Agrees (first_world cpus) (ran.cases ++ p.case ∷ []) new.world =
    agrees_then (first_world cpus) ran.cases a.player.world (p.case ∷ []) new.world ran.agrees (new.world, string_bytes new.printed, p.does, p.meets, refl) in (
      ran.cases ++ p.case ∷ [],
      new.world,
      record {
        reads = subst (λ (t : List ℕ). ReadsCases 1 t (ran.cases ++ p.case ∷ []) []) (append-nil input)
            (reads_then 1 (a.number + 1) (input ++ []) ran.cases (a.line.items ++ []) (p.case ∷ []) [] (ran.reads []) (omega (arith, ran.number)) here);
        agrees = agrees;
        promised = agrees_promised cpus (ran.cases ++ p.case ∷ []) new.world agrees;
      },
      count_push ran.cases p.case a.player.answers new.answers ran.answers (omega (arith, ran.number)) p.counts,
    )
last_comes name cpus input a new Differs some few ran p =
    subst (λ (t : List ℕ). Unmet name cpus t new.answers new.report.items) (append-nil input)
    (unmet_at name cpus input a new a.line.items [] [] ran few (λ case says. last_reads (a.number + 1) a.line.items case some ran.one ran.short says) p)

pub last_fault : (cpus : ℕ) (input : List ℕ) (a : Tester) (fault : RunFault) → 0 < length a.line.items → Ran cpus input a → FaultAtLine (a.number + 1) a.line.items fault → FaultAtEnd cpus input fault
last_fault cpus input a (faults.Line n) some ran f =
    subst (λ (t : List ℕ). WrongAt cpus t n) (append-nil input)
    (wrong_at cpus input [] a n ran f.0 (subst (λ (t : List ℕ). BeginsWrong (a.number + 1) t) (sym (append-nil a.line.items)) (last_wrong (a.number + 1) a.line.items some ran.one f.1)))
last_fault cpus input a faults.ReadFault some ran f = absurd f
last_fault cpus input a faults.WriteFault some ran f = absurd f
last_fault cpus input a faults.NoMemory some ran f = subst (λ (t : List ℕ). SomeMet cpus t) (append-nil input) (some_met cpus input [] a ran)

pub last_ok : (result : Result Outcome RunFault) (name : List ℕ) (a : Tester) (new : Player) → 0 < length a.line.items → a.number + 1 < 2 ^ 64 → IfOk result (λ outcome. LeadsPlayer name (a.number + 1) a.player.world a.player.answers a.line.items outcome new)
    → IfOk result (λ outcome. (cpus : ℕ) (input : List ℕ) → Ran cpus input a → Comes name cpus input outcome new.answers new.report.items)
last_ok (Err x) name a new some few p = tt
last_ok (Ok outcome) name a new some few p = λ cpus input ran. last_comes name cpus input a new outcome some few ran p

pub last_err : (result : Result Outcome RunFault) (a : Tester) → 0 < length a.line.items → IfErr result (λ fault. FaultAtLine (a.number + 1) a.line.items fault)
    → IfErr result (λ fault. (cpus : ℕ) (input : List ℕ) → Ran cpus input a → FaultAtEnd cpus input fault)
last_err (Ok x) a some p = tt
last_err (Err fault) a some p = λ cpus input ran. last_fault cpus input a fault some ran p
