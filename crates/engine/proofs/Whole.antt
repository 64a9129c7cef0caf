-- A whole run, from the first read on.
use Rattle.std.proofs.Common.{◌≡◌, ℕ, ◌<◌, List, [], ◌++◌, length, take, Option, None, Some, refl, sym, ap, subst, ◌∙◌, append_assoc, append-nil, arith}
use Rattle.std.specs.Prelude.{IfSome, IfErr, OnOk, Result, Ok, Err}
use Rattle.std.specs.Io.KnownBytes.{Appends, Keeps, Consumes, IsAtEnd}
use Rattle.std.proofs.KnownBytes.{Appends-nil, Appends-trans, Consumes-nil, Consumes-trans, Consumes-kept}
use Rattle.engine.specs.declared.fault.RunFault.{RunFault}
use Rattle.engine.specs.declared.fault.RunFault.TheVariants as faults
use Rattle.grammar.specs.declared.line.Language.{Language}
use Rattle.grammar.specs.Lines.{HasNoFeed, Reads, BeginsWrong}
use Rattle.engine.specs.Script.{StopsWithin, StopsBy}
use Rattle.engine.specs.Engine.{Place, Work, language_of, start_of, Works, Outputs, Advances, FaultWithin, Passes, Halts, Closes, CloseFault, ReadsAll}
use Rattle.engine.proofs.Lines.{reads_more, reads_is, reads_last, works_then, works_keep}
use Rattle.engine.proofs.Runs.{advances_then, fault_at_then, fault_within_then}

-- the run so far: what was read, and what it led to
pub record Ran (start : Work) (r0 r1 : Option (List ℕ)) (place : Place) (w0 w1 : Option (List ℕ)) : Type 0 where
  pub consumed : List ℕ
  pub text : List ℕ
  pub consumes : Consumes r0 r1 consumed
  pub advances : Advances (start_of start) consumed place text
  pub appends : Appends w0 w1 text

pub ran_none : (start : Work) (place : Place) (r w : Option (List ℕ)) → place ≡ start_of start → Ran start r r place w w
ran_none start place r w e = rw e (record {
  consumed = [];
  text = [];
  consumes = Consumes-nil r;
  advances = record { lines = []; reads = refl; number = refl; works = (refl, refl) };
  appends = Appends-nil w;
})

pub ran_then : (start : Work) (p q : Place) (chunk : List ℕ) (r0 r1 r2 w0 w1 w2 : Option (List ℕ)) → Ran start r0 r1 p w0 w1 → Consumes r1 r2 chunk → Passes p chunk q w1 w2 → Ran start r0 r2 q w0 w2
ran_then start p q chunk r0 r1 r2 w0 w1 w2 ran more passed = record {
  consumed = ran.consumed ++ chunk;
  text = ran.text ++ passed.text;
  consumes = Consumes-trans r0 r1 r2 ran.consumed chunk ran.consumes more;
  advances = advances_then (start_of start) p q ran.consumed chunk ran.text passed.text ran.advances passed.advances;
  appends = Appends-trans w0 w1 w2 ran.text passed.text ran.appends passed.appends;
}

-- ---- faults in what was read

stops_within : (start : Work) (consumed x y text more : List ℕ) (w0 w1 : Option (List ℕ)) → x ≡ consumed ++ y → (q : FaultWithin (start_of start) consumed text more) → Appends w0 w1 text
    → StopsWithin (language_of start) (Outputs start) x (Some y) q.rest more w0 w1
stops_within start consumed x y text more w0 w1 p q appends = record {
  lines = q.lines;
  rest = q.rest ++ y;
  written = text;
  reads = subst (λ (t : List ℕ). Reads (language_of start) t q.lines (q.rest ++ y)) (sym p) (reads_is (language_of start) (consumed ++ y) q.lines (q.rest ++ y) (reads_more (language_of start) consumed q.lines q.rest y q.reads));
  read = refl;
  prints = (q.end, q.works);
  appends = appends;
}

-- a fault in what was read, seen from the whole input
stops_from : (start : Work) (consumed : List ℕ) (r0 r1 : Option (List ℕ)) (fault : RunFault) (w0 w1 : Option (List ℕ)) → Consumes r0 r1 consumed → Halts (start_of start) consumed fault w0 w1
    → IfSome r0 (λ input. StopsBy (language_of start) (Outputs start) input r1 fault w0 w1)
stops_from start consumed None r1 fault w0 w1 p q = tt
stops_from start consumed (Some x) None fault w0 w1 p q = absurd p
stops_from start consumed (Some x) (Some y) (faults.Line n) w0 w1 p q = record {
  lines = q.1.lines;
  rest = q.1.rest ++ y;
  text = q.0;
  reads = subst (λ (t : List ℕ). Reads (language_of start) t q.1.lines (q.1.rest ++ y)) (sym p) (reads_is (language_of start) (consumed ++ y) q.1.lines (q.1.rest ++ y) (reads_more (language_of start) consumed q.1.lines q.1.rest y q.1.reads));
  number = q.1.number ∙ omega arith;
  wrong = q.1.wrong y;
  prints = (q.1.end, q.1.works);
  appends = q.2;
}
stops_from start consumed (Some x) (Some y) faults.ReadFault w0 w1 p q = absurd q
stops_from start consumed (Some x) (Some y) faults.WriteFault w0 w1 p q = (q.2.rest, q.1, q.3, stops_within start consumed x y q.0 q.1 w0 w1 p q.2 q.4)
stops_from start consumed (Some x) (Some y) faults.NoMemory w0 w1 p q = (q.1.rest, stops_within start consumed x y q.0 [] w0 w1 p q.1 q.2)

halts_then : (start : Work) (p : Place) (consumed chunk text : List ℕ) (fault : RunFault) (w0 w1 w2 : Option (List ℕ)) → Advances (start_of start) consumed p text → Appends w0 w1 text → Halts p chunk fault w1 w2
    → Halts (start_of start) (consumed ++ chunk) fault w0 w2
halts_then start p consumed chunk text (faults.Line n) w0 w1 w2 a t q =
    (text ++ q.0, fault_at_then (start_of start) p consumed chunk text q.0 n a q.1, Appends-trans w0 w1 w2 text q.0 t q.2)
halts_then start p consumed chunk text faults.ReadFault w0 w1 w2 a t q = q
halts_then start p consumed chunk text faults.WriteFault w0 w1 w2 a t q =
    (text ++ q.0, q.1, fault_within_then (start_of start) p consumed chunk text q.0 q.1 a q.2, q.3, Appends-trans w0 w1 w2 text q.0 t q.4)
halts_then start p consumed chunk text faults.NoMemory w0 w1 w2 a t q =
    (text ++ q.0, fault_within_then (start_of start) p consumed chunk text q.0 [] a q.1, Appends-trans w0 w1 w2 text q.0 t q.2)

pub ran_halts : (start : Work) (p : Place) (chunk : List ℕ) (fault : RunFault) (r0 r1 r2 w0 w1 w2 : Option (List ℕ)) → Ran start r0 r1 p w0 w1 → Consumes r1 r2 chunk → Halts p chunk fault w1 w2
    → IfSome r0 (λ input. StopsBy (language_of start) (Outputs start) input r2 fault w0 w2)
ran_halts start p chunk fault r0 r1 r2 w0 w1 w2 ran more q =
    stops_from start (ran.consumed ++ chunk) r0 r2 fault w0 w2 (Consumes-trans r0 r1 r2 ran.consumed chunk ran.consumes more)
    (halts_then start p ran.consumed chunk ran.text fault w0 w1 w2 ran.advances ran.appends q)

-- what was done so far, and all of its output
abbrev within_so_far : (start : Work) (p : Place) (consumed text : List ℕ) → Advances (start_of start) consumed p text → FaultWithin (start_of start) consumed text []
within_so_far start p consumed text a = record {
  lines = a.lines;
  rest = p.line;
  end = p.work;
  reads = a.reads;
  works = subst (λ (t : List ℕ). Works start a.lines p.work t) (sym (append-nil text)) a.works;
}

pub ran_read_fault : (start : Work) (p : Place) (r0 r1 r2 w0 w1 : Option (List ℕ)) → Ran start r0 r1 p w0 w1 → Keeps r1 r2 → HasNoFeed p.line
    → IfSome r0 (λ input. StopsBy (language_of start) (Outputs start) input r2 faults.ReadFault w0 w1)
ran_read_fault start p None r1 r2 w0 w1 ran kept one = tt
ran_read_fault start p (Some x) r1 None w0 w1 ran kept one = absurd (Consumes-kept (Some x) r1 None ran.consumed ran.consumes kept)
ran_read_fault start p (Some x) r1 (Some y) w0 w1 ran kept one = (
  p.line,
  one,
  stops_within start ran.consumed x y ran.text [] w0 w1 (Consumes-kept (Some x) r1 (Some y) ran.consumed ran.consumes kept) (within_so_far start p ran.consumed ran.text ran.advances) ran.appends,
)

-- ---- the end of the input

-- at the end of the input, what was read is the input
pub input_is : (x consumed : List ℕ) (r1 r2 : Option (List ℕ)) → Consumes (Some x) r1 consumed → Consumes r1 r2 [] → IsAtEnd r2 → (x ≡ consumed) × (r2 ≡ Some [])
input_is x consumed None r2 p q e = absurd p
input_is x consumed (Some y) None p q e = absurd q
input_is x consumed (Some y) (Some z) p q e = (p ∙ ap (λ (t : List ℕ). consumed ++ t) (q ∙ e) ∙ append-nil consumed, ap (λ (t : List ℕ). Some t) e)

closes_reads : (start : Work) (p : Place) (end : Work) (x rest written more : List ℕ) (r1 r2 w0 w1 w2 : Option (List ℕ)) (ran : Ran start (Some x) r1 p w0 w1) → Consumes r1 r2 [] → IsAtEnd r2
    → (c : Closes p end rest written more w1 w2) → Reads (language_of start) x (ran.advances.lines ++ c.lines) rest
closes_reads start p end x rest written more r1 r2 w0 w1 w2 ran last e c =
    let l = language_of start in
    let whole = input_is x ran.consumed r1 r2 ran.consumes last e in
    let same : language_of p.work ≡ l = works_keep start ran.advances.lines p.work ran.text ran.advances.works in
    let closing : Reads l p.line c.lines rest = subst (λ (k : Language). Reads k p.line c.lines rest) same c.reads in
    subst (λ (t : List ℕ). Reads l t (ran.advances.lines ++ c.lines) rest) (sym whole.0) (reads_last l ran.consumed ran.advances.lines p.line c.lines rest ran.advances.reads closing)

closes_works : (start : Work) (p : Place) (end : Work) (rest written more : List ℕ) (r0 r1 w0 w1 w2 : Option (List ℕ)) (ran : Ran start r0 r1 p w0 w1) (c : Closes p end rest written more w1 w2)
    → Works start (ran.advances.lines ++ c.lines) end ((ran.text ++ written) ++ more)
closes_works start p end rest written more r0 r1 w0 w1 w2 ran c =
    subst (λ (t : List ℕ). Works start (ran.advances.lines ++ c.lines) end t) (sym (append_assoc ran.text written more))
    (works_then start ran.advances.lines p.work ran.text c.lines end (written ++ more) ran.advances.works c.works)

ran_closes : (start : Work) (p : Place) (end : Work) (text : List ℕ) (r0 r1 r2 w0 w1 w2 : Option (List ℕ)) → Ran start r0 r1 p w0 w1 → Consumes r1 r2 [] → IsAtEnd r2 → Closes p end [] text [] w1 w2
    → IfSome r0 (λ input. ReadsAll start input end r2 w0 w2)
ran_closes start p end text None r1 r2 w0 w1 w2 ran last e c = tt
ran_closes start p end text (Some x) r1 r2 w0 w1 w2 ran last e c =
    let whole = input_is x ran.consumed r1 r2 ran.consumes last e in
    record {
      lines = ran.advances.lines ++ c.lines;
      text = ran.text ++ text;
      reads = closes_reads start p end x [] text [] r1 r2 w0 w1 w2 ran last e c;
      left = rw whole.1 refl;
      works = subst (λ (t : List ℕ). Works start (ran.advances.lines ++ c.lines) end t) (append-nil (ran.text ++ text)) (closes_works start p end [] text [] (Some x) r1 w0 w1 w2 ran c);
      appends = Appends-trans w0 w1 w2 ran.text text ran.appends c.appends;
    }

closes_within : (start : Work) (p : Place) (end : Work) (x rest written more : List ℕ) (r1 r2 w0 w1 w2 : Option (List ℕ)) → Ran start (Some x) r1 p w0 w1 → Consumes r1 r2 [] → IsAtEnd r2
    → Closes p end rest written more w1 w2 → StopsWithin (language_of start) (Outputs start) x r2 rest more w0 w2
closes_within start p end x rest written more r1 r2 w0 w1 w2 ran last e c =
    let whole = input_is x ran.consumed r1 r2 ran.consumes last e in
    record {
      lines = ran.advances.lines ++ c.lines;
      rest = rest;
      written = ran.text ++ written;
      reads = closes_reads start p end x rest written more r1 r2 w0 w1 w2 ran last e c;
      read = rw whole.1 (sym (append-nil rest));
      prints = (end, closes_works start p end rest written more (Some x) r1 w0 w1 w2 ran c);
      appends = Appends-trans w0 w1 w2 ran.text written ran.appends c.appends;
    }

ran_close_fault : (start : Work) (p : Place) (fault : RunFault) (r0 r1 r2 w0 w1 w2 : Option (List ℕ)) → Ran start r0 r1 p w0 w1 → Consumes r1 r2 [] → IsAtEnd r2 → CloseFault p fault w1 w2
    → IfSome r0 (λ input. StopsBy (language_of start) (Outputs start) input r2 fault w0 w2)
ran_close_fault start p fault None r1 r2 w0 w1 w2 ran last e c = tt
ran_close_fault start p (faults.Line n) (Some x) r1 r2 w0 w1 w2 ran last e c =
    let whole = input_is x ran.consumed r1 r2 ran.consumes last e in
    let l = language_of start in
    record {
      lines = ran.advances.lines;
      rest = p.line;
      text = ran.text ++ [];
      reads = subst (λ (t : List ℕ). Reads l t ran.advances.lines p.line) (sym whole.0) (reads_is l ran.consumed ran.advances.lines p.line ran.advances.reads);
      number = omega (arith, c.number, ran.advances.number);
      wrong = subst (λ (k : Language). BeginsWrong k p.line) (works_keep start ran.advances.lines p.work ran.text ran.advances.works) c.wrong;
      prints = (p.work, subst (λ (t : List ℕ). Works start ran.advances.lines p.work t) (sym (append-nil ran.text)) ran.advances.works);
      appends = Appends-trans w0 w1 w2 ran.text [] ran.appends c.appends;
    }
ran_close_fault start p faults.ReadFault (Some x) r1 r2 w0 w1 w2 ran last e c = absurd c
ran_close_fault start p faults.WriteFault (Some x) r1 r2 w0 w1 w2 ran last e c = (c.1, c.3, c.4, closes_within start p c.0 x c.1 c.2 c.3 r1 r2 w0 w1 w2 ran last e c.5)
ran_close_fault start p faults.NoMemory (Some x) r1 r2 w0 w1 w2 ran last e c = (c.1, closes_within start p c.0 x c.1 c.2 [] r1 r2 w0 w1 w2 ran last e c.3)

pub ran_finished : {T E : Type 0} (result : Result T E) (start : Work) (p : Place) (end : Work) (r0 r1 r2 w0 w1 w2 : Option (List ℕ)) → Ran start r0 r1 p w0 w1 → Consumes r1 r2 [] → IsAtEnd r2
    → OnOk result ((text : List ℕ) × Closes p end [] text [] w1 w2) → OnOk result (IfSome r0 (λ input. ReadsAll start input end r2 w0 w2))
ran_finished (Err x) start p end r0 r1 r2 w0 w1 w2 ran last e c = tt
ran_finished (Ok x) start p end r0 r1 r2 w0 w1 w2 ran last e c = ran_closes start p end c.0 r0 r1 r2 w0 w1 w2 ran last e c.1

pub ran_stopped : {T : Type 0} (result : Result T RunFault) (start : Work) (p : Place) (r0 r1 r2 w0 w1 w2 : Option (List ℕ)) → Ran start r0 r1 p w0 w1 → Consumes r1 r2 [] → IsAtEnd r2
    → IfErr result (λ fault. CloseFault p fault w1 w2) → IfErr result (λ fault. IfSome r0 (λ input. StopsBy (language_of start) (Outputs start) input r2 fault w0 w2))
ran_stopped (Ok x) start p r0 r1 r2 w0 w1 w2 ran last e c = tt
ran_stopped (Err fault) start p r0 r1 r2 w0 w1 w2 ran last e c = ran_close_fault start p fault r0 r1 r2 w0 w1 w2 ran last e c

-- a read that gave nothing was at the end
pub at_end : (r1 r2 : Option (List ℕ)) (n : ℕ) (buf : List ℕ) → n ≡ 0 → 0 < length buf → Consumes r1 r2 (take n buf) × (n ≡ 0 → 0 < length buf → IsAtEnd r2) → Consumes r1 r2 [] × IsAtEnd r2
at_end r1 r2 n buf none some p = (subst (λ (k : ℕ). Consumes r1 r2 (take k buf)) none p.0, p.1 none some)
