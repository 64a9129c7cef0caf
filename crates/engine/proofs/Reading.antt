-- Lines that are read in pieces: it does not matter where the pieces end.
use Rattle.std.proofs.Common.{◌≡◌, ℕ, ◌+◌, ◌<◌, Bool, true, false, List, [], ◌∷◌, ◌++◌, length, Option, Some, None, refl, sym, ap, subst, ◌∙◌, append_assoc, append-nil, length-append, inl, inr, arith}
use Rattle.std.specs.Prelude.{Result, Ok, Err, OnOk, OnErr, IfErr, IfSome}
use Rattle.std.specs.Io.KnownBytes.{Appends, Keeps, Consumes, IsAtEnd}
use Rattle.std.proofs.KnownBytes.{Appends-nil, Appends-trans, Consumes-nil, Consumes-trans, Consumes-kept}
use Rattle.std.proofs.lemmas.List.{nil_from_length}
use Rattle.grammar.specs.Lines.{HasNoFeed}
use Rattle.lines.proofs.Cuts.{joined_push, no_feed-append}
use Rattle.engine.specs.declared.fault.RunFault.{RunFault}
use Rattle.engine.specs.declared.fault.RunFault.TheVariants as faults
use Rattle.engine.specs.declared.line_reader.LineReader.{LineReader}
use Rattle.engine.specs.Engine.{Front}
use Rattle.engine.specs.Lines.{RawLine, held_line, raw_line, LineFault, TakesAll, TakesLast, joined, Taken, Begins, Refused, HasRead, Finishes, Breaks, Stops}
use Rattle.engine.specs.Reading.{IsHeld, open_line, Adds, Ended, At, Leads, BreaksIn, StopsIn, EndsIn, BreaksAtEnd, StopsAtEnd}
use Rattle.engine.proofs.Pieces.{parts_then}
use Rattle.engine.proofs.Whole.{input_is}

open_is : (p : LineReader) (ended : Bool) (held : List ℕ) → IsHeld p held → open_line p ended ≡ raw_line held ended
open_is p ended held is = λ i. held_line (is.0 i) (is.1 i) ended

-- a front of the bytes led from one state to the other, and rest is left
pub record Led {S : Type 0} (takes : S → ℕ → RawLine → S → List ℕ → Type 0) (a : S) (p : LineReader) (bytes rest : List ℕ) (b : S) (q : LineReader) : Type 0 where
  pub front : List ℕ
  pub parts : bytes ≡ front ++ rest
  pub leads : (w : Option (List ℕ)) → Leads takes a p w front b q w

-- what was read of the input, and where it led
pub record Ran {S : Type 0} (takes : S → ℕ → RawLine → S → List ℕ → Type 0) (start : S) (r0 r1 : Option (List ℕ)) (sink : S) (reader : LineReader) (w0 w1 : Option (List ℕ)) : Type 0 where
  pub read : List ℕ
  pub consumes : Consumes r0 r1 read
  pub at : At takes start read w0 sink reader w1

module _ {S : Type 0} (takes : S → ℕ → RawLine → S → List ℕ → Type 0) where
  -- Lines one after the other

  takes_then : (a : S) (n m : ℕ) (xs : List (List ℕ)) (b : S) (t : List ℕ) (ys : List (List ℕ)) (last : List ℕ) (c : S) (u : List ℕ)
      → TakesAll takes a n xs [] b t → m ≡ n + length xs → TakesAll takes b m ys last c u → TakesAll takes a n (xs ++ ys) last c (t ++ u)
  takes_then a n m [] b t ys last c u p e q = elim p [
    | inl none ↦
        let same : m ≡ n = omega (arith, e) in
        rw (none.2, ← none.1, ← same) q
    | inr some ↦ absurd (omega (arith, some.0))
  ]
  takes_then a n m (x ∷ xs) b t ys last c u p e q =
      (p.0, p.1, p.2 ++ u, p.3, p.4, ap (λ (z : List ℕ). z ++ u) p.5 ∙ append_assoc p.1 p.2 u, takes_then p.0 (n + 1) m xs b p.2 ys last c u p.6 (omega (arith, e)) q)

  takes_push : (a : S) (n : ℕ) (raws : List (List ℕ)) (b : S) (t raw : List ℕ) (c : S) (out : List ℕ) → TakesAll takes a 1 raws [] b t → n ≡ 1 + length raws → HasNoFeed raw → takes b n (raw_line raw true) c out
      → TakesAll takes a 1 (raws ++ raw ∷ []) [] c (t ++ out)
  takes_push a n raws b t raw c out p e one took = takes_then a 1 n raws b t (raw ∷ []) [] c out p e (c, out, [], one, took, sym (append-nil out), inl (refl, refl, refl))

  takes_last : (a : S) (n : ℕ) (raws : List (List ℕ)) (b : S) (t last : List ℕ) (c : S) (out : List ℕ) → TakesAll takes a 1 raws [] b t → n ≡ 1 + length raws → TakesLast takes b n last c out → TakesAll takes a 1 raws last c (t ++ out)
  takes_last a n raws b t last c out p e q = subst (λ (xs : List (List ℕ)). TakesAll takes a 1 xs last c (t ++ out)) (append-nil raws) (takes_then a 1 n raws b t [] last c out p e q)

  -- Bytes that lead from one state to the other

  pub leads_added : (a : S) (p q : LineReader) (w : Option (List ℕ)) (bytes : List ℕ) → HasNoFeed bytes → Adds p bytes q → Leads takes a p w bytes a q w
  leads_added a p q w bytes one adds = λ start read before at. record {
    raws = at.raws;
    held = at.held ++ bytes;
    written = at.written;
    whole = ap (λ (t : List ℕ). t ++ bytes) at.whole ∙ append_assoc (joined at.raws) at.held bytes;
    all = subst (λ (o : List ℕ). TakesAll takes start 1 at.raws [] a (at.written ++ o)) (sym adds.output) at.all;
    number = adds.number ∙ at.number;
    is = adds.held at.held at.is;
    one = no_feed-append at.held bytes at.one one;
    appends = at.appends;
  }

  -- what the sink took is the line that was read
  took_is : (a : S) (p : LineReader) (ended : Bool) (b : S) (q : LineReader) (held : List ℕ) → IsHeld p held → (e : Ended takes a p ended b q) → takes a (p.number + 1) (raw_line held ended) b e.text
  took_is a p ended b q held is e = subst (λ (l : RawLine). takes a (p.number + 1) l b e.text) (open_is p ended held is) e.took

  pub leads_ended : (a : S) (p : LineReader) (b : S) (q : LineReader) (w : Option (List ℕ)) → Ended takes a p true b q → Leads takes a p w (10 ∷ []) b q w
  leads_ended a p b q w e = λ start read before at. record {
    raws = at.raws ++ at.held ∷ [];
    held = [];
    written = at.written;
    whole = ap (λ (t : List ℕ). t ++ 10 ∷ []) at.whole ∙ append_assoc (joined at.raws) at.held (10 ∷ []) ∙ sym (joined_push at.raws at.held) ∙ sym (append-nil (joined (at.raws ++ at.held ∷ [])));
    all = subst (λ (t : List ℕ). TakesAll takes start 1 (at.raws ++ at.held ∷ []) [] b t) (append_assoc at.written p.output.items e.text ∙ ap (λ (t : List ℕ). at.written ++ t) (sym e.gathers))
        (takes_push start (p.number + 1) at.raws a (at.written ++ p.output.items) at.held b e.text at.all (omega (arith, at.number)) at.one (took_is a p true b q at.held at.is e));
    number = omega (arith, e.number, at.number, length-append at.raws (at.held ∷ []));
    is = (e.line, e.len);
    one = tt;
    appends = at.appends;
  }

  pub leads_then : (a : S) (p : LineReader) (b : S) (q : LineReader) (c : S) (r : LineReader) (u v w : Option (List ℕ)) (xs ys : List ℕ) → Leads takes a p u xs b q v → Leads takes b q v ys c r w → Leads takes a p u (xs ++ ys) c r w
  leads_then a p b q c r u v w xs ys f g = λ start read before at. subst (λ (t : List ℕ). At takes start t before c r w) (append_assoc read xs ys) (g start (read ++ xs) before (f start read before at))

  pub led_none : (a : S) (p : LineReader) (bytes : List ℕ) → Led takes a p bytes bytes a p
  led_none a p bytes = record { front = []; parts = refl; leads = λ w start read before at. subst (λ (t : List ℕ). At takes start t before a p w) (sym (append-nil read)) at }

  pub led_then : (a : S) (p : LineReader) (b : S) (q : LineReader) (c : S) (r : LineReader) (bytes rest line behind : List ℕ) → Led takes a p bytes rest b q → rest ≡ line ++ behind
      → ((w : Option (List ℕ)) → Leads takes b q w line c r w) → Led takes a p bytes behind c r
  led_then a p b q c r bytes rest line behind led cut leads = record {
    front = led.front ++ line;
    parts = parts_then bytes led.front rest line behind led.parts cut;
    leads = λ w. leads_then a p b q c r w w w led.front line (led.leads w) (leads w);
  }

  pub led_all : (a : S) (p : LineReader) (b : S) (q : LineReader) (bytes rest : List ℕ) → Led takes a p bytes rest b q → rest ≡ [] → (w : Option (List ℕ)) → Leads takes a p w bytes b q w
  led_all a p b q bytes rest led none = λ w. subst (λ (t : List ℕ). Leads takes a p w t b q w) (sym (led.parts ∙ ap (λ (t : List ℕ). led.front ++ t) none ∙ append-nil led.front)) (led.leads w)

  -- the output was written
  pub leads_written : (a : S) (p : LineReader) (b : S) (q r : LineReader) (u v w : Option (List ℕ)) (bytes : List ℕ) → Leads takes a p u bytes b q v → Appends v w q.output.items
      → r.line.items ≡ q.line.items → r.len ≡ q.len → r.number ≡ q.number → r.output.items ≡ [] → Leads takes a p u bytes b r w
  leads_written a p b q r u v w bytes f appends line len number none = λ start read before at0.
      let at = f start read before at0 in
      record {
        raws = at.raws;
        held = at.held;
        written = at.written ++ q.output.items;
        whole = at.whole;
        all = subst (λ (t : List ℕ). TakesAll takes start 1 at.raws [] b t) (sym (append-nil (at.written ++ q.output.items)) ∙ ap (λ (t : List ℕ). (at.written ++ q.output.items) ++ t) (sym none)) at.all;
        number = number ∙ at.number;
        is = (line ∙ at.is.0, len ∙ at.is.1);
        one = at.one;
        appends = Appends-trans before v w at.written q.output.items at.appends appends;
      }

  -- What was taken, seen from the whole input

  abbrev at_taken : (start : S) (read behind input output : List ℕ) (before w : Option (List ℕ)) (a : S) (p : LineReader) → At takes start read before a p w → input ≡ read ++ behind → output ≡ p.output.items → Taken takes start input [] output before w
  at_taken start read behind input output before w a p at whole same = record {
    raws = at.raws;
    rest = at.held ++ behind;
    end = a;
    written = at.written;
    whole = whole ∙ ap (λ (t : List ℕ). t ++ behind) at.whole ∙ append_assoc (joined at.raws) at.held behind;
    ends = λ some. absurd (omega (arith, some));
    all = subst (λ (o : List ℕ). TakesAll takes start 1 at.raws [] a (at.written ++ o)) (sym same) at.all;
    appends = at.appends;
  }

  -- a front of the output was written, and `more` was not
  abbrev taken_written : (start : S) (input last output out more : List ℕ) (before v w : Option (List ℕ)) → Taken takes start input last output before v → output ≡ out ++ more → Appends v w out → Taken takes start input last more before w
  taken_written start input last output out more before v w t parts appends = record {
    raws = t.raws;
    rest = t.rest;
    end = t.end;
    written = t.written ++ out;
    whole = t.whole;
    ends = t.ends;
    all = subst (λ (o : List ℕ). TakesAll takes start 1 t.raws last t.end o) (ap (λ (o : List ℕ). t.written ++ o) parts ∙ sym (append_assoc t.written out more)) t.all;
    appends = Appends-trans before v w t.written out t.appends appends;
  }

  -- The end of the input

  pub finishes_none : (start a : S) (read : List ℕ) (before w : Option (List ℕ)) (p : LineReader) → p.len ≡ 0 → At takes start read before a p w → Finishes takes start read a p.output.items before w
  finishes_none start a read before w p none at =
      let nil : at.held ≡ [] = nil_from_length at.held (sym at.is.1 ∙ none) in
      let t = at_taken start read [] read p.output.items before w a p at (sym (append-nil read)) refl in
      ([], t, append-nil at.held ∙ nil, refl)

  pub finishes_last : (start a b : S) (read : List ℕ) (before w : Option (List ℕ)) (p q : LineReader) → 0 < p.len → Ended takes a p false b q → At takes start read before a p w → Finishes takes start read b q.output.items before w
  finishes_last start a b read before w p q some e at = (
    at.held,
    record {
      raws = at.raws;
      rest = [];
      end = b;
      written = at.written;
      whole = at.whole ∙ ap (λ (t : List ℕ). joined at.raws ++ t) (sym (append-nil at.held));
      ends = λ _. refl;
      all = subst (λ (t : List ℕ). TakesAll takes start 1 at.raws at.held b t) (append_assoc at.written p.output.items e.text ∙ ap (λ (t : List ℕ). at.written ++ t) (sym e.gathers))
          (takes_last start (p.number + 1) at.raws a (at.written ++ p.output.items) at.held b e.text at.all (omega (arith, at.number)) (inr (omega (arith, at.is.1), at.one, took_is a p false b q at.held at.is e)));
      appends = at.appends;
    },
    refl,
    refl,
  )

  pub finishes_written : (start b : S) (read output : List ℕ) (before v w : Option (List ℕ)) → Finishes takes start read b output before v → Appends v w output → Finishes takes start read b [] before w
  finishes_written start b read output before v w f appends = (f.0, taken_written start read f.0 output output [] before v w f.1 (sym (append-nil output)) appends, f.2, f.3)

  -- The whole input

  pub ran_new : (start : S) (p : LineReader) (r w : Option (List ℕ)) → p.line.items ≡ [] → p.len ≡ 0 → p.number ≡ 0 → p.output.items ≡ [] → Ran takes start r r start p w w
  ran_new start p r w line len number output = record {
    read = [];
    consumes = Consumes-nil r;
    at = record { raws = []; held = []; written = []; whole = refl; all = inl (refl, refl, output); number = number; is = (line, len); one = tt; appends = Appends-nil w };
  }

  pub ran_then : (start a : S) (p : LineReader) (b : S) (q : LineReader) (chunk : List ℕ) (r0 r1 r2 w0 w1 w2 : Option (List ℕ)) → Ran takes start r0 r1 a p w0 w1 → Consumes r1 r2 chunk → Leads takes a p w1 chunk b q w2 → Ran takes start r0 r2 b q w0 w2
  ran_then start a p b q chunk r0 r1 r2 w0 w1 w2 ran more leads = record { read = ran.read ++ chunk; consumes = Consumes-trans r0 r1 r2 ran.read chunk ran.consumes more; at = leads start ran.read w0 ran.at }

  -- at the end of the input
  pub ran_end : (P : List ℕ → Option (List ℕ) → Type 0) (start a : S) (p : LineReader) (r0 r1 r2 w0 w1 : Option (List ℕ)) (ran : Ran takes start r0 r1 a p w0 w1) → Consumes r1 r2 [] → IsAtEnd r2 → P ran.read (Some []) → IfSome r0 (λ input. P input r2)
  ran_end P start a p None r1 r2 w0 w1 ran last end h = tt
  ran_end P start a p (Some x) r1 r2 w0 w1 ran last end h =
      let all = input_is x ran.read r1 r2 ran.consumes last end in
      rw (all.0, all.1) h

  -- Faults

  module _ (refuses : S → ℕ → RawLine → Type 0) where
    breaks_at : (start : S) (read behind more input output : List ℕ) (before w : Option (List ℕ)) (a : S) (p : LineReader) (fault : RunFault) (at : At takes start read before a p w) → input ≡ read ++ (behind ++ more) → output ≡ p.output.items
        → LineFault (Refused refuses a (length at.raws + 1) (at.held ++ (behind ++ more))) (length at.raws + 1) fault → Breaks takes refuses start input (Some more) output fault before w
    breaks_at start read behind more input output before w a p fault at whole same why =
        (at_taken start read (behind ++ more) input output before w a p at whole same, (at.held ++ behind, sym (append_assoc at.held behind more)), why)

    refused : (start a : S) (read bytes : List ℕ) (before w : Option (List ℕ)) (p : LineReader) (ended : Bool) (fault : RunFault) (at : At takes start read before a p w) → Begins bytes at.held ended
        → LineFault (refuses a (p.number + 1) (open_line p ended)) (p.number + 1) fault → LineFault (Refused refuses a (length at.raws + 1) bytes) (length at.raws + 1) fault
    refused start a read bytes before w p ended (faults.Line m) at begins h =
        let n : p.number + 1 ≡ length at.raws + 1 = ap (λ (n : ℕ). n + 1) at.number in
        (h.0 ∙ n, record { raw = at.held; ended = ended; one = at.one; begins = begins; wrong = subst (λ (k : ℕ). refuses a k (raw_line at.held ended)) n (subst (λ (l : RawLine). refuses a (p.number + 1) l) (open_is p ended at.held at.is) h.1) })
    refused start a read bytes before w p ended fault at begins h = h

    -- memory ran out before the bytes were added
    pub breaks_short : (a : S) (p : LineReader) (bytes output : List ℕ) (w : Option (List ℕ)) → output ≡ p.output.items → BreaksIn takes refuses a p bytes output faults.NoMemory w
    breaks_short a p bytes output w same = λ start read before more at. breaks_at start read bytes more ((read ++ bytes) ++ more) output before w a p faults.NoMemory at (append_assoc read bytes more) same tt

    -- the line that ends with these bytes and a line feed is refused, or memory ran out
    pub breaks_ended : {T : Type 0} (result : Result T RunFault) (a : S) (p q r : LineReader) (bytes : List ℕ) → HasNoFeed bytes → Adds p bytes q
        → IfErr result (λ fault. LineFault (refuses a (q.number + 1) (open_line q true)) (q.number + 1) fault) → OnErr result (r.output.items ≡ q.output.items)
        → IfErr result (λ fault. (w : Option (List ℕ)) (behind : List ℕ) → BreaksIn takes refuses a p (bytes ++ 10 ∷ behind) r.output.items fault w)
    breaks_ended (Ok x) a p q r bytes one adds h same = tt
    breaks_ended (Err fault) a p q r bytes one adds h same = λ w behind start read before more at0.
        let at = leads_added a p q w bytes one adds start read before at0 in
        let rest = 10 ∷ (behind ++ more) in
        breaks_at start (read ++ bytes) (10 ∷ behind) more ((read ++ (bytes ++ 10 ∷ behind)) ++ more) r.output.items before w a q fault at
        (append_assoc read (bytes ++ 10 ∷ behind) more ∙ ap (λ (t : List ℕ). read ++ t) (append_assoc bytes (10 ∷ behind) more) ∙ sym (append_assoc read bytes rest)) same
        (refused start a (read ++ bytes) (at.held ++ rest) before w q true fault at (behind ++ more, refl) h)

    -- the line that is open after these bytes is too long for the sink
    pub breaks_long : (a : S) (p q : LineReader) (bytes output : List ℕ) (w : Option (List ℕ)) (fault : RunFault) → HasNoFeed bytes → Adds p bytes q → output ≡ q.output.items → 256 < q.len
        → LineFault (refuses a (q.number + 1) (open_line q false)) (q.number + 1) fault → BreaksIn takes refuses a p bytes output fault w
    breaks_long a p q bytes output w fault one adds same long h = λ start read before more at0.
        let at = leads_added a p q w bytes one adds start read before at0 in
        breaks_at start (read ++ bytes) [] more ((read ++ bytes) ++ more) output before w a q fault at refl same
        (refused start a (read ++ bytes) (at.held ++ more) before w q false fault at (inr (omega (arith, at.is.1), more, refl)) h)

    -- the last line is refused, or memory ran out
    pub breaks_last : {T : Type 0} (result : Result T RunFault) (a : S) (p q : LineReader) → IfErr result (λ fault. LineFault (refuses a (p.number + 1) (open_line p false)) (p.number + 1) fault) → OnErr result (q.output.items ≡ p.output.items)
        → IfErr result (λ fault. (w : Option (List ℕ)) → BreaksAtEnd takes refuses a p q.output.items fault w)
    breaks_last (Ok x) a p q h same = tt
    breaks_last (Err fault) a p q h same = λ w start read before at.
        breaks_at start read [] [] read q.output.items before w a p fault at (sym (append-nil read)) same
        (refused start a read (at.held ++ []) before w p false fault at (inl (append-nil at.held)) h)

    -- bytes were taken before those among which the fault is
    pub breaks_then : (a : S) (p : LineReader) (b : S) (q : LineReader) (bytes rest cut output : List ℕ) (w : Option (List ℕ)) (fault : RunFault) → (led : Led takes a p bytes rest b q) → rest ≡ cut → BreaksIn takes refuses b q cut output fault w
        → BreaksIn takes refuses a p bytes output fault w
    breaks_then a p b q bytes rest cut output w fault led is breaks = λ start read before more at.
        subst (λ (t : List ℕ). Breaks takes refuses start (t ++ more) (Some more) output fault before w) (append_assoc read led.front cut ∙ ap (λ (t : List ℕ). read ++ t) (ap (λ (t : List ℕ). led.front ++ t) (sym is) ∙ sym led.parts))
        (breaks start (read ++ led.front) before more (led.leads w start read before at))

    -- all output was written, whatever the fault
    pub stops_written : (start : S) (input output : List ℕ) (unread before v w : Option (List ℕ)) (fault : RunFault) → Breaks takes refuses start input unread output fault before v → Appends v w output → Stops takes refuses start input unread fault before w
    stops_written start input output unread before v w (faults.Line n) b appends = (taken_written start input [] output output [] before v w b.0 (sym (append-nil output)) appends, b.1, b.2)
    stops_written start input output unread before v w faults.NoMemory b appends = (taken_written start input [] output output [] before v w b.0 (sym (append-nil output)) appends, b.1, b.2)
    stops_written start input output unread before v w fault b appends = absurd b.2

    -- writing failed
    stops_front : (start : S) (input last output : List ℕ) (unread before v w : Option (List ℕ)) (t : Taken takes start input last output before v) → HasRead unread t.rest → Front output v w → Stops takes refuses start input unread faults.WriteFault before w
    stops_front start input last output unread before v w t read front = (last, front.1, front.3, taken_written start input last output front.0 front.1 before v w t front.2 front.4, read)

    pub piece_unwritten : {T : Type 0} (fed : Result T RunFault) (a : S) (p : LineReader) (b : S) (q : LineReader) (bytes : List ℕ) (v w : Option (List ℕ)) → OnOk fed ((u : Option (List ℕ)) → Leads takes a p u bytes b q u)
        → IfErr fed (λ fault. (u : Option (List ℕ)) → BreaksIn takes refuses a p bytes q.output.items fault u) → Front q.output.items v w → StopsIn takes refuses a p v bytes faults.WriteFault w
    piece_unwritten (Ok x) a p b q bytes v w ok err front = λ start read before more at0.
        let at = ok v start read before at0 in
        stops_front start ((read ++ bytes) ++ more) [] q.output.items (Some more) before v w (at_taken start (read ++ bytes) more ((read ++ bytes) ++ more) q.output.items before v b q at refl refl) (at.held, refl) front
    piece_unwritten (Err fault) a p b q bytes v w ok err front = λ start read before more at.
        let breaks = err v start read before more at in
        stops_front start ((read ++ bytes) ++ more) [] q.output.items (Some more) before v w breaks.0 breaks.1 front

    pub last_unwritten : {T : Type 0} (ended : Result T RunFault) (a b : S) (p : LineReader) (output : List ℕ) (v w : Option (List ℕ))
        → OnOk ended ((u : Option (List ℕ)) → EndsIn takes a p u b output u) → IfErr ended (λ fault. (u : Option (List ℕ)) → BreaksAtEnd takes refuses a p output fault u)
        → Front output v w → StopsAtEnd takes refuses a p v faults.WriteFault w
    last_unwritten (Ok x) a b p output v w ok err front = λ start read before at.
        let f = ok v start read before at in
        stops_front start read f.0 output (Some []) before v w f.1 ([], f.2) front
    last_unwritten (Err fault) a b p output v w ok err front = λ start read before at.
        let breaks = err v start read before at in
        stops_front start read [] output (Some []) before v w breaks.0 breaks.1 front

    -- The whole input

    stops_if : (start : S) (read : List ℕ) (r0 r1 before w : Option (List ℕ)) (fault : RunFault) → Consumes r0 r1 read → ((more : List ℕ) → Stops takes refuses start (read ++ more) (Some more) fault before w)
        → IfSome r0 (λ input. Stops takes refuses start input r1 fault before w)
    stops_if start read None r1 before w fault c each = tt
    stops_if start read (Some x) None before w fault c each = absurd c
    stops_if start read (Some x) (Some y) before w fault c each = subst (λ (t : List ℕ). Stops takes refuses start t (Some y) fault before w) (sym c) (each y)

    pub ran_stops : (start a : S) (p : LineReader) (chunk : List ℕ) (r0 r1 r2 w0 w1 w2 : Option (List ℕ)) (fault : RunFault) → Ran takes start r0 r1 a p w0 w1 → Consumes r1 r2 chunk → StopsIn takes refuses a p w1 chunk fault w2
        → IfSome r0 (λ input. Stops takes refuses start input r2 fault w0 w2)
    ran_stops start a p chunk r0 r1 r2 w0 w1 w2 fault ran more stops =
        stops_if start (ran.read ++ chunk) r0 r2 w0 w2 fault (Consumes-trans r0 r1 r2 ran.read chunk ran.consumes more) (λ behind. stops start ran.read w0 behind ran.at)

    pub ran_fault : (start a : S) (p : LineReader) (r0 r1 r2 w0 w1 : Option (List ℕ)) → Ran takes start r0 r1 a p w0 w1 → p.output.items ≡ [] → Keeps r1 r2 → IfSome r0 (λ input. Stops takes refuses start input r2 faults.ReadFault w0 w1)
    ran_fault start a p r0 r1 r2 w0 w1 ran none kept =
        stops_if start ran.read r0 r2 w0 w1 faults.ReadFault (Consumes-kept r0 r1 r2 ran.read ran.consumes kept)
        (λ more. (ran.at.held, ran.at.one, at_taken start ran.read more (ran.read ++ more) [] w0 w1 a p ran.at refl (sym none), refl))
