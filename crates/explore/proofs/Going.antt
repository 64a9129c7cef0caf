-- An exploration that continues: its text grows at its end, and fronts of it are written.
use Rattle.std.proofs.Common.{◌≡◌, ℕ, ◌+◌, ◌<◌, ◌≤◌, List, [], ◌∷◌, ◌++◌, length, Bool, true, false, ◌||◌, Option, ◌⊎◌, refl, sym, ap, subst, ◌∙◌, append_assoc, append-nil, length-append, arith, inl, inr}
use Rattle.std.specs.Prelude.{Result, Ok, Err, OnOk, OnErr}
use Rattle.std.specs.Io.KnownBytes.{Appends}
use Rattle.std.proofs.KnownBytes.{Appends-nil, Appends-trans}
use Rattle.std.proofs.lemmas.Bool.{or_from, or_left, or_right}
use Rattle.grammar.specs.declared.line.Line.TheVariants.{Skipped, Do}
use Rattle.grammar.specs.declared.order.Order.{Order}
use Rattle.engine.specs.declared.line_runner.Mode.TheVariants.{Lines}
use Rattle.engine.specs.Engine.{Front}
use Rattle.engine.specs.Script.{MakesAny, Obeys}
use Rattle.engine.specs.declared.fault.RunFault.{RunFault}
use Rattle.mig_model.specs.Migration.{World}
use Rattle.engine.specs.Worlds.{epoch_in}
use Rattle.mig_base.specs.declared.schedule.Step.{Step}
use Rattle.mig_model.specs.Promises.{IsComplete}
use Rattle.finish.specs.Finishing.{needs_epoch, IsDue, steps_left}
use Rattle.grammar.specs.Orders.{HasStep}
use Rattle.explore.specs.Explorations.{IsComment, Adds, Explores, Explored, Gone, Going, GoesOn, StopsOn, IsCount, AreFew, IsScript, MakesIt, Writes, Stops, tail}

-- ---- lines one after the other

explores_then : (a : Bool) (s : World) (xs : List (List ℕ)) (m : World) (t : List ℕ) (ys : List (List ℕ)) (e : World) (u : List ℕ)
    → Explores a s xs m t → Explores a m ys e u → Explores a s (xs ++ ys) e (t ++ u)
explores_then a s [] m t ys e u p q = rw (p.1, ← p.0) q
explores_then a s (x ∷ xs) m t ys e u p q =
    (p.0, p.1, p.2, p.3 ++ u, p.4, p.5, ap (λ (z : List ℕ). z ++ u) p.6 ∙ append_assoc (x ++ tail a p.2) p.3 u, explores_then a p.0 xs m p.3 ys e u p.7 q)

explores_one : (a : Bool) (s e : World) (b c : List ℕ) → (q : Adds a s e b c) → Explores a s (q.raw ∷ []) e (q.raw ++ tail a q.out)
explores_one a s e b c q = (e, q.order, q.out, [], q.line, q.obeys, sym (append-nil (q.raw ++ tail a q.out)), (refl, refl))

explored_more : (a : Bool) (s : World) (n : ℕ) (m e : World) (t u : List ℕ) → Explored a s n m t → Adds a m e t u → Explored a s (n + 1) e u
explored_more a s n m e t u p q = record {
  comment = p.comment;
  raws = p.raws ++ (q.raw ∷ []);
  more = p.more ++ (q.raw ++ tail a q.out);
  first = p.first;
  number = length-append p.raws (q.raw ∷ []) ∙ ap (λ (k : ℕ). k + 1) p.number;
  explores = explores_then a s p.raws m p.more (q.raw ∷ []) e (q.raw ++ tail a q.out) p.explores (explores_one a m e t u q);
  whole = q.whole ∙ ap (λ (z : List ℕ). z ++ (q.raw ++ tail a q.out)) p.whole ∙ append_assoc (p.comment ++ (10 ∷ [])) p.more (q.raw ++ tail a q.out);
}

pub explored_first : (a : Bool) (s : World) (out : List ℕ) → IsComment [] out → Explored a s 0 s out
explored_first a s out q = record {
  comment = q.raw;
  raws = [];
  more = [];
  first = q.line;
  number = refl;
  explores = (refl, refl);
  whole = q.whole ∙ sym (append-nil (q.raw ++ (10 ∷ [])));
}

-- ---- what was written, and what is gathered

pub going_first : (a : Bool) (s : World) (w : Option (List ℕ)) (output : List ℕ) → Explored a s 0 s output → Going a s 0 s w w output
going_first a s w output p = record { written = []; appends = Appends-nil w; explored = p }

pub going_added : (a : Bool) (s : World) (n : ℕ) (m e : World) (w0 w1 : Option (List ℕ)) (b c : List ℕ) → Going a s n m w0 w1 b → Adds a m e b c → Going a s (n + 1) e w0 w1 c
going_added a s n m e w0 w1 b c p q = record {
  written = p.written;
  appends = p.appends;
  explored =
      explored_more a s n m e (p.written ++ b) (p.written ++ c) p.explored
      (record {
        raw = q.raw;
        order = q.order;
        out = q.out;
        line = q.line;
        obeys = q.obeys;
        whole = ap (λ (z : List ℕ). p.written ++ z) q.whole ∙ sym (append_assoc p.written b (q.raw ++ tail a q.out));
      });
}

pub going_gone : (a : Bool) (s : World) (n : ℕ) (m : World) (w0 w1 w2 : Option (List ℕ)) (b c : List ℕ) → Going a s n m w0 w1 b → Gone b c w1 w2 → Going a s n m w0 w2 c
going_gone a s n m w0 w1 w2 b c p q = record {
  written = p.written ++ q.written;
  appends = Appends-trans w0 w1 w2 p.written q.written p.appends q.appends;
  explored = subst (λ (z : List ℕ). Explored a s n m z) (ap (λ (z : List ℕ). p.written ++ z) q.whole ∙ sym (append_assoc p.written q.written c)) p.explored;
}

pub going_done : (a f g : Bool) (s : World) (steps n : ℕ) (m : World) (w0 w1 w2 : Option (List ℕ)) (b : List ℕ) → Going a s n m w0 w1 b → IsCount f g steps n m → Appends w1 w2 b → Writes a f g s steps w0 w2
going_done a f g s steps n m w0 w1 w2 b p is q = record {
  end = m;
  count = n;
  text = p.written ++ b;
  number = is;
  explored = p.explored;
  appends = Appends-trans w0 w1 w2 p.written b p.appends q;
}

-- a write ended it
pub going_cut : (a f : Bool) (s : World) (n most : ℕ) (m : World) (w0 w1 w2 : Option (List ℕ)) (b : List ℕ) → Going a s n m w0 w1 b → AreFew f most n → Front b w1 w2 → Stops a f s most w0 w2
going_cut a f s n most m w0 w1 w2 b p few q = record {
  end = m;
  count = n;
  written = p.written ++ q.0;
  more = q.1;
  few = few;
  explored = subst (λ (z : List ℕ). Explored a s n m z) (ap (λ (z : List ℕ). p.written ++ z) q.2 ∙ sym (append_assoc p.written q.0 q.1)) p.explored;
  appends = Appends-trans w0 w1 w2 p.written q.0 p.appends q.4;
}

-- something else ended it
pub going_stops : (a f : Bool) (s : World) (n most : ℕ) (m : World) (w0 w1 : Option (List ℕ)) (b : List ℕ) → Going a s n m w0 w1 b → AreFew f most n → Stops a f s most w0 w1
going_stops a f s n most m w0 w1 b p few = record { end = m; count = n; written = p.written; more = b; few = few; explored = p.explored; appends = p.appends }

-- a number of lines that is small enough is so in each plan
pub are_few : (f : Bool) (most n : ℕ) → n ≤ most → AreFew f most n
are_few false most n few = few
are_few true most n few = tt

-- nothing was written
pub stops_first : (a f : Bool) (s : World) (most : ℕ) (w : Option (List ℕ)) → Stops a f s most w w
stops_first a f s most w = record {
  end = s;
  count = 0;
  written = [];
  more = 10 ∷ [];
  few = are_few f most 0 (omega arith);
  explored = record {
    comment = [];
    raws = [];
    more = [];
    first = record { one = tt; short = omega arith; spells = tt };
    number = refl;
    explores = (refl, refl);
    whole = refl;
  };
  appends = Appends-nil w;
}

-- ---- the lines that follow the steps

pub goes_first : (a : Bool) (m : World) (w : Option (List ℕ)) (b : List ℕ) → GoesOn a m w b m w b
goes_first a m w b = λ start count before p. (count, omega arith, p)

pub goes_line : (a : Bool) (o m e : World) (w0 w1 w2 : Option (List ℕ)) (b0 b c d : List ℕ) → GoesOn a o w0 b0 m w1 b → Adds a m e b c → Gone c d w1 w2 → GoesOn a o w0 b0 e w2 d
goes_line a o m e w0 w1 w2 b0 b c d on added gone = λ start count before p.
    let so_far = on start count before p in
    (so_far.0 + 1, omega (arith, so_far.1), going_gone a start (so_far.0 + 1) e before w1 w2 c d (going_added a start so_far.0 m e before w1 b c so_far.2 added) gone)

pub goes_stops : (a : Bool) (o m : World) (w0 w1 : Option (List ℕ)) (b0 b : List ℕ) → GoesOn a o w0 b0 m w1 b → StopsOn a o w0 b0 w1
goes_stops a o m w0 w1 b0 b on = λ start count before p.
    let so_far = on start count before p in
    going_stops a true start so_far.0 count m before w1 b so_far.2 tt

pub goes_cut : (a : Bool) (o m e : World) (w0 w1 w2 : Option (List ℕ)) (b0 b c : List ℕ) → GoesOn a o w0 b0 m w1 b → Adds a m e b c → Front c w1 w2 → StopsOn a o w0 b0 w2
goes_cut a o m e w0 w1 w2 b0 b c on added front = λ start count before p.
    let so_far = on start count before p in
    going_cut a true start (so_far.0 + 1) count e before w1 w2 c (going_added a start so_far.0 m e before w1 b c so_far.2 added) tt front

pub goes_then : (a : Bool) (o m e : World) (w0 w1 w2 : Option (List ℕ)) (b0 b c : List ℕ) → GoesOn a o w0 b0 m w1 b → GoesOn a m w1 b e w2 c → GoesOn a o w0 b0 e w2 c
goes_then a o m e w0 w1 w2 b0 b c on further = λ start count before p.
    let so_far = on start count before p in
    let all = further start so_far.0 before so_far.2 in
    (all.0, omega (arith, so_far.1, all.1), all.2)

pub stops_then : (a : Bool) (o m : World) (w0 w1 w2 : Option (List ℕ)) (b0 b : List ℕ) → GoesOn a o w0 b0 m w1 b → StopsOn a m w1 b w2 → StopsOn a o w0 b0 w2
stops_then a o m w0 w1 w2 b0 b on stops = λ start count before p.
    let so_far = on start count before p in
    let cut = stops start so_far.0 before so_far.2 in
    record { end = cut.end; count = cut.count; written = cut.written; more = cut.more; few = tt; explored = cut.explored; appends = cut.appends }

-- ---- what a script ends with

abbrev pub DoneOn : Bool → Bool → Bool → ℕ → World → Option (List ℕ) → List ℕ → Option (List ℕ) → Type 0
DoneOn a f g steps m w0 b w1 = (start : World) (before : Option (List ℕ)) → Going a start steps m before w0 b → Writes a f g start steps before w1

abbrev pub CutOn : Bool → Bool → ℕ → World → Option (List ℕ) → List ℕ → Option (List ℕ) → Type 0
CutOn a h steps m w0 b w1 = (start : World) (before : Option (List ℕ)) → Going a start steps m before w0 b → Stops a h start steps before w1

end_done : (a : Bool) (steps : ℕ) (m : World) (w0 w1 : Option (List ℕ)) (b : List ℕ) → Appends w0 w1 b → DoneOn a false false steps m w0 b w1
end_done a steps m w0 w1 b appends = λ start before p. going_done a false false start steps steps m before w0 w1 b p refl appends

end_cut : (a : Bool) (steps : ℕ) (m : World) (w0 w1 : Option (List ℕ)) (b : List ℕ) → Front b w0 w1 → CutOn a false steps m w0 b w1
end_cut a steps m w0 w1 b front = λ start before p. going_cut a false start steps steps m before w0 w1 b p (omega arith) front

finish_done : (a g : Bool) (steps : ℕ) (m e : World) (w0 w1 w2 : Option (List ℕ)) (b c : List ℕ) → GoesOn a m w0 b e w1 c → IsComplete e ⊎ (needs_epoch e ≡ true) → Appends w1 w2 c → DoneOn a true g steps m w0 b w2
finish_done a g steps m e w0 w1 w2 b c on ended appends = λ start before p.
    let gone = on start steps before p in
    going_done a true g start steps gone.0 e before w1 w2 c gone.2 (gone.1, ended) appends

sweep_done : (a : Bool) (steps : ℕ) (m e : World) (w0 w1 w2 : Option (List ℕ)) (b c : List ℕ) → GoesOn a m w0 b e w1 c → Appends w1 w2 c → DoneOn a false true steps m w0 b w2
sweep_done a steps m e w0 w1 w2 b c on appends = λ start before p.
    let gone = on start steps before p in
    going_done a false true start steps gone.0 e before w1 w2 c gone.2 gone.1 appends

more_cut : (a : Bool) (steps : ℕ) (m e : World) (w0 w1 w2 : Option (List ℕ)) (b c : List ℕ) → GoesOn a m w0 b e w1 c → Front c w1 w2 → CutOn a true steps m w0 b w2
more_cut a steps m e w0 w1 w2 b c on front = λ start before p.
    let gone = on start steps before p in
    going_cut a true start gone.0 steps e before w1 w2 c gone.2 tt front

-- ---- without answers, the text is a script

explores_reads : (s : World) (xs : List (List ℕ)) (e : World) (t : List ℕ) → Explores false s xs e t → IsScript s e (length xs) t
explores_reads s [] e t p = record { lines = []; out = []; number = refl; reads = p.1; runs = (p.0, refl) }
explores_reads s (x ∷ xs) e t p =
    let r = explores_reads p.0 xs e p.3 p.7 in
    record {
      lines = Do p.1 ∷ r.lines;
      out = p.2 ++ r.out;
      number = omega (arith, r.number);
      reads =
          (p.3, inl (record { raw = x; whole = p.6 ∙ append_assoc x (10 ∷ []) p.3; one = p.4.one; short = p.4.short; spells = p.4.spells }), r.reads);
      runs = (p.0, p.2, r.out, p.5, refl, r.runs);
    }

pub explored_reads : (s e : World) (n : ℕ) (t : List ℕ) → Explored false s n e t → IsScript s e (n + 1) t
explored_reads s e n t p =
    let r = explores_reads s p.raws e p.more p.explores in
    record {
      lines = Skipped ∷ r.lines;
      out = r.out;
      number = omega (arith, r.number, p.number);
      reads =
          (p.more, inl (record { raw = p.comment; whole = p.whole ∙ append_assoc p.comment (10 ∷ []) p.more; one = p.first.one; short = p.first.short; spells = p.first.spells }), r.reads);
      runs = r.runs;
    }

-- ---- results

pub on_err : (r : Result (Unit {0}) RunFault) (P : Type 0) → P → OnErr r P
on_err (Ok done) P p = tt
on_err (Err fault) P p = p

-- ---- how a script ends, by the outcome of its last call

pub ended_ok : (r : Result (Unit {0}) RunFault) (a f g : Bool) (steps : ℕ) (start m : World) (before w0 w1 : Option (List ℕ)) (b : List ℕ)
    → Going a start steps m before w0 b → OnOk r (DoneOn a f g steps m w0 b w1) → OnOk r (Writes a f g start steps before w1)
ended_ok (Ok done) a f g steps start m before w0 w1 b going p = p start before going
ended_ok (Err fault) a f g steps start m before w0 w1 b going p = tt

pub ended_fault : (r : Result (Unit {0}) RunFault) (a h : Bool) (steps : ℕ) (start m : World) (before w0 w1 : Option (List ℕ)) (b : List ℕ)
    → Going a start steps m before w0 b → OnErr r (CutOn a h steps m w0 b w1) → OnErr r (Stops a h start steps before w1)
ended_fault (Ok done) a h steps start m before w0 w1 b going p = tt
ended_fault (Err fault) a h steps start m before w0 w1 b going p = p start before going

pub end_ok : (r : Result (Unit {0}) RunFault) (a f g : Bool) (steps : ℕ) (m : World) (w0 w1 : Option (List ℕ)) (b : List ℕ)
    → f ≡ false → g ≡ false → OnOk r (Appends w0 w1 b) → OnOk r (DoneOn a f g steps m w0 b w1)
end_ok (Ok done) a f g steps m w0 w1 b no_finish no_sweep p =
    subst (λ (x : Bool). DoneOn a x g steps m w0 b w1) (sym no_finish)
    (subst (λ (y : Bool). DoneOn a false y steps m w0 b w1) (sym no_sweep) (end_done a steps m w0 w1 b p))
end_ok (Err fault) a f g steps m w0 w1 b no_finish no_sweep p = tt

pub end_fault : (r : Result (Unit {0}) RunFault) (a f g : Bool) (steps : ℕ) (m : World) (w0 w1 : Option (List ℕ)) (b : List ℕ)
    → f ≡ false → g ≡ false → OnErr r (Front b w0 w1) → OnErr r (CutOn a (f || g) steps m w0 b w1)
end_fault (Ok done) a f g steps m w0 w1 b no_finish no_sweep p = tt
end_fault (Err fault) a f g steps m w0 w1 b no_finish no_sweep p =
    subst (λ (h : Bool). CutOn a h steps m w0 b w1) (sym (or_from f g no_finish no_sweep)) (end_cut a steps m w0 w1 b p)

pub finish_ok : (r : Result (Unit {0}) RunFault) (a f g : Bool) (steps : ℕ) (m e : World) (w0 w1 w2 : Option (List ℕ)) (b c : List ℕ)
    → f ≡ true → GoesOn a m w0 b e w1 c → IsComplete e ⊎ (needs_epoch e ≡ true) → OnOk r (Appends w1 w2 c) → OnOk r (DoneOn a f g steps m w0 b w2)
finish_ok (Ok done) a f g steps m e w0 w1 w2 b c is on ended p =
    subst (λ (x : Bool). DoneOn a x g steps m w0 b w2) (sym is) (finish_done a g steps m e w0 w1 w2 b c on ended p)
finish_ok (Err fault) a f g steps m e w0 w1 w2 b c is on ended p = tt

pub sweep_ok : (r : Result (Unit {0}) RunFault) (a f g : Bool) (steps : ℕ) (m e : World) (w0 w1 w2 : Option (List ℕ)) (b c : List ℕ)
    → f ≡ false → g ≡ true → GoesOn a m w0 b e w1 c → OnOk r (Appends w1 w2 c) → OnOk r (DoneOn a f g steps m w0 b w2)
sweep_ok (Ok done) a f g steps m e w0 w1 w2 b c no_finish is on p =
    subst (λ (x : Bool). DoneOn a x g steps m w0 b w2) (sym no_finish)
    (subst (λ (y : Bool). DoneOn a false y steps m w0 b w2) (sym is) (sweep_done a steps m e w0 w1 w2 b c on p))
sweep_ok (Err fault) a f g steps m e w0 w1 w2 b c no_finish is on p = tt

more_fault : (r : Result (Unit {0}) RunFault) (a h : Bool) (steps : ℕ) (m e : World) (w0 w1 w2 : Option (List ℕ)) (b c : List ℕ)
    → h ≡ true → GoesOn a m w0 b e w1 c → OnErr r (Front c w1 w2) → OnErr r (CutOn a h steps m w0 b w2)
more_fault (Ok done) a h steps m e w0 w1 w2 b c is on p = tt
more_fault (Err fault) a h steps m e w0 w1 w2 b c is on p = subst (λ (x : Bool). CutOn a x steps m w0 b w2) (sym is) (more_cut a steps m e w0 w1 w2 b c on p)

pub finish_fault : (r : Result (Unit {0}) RunFault) (a f g : Bool) (steps : ℕ) (m e : World) (w0 w1 w2 : Option (List ℕ)) (b c : List ℕ)
    → f ≡ true → GoesOn a m w0 b e w1 c → OnErr r (Front c w1 w2) → OnErr r (CutOn a (f || g) steps m w0 b w2)
finish_fault r a f g steps m e w0 w1 w2 b c is on p = more_fault r a (f || g) steps m e w0 w1 w2 b c (or_left f g is) on p

pub sweep_fault : (r : Result (Unit {0}) RunFault) (a f g : Bool) (steps : ℕ) (m e : World) (w0 w1 w2 : Option (List ℕ)) (b c : List ℕ)
    → f ≡ false → g ≡ true → GoesOn a m w0 b e w1 c → OnErr r (Front c w1 w2) → OnErr r (CutOn a (f || g) steps m w0 b w2)
sweep_fault r a f g steps m e w0 w1 w2 b c no_finish is on p = more_fault r a (f || g) steps m e w0 w1 w2 b c (or_right f g is) on p

-- ---- it stops among the lines that follow the steps

stopped : (a h : Bool) (steps : ℕ) (m : World) (w0 w1 : Option (List ℕ)) (b : List ℕ) → h ≡ true → StopsOn a m w0 b w1 → CutOn a h steps m w0 b w1
stopped a h steps m w0 w1 b is stops = subst (λ (x : Bool). CutOn a x steps m w0 b w1) (sym is) (λ start before going. stops start steps before going)

pub finish_stopped : (a f g : Bool) (steps : ℕ) (m : World) (w0 w1 : Option (List ℕ)) (b : List ℕ)
    → f ≡ true → StopsOn a m w0 b w1 → CutOn a (f || g) steps m w0 b w1
finish_stopped a f g steps m w0 w1 b is stops = stopped a (f || g) steps m w0 w1 b (or_left f g is) stops

pub sweep_stopped : (a f g : Bool) (steps : ℕ) (m : World) (w0 w1 : Option (List ℕ)) (b : List ℕ)
    → f ≡ false → g ≡ true → StopsOn a m w0 b w1 → CutOn a (f || g) steps m w0 b w1
sweep_stopped a f g steps m w0 w1 b no_finish is stops = stopped a (f || g) steps m w0 w1 b (or_right f g is) stops

-- ---- the completion, the sweep, and the completion again

pub then_ok : (r : Result (Unit {0}) RunFault) (a : Bool) (o m e : World) (w0 w1 w2 : Option (List ℕ)) (b0 b c : List ℕ)
    → GoesOn a o w0 b0 m w1 b → OnOk r (GoesOn a m w1 b e w2 c) → OnOk r (GoesOn a o w0 b0 e w2 c)
then_ok (Ok done) a o m e w0 w1 w2 b0 b c on p = goes_then a o m e w0 w1 w2 b0 b c on p
then_ok (Err fault) a o m e w0 w1 w2 b0 b c on p = tt

pub then_fault : (r : Result (Unit {0}) RunFault) (a : Bool) (o m : World) (w0 w1 w2 : Option (List ℕ)) (b0 b : List ℕ)
    → GoesOn a o w0 b0 m w1 b → OnErr r (StopsOn a m w1 b w2) → OnErr r (StopsOn a o w0 b0 w2)
then_fault (Ok done) a o m w0 w1 w2 b0 b on p = tt
then_fault (Err fault) a o m w0 w1 w2 b0 b on p = stops_then a o m w0 w1 w2 b0 b on p

-- ---- a step that was made

pub made_step : (old new : World) (order : Order) (step : Step) (out : List ℕ) → HasStep order step → Obeys Lines old order new out → MakesIt old step new
made_step old new order step out has obeys =
    let p = subst (λ (made : Option Step). MakesAny Lines old made new out) (has (epoch_in old)) obeys in
    elim p.1.1 [
      | inl h ↦ h.1
      | inr h ↦ absurd (p.1.0 h.0)
    ]

pub fewer_left : (old new : World) (step : Step) → IsDue old step → MakesIt old step new → steps_left new < steps_left old
fewer_left old new step due made = rw made due.fewer
