-- What the work on lines means for the run of a script, and for the check of a transcript.
use Rattle.std.proofs.Common.{◌≡◌, ℕ, ◌<◌, Bool, List, [], ◌∷◌, ◌++◌, length, Option, None, Some, refl, sym, ap, subst, ◌∙◌, append_assoc, append-nil, arith, length-append}
use Rattle.std.specs.Prelude.{IfSome, IfErr, OnOk, Result, Ok, Err}
use Rattle.std.specs.Io.KnownBytes.{Appends}
use Rattle.std.proofs.KnownBytes.{Appends-nil, Appends-trans}
use Rattle.mig_base.specs.declared.command.Entry.{Entry}
use Rattle.grammar.specs.declared.line.Language.{Language}
use Rattle.grammar.specs.declared.line.Language.TheVariants as language
use Rattle.grammar.specs.declared.line.Line.{Line}
use Rattle.grammar.specs.declared.line.Line.TheVariants.{Skipped, Do, Enter}
use Rattle.engine.specs.declared.line_runner.Mode.{Mode}
use Rattle.engine.specs.declared.fault.RunFault.{RunFault}
use Rattle.engine.specs.declared.fault.RunFault.TheVariants as faults
use Rattle.engine.specs.Script.{Runs, Prints, StopsWithin, StopsBy, Writes, ScriptStops}
use Rattle.engine.specs.Checking.{entries_in, IsVerdict, Checks, Silent, CheckStops}
use Rattle.engine.specs.Engine.{Work, Running, Keeping, language_of, kept_entries, nothing_kept, Works, Outputs, Front, ReadsAll}
use Rattle.mig_model.specs.Migration.{World, first_world}
use Rattle.engine.proofs.Transcripts.{run_promised}

-- ---- lines

-- the work on a world is a run
works_run : (mode : Mode) (old : World) (lines : List Line) (new : Work) (text : List ℕ) → Works (Running mode old) lines new text → (end : World) × Runs mode old lines end text
works_run mode old [] new text p = (old, (refl, p.1))
works_run mode old (Skipped ∷ lines) new text p =
    let rest = works_run mode old lines new p.2 (subst (λ (w : Work). Works w lines new p.2) p.3.0 p.5) in
    let same : text ≡ p.2 = p.4 ∙ ap (λ (t : List ℕ). t ++ p.2) p.3.1 in
    (rest.0, subst (λ (t : List ℕ). Runs mode old lines rest.0 t) (sym same) rest.1)
works_run mode old (Do order ∷ lines) new text p =
    let rest = works_run mode p.3.0 lines new p.2 (subst (λ (w : Work). Works w lines new p.2) p.3.1 p.5) in
    (rest.0, (p.3.0, p.1, p.2, p.3.2, p.4, rest.1))
works_run mode old (Enter entry ∷ lines) new text p = absurd p.3

-- from the first world, with what is promised of the last one
works_print : (mode : Mode) (cpus : ℕ) (lines : List Line) (new : Work) (text : List ℕ) → Works (Running mode (first_world cpus)) lines new text → Prints mode (first_world cpus) lines text
works_print mode cpus lines new text p =
    let ran = works_run mode (first_world cpus) lines new text p in
    (ran.0, ran.1, run_promised mode cpus lines ran.0 text ran.1)

-- the work on kept entries keeps those of the lines, and prints nothing
pub works_kept : (entries : List Entry) (lines : List Line) (new : Work) (text : List ℕ) → Works (Keeping entries) lines new text → (new ≡ Keeping (entries ++ entries_in lines)) × (text ≡ [])
works_kept entries [] new text p = (p.0 ∙ ap (λ (es : List Entry). Keeping es) (sym (append-nil entries)), p.1)
works_kept entries (Skipped ∷ lines) new text p =
    let rest = works_kept entries lines new p.2 (subst (λ (w : Work). Works w lines new p.2) p.3.0 p.5) in
    (rest.0, p.4 ∙ ap (λ (t : List ℕ). t ++ p.2) p.3.1 ∙ rest.1)
works_kept entries (Do order ∷ lines) new text p = absurd p.3
works_kept entries (Enter entry ∷ lines) new text p =
    let rest = works_kept (entries ++ entry ∷ []) lines new p.2 (subst (λ (w : Work). Works w lines new p.2) p.3.0 p.5) in
    (rest.0 ∙ ap (λ (es : List Entry). Keeping es) (append_assoc entries (entry ∷ []) (entries_in lines)), p.4 ∙ ap (λ (t : List ℕ). t ++ p.2) p.3.1 ∙ rest.1)

-- ---- faults

within_map : (l : Language) (P Q : List Line → List ℕ → Type 0) → ((lines : List Line) (text : List ℕ) → P lines text → Q lines text)
    → (input : List ℕ) (u : Option (List ℕ)) (held more : List ℕ) (v w : Option (List ℕ)) → StopsWithin l P input u held more v w → StopsWithin l Q input u held more v w
within_map l P Q f input u held more v w s = record {
  lines = s.lines;
  rest = s.rest;
  written = s.written;
  reads = s.reads;
  read = s.read;
  prints = f s.lines (s.written ++ more) s.prints;
  appends = s.appends;
}

stops_map : (l : Language) (P Q : List Line → List ℕ → Type 0) → ((lines : List Line) (text : List ℕ) → P lines text → Q lines text)
    → (input : List ℕ) (u : Option (List ℕ)) (fault : RunFault) (v w : Option (List ℕ)) → StopsBy l P input u fault v w → StopsBy l Q input u fault v w
stops_map l P Q f input u (faults.Line n) v w s = record {
  lines = s.lines;
  rest = s.rest;
  text = s.text;
  reads = s.reads;
  number = s.number;
  wrong = s.wrong;
  prints = f s.lines s.text s.prints;
  appends = s.appends;
}
stops_map l P Q f input u faults.ReadFault v w s = (s.0, s.1, within_map l P Q f input u s.0 [] v w s.2)
stops_map l P Q f input u faults.WriteFault v w s = (s.0, s.1, s.2, within_map l P Q f input u s.0 s.1 v w s.3)
stops_map l P Q f input u faults.NoMemory v w s = (s.0, within_map l P Q f input u s.0 [] v w s.1)

-- nothing was read
none_within : (l : Language) (P : List Line → List ℕ → Type 0) → P [] [] → (x : List ℕ) (w : Option (List ℕ)) → StopsBy l P x (Some x) faults.NoMemory w w
none_within l P start x w = ([], record { lines = []; rest = x; written = []; reads = refl; read = refl; prints = start; appends = Appends-nil w })

-- the same work under another name
pub reads_from : (a b : Work) (r : Option (List ℕ)) (end : Work) (u v w : Option (List ℕ)) → a ≡ b → IfSome r (λ input. ReadsAll a input end u v w) → IfSome r (λ input. ReadsAll b input end u v w)
reads_from a b r end u v w is p = subst (λ (k : Work). IfSome r (λ input. ReadsAll k input end u v w)) is p

pub stops_from_work : (a b : Work) (r u : Option (List ℕ)) (fault : RunFault) (v w : Option (List ℕ)) → a ≡ b → IfSome r (λ input. StopsBy (language_of a) (Outputs a) input u fault v w)
    → IfSome r (λ input. StopsBy (language_of b) (Outputs b) input u fault v w)
stops_from_work a b r u fault v w is p = subst (λ (k : Work). IfSome r (λ input. StopsBy (language_of k) (Outputs k) input u fault v w)) is p

-- ---- a run

pub run_no_start : (mode : Mode) (cpus : ℕ) (r w : Option (List ℕ)) → IfSome r (λ input. ScriptStops mode (first_world cpus) input r faults.NoMemory w w)
run_no_start mode cpus None w = tt
run_no_start mode cpus (Some x) w = none_within language.Script (Prints mode (first_world cpus)) (works_print mode cpus [] (Running mode (first_world cpus)) [] (refl, refl)) x w

run_writes : (mode : Mode) (cpus : ℕ) (input : List ℕ) (end : Work) (u v w : Option (List ℕ)) → ReadsAll (Running mode (first_world cpus)) input end u v w → Writes mode (first_world cpus) input v w
run_writes mode cpus input end u v w a = record { lines = a.lines; text = a.text; reads = a.reads; prints = works_print mode cpus a.lines end a.text a.works; appends = a.appends }

run_reads : (mode : Mode) (cpus : ℕ) (r : Option (List ℕ)) (end : Work) (u v w : Option (List ℕ)) → IfSome r (λ input. ReadsAll (Running mode (first_world cpus)) input end u v w) → IfSome r (λ input. Writes mode (first_world cpus) input v w)
run_reads mode cpus None end u v w a = tt
run_reads mode cpus (Some input) end u v w a = run_writes mode cpus input end u v w a

pub run_finished : {T E : Type 0} (result : Result T E) (work : Work) (mode : Mode) (cpus : ℕ) (r : Option (List ℕ)) (end : Work) (u v w : Option (List ℕ)) → work ≡ Running mode (first_world cpus)
    → OnOk result (IfSome r (λ input. ReadsAll work input end u v w)) → OnOk result (IfSome r (λ input. Writes mode (first_world cpus) input v w))
run_finished (Err x) work mode cpus r end u v w is a = tt
run_finished (Ok x) work mode cpus r end u v w is a = run_reads mode cpus r end u v w (reads_from work (Running mode (first_world cpus)) r end u v w is a)

run_stops : (mode : Mode) (cpus : ℕ) (r u : Option (List ℕ)) (fault : RunFault) (v w : Option (List ℕ)) → IfSome r (λ input. StopsBy language.Script (Outputs (Running mode (first_world cpus))) input u fault v w)
    → IfSome r (λ input. ScriptStops mode (first_world cpus) input u fault v w)
run_stops mode cpus None u fault v w s = tt
run_stops mode cpus (Some input) u fault v w s =
    stops_map language.Script (Outputs (Running mode (first_world cpus))) (Prints mode (first_world cpus)) (λ lines text p. works_print mode cpus lines p.0 text p.1) input u fault v w s

pub run_stopped : {T : Type 0} (result : Result T RunFault) (work : Work) (mode : Mode) (cpus : ℕ) (r u v w : Option (List ℕ)) → work ≡ Running mode (first_world cpus)
    → IfErr result (λ fault. IfSome r (λ input. StopsBy (language_of work) (Outputs work) input u fault v w)) → IfErr result (λ fault. IfSome r (λ input. ScriptStops mode (first_world cpus) input u fault v w))
run_stopped (Ok x) work mode cpus r u v w is s = tt
run_stopped (Err fault) work mode cpus r u v w is s = run_stops mode cpus r u fault v w (stops_from_work work (Running mode (first_world cpus)) r u fault v w is s)

-- ---- a check

silent : (lines : List Line) (text : List ℕ) → Outputs nothing_kept lines text → Silent lines text
silent lines text p = (works_kept [] lines p.0 text p.1).1

pub missing_some : (written more : List ℕ) → written ++ more ≡ [] → 0 < length more → ⊥
missing_some written more e some =
    let none : length (written ++ more) ≡ 0 = ap length e in
    absurd (omega (arith, none, some, length-append written more))

stopped : (input : List ℕ) (u : Option (List ℕ)) (fault : RunFault) (v w : Option (List ℕ)) → StopsBy language.Transcript (Outputs nothing_kept) input u fault v w → CheckStops input u fault v w
stopped input u (faults.Line n) v w s = stops_map language.Transcript (Outputs nothing_kept) Silent silent input u (faults.Line n) v w s
stopped input u faults.ReadFault v w s = stops_map language.Transcript (Outputs nothing_kept) Silent silent input u faults.ReadFault v w s
stopped input u faults.WriteFault v w s = absurd (missing_some s.3.written s.1 (silent s.3.lines (s.3.written ++ s.1) s.3.prints) s.2)
stopped input u faults.NoMemory v w s = stops_map language.Transcript (Outputs nothing_kept) Silent silent input u faults.NoMemory v w s

pub check_stopped : (r u : Option (List ℕ)) (fault : RunFault) (v w : Option (List ℕ)) → IfSome r (λ input. StopsBy language.Transcript (Outputs nothing_kept) input u fault v w) → IfSome r (λ input. CheckStops input u fault v w)
check_stopped None u fault v w s = tt
check_stopped (Some input) u fault v w s = stopped input u fault v w s

-- the entries that were kept are those of the lines
kept_all : (input : List ℕ) (end : Work) (u v w : Option (List ℕ)) (a : ReadsAll nothing_kept input end u v w) → kept_entries end ≡ entries_in a.lines
kept_all input end u v w a = ap kept_entries (works_kept [] a.lines end a.text a.works).0

pub read_silently : (input : List ℕ) (end : Work) (u v w : Option (List ℕ)) → ReadsAll nothing_kept input end u v w → Appends v w []
read_silently input end u v w a = subst (λ (t : List ℕ). Appends v w t) (works_kept [] a.lines end a.text a.works).1 a.appends

pub check_memory : (r : Option (List ℕ)) (end : Work) (u v w : Option (List ℕ)) → IfSome r (λ input. ReadsAll nothing_kept input end u v w) → IfSome r (λ input. CheckStops input u faults.NoMemory v w)
check_memory None end u v w a = tt
check_memory (Some input) end None v w a = ([], record { lines = a.lines; rest = []; written = []; reads = a.reads; read = tt; prints = refl; appends = read_silently input end None v w a })
check_memory (Some input) end (Some left) v w a =
    ([], record { lines = a.lines; rest = []; written = []; reads = a.reads; read = sym a.left; prints = refl; appends = read_silently input end (Some left) v w a })

pub check_done : (r : Option (List ℕ)) (end : Work) (u v w x : Option (List ℕ)) (answer : Bool) (text : List ℕ) → IfSome r (λ input. ReadsAll nothing_kept input end u v w) → IsVerdict (kept_entries end) answer text → Appends w x text
    → IfSome r (λ input. Checks input answer v x)
check_done None end u v w x answer text a verdict appends = tt
check_done (Some input) end u v w x answer text a verdict appends = record {
  entries = kept_entries end;
  text = text;
  transcript = (a.lines, a.reads, kept_all input end u v w a);
  verdict = verdict;
  appends = Appends-trans v w x [] text (read_silently input end u v w a) appends;
}

pub check_unwritten : (r : Option (List ℕ)) (end : Work) (u v w x : Option (List ℕ)) (answer : Bool) (text : List ℕ) → IfSome r (λ input. ReadsAll nothing_kept input end u v w) → IsVerdict (kept_entries end) answer text → Front text w x
    → IfSome r (λ input. CheckStops input u faults.WriteFault v x)
check_unwritten None end u v w x answer text a verdict front = tt
check_unwritten (Some input) end u v w x answer text a verdict front = record {
  entries = kept_entries end;
  answer = answer;
  written = front.0;
  more = front.1;
  transcript = (a.lines, a.reads, kept_all input end u v w a);
  verdict = subst (λ (t : List ℕ). IsVerdict (kept_entries end) answer t) front.2 verdict;
  missing = front.3;
  appends = Appends-trans v w x [] front.0 (read_silently input end u v w a) front.4;
}
