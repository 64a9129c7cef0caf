-- What reading means for the report on a transcript, and lists of wrong entries that continue by one.
use Rattle.std.proofs.Common.{◌≡◌, ℕ, ◌+◌, ◌<◌, Bool, List, [], ◌∷◌, ◌++◌, length, take, get_or, Option, None, Some, refl, sym, ap, subst, ◌∙◌, append_assoc, append-nil}
use Rattle.std.specs.Prelude.{IfSome}
use Rattle.std.specs.Io.KnownBytes.{Appends}
use Rattle.std.proofs.KnownBytes.{Appends-trans}
use Rattle.std.proofs.lemmas.List.{take_more}
use Rattle.grammar.specs.declared.line.Language.TheVariants as language
use Rattle.grammar.specs.declared.line.Line.{Line}
use Rattle.engine.specs.declared.fault.RunFault.{RunFault}
use Rattle.engine.specs.declared.fault.RunFault.TheVariants as faults
use Rattle.engine.specs.Script.{StopsBy}
use Rattle.engine.specs.Checking.{wrong_line, IsTranscript}
use Rattle.engine.specs.Engine.{Work, kept_entries, nothing_kept, Outputs, Front, ReadsAll}
use Rattle.engine.proofs.Outcomes.{check_stopped, check_memory, works_kept, missing_some, read_silently}
use Rattle.explain.specs.declared.explain.Asks.{Asks}
use Rattle.explain.specs.declared.wrong.WrongReply.{WrongReply}
use Rattle.explain.specs.Explaining.{IsReason, IsReport, ListsWrong, Explains, ExplainStops}

-- ---- reading

kept_all : (input : List ℕ) (end : Work) (u v w : Option (List ℕ)) (a : ReadsAll nothing_kept input end u v w) → IsTranscript input (kept_entries end)
kept_all input end u v w a = (a.lines, a.reads, ap kept_entries (works_kept [] a.lines end a.text a.works).0)

-- ---- faults

-- a check that ends before its verdict ends as a report before its text
as_stopped : (asks : Asks) (input : List ℕ) (u : Option (List ℕ)) (fault : RunFault) (v w : Option (List ℕ)) → StopsBy language.Transcript (Outputs nothing_kept) input u fault v w → ExplainStops asks input u fault v w
as_stopped asks input u (faults.Line n) v w s = check_stopped (Some input) u (faults.Line n) v w s
as_stopped asks input u faults.ReadFault v w s = check_stopped (Some input) u faults.ReadFault v w s
as_stopped asks input u faults.WriteFault v w s = absurd (missing_some s.3.written s.1 (works_kept [] s.3.lines s.3.prints.0 (s.3.written ++ s.1) s.3.prints.1).1 s.2)
as_stopped asks input u faults.NoMemory v w s = check_stopped (Some input) u faults.NoMemory v w s

pub explain_stopped : (asks : Asks) (r u : Option (List ℕ)) (fault : RunFault) (v w : Option (List ℕ)) → IfSome r (λ input. StopsBy language.Transcript (Outputs nothing_kept) input u fault v w)
    → IfSome r (λ input. ExplainStops asks input u fault v w)
explain_stopped asks None u fault v w s = tt
explain_stopped asks (Some input) u fault v w s = as_stopped asks input u fault v w s

pub explain_memory : (asks : Asks) (r : Option (List ℕ)) (end : Work) (u v w : Option (List ℕ)) → IfSome r (λ input. ReadsAll nothing_kept input end u v w) → IfSome r (λ input. ExplainStops asks input u faults.NoMemory v w)
explain_memory asks None end u v w a = tt
explain_memory asks (Some input) end u v w a = check_memory (Some input) end u v w a

-- ---- the report

pub explain_done : (asks : Asks) (r : Option (List ℕ)) (end : Work) (u v w x : Option (List ℕ)) (answer : Bool) (count : ℕ) (text : List ℕ) → IfSome r (λ input. ReadsAll nothing_kept input end u v w)
    → count ≡ length (kept_entries end) → IsReport asks (kept_entries end) answer text → Appends w x text → IfSome r (λ input. Explains asks input answer count v x)
explain_done asks None end u v w x answer count text a counts report appends = tt
explain_done asks (Some input) end u v w x answer count text a counts report appends = record {
  entries = kept_entries end;
  text = text;
  transcript = kept_all input end u v w a;
  counts = counts;
  report = report;
  appends = Appends-trans v w x [] text (read_silently input end u v w a) appends;
}

pub explain_unwritten : (asks : Asks) (r : Option (List ℕ)) (end : Work) (u v w x : Option (List ℕ)) (answer : Bool) (text : List ℕ) → IfSome r (λ input. ReadsAll nothing_kept input end u v w)
    → IsReport asks (kept_entries end) answer text → Front text w x → IfSome r (λ input. ExplainStops asks input u faults.WriteFault v x)
explain_unwritten asks None end u v w x answer text a report front = tt
explain_unwritten asks (Some input) end u v w x answer text a report front = record {
  entries = kept_entries end;
  answer = answer;
  written = front.0;
  more = front.1;
  transcript = kept_all input end u v w a;
  report = subst (λ (t : List ℕ). IsReport asks (kept_entries end) answer t) front.2 report;
  missing = front.3;
  appends = Appends-trans v w x [] front.0 (read_silently input end u v w a) front.4;
}

-- ---- the list

lists_push : (reasons : Bool) (wrongs : List WrongReply) (text : List ℕ) (wrong : WrongReply) (reason : List ℕ) → ListsWrong reasons wrongs text → IsReason reasons reason
    → ListsWrong reasons (wrongs ++ wrong ∷ []) (text ++ wrong_line wrong.index wrong.expected ++ reason)
lists_push reasons [] text wrong reason lists is =
    let line = wrong_line wrong.index wrong.expected in
    (reason, [], is, ap (λ (t : List ℕ). (t ++ line) ++ reason) lists ∙ sym (append-nil (line ++ reason)), refl)
lists_push reasons (w ∷ wrongs) text wrong reason lists is =
    let line = wrong_line wrong.index wrong.expected in
    let front = wrong_line w.index w.expected ++ lists.0 in
    let same : (text ++ line) ++ reason ≡ front ++ ((lists.1 ++ line) ++ reason) =
    ap (λ (t : List ℕ). (t ++ line) ++ reason) lists.3 ∙ ap (λ (t : List ℕ). t ++ reason) (append_assoc front lists.1 line) ∙ append_assoc front (lists.1 ++ line) reason in
    (lists.0, (lists.1 ++ line) ++ reason, lists.2, same, lists_push reasons wrongs lists.1 wrong reason lists.4 is)

pub lists_more : (reasons : Bool) (wrongs : List WrongReply) (i : ℕ) (old new reason : List ℕ) (wrong : WrongReply) → i < length wrongs → ListsWrong reasons (take i wrongs) old → IsReason reasons reason
    → new ≡ old ++ wrong_line (get_or wrongs i wrong).index (get_or wrongs i wrong).expected ++ reason → ListsWrong reasons (take (i + 1) wrongs) new
lists_more reasons wrongs i old new reason wrong below lists is same =
    subst (λ (ws : List WrongReply). ListsWrong reasons ws new) (sym (take_more wrongs i wrong below))
    (subst (λ (t : List ℕ). ListsWrong reasons (take i wrongs ++ get_or wrongs i wrong ∷ []) t) (sym same) (lists_push reasons (take i wrongs) old (get_or wrongs i wrong) reason lists is))
