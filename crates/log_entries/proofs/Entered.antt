-- What a reader of entries has read after one line more.
use Rattle.std.proofs.Common.{◌≡◌, ◌==◌, ℕ, Bool, true, false, List, [], ◌∷◌, ◌++◌, refl, sym, ap, subst, ◌∙◌, append-nil, append_assoc, inl, inr, zero, suc, Some, Result, Ok, Err}
use Rattle.std.proofs.lemmas.Bool.{eqb-true}
use Rattle.std.proofs.lemmas.List.{map-append}
use Rattle.std.specs.Prelude.{if◌then◌else◌, IsTrue, map, not, slice_get, OnErr, OnOk}
use Rattle.uffd_log.specs.declared.call.Call.{Call}
use Rattle.uffd_log.specs.declared.call.Call.TheVariants as call
use Rattle.uffd_log.specs.declared.call.Descriptor.{Descriptor}
use Rattle.uffd_log.specs.declared.line.Answer.{Answer}
use Rattle.uffd_log.specs.declared.line.Answer.TheVariants as answer
use Rattle.uffd_log.specs.declared.line.Line.{Line}
use Rattle.uffd_log.specs.declared.line.Line.TheVariants as line
use Rattle.uffd_log.specs.declared.line.Stamp.{Stamp}
use Rattle.kernel_rules.specs.declared.run.Made.{Made}
use Rattle.foundation.specs.declared.NoMemory.{NoMemory}
use Rattle.foundation.specs.Tests.{is_empty}
use Rattle.kernel_rules.specs.Runs.{Event, Outcome, begins, ends}
use Rattle.log_entries.specs.declared.log_line.LogLine.{LogLine}
use Rattle.log_entries.specs.declared.entry_reader.EntryReader.{EntryReader}
use Rattle.log_entries.specs.Events.{is_map_call, is_new_program, is_of, program_of, is_read_line, after_some, with_line, lines_of, outcome_from, said, said_of, made_by, opening, AreOwn, AreEvents}
use Rattle.log_entries.specs.Readers.{others, own, onto, program_in, Has, HasRead}
use Rattle.log_entries.specs.Stores.{settled, settled_at, settled_event}
use Rattle.log_entries.proofs.Calls.{own_begun, own_others, own_push, same_call}

onto_push : (lines above : List LogLine) (one : LogLine) → onto (lines ++ one ∷ []) above ≡ one ∷ onto lines above
onto_push [] above one = refl
onto_push (x ∷ lines) above one = onto_push lines (x ∷ above) one

events_push : (above lines : List LogLine) (one : LogLine) (events own : List Event) → AreEvents above lines events → AreOwn (onto lines above) one.number one.line own → AreEvents above (lines ++ one ∷ []) (events ++ own)
events_push above [] one events own e o = (own, [], o, ap (λ (l : List Event). l ++ own) e ∙ sym (append-nil own), refl)
events_push above (x ∷ lines) one events own e o =
    (e.0, e.1 ++ own, e.2, ap (λ (l : List Event). l ++ own) e.3 ∙ append_assoc e.0 e.1 own, events_push (x ∷ above) lines one e.1 own e.4 o)

-- a line more, with its events
pub has_push : (lines kept after : List LogLine) (entries all : List Event) (programs renewed : ℕ → ℕ) (one : LogLine) (events : List Event) → Has lines entries kept programs → map said_of all ≡ map said_of entries ++ events
    → AreOwn (onto lines []) one.number one.line events → ((pid n : ℕ) → own pid n after ≡ (if is_of pid n one.line then with_line one one.line (own pid n kept) else own pid n kept))
    → ((pid : ℕ) → renewed pid ≡ (if is_new_program pid one.line then one.number else programs pid)) → Has (lines ++ one ∷ []) all after renewed
has_push lines kept after entries all programs renewed one events has e o next runs = record {
  events = subst (λ (l : List Event). AreEvents [] (lines ++ one ∷ []) l) (sym e) (events_push [] lines one (map said_of entries) events has.events o);
  calls = λ pid n.
      next pid n ∙ ap (λ (l : List LogLine). if is_of pid n one.line then with_line one one.line l else l) (has.calls pid n) ∙ ap (λ (l : List LogLine). lines_of l pid n) (sym (onto_push lines [] one));
  runs = λ pid.
      runs pid ∙ ap (λ (p : ℕ). if is_new_program pid one.line then one.number else p) (has.runs pid) ∙ ap (λ (l : List LogLine). program_of l pid) (sym (onto_push lines [] one));
}

-- the programs stay, with a line where none begins
pub still_run : (old new : EntryReader) (one : LogLine) → ((pid : ℕ) → is_new_program pid one.line ≡ false) → new.programs ≡ old.programs
    → (pid : ℕ) → program_in new pid ≡ (if is_new_program pid one.line then one.number else program_in old pid)
still_run old new one none same pid = rw (none pid, same) refl

pub events_more : (entries : List Event) (event : Event) → map said_of (entries ++ event ∷ []) ≡ map said_of entries ++ said_of event ∷ []
events_more entries event = map-append said_of entries (event ∷ [])

-- A call begins

said_line : (one : LogLine) (l : Line) (lines after : List LogLine) → with_line one l lines ≡ after → (l2 : Line) → l2 ≡ l → with_line one l2 lines ≡ after
said_line one l lines after e l2 is = ap (λ (k : Line). with_line one k lines) is ∙ e

pub begun : (lines : List LogLine) (old new : EntryReader) (one : LogLine) (stamp : Stamp) (n : ℕ) (c : Call) (made : Made) (program : ℕ) → one.line ≡ line.Begin stamp n c → new.whole ≡ old.whole → new.programs ≡ old.programs
    → new.kept.items ≡ others stamp.pid n old.kept.items ++ one ∷ [] → program ≡ program_in old stamp.pid → made ≡ made_by one.number stamp program c → new.entries ≡ old.entries ++ begins made ∷ [] → HasRead lines old → HasRead (lines ++ one ∷ []) new
begun lines old new one stamp n c made program is whole programs kept program_is made_is entries has = λ w.
    let h = has (subst (λ (b : Bool). IsTrue b) whole w) in
    let own_events : List Event = begins (said (made_by one.number stamp (program_of (onto lines []) stamp.pid) c)) ∷ [] in
    has_push lines old.kept.items new.kept.items old.entries new.entries (program_in old) (program_in new) one own_events h
    (ap (λ (l : List Event). map said_of l) entries ∙ events_more old.entries (begins made)
    ∙ ap (λ (m : Made). map said_of old.entries ++ begins (said m) ∷ []) made_is
    ∙ ap (λ (p : ℕ). map said_of old.entries ++ begins (said (made_by one.number stamp p c)) ∷ []) (program_is ∙ h.runs stamp.pid))
    (let P : Line → Type 0 = λ l. AreOwn (onto lines []) one.number l own_events in subst P (sym is) refl)
    (λ pid m.
    ap (λ (l : List LogLine). own pid m l) kept ∙ own_begun pid m stamp.pid n old.kept.items one (ap (λ (l : Line). is_of pid m l) is)
    ∙ ap (λ (l : List LogLine). if is_of pid m one.line then l else own pid m old.kept.items) (sym (said_line one (line.Begin stamp n c) (own pid m old.kept.items) (one ∷ []) refl one.line is)))
    (still_run old new one (λ pid. ap (is_new_program pid) is) programs)

-- A call ends

pub first_rest : (xs : List LogLine) (x : LogLine) → Some x ≡ slice_get xs 0 → (rest : List LogLine) × (xs ≡ x ∷ rest)
first_rest [] x e = absurd (cc)
first_rest (y ∷ ys) x e = let same : y ≡ x = cc in (ys, ap (λ (k : LogLine). k ∷ ys) same)

pub ended : (lines : List LogLine) (old new : EntryReader) (one first : LogLine) (rest : List LogLine) (stamp : Stamp) (n : ℕ) (a : Answer) (key : ℕ) (out : Outcome) → one.line ≡ line.End stamp n a → new.whole ≡ old.whole → new.programs ≡ old.programs
    → own stamp.pid n old.kept.items ≡ first ∷ rest → key ≡ first.number → out ≡ outcome_from (first ∷ rest) a → new.kept.items ≡ others stamp.pid n old.kept.items
    → new.entries ≡ old.entries ++ ends key out ∷ [] → HasRead lines old → HasRead (lines ++ one ∷ []) new
ended lines old new one first rest stamp n a key out is whole programs found named out_is kept entries has = λ w.
    let h = has (subst (λ (b : Bool). IsTrue b) whole w) in
    let own_events : List Event = ends key out ∷ [] in
    has_push lines old.kept.items new.kept.items old.entries new.entries (program_in old) (program_in new) one own_events h
    (ap (λ (l : List Event). map said_of l) entries ∙ events_more old.entries (ends key out))
    (let P : Line → Type 0 = λ l. AreOwn (onto lines []) one.number l own_events in
    subst P (sym is) (first, rest, sym (h.calls stamp.pid n) ∙ found, ap (λ (k : ℕ). ends k out ∷ []) named ∙ ap (λ (o : Outcome). ends first.number o ∷ []) out_is))
    (λ pid m.
    ap (λ (l : List LogLine). own pid m l) kept ∙ own_others pid m stamp.pid n old.kept.items
    ∙ ap (λ (b : Bool). if b then [] else own pid m old.kept.items) (sym (ap (λ (l : Line). is_of pid m l) is))
    ∙ ap (λ (l : List LogLine). if is_of pid m one.line then l else own pid m old.kept.items) (sym (said_line one (line.End stamp n a) (own pid m old.kept.items) [] refl one.line is)))
    (still_run old new one (λ pid. ap (is_new_program pid) is) programs)

pub lost : (lines : List LogLine) (old new : EntryReader) (one : LogLine) → new.whole ≡ false → HasRead lines old → HasRead (lines ++ one ∷ []) new
lost lines old new one none has = λ w. let e : false ≡ true = subst (λ (b : Bool). IsTrue b) none w in absurd (cc)

-- A line of a call that is under way

read_line : (one : LogLine) (l : Line) (lines : List LogLine) → is_read_line l ≡ true → with_line one l lines ≡ after_some lines one
read_line one (line.Begin stamp k c) lines e = absurd (cc)
read_line one (line.End stamp k a) lines e = absurd (cc)
read_line one (line.Read stamp k message) lines e = refl
read_line one (line.Have stamp k start len bits) lines e = refl
read_line one (line.Found stamp on) lines e = absurd (cc)
read_line one (line.Dropped stamp on) lines e = absurd (cc)
read_line one (line.Started stamp parent) lines e = absurd (cc)
read_line one (line.Forked stamp parent) lines e = absurd (cc)
read_line one (line.Exit stamp) lines e = absurd (cc)
read_line one (line.Lost count) lines e = absurd (cc)

no_events : (above : List LogLine) (number : ℕ) (l : Line) → is_read_line l ≡ true → AreOwn above number l []
no_events above number (line.Begin stamp k c) e = absurd (cc)
no_events above number (line.End stamp k a) e = absurd (cc)
no_events above number (line.Read stamp k message) e = refl
no_events above number (line.Have stamp k start len bits) e = refl
no_events above number (line.Found stamp on) e = absurd (cc)
no_events above number (line.Dropped stamp on) e = absurd (cc)
no_events above number (line.Started stamp parent) e = absurd (cc)
no_events above number (line.Forked stamp parent) e = absurd (cc)
no_events above number (line.Exit stamp) e = absurd (cc)
no_events above number (line.Lost count) e = absurd (cc)

no_program : (l : Line) (pid : ℕ) → is_read_line l ≡ true → is_new_program pid l ≡ false
no_program (line.Begin stamp k c) pid e = absurd (cc)
no_program (line.End stamp k a) pid e = absurd (cc)
no_program (line.Read stamp k message) pid e = refl
no_program (line.Have stamp k start len bits) pid e = refl
no_program (line.Found stamp on) pid e = absurd (cc)
no_program (line.Dropped stamp on) pid e = absurd (cc)
no_program (line.Started stamp parent) pid e = absurd (cc)
no_program (line.Forked stamp parent) pid e = absurd (cc)
no_program (line.Exit stamp) pid e = absurd (cc)
no_program (line.Lost count) pid e = absurd (cc)

not_empty : (lines : List LogLine) (one : LogLine) → not (is_empty lines) ≡ true → after_some lines one ≡ lines ++ one ∷ []
not_empty [] one e = absurd (cc)
not_empty (x ∷ lines) one e = refl

empty : (lines : List LogLine) (one : LogLine) → not (is_empty lines) ≡ false → after_some lines one ≡ lines
empty [] one e = refl
empty (x ∷ lines) one e = absurd (cc)

same_own : (pid m p n : ℕ) (l : Line) (kept : List LogLine) → is_of pid m l ≡ true → is_of p n l ≡ true → own p n kept ≡ own pid m kept
same_own pid m p n l kept e f =
    let s = same_call pid m p n l e f in
    ap (λ (k : ℕ). own k n kept) s.0 ∙ ap (λ (k : ℕ). own pid k kept) s.1

unread : (pid m p n : ℕ) (kept : List LogLine) (one : LogLine) → is_of p n one.line ≡ true → is_read_line one.line ≡ true → not (is_empty (own p n kept)) ≡ false
    → own pid m kept ≡ (if is_of pid m one.line then with_line one one.line (own pid m kept) else own pid m kept)
unread pid m p n kept one of kind none =
    elim (is_of pid m one.line) as (λ b. is_of pid m one.line ≡ b → own pid m kept ≡ (if b then with_line one one.line (own pid m kept) else own pid m kept)) [
      | true ↦ λ e.
          let Q : List LogLine → Type 0 = λ l. not (is_empty l) ≡ false in
          sym (read_line one one.line (own pid m kept) kind ∙ empty (own pid m kept) one (subst Q (same_own pid m p n one.line kept e of) none))
      | false ↦ λ e. refl
    ] refl

added : (pid m p n : ℕ) (kept : List LogLine) (one : LogLine) → is_of p n one.line ≡ true → is_read_line one.line ≡ true → not (is_empty (own p n kept)) ≡ true
    → own pid m (kept ++ one ∷ []) ≡ (if is_of pid m one.line then with_line one one.line (own pid m kept) else own pid m kept)
added pid m p n kept one of kind some =
    own_push pid m kept one ∙ (
    elim (is_of pid m one.line) as (λ b. is_of pid m one.line ≡ b → own pid m kept ++ (if b then one ∷ [] else []) ≡ (if b then with_line one one.line (own pid m kept) else own pid m kept)) [
      | true ↦ λ e.
          let Q : List LogLine → Type 0 = λ l. not (is_empty l) ≡ true in
          sym (read_line one one.line (own pid m kept) kind ∙ not_empty (own pid m kept) one (subst Q (same_own pid m p n one.line kept e of) some))
      | false ↦ λ e. append-nil (own pid m kept)
    ] refl
    )

pub read_more : (lines : List LogLine) (old new : EntryReader) (one : LogLine) (p n : ℕ) (some : Bool) → is_of p n one.line ≡ true → is_read_line one.line ≡ true → some ≡ not (is_empty (own p n old.kept.items)) → some ≡ true → new.whole ≡ old.whole → new.programs ≡ old.programs
    → new.entries ≡ old.entries → new.kept.items ≡ old.kept.items ++ one ∷ [] → HasRead lines old → HasRead (lines ++ one ∷ []) new
read_more lines old new one p n some of kind test is whole programs entries kept has = λ w.
    has_push lines old.kept.items new.kept.items old.entries new.entries (program_in old) (program_in new) one [] (has (subst (λ (b : Bool). IsTrue b) whole w))
    (ap (λ (l : List Event). map said_of l) entries ∙ sym (append-nil (map said_of old.entries))) (no_events (onto lines []) one.number one.line kind)
    (λ pid m. ap (λ (l : List LogLine). own pid m l) kept ∙ added pid m p n old.kept.items one of kind (sym test ∙ is))
    (still_run old new one (λ pid. no_program one.line pid kind) programs)

pub read_none : (lines : List LogLine) (old new : EntryReader) (one : LogLine) (p n : ℕ) (some : Bool) → is_of p n one.line ≡ true → is_read_line one.line ≡ true → some ≡ not (is_empty (own p n old.kept.items)) → some ≡ false → new ≡ old
    → HasRead lines old → HasRead (lines ++ one ∷ []) new
read_none lines old new one p n some of kind test is same has = subst (λ (r : EntryReader). HasRead (lines ++ one ∷ []) r) (sym same) (λ w.
    has_push lines old.kept.items old.kept.items old.entries old.entries (program_in old) (program_in old) one [] (has w) (sym (append-nil (map said_of old.entries))) (no_events (onto lines []) one.number one.line kind)
    (λ pid m. unread pid m p n old.kept.items one of kind (sym test ∙ is))
    (still_run old old one (λ pid. no_program one.line pid kind) refl))

-- A line of no call

pub passed : (lines : List LogLine) (old new : EntryReader) (one : LogLine) (events : List Event) → ((pid n : ℕ) → is_of pid n one.line ≡ false) → AreOwn (onto lines []) one.number one.line events → new.whole ≡ old.whole
    → ((pid : ℕ) → program_in new pid ≡ (if is_new_program pid one.line then one.number else program_in old pid))
    → map said_of new.entries ≡ map said_of old.entries ++ events → new.kept.items ≡ old.kept.items → HasRead lines old → HasRead (lines ++ one ∷ []) new
passed lines old new one events of o whole runs entries kept has = λ w.
    has_push lines old.kept.items new.kept.items old.entries new.entries (program_in old) (program_in new) one events (has (subst (λ (b : Bool). IsTrue b) whole w)) entries o
    (λ pid m.
    ap (λ (l : List LogLine). own pid m l) kept ∙ ap (λ (b : Bool). if b then with_line one one.line (own pid m old.kept.items) else own pid m old.kept.items) (sym (of pid m)))
    runs

-- An object is found

pub found_old : (lines : List LogLine) (old new : EntryReader) (one : LogLine) (stamp : Stamp) (on : Descriptor) → one.line ≡ line.Found stamp on → new ≡ old → HasRead lines old → HasRead (lines ++ one ∷ []) new
found_old lines old new one stamp on is same has =
    passed lines old new one [] (λ pid n. ap (λ (l : Line). is_of pid n l) is) (let P : Line → Type 0 = λ l. AreOwn (onto lines []) one.number l [] in subst P (sym is) (inl refl)) (ap (λ (r : EntryReader). r.whole) same)
    (still_run old new one (λ pid. ap (is_new_program pid) is) (ap (λ (r : EntryReader). r.programs) same))
    (ap (λ (r : EntryReader). map said_of r.entries) same ∙ sym (append-nil (map said_of old.entries))) (ap (λ (r : EntryReader). r.kept.items) same) has

pub found_new : (lines : List LogLine) (old mid new : EntryReader) (one : LogLine) (stamp : Stamp) (on : Descriptor) (made : Made) → one.line ≡ line.Found stamp on → made ≡ made_by one.number stamp 0 (call.Open false 2048)
    → mid ≡ record old { entries = mid.entries } → new ≡ record mid { entries = new.entries } → mid.entries ≡ old.entries ++ begins made ∷ []
    → new.entries ≡ mid.entries ++ ends one.number (record { answer = answer.Opened on; messages = []; runs = [] }) ∷ [] → HasRead lines old → HasRead (lines ++ one ∷ []) new
found_new lines old mid new one stamp on made is by first second begins_is ends_is has =
    let events : List Event = opening one.number stamp on in
    let opened : Event = ends one.number (record { answer = answer.Opened on; messages = []; runs = [] }) in
    let whole : new.whole ≡ old.whole = ap (λ (r : EntryReader). r.whole) second ∙ ap (λ (r : EntryReader). r.whole) first in
    let kept : new.kept.items ≡ old.kept.items = ap (λ (r : EntryReader). r.kept.items) second ∙ ap (λ (r : EntryReader). r.kept.items) first in
    let front : map said_of mid.entries ≡ map said_of old.entries ++ begins (made_by one.number stamp 0 (call.Open false 2048)) ∷ [] =
    ap (λ (l : List Event). map said_of l) begins_is ∙ events_more old.entries (begins made) ∙ ap (λ (m : Made). map said_of old.entries ++ begins (said m) ∷ []) by
    in
    let all : map said_of new.entries ≡ map said_of old.entries ++ events =
    ap (λ (l : List Event). map said_of l) ends_is ∙ events_more mid.entries opened ∙ ap (λ (l : List Event). l ++ opened ∷ []) front
    ∙ append_assoc (map said_of old.entries) (begins (made_by one.number stamp 0 (call.Open false 2048)) ∷ []) (opened ∷ [])
    in
    passed lines old new one events (λ pid n. ap (λ (l : Line). is_of pid n l) is) (let P : Line → Type 0 = λ l. AreOwn (onto lines []) one.number l events in subst P (sym is) (inr refl)) whole
    (still_run old new one (λ pid. ap (is_new_program pid) is) (ap (λ (r : EntryReader). r.programs) second ∙ ap (λ (r : EntryReader). r.programs) first)) all kept has

-- Another line

-- whether a line says nothing of calls
abbrev pub is_other : Line → Bool
is_other (line.Dropped stamp on) = true
is_other (line.Exit stamp) = true
is_other _ = false

other_of : (l : Line) (pid n : ℕ) → is_other l ≡ true → is_of pid n l ≡ false
other_of (line.Begin stamp k c) pid n e = absurd (cc)
other_of (line.End stamp k a) pid n e = absurd (cc)
other_of (line.Read stamp k message) pid n e = absurd (cc)
other_of (line.Have stamp k start len bits) pid n e = absurd (cc)
other_of (line.Found stamp on) pid n e = absurd (cc)
other_of (line.Dropped stamp on) pid n e = refl
other_of (line.Started stamp parent) pid n e = absurd (cc)
other_of (line.Forked stamp parent) pid n e = absurd (cc)
other_of (line.Exit stamp) pid n e = refl
other_of (line.Lost count) pid n e = absurd (cc)

other_own : (l : Line) (above : List LogLine) (number : ℕ) → is_other l ≡ true → AreOwn above number l []
other_own (line.Begin stamp k c) above number e = absurd (cc)
other_own (line.End stamp k a) above number e = absurd (cc)
other_own (line.Read stamp k message) above number e = absurd (cc)
other_own (line.Have stamp k start len bits) above number e = absurd (cc)
other_own (line.Found stamp on) above number e = absurd (cc)
other_own (line.Dropped stamp on) above number e = refl
other_own (line.Started stamp parent) above number e = absurd (cc)
other_own (line.Forked stamp parent) above number e = absurd (cc)
other_own (line.Exit stamp) above number e = refl
other_own (line.Lost count) above number e = absurd (cc)

other_program : (l : Line) (pid : ℕ) → is_other l ≡ true → is_new_program pid l ≡ false
other_program (line.Begin stamp k c) pid e = absurd (cc)
other_program (line.End stamp k a) pid e = absurd (cc)
other_program (line.Read stamp k message) pid e = absurd (cc)
other_program (line.Have stamp k start len bits) pid e = absurd (cc)
other_program (line.Found stamp on) pid e = absurd (cc)
other_program (line.Dropped stamp on) pid e = refl
other_program (line.Started stamp parent) pid e = absurd (cc)
other_program (line.Forked stamp parent) pid e = absurd (cc)
other_program (line.Exit stamp) pid e = refl
other_program (line.Lost count) pid e = absurd (cc)

pub other : (lines : List LogLine) (old : EntryReader) (one : LogLine) → is_other one.line ≡ true → HasRead lines old → HasRead (lines ++ one ∷ []) old
other lines old one is has =
    passed lines old old one [] (λ pid n. other_of one.line pid n is) (other_own one.line (onto lines []) one.number is) refl
    (still_run old old one (λ pid. other_program one.line pid is) refl) (sym (append-nil (map said_of old.entries))) refl has

-- A process begins, or begins another program

new_of : (p pid n : ℕ) (l : Line) → is_new_program p l ≡ true → is_of pid n l ≡ false
new_of p pid n (line.Begin stamp k c) e = absurd (cc)
new_of p pid n (line.End stamp k a) e = absurd (cc)
new_of p pid n (line.Read stamp k message) e = absurd (cc)
new_of p pid n (line.Have stamp k start len bits) e = absurd (cc)
new_of p pid n (line.Found stamp on) e = absurd (cc)
new_of p pid n (line.Dropped stamp on) e = absurd (cc)
new_of p pid n (line.Started stamp parent) e = refl
new_of p pid n (line.Forked stamp parent) e = refl
new_of p pid n (line.Exit stamp) e = absurd (cc)
new_of p pid n (line.Lost count) e = absurd (cc)

new_own : (p : ℕ) (above : List LogLine) (number : ℕ) (l : Line) → is_new_program p l ≡ true → AreOwn above number l []
new_own p above number (line.Begin stamp k c) e = absurd (cc)
new_own p above number (line.End stamp k a) e = absurd (cc)
new_own p above number (line.Read stamp k message) e = absurd (cc)
new_own p above number (line.Have stamp k start len bits) e = absurd (cc)
new_own p above number (line.Found stamp on) e = absurd (cc)
new_own p above number (line.Dropped stamp on) e = absurd (cc)
new_own p above number (line.Started stamp parent) e = refl
new_own p above number (line.Forked stamp parent) e = refl
new_own p above number (line.Exit stamp) e = absurd (cc)
new_own p above number (line.Lost count) e = absurd (cc)

of_process : (p pid : ℕ) (l : Line) → is_new_program p l ≡ true → is_new_program pid l ≡ (p == pid)
of_process p pid (line.Begin stamp k c) e = absurd (cc)
of_process p pid (line.End stamp k a) e = absurd (cc)
of_process p pid (line.Read stamp k message) e = absurd (cc)
of_process p pid (line.Have stamp k start len bits) e = absurd (cc)
of_process p pid (line.Found stamp on) e = absurd (cc)
of_process p pid (line.Dropped stamp on) e = absurd (cc)
of_process p pid (line.Started stamp parent) e = ap (λ (q : ℕ). q == pid) (eqb-true stamp.pid p e)
of_process p pid (line.Forked stamp parent) e = ap (λ (q : ℕ). q == pid) (eqb-true stamp.pid p e)
of_process p pid (line.Exit stamp) e = absurd (cc)
of_process p pid (line.Lost count) e = absurd (cc)

pub renewed : (lines : List LogLine) (old new : EntryReader) (one : LogLine) (p : ℕ) → is_new_program p one.line ≡ true → new ≡ record old { programs = new.programs }
    → ((pid : ℕ) → program_in new pid ≡ (if p == pid then one.number else program_in old pid)) → HasRead lines old → HasRead (lines ++ one ∷ []) new
renewed lines old new one p is same noted has =
    passed lines old new one [] (λ pid n. new_of p pid n one.line is) (new_own p (onto lines []) one.number one.line is) (ap (λ (r : EntryReader). r.whole) same)
    (λ pid. noted pid ∙ ap (λ (b : Bool). if b then one.number else program_in old pid) (sym (of_process p pid one.line is)))
    (ap (λ (r : EntryReader). map said_of r.entries) same ∙ sym (append-nil (map said_of old.entries))) (ap (λ (r : EntryReader). r.kept.items) same) has

-- What no line says is put in

said_settled : (made : Made) (space : ℕ) (last : Bool) → said (settled made space last) ≡ said made
said_settled made space last =
    elim (is_map_call made.call) as (λ b. record made { space = (if b then 0 else (if b then space else made.space)); last = false } ≡ record made { space = (if b then 0 else made.space); last = false }) [
      | true ↦ refl
      | false ↦ refl
    ]

said_event : (event : Event) (space : ℕ) (last : Bool) → said_of (settled_event event space last) ≡ said_of event
said_event (begins made) space last = ap (λ (m : Made). begins m) (said_settled made space last)
said_event (ends key out) space last = refl

said_set : (events : List Event) (at space : ℕ) (last : Bool) → map said_of (settled_at events at space last) ≡ map said_of events
said_set [] at space last = refl
said_set (event ∷ events) zero space last = ap (λ (v : Event). v ∷ map said_of events) (said_event event space last)
said_set (event ∷ events) (suc at) space last = ap (λ (l : List Event). said_of event ∷ l) (said_set events at space last)

pub settled_read : (lines : List LogLine) (old : EntryReader) (entries : List Event) (at space : ℕ) (last : Bool) → entries ≡ settled_at old.entries at space last → HasRead lines old
    → HasRead lines (record old { entries = entries })
settled_read lines old entries at space last is has = λ w.
    let h = has w in
    record {
      events = subst (λ (l : List Event). AreEvents [] lines l) (sym (ap (map said_of) is ∙ said_set old.entries at space last)) h.events;
      calls = h.calls;
      runs = h.runs;
    }

pub settled_or_same : (lines : List LogLine) (old : EntryReader) (entries : List Event) (at space : ℕ) (last : Bool) (result : Result Unit NoMemory) → OnOk result (entries ≡ settled_at old.entries at space last)
    → OnErr result (entries ≡ old.entries) → HasRead lines old → HasRead lines (record old { entries = entries })
settled_or_same lines old entries at space last (Ok u) is same has = settled_read lines old entries at space last is has
settled_or_same lines old entries at space last (Err e) is same has = subst (λ (l : List Event). HasRead lines (record old { entries = l })) (sym same) has
