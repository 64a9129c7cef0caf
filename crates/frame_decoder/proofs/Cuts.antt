-- Whatever the pieces, the frames are those at the front of the stream.
use Rattle.std.proofs.Common.{◌≡◌, ℕ, ◌+◌, ◌≤◌, List, [], ◌∷◌, ◌++◌, length, take, drop, Option, Some, None, Ok, Err, refl, sym, ap, subst, ◌∙◌, append_assoc, arith, inl, inr}
use Rattle.std.proofs.lemmas.List.{append-nil, length-append, length-drop, take-append-le, drop-append-le}
use Rattle.foundation.proofs.TestLemmas.{some_is_none}
use Rattle.mig_model.specs.Wire.{Sent}
use Rattle.frame_decoder.specs.declared.fault.StreamFault.{StreamFault}
use Rattle.frame_decoder.specs.declared.fault.StreamFault.TheVariants as faults
use Rattle.frame_decoder.specs.declared.version.Version.{Version}
use Rattle.frame_decoder.specs.Streams.{IsPart, Breach, Held, LeavesHeld, Splits}
use Rattle.frame_decoder.specs.Feeding.{FeedAnswer, fresh, Fed, FedFault, Feed, IsFeedRun, taken_of, frames_of, bytes_fed, all_frames}
use Rattle.frame_decoder.proofs.Feeds.{header_front}
use Rattle.frame_decoder.proofs.Whole.{spells_none, spells_join}

body_same : (bytes more : List ℕ) (len : ℕ) → 12 + len ≤ length bytes → take len (drop 12 (bytes ++ more)) ≡ take len (drop 12 bytes)
body_same bytes more len le =
    let long : 12 ≤ length bytes = omega arith in
    let front : drop 12 (bytes ++ more) ≡ drop 12 bytes ++ more = drop-append-le 12 bytes more long in
    let inside : len ≤ length (drop 12 bytes) = omega (arith, length-drop 12 bytes) in
    ap (take len) front ∙ take-append-le len (drop 12 bytes) more inside

pub breach_more : (fixed : Option Version) (bytes more : List ℕ) (fault : StreamFault) → Breach fixed bytes fault → Breach fixed (bytes ++ more) fault
breach_more fixed bytes more fault (inl b) = inl (record { long = omega (arith, b.long, length-append bytes more); reads = header_front fixed bytes more b.long ∙ b.reads })
breach_more fixed bytes more fault (inr b) = inr (record {
  header = b.header;
  long = omega (arith, b.long, length-append bytes more);
  reads = header_front fixed bytes more b.long ∙ b.reads;
  whole = omega (arith, b.whole, length-append bytes more);
  none = λ f ok t e. b.none f ok t (e ∙ body_same bytes more b.header.len b.whole);
  is = b.is;
})

-- after a fault nothing more is answered, and the decoder stays as it is
pub record Stays (old : Held) (feeds : List Feed) (new : Held) : Type 0 where
  pub frames : all_frames feeds ≡ []
  pub same : new ≡ old

same_kept : (fault : StreamFault) (old mid : Held) (other : StreamFault) (piece : List ℕ) → old.fault ≡ Some fault → FedFault old piece other mid → mid ≡ old
same_kept fault old mid other piece e (inl k) = k.1
same_kept fault old mid other piece e (inr k) = absurd (some_is_none fault old.fault e k.0)

stays_step : (fault : StreamFault) (old : Held) (piece : List ℕ) (answer : FeedAnswer) (mid : Held) → old.fault ≡ Some fault → Fed old piece answer mid
    → (frames_of (record { piece = piece; answer = answer }) ≡ []) × (mid ≡ old)
stays_step fault old piece (Ok frames) mid e f = absurd (some_is_none fault old.fault e f.0)
stays_step fault old piece (Err faults.NoMemory) mid e f = absurd (some_is_none fault old.fault e f.0)
stays_step fault old piece (Err faults.BadTag) mid e f = (refl, same_kept fault old mid faults.BadTag piece e f)
stays_step fault old piece (Err faults.BadLength) mid e f = (refl, same_kept fault old mid faults.BadLength piece e f)
stays_step fault old piece (Err faults.BadField) mid e f = (refl, same_kept fault old mid faults.BadField piece e f)

pub stays : (fault : StreamFault) (old : Held) (feeds : List Feed) (new : Held) → old.fault ≡ Some fault → IsFeedRun old feeds new → Stays old feeds new
stays fault old [] new e run = record { frames = refl; same = run }
stays fault old (f ∷ fs) new e run =
    let one = stays_step fault old f.piece f.answer run.0 e run.1 in
    let more = stays fault run.0 fs new (ap (λ (h : Held). h.fault) one.1 ∙ e) run.2 in
    record { frames = ap (λ (xs : List Sent). xs ++ all_frames fs) one.0 ∙ more.frames; same = more.same ∙ one.1 }

-- One piece, and then the others

-- the stream is these frames, and what is held
abbrev Reads : Option Version → List ℕ → List Sent → Held → Type 0
Reads old stream frames held = Splits old stream frames held.bytes held.fault held.version

-- what is left to be shown for the pieces after this one
abbrev Goes : Held → List Feed → Held → Type 0
Goes mid fs new = mid.fault ≡ None → IsPart mid.version mid.bytes → Reads mid.version (mid.bytes ++ bytes_fed fs) (all_frames fs) new

split_then : (old : Option Version) (bytes piece : List ℕ) (frames : List Sent) (mid : Held) (fault : Option StreamFault) (fs : List Feed) (new : Held) → mid.fault ≡ fault → Splits old (bytes ++ piece) frames mid.bytes fault mid.version
    → IsFeedRun mid fs new → Goes mid fs new → Reads old (bytes ++ (piece ++ bytes_fed fs)) (frames ++ all_frames fs) new
split_then old bytes piece frames mid None fs new is s run goes =
    let more = goes is (subst (IsPart mid.version) (sym s.ends.1) s.ends.0) in
    let whole : bytes ++ (piece ++ bytes_fed fs) ≡ (s.read ++ more.read) ++ more.unread =
    sym (append_assoc bytes piece (bytes_fed fs)) ∙ ap (λ (t : List ℕ). t ++ bytes_fed fs) s.whole ∙ append_assoc s.read s.unread (bytes_fed fs)
    ∙ ap (λ (t : List ℕ). s.read ++ (t ++ bytes_fed fs)) (sym s.ends.1) ∙ ap (λ (t : List ℕ). s.read ++ t) more.whole
    ∙ sym (append_assoc s.read more.read more.unread) in
    record {
      read = s.read ++ more.read;
      unread = more.unread;
      whole = whole;
      spells = spells_join old mid.version new.version s.read more.read frames (all_frames fs) s.spells more.spells;
      ends = more.ends;
    }
split_then old bytes piece frames mid (Some fault) fs new is s run goes =
    let more = stays fault mid fs new is run in
    let all : frames ++ all_frames fs ≡ frames = ap (λ (t : List Sent). frames ++ t) more.frames ∙ append-nil frames in
    let whole : bytes ++ (piece ++ bytes_fed fs) ≡ s.read ++ (s.unread ++ bytes_fed fs) =
    sym (append_assoc bytes piece (bytes_fed fs)) ∙ ap (λ (t : List ℕ). t ++ bytes_fed fs) s.whole ∙ append_assoc s.read s.unread (bytes_fed fs) in
    let breach : Breach mid.version (s.unread ++ bytes_fed fs) fault = breach_more mid.version s.unread (bytes_fed fs) fault s.ends.0 in
    let ends : LeavesHeld mid.version (s.unread ++ bytes_fed fs) mid.bytes mid.fault = subst (λ (o : Option StreamFault). LeavesHeld mid.version (s.unread ++ bytes_fed fs) mid.bytes o) (sym is) (breach, s.ends.1) in
    let now : Reads old (bytes ++ (piece ++ bytes_fed fs)) frames mid = record { read = s.read; unread = s.unread ++ bytes_fed fs; whole = whole; spells = s.spells; ends = ends } in
    subst (λ (h : Held). Reads old (bytes ++ (piece ++ bytes_fed fs)) (frames ++ all_frames fs) h) (sym more.same) (subst (λ (xs : List Sent). Reads old (bytes ++ (piece ++ bytes_fed fs)) xs mid) (sym all) now)

fault_then : (old : Held) (piece : List ℕ) (fault : StreamFault) (mid : Held) (fs : List Feed) (new : Held) → old.fault ≡ None → FedFault old piece fault mid → IsFeedRun mid fs new → Goes mid fs new
    → Reads old.version (old.bytes ++ (piece ++ bytes_fed fs)) (all_frames fs) new
fault_then old piece fault mid fs new none (inl k) run goes = absurd (some_is_none fault old.fault k.0 none)
fault_then old piece fault mid fs new none (inr k) run goes = split_then old.version old.bytes piece [] mid mid.fault fs new refl k.2 run goes

feed_then : (old : Held) (piece : List ℕ) (answer : FeedAnswer) (mid : Held) (fs : List Feed) (new : Held) → old.fault ≡ None → IsPart old.version old.bytes → Fed old piece answer mid → IsFeedRun mid fs new → Goes mid fs new
    → Reads old.version (old.bytes ++ (taken_of (record { piece = piece; answer = answer }) ++ bytes_fed fs)) (frames_of (record { piece = piece; answer = answer }) ++ all_frames fs) new
feed_then old piece (Ok frames) mid fs new none part f run goes = split_then old.version old.bytes piece frames mid mid.fault fs new refl f.1 run goes
feed_then old piece (Err faults.NoMemory) mid fs new none part f run goes =
    subst (λ (h : Held). Reads h.version (h.bytes ++ bytes_fed fs) (all_frames fs) new) f.1
    (goes (ap (λ (h : Held). h.fault) f.1 ∙ none) (subst (λ (h : Held). IsPart h.version h.bytes) (sym f.1) part))
feed_then old piece (Err faults.BadTag) mid fs new none part f run goes = fault_then old piece faults.BadTag mid fs new none f run goes
feed_then old piece (Err faults.BadLength) mid fs new none part f run goes = fault_then old piece faults.BadLength mid fs new none f run goes
feed_then old piece (Err faults.BadField) mid fs new none part f run goes = fault_then old piece faults.BadField mid fs new none f run goes

run_reads : (old : Held) (feeds : List Feed) (new : Held) → old.fault ≡ None → IsPart old.version old.bytes → IsFeedRun old feeds new → Reads old.version (old.bytes ++ bytes_fed feeds) (all_frames feeds) new
run_reads old [] new none part run =
    let ends : LeavesHeld old.version old.bytes old.bytes old.fault = subst (λ (o : Option StreamFault). LeavesHeld old.version old.bytes old.bytes o) (sym none) (part, refl) in
    let now : Reads old.version (old.bytes ++ []) [] old = record { read = []; unread = old.bytes; whole = append-nil old.bytes; spells = spells_none old.version; ends = ends } in
    subst (λ (h : Held). Reads old.version (old.bytes ++ []) [] h) (sym run) now
run_reads old (f ∷ fs) new none part run =
    feed_then old f.piece f.answer run.0 fs new none part run.1 run.2 (λ e p. run_reads run.0 fs new e p run.2)

pub any_cut : (feeds : List Feed) (new : Held) → IsFeedRun fresh feeds new → Splits None (bytes_fed feeds) (all_frames feeds) new.bytes new.fault new.version
any_cut feeds new run = run_reads fresh feeds new refl (inl (record { short = omega arith })) run
