-- A frame that is held in part, filled up from a piece.
use Rattle.std.proofs.Common.{◌≡◌, ℕ, ◌+◌, ◌≤◌, ◌⊎◌, List, [], ◌∷◌, ◌++◌, length, take, drop, Option, Some, None, Result, Ok, Err, false, true, ltb, refl, sym, ap, subst, ◌∙◌, append_assoc, arith, inl, inr}
use Rattle.std.specs.Prelude.{IfOk}
use Rattle.std.proofs.lemmas.Bool.{le-ltb}
use Rattle.std.proofs.lemmas.List.{append-nil, length-append, length-take-le, nil_from_length, take-append-drop, take_at}
use Rattle.mig_model.specs.Wire.{Frame, Sent}
use Rattle.page_stream.specs.Texts as machine
use Rattle.page_stream.specs.Texts.{text, body_text, header_text, has_frame, tag_code}
use Rattle.page_stream.proofs.OneText.{text-is}
use Rattle.frame_decoder.specs.declared.fault.StreamFault.{StreamFault}
use Rattle.frame_decoder.specs.declared.version.Version.{Version}
use Rattle.frame_decoder.specs.Headers.{Header, header_at}
use Rattle.frame_decoder.specs.Streams.{Breach, IsPart, IsTextOf, May, Spells, Splits, lacks}
use Rattle.frame_decoder.specs.Taking.{FillEnds, FrontIs, IsFilled, IsFilledUp, IsOneFrame}
use Rattle.frame_decoder.specs.Versions.{version_of}
use Rattle.frame_decoder.proofs.Cuts.{breach_more}
use Rattle.frame_decoder.proofs.Fronts.{HeadIs, head_again}
use Rattle.frame_decoder.proofs.Unique.{header_or_fault, part_no_frame, same_header}
use Rattle.frame_decoder.proofs.Whole.{spells_join, spells_none, spells_one}
use Rattle.frame_decoder.proofs.Feeds.{header_front, lacks_body, lacks_header, wait_part}

-- a header, and its body as far as it is there
record HasBegun (fixed : Option Version) (bytes : List ℕ) : Type 0 where
  pub long : 12 ≤ length bytes
  pub within : (header : Header) → header_at fixed bytes ≡ Ok header → length bytes ≤ 12 + header.len

-- All of the piece is there still

filled_joined : (fixed : Option Version) (old piece new rest : List ℕ) → IsFilled fixed old piece new rest → new ++ rest ≡ old ++ piece
filled_joined fixed old piece new rest (inl f) = rw (f.1, f.2) (append-nil (old ++ piece))
filled_joined fixed old piece new rest (inr f) =
    rw (f.1, f.2) (append_assoc old (take (lacks fixed old) piece) (drop (lacks fixed old) piece) ∙ ap (λ (t : List ℕ). old ++ t) (take-append-drop (lacks fixed old) piece))

-- The first filling

body_full : (fixed : Option Version) (old more : List ℕ) (h : Header) → 12 ≤ length old → header_at fixed old ≡ Ok h → length (old ++ more) ≡ 12 + h.len → IsOneFrame fixed (old ++ more)
body_full fixed old more h long reads is = record {
  long = omega (arith, long, length-append old more);
  is = λ header e. is ∙ ap (λ (h : Header). 12 + h.len) (same_header h header (header_at fixed old) reads (sym (header_front fixed old more long) ∙ e));
}

taken_len : (n : ℕ) (old piece : List ℕ) → n ≤ length piece → length (old ++ take n piece) ≡ length old + n
taken_len n old piece le = omega (arith, le, length-append old (take n piece), length-take-le n piece le)

one_begun : (fixed : Option Version) (bytes : List ℕ) → IsOneFrame fixed bytes → HasBegun fixed bytes
one_begun fixed bytes one = record { long = one.long; within = λ header e. let same = one.is header e in omega (arith, same) }

first_full : (fixed : Option Version) (old piece : List ℕ) → IsPart fixed old → lacks fixed old ≤ length piece → HasBegun fixed (old ++ take (lacks fixed old) piece)
first_full fixed old piece (inl p) le =
    let all : length (old ++ take (lacks fixed old) piece) ≡ 12 = taken_len (lacks fixed old) old piece le ∙ (let short = p.short in omega (arith, short, lacks_header fixed old p.short)) in
    record { long = omega (arith, all); within = λ header e. omega (arith, all) }
first_full fixed old piece (inr p) le =
    let all : length (old ++ take (lacks fixed old) piece) ≡ 12 + p.header.len = taken_len (lacks fixed old) old piece le ∙ (let short = p.short in omega (arith, short, lacks_body fixed old p.header p.long p.reads)) in
    one_begun fixed (old ++ take (lacks fixed old) piece) (body_full fixed old (take (lacks fixed old) piece) p.header p.long p.reads all)

first : (fixed : Option Version) (old piece new rest : List ℕ) → IsPart fixed old → IsFilled fixed old piece new rest → ((rest ≡ []) × IsPart fixed new) ⊎ HasBegun fixed new
first fixed old piece new rest part (inl f) = inl (f.2, subst (IsPart fixed) (sym f.1) (wait_part fixed old piece part f.0))
first fixed old piece new rest part (inr f) = inr (subst (HasBegun fixed) (sym f.1) (first_full fixed old piece part f.0))

-- The second one

lacks_none : (fixed : Option Version) (bytes : List ℕ) (fault : StreamFault) → 12 ≤ length bytes → header_at fixed bytes ≡ Err fault → lacks fixed bytes ≡ 0
unfolding lacks
lacks_none fixed bytes fault le e = let t : ltb (length bytes) 12 ≡ false = le-ltb _ _ le in rw (t, e) refl

fault_stays : (fixed : Option Version) (mid rest new after : List ℕ) (fault : StreamFault) → 12 ≤ length mid → header_at fixed mid ≡ Err fault → IsFilled fixed mid rest new after → IsOneFrame fixed new
fault_stays fixed mid rest new after fault long e (inl f) = absurd (let less = f.0 in omega (arith, less, lacks_none fixed mid fault long e))
fault_stays fixed mid rest new after fault long e (inr f) =
    subst (IsOneFrame fixed) (sym f.1) (record {
      long = omega (arith, long, length-append mid (take (lacks fixed mid) rest));
      is = λ header reads. absurd (header_or_fault header fault (header_at fixed mid) (sym (header_front fixed mid (take (lacks fixed mid) rest) long) ∙ reads) e);
    })

body_fills : (fixed : Option Version) (mid rest new after : List ℕ) (h : Header) → HasBegun fixed mid → header_at fixed mid ≡ Ok h → IsFilled fixed mid rest new after → FillEnds fixed new after
body_fills fixed mid rest new after h begun e (inl f) =
    let less = f.0 in
    let part : IsPart fixed mid = inr (record { header = h; long = begun.long; reads = e; short = omega (arith, less, lacks_body fixed mid h begun.long e) }) in
    inl (f.2, subst (IsPart fixed) (sym f.1) (wait_part fixed mid rest part f.0))
body_fills fixed mid rest new after h begun e (inr f) =
    let within = begun.within h e in
    let all : length (mid ++ take (lacks fixed mid) rest) ≡ 12 + h.len = taken_len (lacks fixed mid) mid rest f.0 ∙ omega (arith, within, lacks_body fixed mid h begun.long e) in
    inr (subst (IsOneFrame fixed) (sym f.1) (body_full fixed mid (take (lacks fixed mid) rest) h begun.long e all))

second : (fixed : Option Version) (mid rest new after : List ℕ) (read : Result Header StreamFault) → HasBegun fixed mid → header_at fixed mid ≡ read → IsFilled fixed mid rest new after → FillEnds fixed new after
second fixed mid rest new after (Ok h) begun e f = body_fills fixed mid rest new after h begun e f
second fixed mid rest new after (Err fault) begun e f = inr (fault_stays fixed mid rest new after fault begun.long e f)

-- nothing was left for it
part_stays : (fixed : Option Version) (mid rest new after : List ℕ) → rest ≡ [] → IsPart fixed mid → IsFilled fixed mid rest new after → FillEnds fixed new after
part_stays fixed mid rest new after none part (inl f) = inl (f.2, subst (IsPart fixed) (sym f.1) (wait_part fixed mid rest part f.0))
part_stays fixed mid rest new after none part (inr f) =
    let less = f.0 in
    let zero : lacks fixed mid ≡ 0 = omega (arith, less, ap length none) in
    let same : new ≡ mid = f.1 ∙ rw zero (append-nil mid) in
    let left : after ≡ [] = f.2 ∙ rw (zero, none) refl in
    inl (left, subst (IsPart fixed) (sym same) part)

pub filled_up : (fixed : Option Version) (old piece mid rest new after : List ℕ) → IsPart fixed old → IsFilled fixed old piece mid rest → IsFilled fixed mid rest new after → IsFilledUp fixed old piece new after
filled_up fixed old piece mid rest new after part f g = record {
  joined = filled_joined fixed mid rest new after g ∙ filled_joined fixed old piece mid rest f;
  ends = elim (first fixed old piece mid rest part f) [
    | inl w ↦ part_stays fixed mid rest new after w.0 w.1 g
    | inr begun ↦ second fixed mid rest new after (header_at fixed mid) begun refl g
  ];
}

-- What is held keeps its bytes

pub filled_begins : (fixed : Option Version) (old piece new rest : List ℕ) → IsFilled fixed old piece new rest → take (length old) new ≡ old
filled_begins fixed old piece new rest (inl f) = ap (take (length old)) f.1 ∙ take_at old piece (length old) refl
filled_begins fixed old piece new rest (inr f) = ap (take (length old)) f.1 ∙ take_at old (take (lacks fixed old) piece) (length old) refl

-- What is read

pub length-text_of : (version : machine.Version) (epoch : ℕ) (frame : Frame) → has_frame version frame ≡ true → length (text version epoch frame) ≡ 12 + length (body_text frame)
length-text_of version epoch frame has = ap length (text-is version epoch frame has) ∙ length-append (header_text version (tag_code frame) epoch (length (body_text frame))) (body_text frame)

-- a frame that is at its end takes all bytes
pub one_text : (fixed : Option Version) (bytes rest : List ℕ) (v : Version) (epoch : ℕ) (frame : Frame) (len : ℕ) → FrontIs fixed bytes v epoch frame len → FillEnds fixed bytes rest → IsTextOf v bytes (record { epoch = epoch; frame = frame })
one_text fixed bytes rest v epoch frame len front stops =
    let sent : Sent = record { epoch = epoch; frame = frame } in
    let head : HeadIs fixed bytes v epoch frame = subst (λ (bytes : List ℕ). HeadIs fixed bytes v epoch frame) (sym front.whole) (head_again fixed v epoch frame (drop len bytes) front.may front.fits) in
    elim stops [
      | inl w ↦ absurd (part_no_frame fixed bytes v sent head w.1)
      | inr one ↦
          let all = one.is _ head.reads in
          let parts = ap length front.whole ∙ length-append (text (version_of v) epoch frame) (drop len bytes) in
          let least = length-text_of (version_of v) epoch frame front.fits.frame.has in
          let none : drop len bytes ≡ [] = nil_from_length (drop len bytes) (omega (arith, all, parts, least)) in
          record { whole = front.whole ∙ rw none (append-nil (text (version_of v) epoch frame)); fits = front.fits }
    ]

-- the frame that is held, and those of the rest
pub behind : (fixed : Option Version) (v : Version) (held rest : List ℕ) (sent : Sent) (frames : List Sent) (after : List ℕ) (fault : Option StreamFault) (now : Option Version) → IsTextOf v held sent → May fixed v → Splits (Some v) rest frames after fault now
    → Splits fixed (held ++ rest) (sent ∷ frames) after fault now
behind fixed v held rest sent frames after fault now is may s =
    let one : Spells fixed held (sent ∷ []) (Some v) = subst (λ (bytes : List ℕ). Spells fixed bytes (sent ∷ []) (Some v)) (sym is.whole) (spells_one fixed v sent may is.fits) in
    record {
      read = held ++ s.read;
      unread = s.unread;
      whole = ap (λ (t : List ℕ). held ++ t) s.whole ∙ sym (append_assoc held s.read s.unread);
      spells = spells_join fixed (Some v) now held s.read (sent ∷ []) frames one s.spells;
      ends = s.ends;
    }

part_not_one : (fixed : Option Version) (bytes : List ℕ) → IsPart fixed bytes → IsOneFrame fixed bytes → ⊥
part_not_one fixed bytes (inl p) one = let long = one.long in omega (arith, p.short, long)
part_not_one fixed bytes (inr p) one = let all = one.is p.header p.reads in omega (arith, p.short, all)

-- less than a frame is all that there is
pub part_splits : (fixed : Option Version) (old piece bytes rest : List ℕ) → IsPart fixed bytes → IsFilledUp fixed old piece bytes rest → Splits fixed (old ++ piece) [] bytes None fixed
part_splits fixed old piece bytes rest part up =
    elim up.ends [
      | inl w ↦ record { read = []; unread = bytes; whole = sym up.joined ∙ rw w.0 (append-nil bytes); spells = spells_none fixed; ends = (part, refl) }
      | inr one ↦ absurd (part_not_one fixed bytes part one)
    ]

-- a fault stands whatever comes after it
pub fault_splits : (fixed : Option Version) (old piece bytes rest : List ℕ) (fault : StreamFault) → Breach fixed bytes fault → IsFilledUp fixed old piece bytes rest → Splits fixed (old ++ piece) [] [] (Some fault) fixed
fault_splits fixed old piece bytes rest fault breach up =
    record { read = []; unread = old ++ piece; whole = refl; spells = spells_none fixed; ends = (subst (λ (bytes : List ℕ). Breach fixed bytes fault) up.joined (breach_more fixed bytes rest fault breach), refl) }

-- Answers that are not errors

pub then_ok : {A E : Type 0} (P Q : A → Type 0) (r : Result A E) → ((a : A) → P a → Q a) → IfOk r P → IfOk r Q
then_ok P Q (Ok a) more is = more a is
then_ok P Q (Err e) more is = tt
