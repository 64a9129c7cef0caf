-- The bytes in flight are the texts of the frames in flight.
use Rattle.std.proofs.Common.{◌≡◌, ℕ, zero, suc, ◌+◌, ◌<◌, ◌≤◌, get_or, Bool, false, true, ◌==◌, vec_len, List, [], ◌∷◌, ◌++◌, length, map, take, drop, Some, refl, sym, ap, subst, ◌∙◌, append_assoc, arith}
use Rattle.std.proofs.lemmas.Bool.{eqb-false, eqb-true}
use Rattle.std.proofs.lemmas.Bool.Decides.{nat_tests}
use Rattle.std.proofs.lemmas.List.{append-nil, drop_all, drop_at, length-append, map-append, nil_from_length, take_at}
use Rattle.std.proofs.lemmas.List.Concat.{flat_map-append, flat_map-cons}
use Rattle.std.proofs.Math.Seq.{take-suc}
use Rattle.std.specs.Global.{Vec}
use Rattle.std.specs.List.{AllByRecursion, flat_map}
use Rattle.foundation.specs.Tests.{is_empty as is_none_of}
use Rattle.mig_model.specs.Bounds.{IsFrame}
use Rattle.mig_model.specs.Lengths.{text_len}
use Rattle.mig_model.specs.Wire.{Frame, Sent}
use Rattle.page_stream.proofs.Encodable.{encodable}
use Rattle.page_stream.proofs.LengthBounds.{discard-bound, package-bound, recv-bound}
use Rattle.page_stream.proofs.TextLemmas.{length-text}
use Rattle.page_stream.specs.Texts.{has_frame, text}
use Rattle.page_stream.specs.Texts.Version.{Two}
use Rattle.page_stream.proofs.FrameTexts.{length-body_text}
use Rattle.frame_decoder.proofs.FrontTexts.{next_again}
use Rattle.frame_decoder.proofs.Whole.{each_join, texts_join}
use Rattle.frame_decoder.specs.Reading.{Front, next_at}
use Rattle.frame_decoder.specs.Streams.{IsSent, IsTextOf, texts}
use Rattle.frame_decoder.specs.declared.version.Version.TheVariants as versions
use Rattle.frame_decoder.specs.Versions.{AreFewIn, IsFrameIn}
use Rattle.wires.specs.Chunks.{AreChunks, AreTexts, IsFull, frames_from, frames_in, in_flight, in_full, left, pieces}
use Rattle.wires.specs.declared.chunks.Chunks.{Chunks}

-- One text

abbrev text_of : Sent → List ℕ
text_of sent = text Two sent.epoch sent.frame

abbrev IsOne : Sent → Type 0
IsOne sent = IsSent versions.Two sent

pub length-text_of : (sent : Sent) → IsOne sent → length (text_of sent) ≡ text_len sent.frame
length-text_of sent is = let fits = encodable sent.epoch sent.frame is.epoch is.frame.right in length-text Two sent.epoch sent.frame fits.has fits.whole

texts-cons : (sent : Sent) (frames : List Sent) → texts versions.Two (sent ∷ frames) ≡ text_of sent ++ texts versions.Two frames
texts-cons sent frames = flat_map-cons (λ (sent : Sent). text_of sent) sent frames

-- what is read at the front of texts
reads_first : (sent : Sent) (frames : List Sent) → IsOne sent → next_at (Some versions.Two) (texts versions.Two (sent ∷ frames)) ≡ Front.Whole versions.Two sent.epoch sent.frame (text_len sent.frame)
reads_first sent frames is =
    let body = length-body_text sent.frame is.frame.right in
    ap (next_at (Some versions.Two)) (texts-cons sent frames) ∙ next_again versions.Two sent.epoch sent.frame (texts versions.Two frames) is ∙ ap (λ (n : ℕ). Front.Whole versions.Two sent.epoch sent.frame (12 + n)) body

pub drops_first : (sent : Sent) (frames : List Sent) → IsOne sent → drop (text_len sent.frame) (texts versions.Two (sent ∷ frames)) ≡ texts versions.Two frames
drops_first sent frames is = ap (drop (text_len sent.frame)) (texts-cons sent frames) ∙ drop_at (text_of sent) (texts versions.Two frames) (text_len sent.frame) (length-text_of sent is)

pub takes_first : (sent : Sent) (frames : List Sent) → IsOne sent → take (text_len sent.frame) (texts versions.Two (sent ∷ frames)) ≡ text_of sent
takes_first sent frames is = ap (take (text_len sent.frame)) (texts-cons sent frames) ∙ take_at (text_of sent) (texts versions.Two frames) (text_len sent.frame) (length-text_of sent is)

pub length-texts-cons : (sent : Sent) (frames : List Sent) → IsOne sent → length (texts versions.Two (sent ∷ frames)) ≡ text_len sent.frame + length (texts versions.Two frames)
length-texts-cons sent frames is = ap length (texts-cons sent frames) ∙ length-append (text_of sent) (texts versions.Two frames) ∙ ap (λ (n : ℕ). n + length (texts versions.Two frames)) (length-text_of sent is)

-- Texts are the frames that are read from them

read_none : (most : ℕ) → frames_from most [] ≡ []
unfolding frames_from next_at
read_none zero = refl
read_none (suc most) = refl

read_one : (most : ℕ) (sent : Sent) (bytes : List ℕ) (len : ℕ) → next_at (Some versions.Two) bytes ≡ Front.Whole versions.Two sent.epoch sent.frame len → frames_from (suc most) bytes ≡ sent ∷ frames_from most (drop len bytes)
unfolding frames_from
read_one most sent bytes len is = rw (frames_from, is) refl

read_all : (frames : List Sent) (most : ℕ) → AllByRecursion IsOne frames → length (texts versions.Two frames) ≤ most → frames_from most (texts versions.Two frames) ≡ frames
read_all [] most each enough = read_none most
read_all (sent ∷ frames) zero each enough = let long = length-texts-cons sent frames each.0 in absurd (omega (arith, long, enough))
read_all (sent ∷ frames) (suc most) each enough =
    let long = length-texts-cons sent frames each.0 in
    read_one most sent (texts versions.Two (sent ∷ frames)) (text_len sent.frame) (reads_first sent frames each.0)
    ∙ ap (λ (bytes : List ℕ). sent ∷ frames_from most bytes) (drops_first sent frames each.0)
    ∙ ap (λ (rest : List Sent). sent ∷ rest) (read_all frames most each.1 (omega (arith, long, enough)))

-- so bytes that are texts have one list of frames
pub record AreThose (bytes : List ℕ) (frames : List Sent) : Type 0 where
  pub are : AreTexts bytes
  pub frames_are : frames_in bytes ≡ frames

pub those : (bytes : List ℕ) (frames : List Sent) → AllByRecursion IsOne frames → bytes ≡ texts versions.Two frames → AreThose bytes frames
those bytes frames each is =
    let read : frames_in bytes ≡ frames = ap (λ (bytes : List ℕ). frames_in bytes) is ∙ read_all frames (length (texts versions.Two frames)) each (omega arith) in
    record { are = record { whole = is ∙ ap (texts versions.Two) (sym read); each = subst (AllByRecursion IsOne) (sym read) each }; frames_are = read }

pub none_there : AreThose [] []
none_there = those [] [] tt refl

pub no_bytes : (bytes : List ℕ) → bytes ≡ [] → AreThose bytes []
no_bytes bytes none = those bytes [] tt none

-- no frames are no bytes
pub no_frames : (bytes : List ℕ) → AreTexts bytes → frames_in bytes ≡ [] → bytes ≡ []
no_frames bytes are none = are.whole ∙ ap (texts versions.Two) none

-- one frame more
pub one_more : (bytes new : List ℕ) (sent : Sent) → AreTexts bytes → IsOne sent → new ≡ bytes ++ text_of sent → AreThose new (frames_in bytes ++ sent ∷ [])
one_more bytes new sent are is wrote =
    let last : texts versions.Two (sent ∷ []) ≡ text_of sent = texts-cons sent [] ∙ append-nil (text_of sent) in
    those new (frames_in bytes ++ sent ∷ []) (each_join versions.Two (frames_in bytes) (sent ∷ []) are.each (is, tt))
    (wrote ∙ ap (λ (b : List ℕ). b ++ text_of sent) are.whole ∙ ap (λ (t : List ℕ). texts versions.Two (frames_in bytes) ++ t) (sym last) ∙ sym (texts_join versions.Two (frames_in bytes) (sent ∷ [])))

-- the first frame of some bytes
pub record HasFirst (bytes : List ℕ) : Type 0 where
  pub sent : Sent
  pub rest : List Sent
  pub is : IsOne sent
  pub frames_are : frames_in bytes ≡ sent ∷ rest
  pub front : bytes ≡ text_of sent ++ drop (text_len sent.frame) bytes
  pub inside : text_len sent.frame ≤ length bytes
  pub text_is : IsTextOf versions.Two (take (text_len sent.frame) bytes) sent
  pub behind : AreThose (drop (text_len sent.frame) bytes) rest

first_of : (bytes : List ℕ) (frames : List Sent) → frames_in bytes ≡ frames → bytes ≡ texts versions.Two frames → AllByRecursion IsOne frames → (bytes ≡ [] → ⊥) → HasFirst bytes
first_of bytes [] read is each some = absurd (some is)
first_of bytes (sent ∷ rest) read is each some =
    let dropped : drop (text_len sent.frame) bytes ≡ texts versions.Two rest = ap (drop (text_len sent.frame)) is ∙ drops_first sent rest each.0 in
    let taken : take (text_len sent.frame) bytes ≡ text_of sent = ap (take (text_len sent.frame)) is ∙ takes_first sent rest each.0 in
    let long = ap length is ∙ length-texts-cons sent rest each.0 in
    record {
      sent = sent;
      rest = rest;
      is = each.0;
      frames_are = read;
      front = is ∙ texts-cons sent rest ∙ ap (λ (b : List ℕ). text_of sent ++ b) (sym dropped);
      inside = omega (arith, long);
      text_is = record { whole = taken; fits = each.0 };
      behind = those (drop (text_len sent.frame) bytes) rest each.1 dropped;
    }

pub has_first : (bytes : List ℕ) → AreTexts bytes → (bytes ≡ [] → ⊥) → HasFirst bytes
has_first bytes are some = first_of bytes (frames_in bytes) refl are.whole are.each some

-- Chunks

-- the frames in flight by the parts that they are in
pub flight_parts : (chunks : Chunks) (read behind written : List Sent) → frames_in (left chunks) ≡ read → in_full chunks.full.items ≡ behind → frames_in chunks.writing.items ≡ written → in_flight chunks ≡ read ++ (behind ++ written)
flight_parts chunks read behind written a b c = λ i. a i ++ (b i ++ c i)

none_left : (chunks : Chunks) → chunks.reading.items ≡ [] → left chunks ≡ []
none_left chunks none = drop_all chunks.taken chunks.reading.items (omega (arith, ap length none))

-- no chunk has a byte
pub all_empty : (chunks : Chunks) → chunks.taken ≡ 0 → chunks.reading.items ≡ [] → chunks.full.items ≡ [] → chunks.writing.items ≡ [] → AreChunks chunks × (in_flight chunks ≡ [])
all_empty chunks taken read full written =
    let first = no_bytes (left chunks) (none_left chunks read) in
    let last = no_bytes chunks.writing.items written in (
      record { inside = omega (arith, taken); reading = first.are; full = subst (AllByRecursion IsFull) (sym full) tt; writing = last.are },
      flight_parts chunks [] [] [] first.frames_are (ap in_full full) last.frames_are,
    )

full_with : (chunks : List (Vec ℕ)) (chunk : Vec ℕ) → AllByRecursion IsFull chunks → IsFull chunk → AllByRecursion IsFull (chunks ++ chunk ∷ [])
full_with [] chunk all is = (is, tt)
full_with (first ∷ rest) chunk all is = (all.0, full_with rest chunk all.1 is)

in_full-with : (chunks : List (Vec ℕ)) (chunk : Vec ℕ) → in_full (chunks ++ chunk ∷ []) ≡ in_full chunks ++ frames_in chunk.items
in_full-with chunks chunk =
    let frames : Vec ℕ → List Sent = λ (chunk : Vec ℕ). frames_in chunk.items in
    flat_map-append frames chunks (chunk ∷ []) ∙ ap (λ (last : List Sent). in_full chunks ++ last) (flat_map-cons frames chunk [] ∙ append-nil (frames_in chunk.items))

-- the chunk that is written is set aside for one without bytes
pub set_aside : (old new : Chunks) → AreChunks old → new.taken ≡ old.taken → new.reading.items ≡ old.reading.items → new.full.items ≡ old.full.items ++ old.writing ∷ [] → new.writing.items ≡ [] → (old.writing.items ≡ [] → ⊥) →
    AreChunks new × (in_flight new ≡ in_flight old)
set_aside old new are taken read full written some =
    let same : left new ≡ left old = λ i. drop (taken i) (read i) in
    let last = no_bytes new.writing.items written in (
      record {
        inside = let inside = are.inside in omega (arith, inside, taken, ap length read);
        reading = subst AreTexts (sym same) are.reading;
        full = subst (AllByRecursion IsFull) (sym full) (full_with old.full.items old.writing are.full (record { texts = are.writing; some = some }));
        writing = last.are;
      },
      flight_parts new (frames_in (left old)) (in_full old.full.items ++ frames_in old.writing.items) [] (ap (λ (b : List ℕ). frames_in b) same) (ap in_full full ∙ in_full-with old.full.items old.writing) last.frames_are
          ∙ ap (λ (rest : List Sent). frames_in (left old) ++ rest) (append-nil (in_full old.full.items ++ frames_in old.writing.items)),
    )

-- another chunk is written, while the one before had no byte
pub put_in_place : (old new : Chunks) → AreChunks old → new.taken ≡ old.taken → new.reading.items ≡ old.reading.items → new.full.items ≡ old.full.items → new.writing.items ≡ old.writing.items → AreChunks new × (in_flight new ≡ in_flight old)
put_in_place old new are taken read full written =
    let same : left new ≡ left old = λ i. drop (taken i) (read i) in (
      record {
        inside = let inside = are.inside in omega (arith, inside, taken, ap length read);
        reading = subst AreTexts (sym same) are.reading;
        full = subst (AllByRecursion IsFull) (sym full) are.full;
        writing = subst AreTexts (sym written) are.writing;
      },
      flight_parts new (frames_in (left old)) (in_full old.full.items) (frames_in old.writing.items) (ap (λ (b : List ℕ). frames_in b) same) (ap in_full full) (ap (λ (b : List ℕ). frames_in b) written),
    )

-- a text more
pub written_more : (old new : Chunks) (sent : Sent) → AreChunks old → IsOne sent → new.taken ≡ old.taken → new.reading.items ≡ old.reading.items → new.full.items ≡ old.full.items → new.writing.items ≡ old.writing.items ++ text_of sent →
    AreChunks new × (in_flight new ≡ in_flight old ++ sent ∷ [])
written_more old new sent are is taken read full written =
    let same : left new ≡ left old = λ i. drop (taken i) (read i) in
    let last = one_more old.writing.items new.writing.items sent are.writing is written in
    let a = frames_in (left old) in
    let b = in_full old.full.items in
    let d = frames_in old.writing.items in (
      record {
        inside = let inside = are.inside in omega (arith, inside, taken, ap length read);
        reading = subst AreTexts (sym same) are.reading;
        full = subst (AllByRecursion IsFull) (sym full) are.full;
        writing = last.are;
      },
      flight_parts new a b (d ++ sent ∷ []) (ap (λ (b : List ℕ). frames_in b) same) (ap in_full full) last.frames_are
          ∙ ap (λ (rest : List Sent). a ++ rest) (sym (append_assoc b d (sent ∷ [])))
          ∙ sym (append_assoc a (b ++ d) (sent ∷ [])),
    )

-- the next chunk is read
pub next_full : (old new : Chunks) (chunk : Vec ℕ) → AreChunks old → length old.reading.items ≤ old.taken → old.full.items ≡ chunk ∷ new.full.items → new.taken ≡ 0 → new.reading ≡ chunk → new.writing.items ≡ old.writing.items → in_flight new ≡ in_flight old
next_full old new chunk are all full taken read written =
    let none : left old ≡ [] = drop_all old.taken old.reading.items all in
    let here : left new ≡ chunk.items = λ i. drop (taken i) (read i).items in
    let a = frames_in chunk.items in
    let b = in_full new.full.items in
    let d = frames_in old.writing.items in
    flight_parts new a b d (ap (λ (b : List ℕ). frames_in b) here) refl (ap (λ (b : List ℕ). frames_in b) written)
    ∙ sym (append_assoc a b d)
    ∙ sym (flight_parts old [] (a ++ b) d (no_bytes (left old) none).frames_are (ap in_full full ∙ flat_map-cons (λ (chunk : Vec ℕ). frames_in chunk.items) chunk new.full.items) refl)

-- the chunk that was written is read
pub next_written : (old new : Chunks) → AreChunks old → length old.reading.items ≤ old.taken → old.full.items ≡ [] → new.full.items ≡ [] → new.taken ≡ 0 → new.reading.items ≡ old.writing.items → new.writing.items ≡ [] →
    in_flight new ≡ in_flight old
next_written old new are all full behind taken read written =
    let none : left old ≡ [] = drop_all old.taken old.reading.items all in
    let here : left new ≡ old.writing.items = λ i. drop (taken i) (read i) in
    let d = frames_in old.writing.items in
    flight_parts new d [] [] (ap (λ (b : List ℕ). frames_in b) here) (ap in_full behind) (no_bytes new.writing.items written).frames_are
    ∙ append-nil d
    ∙ sym (flight_parts old [] [] d (no_bytes (left old) none).frames_are (ap in_full full) refl)

-- where no chunk has a byte there is no frame
pub none_behind : (new : Chunks) → left new ≡ [] → new.full.items ≡ [] → new.writing.items ≡ [] → in_flight new ≡ []
none_behind new read full written = flight_parts new [] [] [] (no_bytes (left new) read).frames_are (ap in_full full) (no_bytes new.writing.items written).frames_are

-- and where one has, there is
some_frames : (bytes : List ℕ) (behind : List Sent) → AreTexts bytes → (bytes ≡ [] → ⊥) → is_none_of (frames_in bytes ++ behind) ≡ false
some_frames bytes behind are some = let first = has_first bytes are some in ap (λ (frames : List Sent). is_none_of (frames ++ behind)) first.frames_are

is_none_of-append : (front rest : List Sent) → is_none_of rest ≡ false → is_none_of (front ++ rest) ≡ false
is_none_of-append [] rest some = some
is_none_of-append (sent ∷ front) rest some = refl

pub some_left : (chunks : Chunks) → AreChunks chunks → (left chunks ≡ [] → ⊥) → is_none_of (in_flight chunks) ≡ false
some_left chunks are some = some_frames (left chunks) (in_full chunks.full.items ++ frames_in chunks.writing.items) are.reading some

full_some : (full : List (Vec ℕ)) (behind : List Sent) → AllByRecursion IsFull full → (full ≡ [] → ⊥) → is_none_of (in_full full ++ behind) ≡ false
full_some [] behind all some = absurd (some refl)
full_some (chunk ∷ full) behind all some =
    ap (λ (frames : List Sent). is_none_of (frames ++ behind)) (flat_map-cons (λ (chunk : Vec ℕ). frames_in chunk.items) chunk full)
    ∙ ap is_none_of (append_assoc (frames_in chunk.items) (in_full full) behind)
    ∙ some_frames chunk.items (in_full full ++ behind) all.0.texts all.0.some

pub some_full : (chunks : Chunks) → AreChunks chunks → (chunks.full.items ≡ [] → ⊥) → is_none_of (in_flight chunks) ≡ false
some_full chunks are some = is_none_of-append (frames_in (left chunks)) (in_full chunks.full.items ++ frames_in chunks.writing.items) (full_some chunks.full.items (frames_in chunks.writing.items) are.full some)

pub some_written : (chunks : Chunks) → AreChunks chunks → (chunks.writing.items ≡ [] → ⊥) → is_none_of (in_flight chunks) ≡ false
some_written chunks are some =
    let last : is_none_of (frames_in chunks.writing.items) ≡ false = ap is_none_of (sym (append-nil (frames_in chunks.writing.items))) ∙ some_frames chunks.writing.items [] are.writing some in
    is_none_of-append (frames_in (left chunks)) (in_full chunks.full.items ++ frames_in chunks.writing.items) (is_none_of-append (in_full chunks.full.items) (frames_in chunks.writing.items) last)

-- nothing is in flight where no chunk has a byte that was not taken
pub empty_is : (chunks : Chunks) → AreChunks chunks → length chunks.reading.items ≤ chunks.taken → chunks.full.items ≡ [] → (b : Bool) → (vec_len chunks.writing == 0) ≡ b → b ≡ is_none_of (in_flight chunks)
empty_is chunks are all full true is =
    sym (ap is_none_of (none_behind chunks (drop_all chunks.taken chunks.reading.items all) full (nil_from_length chunks.writing.items (let none = eqb-true _ _ is in omega (arith, none)))))
empty_is chunks are all full false is = sym (some_written chunks are (λ none. eqb-false _ _ is (let none = ap length none in omega (arith, none))))

-- Room

few_in_two : (frame : Frame) → IsFrame frame → AreFewIn versions.Two frame
few_in_two frame is = grind (arith, nat_tests)

-- a well-formed frame is one of a stream of version 2
pub in_two : (frame : Frame) → IsFrame frame → IsFrameIn versions.Two frame
in_two frame is = record { has = has_two frame; right = is; few = few_in_two frame is }
  where
    has_two : (frame : Frame) → has_frame Two frame ≡ true
    has_two frame = grind (arith, nat_tests)

-- no text is longer
pub longest : (frame : Frame) → IsFrame frame → text_len frame ≤ 4456757
longest frame is = grind (arith, nat_tests, discard-bound, package-bound, recv-bound)

-- A copy

-- the bytes of full chunks
abbrev pub bytes_in : List (Vec ℕ) → List (List ℕ)
bytes_in chunks = map (λ (chunk : Vec ℕ). chunk.items) chunks

-- whole texts, at least one
abbrev AreSome : List ℕ → Type 0
AreSome bytes = AreTexts bytes × (bytes ≡ [] → ⊥)

some_in : (chunks : List (Vec ℕ)) → AllByRecursion IsFull chunks → AllByRecursion AreSome (bytes_in chunks)
some_in [] all = tt
some_in (chunk ∷ rest) all = ((all.0.texts, all.0.some), some_in rest all.1)

full_again : (chunks : List (Vec ℕ)) → AllByRecursion AreSome (bytes_in chunks) → AllByRecursion IsFull chunks
full_again [] all = tt
full_again (chunk ∷ rest) all = (record { texts = all.0.0; some = all.0.1 }, full_again rest all.1)

in_full_by : (chunks : List (Vec ℕ)) → in_full chunks ≡ flat_map frames_in (bytes_in chunks)
in_full_by [] = refl
in_full_by (chunk ∷ rest) =
    flat_map-cons (λ (chunk : Vec ℕ). frames_in chunk.items) chunk rest ∙ ap (λ (frames : List Sent). frames_in chunk.items ++ frames) (in_full_by rest) ∙ sym (flat_map-cons frames_in chunk.items (bytes_in rest))

-- chunks with the same bytes, of which none was taken
pub copied : (old new : Chunks) → AreChunks old → new.taken ≡ 0 → new.reading.items ≡ left old → bytes_in new.full.items ≡ bytes_in old.full.items → new.writing.items ≡ old.writing.items → AreChunks new × ((in_flight new ≡ in_flight old) × (pieces new ≡ pieces old))
copied old new are taken read full written =
    let left_is : left new ≡ left old = ap (λ (n : ℕ). drop n new.reading.items) taken ∙ read in
    let behind : in_full new.full.items ≡ in_full old.full.items = in_full_by new.full.items ∙ ap (flat_map frames_in) full ∙ sym (in_full_by old.full.items) in (
      record {
        inside = omega (arith, taken);
        reading = subst AreTexts (sym left_is) are.reading;
        full = full_again new.full.items (subst (AllByRecursion AreSome) (sym full) (some_in old.full.items are.full));
        writing = subst AreTexts (sym written) are.writing;
      },
      (flight_parts new (frames_in (left old)) (in_full old.full.items) (frames_in old.writing.items) (ap (λ (bytes : List ℕ). frames_in bytes) left_is) behind (ap (λ (bytes : List ℕ). frames_in bytes) written), λ i. left_is i ∷ (full i ++ written i ∷ [])),
    )

-- one chunk more
pub copied_more : (old copies : List (Vec ℕ)) (at : ℕ) (chunk new : Vec ℕ) → bytes_in copies ≡ bytes_in (take at old) → at < length old → chunk ≡ get_or old at chunk → new.items ≡ chunk.items → bytes_in (copies ++ new ∷ []) ≡ bytes_in (take (at + 1) old)
copied_more old copies at chunk new so_far inside here same =
    let next : suc at ≡ at + 1 = omega arith in
    map-append (λ (chunk : Vec ℕ). chunk.items) copies (new ∷ [])
    ∙ (λ i. so_far i ++ (same ∙ ap (λ (chunk : Vec ℕ). chunk.items) here) i ∷ [])
    ∙ sym (map-append (λ (chunk : Vec ℕ). chunk.items) (take at old) (get_or old at chunk ∷ []))
    ∙ ap bytes_in (sym (take-suc old at chunk inside))
    ∙ ap (λ (n : ℕ). bytes_in (take n old)) next
