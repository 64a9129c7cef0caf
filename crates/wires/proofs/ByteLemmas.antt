-- The bytes in flight, piece by piece.
use Rattle.std.proofs.Common.{◌≡◌, ℕ, List, [], ◌∷◌, ◌++◌, length, map, take, drop, refl, sym, ap, subst, ◌∙◌, arith}
use Rattle.std.proofs.lemmas.List.{append-nil, length-drop, take-append-drop, take-append-le}
use Rattle.std.proofs.lemmas.List.Concat.{flat_map-cons}
use Rattle.std.specs.Global.{Vec}
use Rattle.std.specs.List.{AllByRecursion, concat}
use Rattle.mig_model.specs.Wire.{Sent}
use Rattle.page_stream.specs.Texts.{text}
use Rattle.page_stream.specs.Texts.Version.{Two}
use Rattle.frame_decoder.proofs.Decoding.{part_decoded, texts_decoded}
use Rattle.frame_decoder.proofs.Whole.{each_join, texts_join}
use Rattle.frame_decoder.specs.Feeding.{Decodes}
use Rattle.frame_decoder.specs.Streams.{IsSent, texts}
use Rattle.frame_decoder.specs.declared.version.Version.TheVariants as versions
use Rattle.wires.specs.Chunks.{AreChunks, IsFull, frames_in, in_flight, in_full, left, pieces}
use Rattle.mig_model.specs.Invariant.{HeldFits}
use Rattle.wires.specs.declared.chunks.Chunks.{Chunks}
use Rattle.wires.proofs.ChunkLemmas.{length-text_of, those}
use Rattle.mig_base.proofs.ByteLemmas.{concat-push}

abbrev text_of : Sent → List ℕ
text_of sent = text Two sent.epoch sent.frame

abbrev items_of : Vec ℕ → List ℕ
items_of chunk = chunk.items

abbrev pub bytes_in : Chunks → List ℕ
bytes_in chunks = concat (pieces chunks)

-- Joined, the pieces are the texts

full_bytes : (full : List (Vec ℕ)) → AllByRecursion IsFull full → concat (map items_of full) ≡ texts versions.Two (in_full full)
full_bytes [] all = refl
full_bytes (chunk ∷ full) all =
    (λ i. all.0.texts.whole i ++ full_bytes full all.1 i)
    ∙ sym (texts_join versions.Two (frames_in chunk.items) (in_full full))
    ∙ ap (texts versions.Two) (sym (flat_map-cons (λ (chunk : Vec ℕ). frames_in chunk.items) chunk full))

full_each : (full : List (Vec ℕ)) → AllByRecursion IsFull full → AllByRecursion (IsSent versions.Two) (in_full full)
full_each [] all = tt
full_each (chunk ∷ full) all =
    subst (AllByRecursion (IsSent versions.Two)) (sym (flat_map-cons (λ (chunk : Vec ℕ). frames_in chunk.items) chunk full)) (each_join versions.Two (frames_in chunk.items) (in_full full) all.0.texts.each (full_each full all.1))

pub bytes_are : (chunks : Chunks) → AreChunks chunks → bytes_in chunks ≡ texts versions.Two (in_flight chunks)
bytes_are chunks are =
    let a = frames_in (left chunks) in
    let b = in_full chunks.full.items in
    let d = frames_in chunks.writing.items in
    ap (λ (rest : List ℕ). left chunks ++ rest) (concat-push (map items_of chunks.full.items) chunks.writing.items)
    ∙ (λ i. are.reading.whole i ++ (full_bytes chunks.full.items are.full i ++ are.writing.whole i))
    ∙ ap (λ (rest : List ℕ). texts versions.Two a ++ rest) (sym (texts_join versions.Two b d))
    ∙ sym (texts_join versions.Two a (b ++ d))

pub all_sent : (chunks : Chunks) → AreChunks chunks → AllByRecursion (IsSent versions.Two) (in_flight chunks)
all_sent chunks are =
    let a = frames_in (left chunks) in
    let b = in_full chunks.full.items in
    let d = frames_in chunks.writing.items in
    each_join versions.Two a (b ++ d) are.reading.each (each_join versions.Two b d (full_each chunks.full.items are.full) are.writing.each)

-- so what is said of the frames is said of the bytes

pub no_bytes : (new : Chunks) → AreChunks new → in_flight new ≡ [] → bytes_in new ≡ []
no_bytes new are none = bytes_are new are ∙ ap (texts versions.Two) none

pub same_bytes : (old new : Chunks) → AreChunks old → AreChunks new → in_flight new ≡ in_flight old → bytes_in new ≡ bytes_in old
same_bytes old new was are stays = bytes_are new are ∙ ap (texts versions.Two) stays ∙ sym (bytes_are old was)

pub more_bytes : (old new : Chunks) (sent : Sent) → AreChunks old → AreChunks new → in_flight new ≡ in_flight old ++ sent ∷ [] → bytes_in new ≡ bytes_in old ++ text_of sent
more_bytes old new sent was are more =
    bytes_are new are ∙ ap (texts versions.Two) more ∙ texts_join versions.Two (in_flight old) (sent ∷ [])
    ∙ (λ i. sym (bytes_are old was) i ++ (flat_map-cons text_of sent [] ∙ append-nil (text_of sent)) i)

pub fewer_bytes : (old new : Chunks) (sent : Sent) (rest : List Sent) → AreChunks old → AreChunks new → in_flight old ≡ sent ∷ rest → in_flight new ≡ rest → bytes_in old ≡ text_of sent ++ bytes_in new
fewer_bytes old new sent rest was are first left =
    bytes_are old was ∙ ap (texts versions.Two) first ∙ flat_map-cons text_of sent rest ∙ ap (λ (bytes : List ℕ). text_of sent ++ bytes) (ap (texts versions.Two) (sym left) ∙ sym (bytes_are new are))

-- A decoder

pub wire_decoded : (chunks : Chunks) → AreChunks chunks → Decodes (bytes_in chunks) (in_flight chunks) []
wire_decoded chunks are = subst (λ (bytes : List ℕ). Decodes bytes (in_flight chunks) []) (sym (bytes_are chunks are)) (texts_decoded versions.Two (in_flight chunks) (all_sent chunks are))

part_held : (frames : List Sent) (held : ℕ) → AllByRecursion (IsSent versions.Two) frames → HeldFits frames held → Decodes (take held (texts versions.Two frames)) [] (take held (texts versions.Two frames))
part_held [] held each is = subst (λ (held : ℕ). Decodes (take held []) [] (take held [])) (sym is) (texts_decoded versions.Two [] tt)
part_held (sent ∷ rest) held each is =
    let long = length-text_of sent each.0 in
    let front : take held (texts versions.Two (sent ∷ rest)) ≡ take held (text_of sent) = ap (take held) (flat_map-cons text_of sent rest) ∙ take-append-le held (text_of sent) (texts versions.Two rest) (omega (arith, long, is)) in
    let some : drop held (text_of sent) ≡ [] → ⊥ = λ none. let short = length-drop held (text_of sent) in let zero_long = ap length none in omega (arith, long, is, short, zero_long) in
    subst (λ (bytes : List ℕ). Decodes bytes [] bytes) (sym front) (part_decoded versions.Two [] sent (take held (text_of sent)) (drop held (text_of sent)) tt each.0 (sym (take-append-drop held (text_of sent))) some)

pub held_decoded : (chunks : Chunks) (held : ℕ) → AreChunks chunks → HeldFits (in_flight chunks) held → Decodes (take held (bytes_in chunks)) [] (take held (bytes_in chunks))
held_decoded chunks held are is = subst (λ (bytes : List ℕ). Decodes (take held bytes) [] (take held bytes)) (sym (bytes_are chunks are)) (part_held (in_flight chunks) held (all_sent chunks are) is)

-- the same bytes are the same frames: the texts tell them
pub same_frames : (chunks others : Chunks) → AreChunks chunks → AreChunks others → bytes_in chunks ≡ bytes_in others → in_flight chunks ≡ in_flight others
same_frames chunks others are also same =
    sym (those (bytes_in chunks) (in_flight chunks) (all_sent chunks are) (bytes_are chunks are)).frames_are
    ∙ ap (λ (bytes : List ℕ). frames_in bytes) same
    ∙ (those (bytes_in others) (in_flight others) (all_sent others also) (bytes_are others also)).frames_are
