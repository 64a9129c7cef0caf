-- The first frame on a wire.
use Rattle.std.proofs.Common.{◌≡◌, ℕ, zero, suc, ◌+◌, inl, inr, ⊎_elim, ◌-◌, ◌<◌, ◌≤◌, ltb, Option, Some, None, List, [], ◌∷◌, ◌++◌, length, take, drop, ap, refl, sym, subst, arith, ◌∙◌}
use Rattle.std.proofs.lemmas.Bool.{le-ltb, lt-ltb}
use Rattle.std.proofs.lemmas.List.{drop-drop, length-drop}
use Rattle.std.proofs.lemmas.Option.{same_Some}
use Rattle.std.specs.Option.{option_map}
use Rattle.mig_model.specs.Lengths.{text_len}
use Rattle.mig_model.specs.Wire as machine
use Rattle.page_stream.specs.Texts.{text}
use Rattle.frame_decoder.specs.Streams.{IsSent, IsTextOf, decoded_sent as decoded}
use Rattle.frame_decoder.specs.Versions.{version_of}
use Rattle.frame_decoder.specs.declared.version.Version.TheVariants as versions
use Rattle.page_stream.specs.declared.frame.Frame.{Frame}
use Rattle.wires.specs.Chunks.{AreChunks, IsFrontLen, frames_in, in_flight, in_full, left}
use Rattle.mig_model.specs.Invariant.{HeldFits}
use Rattle.wires.specs.Lanes.{Completes, IsFirstLen, IsMoved, IsWhole, sent_of}
use Rattle.wires.specs.declared.chunks.Chunks.{Chunks}
use Rattle.wires.specs.declared.sent.Sent.{Sent}
use Rattle.wires.proofs.ChunkLemmas.{AreThose, has_first}

-- the first frame in flight, where the chunk that is read has a byte left
pub record HasFront (chunks : Chunks) (bytes : List ℕ) (len : ℕ) : Type 0 where
  pub sent : machine.Sent
  pub rest : List machine.Sent
  pub flight : in_flight chunks ≡ sent ∷ rest
  pub len_is : len ≡ text_len sent.frame
  pub inside : len ≤ length bytes
  pub text_is : IsTextOf versions.Two (take len bytes) sent
  pub behind : in_flight (record chunks { taken = chunks.taken + len }) ≡ rest
  pub are : AreChunks (record chunks { taken = chunks.taken + len })

-- the length of the first frame, which was known or is read from its header
long_by : (bytes : List ℕ) (frames : List machine.Sent) (known len : ℕ) → IsFirstLen frames known → ((known ≡ 0 → ⊥) → len ≡ known) → (known ≡ 0 → IsFrontLen bytes len) →
    (sent : machine.Sent) (rest : List machine.Sent) (more : List ℕ) → frames ≡ sent ∷ rest → IsSent versions.Two sent → bytes ≡ text (version_of versions.Two) sent.epoch sent.frame ++ more → len ≡ text_len sent.frame
long_by bytes frames zero len is kept read sent rest more first each front = read refl versions.Two sent more each front
long_by bytes frames (suc k) len is kept read sent rest more first each front =
    ⊎_elim
    (λ (none : suc k ≡ 0). absurd (let no = none in cc))
    (λ (known : suc k ≡ text_len sent.frame). kept (λ none. let no = none in cc) ∙ known)
    (subst (λ (frames : List machine.Sent). IsFirstLen frames (suc k)) first is)

pub has_front : (chunks : Chunks) (bytes : List ℕ) (known len : ℕ) → AreChunks chunks → bytes ≡ left chunks → (bytes ≡ [] → ⊥) → IsFirstLen (in_flight chunks) known → ((known ≡ 0 → ⊥) → len ≡ known) → (known ≡ 0 → IsFrontLen bytes len) → HasFront chunks bytes len
has_front chunks bytes known len are is some knows kept read =
    let first = has_first (left chunks) are.reading (λ none. some (is ∙ none)) in
    let others = in_full chunks.full.items ++ frames_in chunks.writing.items in
    let flight = ap (λ (frames : List machine.Sent). frames ++ others) first.frames_are in
    let long : len ≡ text_len first.sent.frame = long_by bytes (in_flight chunks) known len knows kept read first.sent (first.rest ++ others) (drop (text_len first.sent.frame) (left chunks)) flight first.is (is ∙ first.front) in
    let next : drop (chunks.taken + len) chunks.reading.items ≡ drop (text_len first.sent.frame) (left chunks) = ap (λ (len : ℕ). drop (chunks.taken + len) chunks.reading.items) long ∙ sym (drop-drop (text_len first.sent.frame) chunks.taken chunks.reading.items) in
    let after : AreThose (drop (chunks.taken + len) chunks.reading.items) first.rest = subst (λ (b : List ℕ). AreThose b first.rest) (sym next) first.behind in
    let enough : len ≤ length (left chunks) = let inside = first.inside in omega (arith, long, inside) in
    record {
      sent = first.sent;
      rest = first.rest ++ others;
      flight = flight;
      len_is = long;
      inside = let same = ap length is in omega (arith, same, enough);
      text_is = subst (λ (b : List ℕ). IsTextOf versions.Two b first.sent) (λ i. take (sym long i) (sym is i)) first.text_is;
      behind = ap (λ (frames : List machine.Sent). frames ++ others) after.frames_are;
      are = record {
        inside = let whole = length-drop chunks.taken chunks.reading.items in let before = are.inside in omega (arith, enough, whole, before);
        reading = after.are;
        full = are.full;
        writing = are.writing;
      };
    }

-- fewer bytes have come than its text has
pub held_below : (frames : List machine.Sent) (sent : machine.Sent) (rest : List machine.Sent) (held : ℕ) → frames ≡ sent ∷ rest → HeldFits frames held → held < text_len sent.frame
held_below frames sent rest held is below = subst (λ (frames : List machine.Sent). HeldFits frames held) is below

pub held_there : (frames : List machine.Sent) (sent : machine.Sent) (rest : List machine.Sent) (held : ℕ) → frames ≡ sent ∷ rest → held < text_len sent.frame → HeldFits frames held
held_there frames sent rest held is below = subst (λ (frames : List machine.Sent). HeldFits frames held) (sym is) below

-- the length of the first frame is known now, and none is known of the next
pub known_there : (frames : List machine.Sent) (sent : machine.Sent) (rest : List machine.Sent) (len : ℕ) → frames ≡ sent ∷ rest → len ≡ text_len sent.frame → IsFirstLen frames len
known_there frames sent rest len is long = subst (λ (frames : List machine.Sent). IsFirstLen frames len) (sym is) (inr long)

pub none_known : (frames : List machine.Sent) → IsFirstLen frames 0
none_known [] = refl
none_known (sent ∷ rest) = inl refl

-- so none have come of the next
pub none_held : (frames : List machine.Sent) → HeldFits frames 0
none_held [] = refl
none_held (sent ∷ rest) = omega arith

-- whether `n` more bytes complete the frame
pub moves : (old new : List machine.Sent) (sent : machine.Sent) (rest : List machine.Sent) (held len n : ℕ) → new ≡ old → new ≡ sent ∷ rest → len ≡ text_len sent.frame → n < len - held →
    IsMoved (record { frames = old; held = held }) n (record { frames = new; held = held + n })
moves old new sent rest held len n stays first long less =
    record { sent = sent; rest = rest; first = sym stays ∙ first; short = lt-ltb _ _ (omega (arith, long, less)); moved = λ i. record { frames = stays i; held = held + n } }

pub completes : (old new : List machine.Sent) (sent : machine.Sent) (rest : List machine.Sent) (read : Sent) (held len n : ℕ) → new ≡ old → new ≡ sent ∷ rest → len ≡ text_len sent.frame → sent_of read ≡ sent → (n < len - held → ⊥) →
    IsWhole (record { frames = old; held = held }) n read
completes old new sent rest read held len n stays first long same enough =
    record {
      rest = rest;
      first = sym stays ∙ first ∙ ap (λ (sent : machine.Sent). sent ∷ rest) (sym same);
      whole = ap (λ (sent : machine.Sent). ltb n (text_len sent.frame - held)) same ∙ le-ltb _ _ (omega (arith, long, enough));
    }

-- the first frame is complete, whether or not there is memory to read it
pub completes_first : (old new : List machine.Sent) (sent : machine.Sent) (rest : List machine.Sent) (held len n : ℕ) → new ≡ old → new ≡ sent ∷ rest → len ≡ text_len sent.frame → (n < len - held → ⊥) →
    Completes (record { frames = old; held = held }) n
completes_first old new sent rest held len n stays first long enough =
    record { sent = sent; rest = rest; first = sym stays ∙ first; whole = le-ltb _ _ (omega (arith, long, enough)) }

-- what was read

pub none_is_not : (read : Option (ℕ × Frame)) (sent : machine.Sent) → option_map decoded read ≡ Some sent → read ≡ None → ⊥
none_is_not None sent is none = cc
none_is_not (Some x) sent is none = cc

pub read_is : (read : Option (ℕ × Frame)) (epoch : ℕ) (frame : Frame) (sent : machine.Sent) → option_map decoded read ≡ Some sent → read ≡ Some (epoch, frame) → sent_of (record { epoch = epoch; frame = frame }) ≡ sent
read_is read epoch frame sent is found = same_Some (decoded (epoch, frame)) sent (sym (ap (option_map decoded) found) ∙ is)

-- the frames after the first
pub same_rest : (frames : List machine.Sent) (first sent : machine.Sent) (rest others : List machine.Sent) → frames ≡ first ∷ rest → frames ≡ sent ∷ others → rest ≡ others
same_rest frames first sent rest others is so = ap (λ (frames : List machine.Sent). drop 1 frames) (sym is ∙ so)

pub not_none : (frames : List machine.Sent) (first : machine.Sent) (rest : List machine.Sent) → frames ≡ first ∷ rest → frames ≡ [] → ⊥
not_none frames first rest is none = cc
