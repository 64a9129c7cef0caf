-- The text at the front of a stream, with anything after it.
use Rattle.std.proofs.Common.{◌≡◌, ℕ, ◌+◌, ◌≤◌, List, ◌++◌, length, drop, Some, None, Ok, Err, false, ltb, refl, sym, ap, subst, ◌∙◌, arith}
use Rattle.std.proofs.lemmas.Bool.{le-ltb}
use Rattle.std.proofs.lemmas.List.{length-drop}
use Rattle.page_stream.specs.Texts.{text, body_text}
use Rattle.mig_model.specs.Lengths.{text_len}
use Rattle.mig_model.specs.Wire.{Frame, Sent}
use Rattle.page_stream.proofs.FrameTexts.{length-body_text}
use Rattle.frame_decoder.specs.declared.fault.StreamFault.{StreamFault}
use Rattle.frame_decoder.specs.declared.version.Version.{Version}
use Rattle.frame_decoder.specs.Headers.{Header, header_at}
use Rattle.frame_decoder.specs.Reading.{Front, next_at}
use Rattle.frame_decoder.specs.Streams.{IsSent}
use Rattle.frame_decoder.specs.Versions.{version_of}
use Rattle.frame_decoder.proofs.Bodies.{body_again}
use Rattle.frame_decoder.proofs.FieldLemmas.{ok_is}
use Rattle.frame_decoder.proofs.Fronts.{HeadIs, head_again}

-- the whole frame stands there
pub next_again : (version : Version) (epoch : ℕ) (frame : Frame) (rest : List ℕ) → IsSent version (record { epoch = epoch; frame = frame }) →
    next_at (Some version) (text (version_of version) epoch frame ++ rest) ≡ Front.Whole version epoch frame (12 + length (body_text frame))
unfolding next_at
next_again version epoch frame rest fits =
    let bytes = text (version_of version) epoch frame ++ rest in
    let head = head_again (Some version) version epoch frame rest refl fits in
    let long = head.long in
    let header : ltb (length bytes) 12 ≡ false = le-ltb _ _ (omega (arith, long)) in
    let body : ltb (length (drop 12 bytes)) (length (body_text frame)) ≡ false = le-ltb _ _ (omega (arith, long, length-drop 12 bytes)) in
    rw (header, head.reads, body, head.body, body_again version frame fits.frame) refl

-- The header of such a text

pub head_there : (version : Version) (sent : Sent) (rest bytes : List ℕ) → IsSent version sent → bytes ≡ text (version_of version) sent.epoch sent.frame ++ rest → HeadIs None bytes version sent.epoch sent.frame
head_there version sent rest bytes fits is = subst (λ (bytes : List ℕ). HeadIs None bytes version sent.epoch sent.frame) (sym is) (head_again None version sent.epoch sent.frame rest tt fits)

-- it is not cut off
pub head_long : (version : Version) (sent : Sent) (rest bytes : List ℕ) → IsSent version sent → bytes ≡ text (version_of version) sent.epoch sent.frame ++ rest → 12 ≤ length bytes
head_long version sent rest bytes fits is = let long = (head_there version sent rest bytes fits is).long in omega (arith, long)

-- it says how long the text is
pub head_says : (version : Version) (sent : Sent) (rest bytes : List ℕ) (header : Header) → IsSent version sent → bytes ≡ text (version_of version) sent.epoch sent.frame ++ rest → header_at None bytes ≡ Ok header → 12 + header.len ≡ text_len sent.frame
head_says version sent rest bytes header fits is reads =
    let head = head_there version sent rest bytes fits is in
    let same = ap (λ (h : Header). h.len) (ok_is header _ (sym reads ∙ head.reads)) in
    let body = length-body_text sent.frame fits.frame.right in
    omega (arith, same, body)

-- it is one
pub head_reads : (version : Version) (sent : Sent) (rest bytes : List ℕ) (fault : StreamFault) → IsSent version sent → bytes ≡ text (version_of version) sent.epoch sent.frame ++ rest → header_at None bytes ≡ Err fault → ⊥
head_reads version sent rest bytes fault fits is reads = let head = head_there version sent rest bytes fits is in let other = head.reads in cc
