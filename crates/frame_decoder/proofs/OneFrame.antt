-- Bytes that are the text of one frame.
use Rattle.std.proofs.Common.{◌≡◌, ℕ, List, [], ◌++◌, length, drop, None, refl, sym, ap, subst, ◌∙◌, arith}
use Rattle.std.proofs.lemmas.List.{append-nil, length-drop}
use Rattle.mig_model.specs.Wire.{Sent}
use Rattle.page_stream.specs.Texts.{text}
use Rattle.page_stream.proofs.OneText.{same_text}
use Rattle.page_stream.specs.declared.frame.Frame.{Frame as CodeFrame}
use Rattle.frame_decoder.specs.declared.fault.StreamFault.{StreamFault}
use Rattle.frame_decoder.specs.declared.stream.Next.{Next}
use Rattle.frame_decoder.specs.declared.stream.Next.TheVariants as nexts
use Rattle.frame_decoder.specs.declared.version.Version.{Version}
use Rattle.frame_decoder.specs.Reading.{front_of}
use Rattle.frame_decoder.specs.Streams.{Breach, IsPart, IsTextOf, decoded_sent}
use Rattle.frame_decoder.specs.Taking.{FrontIs, Stands}
use Rattle.frame_decoder.specs.Versions.{version_of}
use Rattle.frame_decoder.proofs.Fronts.{HeadIs, head_again}
use Rattle.frame_decoder.proofs.Unique.{breach_no_frame, part_no_frame, read_back}

-- What stands at the front of a text

text_then_none : (version : Version) (bytes : List ℕ) (sent : Sent) → IsTextOf version bytes sent → bytes ≡ text (version_of version) sent.epoch sent.frame ++ []
text_then_none version bytes sent is = is.whole ∙ sym (append-nil (text (version_of version) sent.epoch sent.frame))

head_of_text : (version : Version) (bytes : List ℕ) (sent : Sent) → IsTextOf version bytes sent → HeadIs None bytes version sent.epoch sent.frame
head_of_text version bytes sent is = subst (λ bytes. HeadIs None bytes version sent.epoch sent.frame) (sym (text_then_none version bytes sent is)) (head_again None version sent.epoch sent.frame [] tt is.fits)

pub text_no_part : (version : Version) (bytes : List ℕ) (sent : Sent) → IsTextOf version bytes sent → IsPart None bytes → ⊥
text_no_part version bytes sent is part = part_no_frame None bytes version sent (head_of_text version bytes sent is) part

pub text_no_breach : (version : Version) (bytes : List ℕ) (sent : Sent) (fault : StreamFault) → IsTextOf version bytes sent → Breach None bytes fault → ⊥
text_no_breach version bytes sent fault is breach = breach_no_frame None bytes version sent fault is.fits.frame (head_of_text version bytes sent is) breach

-- the frame at the front is that of the text, and takes all bytes
pub record IsAll (bytes : List ℕ) (sent front : Sent) (len : ℕ) : Type 0 where
  pub same : front ≡ sent
  pub all : len ≡ length bytes

pub text_is_all : (version other : Version) (bytes : List ℕ) (sent front : Sent) (len : ℕ) → IsTextOf version bytes sent → FrontIs None bytes other front.epoch front.frame len → IsAll bytes sent front len
text_is_all version other bytes sent front len is stands =
    let t = same_text (version_of other) (version_of version) front.epoch sent.epoch front.frame sent.frame (drop len bytes) [] (read_back other front stands.fits) (read_back version sent is.fits)
    (sym stands.whole ∙ text_then_none version bytes sent is) in
    record {
      same = λ i. record { epoch = t.epoch i; frame = t.frame i };
      all = omega (arith, stands.inside, length-drop len bytes, ap length t.rest);
    }

-- what stands at the front of a text is the whole frame
pub record IsTheWhole (bytes : List ℕ) (sent : Sent) (next : Next) : Type 0 where
  pub version : Version
  pub epoch : ℕ
  pub frame : CodeFrame
  pub len : ℕ
  pub is : next ≡ nexts.Whole version epoch frame len
  pub all : IsAll bytes sent (decoded_sent (epoch, frame)) len

pub text_is_whole : (version : Version) (bytes : List ℕ) (sent : Sent) (next : Next) → IsTextOf version bytes sent → Stands None bytes (front_of next) → IsTheWhole bytes sent next
text_is_whole version bytes sent nexts.Part is stands = absurd (text_no_part version bytes sent is stands)
text_is_whole version bytes sent (nexts.Fault fault) is stands = absurd (text_no_breach version bytes sent fault is stands)
text_is_whole version bytes sent (nexts.Whole other epoch frame len) is stands =
    record { version = other; epoch = epoch; frame = frame; len = len; is = refl; all = text_is_all version other bytes sent (decoded_sent (epoch, frame)) len is stands }
