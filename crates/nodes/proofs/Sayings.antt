-- Bytes say at most one thing.
use Rattle.std.proofs.Common.{◌≡◌, ℕ, zero, suc, ◌<◌, List, [], ◌++◌, length, arith, inl, inr, refl, sym, ap, ◌∙◌, append-nil}
use Rattle.std.specs.List.{flat_map}
use Rattle.std.proofs.lemmas.List.{length-append}
use Rattle.mig_base.proofs.ByteLemmas.{length-zero_page}
use Rattle.mig_base.specs.Bytes.{zero_page}
use Rattle.mig_model.specs.Wire.{Frame, Sent}
use Rattle.page_stream.proofs.OneText.{same_text}
use Rattle.page_stream.specs.Texts.{IsEncodable, text}
use Rattle.page_stream.specs.Texts.Version.{Two}
use Rattle.frame_decoder.proofs.Unique.{read_back}
use Rattle.frame_decoder.specs.Streams.{IsTextOf}
use Rattle.frame_decoder.specs.Versions.{version_of}
use Rattle.frame_decoder.specs.declared.version.Version.{Version}
use Rattle.nodes.specs.DestinationCalls.{Handed, AFrame, Says, ZeroRun}
use Rattle.nodes.specs.Heads.{IsHeadOfPage, IsHeadOfRun}
use Rattle.nodes.proofs.HeadLemmas.{page_epoch, page_length, page_number, run_count, run_epoch, run_first, run_length, zero_pages, zeros_many, zeros_whole}

same_sent : (one other : Sent) → one.epoch ≡ other.epoch → one.frame ≡ other.frame → one ≡ other
same_sent one other epochs frames = λ i. record { epoch = epochs i; frame = frames i }

-- the heads can be read back, with zeros after them

page_encodable : (bytes : List ℕ) (epoch page : ℕ) → IsHeadOfPage bytes epoch page → IsEncodable Two epoch (Frame.Page page zero_page)
page_encodable bytes epoch page is = record { has = refl; epoch_fits = is.epoch_fits; whole = length-zero_page; fits = omega (arith, is.in_space) }

run_encodable : (bytes : List ℕ) (epoch first count : ℕ) → IsHeadOfRun bytes epoch first count → IsEncodable Two epoch (Frame.Run first (zero_pages count))
run_encodable bytes epoch first count is =
    record {
      has = refl;
      epoch_fits = is.epoch_fits;
      whole = zeros_whole count;
      fits = (omega (arith, is.in_space), omega (arith, zeros_many count, is.few));
    }

some_zeros : (count : ℕ) → 0 < count → flat_map (λ (page : List ℕ). page) (zero_pages count) ≡ [] → ⊥
some_zeros zero some none = omega (arith, some)
some_zeros (suc count) some none = omega (arith, ap length none, length-append zero_page (flat_map (λ (page : List ℕ). page) (zero_pages count)), length-zero_page)

-- a text is no head

text_page : (version : Version) (bytes : List ℕ) (sent : Sent) (epoch page : ℕ) → IsTextOf version bytes sent → IsHeadOfPage bytes epoch page → ⊥
text_page version bytes sent epoch page written is =
    let both = ap (λ (b : List ℕ). b ++ zero_page) (sym written.whole) ∙ is.head zero_page length-zero_page ∙ sym (append-nil (text Two epoch (Frame.Page page zero_page))) in
    let same = same_text (version_of version) Two sent.epoch epoch sent.frame (Frame.Page page zero_page) zero_page [] (read_back version sent written.fits) (page_encodable bytes epoch page is) both in
    omega (arith, ap length same.rest, length-zero_page)

text_run : (version : Version) (bytes : List ℕ) (sent : Sent) (epoch first count : ℕ) → IsTextOf version bytes sent → IsHeadOfRun bytes epoch first count → ⊥
text_run version bytes sent epoch first count written is =
    let content = flat_map (λ (page : List ℕ). page) (zero_pages count) in
    let both = ap (λ (b : List ℕ). b ++ content) (sym written.whole) ∙ is.head (zero_pages count) (zeros_many count) (zeros_whole count) ∙ sym (append-nil (text Two epoch (Frame.Run first (zero_pages count)))) in
    let same = same_text (version_of version) Two sent.epoch epoch sent.frame (Frame.Run first (zero_pages count)) content [] (read_back version sent written.fits) (run_encodable bytes epoch first count is) both in
    some_zeros count is.some same.rest

text_text : (v w : Version) (bytes : List ℕ) (one other : Sent) → IsTextOf v bytes one → IsTextOf w bytes other → one ≡ other
text_text v w bytes one other a b =
    let both = ap (λ (t : List ℕ). t ++ []) (sym a.whole ∙ b.whole) in
    let same = same_text (version_of v) (version_of w) one.epoch other.epoch one.frame other.frame [] [] (read_back v one a.fits) (read_back w other b.fits) both in
    same_sent one other same.epoch same.frame

-- two heads

page_page : (bytes : List ℕ) (one other : Sent) (p q : ℕ) → IsHeadOfPage bytes one.epoch p → one.frame ≡ Frame.Zero p → IsHeadOfPage bytes other.epoch q → other.frame ≡ Frame.Zero q → one ≡ other
page_page bytes one other p q a is b also =
    let epochs = sym (page_epoch bytes one.epoch p a.head a.epoch_fits) ∙ page_epoch bytes other.epoch q b.head b.epoch_fits in
    let pages : p ≡ q = sym (page_number bytes one.epoch p a.head (omega (arith, a.in_space))) ∙ page_number bytes other.epoch q b.head (omega (arith, b.in_space)) in
    same_sent one other epochs (is ∙ ap (λ (page : ℕ). Frame.Zero page) pages ∙ sym also)

page_run : (bytes : List ℕ) (d p e f n : ℕ) → IsHeadOfPage bytes d p → IsHeadOfRun bytes e f n → ⊥
page_run bytes d p e f n a b = omega (arith, page_length bytes d p a.head, run_length bytes e f n b.head)

run_run : (bytes : List ℕ) (d f m e g n : ℕ) → IsHeadOfRun bytes d f m → IsHeadOfRun bytes e g n → ZeroRun d f m ≡ ZeroRun e g n
run_run bytes d f m e g n a b =
    let epochs : d ≡ e = sym (run_epoch bytes d f m a.head a.epoch_fits) ∙ run_epoch bytes e g n b.head b.epoch_fits in
    let firsts : f ≡ g = sym (run_first bytes d f m a.head (omega (arith, a.in_space))) ∙ run_first bytes e g n b.head (omega (arith, b.in_space)) in
    let counts : m ≡ n = sym (run_count bytes d f m a.head (omega (arith, a.few))) ∙ run_count bytes e g n b.head (omega (arith, b.few)) in
    λ i. ZeroRun (epochs i) (firsts i) (counts i)

-- One thing

pub one_saying : (bytes : List ℕ) (one other : Handed) → Says bytes one → Says bytes other → one ≡ other
one_saying bytes (AFrame a) (AFrame b) (inl says) (inl also) = ap (λ (sent : Sent). AFrame sent) (text_text says.0 also.0 bytes a b says.1 also.1)
one_saying bytes (AFrame a) (AFrame b) (inl says) (inr also) = absurd (text_page says.0 bytes a b.epoch also.0 says.1 also.1)
one_saying bytes (AFrame a) (AFrame b) (inr says) (inl also) = absurd (text_page also.0 bytes b a.epoch says.0 also.1 says.1)
one_saying bytes (AFrame a) (AFrame b) (inr says) (inr also) = ap (λ (sent : Sent). AFrame sent) (page_page bytes a b says.0 also.0 says.1 says.2 also.1 also.2)
one_saying bytes (AFrame a) (ZeroRun e f n) (inl says) also = absurd (text_run says.0 bytes a e f n says.1 also)
one_saying bytes (AFrame a) (ZeroRun e f n) (inr says) also = absurd (page_run bytes a.epoch says.0 e f n says.1 also)
one_saying bytes (ZeroRun e f n) (AFrame b) says (inl also) = absurd (text_run also.0 bytes b e f n also.1 says)
one_saying bytes (ZeroRun e f n) (AFrame b) says (inr also) = absurd (page_run bytes b.epoch also.0 e f n also.1 says)
one_saying bytes (ZeroRun d f m) (ZeroRun e g n) says also = run_run bytes d f m e g n says also
