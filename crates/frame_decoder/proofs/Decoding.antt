-- Texts of frames are decoded.
use Rattle.std.proofs.Common.{◌≡◌, ℕ, ◌≤◌, Bool, true, false, ltb, List, [], ◌∷◌, ◌++◌, length, Option, Some, None, Ok, Err, refl, sym, ap, subst, ◌∙◌, arith, inl, inr}
use Rattle.std.specs.List.{AllByRecursion}
use Rattle.std.proofs.lemmas.Bool.{ltb-false, ltb-true}
use Rattle.std.proofs.lemmas.List.{append-nil, length-append, nil_from_length}
use Rattle.foundation.proofs.TestLemmas.{some_is_none}
use Rattle.mig_model.specs.Wire.{Sent}
use Rattle.page_stream.specs.Texts.{body_text, text}
use Rattle.frame_decoder.specs.declared.fault.StreamFault.{StreamFault}
use Rattle.frame_decoder.specs.declared.fault.StreamFault.TheVariants as faults
use Rattle.frame_decoder.specs.declared.version.Version.{Version}
use Rattle.frame_decoder.specs.Versions.{version_of, tag_of}
use Rattle.frame_decoder.specs.Streams.{Fixes, Held, IsPart, IsSent, May, Splits, texts}
use Rattle.frame_decoder.specs.Feeding.{FeedAnswer, Decodes, Fed, FedFault, Feed, IsFaultless, IsFeedRun, all_frames, fresh}
use Rattle.frame_decoder.proofs.Cuts.{any_cut, stays}
use Rattle.frame_decoder.proofs.Feeds.{header_front}
use Rattle.frame_decoder.proofs.Fillings.{length-text_of}
use Rattle.frame_decoder.proofs.Fronts.{HeadIs, head_again}
use Rattle.frame_decoder.proofs.Unique.{one_split}

-- Where no fault is held, none was answered

no_more : (fault : StreamFault) (middle : Held) (feeds : List Feed) (new : Held) → middle.fault ≡ Some fault → IsFeedRun middle feeds new → new.fault ≡ None → ⊥
no_more fault middle feeds new is run none = some_is_none fault new.fault (ap (λ (h : Held). h.fault) (stays fault middle feeds new is run).same ∙ is) none

is_held : (old : Held) (piece : List ℕ) (fault : StreamFault) (middle : Held) → FedFault old piece fault middle → middle.fault ≡ Some fault
is_held old piece fault middle (inl kept) = ap (λ (h : Held). h.fault) kept.1 ∙ kept.0
is_held old piece fault middle (inr first) = first.1

one_faultless : (old : Held) (piece : List ℕ) (answer : FeedAnswer) (middle : Held) (feeds : List Feed) (new : Held) → Fed old piece answer middle → IsFeedRun middle feeds new → new.fault ≡ None → (fault : StreamFault) → answer ≡ Err fault → fault ≡ faults.NoMemory
one_faultless old piece (Ok frames) middle feeds new fed run none fault is = absurd cc
one_faultless old piece (Err faults.NoMemory) middle feeds new fed run none fault is = cc
one_faultless old piece (Err faults.BadTag) middle feeds new fed run none fault is = absurd (no_more faults.BadTag middle feeds new (is_held old piece faults.BadTag middle fed) run none)
one_faultless old piece (Err faults.BadLength) middle feeds new fed run none fault is = absurd (no_more faults.BadLength middle feeds new (is_held old piece faults.BadLength middle fed) run none)
one_faultless old piece (Err faults.BadField) middle feeds new fed run none fault is = absurd (no_more faults.BadField middle feeds new (is_held old piece faults.BadField middle fed) run none)

all_faultless : (old : Held) (feeds : List Feed) (new : Held) → IsFeedRun old feeds new → new.fault ≡ None → AllByRecursion IsFaultless feeds
all_faultless old [] new run none = tt
all_faultless old (feed ∷ feeds) new run none = (one_faultless old feed.piece feed.answer run.0 feeds new run.1 run.2 none, all_faultless run.0 feeds new run.2 none)

-- The reading of texts and of less than a text after them

fixed_by : Version → List Sent → Option Version
fixed_by version [] = None
fixed_by version (sent ∷ frames) = Some version

fixes : (version : Version) (frames : List Sent) → Fixes None version frames (fixed_by version frames)
unfolding fixed_by
fixes version [] = refl
fixes version (sent ∷ frames) = (tt, refl)

may_follow : (version : Version) (frames : List Sent) → May (fixed_by version frames) version
unfolding fixed_by
may_follow version [] = tt
may_follow version (sent ∷ frames) = refl

decodes : (version : Version) (frames : List Sent) (part : List ℕ) → AllByRecursion (IsSent version) frames → IsPart (fixed_by version frames) part → Decodes (texts version frames ++ part) frames part
decodes version frames part each is feeds new run cut =
    let stream = texts version frames ++ part in
    let split : Splits None stream frames part None (fixed_by version frames) =
    record { read = texts version frames; unread = part; whole = refl; spells = record { version = version; whole = refl; each = each; fixes = fixes version frames }; ends = (is, refl) } in
    let answered : Splits None stream (all_frames feeds) new.bytes new.fault new.version = subst (λ (s : List ℕ). Splits None s (all_frames feeds) new.bytes new.fault new.version) cut (any_cut feeds new run) in
    let same = one_split None stream (all_frames feeds) frames new.bytes part new.fault None new.version (fixed_by version frames) answered split in
    record { answered = same.frames; faultless = all_faultless fresh feeds new run same.fault; held = same.held; fault = same.fault }

pub texts_decoded : (version : Version) (frames : List Sent) → AllByRecursion (IsSent version) frames → Decodes (texts version frames) frames []
texts_decoded version frames each feeds new run cut = decodes version frames [] each (inl (record { short = omega arith })) feeds new run (cut ∙ sym (append-nil (texts version frames)))

-- Less than a text

header_of_part : (fixed : Option Version) (version : Version) (sent : Sent) (part rest : List ℕ) → May fixed version → IsSent version sent → text (version_of version) sent.epoch sent.frame ≡ part ++ rest → (rest ≡ [] → ⊥) → (b : Bool) → ltb (length part) 12 ≡ b → IsPart fixed part
header_of_part fixed version sent part rest may is cut some true less = inl (record { short = ltb-true _ _ less })
header_of_part fixed version sent part rest may is cut some false less =
    let long : 12 ≤ length part = ltb-false _ _ less in
    let head : HeadIs fixed (part ++ rest) version sent.epoch sent.frame =
    subst (λ (bytes : List ℕ). HeadIs fixed bytes version sent.epoch sent.frame) (append-nil (text (version_of version) sent.epoch sent.frame) ∙ cut) (head_again fixed version sent.epoch sent.frame [] may is) in
    let all = sym (ap length cut) ∙ length-text_of (version_of version) sent.epoch sent.frame is.frame.has in
    let left : length rest ≡ 0 → ⊥ = λ none. some (nil_from_length rest none) in
    inr (record {
      header = record { version = version; tag = tag_of sent.frame; epoch = sent.epoch; len = length (body_text sent.frame) };
      long = long;
      reads = sym (header_front fixed part rest long) ∙ head.reads;
      short = omega (arith, all, length-append part rest, left);
    })

pub part_decoded : (version : Version) (frames : List Sent) (sent : Sent) (part rest : List ℕ) → AllByRecursion (IsSent version) frames → IsSent version sent → text (version_of version) sent.epoch sent.frame ≡ part ++ rest → (rest ≡ [] → ⊥) →
    Decodes (texts version frames ++ part) frames part
part_decoded version frames sent part rest each is cut some =
    decodes version frames part each (header_of_part (fixed_by version frames) version sent part rest (may_follow version frames) is cut some (ltb (length part) 12) refl)
