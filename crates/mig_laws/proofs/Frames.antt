-- Frames, copies and wires once all contents are changed.
use Rattle.std.proofs.Common.{◌≡◌, ℕ, ◌+◌, ◌*◌, ◌&&◌, Bool, true, false, cond, eqb, List, [], ◌∷◌, ◌++◌, map, length, refl, sym, ap, ◌∙◌}
use Rattle.std.specs.Ordering.{nat_cmp}
use Rattle.std.specs.FinMap.{FinMap, insert}
use Rattle.std.proofs.lemmas.Bool.{and_parts, eqb-true}
use Rattle.std.proofs.lemmas.List.{map-append, length-map}
use Rattle.mig_base.specs.Bytes.{zero_page}
use Rattle.mig_base.specs.declared.effect.Effect.{Effect}
use Rattle.mig_model.specs.Effects.{frame_effect, page_effect}
use Rattle.mig_model.specs.Wire.{Copy, Frame, Sent, Wire, is_zeros, kept_with, page_frame, run_copies, sending, wire_if, wire_with}
use Rattle.mig_model.specs.Wire.Frame.{Advise, Page, Zero, Run, Discard, Package, End, Resume, Request, Recv, Done}
use Rattle.mig_model.proofs.memory.Facts.{zero_bytes}
use Rattle.mig_laws.specs.Contents.{pages_under}
use Rattle.mig_laws.specs.Worlds.{bytes_in, copy_under, effect_under, frame_under, sent_under, wire_under}
use Rattle.mig_laws.proofs.PageMaps.{map_values-insert}

-- Pages of zeros

first_zero : (f : ℕ → ℕ) (byte : ℕ) (rest new : Bool) → f 0 ≡ 0 → (rest ≡ true → new ≡ true) → (eqb byte 0 && rest) ≡ true → (eqb (f byte) 0 && new) ≡ true
first_zero f byte rest new h more is =
    let both = and_parts (eqb byte 0) rest is in
    let none : f byte ≡ 0 = ap f (eqb-true byte 0 both.0) ∙ h in
    ap (λ n. eqb n 0 && new) none ∙ more both.1

-- a page of zeros stays one
pub zeros_stay : (f : ℕ → ℕ) → f 0 ≡ 0 → (bytes : List ℕ) → is_zeros bytes ≡ true → is_zeros (map f bytes) ≡ true
zeros_stay f h [] is = refl
zeros_stay f h (byte ∷ bytes) is = first_zero f byte (is_zeros bytes) (is_zeros (map f bytes)) h (zeros_stay f h bytes) is

word_under : (f : ℕ → ℕ) (page : ℕ) (held : ℕ → List ℕ) (bytes : List ℕ) (zeros new : Bool) → is_zeros (map f bytes) ≡ new → held (4096 * page) ≡ bytes → (zeros ≡ true → new ≡ true) →
    cond new (Effect.SentZero (4096 * page)) (Effect.SentPage (4096 * page)) ≡ effect_under f held (cond zeros (Effect.SentZero (4096 * page)) (Effect.SentPage (4096 * page)))
word_under f page held bytes true new is same stays = ap (λ b. cond b (Effect.SentZero (4096 * page)) (Effect.SentPage (4096 * page))) (stays refl)
word_under f page held bytes false new is same stays =
    ap (λ b. cond b (Effect.SentZero (4096 * page)) (Effect.SentPage (4096 * page))) (sym is ∙ ap (λ (l : List ℕ). is_zeros (map f l)) (sym same))

-- the word page or zero of a page that is sent
pub page_effect-under : (f : ℕ → ℕ) → f 0 ≡ 0 → (page : ℕ) (held : ℕ → List ℕ) (bytes : List ℕ) → held (4096 * page) ≡ bytes → page_effect page (map f bytes) ≡ effect_under f held (page_effect page bytes)
page_effect-under f h page held bytes same = word_under f page held bytes (is_zeros bytes) (is_zeros (map f bytes)) refl same (zeros_stay f h bytes)

frame_either : (f : ℕ → ℕ) (page : ℕ) (bytes : List ℕ) (zeros : Bool) → (zeros ≡ true → is_zeros (map f bytes) ≡ true) → page_frame page (map f bytes) ≡ frame_under f (cond zeros (Zero page) (Page page bytes))
frame_either f page bytes true stays = ap (λ b. cond b (Zero page) (Page page (map f bytes))) (stays refl)
frame_either f page bytes false stays = refl

-- its frame
pub page_frame-under : (f : ℕ → ℕ) → f 0 ≡ 0 → (page : ℕ) (bytes : List ℕ) → page_frame page (map f bytes) ≡ frame_under f (page_frame page bytes)
page_frame-under f h page bytes = frame_either f page bytes (is_zeros bytes) (zeros_stay f h bytes)

took_either : (f : ℕ → ℕ) (page : ℕ) (new : List ℕ) (zeros : Bool) → frame_effect (cond zeros (Zero page) (Page page new)) ≡ cond zeros (Effect.TookZero (4096 * page)) (Effect.TookPage (4096 * page))
took_either f page new true = refl
took_either f page new false = refl

-- the effect of taking a frame
pub frame_effect-under : (f : ℕ → ℕ) (frame : Frame) → frame_effect (frame_under f frame) ≡ effect_under f (λ addr. bytes_in frame) (frame_effect frame)
frame_effect-under f Advise = refl
frame_effect-under f (Page page bytes) = took_either f page (map f bytes) (is_zeros (map f bytes))
frame_effect-under f (Zero page) = refl
frame_effect-under f (Run first pages) = ap (λ n. Effect.TookRun (4096 * first) n) (length-map pages (map f))
frame_effect-under f (Discard pages) = refl
frame_effect-under f (Package areas owed commands) = refl
frame_effect-under f (End urgent) = refl
frame_effect-under f Resume = refl
frame_effect-under f (Request page) = refl
frame_effect-under f (Recv state owed) = refl
frame_effect-under f Done = refl

-- the copy that a changed Page carries is the changed copy, whether it becomes a Zero or not
pub copy_of_page : (f : ℕ → ℕ) (bytes : List ℕ) → length bytes ≡ 4096 → is_zeros (map f bytes) ≡ true → zero_page ≡ map f bytes
copy_of_page f bytes whole zeros = sym (zero_bytes (map f bytes) (length-map bytes f ∙ whole) zeros)

-- Copies that are kept

pub run_copies-under : (f : ℕ → ℕ) (first : ℕ) (pages : List (List ℕ)) → run_copies first (map (map f) pages) ≡ map (copy_under f) (run_copies first pages)
run_copies-under f first [] = refl
run_copies-under f first (bytes ∷ pages) = ap (λ (l : List Copy). record { page = first; bytes = map f bytes } ∷ l) (run_copies-under f (1 + first) pages)

pub kept_with-under : (f : ℕ → ℕ) (kept : FinMap nat_cmp (List ℕ)) (copies : List Copy) → kept_with (pages_under f kept) (map (copy_under f) copies) ≡ pages_under f (kept_with kept copies)
kept_with-under f kept [] = refl
kept_with-under f kept (copy ∷ copies) =
    ap (λ (k : FinMap nat_cmp (List ℕ)). kept_with k (map (copy_under f) copies)) (sym (map_values-insert (map f) kept copy.page copy.bytes)) ∙ kept_with-under f (insert kept copy.page copy.bytes) copies

-- Wires

pub sending-under : (f : ℕ → ℕ) (wire : List Sent) (epoch : ℕ) (frames : List Frame) → sending (map (sent_under f) wire) epoch (map (frame_under f) frames) ≡ map (sent_under f) (sending wire epoch frames)
sending-under f wire epoch [] = refl
sending-under f wire epoch (frame ∷ frames) =
    let last : Sent = record { epoch = epoch; frame = frame } in
    ap (λ (l : List Sent). sending l epoch (map (frame_under f) frames)) (sym (map-append (sent_under f) wire (last ∷ []))) ∙ sending-under f (wire ++ last ∷ []) epoch frames

pub wire_with-under : (f : ℕ → ℕ) (wire : Wire) (epoch : ℕ) (frames new : List Frame) → new ≡ map (frame_under f) frames → wire_with (wire_under f wire) epoch new ≡ wire_under f (wire_with wire epoch frames)
wire_with-under f wire epoch frames new h =
    ap (λ (l : List Frame). wire_with (wire_under f wire) epoch l) h ∙ ap (λ (l : List Sent). record wire { frames = l }) (sending-under f wire.frames epoch frames)

pub wire_if-under : (f : ℕ → ℕ) (up : Bool) (wire : Wire) (epoch : ℕ) (frames new : List Frame) → new ≡ map (frame_under f) frames → wire_if up (wire_under f wire) epoch new ≡ wire_under f (wire_if up wire epoch frames)
wire_if-under f true wire epoch frames new h = wire_with-under f wire epoch frames new h
wire_if-under f false wire epoch frames new h = refl
