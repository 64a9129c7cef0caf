-- Frames one after the other.
use Rattle.std.proofs.Common.{◌≡◌, ℕ, ◌+◌, ◌-◌, List, [], ◌∷◌, ◌++◌, length, take, drop, Some, None, Option, refl, sym, ap, subst, ◌∙◌, append_assoc, arith}
use Rattle.std.specs.List.{AllByRecursion}
use Rattle.std.proofs.lemmas.List.{append-nil, drop_at, length-append, map-append, take-append-drop, take_at}
use Rattle.std.proofs.lemmas.List.Concat.{flat_map-cons, flat_map-append}
use Rattle.mig_model.specs.Wire.{Sent}
use Rattle.mig_model.specs.Wire.{Frame as MachineFrame}
use Rattle.page_stream.specs.Texts.{text}
use Rattle.page_stream.specs.declared.frame.Frame.{Frame}
use Rattle.page_stream.specs.Frames.{frame_of}
use Rattle.frame_decoder.specs.declared.fault.StreamFault.{StreamFault}
use Rattle.frame_decoder.specs.declared.version.Version.{Version}
use Rattle.frame_decoder.specs.declared.version.Version.TheVariants as versions
use Rattle.frame_decoder.specs.Versions.{version_of}
use Rattle.frame_decoder.specs.Streams.{IsSent, texts, May, Fixes, Spells, Splits, decoded_sent, sents}
use Rattle.frame_decoder.specs.Taking.{FrontIs, StopsAt, IsTaken, left_of}

-- Frames of one version

pub spells_none : (fixed : Option Version) → Spells fixed [] [] fixed
spells_none fixed = record { version = versions.One; whole = refl; each = tt; fixes = refl }

pub spells_one : (fixed : Option Version) (v : Version) (p : Sent) → May fixed v → IsSent v p → Spells fixed (text (version_of v) p.epoch p.frame) (p ∷ []) (Some v)
spells_one fixed v p may fits =
    let one : texts v (p ∷ []) ≡ text (version_of v) p.epoch p.frame = flat_map-cons (λ (p : Sent). text (version_of v) p.epoch p.frame) p [] ∙ append-nil (text (version_of v) p.epoch p.frame) in
    record { version = v; whole = sym one; each = (fits, tt); fixes = (may, refl) }

pub each_join : (v : Version) (xs ys : List Sent) → AllByRecursion (IsSent v) xs → AllByRecursion (IsSent v) ys → AllByRecursion (IsSent v) (xs ++ ys)
each_join v [] ys hx hy = hy
each_join v (x ∷ xs) ys hx hy = (hx.0, each_join v xs ys hx.1 hy)

pub texts_join : (v : Version) (xs ys : List Sent) → texts v (xs ++ ys) ≡ texts v xs ++ texts v ys
texts_join v xs ys = flat_map-append (λ (p : Sent). text (version_of v) p.epoch p.frame) xs ys

join_texts : (v : Version) (x y : List ℕ) (fs gs : List Sent) → x ≡ texts v fs → y ≡ texts v gs → x ++ y ≡ texts v (fs ++ gs)
join_texts v x y fs gs p q = ap (λ (t : List ℕ). t ++ y) p ∙ ap (λ (t : List ℕ). texts v fs ++ t) q ∙ sym (texts_join v fs gs)

pub spells_join : (a b c : Option Version) (x y : List ℕ) (fs gs : List Sent) → Spells a x fs b → Spells b y gs c → Spells a (x ++ y) (fs ++ gs) c
spells_join a b c x y [] gs p q = record {
  version = q.version;
  whole = ap (λ (t : List ℕ). t ++ y) p.whole ∙ q.whole;
  each = q.each;
  fixes = subst (λ (o : Option Version). Fixes o q.version gs c) p.fixes q.fixes;
}
spells_join a b c x y (f ∷ fs) [] p q = record {
  version = p.version;
  whole = join_texts p.version x y (f ∷ fs) [] p.whole q.whole;
  each = each_join p.version (f ∷ fs) [] p.each tt;
  fixes = (p.fixes.0, q.fixes ∙ p.fixes.1);
}
spells_join a b c x y (f ∷ fs) (g ∷ gs) p q =
    let same : p.version ≡ q.version = subst (λ (o : Option Version). May o q.version) p.fixes.1 q.fixes.0 in
    let text : y ≡ texts p.version (g ∷ gs) = subst (λ (v : Version). y ≡ texts v (g ∷ gs)) (sym same) q.whole in
    let each : AllByRecursion (IsSent p.version) (g ∷ gs) = subst (λ (v : Version). AllByRecursion (IsSent v) (g ∷ gs)) (sym same) q.each in
    record {
      version = p.version;
      whole = join_texts p.version x y (f ∷ fs) (g ∷ gs) p.whole text;
      each = each_join p.version (f ∷ fs) (g ∷ gs) p.each each;
      fixes = (p.fixes.0, q.fixes.1 ∙ ap (λ (v : Version). Some v) (sym same));
    }

-- One after the other

-- so far these frames were read, and the rest is left
pub record IsReading (fixed : Option Version) (bytes : List ℕ) (frames : List Sent) (rest : List ℕ) (now : Option Version) : Type 0 where
  pub read : List ℕ
  pub whole : bytes ≡ read ++ rest
  pub spells : Spells fixed read frames now

pub reading_begins : (fixed : Option Version) (bytes : List ℕ) → IsReading fixed bytes [] bytes fixed
reading_begins fixed bytes = record { read = []; whole = refl; spells = spells_none fixed }

reading_one : (fixed : Option Version) (bytes : List ℕ) (frames : List Sent) (rest : List ℕ) (now : Option Version) (v : Version) (epoch : ℕ) (f : MachineFrame) (len : ℕ) → FrontIs now rest v epoch f len → IsReading fixed bytes frames rest now
    → IsReading fixed bytes (frames ++ record { epoch = epoch; frame = f } ∷ []) (drop len rest) (Some v)
reading_one fixed bytes frames rest now v epoch f len front t =
    let one = text (version_of v) epoch f in
    record {
      read = t.read ++ one;
      whole = t.whole ∙ ap (λ (r : List ℕ). t.read ++ r) front.whole ∙ sym (append_assoc t.read one (drop len rest));
      spells = spells_join fixed now (Some v) t.read one frames (record { epoch = epoch; frame = f } ∷ []) t.spells (spells_one now v (record { epoch = epoch; frame = f }) front.may front.fits);
    }

pub reading_more : (fixed : Option Version) (bytes : List ℕ) (frames : List (ℕ × Frame)) (rest : List ℕ) (now : Option Version) (v : Version) (epoch : ℕ) (f : Frame) (len : ℕ) → FrontIs now rest v epoch (frame_of f) len → IsReading fixed bytes (sents frames) rest now
    → IsReading fixed bytes (sents (frames ++ (epoch, f) ∷ [])) (drop len rest) (Some v)
reading_more fixed bytes frames rest now v epoch f len front t =
    subst (λ (fs : List Sent). IsReading fixed bytes fs (drop len rest) (Some v)) (sym (map-append decoded_sent frames ((epoch, f) ∷ []))) (reading_one fixed bytes (sents frames) rest now v epoch (frame_of f) len front t)

pub reading_ends : (fixed : Option Version) (bytes : List ℕ) (frames : List Sent) (rest : List ℕ) (now : Option Version) (fault : Option StreamFault) → StopsAt now rest fault → IsReading fixed bytes frames rest now → IsTaken fixed bytes frames (length bytes - length rest) fault now
reading_ends fixed bytes frames rest now fault stops t =
    let all : length bytes ≡ length t.read + length rest = ap length t.whole ∙ length-append t.read rest in
    let count : length t.read ≡ length bytes - length rest = omega (arith, all) in
    let front : take (length bytes - length rest) bytes ≡ t.read = ap (take (length bytes - length rest)) t.whole ∙ take_at t.read rest (length bytes - length rest) count in
    let back : drop (length bytes - length rest) bytes ≡ rest = ap (drop (length bytes - length rest)) t.whole ∙ drop_at t.read rest (length bytes - length rest) count in
    record {
      inside = omega arith;
      spells = subst (λ (r : List ℕ). Spells fixed r frames now) (sym front) t.spells;
      stops = subst (λ (r : List ℕ). StopsAt now r fault) (sym back) stops;
    }

-- What is held
pub holds_left : (fixed : Option Version) (bytes : List ℕ) (frames : List Sent) (read : ℕ) (fault : Option StreamFault) (now : Option Version) (held : List ℕ) → IsTaken fixed bytes frames read fault now → held ≡ left_of read fault bytes → Splits fixed bytes frames held fault now
holds_left fixed bytes frames read None now held t is = record { read = take read bytes; unread = drop read bytes; whole = sym (take-append-drop read bytes); spells = t.spells; ends = (t.stops, is) }
holds_left fixed bytes frames read (Some fault) now held t is = record { read = take read bytes; unread = drop read bytes; whole = sym (take-append-drop read bytes); spells = t.spells; ends = (t.stops, is) }
