-- One frame at the front of a stream.
use Rattle.std.proofs.Common.{◌≡◌, ℕ, suc, ◌+◌, ◌-◌, ◌*◌, ◌%◌, ◌^◌, ◌<◌, ◌≤◌, Bool, true, false, ◌&&◌, ◌==◌, cond, ltb, leb, List, [], ◌∷◌, ◌++◌, length, take, drop, Option, Some, None, Result, Ok, Err, refl, sym, ap, subst, ◌∙◌, append_assoc, arith, ◌⊎◌, inl, inr}
use Rattle.std.specs.Int.{w32, to_be_bytes, from_be_bytes}
use Rattle.std.proofs.lemmas.Bool.{eqb-true, ltb-true, ltb-false, le-ltb, leb-true}
use Rattle.std.proofs.lemmas.List.{length-append, length-take, length-drop, drop-drop, take-append-drop, take_at}
use Rattle.std.proofs.lemmas.Option.{same_Some}
use Rattle.std.proofs.lemmas.Nat.{from_be_bytes-to_be_bytes_4}
use Rattle.foundation.specs.declared.TheConstants.{PAGE_SIZE}
use Rattle.mig_base.specs.declared.TheConstants.{LOW_PAGE, HIGH_PAGE, MAX_PAGES, MAX_CPUS, MAX_RUN}
use Rattle.foundation.proofs.TestLemmas.{and_first, and_second}
use Rattle.mig_model.specs.Wire.{Frame}
use Rattle.page_stream.specs.Texts.{version_code, tag_code, body_text, header_text, text}
use Rattle.page_stream.proofs.OneText.{text-is}
use Rattle.frame_decoder.specs.declared.tag.Tag.{Tag}
use Rattle.frame_decoder.specs.declared.tag.Tag.TheVariants as tag
use Rattle.frame_decoder.specs.declared.fault.StreamFault.{StreamFault}
use Rattle.frame_decoder.specs.declared.fault.StreamFault.TheVariants as faults
use Rattle.frame_decoder.specs.declared.version.Version.{Version}
use Rattle.frame_decoder.specs.declared.version.Version.TheVariants as versions
use Rattle.frame_decoder.specs.Versions.{version_of, version_from, max_pages, has_runs, code_of, tag_among, tags_of, tag_from, allows, tag_of, IsFrameIn}
use Rattle.frame_decoder.specs.Headers.{Header, header_with, header_from, header_at}
use Rattle.frame_decoder.specs.Reading.{Front, body_at, body_next, header_next, next_at}
use Rattle.frame_decoder.specs.Streams.{May, IsSent}
use Rattle.frame_decoder.specs.Taking.{FrontIs, Stands}
use Rattle.frame_decoder.proofs.FieldLemmas.{IsBytes, IsBytes-take, IsBytes-drop, ok_is, Takes, Takes-then, reads_32}
use Rattle.frame_decoder.proofs.Bodies.{body_takes, body_again, max_few, run_has}
use Rattle.frame_decoder.proofs.BodyLengths.{body_allowed}

-- tags

chosen : {A : Type 0} (b : Bool) (x y z : A) → cond b x y ≡ z → ((b ≡ true) × (x ≡ z)) ⊎ ((b ≡ false) × (y ≡ z))
chosen true x y z e = inl (refl, e)
chosen false x y z e = inr (refl, e)

tag_found : (code : ℕ) (ts : List Tag) (t : Tag) → tag_among code ts ≡ Some t → code ≡ code_of t
tag_found code [] t e = absurd cc
tag_found code (u ∷ ts) t e =
    elim (chosen (code == code_of u) (Some u) (tag_among code ts) (Some t) e) [
      | inl h ↦ eqb-true code (code_of u) h.0 ∙ ap code_of (same_Some u t h.1)
      | inr h ↦ tag_found code ts t h.1
    ]

tag_of_run : (v : Version) → has_runs v ≡ true → tag_from v 0x08 ≡ Some tag.Run
tag_of_run v h = rw h refl

tag_again : (v : Version) (f : Frame) → IsFrameIn v f → tag_from v (code_of (tag_of f)) ≡ Some (tag_of f)
tag_again v Frame.Advise h = refl
tag_again v (Frame.Page page bytes) h = refl
tag_again v (Frame.Zero page) h = refl
tag_again v (Frame.Discard pages) h = refl
tag_again v (Frame.Package areas owed commands) h = refl
tag_again v (Frame.End urgent) h = refl
tag_again v Frame.Resume h = refl
tag_again v (Frame.Run first pages) h = tag_of_run v (run_has v first pages h.has)
tag_again v (Frame.Request page) h = refl
tag_again v (Frame.Recv state owed) h = refl
tag_again v Frame.Done h = refl

-- the byte of a frame's tag
code_of-tag_of : (f : Frame) → code_of (tag_of f) ≡ tag_code f
code_of-tag_of Frame.Advise = refl
code_of-tag_of (Frame.Page page bytes) = refl
code_of-tag_of (Frame.Zero page) = refl
code_of-tag_of (Frame.Discard pages) = refl
code_of-tag_of (Frame.Package areas owed commands) = refl
code_of-tag_of (Frame.End urgent) = refl
code_of-tag_of Frame.Resume = refl
code_of-tag_of (Frame.Run first pages) = refl
code_of-tag_of (Frame.Request page) = refl
code_of-tag_of (Frame.Recv state owed) = refl
code_of-tag_of Frame.Done = refl

-- versions

pub record VersionIs (fixed : Option Version) (code : ℕ) (v : Version) : Type 0 where
  pub code_is : code ≡ version_code (version_of v)
  pub may : May fixed v

version_found : (fixed : Option Version) (code : ℕ) (v : Version) → version_from fixed code ≡ Some v → VersionIs fixed code v
version_found None code v e =
    elim (chosen (code == 1) (Some versions.One) (cond (code == 2) (Some versions.Two) None) (Some v) e) [
      | inl h ↦ record { code_is = eqb-true code 1 h.0 ∙ ap (λ (v : Version). version_code (version_of v)) (same_Some versions.One v h.1); may = tt }
      | inr h ↦ elim (chosen (code == 2) (Some versions.Two) None (Some v) h.1) [
        | inl k ↦ record { code_is = eqb-true code 2 k.0 ∙ ap (λ (v : Version). version_code (version_of v)) (same_Some versions.Two v k.1); may = tt }
        | inr k ↦ absurd (let no = k.1 in cc)
      ]
    ]
version_found (Some w) code v e =
    elim (chosen (code == version_code (version_of w)) (Some w) None (Some v) e) [
      | inl h ↦ record { code_is = eqb-true code (version_code (version_of w)) h.0 ∙ ap (λ (v : Version). version_code (version_of v)) (same_Some w v h.1); may = same_Some w v h.1 }
      | inr h ↦ absurd (let no = h.1 in cc)
    ]

version_same : (v : Version) → version_from (Some v) (version_code (version_of v)) ≡ Some v
version_same versions.One = refl
version_same versions.Two = refl

pub version_again : (fixed : Option Version) (v : Version) → May fixed v → version_from fixed (version_code (version_of v)) ≡ Some v
version_again None versions.One may = refl
version_again None versions.Two may = refl
version_again (Some w) v may = subst (λ (w : Version). version_from (Some w) (version_code (version_of v)) ≡ Some v) (sym may) (version_same v)

drop_twice : (n m : ℕ) (xs : List ℕ) → drop m (drop n xs) ≡ drop (n + m) xs
drop_twice n m xs = drop-drop m n xs

five : (a b c d : ℕ) (rest : List ℕ) (a' b' c' d' : ℕ) (rest' : List ℕ) → a ≡ a' → b ≡ b' → c ≡ c' → d ≡ d' → rest ≡ rest' → a ∷ b ∷ c ∷ d ∷ rest ≡ a' ∷ b' ∷ c' ∷ d' ∷ rest'
five a b c d rest a' b' c' d' rest' p q r s t = cc

-- headers

pub record HeaderIs (fixed : Option Version) (bytes : List ℕ) (h : Header) : Type 0 where
  pub text : bytes ≡ header_text (version_of h.version) (code_of h.tag) h.epoch h.len ++ drop 12 bytes
  pub may : May fixed h.version
  pub epoch : h.epoch < 2 ^ 32
  pub allowed : allows h.version h.tag h.len ≡ true

pub record WithParts (v : Version) (o : Option Tag) (epoch len : ℕ) (zeros : Bool) (h : Header) : Type 0 where
  pub version_is : v ≡ h.version
  pub tag : o ≡ Some h.tag
  pub allowed : allows h.version h.tag h.len ≡ true
  pub epoch_is : epoch ≡ h.epoch
  pub len_is : len ≡ h.len
  pub zero_is : zeros ≡ true

with_parts : (v : Version) (o : Option Tag) (epoch len : ℕ) (zeros : Bool) (h : Header) → header_with v o epoch len zeros ≡ Ok h → WithParts v o epoch len zeros h
with_parts v None epoch len zeros h e = absurd cc
with_parts v (Some t) epoch len zeros h e =
    elim (chosen (allows v t len) (cond zeros (Ok (record { version = v; tag = t; epoch = epoch; len = len })) (Err faults.BadField)) (Err faults.BadLength) (Ok h) e) [
      | inr g ↦ absurd (let no = g.1 in cc)
      | inl g ↦ elim (chosen zeros (Ok (record { version = v; tag = t; epoch = epoch; len = len })) (Err faults.BadField) (Ok h) g.1) [
        | inr k ↦ absurd (let no = k.1 in cc)
        | inl k ↦ let same : record { version = v; tag = t; epoch = epoch; len = len } ≡ h = ok_is (record { version = v; tag = t; epoch = epoch; len = len }) h k.1 in
            subst (λ (h : Header). WithParts v (Some t) epoch len zeros h) same (record { version_is = refl; tag = refl; allowed = g.0; epoch_is = refl; len_is = refl; zero_is = k.0 })
      ]
    ]

pub record FromParts (o : Option Version) (code epoch len : ℕ) (zeros : Bool) (h : Header) : Type 0 where
  pub version : o ≡ Some h.version
  pub tag : tag_from h.version code ≡ Some h.tag
  pub allowed : allows h.version h.tag h.len ≡ true
  pub epoch_is : epoch ≡ h.epoch
  pub len_is : len ≡ h.len
  pub zero_is : zeros ≡ true

pub from_parts : (o : Option Version) (code epoch len : ℕ) (zeros : Bool) (h : Header) → header_from o code epoch len zeros ≡ Ok h → FromParts o code epoch len zeros h
from_parts None code epoch len zeros h e = absurd cc
from_parts (Some v) code epoch len zeros h e =
    let w = with_parts v (tag_from v code) epoch len zeros h e in
    record {
      version = ap (λ (v : Version). Some v) w.version_is;
      tag = subst (λ (v : Version). tag_from v code ≡ Some h.tag) w.version_is w.tag;
      allowed = w.allowed;
      epoch_is = w.epoch_is;
      len_is = w.len_is;
      zero_is = w.zero_is;
    }

number_there : (bytes : List ℕ) → IsBytes bytes → 4 ≤ length bytes → Takes bytes (to_be_bytes w32 (from_be_bytes w32 (take 4 bytes))) (drop 4 bytes) × (from_be_bytes w32 (take 4 bytes) < 2 ^ 32)
number_there bytes fits long =
    let t : ltb (length bytes) 4 ≡ false = le-ltb _ _ long in
    reads_32.takes bytes (from_be_bytes w32 (take 4 bytes), drop 4 bytes) fits (rw t refl)

pub header_takes : (fixed : Option Version) (bytes : List ℕ) (h : Header) → IsBytes bytes → 12 ≤ length bytes → header_at fixed bytes ≡ Ok h → HeaderIs fixed bytes h
unfolding header_at
header_takes fixed [] h fits long e = absurd (omega arith)
header_takes fixed (a ∷ []) h fits long e = absurd (omega arith)
header_takes fixed (a ∷ b ∷ []) h fits long e = absurd (omega arith)
header_takes fixed (a ∷ b ∷ c ∷ []) h fits long e = absurd (omega arith)
header_takes fixed (a ∷ b ∷ c ∷ d ∷ rest) h fits long e =
    let p = from_parts (version_from fixed a) b (from_be_bytes w32 (take 4 rest)) (from_be_bytes w32 (take 4 (drop 4 rest))) (c == 0 && d == 0) h e in
    let f = version_found fixed a h.version p.version in
    let b-is : b ≡ code_of h.tag = tag_found b (tags_of h.version) h.tag p.tag in
    let c-is : c ≡ 0 = eqb-true c 0 (and_first (c == 0) (d == 0) p.zero_is) in
    let d-is : d ≡ 0 = eqb-true d 0 (and_second (c == 0) (d == 0) p.zero_is) in
    let fits_rest : IsBytes rest = λ i. fits (suc (suc (suc (suc i)))) in
    let n = number_there rest fits_rest (omega arith) in
    let m = number_there (drop 4 rest) n.0.rest_fits (omega (arith, length-drop 4 rest)) in
    let both = Takes-then rest (to_be_bytes w32 (from_be_bytes w32 (take 4 rest))) (drop 4 rest) (to_be_bytes w32 (from_be_bytes w32 (take 4 (drop 4 rest)))) (drop 4 (drop 4 rest)) n.0 m.0 in
    let rest_is : rest ≡ (to_be_bytes w32 h.epoch ++ to_be_bytes w32 h.len) ++ drop 4 (drop 4 rest) =
    subst (λ (k : ℕ). rest ≡ (to_be_bytes w32 h.epoch ++ to_be_bytes w32 k) ++ drop 4 (drop 4 rest)) p.len_is
    (subst (λ (k : ℕ). rest ≡ (to_be_bytes w32 k ++ to_be_bytes w32 (from_be_bytes w32 (take 4 (drop 4 rest)))) ++ drop 4 (drop 4 rest)) p.epoch_is both.parts) in
    let after : drop 4 (drop 4 rest) ≡ drop 8 rest = drop_twice 4 4 rest in
    let rest_is2 : rest ≡ (to_be_bytes w32 h.epoch ++ to_be_bytes w32 h.len) ++ drop 8 rest = rest_is ∙ ap (λ (t : List ℕ). (to_be_bytes w32 h.epoch ++ to_be_bytes w32 h.len) ++ t) after in
    record {
      text = five a b c d rest (version_code (version_of h.version)) (code_of h.tag) 0 0 ((to_be_bytes w32 h.epoch ++ to_be_bytes w32 h.len) ++ drop 8 rest) f.code_is b-is c-is d-is rest_is2;
      may = f.may;
      epoch = subst (λ (k : ℕ). k < 2 ^ 32) p.epoch_is n.1;
      allowed = p.allowed;
    }

pub header_again : (fixed : Option Version) (v : Version) (t : Tag) (epoch len : ℕ) (s : List ℕ) → May fixed v → tag_from v (code_of t) ≡ Some t → epoch < 2 ^ 32 → len < 2 ^ 32 → allows v t len ≡ true
    → header_at fixed (header_text (version_of v) (code_of t) epoch len ++ s) ≡ Ok (record { version = v; tag = t; epoch = epoch; len = len })
unfolding header_at
header_again fixed v t epoch len s may has e l a = rw (version_again fixed v may, has, from_be_bytes-to_be_bytes_4 epoch e, from_be_bytes-to_be_bytes_4 len l, a) refl

capped : (low len high : ℕ) (more : Bool) → (leb low len && leb len high && more) ≡ true → len ≤ high
capped low len high more h = leb-true _ _ (and_second (leb low len) (leb len high) (and_first (leb low len && leb len high) more h))

pub allowed_below : (v : Version) (t : Tag) (len : ℕ) → allows v t len ≡ true → len ≤ 9 + 17 * MAX_PAGES + 18 * MAX_CPUS
allowed_below v tag.Advise len h = omega (arith, eqb-true len 0 h)
allowed_below v tag.Page len h = omega (arith, eqb-true len (4 + PAGE_SIZE) h)
allowed_below v tag.Zero len h = omega (arith, eqb-true len 4 h)
allowed_below v tag.Discard len h = omega (arith, capped 4 len (4 + 4 * (HIGH_PAGE - LOW_PAGE)) (len % 8 == 4) h)
allowed_below v tag.Package len h = omega (arith, leb-true _ _ (and_second (leb 10 len) (leb len (9 + 17 * max_pages v + 18 * MAX_CPUS)) h), max_few v)
allowed_below v tag.End len h = omega (arith, eqb-true len 4 h)
allowed_below v tag.Resume len h = omega (arith, eqb-true len 0 h)
allowed_below v tag.Run len h = omega (arith, capped (8 + PAGE_SIZE) len (8 + PAGE_SIZE * MAX_RUN) (len % PAGE_SIZE == 8) h)
allowed_below v tag.Request len h = omega (arith, eqb-true len 4 h)
allowed_below v tag.Recv len h = omega (arith, capped 5 len (5 + 8 * max_pages v) (len % 8 == 5) h, max_few v)
allowed_below v tag.Done len h = omega (arith, eqb-true len 0 h)

-- a frame at the front

bytes_split : (bytes : List ℕ) (n : ℕ) (front : List ℕ) → take n bytes ≡ front → bytes ≡ front ++ drop n bytes
bytes_split bytes n front e = sym (take-append-drop n bytes) ∙ ap (λ (t : List ℕ). t ++ drop n bytes) e

front_made : (fixed : Option Version) (bytes : List ℕ) (h : Header) (f : Frame) → IsBytes bytes → 12 ≤ length bytes → h.len ≤ length (drop 12 bytes) → HeaderIs fixed bytes h → body_at h.version h.tag (take h.len (drop 12 bytes)) ≡ Ok f
    → FrontIs fixed bytes h.version h.epoch f (12 + h.len)
front_made fixed bytes h f fits long inside head e =
    let b = body_takes h.version h.tag (take h.len (drop 12 bytes)) f (IsBytes-take h.len (drop 12 bytes) (IsBytes-drop 12 bytes fits)) e in
    let v = version_of h.version in
    let len : length (body_text f) ≡ h.len = ap length (sym b.text) ∙ (omega (arith, inside, length-take h.len (drop 12 bytes))) in
    let rest : drop 12 bytes ≡ body_text f ++ drop h.len (drop 12 bytes) = bytes_split (drop 12 bytes) h.len (body_text f) b.text in
    let after : drop h.len (drop 12 bytes) ≡ drop (12 + h.len) bytes = drop_twice 12 h.len bytes in
    let rest2 : drop 12 bytes ≡ body_text f ++ drop (12 + h.len) bytes = rest ∙ ap (λ (t : List ℕ). body_text f ++ t) after in
    let all : bytes ≡ header_text v (code_of h.tag) h.epoch h.len ++ (body_text f ++ drop (12 + h.len) bytes) = head.text ∙ ap (λ (t : List ℕ). header_text v (code_of h.tag) h.epoch h.len ++ t) rest2 in
    let all2 : bytes ≡ (header_text v (code_of h.tag) h.epoch h.len ++ body_text f) ++ drop (12 + h.len) bytes = all ∙ sym (append_assoc (header_text v (code_of h.tag) h.epoch h.len) (body_text f) (drop (12 + h.len) bytes)) in
    let code : code_of h.tag ≡ tag_code f = ap code_of (sym b.tag) ∙ code_of-tag_of f in
    let all3 = subst (λ (k : ℕ). bytes ≡ (header_text v k h.epoch h.len ++ body_text f) ++ drop (12 + h.len) bytes) code all2 in
    let all4 = subst (λ (k : ℕ). bytes ≡ (header_text v (tag_code f) h.epoch k ++ body_text f) ++ drop (12 + h.len) bytes) (sym len) all3 in
    let whole : bytes ≡ text v h.epoch f ++ drop (12 + h.len) bytes = all4 ∙ ap (λ (t : List ℕ). t ++ drop (12 + h.len) bytes) (sym (text-is v h.epoch f b.fits.has)) in
    record { whole = whole; may = head.may; fits = record { epoch = head.epoch; frame = b.fits }; inside = omega (arith, long, inside, length-drop 12 bytes); some = omega arith }

says_body : (fixed : Option Version) (bytes : List ℕ) (h : Header) (read : Result Frame StreamFault) → IsBytes bytes → 12 ≤ length bytes → header_at fixed bytes ≡ Ok h → h.len ≤ length (drop 12 bytes)
    → body_at h.version h.tag (take h.len (drop 12 bytes)) ≡ read → Stands fixed bytes (body_next h read)
says_body fixed bytes h (Ok f) fits long head inside e = front_made fixed bytes h f fits long inside (header_takes fixed bytes h fits long head) e
says_body fixed bytes h (Err d) fits long head inside e = inr (record {
  header = h;
  long = long;
  reads = head;
  whole = omega (arith, length-drop 12 bytes);
  none = λ f ok t b.
      let again : body_at h.version h.tag (take h.len (drop 12 bytes)) ≡ Ok f =
      subst (λ (body : List ℕ). body_at h.version h.tag body ≡ Ok f) b (subst (λ (t : Tag). body_at h.version t (body_text f) ≡ Ok f) t (body_again h.version f ok)) in
      cc;
  is = refl;
})

says_header : (fixed : Option Version) (bytes : List ℕ) (read : Result Header StreamFault) → IsBytes bytes → 12 ≤ length bytes → header_at fixed bytes ≡ read → Stands fixed bytes (header_next bytes read)
says_header fixed bytes (Err d) fits long e = inl (record { long = long; reads = e })
says_header fixed bytes (Ok h) fits long e =
    let P : Bool → Type 0 = λ b. ltb (length (drop 12 bytes)) h.len ≡ b → Stands fixed bytes (cond b Front.Part (body_next h (body_at h.version h.tag (take h.len (drop 12 bytes))))) in
    let all : (b : Bool) → P b = λ b. elim b as P [
      | true ↦ λ t. let lt = ltb-true _ _ t in inr (record { header = h; long = long; reads = e; short = omega (arith, lt, length-drop 12 bytes) })
      | false ↦ λ t. says_body fixed bytes h (body_at h.version h.tag (take h.len (drop 12 bytes))) fits long e (ltb-false _ _ t) refl
    ] in
    all (ltb (length (drop 12 bytes)) h.len) refl

pub next_stands : (fixed : Option Version) (bytes : List ℕ) → IsBytes bytes → Stands fixed bytes (next_at fixed bytes)
unfolding next_at
next_stands fixed bytes fits =
    let P : Bool → Type 0 = λ b. ltb (length bytes) 12 ≡ b → Stands fixed bytes (cond b Front.Part (header_next bytes (header_at fixed bytes))) in
    let all : (b : Bool) → P b = λ b. elim b as P [
      | true ↦ λ t. let lt = ltb-true _ _ t in inl (record { short = lt })
      | false ↦ λ t. says_header fixed bytes (header_at fixed bytes) fits (ltb-false _ _ t) refl
    ] in
    all (ltb (length bytes) 12) refl

-- The header of a frame at the front

-- the header of the text at the front, and its body after it
pub record HeadIs (fixed : Option Version) (bytes : List ℕ) (v : Version) (epoch : ℕ) (f : Frame) : Type 0 where
  pub reads : header_at fixed bytes ≡ Ok (record { version = v; tag = tag_of f; epoch = epoch; len = length (body_text f) })
  pub long : 12 + length (body_text f) ≤ length bytes
  pub body : take (length (body_text f)) (drop 12 bytes) ≡ body_text f

pub head_again : (fixed : Option Version) (v : Version) (epoch : ℕ) (f : Frame) (s : List ℕ) → May fixed v → IsSent v (record { epoch = epoch; frame = f }) → HeadIs fixed (text (version_of v) epoch f ++ s) v epoch f
head_again fixed v epoch f s may h =
    let len = length (body_text f) in
    let allowed = body_allowed v f h.frame in
    let below = allowed_below v (tag_of f) len allowed in
    let head = header_text (version_of v) (code_of (tag_of f)) epoch len in
    let spelled : text (version_of v) epoch f ≡ head ++ body_text f = text-is (version_of v) epoch f h.frame.has ∙ ap (λ (k : ℕ). header_text (version_of v) k epoch len ++ body_text f) (sym (code_of-tag_of f)) in
    let bytes_is : head ++ (body_text f ++ s) ≡ text (version_of v) epoch f ++ s = sym (append_assoc head (body_text f) s) ∙ ap (λ (t : List ℕ). t ++ s) (sym spelled) in
    subst (λ (bytes : List ℕ). HeadIs fixed bytes v epoch f) bytes_is (record {
      reads = header_again fixed v (tag_of f) epoch len (body_text f ++ s) may (tag_again v f h.frame) h.epoch (omega (arith, below)) allowed;
      long = omega (arith, length-append (body_text f) s);
      body = take_at (body_text f) s len refl;
    })
