-- What a decoder holds after a piece.
use Rattle.std.proofs.Common.{◌≡◌, ℕ, ◌+◌, ◌-◌, ◌*◌, ◌<◌, ◌≤◌, Bool, true, false, ◌&&◌, ◌==◌, cond, ltb, List, [], ◌∷◌, ◌++◌, length, get_or, take, drop, Option, Some, None, Result, Ok, Err, refl, sym, subst, ◌∙◌, arith, inl, inr}
use Rattle.std.specs.Prelude.{IfOk}
use Rattle.std.specs.Int.{w32, from_be_bytes}
use Rattle.std.proofs.lemmas.Bool.{le-ltb, lt-ltb}
use Rattle.std.proofs.lemmas.List.{length-append}
use Rattle.foundation.specs.declared.NoMemory.{NoMemory as OutOfMemory}
use Rattle.mig_base.specs.declared.TheConstants.{MAX_PAGES, MAX_CPUS}
use Rattle.mig_model.specs.Wire.{Sent}
use Rattle.frame_decoder.specs.declared.tag.Tag.{Tag}
use Rattle.frame_decoder.specs.declared.fault.StreamFault.{StreamFault}
use Rattle.frame_decoder.specs.declared.fault.StreamFault.TheVariants as faults
use Rattle.frame_decoder.specs.declared.stream.Taken.{Taken}
use Rattle.frame_decoder.specs.declared.version.Version.{Version}
use Rattle.frame_decoder.specs.Versions.{version_from, allows, tag_from}
use Rattle.frame_decoder.specs.Headers.{Header, header_with, header_from, header_at}
use Rattle.frame_decoder.specs.Streams.{IsPart, Breach, Held, LeavesHeld, Splits, lacks, IsStreamFault, sents}
use Rattle.frame_decoder.specs.Feeding.{FeedAnswer, Fed, FedFault, answered}
use Rattle.frame_decoder.proofs.Fronts.{from_parts, allowed_below}

-- A fault of the stream is never one of memory

tag_real : (h : Header) (a zeros : Bool) (f : StreamFault) → cond a (cond zeros (Ok h) (Err faults.BadField)) (Err faults.BadLength) ≡ Err f → IsStreamFault (Some f)
tag_real h true true f e = absurd cc
tag_real h true false f e = let same : faults.BadField ≡ f = cc in subst (λ (f : StreamFault). IsStreamFault (Some f)) same tt
tag_real h false zeros f e = let same : faults.BadLength ≡ f = cc in subst (λ (f : StreamFault). IsStreamFault (Some f)) same tt

with_real : (v : Version) (o : Option Tag) (epoch len : ℕ) (zeros : Bool) (f : StreamFault) → header_with v o epoch len zeros ≡ Err f → IsStreamFault (Some f)
with_real v None epoch len zeros f e = let same : faults.BadTag ≡ f = cc in subst (λ (f : StreamFault). IsStreamFault (Some f)) same tt
with_real v (Some t) epoch len zeros f e = tag_real (record { version = v; tag = t; epoch = epoch; len = len }) (allows v t len) zeros f e

parts_real : (o : Option Version) (code epoch len : ℕ) (zeros : Bool) (f : StreamFault) → header_from o code epoch len zeros ≡ Err f → IsStreamFault (Some f)
parts_real None code epoch len zeros f e = let same : faults.BadTag ≡ f = cc in subst (λ (f : StreamFault). IsStreamFault (Some f)) same tt
parts_real (Some v) code epoch len zeros f e = with_real v (tag_from v code) epoch len zeros f e

header_real : (fixed : Option Version) (bytes : List ℕ) (f : StreamFault) → header_at fixed bytes ≡ Err f → IsStreamFault (Some f)
unfolding header_at
header_real fixed bytes f e = parts_real (version_from fixed (get_or bytes 0 0)) (get_or bytes 1 0) (from_be_bytes w32 (take 4 (drop 4 bytes))) (from_be_bytes w32 (take 4 (drop 8 bytes))) (get_or bytes 2 0 == 0 && get_or bytes 3 0 == 0) f e

pub breach_real : (fixed : Option Version) (bytes : List ℕ) (f : StreamFault) → Breach fixed bytes f → IsStreamFault (Some f)
breach_real fixed bytes f (inl b) = header_real fixed bytes f b.reads
breach_real fixed bytes f (inr b) = subst (λ (f : StreamFault). IsStreamFault (Some f)) (sym b.is) tt

pub ends_real : (fixed : Option Version) (unread rest : List ℕ) (fault : Option StreamFault) → LeavesHeld fixed unread rest fault → IsStreamFault fault
ends_real fixed unread rest None e = tt
ends_real fixed unread rest (Some f) e = breach_real fixed unread f e.0

pub ends_part : (fixed : Option Version) (unread rest : List ℕ) (fault : Option StreamFault) → LeavesHeld fixed unread rest fault → IsPart fixed rest
ends_part fixed unread rest None e = subst (IsPart fixed) (sym e.1) e.0
ends_part fixed unread rest (Some f) e = subst (IsPart fixed) (sym e.1) (inl (record { short = omega arith }))

pub splits_real : (old : Option Version) (stream : List ℕ) (frames : List Sent) (rest : List ℕ) (fault : Option StreamFault) (new : Option Version) → Splits old stream frames rest fault new → IsStreamFault fault
splits_real old stream frames rest fault new s = ends_real new s.unread rest fault s.ends

pub splits_part : (old : Option Version) (stream : List ℕ) (frames : List Sent) (rest : List ℕ) (fault : Option StreamFault) (new : Option Version) → Splits old stream frames rest fault new → IsPart new rest
splits_part old stream frames rest fault new s = ends_part new s.unread rest fault s.ends

-- a part is short

header_below : (fixed : Option Version) (bytes : List ℕ) (h : Header) → header_at fixed bytes ≡ Ok h → h.len ≤ 9 + 17 * MAX_PAGES + 18 * MAX_CPUS
unfolding header_at
header_below fixed bytes h e =
    allowed_below h.version h.tag h.len
    (from_parts (version_from fixed (get_or bytes 0 0)) (get_or bytes 1 0) (from_be_bytes w32 (take 4 (drop 4 bytes))) (from_be_bytes w32 (take 4 (drop 8 bytes))) (get_or bytes 2 0 == 0 && get_or bytes 3 0 == 0) h e).allowed

pub part_bound : (fixed : Option Version) (bytes : List ℕ) → IsPart fixed bytes → length bytes < 12 + (9 + 17 * MAX_PAGES + 18 * MAX_CPUS)
part_bound fixed bytes (inl p) = omega (arith, p.short)
part_bound fixed bytes (inr p) = omega (arith, p.short, header_below fixed bytes p.header p.reads)

-- a piece that completes nothing

pub header_front : (fixed : Option Version) (a b : List ℕ) → 12 ≤ length a → header_at fixed (a ++ b) ≡ header_at fixed a
unfolding header_at
header_front fixed [] b long = absurd (omega arith)
header_front fixed (x0 ∷ []) b long = absurd (omega arith)
header_front fixed (x0 ∷ x1 ∷ []) b long = absurd (omega arith)
header_front fixed (x0 ∷ x1 ∷ x2 ∷ []) b long = absurd (omega arith)
header_front fixed (x0 ∷ x1 ∷ x2 ∷ x3 ∷ []) b long = absurd (omega arith)
header_front fixed (x0 ∷ x1 ∷ x2 ∷ x3 ∷ x4 ∷ []) b long = absurd (omega arith)
header_front fixed (x0 ∷ x1 ∷ x2 ∷ x3 ∷ x4 ∷ x5 ∷ []) b long = absurd (omega arith)
header_front fixed (x0 ∷ x1 ∷ x2 ∷ x3 ∷ x4 ∷ x5 ∷ x6 ∷ []) b long = absurd (omega arith)
header_front fixed (x0 ∷ x1 ∷ x2 ∷ x3 ∷ x4 ∷ x5 ∷ x6 ∷ x7 ∷ []) b long = absurd (omega arith)
header_front fixed (x0 ∷ x1 ∷ x2 ∷ x3 ∷ x4 ∷ x5 ∷ x6 ∷ x7 ∷ x8 ∷ []) b long = absurd (omega arith)
header_front fixed (x0 ∷ x1 ∷ x2 ∷ x3 ∷ x4 ∷ x5 ∷ x6 ∷ x7 ∷ x8 ∷ x9 ∷ []) b long = absurd (omega arith)
header_front fixed (x0 ∷ x1 ∷ x2 ∷ x3 ∷ x4 ∷ x5 ∷ x6 ∷ x7 ∷ x8 ∷ x9 ∷ x10 ∷ []) b long = absurd (omega arith)
header_front fixed (x0 ∷ x1 ∷ x2 ∷ x3 ∷ x4 ∷ x5 ∷ x6 ∷ x7 ∷ x8 ∷ x9 ∷ x10 ∷ x11 ∷ rest) b long = refl

pub lacks_header : (fixed : Option Version) (bytes : List ℕ) → length bytes < 12 → lacks fixed bytes ≡ 12 - length bytes
unfolding lacks
lacks_header fixed bytes lt = let t : ltb (length bytes) 12 ≡ true = lt-ltb _ _ lt in rw t refl

pub lacks_body : (fixed : Option Version) (bytes : List ℕ) (h : Header) → 12 ≤ length bytes → header_at fixed bytes ≡ Ok h → lacks fixed bytes ≡ 12 + h.len - length bytes
unfolding lacks
lacks_body fixed bytes h le e = let t : ltb (length bytes) 12 ≡ false = le-ltb _ _ le in rw (t, e) refl

-- less than a frame lacks a byte at least
pub lacks_some : (fixed : Option Version) (bytes : List ℕ) → IsPart fixed bytes → 0 < lacks fixed bytes
lacks_some fixed bytes (inl p) = omega (arith, p.short, lacks_header fixed bytes p.short)
lacks_some fixed bytes (inr p) = omega (arith, p.short, lacks_body fixed bytes p.header p.long p.reads)

pub wait_part : (fixed : Option Version) (bytes piece : List ℕ) → IsPart fixed bytes → length piece < lacks fixed bytes → IsPart fixed (bytes ++ piece)
wait_part fixed bytes piece (inl p) less =
    inl (record { short = omega (arith, p.short, less, lacks_header fixed bytes p.short, length-append bytes piece) })
wait_part fixed bytes piece (inr p) less =
    inr (record {
      header = p.header;
      long = omega (arith, p.long, length-append bytes piece);
      reads = header_front fixed bytes piece p.long ∙ p.reads;
      short = omega (arith, p.short, less, lacks_body fixed bytes p.header p.long p.reads, length-append bytes piece);
    })

-- what is answered

pub fed_again : (old : Held) (piece : List ℕ) (fault : StreamFault) → old.fault ≡ Some fault → IsStreamFault (Some fault) → Fed old piece (Err fault) old
fed_again old piece faults.NoMemory e real = absurd real
fed_again old piece faults.BadTag e real = inl (e, refl)
fed_again old piece faults.BadLength e real = inl (e, refl)
fed_again old piece faults.BadField e real = inl (e, refl)

first_fault : (old : Held) (piece : List ℕ) (fault : StreamFault) (new : Held) → IsStreamFault (Some fault) → FedFault old piece fault new → Fed old piece (Err fault) new
first_fault old piece faults.NoMemory new real f = absurd real
first_fault old piece faults.BadTag new real f = f
first_fault old piece faults.BadLength new real f = f
first_fault old piece faults.BadField new real f = f

pub fed_now : (old : Held) (piece : List ℕ) (frames : List Sent) (new : Held) (answer : FeedAnswer) → old.fault ≡ None → Splits old.version (old.bytes ++ piece) frames new.bytes new.fault new.version
    → answered frames new.fault answer → Fed old piece answer new
fed_now old piece frames new (Ok others) none s a =
    (none, subst (λ (fs : List Sent). Splits old.version (old.bytes ++ piece) fs new.bytes new.fault new.version) (sym a.0) s, λ e. a.1 (sym a.0 ∙ e))
fed_now old piece frames new (Err fault) none s a =
    first_fault old piece fault new (subst IsStreamFault a.1 (splits_real old.version (old.bytes ++ piece) frames new.bytes new.fault new.version s))
    (inr (none, a.1, subst (λ (fs : List Sent). Splits old.version (old.bytes ++ piece) fs new.bytes new.fault new.version) a.0 s))

pub taken_real : (fixed : Option Version) (stream held : List ℕ) (r : Result Taken OutOfMemory) → IfOk r (λ t. Splits fixed stream (sents t.frames.items) held t.fault t.version) → IfOk r (λ t. IsStreamFault t.fault)
taken_real fixed stream held (Ok t) s = splits_real fixed stream (sents t.frames.items) held t.fault t.version s
taken_real fixed stream held (Err e) s = tt

pub taken_part : (fixed : Option Version) (stream held : List ℕ) (r : Result Taken OutOfMemory) → IfOk r (λ t. Splits fixed stream (sents t.frames.items) held t.fault t.version) → IfOk r (λ t. IsPart t.version held)
taken_part fixed stream held (Ok t) s = splits_part fixed stream (sents t.frames.items) held t.fault t.version s
taken_part fixed stream held (Err e) s = tt
