-- The head of a frame, and the bytes of its pages after it.
use Rattle.std.proofs.Common.{◌≡◌, Some, subst, ℕ, zero, suc, ◌*◌, ◌+◌, ◌<◌, ◌≤◌, Bool, true, false, ◌&&◌, cond, ltb, eqb, Option, List, [], ◌∷◌, length, take, drop, Result, Ok, Err, refl, sym, ap, ◌∙◌, ◌⊎◌, inl, inr, arith}
use Rattle.std.specs.Int.{w32, byte_len, from_be_bytes}
use Rattle.std.proofs.lemmas.Bool.{ltb-true, ltb-false, le-ltb, lt-ltb, ne_eqb}
use Rattle.std.proofs.lemmas.List.{length-drop, take_all, drop-drop, drop-take}
use Rattle.foundation.specs.declared.TheConstants.{PAGE_SIZE}
use Rattle.mig_model.specs.Wire.{Frame}
use Rattle.frame_decoder.specs.declared.fault.StreamFault.{StreamFault}
use Rattle.frame_decoder.specs.declared.fault.StreamFault.TheVariants as faults
use Rattle.frame_decoder.specs.declared.tag.Tag.TheVariants as tag
use Rattle.frame_decoder.specs.declared.version.Version.{Version}
use Rattle.frame_decoder.specs.declared.head.Head.{Head}
use Rattle.frame_decoder.specs.declared.header.Header as code
use Rattle.frame_decoder.specs.Headers.{Header}
use Rattle.frame_decoder.specs.Heads.{body_fault, frame_with, front_by, header_of, pages_of}
use Rattle.frame_decoder.specs.Reading.{◌>>=◌, FailsToRead, Front, body_next, next_at, tested, number_in, page_in, is_page, content_at, contents_at, many_at, many_from, is_page_run, page_frame_at, run_frame_at, payload_at, body_at}
use Rattle.frame_decoder.specs.Streams.{Breach}
use Rattle.frame_decoder.specs.Taking.{FrontIs, Stands}
use Rattle.frame_decoder.proofs.FieldLemmas.{IsBytes, bind_ok, checked_ok, ok_is}
use Rattle.frame_decoder.proofs.Fronts.{next_stands}

-- The bytes after a number

abbrev Read : Type 0
Read = Result (ℕ × List ℕ) StreamFault

number_rest : (bytes rest : List ℕ) (n : ℕ) → number_in w32 bytes ≡ Ok (n, rest) → rest ≡ drop 4 bytes
number_rest bytes rest n is = by (ltb (length bytes) (byte_len w32)) (from_be_bytes w32 (take (byte_len w32) bytes)) is
  where
    by : (short : Bool) (m : ℕ) → ◌≡◌ {A = Read} (cond short (Err faults.BadField) (Ok (m, drop 4 bytes))) (Ok (n, rest)) → rest ≡ drop 4 bytes
    by true m h = absurd cc
    by false m h = ap (λ (x : ℕ × List ℕ). x.1) (sym (ok_is (m, drop 4 bytes) (n, rest) h))

pub page_rest : (bytes rest : List ℕ) (page : ℕ) → page_in bytes ≡ Ok (page, rest) → rest ≡ drop 4 bytes
unfolding page_in
page_rest bytes rest page is =
    let p = bind_ok (number_in w32 bytes) (λ page. tested (is_page page.0) page) (page, rest) is in
    let g = checked_ok (is_page p.0.0) p.0 (page, rest) p.2 in
    ap (λ (x : ℕ × List ℕ). x.1) (sym g.1) ∙ number_rest bytes p.0.1 p.0.0 p.1

-- A Page

pub page_body : (version : Version) (body rest : List ℕ) (page : ℕ) → page_in body ≡ Ok (page, rest) → length rest ≡ PAGE_SIZE → body_at version tag.Page body ≡ Ok (Frame.Page page (drop 4 body))
unfolding body_at payload_at page_frame_at content_at
page_body version body rest page is long =
    let enough : ltb (length rest) PAGE_SIZE ≡ false = le-ltb _ _ (omega (arith, long)) in
    let nothing : length (drop PAGE_SIZE rest) ≡ 0 = omega (arith, long, length-drop PAGE_SIZE rest) in
    let all : take PAGE_SIZE rest ≡ drop 4 body = take_all PAGE_SIZE rest (omega (arith, long)) ∙ page_rest body rest page is in
    rw (is, enough, nothing, all) refl

pub page_body_bad : (version : Version) (body : List ℕ) → page_in body ≡ Err faults.BadField → body_at version tag.Page body ≡ Err faults.BadField
unfolding body_at payload_at page_frame_at
page_body_bad version body is = rw is refl

pub page_body_long : (version : Version) (body rest : List ℕ) (page : ℕ) → page_in body ≡ Ok (page, rest) → (length rest ≡ PAGE_SIZE → ⊥) → body_at version tag.Page body ≡ Err faults.BadField
unfolding body_at payload_at page_frame_at content_at
page_body_long version body rest page is other = by (ltb (length rest) PAGE_SIZE) refl
  where
    by : (short : Bool) → ltb (length rest) PAGE_SIZE ≡ short → body_at version tag.Page body ≡ Err faults.BadField
    by true t = rw (is, t) refl
    by false t =
        let enough = ltb-false _ _ t in
        let more : eqb (length (drop PAGE_SIZE rest)) 0 ≡ false = ne_eqb _ _ (λ e. other (omega (arith, e, enough, length-drop PAGE_SIZE rest))) in
        rw (is, t, more) refl

-- The pages of a Run

pages_count : (n : ℕ) (bytes : List ℕ) → length (pages_of n bytes) ≡ n
unfolding pages_of
pages_count zero bytes = refl
pages_count (suc n) bytes = ap suc (pages_count n (drop PAGE_SIZE bytes))

many_pages : (n : ℕ) (bytes : List ℕ) → PAGE_SIZE * n ≤ length bytes → many_at content_at n bytes ≡ Ok (pages_of n bytes, drop (PAGE_SIZE * n) bytes)
unfolding many_from pages_of content_at
many_pages zero bytes enough = refl
many_pages (suc n) bytes enough =
    let first : ltb (length bytes) PAGE_SIZE ≡ false = le-ltb _ _ (omega (arith, enough)) in
    let others = many_pages n (drop PAGE_SIZE bytes) (omega (arith, enough, length-drop PAGE_SIZE bytes)) in
    let sum : PAGE_SIZE + PAGE_SIZE * n ≡ PAGE_SIZE * suc n = omega arith in
    let after : drop (PAGE_SIZE * n) (drop PAGE_SIZE bytes) ≡ drop (PAGE_SIZE * suc n) bytes = drop-drop (PAGE_SIZE * n) PAGE_SIZE bytes ∙ ap (λ k. drop k bytes) sum in
    rw (first, others, after) refl

many_short : (n : ℕ) (bytes : List ℕ) → length bytes < PAGE_SIZE * n → many_at content_at n bytes ≡ Err faults.BadField
unfolding many_from content_at
many_short zero bytes short = absurd (omega (arith, short))
many_short (suc n) bytes short = by (ltb (length bytes) PAGE_SIZE) refl (λ (first : PAGE_SIZE ≤ length bytes). many_short n (drop PAGE_SIZE bytes) (omega (arith, first, short, length-drop PAGE_SIZE bytes)))
  where
    by : (less : Bool) → ltb (length bytes) PAGE_SIZE ≡ less → (PAGE_SIZE ≤ length bytes → many_at content_at n (drop PAGE_SIZE bytes) ≡ Err faults.BadField) → many_at content_at (suc n) bytes ≡ Err faults.BadField
    by true t others = rw t refl
    by false t others = rw (t, others (ltb-false _ _ t)) refl

-- A Run

two_rest : (body rest bytes : List ℕ) (first count : ℕ) → number_in w32 body ≡ Ok (first, rest) → number_in w32 rest ≡ Ok (count, bytes) → bytes ≡ drop 8 body
two_rest body rest bytes first count is next = number_rest rest bytes count next ∙ ap (drop 4) (number_rest body rest first is) ∙ drop-drop 4 4 body

pub run_body : (version : Version) (body rest bytes : List ℕ) (first count : ℕ) → number_in w32 body ≡ Ok (first, rest) → number_in w32 rest ≡ Ok (count, bytes) → is_page_run version first count ≡ true → length bytes ≡ PAGE_SIZE * count →
    body_at version tag.Run body ≡ Ok (Frame.Run first (pages_of count (drop 8 body)))
unfolding body_at payload_at run_frame_at contents_at
run_body version body rest bytes first count is next right long =
    let all = many_pages count bytes (omega (arith, long)) in
    let nothing : length (drop (PAGE_SIZE * count) bytes) ≡ 0 = omega (arith, long, length-drop (PAGE_SIZE * count) bytes) in
    rw (is, next, all, pages_count count bytes, right, nothing, two_rest body rest bytes first count is next) refl

pub run_body_bad : (version : Version) (body : List ℕ) → number_in w32 body ≡ Err faults.BadField → body_at version tag.Run body ≡ Err faults.BadField
unfolding body_at payload_at run_frame_at
run_body_bad version body is = rw is refl

pub run_body_cut : (version : Version) (body rest : List ℕ) (first : ℕ) → number_in w32 body ≡ Ok (first, rest) → number_in w32 rest ≡ Err faults.BadField → body_at version tag.Run body ≡ Err faults.BadField
unfolding body_at payload_at run_frame_at contents_at
run_body_cut version body rest first is next = rw (is, next) refl

pub run_body_other : (version : Version) (body rest bytes : List ℕ) (first count : ℕ) → number_in w32 body ≡ Ok (first, rest) → number_in w32 rest ≡ Ok (count, bytes) → (is_page_run version first count ≡ true → length bytes ≡ PAGE_SIZE * count → ⊥) →
    body_at version tag.Run body ≡ Err faults.BadField
unfolding body_at payload_at run_frame_at contents_at
run_body_other version body rest bytes first count is next other = by (ltb (length bytes) (PAGE_SIZE * count)) refl
  where
    whole : (right : Bool) → is_page_run version first count ≡ right → PAGE_SIZE * count ≤ length bytes → body_at version tag.Run body ≡ Err faults.BadField
    whole false r enough = rw (is, next, many_pages count bytes enough, pages_count count bytes, r) refl
    whole true r enough =
        let more : eqb (length (drop (PAGE_SIZE * count) bytes)) 0 ≡ false = ne_eqb _ _ (λ e. other r (omega (arith, e, enough, length-drop (PAGE_SIZE * count) bytes))) in
        rw (is, next, many_pages count bytes enough, pages_count count bytes, r, more) refl

    by : (short : Bool) → ltb (length bytes) (PAGE_SIZE * count) ≡ short → body_at version tag.Run body ≡ Err faults.BadField
    by true t = rw (is, next, many_short count bytes (ltb-true _ _ t)) refl
    by false t = whole (is_page_run version first count) refl (ltb-false _ _ t)

-- What stands at the front

-- the bytes after a head, as bytes of the text
content_is : (at len : ℕ) (bytes : List ℕ) → drop at (take len (drop 12 bytes)) ≡ drop (12 + at) (take (12 + len) bytes)
content_is at len bytes = ap (drop at) (sym (drop-take 12 len bytes)) ∙ drop-drop at 12 (take (12 + len) bytes)

pub head_stands : (fixed : Option Version) (bytes body : List ℕ) (header : code.Header) (head : Head) (at : ℕ) → IsBytes bytes → next_at fixed bytes ≡ front_by bytes (Ok (Some header)) → body ≡ take header.len (drop 12 bytes) →
    body_at header.version header.tag body ≡ Ok (frame_with head (drop at body)) → FrontIs fixed bytes header.version header.epoch (frame_with head (drop (12 + at) (take (12 + header.len) bytes))) (12 + header.len)
head_stands fixed bytes body header head at fits front is reads =
    let read : body_at header.version header.tag (take header.len (drop 12 bytes)) ≡ Ok (frame_with head (drop (12 + at) (take (12 + header.len) bytes))) =
    ap (body_at header.version header.tag) (sym is) ∙ reads ∙ ap (λ (b : List ℕ). Ok (frame_with head (drop at b))) is ∙ ap (λ (b : List ℕ). Ok (frame_with head b)) (content_is at header.len bytes) in
    subst (Stands fixed bytes) (front ∙ ap (body_next (header_of header)) read) (next_stands fixed bytes fits)

pub bad_stands : (fixed : Option Version) (bytes body : List ℕ) (header : code.Header) (fault : StreamFault) → IsBytes bytes → next_at fixed bytes ≡ front_by bytes (Ok (Some header)) → body ≡ take header.len (drop 12 bytes) →
    FailsToRead fault (body_at header.version header.tag body) → (body_fault fault ≡ faults.NoMemory) ⊎ Breach fixed bytes (body_fault fault)
bad_stands fixed bytes body header fault fits front is fails = by fault fails
  where
    breach : (fault : StreamFault) → body_at header.version header.tag body ≡ Err fault → Breach fixed bytes faults.BadField
    breach fault reads = subst (Stands fixed bytes) (front ∙ ap (body_next (header_of header)) (ap (body_at header.version header.tag) (sym is) ∙ reads)) (next_stands fixed bytes fits)

    by : (fault : StreamFault) → FailsToRead fault (body_at header.version header.tag body) → (body_fault fault ≡ faults.NoMemory) ⊎ Breach fixed bytes (body_fault fault)
    by faults.NoMemory fails = inl refl
    by faults.BadTag fails = inr (breach faults.BadTag fails)
    by faults.BadLength fails = inr (breach faults.BadLength fails)
    by faults.BadField fails = inr (breach faults.BadField fails)

memory_alone : (fault : StreamFault) → body_fault fault ≡ faults.NoMemory → fault ≡ faults.NoMemory
memory_alone faults.NoMemory is = refl
memory_alone faults.BadTag is = absurd cc
memory_alone faults.BadLength is = absurd cc
memory_alone faults.BadField is = absurd cc

pub out_of_memory : {A : Type 0} (fault result : StreamFault) → result ≡ body_fault fault → ◌≡◌ {A = Result A StreamFault} (Err result) (Err faults.NoMemory) → fault ≡ faults.NoMemory
out_of_memory fault result is lacks = let at : result ≡ faults.NoMemory = cc in memory_alone fault (sym is ∙ at)

pub one_header : (read : Result Header StreamFault) (header other : Header) → read ≡ Ok header → read ≡ Ok other → header ≡ other
one_header read header other is also = ok_is header other (sym is ∙ also)
