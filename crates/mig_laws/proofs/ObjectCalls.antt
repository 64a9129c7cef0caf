-- What the calls of a userfault object do in a space once its bytes are changed: they ask only which pages are present.
use Rattle.std.proofs.Common.{◌≡◌, ℕ, ◌+◌, ◌*◌, ◌/◌, ◌&&◌, Bool, false, if◌then◌else◌, Option, Some, None, unwrap_or, List, map, length, take, drop, refl, sym, ap, ◌∙◌}
use Rattle.std.specs.FinSet.{contains}
use Rattle.std.proofs.lemmas.List.{take-map, drop-map, length-map}
use Rattle.mig_base.specs.declared.command.Errno.{Errno}
use Rattle.mig_base.specs.declared.command.Errno.TheVariants.{Eexist}
use Rattle.foundation.specs.Bits.{is_one}
use Rattle.mig_base.specs.Bytes.{zero_page}
use Rattle.foundation.specs.Ranges.{in_range, least_below}
use Rattle.mig_base.specs.Sets.{pages_where}
use Rattle.mig_model.specs.Ioctls.{answer_put, copied, copy_answer, copy_error, handed, handshake_error, handshaken, installed, left_by, missing_run, protected_in, put_answer, range_unregistered, read_error, read_space, register_error, registered, unregister_error, write_protected, writeprotect_error, zeropage_answer, zeropage_error, zeropaged}
use Rattle.mig_model.specs.Guest.{is_present, zero_installed}
use Rattle.mig_model.specs.Space.{Space}
use Rattle.mig_laws.specs.Contents.{space_under}
use Rattle.mig_laws.proofs.Hosts.{zeros-under}
use Rattle.mig_laws.proofs.PageMaps.{contains_key-map_values, map_values-put_pages}

pub present-under : (f : ℕ → ℕ) (space : Space) (page : ℕ) → is_present (space_under f space) page ≡ is_present space page
present-under f space page = contains_key-map_values (map f) space.host.bytes page

-- a call that may fail
pub left_by-under : (f : ℕ → ℕ) (error : Option Errno) (old one new : Space) → new ≡ space_under f one → left_by error (space_under f old) new ≡ space_under f (left_by error old one)
left_by-under f None old one new h = h
left_by-under f (Some errno) old one new h = refl

pub missing_run-under : (f : ℕ → ℕ) (space : Space) (first count : ℕ) → missing_run (space_under f space) first count ≡ missing_run space first count
missing_run-under f space first count =
    ap (λ (test : ℕ → Bool). unwrap_or (least_below test count) count) (λ j i. present-under f space (first + i) j)

pub installed-under : (f : ℕ → ℕ) (space : Space) (first count : ℕ) (bytes new : ℕ → List ℕ) (protect : Bool) → new ≡ (λ i. map f (bytes i)) → installed (space_under f space) first count new protect ≡ space_under f (installed space first count bytes protect)
installed-under f space first count bytes new protect h =
    ap (λ (b : ℕ → List ℕ). installed (space_under f space) first count b protect) h
    ∙ ap (λ pages. record (installed space first count bytes protect) { host = record space.host { bytes = pages } }) (sym (map_values-put_pages (map f) space.host.bytes first count bytes))

pub zero_installed-under : (f : ℕ → ℕ) → f 0 ≡ 0 → (space : Space) (page : ℕ) → zero_installed (space_under f space) page ≡ space_under f (zero_installed space page)
zero_installed-under f h space page = installed-under f space page 1 (λ i. zero_page) (λ i. zero_page) false (λ j i. sym (zeros-under f h) j)

pub protected_in-under : (f : ℕ → ℕ) (space : Space) (first count : ℕ) (protect : Bool) → protected_in (space_under f space) first count protect ≡ space_under f (protected_in space first count protect)
protected_in-under f space first count protect =
    ap (λ (test : ℕ → Bool). record (space_under f space) { protected = pages_where (λ page. if in_range first count page then protect && test page else contains space.protected page) })
    (λ j page. present-under f space page j)

-- UFFDIO_COPY

handed-under : (f : ℕ → ℕ) (bytes : List ℕ) → handed (map f bytes) ≡ (λ i. map f (handed bytes i))
handed-under f bytes = λ j i. (ap (take 4096) (drop-map f (4096 * i) bytes) ∙ take-map f 4096 (drop (4096 * i) bytes)) j

pub copy_answer-under : (f : ℕ → ℕ) (space : Space) (start : ℕ) (bytes : List ℕ) (bits : ℕ) → copy_answer (space_under f space) start (map f bytes) bits ≡ copy_answer space start bytes bits
copy_answer-under f space start bytes bits =
    ap (λ n. answer_put (copy_error space start n bits) (put_answer start (n / 4096) (missing_run (space_under f space) (start / 4096) (n / 4096)) bits Eexist)) (length-map bytes f)
    ∙ ap (λ n. answer_put (copy_error space start (length bytes) bits) (put_answer start (length bytes / 4096) n bits Eexist)) (missing_run-under f space (start / 4096) (length bytes / 4096))

pub copied-under : (f : ℕ → ℕ) (space : Space) (start : ℕ) (bytes : List ℕ) (bits : ℕ) → copied (space_under f space) start (map f bytes) bits ≡ space_under f (copied space start bytes bits)
copied-under f space start bytes bits =
    let old = space_under f space in
    ap (λ n. left_by (copy_error space start n bits) old (installed old (start / 4096) (missing_run old (start / 4096) (n / 4096)) (handed (map f bytes)) (is_one bits 1))) (length-map bytes f)
    ∙ ap (λ n. left_by (copy_error space start (length bytes) bits) old (installed old (start / 4096) n (handed (map f bytes)) (is_one bits 1))) (missing_run-under f space (start / 4096) (length bytes / 4096))
    ∙ left_by-under f (copy_error space start (length bytes) bits) space _ _
    (installed-under f space (start / 4096) (missing_run space (start / 4096) (length bytes / 4096)) (handed bytes) (handed (map f bytes)) (is_one bits 1) (handed-under f bytes))

-- UFFDIO_ZEROPAGE

pub zeropage_answer-under : (f : ℕ → ℕ) (space : Space) (start len bits : ℕ) → zeropage_answer (space_under f space) start len bits ≡ zeropage_answer space start len bits
zeropage_answer-under f space start len bits =
    ap (λ n. answer_put (zeropage_error space start len bits) (put_answer start (len / 4096) n bits Eexist)) (missing_run-under f space (start / 4096) (len / 4096))

pub zeropaged-under : (f : ℕ → ℕ) → f 0 ≡ 0 → (space : Space) (start len bits : ℕ) → zeropaged (space_under f space) start len bits ≡ space_under f (zeropaged space start len bits)
zeropaged-under f h space start len bits =
    let old = space_under f space in
    ap (λ n. left_by (zeropage_error space start len bits) old (installed old (start / 4096) n (λ i. zero_page) false)) (missing_run-under f space (start / 4096) (len / 4096))
    ∙ left_by-under f (zeropage_error space start len bits) space _ _
    (installed-under f space (start / 4096) (missing_run space (start / 4096) (len / 4096)) (λ i. zero_page) (λ i. zero_page) false (λ j i. sym (zeros-under f h) j))

-- The others

pub write_protected-under : (f : ℕ → ℕ) (space : Space) (start len bits : ℕ) → write_protected (space_under f space) start len bits ≡ space_under f (write_protected space start len bits)
write_protected-under f space start len bits =
    left_by-under f (writeprotect_error space start len bits) space _ _ (protected_in-under f space (start / 4096) (len / 4096) (is_one bits 0))

pub handshaken-under : (f : ℕ → ℕ) (space : Space) (api features : ℕ) → handshaken (space_under f space) api features ≡ space_under f (handshaken space api features)
handshaken-under f space api features = left_by-under f (handshake_error space api features) space _ _ refl

pub registered-under : (f : ℕ → ℕ) (space : Space) (start len bits : ℕ) → registered (space_under f space) start len bits ≡ space_under f (registered space start len bits)
registered-under f space start len bits = left_by-under f (register_error space start len bits) space _ _ refl

pub range_unregistered-under : (f : ℕ → ℕ) (space : Space) (start len : ℕ) → range_unregistered (space_under f space) start len ≡ space_under f (range_unregistered space start len)
range_unregistered-under f space start len = left_by-under f (unregister_error space start len) space _ _ refl

pub read_space-under : (f : ℕ → ℕ) (space : Space) → read_space (space_under f space) ≡ space_under f (read_space space)
read_space-under f space = left_by-under f (read_error space) space _ _ refl
