-- What is sent of pages, and of a log whose pages were sent.
use Rattle.std.proofs.Common.{◌≡◌, ◌↔◌, lt-ltb, ℕ, zero, suc, ◌+◌, ◌<◌, ◌≤◌, ◌||◌, Bool, true, false, cond, not, eqb, ltb, Some, None, is_some, List, [], ◌∷◌, ◌++◌, length, set, take, refl, sym, ap, ◌∙◌, arith}
use Rattle.std.specs.Ordering.{nat_cmp}
use Rattle.std.specs.FinMap.{contains_key, get}
use Rattle.std.specs.FinSet.{FinSet, contains, insert}
use Rattle.std.proofs.lemmas.Bool.{and_parts, false≢true, not-false}
use Rattle.std.proofs.lemmas.Bool.Decides.{nat_tests}
use Rattle.std.proofs.lemmas.List.{take_more_set}
use Rattle.mig_base.specs.declared.TheConstants.{HIGH_PAGE, LOW_PAGE}
use Rattle.mig_base.specs.declared.refusal.Refusal.{Refusal}
use Rattle.mig_base.specs.Bytes.{contents, zero_page}
use Rattle.foundation.specs.Ranges.{in_range}
use Rattle.mig_base.specs.Sets.{with_range}
use Rattle.foundation.specs.Tests.{first_holding, is_every}
use Rattle.mig_base.proofs.ChunkSets.{without_one}
use Rattle.foundation.proofs.RangeLemmas.{in_range-true}
use Rattle.mig_base.proofs.SetLemmas.{member_below}
use Rattle.mig_model.specs.Space.{Space, IsSoundSpace}
use Rattle.mig_base.specs.Userfault.{changing}
use Rattle.mig_model.specs.Bounds.{IsPage}
use Rattle.mig_model.specs.Guest.{is_present}
use Rattle.mig_model.specs.Host.{Host, IsSound}
use Rattle.mig_model.specs.Ioctls.{protected_in}
use Rattle.mig_model.specs.Log.{Log, log_run_sent, log_sent}
use Rattle.mig_model.specs.Source.{Source, bytes_of, run_of}
use Rattle.mig_model.specs.Wire.{Frame, is_zeros, page_frame}
use Rattle.mig_model.proofs.memory.Facts.{zero_bytes}
use Rattle.mig_model.proofs.memory.IoctlLemmas.{every_page}
use Rattle.mig_model.proofs.invariant.SourceSending.{present_bytes, protected_now, whole_bytes}
use Rattle.uffd_ioctl.specs.Lent.{IsLent}
use Rattle.uffd_ioctl.proofs.AccessLemmas.{all_zeros}
use Rattle.dirty_log.specs.Answers.{send_refusal}
use Rattle.dirty_log.specs.Sending.{frame_sent}
use Rattle.dirty_log.specs.Spaces.{is_sendable}
use Rattle.dirty_log.specs.declared.page_content.PageContent.{PageContent}
use Rattle.mig_base.proofs.SetSizes.{only_where}

-- A call that is not refused

pub none_unread : (count : ℕ) → ltb 0 count ≡ false → count ≡ 0
none_unread count h = grind (arith, nat_tests)

two_told : {A : Type 0} (a b : Bool) (x y : A) → first_holding ((a, x) ∷ (b, y) ∷ []) ≡ None → (a ≡ false) × (b ≡ false)
two_told true b x y h = absurd (cc)
two_told false true x y h = absurd (cc)
two_told false false x y h = (refl, refl)

pub accepted : (space : Space) (first count : ℕ) → send_refusal space first count ≡ None → (changing space.object ≡ 0) × (is_every (is_sendable space) first count ≡ true)
accepted space first count h =
    let told = two_told (ltb 0 (changing space.object)) (not (is_every (is_sendable space) first count)) Refusal.Changing Refusal.PageNotSendable h in
    (none_unread (changing space.object) told.0, not-false (is_every (is_sendable space) first count) told.1)

-- each page is present
pub page_there : (space : Space) (first count page : ℕ) → send_refusal space first count ≡ None → first ≤ page → page < first + count → is_present space page ≡ true
page_there space first count page told low high =
    (and_parts (is_present space page) (contains space.object.protect page) (every_page (is_sendable space) first count page (accepted space first count told).1 low high)).0

pub here_there : (space : Space) (page : ℕ) → send_refusal space page 1 ≡ None → is_present space page ≡ true
here_there space page told = page_there space page 1 page told (omega arith) (omega arith)

-- The log

one_in : (s : FinSet nat_cmp) (page : ℕ) → with_range s page 1 ≡ insert s page
unfolding with_range
one_in s page = ap (insert s) (omega arith)

-- a run of one page
pub one_sent : (log : Log) (page : ℕ) → log_run_sent log page 1 ≡ log_sent log page
one_sent log page = λ i. record { todo = without_one log.todo page i; clean = one_in log.clean page i; sent = one_in log.sent page i; held = log.held }

-- What is sent

zeros_by : (zeros : Bool) (page : ℕ) (bytes : List ℕ) → Frame.Zero page ≡ cond zeros (Frame.Zero page) (Frame.Page page bytes) → zeros ≡ true
zeros_by true page bytes h = refl
zeros_by false page bytes h = absurd (cc)

zero_by : (sent : PageContent) (page : ℕ) → frame_sent page sent ≡ Frame.Zero page → sent ≡ PageContent.Zero
zero_by PageContent.Zero page h = refl
zero_by (PageContent.Page bytes) page h = absurd (cc)

-- zeros alone are sent as such
zeros_sent : (bytes : List ℕ) (page : ℕ) (sent : PageContent) → length bytes ≡ 4096 → frame_sent page sent ≡ page_frame page bytes → (sent ≡ PageContent.Zero) ↔ (bytes ≡ zero_page)
zeros_sent bytes page sent whole is = (
  λ h. zero_bytes bytes whole (zeros_by (is_zeros bytes) page bytes (ap (frame_sent page) (sym h) ∙ is)),
  λ h. zero_by sent page (is ∙ ap (page_frame page) h ∙ ap (λ zeros. cond zeros (Frame.Zero page) (Frame.Page page zero_page)) all_zeros),
)

pub zero_shown : (space : Space) (page : ℕ) (sent : PageContent) → IsSoundSpace space → send_refusal space page 1 ≡ None → frame_sent page sent ≡ page_frame page (contents space.host.bytes page) →
    (sent ≡ PageContent.Zero) ↔ (contents space.host.bytes page ≡ zero_page)
zero_shown space page sent sound accepted is = zeros_sent (contents space.host.bytes page) page sent (whole_bytes space page (get space.host.bytes page) sound refl (here_there space page accepted)) is

-- a present page of a space that is lent

not_low : (page : ℕ) → (page < LOW_PAGE → ⊥) → LOW_PAGE ≤ page
not_low page h = grind (arith, nat_tests, h)

not_high : (page : ℕ) → (HIGH_PAGE ≤ page → ⊥) → page < HIGH_PAGE
not_high page h = grind (arith, nat_tests, h)

pub page_of_present : (space : Space) (page : ℕ) → IsLent space → IsSoundSpace space → is_present space page ≡ true → IsPage page
page_of_present space page lent sound here =
    let not_mapped = λ (none : contains_key space.host.areas page ≡ false).
    false≢true (sym (only_where (is_present space page) (contains_key space.host.areas page) (has_areas space.host page sound.host) none) ∙ here) in
    (not_low page (λ low. not_mapped (lent.low page low)), not_high page (λ high. not_mapped (ap is_some (sound.host.bound page high))))
  where
    has_areas : (host : Host) (page : ℕ) → IsSound host → contains_key host.bytes page ≡ true → contains_key host.areas page ≡ true
    has_areas host page sound h = grind (arith, nat_tests)

-- a page that was protected

pub bytes_shown : (space new : Space) (page : ℕ) → send_refusal space page 1 ≡ None → new ≡ protected_in space page 1 true → get new.host.bytes page ≡ Some (contents space.host.bytes page)
bytes_shown space new page accepted is = ap (λ s. get s.host.bytes page) is ∙ sym (present_bytes (get space.host.bytes page) zero_page (here_there space page accepted))

pub protected_shown : (space new : Space) (page : ℕ) → page < HIGH_PAGE → send_refusal space page 1 ≡ None → new ≡ protected_in space page 1 true → contains new.protected page ≡ true
protected_shown space new page low accepted is =
    ap (λ s. contains s.protected page) is ∙ member_below _ HIGH_PAGE page
    ∙ protected_now (ltb page HIGH_PAGE) (in_range page 1 page) (is_present space page) (contains space.protected page) (lt-ltb page HIGH_PAGE low) (here_there space page accepted)
    (ap (λ b. b || contains space.protected page) (in_range-true page 1 page (omega arith) (omega arith)))

-- Runs

pub run_more : (node : Source) (first n : ℕ) → run_of node first (suc n) ≡ run_of node first n ++ bytes_of node (first + n) ∷ []
run_more node first zero = ap (λ q. bytes_of node q ∷ []) (omega arith)
run_more node first (suc n) = ap (λ pages. bytes_of node first ∷ pages) (run_more node (1 + first) n ∙ ap (λ q. run_of node (1 + first) n ++ bytes_of node q ∷ []) (omega arith))

-- one more page of a run is read
pub run_read : (pages : List (List ℕ)) (page : List ℕ) (node : Source) (first i : ℕ) → i < length pages → page ≡ bytes_of node (first + i) → take i pages ≡ run_of node first i
    → take (i + 1) (set pages i page) ≡ run_of node first (i + 1)
run_read pages page node first i low value before =
    let more : suc i ≡ i + 1 = omega arith in
    take_more_set pages i page low ∙ ap (λ xs. xs ++ page ∷ []) before ∙ ap (λ bytes. run_of node first i ++ bytes ∷ []) value
    ∙ sym (run_more node first i) ∙ ap (run_of node first) more
