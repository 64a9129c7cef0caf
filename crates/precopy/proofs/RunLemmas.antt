-- A run: the step that sends it, its pages, which can be sent, and its frame.
use Rattle.std.proofs.Common.{◌≡◌, ℕ, ◌+◌, ◌<◌, ◌≤◌, List, sym, subst, true, false, not, ltb, None, length, refl, ap, ◌∙◌, arith}
use Rattle.std.specs.Prelude.{Ok, Err, Result}
use Rattle.std.specs.FinSet.{contains}
use Rattle.mig_base.specs.declared.effect.Effect.{Effect}
use Rattle.mig_base.specs.declared.refusal.Refusal.{Refusal}
use Rattle.mig_base.specs.declared.TheConstants.{HIGH_PAGE, LOW_PAGE, MAX_RUN}
use Rattle.foundation.specs.Ranges.{in_range}
use Rattle.mig_base.specs.Sets.{run_length}
use Rattle.foundation.specs.Tests.{is_every}
use Rattle.foundation.proofs.RangeLemmas.{in_range-true, least_below_tells, none_below-from}
use Rattle.mig_base.proofs.SetLemmas.{member_run, run_length-some}
use Rattle.mig_model.specs.Bounds.{ArePageBytes, IsFrame}
use Rattle.mig_model.specs.SourceSteps.{next_to_send, run_bound, send, send_pages, send_run}
use Rattle.mig_model.specs.NodeSteps.{IsRefusedFor as IsStepRefused, Sends, and_then, checked}
use Rattle.mig_model.specs.Source.{Source, run_of, space_of}
use Rattle.mig_model.specs.Space.{Space}
use Rattle.mig_model.specs.Wire.{Frame}
use Rattle.mig_model.proofs.memory.HandlerCalls.{some_bound}
use Rattle.dirty_log.specs.Answers.{IsRefusedAs, send_refusal}
use Rattle.dirty_log.specs.Spaces.{is_sendable}
use Rattle.precopy.specs.Order.{AreSendable}
use Rattle.precopy.proofs.SendLemmas.{least_sent, no_unread, only_memory, quiet, send_checked}
use Rattle.precopy.proofs.StepLemmas.{lacks}
use Rattle.page_stream.proofs.FrameBounds.{length-run_of}
use Rattle.page_stream.proofs.FrameSteps.{most_bound}

-- how many pages a run from here has
abbrev pub pages_from : Source → ℕ → ℕ → ℕ
pages_from node first count = run_length node.log.todo first (run_bound count)

pub few_are : (node : Source) (first count most pages : ℕ) → pages ≡ run_length node.log.todo first most → most ≡ run_bound count → pages ≡ pages_from node first count
few_are node first count most pages is bound = is ∙ ap (run_length node.log.todo first) bound

-- SendRun

by_found : (node : Source) (count : ℕ) (found : Result ℕ Refusal) → next_to_send node ≡ found → checked (send node) ≡ checked (send_run node count)
by_found node count (Ok first) is = rw is refl
by_found node count (Err refusal) is = rw is refl

pub run_checked : (node : Source) (count : ℕ) → checked (send node) ≡ checked (send_run node count)
run_checked node count = by_found node count (next_to_send node) refl

abbrev effect_of : Result (Sends Source) Refusal → Effect
effect_of (Ok made) = made.effect
effect_of (Err refusal) = Effect.EndSent

abbrev pages_in : Effect → ℕ
pages_in (Effect.SentRun addr pages) = pages
pages_in effect = 0

-- the run that SendRun sends has these pages
pub run_found : (node : Source) (count first pages : ℕ) → next_to_send node ≡ Ok first → send_run node count ≡ send_pages node first pages → pages ≡ pages_from node first count
run_found node count first pages is made =
    ap (λ step. pages_in (effect_of step)) (sym made ∙ ap (λ found. and_then found (λ page. send_pages node page (run_length node.log.todo page (run_bound count)))) is)

-- Its pages

-- the first page is one of the run
pub run_some : (node : Source) (first count : ℕ) → next_to_send node ≡ Ok first → 0 < pages_from node first count
run_some node first count is = run_length-some node.log.todo first (run_bound count) (least_below_tells (contains node.log.todo) HIGH_PAGE first (least_sent node first is)) (some_bound count)

all_sendable : (space : Space) (first pages : ℕ) → ((page : ℕ) → in_range first pages page ≡ true → is_sendable space page ≡ true) → is_every (is_sendable space) first pages ≡ true
all_sendable space first pages each = none_below-from (λ i. not (is_sendable space (first + i))) pages (λ i l. ap not (each (first + i) (in_range-true first pages (first + i) (omega arith) (omega arith))))

quiet_accepted : (space : Space) (first pages : ℕ) → ltb 0 (length space.object.events) ≡ false → is_every (is_sendable space) first pages ≡ true → send_refusal space first pages ≡ None
quiet_accepted space first pages quiet every = rw (quiet, every) refl

pub run_accepted : (node : Source) (first bound : ℕ) → next_to_send node ≡ Ok first → AreSendable node.log (space_of node) → send_refusal (space_of node) first (run_length node.log.todo first bound) ≡ None
run_accepted node first bound is kept =
    let none = quiet node first is in
    quiet_accepted (space_of node) first _ none (all_sendable (space_of node) first _ (λ page inside. kept page (member_run node.log.todo first bound page inside) (no_unread (space_of node).object.events page none)))

-- what a run that is refused then lacks is memory
pub run_stopped : (node : Source) (first count pages : ℕ) (refusal : Refusal) → next_to_send node ≡ Ok first → pages ≡ pages_from node first count → AreSendable node.log (space_of node) → IsRefusedAs (send_refusal (space_of node) first pages) refusal →
    IsStepRefused (send_run node count) refusal
run_stopped node first count pages refusal is few kept why =
    rw (only_memory refusal _ (ap (send_refusal (space_of node) first) few ∙ run_accepted node first (run_bound count) is kept) why) (lacks (send_run node count) (send_checked node _ is ∙ run_checked node count))

-- Its frame

pub few_pages : (node : Source) (first count pages most : ℕ) → most ≡ run_bound count → pages ≤ most → pages ≤ 64
few_pages node first count pages most is few = let bound = most_bound count in omega (arith, is, few, bound)

pub run_frame : (node : Source) (first count : ℕ) (pages : List (List ℕ)) (frame : Frame) → frame ≡ Frame.Run first pages → pages ≡ run_of node first count → 0 < count → count ≤ 64 → LOW_PAGE ≤ first → first + count ≤ HIGH_PAGE → ArePageBytes pages →
    IsFrame frame
run_frame node first count pages frame is bytes some few low end whole =
    let many = ap length bytes ∙ length-run_of node first count in
    subst IsFrame (sym is) (subst (λ n. 0 < n) (sym many) some, subst (λ n. n ≤ MAX_RUN) (sym many) few, low, subst (λ n. first + n ≤ HIGH_PAGE) (sym many) end, whole)
