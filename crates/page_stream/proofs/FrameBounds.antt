-- Every frame that a node sends has a text: what its pages, counts and commands rest on, and the frames themselves.
use Rattle.std.proofs.lemmas.Bool.Decides.{nat_tests}
use Rattle.std.proofs.Common.{◌≡◌, ℕ, zero, suc, ◌+◌, ◌^◌, ◌<◌, ◌≤◌, Bool, true, false, ltb, Option, Some, is_some, List, [], ◌∷◌, ◌++◌, refl, sym, ap, ◌∙◌, subst, arith, length, if◌then◌else◌}
use Rattle.std.specs.Prelude.{map}
use Rattle.std.specs.Ordering.{nat_cmp}
use Rattle.std.specs.FinMap.{contains_key, get}
use Rattle.std.specs.FinSet.{FinSet, contains}
use Rattle.std.proofs.lemmas.Bool.{and_parts}
use lib.ListN.{length-map}
use Rattle.mig_base.specs.declared.TheConstants.{LOW_PAGE, HIGH_PAGE}
use Rattle.mig_base.specs.declared.phase.Received.{Received}
use Rattle.mig_base.proofs.PageLemmas.{count_below-contains_key}
use Rattle.mig_base.proofs.SetLemmas.{member_below}
use Rattle.mig_model.specs.Host.{Host, IsSound}
use Rattle.mig_base.specs.declared.act.Act.{Act}
use Rattle.mig_model.specs.Guest.{is_present}
use Rattle.mig_base.specs.declared.act.Act.TheVariants.{Requested}
use Rattle.mig_model.specs.Log.{less, no_pages, present}
use Rattle.mig_model.specs.Owed.{origins}
use Rattle.mig_model.specs.Space.{Space}
use Rattle.mig_model.specs.Wire.{Frame, Sent, page_frame, sending, sending_if}
use Rattle.mig_model.specs.Wire.Frame.{Run, End, Resume, Request}
use Rattle.mig_model.specs.Cpus.{outstanding}
use Rattle.mig_model.specs.Source.{Source, bytes_of, is_released, not_clean, package_frames, rebuild_frames, run_of, space_of, switch_frames}
use Rattle.mig_model.specs.Destination.{Destination, act_frames, destination_act_by, destination_acted_by, destination_answers, received_of, recv_by}
use Rattle.mig_model.specs.Migration.{World}
use Rattle.mig_model.specs.Bounds.{AreFewPages, ArePageBytes, ArePages, AreUrgentFew, IsCpuCount, IsFrame, IsMapping, IsPage, AreListed}
use Rattle.page_stream.proofs.PageBytes.{HasBytes, contents_bytes}
use Rattle.mig_model.proofs.memory.CommandLemmas.{length-contents}
use Rattle.mig_model.proofs.memory.Facts.{owed_is_present}
use Rattle.mig_model.proofs.transcript.RightCommands.{AllRight, right_commands}
use Rattle.mig_base.proofs.SetSizes.{count_below-few, len-below, only_where}
use Rattle.mig_model.proofs.invariant.Delivery.{pair-origins}
use Rattle.mig_model.proofs.memory.PageLists.{listed_or_more, less_pages, few_none}

-- Lists of frames

-- each frame of a wire has a text, its epoch aside
abbrev pub AreBodies : List Sent → Type 0
AreBodies [] = Unit {0}
AreBodies (sent ∷ rest) = IsFrame sent.frame × AreBodies rest

abbrev pub AllFrames : List Frame → Type 0
AllFrames [] = Unit {0}
AllFrames (frame ∷ frames) = IsFrame frame × AllFrames frames

bodies-push : (wire : List Sent) (sent : Sent) → AreBodies wire → IsFrame sent.frame → AreBodies (wire ++ sent ∷ [])
bodies-push [] sent are is = (is, tt)
bodies-push (first ∷ wire) sent are is = (are.0, bodies-push wire sent are.1 is)

pub bodies-sending : (wire : List Sent) (epoch : ℕ) (frames : List Frame) → AreBodies wire → AllFrames frames → AreBodies (sending wire epoch frames)
bodies-sending wire epoch [] are all = are
bodies-sending wire epoch (frame ∷ frames) are all = grind (arith, nat_tests, bodies-push, bodies-sending (wire ++ record { epoch = epoch; frame = frame } ∷ []) epoch frames (bodies-push wire (record { epoch = epoch; frame = frame }) are all.0) all.1)

pub bodies-sending_if : (up : Bool) (wire : List Sent) (epoch : ℕ) (frames : List Frame) → AreBodies wire → AllFrames frames → AreBodies (sending_if up wire epoch frames)
bodies-sending_if up wire epoch frames are all = grind (arith, nat_tests, bodies-sending)

frames-requests : (requests : List ℕ) → AreListed requests → AllFrames (map Request requests)
frames-requests [] are = tt
frames-requests (request ∷ requests) are = (are.0, frames-requests requests are.1)

-- Pages of the source

has_areas : (host : Host) (page : ℕ) → IsSound host → contains_key host.bytes page ≡ true → contains_key host.areas page ≡ true
has_areas host page sound h = grind (arith, nat_tests)

pub present_page : (host : Host) (page : ℕ) → IsSound host → IsMapping host.areas → contains_key host.bytes page ≡ true → IsPage page
present_page host page sound mapping h = mapping.pages page (has_areas host page sound h)

-- a set of present pages
pub present_pages : (host : Host) (set : FinSet nat_cmp) → IsSound host → IsMapping host.areas → ((page : ℕ) → contains set page ≡ true → contains_key host.bytes page ≡ true) → AreFewPages set
present_pages host set sound mapping h =
    let mapped : (page : ℕ) → contains set page ≡ true → contains_key host.areas page ≡ true = λ page m. has_areas host page sound (h page m) in
    let all = len-below set HIGH_PAGE (λ page l. only_where (contains set page) (contains_key host.areas page) (mapped page) (ap is_some (sound.bound page l))) in
    let few = count_below-few (contains set) (contains_key host.areas) HIGH_PAGE mapped in
    let count = count_below-contains_key HIGH_PAGE host.areas sound.bound in
    let most = mapping.few in (λ page m. mapping.pages page (mapped page m), omega (arith, all, few, count, most))

-- the frame of a present page
pub page_good : (source : Source) (page : ℕ) → IsSound (space_of source).host → IsMapping (space_of source).host.areas → HasBytes (space_of source).host.bytes → is_present (space_of source) page ≡ true → IsFrame (page_frame page (bytes_of source page))
page_good source page sound mapping bytes h = grind (arith, nat_tests, present_page, length-contents, contents_bytes)

-- the frame of a run of them
pub length-run_of : (source : Source) (first number : ℕ) → length (run_of source first number) ≡ number
length-run_of source first zero = refl
length-run_of source first (suc number) = ap suc (length-run_of source (1 + first) number)

run_bytes : (source : Source) (first number : ℕ) → IsSound (space_of source).host → HasBytes (space_of source).host.bytes → ArePageBytes (run_of source first number)
run_bytes source first zero sound bytes = tt
run_bytes source first (suc number) sound bytes = grind (arith, nat_tests, length-contents, contents_bytes, run_bytes source (1 + first) number sound bytes)

pub run_good : (source : Source) (first number : ℕ) → IsSound (space_of source).host → HasBytes (space_of source).host.bytes → 0 < number → number ≤ 64 → LOW_PAGE ≤ first → first + number ≤ HIGH_PAGE → IsFrame (Run first (run_of source first number))
run_good source first number sound bytes some few low end = grind (arith, nat_tests, length-run_of, run_bytes)

-- Discard and Package

pub package_good : (source : Source) (discarded owed : FinSet nat_cmp) → IsSound (space_of source).host → IsMapping (space_of source).host.areas → ArePages discarded → ((page : ℕ) → contains owed page ≡ true → is_present (space_of source) page ≡ true) →
    AllRight source.guest.cpus → IsCpuCount (length source.guest.cpus) → AllFrames (package_frames source discarded owed)
package_good source discarded owed sound mapping are here right count =
    (are, ((mapping, present_pages (space_of source).host owed sound mapping here, right_commands source.guest.cpus right, subst IsCpuCount (sym (length-map source.guest.cpus outstanding)) count), tt))

pub switch_good : (source : Source) → IsSound (space_of source).host → IsMapping (space_of source).host.areas → ArePages source.log.sent → AllRight source.guest.cpus → IsCpuCount (length source.guest.cpus) → AllFrames (switch_frames source)
switch_good source sound mapping sent right count =
    package_good source (less source.log.sent source.log.clean) (not_clean source) sound mapping (less_pages source.log.sent source.log.clean sent) (λ page h. owed_is_present source page h) right count

pub member_present : (space : Space) (page : ℕ) → contains (present space) page ≡ true → is_present space page ≡ true
member_present space page h = (and_parts (ltb page HIGH_PAGE) (is_present space page) (sym (member_below (λ q. is_present space q) HIGH_PAGE page) ∙ h)).1

rebuilt_by : (switched : Bool) (source : Source) → IsSound (space_of source).host → IsMapping (space_of source).host.areas → (switched ≡ true → AllRight source.guest.cpus) → IsCpuCount (length source.guest.cpus) →
    AllFrames (if switched then package_frames source no_pages (present (space_of source)) else [])
rebuilt_by switched source sound mapping right count = grind (arith, nat_tests, package_good, few_none, member_present)

pub rebuilt_good : (state : Received) (source : Source) → IsSound (space_of source).host → IsMapping (space_of source).host.areas → (state ≡ Received.NotRun → AllRight source.guest.cpus) → IsCpuCount (length source.guest.cpus) → AllFrames (rebuild_frames state source)
rebuilt_good state source sound mapping right count = grind (arith, nat_tests, rebuilt_by)

-- The answers of the destination

abbrev pub OriginsPresent : World → Type 0
OriginsPresent world = (page origin : ℕ) → get world.destination.owed page ≡ Some origin → contains_key (space_of world.source).host.bytes origin ≡ true

recv_good : (state : Received) (world : World) → IsSound (space_of world.source).host → IsMapping (space_of world.source).host.areas → OriginsPresent world → AreListed world.destination.requests → AllFrames (recv_by state world.destination)
recv_good Received.NotRun world sound mapping here asked = (few_none, tt)
recv_good Received.Running world sound mapping here asked = (
  present_pages (space_of world.source).host (origins world.destination.owed) sound mapping (λ origin h. let pair = pair-origins world.destination.owed origin h in here pair.0 origin pair.1),
  frames-requests world.destination.requests asked,
)
recv_good Received.Ended world sound mapping here asked = (few_none, tt)

pub answers_good : (frame : Frame) (world : World) → IsSound (space_of world.source).host → IsMapping (space_of world.source).host.areas → OriginsPresent world → AreListed world.destination.requests → AllFrames (destination_answers world.destination frame)
answers_good (End urgent) world sound mapping here asked = (tt, tt)
answers_good Resume world sound mapping here asked = recv_good (received_of world.destination) world sound mapping here asked
answers_good _ world sound mapping here asked = tt

pub act_good : (act : Act) (node : Destination) → ((origin : ℕ) → act ≡ Requested origin → IsPage origin) → AllFrames (act_frames act node)
act_good act node h = grind (arith, nat_tests)

pub act_listed : (act : Act) (node : Destination) (page : ℕ) → ((origin : ℕ) → act ≡ Requested origin → IsPage origin) → AreListed node.requests → AreListed (destination_acted_by act node page).requests
act_listed act node page h asked = grind (arith, nat_tests, listed_or_more)

-- what is asked for is owed
pub requested_owed : (gone here : Bool) (owed : Option ℕ) (origin : ℕ) → destination_act_by gone here owed ≡ Requested origin → owed ≡ Some origin
requested_owed gone here owed origin h = grind (arith, nat_tests)

-- The count that End tells

pub end_good : (world : World) → IsSound (space_of world.source).host → IsMapping (space_of world.source).host.areas → world.source.switched ≡ true → is_released world.source.phase ≡ false → AreUrgentFew world → world.source.urgent_sent < 2 ^ 32
end_good world sound mapping switched unreleased few = grind (arith, nat_tests, present_pages, member_present)
