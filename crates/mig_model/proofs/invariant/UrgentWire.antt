-- The urgent wire: what each step keeps of it.
use Rattle.std.proofs.lemmas.Bool.Decides.{nat_tests}
use Rattle.std.proofs.Common.{◌≡◌, ◌≢◌, ℕ, ◌≤◌, ◌&&◌, Bool, true, false, not, List, [], ◌∷◌, ◌++◌, ap, arith}
use Rattle.std.specs.Ordering.{nat_cmp}
use Rattle.std.specs.FinMap.{FinMap}
use Rattle.mig_base.specs.declared.phase.DestPhase.{DestPhase}
use Rattle.mig_base.specs.declared.phase.SourcePhase.{SourcePhase}
use Rattle.mig_model.specs.Wire.{Frame, Sent, Wire, is_copy, page_frame, sending}
use Rattle.mig_model.specs.Wire.Frame.{End}
use Rattle.mig_model.specs.Migration.{World}
use Rattle.mig_model.specs.Faults.{is_early}
use Rattle.mig_model.specs.Source.{is_stopped, is_precopy, is_source_idle, is_source_paused}
use Rattle.mig_model.specs.Invariant.{AreTold, IsSoundUrgent, IsSoundWorld, IsTold, SwitchedAt, are_copies, AreSoundUrgent}
use Rattle.mig_model.proofs.invariant.FirstFrame.{comes, first_in_place}

-- Lists of frames

are_copies_by : (one more all : Bool) → (one && all) ≡ true → (all ≡ true → more ≡ true) → (one && more) ≡ true
are_copies_by one more all h k = grind (arith, nat_tests)

pub are_copies-push : (frames : List Sent) (sent : Sent) → is_copy sent.frame ≡ true → are_copies frames ≡ true → are_copies (frames ++ sent ∷ []) ≡ true
are_copies-push [] sent is are = ap (λ b. b && true) is
are_copies-push (first ∷ frames) sent is are = are_copies_by (is_copy first.frame) (are_copies (frames ++ sent ∷ [])) (are_copies frames) are (are_copies-push frames sent is)

pub is_copy_page : (page : ℕ) (bytes : List ℕ) → is_copy (page_frame page bytes) ≡ true
is_copy_page page bytes = grind (arith, nat_tests)

-- What End tells

abbrev pub AllTold : (epoch end_epoch count : ℕ) → List Frame → Type 0
AllTold epoch end_epoch count [] = Unit {0}
AllTold epoch end_epoch count (frame ∷ frames) = IsTold epoch end_epoch count frame × AllTold epoch end_epoch count frames

pub told-push : (epoch end_epoch count : ℕ) (wire : List Sent) (sent : Sent) → AreTold epoch end_epoch count wire → IsTold epoch end_epoch count sent.frame → AreTold epoch end_epoch count (wire ++ sent ∷ [])
told-push epoch end_epoch count [] sent told is = (is, tt)
told-push epoch end_epoch count (first ∷ wire) sent told is = (told.0, told-push epoch end_epoch count wire sent told.1 is)

pub told-sending : (epoch end_epoch count : ℕ) (wire : List Sent) (at : ℕ) (frames : List Frame) → AreTold epoch end_epoch count wire → AllTold epoch end_epoch count frames → AreTold epoch end_epoch count (sending wire at frames)
told-sending epoch end_epoch count wire at [] told are = told
told-sending epoch end_epoch count wire at (frame ∷ frames) told are = grind (arith, nat_tests, told-push, told-sending epoch end_epoch count (wire ++ record { epoch = at; frame = frame } ∷ []) at frames (told-push epoch end_epoch count wire (record { epoch = at; frame = frame }) told are.0) are.1)

pub told_page : (epoch end_epoch count page : ℕ) (bytes : List ℕ) → IsTold epoch end_epoch count (page_frame page bytes)
told_page epoch end_epoch count page bytes = grind (arith, nat_tests)

-- where End was not sent in this epoch there is none in flight
open_one : (epoch end_epoch count new : ℕ) (frame : Frame) → end_epoch ≢ epoch → IsTold epoch end_epoch count frame → IsTold epoch end_epoch new frame
open_one epoch end_epoch count new frame other told = grind (arith, nat_tests)

pub told_open : (epoch end_epoch count new : ℕ) (wire : List Sent) → end_epoch ≢ epoch → AreTold epoch end_epoch count wire → AreTold epoch end_epoch new wire
told_open epoch end_epoch count new [] other told = tt
told_open epoch end_epoch count new (sent ∷ wire) other told = (open_one epoch end_epoch count new sent.frame other told.0, told_open epoch end_epoch count new wire other told.1)

ended_one : (epoch end_epoch count : ℕ) (frame : Frame) → IsTold epoch end_epoch count frame → IsTold epoch epoch count frame
ended_one epoch end_epoch count frame told = grind (arith, nat_tests)

pub told_ended : (epoch end_epoch count : ℕ) (wire : List Sent) → AreTold epoch end_epoch count wire → AreTold epoch epoch count wire
told_ended epoch end_epoch count [] told = tt
told_ended epoch end_epoch count (sent ∷ wire) told = (ended_one epoch end_epoch count sent.frame told.0, told_ended epoch end_epoch count wire told.1)

-- The record with another part

pub other_bytes : {from : SourcePhase} {epoch end_epoch count : ℕ} {bytes : FinMap nat_cmp (List ℕ)} {to : DestPhase} {has_run : Bool} {taken : ℕ} {forward : List Sent} {urgent : Wire} {up : Bool} (new : FinMap nat_cmp (List ℕ)) → is_stopped from ≡ false →
    IsSoundUrgent from epoch end_epoch count bytes to has_run taken forward urgent up → IsSoundUrgent from epoch end_epoch count new to has_run taken forward urgent up
other_bytes {urgent = urgent} new not h = grind (arith, nat_tests)

pub other_forward : {from : SourcePhase} {epoch end_epoch count : ℕ} {bytes : FinMap nat_cmp (List ℕ)} {to : DestPhase} {has_run : Bool} {taken : ℕ} {forward : List Sent} {urgent : Wire} {up : Bool} (new : List Sent) → AreTold epoch end_epoch count new →
    IsSoundUrgent from epoch end_epoch count bytes to has_run taken forward urgent up → IsSoundUrgent from epoch end_epoch count bytes to has_run taken new urgent up
other_forward new told h = grind (arith, nat_tests)

-- Phases

pub not_stopped : (phase : SourcePhase) (switched : Bool) → SwitchedAt phase switched → switched ≡ false → is_stopped phase ≡ false
not_stopped phase switched at not = grind (arith, nat_tests)

pub is_paused : (phase : SourcePhase) → is_source_paused phase ≡ true → phase ≡ SourcePhase.Paused
is_paused phase h = grind (arith, nat_tests)

pub idle_unstopped : (phase : SourcePhase) → is_source_idle phase ≡ true → is_stopped phase ≡ false
idle_unstopped phase h = grind (arith, nat_tests)

pub precopy_unstopped : (phase : SourcePhase) → is_precopy phase ≡ true → is_stopped phase ≡ false
precopy_unstopped phase h = grind (arith, nat_tests)

pub stopped_unpaused : (phase : SourcePhase) → is_stopped phase ≡ true → phase ≢ SourcePhase.Paused
stopped_unpaused phase h e = grind (arith, nat_tests)

-- Which phases a first frame tells

pub placed : (world : World) (sent : Sent) (rest : List Sent) → IsSoundWorld world → world.forward.frames ≡ sent ∷ rest → world.up ≡ true → comes world.source.phase world.destination.phase sent.frame ≡ true
placed world sent rest kept first up = grind (arith, nat_tests, first_in_place)

-- What an End that comes first tells

-- it counts no fewer urgent frames than came, and where it counts no more none is on its way
abbrev pub EndTells : Frame → World → Type 0
EndTells frame world = (count : ℕ) → frame ≡ End count → (world.destination.urgent_taken ≤ count) × (count ≤ world.destination.urgent_taken → world.urgent.frames ≡ [])

pub end_tells : (world : World) (sent : Sent) (rest : List Sent) → IsSoundWorld world → AreSoundUrgent world → world.forward.frames ≡ sent ∷ rest → world.up ≡ true → EndTells sent.frame world
end_tells world sent rest kept h first up count is = grind (arith, nat_tests)

-- End is taken once all urgent frames have arrived
pub all_came : (world : World) (sent : Sent) (rest : List Sent) → IsSoundWorld world → AreSoundUrgent world → world.forward.frames ≡ sent ∷ rest → world.up ≡ true → is_early world.destination sent.frame ≡ false →
    (count : ℕ) → sent.frame ≡ End count → world.urgent.frames ≡ []
all_came world sent rest kept h first up early count is = grind (arith, nat_tests)
