-- A piece at which the decoder returns a fault.
use Rattle.std.proofs.Common.{◌≡◌, ℕ, List, [], Ok, Err, ap, subst, ◌∙◌}
use Rattle.std.specs.Prelude.{◌≢◌, Result, OnOk, OnErr, IfErr}
use Rattle.frame_decoder.specs.declared.fault.StreamFault.{StreamFault}
use Rattle.frame_decoder.specs.declared.fault.StreamFault.TheVariants as faults
use Rattle.frame_decoder.specs.Feeding.{FeedAnswer, Fed}
use Rattle.frame_decoder.specs.Streams.{Held}
use Rattle.postmig_c.specs.declared.queue.FeedFault.{FeedFault}
use Rattle.postmig_c.specs.declared.queue.FeedFault.TheVariants as refusals
use Rattle.postmig_c.specs.Queues.{Queue, Feeds}

-- the fault of an answer, or another if it has frames
abbrev fault_in : StreamFault → FeedAnswer → StreamFault
fault_in other (Ok frames) = other
fault_in other (Err fault) = fault

-- a fault other than NoMemory took the piece
pub feeds_despite : (before old : Queue) (decoder : Held) (piece : List ℕ) (fault : StreamFault) (result : Result (Unit {0}) FeedFault) → before ≡ old → OnOk result (fault ≢ faults.NoMemory) → old.waiting ≡ [] → Fed before.decoder piece (Err fault) decoder
    → OnOk result (Feeds old piece (record before { decoder = decoder }))
feeds_despite before old decoder piece fault (Ok u) is other none fed =
    let none_before = ap (λ (queue : Queue). queue.waiting) is ∙ none in
    subst (λ (queue : Queue). Feeds queue piece (record before { decoder = decoder })) is
    (Err fault, (λ same. other (ap (fault_in fault) same)), record { none = none_before; fed = fed; waiting = none_before })
feeds_despite before old decoder piece fault (Err e) is other none fed = tt

-- at NoMemory nothing changed
pub same_despite : (before old : Queue) (decoder : Held) (piece : List ℕ) (fault : StreamFault) (result : Result (Unit {0}) FeedFault) → before ≡ old → IfErr result (λ refusal. (refusal ≡ refusals.NoMemory) × (fault ≡ faults.NoMemory)) → Fed before.decoder piece (Err fault) decoder
    → OnErr result (record before { decoder = decoder } ≡ old)
same_despite before old decoder piece fault (Ok u) is lack fed = tt
same_despite before old decoder piece fault (Err e) is lack fed =
    let fed_none = subst (λ (f : StreamFault). Fed before.decoder piece (Err f) decoder) lack.1 fed in
    ap (λ (d : Held). record before { decoder = d }) fed_none.1 ∙ is
