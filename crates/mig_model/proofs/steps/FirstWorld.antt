-- A world in which nothing has happened keeps what every world keeps.
use Rattle.std.proofs.Common.{◌≡◌, false, true, List, [], length, ◌≤◌, ◌≢◌, ℕ, Some, refl, sym, ◌∙◌, inr, arith}
use Rattle.std.specs.Ordering.{nat_cmp}
use Rattle.std.specs.FinMap.{get, empty, get-empty}
use Rattle.std.proofs.lemmas.Bool.{false≢true}
use Rattle.std.proofs.lemmas.Option.{none-some}
use Rattle.mig_base.specs.declared.phase.SourcePhase.{SourcePhase}
use Rattle.mig_model.specs.Space.{fresh_space}
use Rattle.mig_model.specs.Ioctls.{all_features}
use Rattle.mig_model.specs.Migration.{World, first_world_with}
use Rattle.mig_model.specs.Invariant.{IsSoundWorld, AreSoundPhases, IsSoundLog, IsSoundPushing, IsSoundOwing}
use Rattle.mig_model.proofs.memory.HostLemmas.{memory-empty}
use Rattle.mig_model.proofs.memory.SpaceLemmas.{IsSoundSpace-fresh, no_member}
use Rattle.mig_model.proofs.memory.IoctlLemmas.{IsSoundSpace-enabled}
use Rattle.mig_model.proofs.memory.Facts.{no_page}
use Rattle.mig_model.specs.Log.{no_pages}
use Rattle.mig_model.specs.Source.{space_of}
use Rattle.std.specs.FinSet.{contains}
use Rattle.mig_model.proofs.invariant.WireLemmas.{flight_up}

no_pair : {X : Type 0} {A : Type 0} (page : ℕ) (x : X) → get {R = nat_cmp} empty page ≡ Some x → A
no_pair page x h = absurd (none-some x (sym (get-empty nat_cmp page) ∙ h))

idle_not_paused : SourcePhase.Idle ≢ SourcePhase.Paused
idle_not_paused h = cc

idle_not_released : SourcePhase.Idle ≢ SourcePhase.Released
idle_not_released h = cc

pub kept-first : (cpus epoch rounds : ℕ) → IsSoundWorld (first_world_with cpus epoch rounds)
kept-first cpus epoch rounds =
    let new : World = first_world_with cpus epoch rounds in
    let never : false ≡ true → ⊥ = false≢true in
    let unprotected : (page : ℕ) → contains new.destination.guest.space.protected page ≡ false = no_member in
    let phases : AreSoundPhases SourcePhase.Idle false new.destination.phase false false [] =
    record { source_phase = refl; destination_phase = refl; ran_after_switch = λ h. absurd (never h); ended_after_run = λ h. absurd (never h); source_quiet = λ h. refl } in
    let precopy : IsSoundLog SourcePhase.Idle false (space_of new.source) no_pages no_pages no_pages =
    record { idle_source = λ h. (refl, refl, refl, refl, no_member); clean_protected = λ h page clean. no_page page clean; todo_sendable = λ h page todo. no_page page todo } in
    let pushing : IsSoundPushing SourcePhase.Idle false true epoch 0 (space_of new.source) no_pages =
    record {
      before_switch = λ h. (refl, inr refl);
      end_sent = λ h. refl;
      remaining_present = λ page h. no_page page h;
      ended_before = omega arith;
      paused_fresh = λ up h. absurd (idle_not_paused h);
      released_empty = λ h. absurd (idle_not_released h);
    } in
    let kept_whole : (page : ℕ) (bytes : List ℕ) → get new.destination.kept page ≡ Some bytes → length bytes ≡ 4096 = λ page bytes h. no_pair page bytes h in
    let owing : IsSoundOwing (space_of new.source).host.bytes fresh_space false false empty [] =
    record {
      not_run = λ h. (refl, refl, refl);
      one_to_one = λ page other origin h. no_pair page origin h;
      owed_below = λ page origin h. no_pair page origin h;
      origins_present = λ page origin h. no_pair page origin h;
      pairs_missing = λ page origin h. no_pair page origin h;
      arrivals_faithful = λ h. tt;
      ended_empty = λ h. absurd (never h);
    } in
    let not_ahead : new.destination.epoch ≤ epoch = omega arith in
    let nothing : Unit {0} = tt in
    assumption (memory-empty, IsSoundSpace-enabled fresh_space all_features IsSoundSpace-fresh, IsSoundSpace-fresh, flight_up new refl (λ h. tt) (refl, refl, refl))
