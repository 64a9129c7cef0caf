-- The destination takes the Package, and runs: what it then has, with what it is owed, is the memory of the source.
use Rattle.std.proofs.Common.{◌≡◌, ℕ, zero, suc, ◌<◌, ◌&&◌, ◌||◌, Bool, true, false, cond, not, eqb, ltb, Option, Some, None, is_some, List, [], ◌∷◌, refl, sym, ap, ◌∙◌, subst, arith, length, if◌then◌else◌}
use Rattle.std.specs.Option.{option_and_then}
use Rattle.std.specs.Ordering.{nat_cmp}
use Rattle.std.specs.FinMap as finmap
use Rattle.std.specs.FinMap.{FinMap, get, contains_key, get-empty}
use Rattle.std.specs.FinSet.{FinSet, contains, contains-empty}
use Rattle.std.proofs.lemmas.Bool.{false≢true, false_from_ne_true, lt-ltb, and_from, ltb-false}
use Rattle.std.proofs.lemmas.Bool.Decides.{nat_tests}
use Rattle.std.proofs.lemmas.Option.{none-some}
use Rattle.mig_base.specs.declared.phase.DestPhase.{DestPhase}
use Rattle.mig_base.specs.declared.phase.SourcePhase.{SourcePhase}
use Rattle.mig_base.specs.declared.TheConstants.{HIGH_PAGE}
use Rattle.mig_base.specs.declared.Prot.{Prot}
use Rattle.mig_base.specs.declared.command.Command.{Command}
use Rattle.mig_base.specs.Pages.{map_below}
use Rattle.mig_base.specs.Flat.{memory_of}
use Rattle.mig_base.proofs.PageLemmas.{same_pages, get-put, get-map_below}
use Rattle.mig_base.proofs.SetLemmas.{member_below}
use Rattle.mig_model.specs.Host.{Host, memory, IsSound}
use Rattle.mig_model.specs.Space.{fresh_space, IsSoundSpace}
use Rattle.mig_model.specs.Guest.{is_present}
use Rattle.mig_model.specs.Wire.{Sent}
use Rattle.mig_model.specs.Wire.Frame.{Package}
use Rattle.mig_model.specs.Migration.{World}
use Rattle.mig_model.specs.Whereabouts.{IsSwitching, AreFaithful, copies_of, has_copy, are_requests, seen_host, seen_bytes, current_host, is_urgent_or_left}
use Rattle.mig_model.specs.Invariant.{IsSoundWorld, IsFlowing, AreOf}
use Rattle.mig_model.proofs.invariant.FirstFrame.{at_state, delivered}
use Rattle.mig_model.specs.Log.{no_pages}
use Rattle.mig_model.specs.Owed.{own_places}
use Rattle.mig_model.specs.Source.{Source, space_of}
use Rattle.mig_model.specs.Destination.{assembled, settled}
use Rattle.mig_model.proofs.invariant.WireLemmas.{fits-none, flight_up}
use Rattle.mig_model.proofs.invariant.SourceRounds.{present_mapped}

-- Owed pages at their own places

placed : (owed : FinSet nat_cmp) (bound q : ℕ) → cond (eqb q bound) (cond (contains owed bound) (Some bound) None) (cond (ltb q bound && contains owed q) (Some q) None) ≡ cond (ltb q (suc bound) && contains owed q) (Some q) None
placed owed bound q = grind (arith, nat_tests)

none_lower : (q : ℕ) (b : Bool) → cond (ltb q 0 && b) (Some q) None ≡ None
none_lower q b = grind (arith, nat_tests)

pub get-own_places : (owed : FinSet nat_cmp) (bound q : ℕ) → get (own_places owed bound) q ≡ (if ltb q bound && contains owed q then Some q else None)
unfolding own_places
get-own_places owed zero q = get-empty nat_cmp q ∙ sym (none_lower q (contains owed q))
get-own_places owed (suc bound) q = grind (arith, nat_tests, get-put, placed, get-own_places owed bound q)

-- what a pair of the table tells
pub own_place : (owed : FinSet nat_cmp) (page origin : ℕ) → get (own_places owed HIGH_PAGE) page ≡ Some origin → (page < HIGH_PAGE) × (contains owed page ≡ true) × (origin ≡ page)
own_place owed page origin h = grind (arith, nat_tests, get-own_places)

-- The space that is put together

missing_by : (low mapped empty : Bool) → empty ≡ false → (low && cond (mapped && not ((false || empty) && (true || empty))) true empty) ≡ (low && mapped)
missing_by low mapped empty h = grind arith

protect_by : (low mapped empty : Bool) → empty ≡ false → (low && cond (mapped && not ((false || empty) && (true || empty))) false empty) ≡ false
protect_by low mapped empty h = grind arith

pub assembled_missing : (areas : FinMap nat_cmp Prot) (kept : FinMap nat_cmp (List ℕ)) (page : ℕ) → contains (assembled areas kept).object.missing page ≡ (ltb page HIGH_PAGE && contains_key areas page)
assembled_missing areas kept page = member_below _ HIGH_PAGE page ∙ missing_by (ltb page HIGH_PAGE) (contains_key areas page) (contains {R = nat_cmp} no_pages page) (contains-empty nat_cmp page)

pub assembled_protect : (areas : FinMap nat_cmp Prot) (kept : FinMap nat_cmp (List ℕ)) (page : ℕ) → contains (assembled areas kept).object.protect page ≡ false
assembled_protect areas kept page = member_below _ HIGH_PAGE page ∙ protect_by (ltb page HIGH_PAGE) (contains_key areas page) (contains {R = nat_cmp} no_pages page) (contains-empty nat_cmp page)

and_second : (a b : Bool) → ((a && b) || false) ≡ true → b ≡ true
and_second a b h = grind arith

pub IsSoundSpace-assembled : (areas : FinMap nat_cmp Prot) (kept : FinMap nat_cmp (List ℕ)) → IsSound (record { areas = areas; bytes = kept }) → IsSoundSpace (assembled areas kept)
IsSoundSpace-assembled areas kept sound =
    record {
      host = sound;
      mapped = λ page h.
          and_second (ltb page HIGH_PAGE) (contains_key areas page)
          (sym (λ i. assembled_missing areas kept page i || assembled_protect areas kept page i) ∙ h);
      present = λ page h. absurd (false≢true (sym (contains-empty nat_cmp page) ∙ h));
      watched = λ page h. absurd (false≢true (sym (contains-empty nat_cmp page) ∙ h));
    }

-- The kept pages are those of the source that are not owed

abbrev IsRest : Host → FinSet nat_cmp → FinMap nat_cmp (List ℕ) → Type 0
IsRest host owed kept = (page : ℕ) → get kept page ≡ (if contains owed page then None else get host.bytes page)

-- a host of the source's areas with these pages is sound
sound_rest : (host : Host) (owed : FinSet nat_cmp) (areas : FinMap nat_cmp Prot) (kept : FinMap nat_cmp (List ℕ)) → areas ≡ host.areas → IsRest host owed kept → IsSound host →
    ((page : ℕ) (bytes : List ℕ) → get kept page ≡ Some bytes → length bytes ≡ 4096) → IsSound (record { areas = areas; bytes = kept })
sound_rest host owed areas kept same rest sound whole = grind (arith, nat_tests)

seen_rest : (low owed : Bool) (q : ℕ) (pages : FinMap nat_cmp (List ℕ)) (here : Option (List ℕ)) (own : Option ℕ) → here ≡ cond owed None (get pages q) → own ≡ cond (low && owed) (Some q) None → (low ≡ false → get pages q ≡ None) →
    cond low (elim here [ Some bytes ↦ Some bytes | None ↦ option_and_then (get pages) own ]) None ≡ get pages q
seen_rest low owed q pages here own kept place none = grind (arith, nat_tests)

-- with what is owed it is the memory of the source
pub seen_source : (host : Host) (owed : FinSet nat_cmp) (areas : FinMap nat_cmp Prot) (kept : FinMap nat_cmp (List ℕ)) → areas ≡ host.areas → IsRest host owed kept → IsSound host →
    seen_host (record { areas = areas; bytes = kept }) host (get (own_places owed HIGH_PAGE)) ≡ host
seen_source host owed areas kept same rest sound =
    let here : Host = record { areas = areas; bytes = kept } in
    let own = get (own_places owed HIGH_PAGE) in
    let bytes : map_below (seen_bytes here host own) HIGH_PAGE ≡ host.bytes =
    same_pages (map_below (seen_bytes here host own) HIGH_PAGE) host.bytes (λ q.
    get-map_below (seen_bytes here host own) HIGH_PAGE q
    ∙ seen_rest (ltb q HIGH_PAGE) (contains owed q) q host.bytes (get kept q) (own q) (rest q) (get-own_places owed HIGH_PAGE q)
    (λ l. sound.mapped q (sound.bound q (ltb-false q HIGH_PAGE l)))) in
    λ i. record { areas = same i; bytes = bytes i }

-- The step

owed_none : (owed : Bool) (o : Option (List ℕ)) → owed ≡ true → cond owed None o ≡ None
owed_none owed o h = ap (λ b. cond b None o) h

-- what the Package says, where it is the first frame
record IsPlan (source : Source) (kept : FinMap nat_cmp (List ℕ)) (rest urgent : List Sent) (areas : FinMap nat_cmp Prot) (owed : FinSet nat_cmp) : Type 0 where
  same : areas ≡ (space_of source).host.areas
  owed_present : (page : ℕ) → contains owed page ≡ true → is_present (space_of source) page ≡ true
  kept_rest : IsRest (space_of source).host owed kept
  whereabouts : (page : ℕ) → contains owed page ≡ true → (is_urgent_or_left source.remaining urgent page || has_copy (copies_of rest) page) ≡ true
  faithful : AreFaithful (space_of source).host.bytes (copies_of rest)

plan_of : (source : Source) (kept : FinMap nat_cmp (List ℕ)) (rest urgent : List Sent) (epoch : ℕ) (areas : FinMap nat_cmp Prot) (owed : FinSet nat_cmp) (commands : List (Option Command)) →
    IsSwitching source kept (record { epoch = epoch; frame = Package areas owed commands } ∷ rest) urgent → IsPlan source kept rest urgent areas owed
plan_of source kept rest urgent epoch areas owed commands w = grind (arith, nat_tests)

pub package_taken : (epoch : ℕ) (areas : FinMap nat_cmp Prot) (owed : FinSet nat_cmp) (commands : List (Option Command)) (rest : List Sent) (world : World) →
    let old : World = at_state SourcePhase.Stopped DestPhase.Discarding false true (record { epoch = epoch; frame = Package areas owed commands } ∷ rest) world in
    IsSoundWorld old → IsSoundWorld (delivered old old.forward.frames)
package_taken epoch areas owed commands rest world kept =
    let old : World = at_state SourcePhase.Stopped DestPhase.Discarding false true (record { epoch = epoch; frame = Package areas owed commands } ∷ rest) world in
    let new : World = delivered old old.forward.frames in
    let host : Host = world.source.guest.space.host in
    let pages : FinMap nat_cmp (List ℕ) = world.destination.kept in
    let w = kept.flight.wires refl in
    let sound : IsSound host = kept.spaces.source_space.host in
    let plan : IsPlan old.source pages rest world.urgent.frames areas owed = plan_of old.source pages rest world.urgent.frames epoch areas owed commands w.2 in
    let not_ended : world.destination.ended ≡ false = false_from_ne_true world.destination.ended (λ e. false≢true (kept.phases.ended_after_run e)) in
    let holds : memory (current_host new) ≡ memory_of new.transcript = ap memory (seen_source host owed areas pages plan.same plan.kept_rest sound) ∙ kept.memory.holds in
    let destination_space : IsSoundSpace new.destination.guest.space = IsSoundSpace-assembled areas pages (sound_rest host owed areas pages plan.same plan.kept_rest sound kept.copies.kept_whole) in
    let unprotected : (page : ℕ) → contains new.destination.guest.space.protected page ≡ false = λ page. contains-empty nat_cmp page in
    let not_run : new.destination.has_run ≡ false → (new.destination.owed ≡ finmap.empty) × (new.destination.guest.space ≡ fresh_space) × (new.destination.arrivals ≡ []) = λ h. absurd (false≢true (sym h)) in
    let kept_whole : (page : ℕ) (bytes : List ℕ) → get new.destination.kept page ≡ Some bytes → length bytes ≡ 4096 = λ page bytes h. absurd (none-some bytes (sym (get-empty nat_cmp page) ∙ h)) in
    let one_to_one = λ (page other origin : ℕ) (h : get new.destination.owed page ≡ Some origin) (g : get new.destination.owed other ≡ Some origin). sym (own_place owed page origin h).2 ∙ (own_place owed other origin g).2 in
    let owed_below = λ (page origin : ℕ) (h : get new.destination.owed page ≡ Some origin). (own_place owed page origin h).0 in
    let origins_present = λ (page origin : ℕ) (h : get new.destination.owed page ≡ Some origin). let own = own_place owed page origin h in ap (is_present new.source.guest.space) own.2 ∙ plan.owed_present page own.1 in
    let pairs_missing : (page origin : ℕ) → settled new.destination page ≡ Some origin → (contains new.destination.guest.space.object.missing page ≡ true) × (is_present new.destination.guest.space page ≡ false) =
    λ page origin h.
    let own = own_place owed page origin h in (
      assembled_missing areas pages page
          ∙ and_from (ltb page HIGH_PAGE) (contains_key areas page) (lt-ltb page HIGH_PAGE own.0) (ap (λ a. contains_key a page) plan.same ∙ present_mapped (space_of world.source) page kept.spaces.source_space (plan.owed_present page own.1)),
      ap is_some (plan.kept_rest page ∙ owed_none (contains owed page) (get host.bytes page) own.1),
    ) in
    let arrivals_faithful = subst (AreFaithful host.bytes) (sym (kept.owing.not_run refl).2) tt in
    let ended_empty : new.destination.ended ≡ true → (new.destination.owed ≡ finmap.empty) × (new.destination.arrivals ≡ []) = λ h. absurd (false≢true (sym not_ended ∙ h)) in
    let flowing : IsFlowing new.source new.destination rest world.urgent.frames =
    record {
      whereabouts = λ page origin h.
          let own = own_place owed page origin h in
          let planned = ap (λ q. is_urgent_or_left world.source.remaining world.urgent.frames q || has_copy (copies_of rest) q) own.2 ∙ plan.whereabouts page own.1 in
          grind arith;
    } in
    let flight = flight_up new refl (λ h. plan.faithful) (w.0, ap are_requests w.1, flowing) in
    let forward_epoch : AreOf new.source.epoch new.forward.frames = kept.epochs.forward_epoch.1 in
    let nothing : Unit {0} = tt in
    assumption (assembled_protect areas pages, fits-none rest)
