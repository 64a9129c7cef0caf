-- A copy that is installed, and a fault that the handler of the destination works, keep what every world keeps.
use Rattle.std.proofs.Common.{◌≡◌, ℕ, suc, ◌*◌, ◌/◌, ◌||◌, Bool, true, false, cond, eqb, ltb, Option, Some, None, List, [], ◌∷◌, refl, sym, ap, ◌∙◌, subst, arith, Ok, is_some, length, not, ◌++◌, get_or, unwrap_or, if◌then◌else◌}
use Rattle.std.specs.Option.{option_and_then}
use Rattle.std.specs.Ordering.{nat_cmp}
use Rattle.std.specs.Cmp.{nat_cmp_total, unsigned_tied}
use Rattle.std.specs.FinMap as finmap
use Rattle.std.specs.FinMap.{FinMap, get, contains_key, get-remove}
use Rattle.std.specs.FinSet.{contains}
use Rattle.std.proofs.lemmas.Bool.Decides.{nat_tests}
use Rattle.std.proofs.lemmas.Bool.{false≢true, eqb-true, or_left}
use Rattle.mig_base.specs.declared.effect.Effect.{Effect}
use Rattle.mig_base.specs.declared.schedule.Step.{Step}
use Rattle.mig_base.specs.declared.TheConstants.{HIGH_PAGE}
use Rattle.mig_base.specs.Pages.{map_below}
use Rattle.mig_base.proofs.SetLemmas.{member_below}
use Rattle.mig_model.specs.Host.{Host, memory}
use Rattle.mig_base.specs.Userfault.{Noted}
use Rattle.mig_model.specs.Space.{Space, IsSoundSpace}
use Rattle.mig_model.specs.Ioctls.{put_pages, installed as pages_installed}
use Rattle.mig_model.specs.Guest.{Guest, counted, is_present, Fault, is_forgotten, zero_installed, resolved, is_changing}
use Rattle.mig_model.specs.Wire.{Copy, Sent, wire_if}
use Rattle.mig_model.specs.Migration.{World, outcome, next, runs}
use Rattle.mig_model.proofs.steps.StepWorlds.{back_sent, after_install, after_dest_act}
use Rattle.mig_model.specs.Effects.{install_effect}
use Rattle.mig_model.specs.Whereabouts.{AreFaithful, has_copy, seen_host, seen_bytes, are_requests, is_request}
use Rattle.mig_model.specs.Invariant.{IsSoundWorld, Wires}
use Rattle.mig_model.specs.Promises.{IsPut}
use Rattle.mig_model.proofs.memory.IoctlLemmas.{IsSoundSpace-installed, get-put_pages}
use Rattle.mig_model.proofs.owed.SettledLemmas.{home_tells, home-none}
use Rattle.mig_model.proofs.invariant.DestinationRead.{kept-handled, same_pairs}
use Rattle.mig_model.proofs.steps.StepLemmas.{holds-effect}
use Rattle.mig_model.proofs.steps.StepCases.{holds-made}
use Rattle.mig_model.specs.Cpus.{all_woken}
use Rattle.mig_model.specs.Owed.{home, without_request, is_requested, requesting}
use Rattle.mig_model.specs.Source.{space_of, Source}
use Rattle.mig_model.specs.Destination.{install_by, Destination, act_frames, destination_act_by, destination_acted_by, is_running}
use Rattle.mig_model.proofs.memory.Facts.{none_absurd, eqb-self, only_one, missing_none, dropped_not, page_again}
use Rattle.mig_base.specs.declared.cpu_state.CpuState.{CpuState}
use Rattle.mig_base.specs.declared.phase.DestPhase.{DestPhase}
use Rattle.mig_base.specs.declared.phase.SourcePhase.{SourcePhase}
use Rattle.mig_base.specs.declared.Prot.{Prot}
use Rattle.mig_base.specs.Bytes.{zero_page}
use Rattle.mig_base.proofs.ByteLemmas.{length-zero_page, get_or-zero_page}
use Rattle.mig_base.proofs.PageLemmas.{get-map_below}
use Rattle.mig_model.specs.Wire.Frame.{Request}
use Rattle.mig_base.specs.declared.act.Act.TheVariants.{Zeroed, Woke, Forgot, Requested}
use Rattle.mig_model.proofs.memory.HostLemmas.{memory-at}
use Rattle.mig_model.specs.Log.{present}
use Rattle.mig_model.proofs.invariant.WireLemmas.{AreOf-append, are_requests-append}

-- One page put

pub get-put_one : (pages : FinMap nat_cmp (List ℕ)) (page q : ℕ) (bytes : List ℕ) → get (put_pages pages page 1 (λ i. bytes)) q ≡ cond (eqb q page) (Some bytes) (get pages q)
get-put_one pages page q bytes = get-put_pages pages page 1 q (λ i. bytes) ∙ ap (λ b. cond b (Some bytes) (get pages q)) (only_one page q)

get-without : (owed : FinMap nat_cmp ℕ) (page q : ℕ) → get (finmap.remove owed page) q ≡ cond (eqb q page) None (get owed q)
get-without owed page q = get-remove nat_cmp_total owed page q ∙ ap (λ b. cond b None (get owed q)) (unsigned_tied q page)

-- a space in which no page is protected, once a missing page is put
pub put-unprotected : (space : Space) (page : ℕ) (bytes : List ℕ) → ((q : ℕ) → contains space.protected q ≡ false) → (q : ℕ) → contains (pages_installed space page 1 (λ i. bytes) false).protected q ≡ false
put-unprotected space page bytes none q = let was = none q in rw (member_below _ HIGH_PAGE q) (grind arith)

pub put-sound : (space : Space) (page : ℕ) (bytes : List ℕ) → contains_key space.host.areas page ≡ true → length bytes ≡ 4096 → IsSoundSpace space → IsSoundSpace (pages_installed space page 1 (λ i. bytes) false)
put-sound space page bytes mapped whole sound =
    IsSoundSpace-installed space page 1 (λ i. bytes) false
    (record {
      mapped = λ q h. ap (contains_key space.host.areas) (eqb-true q page (sym (only_one page q) ∙ h)) ∙ mapped;
      whole = λ i l. whole;
      watched = λ h q e. none_absurd h;
    }) sound

-- any other page that was missing still is
pub put-missing : (space : Space) (page q : ℕ) (bytes : List ℕ) → eqb q page ≡ false → is_present space q ≡ false → is_present (pages_installed space page 1 (λ i. bytes) false) q ≡ false
put-missing space page q bytes other h = ap is_some (get-put_one space.host.bytes page q bytes) ∙ rw other h

-- The memory that the guest sees

abbrev pub seen_by : Option (List ℕ) → Option (List ℕ) → Option (List ℕ)
seen_by own other = elim own [ Some bytes ↦ Some bytes | None ↦ other ]

memory-put : (here there : Host) (owed : FinMap nat_cmp ℕ) (page origin : ℕ) (bytes : List ℕ) → get here.bytes page ≡ None → get owed page ≡ Some origin → get there.bytes origin ≡ Some bytes →
    memory (seen_host (record here { bytes = put_pages here.bytes page 1 (λ i. bytes) }) there (get (finmap.remove owed page))) ≡ memory (seen_host here there (get owed))
memory-put here there owed page origin bytes none pair same = grind (arith, nat_tests, get-put_one, get-without)

-- The pairs that are left

left : (owed : FinMap nat_cmp ℕ) (page q origin : ℕ) → get (finmap.remove owed page) q ≡ Some origin → (eqb q page ≡ false) × (get owed q ≡ Some origin)
left owed page q origin h = let held = sym (get-without owed page q) ∙ h in grind arith

behind_first : (first rest : Bool) → (first ≡ true → ⊥) → (first || rest) ≡ true → rest ≡ true
behind_first first rest not_first h = grind arith

-- The step

-- the world with these events unread and these copies waiting. Each world is one at its own
abbrev at_copies : List Noted → List Copy → World → World
at_copies events arrivals world =
    record world {
      destination = record world.destination {
        guest = record world.destination.guest { space = record world.destination.guest.space { object = record world.destination.guest.space.object { events = events } } };
        arrivals = arrivals;
      };
    }

some_first : (copy : Copy) (rest : List Copy) → copy ∷ rest ≡ [] → ⊥
some_first copy rest h = cc

-- what is known where a copy has a page: the page is owed from it, is registered and is missing, and the copy is the source's page
record HasHome (world : World) (copy : Copy) (page : ℕ) : Type 0 where
  pair : get world.destination.owed page ≡ Some copy.page
  registered : contains world.destination.guest.space.object.missing page ≡ true
  missing : is_present world.destination.guest.space page ≡ false
  same : get (space_of world.source).host.bytes copy.page ≡ Some copy.bytes

has_home : (copy : Copy) (rest : List Copy) (world : World) (page : ℕ) → IsSoundWorld (at_copies [] (copy ∷ rest) world) → world.destination.has_run ≡ true → home world.destination.owed copy.page ≡ Some page → HasHome (at_copies [] (copy ∷ rest) world) copy page
has_home copy rest world page kept runs found =
    let pair : get world.destination.owed page ≡ Some copy.page = home_tells world.destination.owed copy.page page found in
    let alone = kept.owing.pairs_missing page copy.page pair in
    let faithful : AreFaithful (space_of world.source).host.bytes (copy ∷ rest) = kept.owing.arrivals_faithful runs in
    record { pair = pair; registered = alone.0; missing = alone.1; same = faithful.0 }

put_there : (copy : Copy) (rest : List Copy) (world : World) (page : ℕ) → IsSoundWorld (at_copies [] (copy ∷ rest) world) → world.destination.has_run ≡ true → home world.destination.owed copy.page ≡ Some page →
    IsSoundWorld (record (at_copies [] (copy ∷ rest) world) { destination = install_by (Some page) (at_copies [] (copy ∷ rest) world).destination copy rest })
put_there copy rest world page kept runs found =
    let old : World = at_copies [] (copy ∷ rest) world in
    let space : Space = old.destination.guest.space in
    let owed : FinMap nat_cmp ℕ = world.destination.owed in
    let new : Space = pages_installed space page 1 (λ i. copy.bytes) false in
    let guest : Guest = record old.destination.guest { space = new; cpus = all_woken (λ q. eqb q page) world.destination.guest.cpus } in
    let there = has_home copy rest world page kept runs found in
    let faithful : AreFaithful (space_of world.source).host.bytes (copy ∷ rest) = kept.owing.arrivals_faithful runs in
    let rest_of = finmap.remove owed page in
    let sound = put-sound space page copy.bytes (kept.spaces.destination_space.mapped page (or_left (contains space.object.missing page) (contains space.object.protect page) there.registered)) (kept.spaces.source_space.host.whole copy.page copy.bytes there.same) kept.spaces.destination_space in
    let unprotected = put-unprotected space page copy.bytes kept.spaces.unprotected in
    let same_memory = memory-put space.host (space_of world.source).host owed page copy.page copy.bytes (missing_none (get space.host.bytes page) there.missing) there.pair there.same in
    let values : (q origin : ℕ) → get rest_of q ≡ Some origin → (other : ℕ) × (get owed other ≡ Some origin) = λ q origin h. (q, (left owed page q origin h).1) in
    let one_to_one = λ (q other origin : ℕ) (h : get rest_of q ≡ Some origin) (k : get rest_of other ≡ Some origin). kept.owing.one_to_one q other origin (left owed page q origin h).1 (left owed page other origin k).1 in
    let below = λ (q origin : ℕ) (h : get rest_of q ≡ Some origin). kept.owing.owed_below q origin (left owed page q origin h).1 in
    let copies = λ (q origin : ℕ) (h : get rest_of q ≡ Some origin) (k : has_copy (copy ∷ rest) origin ≡ true).
    let was = left owed page q origin h in
    behind_first (eqb copy.page origin) (has_copy rest origin)
    (λ e.
    let one = kept.owing.one_to_one q page origin was.1 (there.pair ∙ ap Some (eqb-true copy.page origin e)) in
    false≢true (sym was.0 ∙ ap (λ n. eqb n page) one ∙ eqb-self page)) k in
    let missing : (q origin : ℕ) → get rest_of q ≡ Some origin → (contains space.object.missing q ≡ true) × (is_present new q ≡ false) = λ q origin h.
    let was = left owed page q origin h in
    let alone = kept.owing.pairs_missing q origin was.1 in
    (alone.0, put-missing space page q copy.bytes was.0 alone.1) in
    let ended : old.destination.ended ≡ true → (rest_of ≡ finmap.empty) × (rest ≡ []) = λ h. absurd (some_first copy rest (kept.owing.ended_empty h).1) in
    kept-handled old guest world.destination.held rest_of (without_request world.destination.requests copy.page) rest (counted world.destination.installed 1) world.destination.dropped world.destination.faults kept runs
    (assumption faithful.1)

given_up : (copy : Copy) (rest : List Copy) (world : World) → IsSoundWorld (at_copies [] (copy ∷ rest) world) → world.destination.has_run ≡ true → home world.destination.owed copy.page ≡ None →
    IsSoundWorld (record (at_copies [] (copy ∷ rest) world) { destination = install_by None (at_copies [] (copy ∷ rest) world).destination copy rest })
given_up copy rest world kept runs lost =
    let old : World = at_copies [] (copy ∷ rest) world in
    let faithful : AreFaithful (space_of world.source).host.bytes (copy ∷ rest) = kept.owing.arrivals_faithful runs in
    let copies = λ (q origin : ℕ) (h : get world.destination.owed q ≡ Some origin) (k : has_copy (copy ∷ rest) origin ≡ true).
    behind_first (eqb copy.page origin) (has_copy rest origin)
    (λ e. home-none world.destination.owed copy.page q lost (kept.owing.owed_below q origin h) (h ∙ ap Some (sym (eqb-true copy.page origin e)))) k in
    let ended : old.destination.ended ≡ true → (world.destination.owed ≡ finmap.empty) × (rest ≡ []) = λ h. absurd (some_first copy rest (kept.owing.ended_empty h).1) in
    kept-handled old old.destination.guest world.destination.held world.destination.owed world.destination.requests rest world.destination.installed (counted world.destination.dropped 1) world.destination.faults kept runs
    (assumption (same_pairs world.destination.owed, faithful.1))

install_at : (o : Option ℕ) (copy : Copy) (rest : List Copy) (world : World) → IsSoundWorld (at_copies [] (copy ∷ rest) world) → world.destination.has_run ≡ true → home world.destination.owed copy.page ≡ o →
    IsSoundWorld (record (at_copies [] (copy ∷ rest) world) { destination = install_by o (at_copies [] (copy ∷ rest) world).destination copy rest })
install_at None copy rest world kept runs found = given_up copy rest world kept runs found
install_at (Some page) copy rest world kept runs found = put_there copy rest world page kept runs found

pub none_changing : (n : ℕ) → ltb 0 (suc n) ≡ false → ⊥
none_changing n h = grind (arith, nat_tests)

install_in : (events : List Noted) (copy : Copy) (rest : List Copy) (world : World) → IsSoundWorld (at_copies events (copy ∷ rest) world) → world.destination.has_run ≡ true → ltb 0 (length events) ≡ false →
    IsSoundWorld (after_install (at_copies events (copy ∷ rest) world) copy rest)
install_in (noted ∷ events) copy rest world kept runs quiet = absurd (none_changing (length events) quiet)
install_in [] copy rest world kept runs quiet = install_at (home world.destination.owed copy.page) copy rest world kept runs refl

pub kept-install : (world : World) (copy : Copy) (rest : List Copy) → IsSoundWorld world → world.destination.arrivals ≡ copy ∷ rest → world.destination.has_run ≡ true → is_changing world.destination.guest ≡ false → IsSoundWorld (after_install world copy rest)
kept-install world copy rest kept first runs quiet =
    let events = world.destination.guest.space.object.events in
    subst (λ arrivals. IsSoundWorld (at_copies events arrivals world) → IsSoundWorld (after_install (at_copies events arrivals world) copy rest)) (sym first) (λ now. install_in events copy rest world now runs quiet) kept

-- What was put

same_effect : (a b c d : ℕ) → Effect.Installed a b ≡ Effect.Installed c d → (a ≡ c) × (b ≡ d)
same_effect a b c d h = (cc, cc)

put_at : (o : Option ℕ) (copy : Copy) (rest : List Copy) (world : World) (addr source : ℕ) → IsSoundWorld (at_copies [] (copy ∷ rest) world) → world.destination.has_run ≡ true → home world.destination.owed copy.page ≡ o →
    install_effect o copy.page ≡ Effect.Installed addr source →
    IsPut (at_copies [] (copy ∷ rest) world) (record (at_copies [] (copy ∷ rest) world) { destination = install_by o (at_copies [] (copy ∷ rest) world).destination copy rest }) (addr / 4096) (source / 4096)
put_at None copy rest world addr source kept runs found same = absurd (dropped_not (4096 * copy.page) addr source same)
put_at (Some page) copy rest world addr source kept runs found same =
    let old : World = at_copies [] (copy ∷ rest) world in
    let space : Space = old.destination.guest.space in
    let new : World = record old { destination = install_by (Some page) old.destination copy rest } in
    let there = has_home copy rest world page kept runs found in
    let both = same_effect (4096 * page) (4096 * copy.page) addr source same in
    let now : get (put_pages space.host.bytes page 1 (λ i. copy.bytes)) page ≡ Some copy.bytes =
    get-put_one space.host.bytes page page copy.bytes ∙ ap (λ b. cond b (Some copy.bytes) (get space.host.bytes page)) (eqb-self page) in
    let put : IsPut old new page copy.page =
    record {
      missing = there.missing;
      mapped = kept.spaces.destination_space.mapped page (or_left (contains space.object.missing page) (contains space.object.protect page) there.registered);
      registered = there.registered;
      owed = there.pair;
      source = there.same ∙ sym now;
      present = ap is_some now;
    } in
    subst (λ p. IsPut old new p (source / 4096)) (page_again page addr both.0) (subst (λ p. IsPut old new page p) (page_again copy.page source both.1) put)

put_in : (events : List Noted) (copy : Copy) (rest : List Copy) (world : World) (addr source : ℕ) → IsSoundWorld (at_copies events (copy ∷ rest) world) → world.destination.has_run ≡ true → ltb 0 (length events) ≡ false →
    install_effect (home world.destination.owed copy.page) copy.page ≡ Effect.Installed addr source →
    IsPut (at_copies events (copy ∷ rest) world) (after_install (at_copies events (copy ∷ rest) world) copy rest) (addr / 4096) (source / 4096)
put_in (noted ∷ events) copy rest world addr source kept runs quiet same = absurd (none_changing (length events) quiet)
put_in [] copy rest world addr source kept runs quiet same = put_at (home world.destination.owed copy.page) copy rest world addr source kept runs refl same

install_put : (world : World) (copy : Copy) (rest : List Copy) (addr source : ℕ) → IsSoundWorld world → world.destination.arrivals ≡ copy ∷ rest → world.destination.has_run ≡ true → is_changing world.destination.guest ≡ false →
    install_effect (home world.destination.owed copy.page) copy.page ≡ Effect.Installed addr source → IsPut world (after_install world copy rest) (addr / 4096) (source / 4096)
install_put world copy rest addr source kept first runs quiet same =
    let events = world.destination.guest.space.object.events in
    subst (λ arrivals. IsSoundWorld (at_copies events arrivals world) → IsPut (at_copies events arrivals world) (after_install (at_copies events arrivals world) copy rest) (addr / 4096) (source / 4096)) (sym first)
    (λ now. put_in events copy rest world addr source now runs quiet same) kept

-- an Install that answers Installed has put a page that was missing just before
pub install_put_next : (world : World) (addr source : ℕ) → IsSoundWorld world → outcome world Step.Install ≡ Ok (Effect.Installed addr source) → IsPut world (next world Step.Install) (addr / 4096) (source / 4096)
install_put_next world addr source kept answered =
    holds-effect (λ effect new. effect ≡ Effect.Installed addr source → IsPut world new (addr / 4096) (source / 4096)) world Step.Install (Effect.Installed addr source)
    (holds-made _ world Step.Install (λ copy rest first runs quiet same. install_put world copy rest addr source kept first runs quiet same)) answered refl

-- A page of zeros

-- the byte that is read at a place of a page
abbrev pub byte_of : Option (List ℕ) → ℕ → ℕ
byte_of o i = get_or (unwrap_or o []) i 0

-- pages that read alike mean one memory: it does not tell a page of zeros from a missing one
pub memory-reads : (areas : FinMap nat_cmp Prot) (old new : FinMap nat_cmp (List ℕ)) → ((page i : ℕ) → byte_of (get new page) i ≡ byte_of (get old page) i) →
    memory (record { areas = areas; bytes = new }) ≡ memory (record { areas = areas; bytes = old })
memory-reads areas old new same = grind (arith, nat_tests, memory-at)

zero_reads : (here : Bool) (own other : Option (List ℕ)) (i : ℕ) → (here ≡ true → own ≡ None) → (here ≡ true → other ≡ None) → byte_of (seen_by (cond here (Some zero_page) own) other) i ≡ byte_of (seen_by own other) i
zero_reads here own other i none nothing = grind (arith, nat_tests, get_or-zero_page)

below_reads : (low : Bool) (a b : Option (List ℕ)) (i : ℕ) → byte_of a i ≡ byte_of b i → byte_of (cond low a None) i ≡ byte_of (cond low b None) i
below_reads low a b i h = grind arith

pub memory-zero : (here there : Host) (owed : ℕ → Option ℕ) (page : ℕ) → get here.bytes page ≡ None → owed page ≡ None →
    memory (seen_host (record here { bytes = put_pages here.bytes page 1 (λ i. zero_page) }) there owed) ≡ memory (seen_host here there owed)
memory-zero here there owed page none nothing =
    let zeroed : Host = record here { bytes = put_pages here.bytes page 1 (λ i. zero_page) } in
    memory-reads here.areas (map_below (seen_bytes here there owed) HIGH_PAGE) (map_below (seen_bytes zeroed there owed) HIGH_PAGE) (λ q i.
    ap (λ o. byte_of o i) (get-map_below (seen_bytes zeroed there owed) HIGH_PAGE q)
    ∙ below_reads (ltb q HIGH_PAGE) (seen_bytes zeroed there owed q) (seen_bytes here there owed q) i
    (ap (λ o. byte_of (seen_by o (option_and_then (get there.bytes) (owed q))) i) (get-put_one here.bytes page q zero_page)
    ∙ zero_reads (eqb q page) (get here.bytes q) (option_and_then (get there.bytes) (owed q)) i
    (λ e. ap (get here.bytes) (eqb-true q page e) ∙ none)
    (λ e. ap (λ k. option_and_then (get there.bytes) (owed k)) (eqb-true q page e) ∙ ap (option_and_then (get there.bytes)) nothing))
    ∙ sym (ap (λ o. byte_of o i) (get-map_below (seen_bytes here there owed) HIGH_PAGE q)))

-- A request

are_requests-push : (back : List Sent) (sent : Sent) → is_request sent.frame ≡ true → are_requests back ≡ true → are_requests (back ++ sent ∷ []) ≡ true
are_requests-push back sent is are = are_requests-append back (sent ∷ []) ∙ rw (are, is) refl

request_wires : (from : SourcePhase) (to : DestPhase) (source : Source) (node : Destination) (forward back urgent : List Sent) (sent : Sent) → is_request sent.frame ≡ true → is_running to ≡ true →
    Wires (record source { phase = from }) (record node { phase = to }) forward back urgent → Wires (record source { phase = from }) (record node { phase = to }) forward (back ++ sent ∷ []) urgent
request_wires SourcePhase.Stopped DestPhase.Running source node forward back urgent sent is runs w = (w.0, are_requests-push back sent is w.1, w.2)
request_wires SourcePhase.Paused DestPhase.Running source node forward back urgent sent is runs w =
    let old = w.1 in (
      w.0,
      record {
        owed = old.owed;
        epoch = old.epoch;
        rest = old.rest ++ sent ∷ [];
        first = ap (λ l. l ++ sent ∷ []) old.first;
        requests = are_requests-push old.rest sent is old.requests;
        alone = λ other. absurd (other refl);
        none_listed = λ other. absurd (other refl);
        needed = old.needed;
        owed_present = old.owed_present;
      },
    )
request_wires SourcePhase.Idle DestPhase.Running source node forward back urgent sent is runs w = absurd (let e : DestPhase.Running ≡ DestPhase.Idle = w.0 in cc)
request_wires SourcePhase.Precopy DestPhase.Running source node forward back urgent sent is runs w = w
request_wires SourcePhase.Released DestPhase.Running source node forward back urgent sent is runs w = absurd (let e : DestPhase.Running ≡ DestPhase.Ended = w.0 in cc)
request_wires from _ source node forward back urgent sent is runs w = none_absurd runs

-- a request is sent where the destination runs and the page was not asked for yet, and is lost where the link is down
sent_back : (up asked runs : Bool) (world : World) (source : ℕ) → world.up ≡ up → is_running world.destination.phase ≡ runs → IsSoundWorld world →
    IsSoundWorld (record world { back = wire_if up world.back world.destination.epoch (if asked || not runs then [] else Request source ∷ []) })
sent_back up asked runs world source up_ running kept = grind (arith, nat_tests, AreOf-append, request_wires)

-- nothing is sent
nothing_sent : (up : Bool) (world : World) → world.up ≡ up → IsSoundWorld world → IsSoundWorld (record world { back = wire_if up world.back world.destination.epoch [] })
nothing_sent up world up_ kept = grind (arith, nat_tests)

-- The step

-- the world with these events unread and these faults held. Each world is one at its own
abbrev pub at_held : List Noted → List Fault → World → World
at_held events held world =
    record world {
      destination = record world.destination {
        guest = record world.destination.guest { space = record world.destination.guest.space { object = record world.destination.guest.space.object { events = events } } };
        held = held;
      };
    }

-- only the processors, the held faults and the requests have changed
only_woken : (world : World) (processors : List CpuState) (held : List Fault) (requests : List ℕ) → IsSoundWorld world → world.destination.has_run ≡ true →
    IsSoundWorld (record world { destination = record world.destination { guest = record world.destination.guest { cpus = processors }; held = held; requests = requests } })
only_woken world processors held requests kept runs = grind (arith, nat_tests, kept-handled)

other_page : (here : Bool) (o : Option ℕ) (origin : ℕ) → (here ≡ true → o ≡ None) → o ≡ Some origin → here ≡ false
other_page here o origin none h = grind arith

-- a page of zeros is put at a missing page that is owed from nowhere
zeros_put : (fault : Fault) (rest : List Fault) (world : World) → IsSoundWorld (at_held [] (fault ∷ rest) world) → world.destination.has_run ≡ true → contains_key world.destination.guest.space.host.areas fault.page ≡ true →
    is_present world.destination.guest.space fault.page ≡ false → get world.destination.owed fault.page ≡ None →
    IsSoundWorld (record (at_held [] (fault ∷ rest) world) { destination = destination_acted_by Zeroed (at_held [] (fault ∷ rest) world).destination fault.page })
zeros_put fault rest world kept runs mapped missing nothing =
    let old : World = at_held [] (fault ∷ rest) world in
    let page : ℕ = fault.page in
    let space : Space = old.destination.guest.space in
    let owed : FinMap nat_cmp ℕ = world.destination.owed in
    let sound = put-sound space page zero_page mapped length-zero_page kept.spaces.destination_space in
    let unprotected = put-unprotected space page zero_page kept.spaces.unprotected in
    let same_memory = memory-zero space.host (space_of world.source).host (get owed) page (missing_none (get space.host.bytes page) missing) nothing in
    let still : (q origin : ℕ) → get owed q ≡ Some origin → (contains space.object.missing q ≡ true) × (is_present (zero_installed space page) q ≡ false) = λ q origin h.
    let alone = kept.owing.pairs_missing q origin h in
    (alone.0, put-missing space page q zero_page (other_page (eqb q page) (get owed q) origin (λ e. ap (get owed) (eqb-true q page e) ∙ nothing) h) alone.1) in
    kept-handled old (resolved old.destination.guest page (zero_installed space page)) rest owed world.destination.requests world.destination.arrivals world.destination.installed world.destination.dropped world.destination.faults kept runs
    (assumption (same_pairs owed, kept.owing.arrivals_faithful runs))

not_or : (a b : Bool) → (not a || not b) ≡ false → a ≡ true
not_or a b h = grind arith

act_in : (forgotten present : Bool) (o : Option ℕ) (fault : Fault) (rest : List Fault) (world : World) → IsSoundWorld (at_held [] (fault ∷ rest) world) → world.destination.has_run ≡ true →
    is_forgotten (at_held [] (fault ∷ rest) world).destination.guest.space fault.page ≡ forgotten → is_present world.destination.guest.space fault.page ≡ present → get world.destination.owed fault.page ≡ o →
    IsSoundWorld (back_sent (at_held [] (fault ∷ rest) world) (destination_acted_by (destination_act_by forgotten present o) (at_held [] (fault ∷ rest) world).destination fault.page) (act_frames (destination_act_by forgotten present o) (at_held [] (fault ∷ rest) world).destination))
act_in true present o fault rest world kept runs f p h =
    let old : World = at_held [] (fault ∷ rest) world in
    let new : World = record old { destination = destination_acted_by Forgot old.destination fault.page } in
    nothing_sent world.up new refl (only_woken old (all_woken (λ q. eqb q fault.page) world.destination.guest.cpus) rest world.destination.requests kept runs)
act_in false true o fault rest world kept runs f p h =
    let old : World = at_held [] (fault ∷ rest) world in
    let new : World = record old { destination = destination_acted_by Woke old.destination fault.page } in
    nothing_sent world.up new refl (only_woken old (all_woken (λ q. eqb q fault.page) world.destination.guest.cpus) rest world.destination.requests kept runs)
act_in false false (Some source) fault rest world kept runs f p h =
    let old : World = at_held [] (fault ∷ rest) world in
    let new : World = record old { destination = destination_acted_by (Requested source) old.destination fault.page } in
    sent_back world.up (is_requested world.destination.requests source) (is_running world.destination.phase) new source refl refl
    (only_woken old world.destination.guest.cpus rest (requesting world.destination.requests source) kept runs)
act_in false false None fault rest world kept runs f p h = grind (arith, nat_tests, nothing_sent, zeros_put, not_or)

acted_in : (events : List Noted) (fault : Fault) (rest : List Fault) (world : World) → IsSoundWorld (at_held events (fault ∷ rest) world) → world.destination.has_run ≡ true → ltb 0 (length events) ≡ false →
    IsSoundWorld (after_dest_act (at_held events (fault ∷ rest) world) fault)
acted_in (noted ∷ events) fault rest world kept runs quiet = absurd (none_changing (length events) quiet)
acted_in [] fault rest world kept runs quiet =
    act_in (is_forgotten world.destination.guest.space fault.page) (is_present world.destination.guest.space fault.page) (get world.destination.owed fault.page) fault rest world kept runs refl refl refl

pub kept-dest_act : (world : World) (fault : Fault) (rest : List Fault) → IsSoundWorld world → world.destination.held ≡ fault ∷ rest → world.destination.has_run ≡ true → is_changing world.destination.guest ≡ false → IsSoundWorld (after_dest_act world fault)
kept-dest_act world fault rest kept first runs quiet =
    let events = world.destination.guest.space.object.events in
    subst (λ held. IsSoundWorld (at_held events held world) → IsSoundWorld (after_dest_act (at_held events held world) fault)) (sym first) (λ now. acted_in events fault rest world now runs quiet) kept
