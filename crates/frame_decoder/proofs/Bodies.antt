-- The body that is read is that of the frame, and the body of a frame is read again.
use Rattle.std.proofs.Common.{◌≡◌, ℕ, ◌^◌, ◌<◌, ◌≤◌, Bool, true, false, ◌&&◌, ◌==◌, ltb, leb, List, [], ◌∷◌, ◌++◌, length, Ok, refl, sym, ap, subst, ◌∙◌, append_assoc, arith}
use Rattle.std.specs.Int.{w32, to_be_bytes}
use Rattle.std.specs.List.{flat_map}
use Rattle.std.proofs.lemmas.Bool.{and_from, eqb-true, ltb-true, lt-ltb, leb-true, le-leb}
use Rattle.std.specs.Ordering.{nat_cmp}
use Rattle.std.specs.FinMap.{FinMap}
use Rattle.std.specs.FinSet.{FinSet}
use Rattle.std.proofs.lemmas.List.{append-nil, nil_from_length}
use Rattle.mig_base.specs.declared.TheConstants.{LOW_PAGE, HIGH_PAGE, MAX_PAGES, MAX_RUN}
use Rattle.mig_base.specs.declared.Prot.{Prot}
use Rattle.mig_base.specs.declared.Run.{Run as PageRun}
use Rattle.foundation.proofs.TestLemmas.{and_first, and_second}
use Rattle.mig_model.specs.Bounds.{AreFewPages, ArePageBytes, IsFrame, IsMapping, IsPage, IsPageBytes}
use Rattle.mig_model.specs.Wire.{Frame}
use Rattle.page_stream.specs.Texts.{body_text, has_frame}
use Rattle.frame_decoder.specs.declared.tag.Tag.{Tag}
use Rattle.frame_decoder.specs.declared.tag.Tag.TheVariants as tag
use Rattle.frame_decoder.specs.declared.version.Version.{Version}
use Rattle.frame_decoder.specs.declared.version.Version.TheVariants as versions
use Rattle.frame_decoder.specs.Reading.{tested, page_in, is_page, content_at, contents_at, is_run, is_page_run, page_frame_at, discard_at, package_at, run_frame_at, recv_at, payload_at, body_at}
use Rattle.frame_decoder.specs.Versions.{version_of, max_pages, has_runs, AreFewIn, tag_of, IsFrameIn}
use Rattle.frame_decoder.proofs.FieldLemmas.{IsBytes, AllFrom, bind_ok, checked_ok, ok_is, Takes, IsReader, content_text, one_takes, one_again, two_takes, two_again, three_takes, three_again, reads_32, reads_content, counted_takes, counted_again}
use Rattle.frame_decoder.proofs.SetReading.{AreFew, RunFits, run_is, run_passes, reads_pages, reads_few_pages}
use Rattle.frame_decoder.proofs.MapReading.{IsMapped, reads_areas}
use Rattle.frame_decoder.proofs.CommandReading.{reads_commands, reads_state}

-- A page

page_takes : (bytes : List ℕ) (x : ℕ × List ℕ) → IsBytes bytes → page_in bytes ≡ Ok x → Takes bytes (to_be_bytes w32 x.0) x.1 × IsPage x.0
unfolding page_in
page_takes bytes x fits e =
    let p = one_takes reads_32 (λ n rest. tested (is_page n) (n, rest)) bytes x fits e in
    let g = checked_ok (is_page p.0) (p.0, p.1) x p.4 in
    subst (λ (x : ℕ × List ℕ). Takes bytes (to_be_bytes w32 x.0) x.1 × IsPage x.0) g.1
    (p.2, (leb-true _ _ (and_first (leb LOW_PAGE p.0) (ltb p.0 HIGH_PAGE) g.0), ltb-true _ _ (and_second (leb LOW_PAGE p.0) (ltb p.0 HIGH_PAGE) g.0)))

page_again : (page : ℕ) (rest : List ℕ) → IsPage page → page_in (to_be_bytes w32 page ++ rest) ≡ Ok (page, rest)
unfolding page_in
page_again page rest h =
    let below = h.1 in
    one_again reads_32 (λ n rest. tested (is_page n) (n, rest)) page rest (omega (arith, below)) ∙ rw (and_from (leb LOW_PAGE page) (ltb page HIGH_PAGE) (le-leb LOW_PAGE page h.0) (lt-ltb page HIGH_PAGE below)) refl

reads_page : IsReader page_in (to_be_bytes w32) IsPage
reads_page = record { takes = page_takes; again = page_again }

-- The bytes of neighbouring pages

abbrev stays : Unit {0} → List ℕ → Unit {0}
stays state bytes = state

reads_each : (state : Unit {0}) → IsReader content_at content_text IsPageBytes
reads_each state = reads_content

abbrev AllPages : List (List ℕ) → Type 0
AllPages pages = AllFrom (λ (_ : Unit {0}). IsPageBytes) stays tt pages

page_bytes : (pages : List (List ℕ)) → AllPages pages → ArePageBytes pages
page_bytes [] h = tt
page_bytes (bytes ∷ pages) h = (h.0, page_bytes pages h.1)

all_pages : (pages : List (List ℕ)) → ArePageBytes pages → AllPages pages
all_pages [] h = tt
all_pages (bytes ∷ pages) h = (h.0, all_pages pages h.1)

abbrev contents_text : List (List ℕ) → List ℕ
contents_text pages = to_be_bytes w32 (length pages) ++ flat_map content_text pages

record ContentsFit (pages : List (List ℕ)) : Type 0 where
  pub count : length pages < 2 ^ 32
  pub each : ArePageBytes pages

contents_takes : (bytes : List ℕ) (x : List (List ℕ) × List ℕ) → IsBytes bytes → contents_at bytes ≡ Ok x → Takes bytes (contents_text x.0) x.1 × ContentsFit x.0
unfolding contents_at
contents_takes bytes x fits e =
    let p = counted_takes reads_32 reads_each stays tt bytes x fits e in (p.0, record { count = p.1; each = page_bytes x.0 p.2 })

contents_again : (pages : List (List ℕ)) (rest : List ℕ) → ContentsFit pages → contents_at (contents_text pages ++ rest) ≡ Ok (pages, rest)
unfolding contents_at
contents_again pages rest h = counted_again reads_32 reads_each stays tt pages rest h.count (all_pages pages h.each)

reads_contents : IsReader contents_at contents_text ContentsFit
reads_contents = record { takes = contents_takes; again = contents_again }

-- A run of pages

pages_from : ℕ → ℕ → PageRun
pages_from first count = record { first = first; count = count }

-- that many pages may be sent as one run
record PageRunFits (version : Version) (first count : ℕ) : Type 0 where
  pub has : has_runs version ≡ true
  pub few : count ≤ MAX_RUN
  pub run : RunFits LOW_PAGE (pages_from first count)

page_run_is : (version : Version) (first count : ℕ) → is_page_run version first count ≡ true → PageRunFits version first count
unfolding pages_from
page_run_is version first count h =
    let two = and_first (has_runs version && leb count MAX_RUN) (is_run LOW_PAGE first count) h in
    record {
      has = and_first (has_runs version) (leb count MAX_RUN) two;
      few = leb-true _ _ (and_second (has_runs version) (leb count MAX_RUN) two);
      run = run_is LOW_PAGE (pages_from first count) (and_second (has_runs version && leb count MAX_RUN) (is_run LOW_PAGE first count) h);
    }

page_run_passes : (version : Version) (first count : ℕ) → PageRunFits version first count → is_page_run version first count ≡ true
unfolding pages_from
page_run_passes version first count h =
    and_from (has_runs version && leb count MAX_RUN) (is_run LOW_PAGE first count) (and_from (has_runs version) (leb count MAX_RUN) h.has (le-leb count MAX_RUN h.few)) (run_passes LOW_PAGE (pages_from first count) h.run)

-- A frame

abbrev Taken : Version → Tag → List ℕ → Frame × List ℕ → Type 0
Taken version t bytes x = Takes bytes (body_text x.0) x.1 × IsFrameIn version x.0 × (tag_of x.0 ≡ t)

abbrev not_run : Frame → Bool
not_run (Frame.Run first pages) = false
not_run frame = true

has_any : (version : Version) (frame : Frame) → not_run frame ≡ true → has_frame (version_of version) frame ≡ true
has_any versions.One (Frame.Run first pages) h = h
has_any versions.One frame h = refl
has_any versions.Two frame h = refl

has_run : (version : Version) (first : ℕ) (pages : List (List ℕ)) → has_runs version ≡ true → has_frame (version_of version) (Frame.Run first pages) ≡ true
has_run versions.One first pages h = h
has_run versions.Two first pages h = refl

pub run_has : (version : Version) (first : ℕ) (pages : List (List ℕ)) → has_frame (version_of version) (Frame.Run first pages) ≡ true → has_runs version ≡ true
run_has versions.One first pages h = h
run_has versions.Two first pages h = refl

pub max_few : (version : Version) → max_pages version ≤ MAX_PAGES
max_few versions.One = omega arith
max_few versions.Two = omega arith

few_in : (version : Version) (set : FinSet nat_cmp) → AreFew version set → AreFewPages set
few_in version set h = let few = h.1 in (h.0, omega (arith, few, max_few version))

mapping_in : (version : Version) (areas : FinMap nat_cmp Prot) → IsMapped version areas → IsMapping areas
mapping_in version areas h = let few = h.few in record { pages = h.pages; few = omega (arith, few, max_few version) }

run_fits : (version : Version) (first : ℕ) (pages : List (List ℕ)) → PageRunFits version first (length pages) → ArePageBytes pages → IsFrameIn version (Frame.Run first pages)
unfolding pages_from
run_fits version first pages h each = record { has = has_run version first pages h.has; right = (h.run.some, h.few, h.run.from, h.run.inside, each); few = tt }

nothing_taken : (bytes : List ℕ) → IsBytes bytes → Takes bytes [] bytes
nothing_taken bytes fits = record { parts = refl; rest_fits = fits }

bare : (version : Version) (frame : Frame) → not_run frame ≡ true → IsFrame frame → AreFewIn version frame → IsFrameIn version frame
bare version frame h right few = record { has = has_any version frame h; right = right; few = few }

run_takes : (version : Version) (bytes : List ℕ) (x : Frame × List ℕ) → IsBytes bytes → run_frame_at version bytes ≡ Ok x → Taken version tag.Run bytes x
unfolding run_frame_at
run_takes version bytes x fits e =
    let p = two_takes reads_32 reads_contents (λ first pages rest. tested (is_page_run version first (length pages)) (Frame.Run first pages, rest)) bytes x fits e in
    let g = checked_ok (is_page_run version p.0 (length p.1)) (Frame.Run p.0 p.1, p.2) x p.6 in
    let apart = append_assoc (to_be_bytes w32 p.0) (to_be_bytes w32 (length p.1)) (flat_map content_text p.1) in
    let taken : Takes bytes (body_text (Frame.Run p.0 p.1)) p.2 = subst (λ text. Takes bytes text p.2) (sym apart) p.3 in
    subst (Taken version tag.Run bytes) g.1 (taken, run_fits version p.0 p.1 (page_run_is version p.0 (length p.1) g.0) p.5.each, refl)

payload_takes : (version : Version) (t : Tag) (bytes : List ℕ) (x : Frame × List ℕ) → IsBytes bytes → payload_at version t bytes ≡ Ok x → Taken version t bytes x
unfolding payload_at page_frame_at discard_at package_at recv_at
payload_takes version tag.Advise bytes x fits e = subst (Taken version tag.Advise bytes) (ok_is (Frame.Advise, bytes) x e) (nothing_taken bytes fits, bare version Frame.Advise refl tt tt, refl)
payload_takes version tag.Page bytes x fits e =
    let p = two_takes reads_page reads_content (λ page content rest. Ok (Frame.Page page content, rest)) bytes x fits e in
    subst (Taken version tag.Page bytes) (ok_is (Frame.Page p.0 p.1, p.2) x p.6) (p.3, bare version (Frame.Page p.0 p.1) refl (p.4, p.5) tt, refl)
payload_takes version tag.Zero bytes x fits e =
    let p = one_takes reads_page (λ page rest. Ok (Frame.Zero page, rest)) bytes x fits e in
    subst (Taken version tag.Zero bytes) (ok_is (Frame.Zero p.0, p.1) x p.4) (p.2, bare version (Frame.Zero p.0) refl p.3 tt, refl)
payload_takes version tag.Discard bytes x fits e =
    let p = one_takes reads_pages (λ pages rest. Ok (Frame.Discard pages, rest)) bytes x fits e in
    subst (Taken version tag.Discard bytes) (ok_is (Frame.Discard p.0, p.1) x p.4) (p.2, bare version (Frame.Discard p.0) refl p.3 tt, refl)
payload_takes version tag.Package bytes x fits e =
    let p = three_takes (reads_areas version) (reads_few_pages version) reads_commands (λ areas owed commands rest. Ok (Frame.Package areas owed commands, rest)) bytes x fits e in
    subst (Taken version tag.Package bytes) (ok_is (Frame.Package p.0 p.1 p.2, p.3) x p.8)
    (p.4, bare version (Frame.Package p.0 p.1 p.2) refl (mapping_in version p.0 p.5, few_in version p.1 p.6, p.7.0, p.7.1) (p.5.few, p.6.1), refl)
payload_takes version tag.End bytes x fits e =
    let p = one_takes reads_32 (λ urgent rest. Ok (Frame.End urgent, rest)) bytes x fits e in
    subst (Taken version tag.End bytes) (ok_is (Frame.End p.0, p.1) x p.4) (p.2, bare version (Frame.End p.0) refl p.3 tt, refl)
payload_takes version tag.Resume bytes x fits e = subst (Taken version tag.Resume bytes) (ok_is (Frame.Resume, bytes) x e) (nothing_taken bytes fits, bare version Frame.Resume refl tt tt, refl)
payload_takes version tag.Run bytes x fits e = run_takes version bytes x fits e
payload_takes version tag.Request bytes x fits e =
    let p = one_takes reads_page (λ page rest. Ok (Frame.Request page, rest)) bytes x fits e in
    subst (Taken version tag.Request bytes) (ok_is (Frame.Request p.0, p.1) x p.4) (p.2, bare version (Frame.Request p.0) refl p.3 tt, refl)
payload_takes version tag.Recv bytes x fits e =
    let p = two_takes reads_state (reads_few_pages version) (λ state owed rest. Ok (Frame.Recv state owed, rest)) bytes x fits e in
    subst (Taken version tag.Recv bytes) (ok_is (Frame.Recv p.0 p.1, p.2) x p.6) (p.3, bare version (Frame.Recv p.0 p.1) refl (few_in version p.1 p.5) p.5.1, refl)
payload_takes version tag.Done bytes x fits e = subst (Taken version tag.Done bytes) (ok_is (Frame.Done, bytes) x e) (nothing_taken bytes fits, bare version Frame.Done refl tt tt, refl)

run_again : (version : Version) (first : ℕ) (pages : List (List ℕ)) (rest : List ℕ) → IsFrameIn version (Frame.Run first pages) → run_frame_at version (body_text (Frame.Run first pages) ++ rest) ≡ Ok (Frame.Run first pages, rest)
unfolding run_frame_at pages_from
run_again version first pages rest h =
    let few = h.right.1 in
    let inside = h.right.3 in
    let some = h.right.0 in
    let run : PageRunFits version first (length pages) = record { has = run_has version first pages h.has; few = few; run = record { from = h.right.2; some = some; inside = inside } } in
    let apart = append_assoc (to_be_bytes w32 first) (to_be_bytes w32 (length pages)) (flat_map content_text pages) in
    ap (λ (text : List ℕ). run_frame_at version (text ++ rest)) apart
    ∙ two_again reads_32 reads_contents (λ first pages rest. tested (is_page_run version first (length pages)) (Frame.Run first pages, rest)) first pages rest (omega (arith, some, inside)) (record { count = omega (arith, few); each = h.right.4 })
    ∙ rw (page_run_passes version first (length pages) run) refl

payload_again : (version : Version) (frame : Frame) (rest : List ℕ) → IsFrameIn version frame → payload_at version (tag_of frame) (body_text frame ++ rest) ≡ Ok (frame, rest)
unfolding payload_at page_frame_at discard_at package_at recv_at
payload_again version Frame.Advise rest h = refl
payload_again version (Frame.Page page bytes) rest h = two_again reads_page reads_content (λ page content rest. Ok (Frame.Page page content, rest)) page bytes rest h.right.0 h.right.1
payload_again version (Frame.Zero page) rest h = one_again reads_page (λ page rest. Ok (Frame.Zero page, rest)) page rest h.right
payload_again version (Frame.Discard pages) rest h = one_again reads_pages (λ pages rest. Ok (Frame.Discard pages, rest)) pages rest h.right
payload_again version (Frame.Package areas owed commands) rest h =
    three_again (reads_areas version) (reads_few_pages version) reads_commands (λ areas owed commands rest. Ok (Frame.Package areas owed commands, rest)) areas owed commands rest (record { pages = h.right.0.pages; few = h.few.0 }) (h.right.1.0, h.few.1) (h.right.2, h.right.3)
payload_again version (Frame.End urgent) rest h = one_again reads_32 (λ urgent rest. Ok (Frame.End urgent, rest)) urgent rest h.right
payload_again version Frame.Resume rest h = refl
payload_again version (Frame.Run first pages) rest h = run_again version first pages rest h
payload_again version (Frame.Request page) rest h = one_again reads_page (λ page rest. Ok (Frame.Request page, rest)) page rest h.right
payload_again version (Frame.Recv state owed) rest h = two_again reads_state (reads_few_pages version) (λ state owed rest. Ok (Frame.Recv state owed, rest)) state owed rest tt (h.right.0, h.few)
payload_again version Frame.Done rest h = refl

-- The whole body

pub record IsBody (version : Version) (t : Tag) (body : List ℕ) (frame : Frame) : Type 0 where
  pub text : body ≡ body_text frame
  pub fits : IsFrameIn version frame
  pub tag : tag_of frame ≡ t

pub body_takes : (version : Version) (t : Tag) (body : List ℕ) (frame : Frame) → IsBytes body → body_at version t body ≡ Ok frame → IsBody version t body frame
unfolding body_at
body_takes version t body frame fits e =
    let b = bind_ok (payload_at version t body) (λ read. tested (length read.1 == 0) read.0) frame e in
    let g = checked_ok (length b.0.1 == 0) b.0.0 frame b.2 in
    let p = payload_takes version t body b.0 fits b.1 in
    let nothing : b.0.1 ≡ [] = nil_from_length b.0.1 (eqb-true _ _ g.0) in
    let text : body ≡ body_text b.0.0 = p.0.parts ∙ ap (λ (r : List ℕ). body_text b.0.0 ++ r) nothing ∙ append-nil (body_text b.0.0) in
    subst (IsBody version t body) g.1 (record { text = text; fits = p.1; tag = p.2 })

pub body_again : (version : Version) (frame : Frame) → IsFrameIn version frame → body_at version (tag_of frame) (body_text frame) ≡ Ok frame
unfolding body_at
body_again version frame h =
    let read : payload_at version (tag_of frame) (body_text frame) ≡ Ok (frame, []) = ap (payload_at version (tag_of frame)) (sym (append-nil (body_text frame))) ∙ payload_again version frame [] h in
    rw read refl
