-- Reading mapped pages, as their areas.
use Rattle.std.proofs.Common.{◌≡◌, ℕ, ◌≤◌, ◌&&◌, Bool, true, false, not, eqb, leb, Option, Some, None, is_some, List, [], ◌∷◌, ◌++◌, zero, suc, Ok, Result, refl, sym, ap, subst, ◌∙◌, arith}
use Rattle.std.specs.Int.{w32}
use Rattle.std.specs.Ordering.{nat_cmp}
use Rattle.std.specs.FinMap as finmap
use Rattle.std.specs.FinMap.{FinMap, contains_key}
use Rattle.std.proofs.lemmas.Bool.{and_from, false≢true, eqb-true, eq-eqb, leb-true, le-leb}
use Rattle.area_map.specs.Areas.{pages_in}
use Rattle.area_map.proofs.ViewLemmas.{get-pages_in}
use Rattle.mig_base.specs.declared.Area.{Area}
use Rattle.mig_base.specs.declared.Prot.{Prot}
use Rattle.mig_base.specs.declared.Prot.TheVariants.{NoAccess, Read, ReadWrite}
use Rattle.mig_base.specs.declared.Run.{Run as PageRun}
use Rattle.mig_base.specs.declared.TheConstants.{LOW_PAGE}
use Rattle.mig_base.specs.Codes.{prot_number}
use Rattle.foundation.proofs.TestLemmas.{and_first, and_second}
use Rattle.mig_model.specs.Bounds.{IsPage}
use Rattle.mig_model.specs.Ioctls.{same_protection}
use Rattle.mig_model.proofs.memory.IoctlLemmas.{same_prot-self}
use Rattle.page_stream.specs.Texts.{AreMappedBelow, area_text, areas_of, areas_text}
use Rattle.page_stream.proofs.RunsAndAreas.{same_prot_tells}
use Rattle.page_stream.proofs.AreaTexts.{areas_are, few_areas}
use Rattle.frame_decoder.specs.declared.fault.StreamFault.{StreamFault}
use Rattle.frame_decoder.specs.declared.version.Version.{Version}
use Rattle.frame_decoder.specs.Reading.{◌>>=◌, tested, number_in, many_from, prot_at, is_run, goes_on_with, area_in, area_next, map_in, areas_in}
use Rattle.frame_decoder.specs.Versions.{max_pages}
use Rattle.frame_decoder.proofs.FieldLemmas.{IsBytes, IsBytes-rest, bind_split, bind_then, checked_ok, ok_is, Takes, IsReader, three_takes, three_again, reads_32, counted_takes, counted_again}
use Rattle.frame_decoder.proofs.SetReading.{run_is, run_passes}
use Rattle.frame_decoder.proofs.AreaOrder.{AreaFits, AreasFit, areas_runs, areas_inside, map_back, map_fits}

-- A protection

abbrev prot_text : Prot → List ℕ
prot_text prot = prot_number prot ∷ []

prot_takes : (bytes : List ℕ) (x : Prot × List ℕ) → IsBytes bytes → prot_at bytes ≡ Ok x → Takes bytes (prot_text x.0) x.1 × Unit {0}
unfolding prot_at
prot_takes [] x fits e = absurd cc
prot_takes (zero ∷ rest) x fits e = subst (λ (x : Prot × List ℕ). Takes (0 ∷ rest) (prot_text x.0) x.1 × Unit {0}) (ok_is (NoAccess, rest) x e) (record { parts = refl; rest_fits = IsBytes-rest 0 rest fits }, tt)
prot_takes (suc zero ∷ rest) x fits e = subst (λ (x : Prot × List ℕ). Takes (1 ∷ rest) (prot_text x.0) x.1 × Unit {0}) (ok_is (Read, rest) x e) (record { parts = refl; rest_fits = IsBytes-rest 1 rest fits }, tt)
prot_takes (suc (suc zero) ∷ rest) x fits e = subst (λ (x : Prot × List ℕ). Takes (2 ∷ rest) (prot_text x.0) x.1 × Unit {0}) (ok_is (ReadWrite, rest) x e) (record { parts = refl; rest_fits = IsBytes-rest 2 rest fits }, tt)
prot_takes (suc (suc (suc b)) ∷ rest) x fits e = absurd cc

prot_again : (prot : Prot) (rest : List ℕ) → Unit {0} → prot_at (prot_text prot ++ rest) ≡ Ok (prot, rest)
unfolding prot_at
prot_again NoAccess rest h = refl
prot_again Read rest h = refl
prot_again ReadWrite rest h = refl

reads_prot : IsReader prot_at prot_text (λ _. Unit {0})
reads_prot = record { takes = prot_takes; again = prot_again }

-- One area

not_both : (a b : Bool) → not (a && b) ≡ true → a ≡ true → b ≡ true → ⊥
not_both a b h p q = false≢true (rw (p, q) at h)

not_both_from : (a b : Bool) → (a ≡ true → b ≡ true → ⊥) → not (a && b) ≡ true
not_both_from true true h = absurd (h refl refl)
not_both_from true false h = refl
not_both_from false b h = refl

run_of : Area → PageRun
run_of area = record { first = area.first; count = area.count }

area_is : (state : ℕ × Option Prot) (area : Area) → goes_on_with state.0 state.1 area ≡ true → AreaFits state area
unfolding run_of
area_is state area h =
    let run = run_is state.0 (run_of area) (and_first (is_run state.0 area.first area.count) (not (eqb area.first state.0 && same_protection state.1 (Some area.prot))) h) in
    record {
      from = run.from;
      some = run.some;
      inside = run.inside;
      differ = λ e same.
          not_both (eqb area.first state.0) (same_protection state.1 (Some area.prot)) (and_second (is_run state.0 area.first area.count) (not (eqb area.first state.0 && same_protection state.1 (Some area.prot))) h) (eq-eqb area.first state.0 e)
          (ap (λ o. same_protection o (Some area.prot)) same ∙ same_prot-self area.prot);
    }

area_passes : (state : ℕ × Option Prot) (area : Area) → AreaFits state area → goes_on_with state.0 state.1 area ≡ true
unfolding run_of
area_passes state area h =
    and_from (is_run state.0 area.first area.count) (not (eqb area.first state.0 && same_protection state.1 (Some area.prot))) (run_passes state.0 (run_of area) (record { from = h.from; some = h.some; inside = h.inside }))
    (not_both_from (eqb area.first state.0) (same_protection state.1 (Some area.prot)) (λ e same. h.differ (eqb-true area.first state.0 e) (same_prot_tells state.1 (Some area.prot) same).0))

abbrev area_step : ℕ × Option Prot → ℕ → ℕ → Prot → List ℕ → Result (Area × List ℕ) StreamFault
area_step state first count prot rest = tested (goes_on_with state.0 state.1 (record { first = first; count = count; prot = prot })) (record { first = first; count = count; prot = prot }, rest)

area_takes : (state : ℕ × Option Prot) (bytes : List ℕ) (x : Area × List ℕ) → IsBytes bytes → area_in state bytes ≡ Ok x → Takes bytes (area_text x.0) x.1 × AreaFits state x.0
unfolding area_in
area_takes state bytes x fits e =
    let p = three_takes reads_32 reads_32 reads_prot (area_step state) bytes x fits e in
    let area : Area = record { first = p.0; count = p.1; prot = p.2 } in
    let g = checked_ok (goes_on_with state.0 state.1 area) (area, p.3) x p.8 in
    subst (λ (x : Area × List ℕ). Takes bytes (area_text x.0) x.1 × AreaFits state x.0) g.1 (p.4, area_is state area g.0)

area_again : (state : ℕ × Option Prot) (area : Area) (rest : List ℕ) → AreaFits state area → area_in state (area_text area ++ rest) ≡ Ok (area, rest)
unfolding area_in
area_again state area rest h =
    let inside = h.inside in
    three_again reads_32 reads_32 reads_prot (area_step state) area.first area.count area.prot rest (omega (arith, inside)) (omega (arith, inside)) tt ∙ rw (area_passes state area h) refl

reads_area : (state : ℕ × Option Prot) → IsReader (area_in state) area_text (AreaFits state)
reads_area state = record { takes = area_takes state; again = area_again state }

-- The mapped pages

-- the pages may be mapped, and a version has no fewer
pub record IsMapped (version : Version) (areas : FinMap nat_cmp Prot) : Type 0 where
  pub pages : (page : ℕ) → contains_key areas page ≡ true → IsPage page
  pub few : finmap.len areas ≤ max_pages version

mapped_below : (areas : FinMap nat_cmp Prot) → ((page : ℕ) → contains_key areas page ≡ true → IsPage page) → AreMappedBelow areas
mapped_below areas pages page there = (pages page there).1

read_pages : (areas : List Area) → AreasFit (LOW_PAGE, None) areas → (page : ℕ) → contains_key (pages_in areas) page ≡ true → IsPage page
read_pages areas h page there = areas_inside (LOW_PAGE, None) areas page h (sym (ap (λ (o : Option Prot). is_some o) (get-pages_in areas page)) ∙ there)

abbrev pub map_text : FinMap nat_cmp Prot → List ℕ
map_text areas = areas_text (areas_of areas)

map_takes : (bytes : List ℕ) (x : FinMap nat_cmp Prot × List ℕ) → IsBytes bytes → (number_in w32 bytes >>= λ n. map_in n.0 n.1) ≡ Ok x → Takes bytes (map_text x.0) x.1 × ((page : ℕ) → contains_key x.0 page ≡ true → IsPage page)
unfolding map_in
map_takes bytes x fits e =
    let b = bind_split (number_in w32 bytes) (λ n. many_from area_in area_next (LOW_PAGE, None) n.0 n.1) (λ areas. Ok (pages_in areas.0, areas.1)) x e in
    let p = counted_takes reads_32 reads_area area_next (LOW_PAGE, None) bytes b.0 fits b.1 in
    subst (λ (x : FinMap nat_cmp Prot × List ℕ). Takes bytes (map_text x.0) x.1 × ((page : ℕ) → contains_key x.0 page ≡ true → IsPage page)) (ok_is (pages_in b.0.0, b.0.1) x b.2)
    (subst (λ areas. Takes bytes (areas_text areas) b.0.1) (areas_are b.0.0 (pages_in b.0.0) (areas_runs (LOW_PAGE, None) b.0.0 p.2) refl) p.0, read_pages b.0.0 p.2)

map_again : (areas : FinMap nat_cmp Prot) (rest : List ℕ) → ((page : ℕ) → contains_key areas page ≡ true → IsPage page) → (number_in w32 (map_text areas ++ rest) >>= λ n. map_in n.0 n.1) ≡ Ok (areas, rest)
unfolding map_in
map_again areas rest pages =
    let below = mapped_below areas pages in
    let fits = map_fits areas below pages in
    let back = map_back areas below in
    bind_then (number_in w32 (map_text areas ++ rest)) (λ n. many_from area_in area_next (LOW_PAGE, None) n.0 n.1) (λ areas. Ok (pages_in areas.0, areas.1)) (areas_of areas, rest)
    (counted_again reads_32 reads_area area_next (LOW_PAGE, None) (areas_of areas) rest (let few = few_areas (areas_of areas) areas (areas_runs (LOW_PAGE, None) (areas_of areas) fits) back in omega (arith, few)) fits)
    ∙ ap (λ (m : FinMap nat_cmp Prot). Ok (m, rest)) back

areas_takes : (version : Version) (bytes : List ℕ) (x : FinMap nat_cmp Prot × List ℕ) → IsBytes bytes → areas_in version bytes ≡ Ok x → Takes bytes (map_text x.0) x.1 × IsMapped version x.0
unfolding areas_in
areas_takes version bytes x fits e =
    let b = bind_split (number_in w32 bytes) (λ n. map_in n.0 n.1) (λ areas. tested (leb (finmap.len areas.0) (max_pages version)) areas) x e in
    let g = checked_ok (leb (finmap.len b.0.0) (max_pages version)) b.0 x b.2 in
    let p = map_takes bytes b.0 fits b.1 in
    subst (λ (x : FinMap nat_cmp Prot × List ℕ). Takes bytes (map_text x.0) x.1 × IsMapped version x.0) g.1 (p.0, record { pages = p.1; few = leb-true _ _ g.0 })

areas_again : (version : Version) (areas : FinMap nat_cmp Prot) (rest : List ℕ) → IsMapped version areas → areas_in version (map_text areas ++ rest) ≡ Ok (areas, rest)
unfolding areas_in
areas_again version areas rest h =
    bind_then (number_in w32 (map_text areas ++ rest)) (λ n. map_in n.0 n.1) (λ areas. tested (leb (finmap.len areas.0) (max_pages version)) areas) (areas, rest) (map_again areas rest h.pages)
    ∙ rw (le-leb (finmap.len areas) (max_pages version) h.few) refl

pub reads_areas : (version : Version) → IsReader (areas_in version) map_text (IsMapped version)
reads_areas version = record { takes = areas_takes version; again = areas_again version }
