-- The length of a text is what the machine counts.
use Rattle.std.proofs.lemmas.Bool.Decides.{nat_tests}
use Rattle.std.proofs.Common.{◌≡◌, ℕ, zero, suc, ◌*◌, Bool, true, cond, Option, List, [], ◌∷◌, length, refl, ap, ◌∙◌, arith}
use Rattle.std.specs.List.{flat_map, AllByRecursion}
use Rattle.std.specs.Int.{w32, to_be_bytes}
use Rattle.std.specs.Ordering.{nat_cmp}
use Rattle.std.specs.FinMap.{FinMap}
use Rattle.std.specs.FinSet.{FinSet}
use Rattle.std.proofs.lemmas.List.{length-append, length-map}
use Rattle.std.proofs.lemmas.List.Concat.{flat_map-cons}
use Rattle.mig_base.specs.declared.Area.{Area}
use Rattle.mig_base.specs.declared.Prot.{Prot}
use Rattle.mig_base.specs.declared.Run.{Run as PageRun}
use Rattle.mig_base.specs.declared.TheConstants.{HIGH_PAGE}
use Rattle.mig_base.specs.declared.command.Command.{Command}
use Rattle.foundation.specs.Ranges.{count_below}
use Rattle.mig_model.specs.Lengths.{begins_run, begins_area, run_count, area_count, runs_len, areas_len, command_len, commands_len, text_len}
use Rattle.page_stream.specs.Texts.{list_below, run_at, runs_of, area_at, areas_of, Version, has_frame, run_text, runs_text, area_text, areas_text, command_text, text, HasWholePages}
use Rattle.mig_model.specs.Wire.{Frame}

one_if : (b : Bool) (n : ℕ) → length (cond b (n ∷ []) []) ≡ cond b 1 0
one_if b n = grind (arith, nat_tests)

pub length-list_below : (test : ℕ → Bool) (bound : ℕ) → length (list_below test bound) ≡ count_below test bound
unfolding list_below count_below
length-list_below test zero = refl
length-list_below test (suc bound) = grind (arith, nat_tests, length-append, one_if, length-list_below test bound)

pub length-runs_of : (pages : FinSet nat_cmp) → length (runs_of pages) ≡ run_count pages
unfolding run_count
length-runs_of pages = length-map (list_below (begins_run pages) HIGH_PAGE) (run_at pages) ∙ length-list_below (begins_run pages) HIGH_PAGE

length-areas_of : (areas : FinMap nat_cmp Prot) → length (areas_of areas) ≡ area_count areas
unfolding area_count
length-areas_of areas = length-map (list_below (begins_area areas) HIGH_PAGE) (area_at areas) ∙ length-list_below (begins_area areas) HIGH_PAGE

-- texts of one length, one after the other
length-flat_map_same : {A : Type 0} (text : A → List ℕ) (size : ℕ) (xs : List A) → AllByRecursion (λ x. length (text x) ≡ size) xs → length (flat_map text xs) ≡ size * length xs
length-flat_map_same text size [] h = omega arith
length-flat_map_same text size (x ∷ xs) h = grind (arith, nat_tests, flat_map-cons, length-append, length-flat_map_same text size xs h.1)

pub length-runs : (runs : List PageRun) → length (flat_map run_text runs) ≡ 8 * length runs
length-runs [] = refl
length-runs (run ∷ runs) = omega (arith, ap length (flat_map-cons run_text run runs), length-append (run_text run) (flat_map run_text runs), length-runs runs)

length-areas : (areas : List Area) → length (flat_map area_text areas) ≡ 9 * length areas
length-areas [] = refl
length-areas (area ∷ areas) = omega (arith, ap length (flat_map-cons area_text area areas), length-append (area_text area) (flat_map area_text areas), length-areas areas)

length-runs_text : (pages : FinSet nat_cmp) → length (runs_text (runs_of pages)) ≡ runs_len pages
length-runs_text pages = omega (arith, length-append (to_be_bytes w32 (length (runs_of pages))) (flat_map run_text (runs_of pages)), length-runs (runs_of pages), length-runs_of pages)

length-areas_text : (areas : FinMap nat_cmp Prot) → length (areas_text (areas_of areas)) ≡ areas_len areas
length-areas_text areas = omega (arith, length-append (to_be_bytes w32 (length (areas_of areas))) (flat_map area_text (areas_of areas)), length-areas (areas_of areas), length-areas_of areas)

length-command_text : (command : Option Command) → length (command_text command) ≡ command_len command
length-command_text command = grind (arith, nat_tests)

length-commands : (commands : List (Option Command)) → length (flat_map command_text commands) ≡ commands_len commands
length-commands [] = refl
length-commands (command ∷ commands) = grind (arith, nat_tests, flat_map-cons, length-append, length-command_text, length-commands commands)

pub length-text : (version : Version) (epoch : ℕ) (frame : Frame) → has_frame version frame ≡ true → HasWholePages frame → length (text version epoch frame) ≡ text_len frame
unfolding text
length-text version epoch frame has whole = grind (arith, nat_tests, length-append, length-flat_map_same, length-runs_text, length-areas_text, length-commands)
