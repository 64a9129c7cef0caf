-- A table that is given the bytes of neighbouring pages.
use Rattle.std.proofs.Common.{◌≡◌, ℕ, ◌+◌, ◌-◌, ◌≤◌, ◌&&◌, Bool, true, false, not, cond, eqb, refl, sym, ap, ◌∙◌, arith, List, ◌∷◌, [], ◌++◌, length, get_or, Some}
use Rattle.std.specs.FinMap as finmap
use Rattle.std.proofs.lemmas.Bool.Decides.{nat_tests}
use Rattle.std.proofs.lemmas.List.{get_or_append_left, length-append}
use Rattle.std.proofs.Math.Seq.{get_or-append_seam}
use Rattle.foundation.specs.Ranges.{in_range}
use Rattle.mig_base.specs.Sets.{without}
use Rattle.mig_base.proofs.SetLemmas.{member_without}
use Rattle.page_table.specs.Leaves.{Cell, Place, cell_at, put_cell}
use Rattle.page_table.specs.Views.{Pages, shown_pages}
use Rattle.page_table.proofs.ViewLemmas.{bytes_seen, bytes_shown, flag_seen, flags_by}

-- the last page before the others
last_page : (run : List (List ℕ)) (bytes : List ℕ) (first q : ℕ) (cell : Cell) →
    cond (in_range first (length run) q) (Some (get_or run (q - first) []), false) (cond (eqb q (first + length run)) (Some bytes, false) cell)
    ≡ cond (in_range first (length run + 1) q) (Some (get_or (run ++ bytes ∷ []) (q - first) []), false) cell
last_page run bytes first q cell = grind (arith, nat_tests, get_or_append_left run (bytes ∷ []) [] (q - first), get_or-append_seam run bytes [] [])

length_last : (run : List (List ℕ)) (bytes : List ℕ) → length (run ++ bytes ∷ []) ≡ length run + 1
length_last run bytes = length-append run (bytes ∷ [])

pub put_more : (cells now : ℕ → Cell) (first : ℕ) (before run : List (List ℕ)) (bytes : List ℕ) → before ≡ run ++ bytes ∷ [] → ((p : ℕ) → now p ≡ cond (eqb p (first + length run)) (Some bytes, false) (cells p)) → (q : ℕ) → put_cell now first run q ≡ put_cell cells first before q
put_more cells now first before run bytes is h q =
    ap (λ cell. cond (in_range first (length run) q) (Some (get_or run (q - first) []), false) cell) (h q) ∙ last_page run bytes first q (cells q)
    ∙ ap (λ n. cond (in_range first n q) (Some (get_or (run ++ bytes ∷ []) (q - first) []), false) (cells q)) (sym (length_last run bytes))
    ∙ ap (λ whole. put_cell cells first whole q) (sym is)

pub put_none : (cells : ℕ → Cell) (first q : ℕ) → put_cell cells first [] q ≡ cells q
put_none cells first q = grind (arith, nat_tests)

-- what the table shows then
put_first : (b : Bool) (run : List ℕ) (cell : Cell) → (cond b (Some run, false) cell).0 ≡ cond b (Some run) cell.0
put_first true run cell = refl
put_first false run cell = refl

put_second : (b : Bool) (run : List ℕ) (cell : Cell) → (cond b (Some run, false) cell).1 ≡ (cell.1 && not b)
put_second true run (o, true) = refl
put_second true run (o, false) = refl
put_second false run (o, true) = refl
put_second false run (o, false) = refl

pub run_bytes : (old new : List Place) (value : Pages) (first : ℕ) (run : List (List ℕ)) → length old ≤ 1024 → length new ≤ 1024 → shown_pages old ≡ value → ((q : ℕ) → cell_at new q ≡ put_cell (cell_at old) first run q) → (q : ℕ) → finmap.get (shown_pages new).bytes q ≡ cond (in_range first (length run) q) (Some (get_or run (q - first) [])) (finmap.get value.bytes q)
run_bytes old new value first run few still view h q =
    bytes_shown new q still ∙ ap (λ x. x.0) (h q) ∙ put_first (in_range first (length run) q) (get_or run (q - first) []) (cell_at old q)
    ∙ ap (λ o. cond (in_range first (length run) q) (Some (get_or run (q - first) [])) o) (bytes_seen old value q few view)

pub run_flags : (old new : List Place) (value : Pages) (first : ℕ) (run : List (List ℕ)) → length old ≤ 1024 → length new ≤ 1024 → shown_pages old ≡ value → ((q : ℕ) → cell_at new q ≡ put_cell (cell_at old) first run q) → (shown_pages new).protected ≡ without value.protected first (length run)
run_flags old new value first run few still view h =
    flags_by new (without value.protected first (length run)) still
    (λ q. ap (λ x. x.1) (h q) ∙ put_second (in_range first (length run) q) (get_or run (q - first) []) (cell_at old q) ∙ ap (λ b. b && not (in_range first (length run) q)) (flag_seen old value q few view) ∙ sym (member_without value.protected first (length run) q))
