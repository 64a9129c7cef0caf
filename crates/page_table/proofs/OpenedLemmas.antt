-- A range that is no longer protected, leaf by leaf.
use Rattle.std.proofs.Common.{◌≡◌, ℕ, ◌+◌, ◌-◌, ◌*◌, ◌/◌, ◌%◌, ◌<◌, ◌≤◌, ◌&&◌, false, not, ltb, sym, ap, ◌∙◌, arith, List, length, min, get_or, set, None, is_some}
use mathlib.Core.Logic.{dite}
use native.Mathlib.Decide.{ℕ_discrete}
use Rattle.std.proofs.lemmas.Bool.{eq-eqb, ne_eqb}
use Rattle.foundation.specs.Ranges.{in_range}
use Rattle.mig_base.specs.Sets.{without}
use Rattle.mig_base.proofs.SetLemmas.{member_without}
use Rattle.mig_base.proofs.PlaceLemmas.{in_this, before_this, not_this}
use Rattle.foundation.proofs.TestLemmas.{and_true, and_first}
use Rattle.page_table.specs.Leaves.{Cell, Place, cell_in, cell_at, opened_cell}
use Rattle.page_table.specs.Views.{Pages, shown_pages, IsTable}
use Rattle.page_table.proofs.TableLemmas.{Places, at_place, past_places, cell_at-set}
use Rattle.page_table.proofs.ViewLemmas.{bytes_by, flags_by, bytes_seen, flag_seen}

opened_not : (cell : Cell) → opened_cell cell false ≡ cell
opened_not cell = λ i. (cell.0, and_true cell.1 i)

-- the pages of the range that lie below a bound are no longer protected
abbrev pub IsOpened : Places → Places → ℕ → ℕ → ℕ → Type 0
IsOpened old new first count bound = (q : ℕ) → cell_at new q ≡ opened_cell (cell_at old q) (ltb q bound && in_range first count q)

pub opened_more : (old places : Places) (first count at low high : ℕ) (place : Place) → at < length places → IsOpened old places first count (1024 * at)
    → ((i : ℕ) → cell_in place i ≡ opened_cell (cell_in (get_or places at None) i) (in_range low (high - low) i)) → low ≡ first - 1024 * at → high ≡ min (first + count - 1024 * at) 1024 → low ≤ high
    → IsOpened old (set places at place) first count (1024 * (at + 1))
opened_more old places first count at low high place inside is here a b h = λ q.
    cell_at-set places at place q inside
    ∙ dite (ℕ_discrete (q / 1024) at)
    (λ e. rw (eq-eqb (q / 1024) at e)
    (here (q % 1024)
    ∙ ap (λ t. opened_cell t (in_range low (high - low) (q % 1024))) (at_place places q at e ∙ is q ∙ ap (λ t. opened_cell (cell_at old q) (t && in_range first count q)) (before_this q at e) ∙ opened_not (cell_at old q))
    ∙ ap (opened_cell (cell_at old q)) (in_this q first count at low high e a b h)))
    (λ n. rw (ne_eqb (q / 1024) at n) (is q ∙ ap (λ t. opened_cell (cell_at old q) (t && in_range first count q)) (sym (not_this q at n))))

pub opened_past : (old places : Places) (first count at : ℕ) → length places ≡ length old → length places ≤ at → IsOpened old places first count (1024 * at) → IsOpened old places first count (1024 * (at + 1))
opened_past old places first count at same past is = λ q.
    dite (ℕ_discrete (q / 1024) at)
    (λ e.
    let none = past_places old q (omega arith) in
    is q ∙ ap (λ c. opened_cell c (ltb q (1024 * at) && in_range first count q)) none ∙ sym (ap (λ c. opened_cell c (ltb q (1024 * (at + 1)) && in_range first count q)) none))
    (λ n. is q ∙ ap (λ t. opened_cell (cell_at old q) (t && in_range first count q)) (sym (not_this q at n)))

-- What is shown

pub opened_bytes : (old new : List Place) (value : Pages) (first count : ℕ) → length old ≤ 1024 → length new ≤ 1024 → shown_pages old ≡ value → ((q : ℕ) → cell_at new q ≡ opened_cell (cell_at old q) (in_range first count q)) → (shown_pages new).bytes ≡ value.bytes
opened_bytes old new value first count few still view h = bytes_by new value.bytes still (λ q. ap (λ x. x.0) (h q) ∙ bytes_seen old value q few view)

pub opened_flags : (old new : List Place) (value : Pages) (first count : ℕ) → length old ≤ 1024 → length new ≤ 1024 → shown_pages old ≡ value → ((q : ℕ) → cell_at new q ≡ opened_cell (cell_at old q) (in_range first count q)) → (shown_pages new).protected ≡ without value.protected first count
opened_flags old new value first count few still view h =
    flags_by new (without value.protected first count) still
    (λ q. ap (λ x. x.1) (h q) ∙ ap (λ b. b && not (in_range first count q)) (flag_seen old value q few view) ∙ sym (member_without value.protected first count q))

pub opened_table : (old new : List Place) (first count : ℕ) → IsTable old → length new ≡ length old → ((q : ℕ) → cell_at new q ≡ opened_cell (cell_at old q) (in_range first count q)) → IsTable new
opened_table old new first count inv size h = record {
  few = let few = inv.few in omega arith;
  inside = λ q on. ap (λ x. is_some x.0) (h q) ∙ inv.inside q (and_first (cell_at old q).1 (not (in_range first count q)) (sym (ap (λ x. x.1) (h q)) ∙ on));
}
