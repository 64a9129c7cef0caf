-- The areas that stay on each side of a range, and the list after an edit.
use Rattle.std.specs.Prelude.{◌≡◌, ◌≢◌, ℕ, ◌+◌, ◌<◌, ◌≤◌, if◌then◌else◌, Option, Some, List, ◌++◌, length, take, drop}
use Rattle.std.specs.List.{All}
use Rattle.std.specs.Option.{option_to_list}
use Rattle.mig_base.specs.declared.TheConstants.{HIGH_PAGE}
use Rattle.mig_base.specs.declared.Prot.{Prot}
use Rattle.mig_base.specs.declared.Area.{Area}
use Rattle.foundation.specs.Ranges.{in_range}
use Rattle.area_map.specs.declared.edit.Side.{Side}
use Rattle.area_map.specs.declared.edit.Edit.{Edit}
use Rattle.area_map.specs.Areas.{prot_in, AreRuns, EndsBefore, BeginsAfter}

-- the area lies below the page, and if it touches the page, its protection is not `prot`
pub record StandsBelow (page : ℕ) (prot : Option Prot) (area : Area) : Type 0 where
  pub apart : area.first + area.count ≤ page
  pub differ : area.first + area.count ≡ page → Some area.prot ≢ prot

-- the area begins at the page or after it, and if it begins there, its protection is not `prot`
pub record StandsAbove (page : ℕ) (prot : Option Prot) (area : Area) : Type 0 where
  pub apart : page ≤ area.first
  pub differ : page ≡ area.first → Some area.prot ≢ prot

-- the areas that stay below a range: those before the index of the side, and the part of the next one
abbrev pub kept_below : List Area → Side → List Area
kept_below areas side = take side.at areas ++ option_to_list side.part

-- the areas that stay above a range: the part of one area, and those from the index of the side on
abbrev pub kept_above : List Area → Side → List Area
kept_above areas side = option_to_list side.part ++ drop side.at areas

-- the side is right for the areas below a page, where a range with the protection begins
pub record IsBelow (areas : List Area) (side : Side) (page : ℕ) (prot : Option Prot) : Type 0 where
  pub within : side.at ≤ length areas
  pub front : All (EndsBefore page) (take side.at areas)
  pub until : side.page ≤ page
  pub runs : AreRuns (kept_below areas side)
  pub apart : All (StandsBelow side.page prot) (kept_below areas side)
  pub pages : (q : ℕ) → q < side.page → prot_in (kept_below areas side) q ≡ prot_in areas q
  pub joined : (q : ℕ) → side.page ≤ q → q < page → prot_in areas q ≡ prot

-- the side is right for the areas above a page, where a range with the protection ends
pub record IsAbove (areas : List Area) (side : Side) (page : ℕ) (prot : Option Prot) : Type 0 where
  pub within : side.at ≤ length areas
  pub back : All (BeginsAfter page) (drop side.at areas)
  pub from : page ≤ side.page
  pub bound : side.page ≤ HIGH_PAGE
  pub runs : AreRuns (kept_above areas side)
  pub apart : All (StandsAbove side.page prot) (kept_above areas side)
  pub pages : (q : ℕ) → side.page ≤ q → prot_in (kept_above areas side) q ≡ prot_in areas q
  pub joined : (q : ℕ) → page ≤ q → q < side.page → prot_in areas q ≡ prot

-- the indices of the edit lie in the list
pub record IsInside (areas : List Area) (edit : Edit) : Type 0 where
  pub order : edit.low ≤ edit.high
  pub within : edit.high ≤ length areas

-- the list after the edit
abbrev pub edited : List Area → Edit → List Area
edited areas edit = take edit.low areas ++ (option_to_list edit.left ++ (option_to_list edit.middle ++ (option_to_list edit.right ++ drop edit.high areas)))

-- the edit leaves maximal runs that have the protection in the range, and are unchanged elsewhere
pub record IsEdit (areas : List Area) (edit : Edit) (first count : ℕ) (prot : Option Prot) : Type 0 where
  pub inside : IsInside areas edit
  pub runs : AreRuns (edited areas edit)
  pub pages : (q : ℕ) → prot_in (edited areas edit) q ≡ (if in_range first count q then prot else prot_in areas q)
