-- The areas of a guest as runs that cover exactly its mapped pages.
use Rattle.std.proofs.Common.{◌≡◌, ℕ, ◌+◌, ◌||◌, Bool, true, false, Option, Some, None, is_some, List, [], ◌∷◌, refl, sym, ap, ◌∙◌, subst, if◌then◌else◌}
use Rattle.std.specs.Ordering.{nat_cmp}
use Rattle.std.specs.FinMap.{FinMap}
use Rattle.mig_base.specs.declared.Area.{Area}
use Rattle.mig_base.specs.declared.Prot.{Prot}
use Rattle.mig_base.specs.declared.Run.{Run}
use Rattle.mig_base.specs.PageSets.{in_runs}
use Rattle.foundation.specs.Ranges.{in_range}
use Rattle.mig_model.specs.Bounds.{IsMapping}
use Rattle.mig_model.specs.Handlers.{AreRunsOf, AreSome}
use Rattle.page_stream.specs.Texts.{AreAreasAfter, AreMappedBelow, areas_of, prot_in}
use Rattle.page_stream.proofs.AreasInOrder.{areas_of-ordered}
use Rattle.page_stream.proofs.RunsAndAreas.{prot_in-areas_of}

-- areas without their protections
abbrev pub runs_in : List Area → List Run
runs_in [] = []
runs_in (area ∷ areas) = record { first = area.first; count = area.count } ∷ runs_in areas

either_there : (here : Bool) (prot : Prot) (o : Option Prot) → (here || is_some o) ≡ is_some (if here then Some prot else o)
either_there true prot o = refl
either_there false prot o = refl

in_runs_in : (areas : List Area) (page : ℕ) → in_runs (runs_in areas) page ≡ is_some (prot_in areas page)
in_runs_in [] page = refl
in_runs_in (area ∷ areas) page = ap (λ b. in_range area.first area.count page || b) (in_runs_in areas page) ∙ either_there (in_range area.first area.count page) area.prot (prot_in areas page)

some_in : (areas : List Area) (end : ℕ) (prot : Option Prot) → AreAreasAfter end prot areas → AreSome (runs_in areas)
some_in [] end prot are = tt
some_in (area ∷ areas) end prot are = (are.1, some_in areas (area.first + area.count) (Some area.prot) are.3)

mapped_below : (areas : FinMap nat_cmp Prot) → IsMapping areas → AreMappedBelow areas
mapped_below areas mapping page there = (mapping.pages page there).1

pub areas_covered : (old new : FinMap nat_cmp Prot) → new ≡ old → IsMapping old → AreRunsOf old (runs_in (areas_of new))
areas_covered old new same mapping =
    subst (λ areas. AreRunsOf old (runs_in (areas_of areas))) (sym same)
    (record {
      some = some_in (areas_of old) 0 None (areas_of-ordered old);
      pages = λ page. in_runs_in (areas_of old) page ∙ ap (λ (o : Option Prot). is_some o) (prot_in-areas_of old (mapped_below old mapping) page);
    })
