use Rattle.std.proofs.Common.{◌≡◌, ℕ, ◌<◌, ◌||◌, false, eqb, List, [], ◌∷◌, ◌++◌, length, refl, sym, ap, ◌∙◌, arith, cond, Option, Some, None}
use Rattle.std.specs.Ordering.{nat_cmp}
use Rattle.std.specs.FinMap.{empty, get-empty}
use Rattle.std.specs.FinSet.{contains, insert}
use Rattle.std.proofs.lemmas.Bool.{eqb-true}
use Rattle.mig_base.specs.declared.Area.{Area}
use Rattle.mig_base.specs.declared.Prot.TheVariants.{ReadWrite}
use Rattle.mig_base.specs.declared.command.Command.{Command}
use Rattle.mig_base.specs.declared.command.Command.TheVariants.{Load}
use Rattle.mig_base.specs.Pages.{set_range}
use Rattle.foundation.specs.Ranges.{in_range}
use Rattle.mig_base.proofs.PageLemmas.{get-set_range}
use Rattle.mig_base.specs.declared.Run.{Run as PageRun}
use Rattle.mig_base.specs.declared.phase.Received.{Received}
use Rattle.mig_base.proofs.SetLemmas.{member_inserted}
use Rattle.mig_model.specs.Log.{no_pages}
use Rattle.page_stream.specs.Texts.{areas_of, areas_text, commands_text, header_text, runs_of, runs_text}
use Rattle.page_stream.specs.Texts.Version.{One}
use Rattle.mig_model.specs.Wire.Frame.{Discard, Package, Recv}
use Rattle.mig_model.proofs.memory.Facts.{no_page, only_one, either}
use Rattle.page_stream.proofs.OneArea.{one_area}
use Rattle.page_stream.proofs.OneText.{text-is}
use Rattle.page_stream.proofs.RunsInOrder.{runs_of-only}
use Rattle.mig_model.proofs.memory.SpaceLemmas.{no_member}
use Rattle.page_stream.proofs.laws.some_texts.Goals as goal

-- the runs of one page, and of none
one_run : (page : ℕ) → page < 0x100000 → record { first = page; count = 1 } ∷ [] ≡ runs_of (insert no_pages page)
one_run page below =
    runs_of-only (insert no_pages page) (record { first = page; count = 1 } ∷ [])
    (λ q h. either (eqb q page) (contains no_pages q) (sym (member_inserted no_pages page q) ∙ h) (λ e. let at = eqb-true q page e in omega (arith, at, below)) (λ e. no_page q e))
    (omega arith, omega arith, tt)
    (λ q. let none : contains no_pages q ≡ false = no_member q in ap (λ b. b || false) (only_one page q) ∙ ap (λ b. eqb q page || b) (sym none) ∙ sym (member_inserted no_pages page q))

no_run : [] ≡ runs_of no_pages
no_run = runs_of-only no_pages [] (λ q h. no_page q h) tt (λ q. sym (no_member q))

pub returns-clause-discard : goal.returns-clause-discard
returns-clause-discard c =
    text-is One 1 (Discard (insert no_pages 0x11)) refl ∙ ap (λ (runs : List PageRun). header_text One 0x04 1 (length (runs_text runs)) ++ runs_text runs) (sym (one_run 0x11 (omega arith)))

pub returns-clause-recv : goal.returns-clause-recv
returns-clause-recv c =
    text-is One 2 (Recv Received.Running no_pages) refl
    ∙ ap (λ (runs : List PageRun). header_text One 0x82 2 (length (1 ∷ runs_text runs)) ++ (1 ∷ runs_text runs)) (sym no_run)

two_pages : areas_of (set_range empty 0x10 2 ReadWrite) ≡ record { first = 0x10; count = 2; prot = ReadWrite } ∷ []
two_pages =
    one_area (set_range empty 0x10 2 ReadWrite) ReadWrite 0x10 2 (omega arith) (omega arith)
    (λ q. get-set_range empty 0x10 2 ReadWrite q ∙ ap (λ o. cond (in_range 0x10 2 q) (Some ReadWrite) o) (get-empty nat_cmp q))

pub returns-clause-package : goal.returns-clause-package
returns-clause-package c =
    let commands : List (Option Command) = None ∷ Some (Load 0x11000 8) ∷ [] in
    let body : List Area → List PageRun → List ℕ = λ areas runs. areas_text areas ++ runs_text runs ++ commands_text commands in
    text-is One 1 (Package (set_range empty 0x10 2 ReadWrite) (insert no_pages 0x11) commands) refl
    ∙ ap (λ (areas : List Area). header_text One 0x05 1 (length (body areas (runs_of (insert no_pages 0x11)))) ++ body areas (runs_of (insert no_pages 0x11))) two_pages
    ∙ ap (λ (runs : List PageRun). let areas : List Area = record { first = 0x10; count = 2; prot = ReadWrite } ∷ [] in header_text One 0x05 1 (length (body areas runs)) ++ body areas runs) (sym (one_run 0x11 (omega arith)))
