-- A line can say each step of the strategy: of a push the page is below HIGH_PAGE.
use Rattle.std.proofs.Common.{List, [], ◌∷◌, subst}
use Rattle.std.specs.FinSet.{contains}
use Rattle.std.specs.Option.{IfSome}
use Rattle.mig_base.specs.declared.TheConstants.{HIGH_PAGE}
use Rattle.mig_base.specs.declared.schedule.Step.{Step}
use Rattle.mig_model.specs.Migration.{World, next}
use Rattle.mig_model.proofs.memory.IoctlLemmas.{least_bound}
use Rattle.finish.specs.Finishing.{AreDue, finishing_step}
use Rattle.finish.proofs.OwnSteps.{of_named}
use Rattle.grammar.specs.Fits.{CanBeSpelled}
use Rattle.grammar.specs.Orders.{order_of}
use Rattle.finishing.specs.Finished.{HaveLines}

abbrev CanSay : Step → Type 0
CanSay made = CanBeSpelled (order_of made)

pub can_say : (world : World) → IfSome (finishing_step world) CanSay
can_say world =
    of_named CanSay world
    (record {
      start = tt;
      source_read = tt;
      switch = tt;
      push = λ page is. least_bound (contains world.source.remaining) HIGH_PAGE page is;
      end = tt;
      deliver = tt;
      deliver_urgent = tt;
      deliver_back = tt;
      dest_read = tt;
      install = tt;
      notice = λ side. tt;
      resume = tt;
    })

pub have_lines : (world : World) (steps : List Step) → AreDue world steps → HaveLines steps
have_lines world [] due = tt
have_lines world (made ∷ steps) due = (subst (λ o. IfSome o CanSay) due.0 (can_say world), have_lines (next world made) steps due.1)
