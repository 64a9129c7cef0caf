-- The promises hold for each world of a test.
use Rattle.std.proofs.Common.{ℕ, List, [], ◌∷◌, refl, sym, subst}
use Rattle.mig_model.specs.Promises.{IsReached}
use Rattle.world.proofs.HeadlineLemmas.{headline_reached}
use Rattle.grammar.specs.Orders.{step_of}
use Rattle.engine.specs.declared.line_runner.Mode.TheVariants.{Lines}
use Rattle.mig_model.specs.Migration.{World, first_world}
use Rattle.world.specs.Headline.{Headline}
use Rattle.engine.specs.Worlds.{epoch_in}
use Rattle.engine.proofs.Transcripts.{any_reached, first_reached}
use Rattle.expected.specs.Cases.{Case, Nothing, Cpus, Asks, DoesCase, Agrees}
use Rattle.expected.specs.Tests.{SomeMet}

does_reached : (old : World) (case : Case) (new : World) (out : List ℕ) → IsReached old → DoesCase old case new out → IsReached new
does_reached old Nothing new out reached p = subst IsReached (sym p.0) reached
does_reached old (Cpus count) new out reached p = subst IsReached (sym p.0) (first_reached count)
does_reached old (Asks order answer) new out reached p = any_reached Lines old (step_of order (epoch_in old)) new out reached p

agrees_reached : (old : World) (cases : List Case) (new : World) → IsReached old → Agrees old cases new → IsReached new
agrees_reached old [] new reached p = subst IsReached (sym p) reached
agrees_reached old (case ∷ cases) new reached p = agrees_reached p.0 cases new (does_reached old case p.0 p.1 reached p.2) p.4

pub agrees_promised : (cpus : ℕ) (cases : List Case) (world : World) → Agrees (first_world cpus) cases world → Headline world
agrees_promised cpus cases world p = headline_reached world (agrees_reached (first_world cpus) cases world (first_reached cpus) p)

-- also after one line more
pub does_promised : (cpus : ℕ) (cases : List Case) (world : World) (case : Case) (new : World) (out : List ℕ) → Agrees (first_world cpus) cases world → DoesCase world case new out → Headline new
does_promised cpus cases world case new out p d =
    headline_reached new (does_reached world case new out (agrees_reached (first_world cpus) cases world (first_reached cpus) p) d)

-- nothing was read
pub none_met : (cpus : ℕ) (input : List ℕ) → SomeMet cpus input
none_met cpus input = ([], first_world cpus, input, record { reads = refl; agrees = refl; promised = agrees_promised cpus [] (first_world cpus) refl })
