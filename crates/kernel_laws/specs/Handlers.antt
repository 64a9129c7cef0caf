-- The calls that the handlers of a migration make, of a kernel: a page is put, made zeros, protected or unprotected, or its sleepers are woken.
use Rattle.std.specs.Prelude.{◌≡◌, ℕ, Option, Ok}
use Rattle.foundation.specs.declared.TheConstants.{PAGE_SIZE}
use Rattle.mig_base.specs.declared.effect.Effect.{Effect}
use Rattle.mig_base.specs.declared.schedule.Step.{Step}
use Rattle.mig_model.specs.Migration.{World, next, outcome}
use Rattle.mig_model.specs.Promises.{IsReached}
use Rattle.mig_model.specs.Space.{Space}
use Rattle.uffd_log.specs.declared.line.Answer.TheVariants.{Done, Value}
use Rattle.kernel_rules.specs.Ioctls.{copied, protected_with, put_with, waked}
use Rattle.kernel_rules.specs.State.{Kernel}
use Rattle.kernel_laws.specs.Agreement.{Counterparts}

-- an accepted step of a reached world with this effect, and a kernel's object that agrees with the destination's
pub record DestinationStep (step : Step) (effect : Effect) : Type 0 where
  pub world : World
  pub reached : IsReached world
  pub is : outcome world step ≡ Ok effect
  pub one : Counterparts
  pub same : one.space ≡ world.destination.guest.space

-- the same of the source
pub record SourceStep (step : Step) (effect : Effect) : Type 0 where
  pub world : World
  pub reached : IsReached world
  pub is : outcome world step ≡ Ok effect
  pub one : Counterparts
  pub same : one.space ≡ world.source.guest.space

-- the space of the destination after a step
abbrev pub destination_after : World → Step → Space
destination_after world step = (next world step).destination.guest.space

-- the space of the source
abbrev pub source_after : World → Step → Space
source_after world step = (next world step).source.guest.space

-- UFFDIO_COPY has put one page, from a buffer of the handler
abbrev pub copies_page : Counterparts → (key from addr : ℕ) → Option Kernel
copies_page one key from addr = copied one.kernel key one.name one.object addr from PAGE_SIZE 0 (Value PAGE_SIZE)

-- UFFDIO_ZEROPAGE has
abbrev pub zeroes_page : Counterparts → (key addr : ℕ) → Option Kernel
zeroes_page one key addr = put_with one.kernel key one.name one.object addr PAGE_SIZE 0 1 (Value PAGE_SIZE)

-- UFFDIO_WAKE of one page has succeeded
abbrev pub wakes_page : Counterparts → (addr : ℕ) → Option Kernel
wakes_page one addr = waked one.kernel one.name one.object addr PAGE_SIZE Done

-- UFFDIO_WRITEPROTECT of a range has, with this word of modes
abbrev pub protects_pages : Counterparts → (key addr len bits : ℕ) → Option Kernel
protects_pages one key addr len bits = protected_with one.kernel key one.name one.object addr len bits Done
