-- A command of the guest in a world whose destination has run, and a Notice in one whose link is down.
use Rattle.std.proofs.Common.{◌≡◌, ℕ, true, arith}
use Rattle.mig_base.specs.declared.command.Command.{Command}
use Rattle.mig_base.specs.declared.schedule.Step.{Step}
use Rattle.mig_model.specs.GuestSteps.{issue, retry}
use Rattle.mig_model.specs.Migration.{World, answer, guest_tries}
use Rattle.fault_handler.specs.Asking.{IsBroken, IsOwnNotice}

pub issue_in : (world : World) (cpu : ℕ) (command : Command) → world.destination.has_run ≡ true → answer world (Step.Issue cpu command) ≡ guest_tries world (issue world.destination.guest world.destination.has_run cpu command)
issue_in world cpu command h = grind arith

pub retry_in : (world : World) (cpu : ℕ) → world.destination.has_run ≡ true → answer world (Step.Retry cpu) ≡ guest_tries world (retry world.destination.guest world.destination.has_run cpu)
retry_in world cpu h = grind arith

pub notice_in : (world : World) → IsBroken world → IsOwnNotice world
notice_in world broken = let down = broken.down in let under_way = broken.under_way in grind arith
