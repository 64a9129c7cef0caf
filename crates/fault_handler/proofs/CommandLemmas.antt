-- The space of the destination's guest after a command.
use Rattle.std.proofs.Common.{◌≡◌, ℕ, Bool, refl, ap}
use Rattle.std.specs.Prelude.{Result, Ok, Err, IfOk, OnErr, option_to_list}
use Rattle.mig_base.specs.Commands.{is_access}
use Rattle.mig_base.specs.declared.command.Command.{Command}
use Rattle.mig_base.specs.declared.refusal.Refusal.{Refusal}
use Rattle.mig_model.specs.Guest.{Guest, tried}
use Rattle.mig_model.specs.GuestSteps.{issue, retry, tried_with}
use Rattle.mig_model.specs.Owed.{Owed}
use Rattle.mig_model.specs.Space.{IsSoundSpace, Space}
use Rattle.guest.specs.declared.tried.Tried.{Tried}
use Rattle.guest.proofs.CommandLemmas.{begun, tried_again}
use Rattle.uffd_ioctl.proofs.LentLemmas.{space_lent}
use Rattle.fault_handler.specs.Order.{IsInOrder}
use Rattle.fault_handler.proofs.ReadyLemmas.{ready_tried}

tried_order : (has_run : Bool) (guest : Guest) (space : Space) (owed : Owed) (cpu : ℕ) (command : Command) → IsSoundSpace guest.space → space ≡ (tried (is_access command) guest cpu command).space →
    IsInOrder has_run guest.space owed → IsInOrder has_run space owed
tried_order has_run guest space owed cpu command sound is old =
    record {
      ready = λ run.
          let ready = old.ready run in
          rw is (ready_tried (is_access command) guest.space owed cpu command refl sound (space_lent (is_access command) guest.space cpu command refl sound ready.lent) ready);
    }

-- what a call keeps, whether the command is accepted or not

pub issue_kept : (answer : Result Tried Refusal) (has_run : Bool) (guest new : Guest) (owed : Owed) (cpu : ℕ) (command : Command) → IsSoundSpace guest.space → IfOk answer (λ tried. issue guest has_run cpu command ≡ tried_with tried.effect (option_to_list tried.entry) new) →
    OnErr answer ((new.space ≡ guest.space) × (new.cpus ≡ guest.cpus)) → IsInOrder has_run guest.space owed → IsInOrder has_run new.space owed
issue_kept (Ok tried) has_run guest new owed cpu command sound made same old =
    tried_order has_run guest new.space owed cpu command sound (ap (λ (g : Guest). g.space) (begun guest new has_run cpu command tried.effect (option_to_list tried.entry) made)) old
issue_kept (Err refusal) has_run guest new owed cpu command sound made same old = rw same.0 old

pub retry_kept : (answer : Result Tried Refusal) (has_run : Bool) (guest new : Guest) (owed : Owed) (cpu : ℕ) → IsSoundSpace guest.space → IfOk answer (λ tried. retry guest has_run cpu ≡ tried_with tried.effect (option_to_list tried.entry) new) →
    OnErr answer ((new.space ≡ guest.space) × (new.cpus ≡ guest.cpus)) → IsInOrder has_run guest.space owed → IsInOrder has_run new.space owed
retry_kept (Ok tried) has_run guest new owed cpu sound made same old =
    let again = tried_again guest new has_run cpu tried.effect (option_to_list tried.entry) made in
    tried_order has_run guest new.space owed cpu again.command sound (ap (λ (g : Guest). g.space) again.is) old
retry_kept (Err refusal) has_run guest new owed cpu sound made same old = rw same.0 old
