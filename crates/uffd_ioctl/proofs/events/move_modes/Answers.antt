use Rattle.std.proofs.Common.{◌∙◌, ◌+◌, ◌-◌, ap}
use Rattle.mig_base.specs.Userfault.{unregistered}
use Rattle.uffd_ioctl.proofs.MoveLemmas.{modes_stay, modes_go}
use Rattle.uffd_ioctl.proofs.events.move_modes.Goals as goal
use Rattle.uffd_ioctl.proofs.events.move_modes.Goals.{then-range, else-range}

pub returns : goal.returns
returns c = λ before low is.
    elim c.if-range.branch [
      | then-range w ↦
          modes_go before c.args.object.now c.if-range.object c.forget_range.new.self c.limit_range.new.self c.args.range c.min-kept.result _ c.requires.range w.if-range.true c.min-kept.ensures c.mode_at-last.ensures is
          (w.object-is ∙ w.move_to_open.ensures) c.forget_range.ensures c.limit_range.ensures
      | else-range w ↦
          modes_stay before c.args.object.now c.forget_range.new.self c.limit_range.new.self c.args.range c.min-kept.result _ c.requires.range low w.if-range.false c.min-kept.ensures c.mode_at-last.ensures is
          (c.forget_range.ensures ∙ ap (λ o. unregistered o (c.args.range.from + c.min-kept.result) (c.args.range.count - c.min-kept.result)) w.object-is) c.limit_range.ensures
    ]
