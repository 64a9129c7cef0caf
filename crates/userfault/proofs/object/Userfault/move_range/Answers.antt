use Rattle.std.proofs.Common.{◌∙◌, ap}
use Rattle.mig_base.specs.Userfault.{moved_modes}
use Rattle.userfault.specs.Modes.{no_mode}
use Rattle.userfault.proofs.OpenLemmas.{is_opened, modes_to_opened}
use Rattle.userfault.proofs.object.Userfault.move_range.Goals as goal

pub move_to_open-requires-clause-open : goal.move_to_open-requires-clause-open
move_to_open-requires-clause-open c = is_opened c.open_range.new.self c.args.self.now c.args.to c.args.count c.in_ok-open_range.ensures.ok

pub returns-clause-ok : goal.returns-clause-ok
returns-clause-ok c =
    c.move_to_open.ensures
    ∙ ap (λ o. moved_modes o c.args.from c.args.count c.args.to c.args.count no_mode) c.in_ok-open_range.ensures.ok
    ∙ modes_to_opened c.args.self.now c.args.from c.args.count c.args.to c.args.count no_mode c.requires.apart
