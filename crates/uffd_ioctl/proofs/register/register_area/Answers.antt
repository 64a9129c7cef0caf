use Rattle.std.proofs.Common.{◌∙◌, ◌-◌, ◌&&◌}
use Rattle.std.proofs.lemmas.Result.{IfOk-weaker}
use Rattle.foundation.specs.Ranges.{in_range}
use Rattle.userfault.specs.Modes.{mode_of}
use Rattle.uffd_ioctl.proofs.RegisterLemmas.{in_both, apart, same_where, nothing_where}
use Rattle.uffd_ioctl.proofs.register.register_area.Goals as goal

pub returns-then-first-end : goal.returns-then-first-end
returns-then-first-end c =
    IfOk-weaker c.and_registered.result _ _ (λ after is.
    is
    ∙ same_where c.args.object (in_range c.max-first.result (c.min-end.result - c.max-first.result)) (λ page. in_range c.args.range.first c.args.range.count page && in_range c.args.area.first c.args.area.count page) (mode_of c.args.mode)
    (λ q. in_both c.args.range.first c.args.range.count c.args.area.first c.args.area.count c.max-first.result c.min-end.result q c.max-first.ensures c.min-end.ensures)) c.and_registered.ensures

pub returns-else-first-end : goal.returns-else-first-end
returns-else-first-end c =
    nothing_where c.args.object (λ page. in_range c.args.range.first c.args.range.count page && in_range c.args.area.first c.args.area.count page) (mode_of c.args.mode) c.requires.low
    (λ q. apart c.args.range.first c.args.range.count c.args.area.first c.args.area.count c.max-first.result c.min-end.result q c.max-first.ensures c.min-end.ensures c.if-first-end.false)
