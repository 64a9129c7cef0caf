use Rattle.std.proofs.Common.{◌∙◌, ◌+◌, sym, ap, eqb}
use Rattle.std.specs.FinMap as map
use Rattle.mig_model.specs.Ioctls as table
use Rattle.uffd_ioctl.proofs.MapCallLemmas.{none_below-count}
use Rattle.uffd_ioctl.proofs.space.Space.is_bare.Goals as goal

pub returns : goal.returns
returns c =
    ap (λ n. eqb n 0) c.mapped_in.ensures
    ∙ sym (none_below-count (λ i. map.contains_key c.self.inside.areas (c.args.range.first + i)) c.args.range.count)
    ∙ ap (λ s. table.is_bare s c.args.range.first c.args.range.count) c.self.view_is
