use Rattle.std.proofs.Common.{◌∙◌, ◌/◌, sym, subst}
use Rattle.mig_model.specs.Space as machine
use Rattle.mig_model.specs.Ioctls as table
use Rattle.mig_model.proofs.memory.IoctlLemmas.{IsSoundSpace-range_unregistered}
use Rattle.uffd_ioctl.proofs.RegisterLemmas.{made_by, opened}
use Rattle.uffd_ioctl.proofs.space.Space.unregister.Goals as goal
use Rattle.foundation.proofs.TestLemmas.{never_some}

pub returns-clause-space : goal.returns-clause-space
returns-clause-space c =
    let start = c.args.start in
    let len = c.args.len in
    let now = c.args.self.now in
    let range = c.whole_pages-range in
    made_by (table.unregister_error now start len) now (table.unregistered_in now (start / 4096) (len / 4096)) _
    (sym c.unregister_error.ensures ∙ never_some c.unregister_error.result c.in_default.not-Some)
    (opened c.self.inside.areas c.self.inside.pages c.unprotect_range.new.self c.self.inside.object c.unregister.new.self range.result.first range.result.count c.unprotect_range.ensures.bytes c.unprotect_range.ensures.protected c.unregister.ensures
    ∙ (λ i. table.unregistered_in (c.self.view_is i) (range.ensures.first i) (range.ensures.count i)))

pub invariant_of-self : goal.invariant_of-self
invariant_of-self c =
    subst machine.IsSoundSpace (sym (returns-clause-space c)) (IsSoundSpace-range_unregistered c.args.self.now c.args.start c.args.len (subst machine.IsSoundSpace c.self.view_is c.self.invariant))
