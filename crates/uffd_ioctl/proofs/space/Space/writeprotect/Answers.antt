use Rattle.std.proofs.Common.{◌∙◌, ◌/◌, sym, subst}
use Rattle.foundation.specs.Bits.{is_one}
use Rattle.foundation.proofs.TestLemmas.{never_some}
use Rattle.mig_model.specs.Space as machine
use Rattle.mig_model.specs.Ioctls as table
use Rattle.mig_model.proofs.memory.IoctlLemmas.{IsSoundSpace-write_protected}
use Rattle.uffd_ioctl.proofs.RegisterLemmas.{made_by, set_in}
use Rattle.uffd_ioctl.proofs.space.Space.writeprotect.Goals as goal

pub set_protection-requires-clause-present : goal.set_protection-requires-clause-present
set_protection-requires-clause-present c = c.self.invariant.present

pub returns-clause-space : goal.returns-clause-space
returns-clause-space c =
    let start = c.args.start in
    let len = c.args.len in
    let now = c.args.self.now in
    let range = c.whole_pages in
    made_by (table.writeprotect_error now start len c.args.mode) now (table.protected_in now (start / 4096) (len / 4096) (is_one c.args.mode 0)) _
    (sym c.writeprotect_error.ensures ∙ never_some c.writeprotect_error.result c.in_default.not-Some)
    (set_in c.self.inside.areas c.self.inside.pages c.set_protection.new.pages c.self.inside.object range.result.first range.result.count c.has_bit.result c.self.invariant c.set_protection.ensures.bytes c.set_protection.ensures.protected
    ∙ (λ i. table.protected_in (c.self.view_is i) (range.ensures.first i) (range.ensures.count i) (c.has_bit.ensures i)))

pub invariant_of-self : goal.invariant_of-self
invariant_of-self c =
    subst machine.IsSoundSpace (sym (returns-clause-space c)) (IsSoundSpace-write_protected c.args.self.now c.args.start c.args.len c.args.mode (subst machine.IsSoundSpace c.self.view_is c.self.invariant))
