use Rattle.std.proofs.Common.{◌∙◌, ◌/◌, sym, subst}
use Rattle.mig_model.specs.Space as machine
use Rattle.mig_model.specs.Ioctls as table
use Rattle.mig_model.proofs.memory.IoctlLemmas.{IsSoundSpace-range_registered}
use Rattle.userfault.specs.Modes as modes
use Rattle.uffd_ioctl.specs.Spaces.{machine_space}
use Rattle.uffd_ioctl.proofs.RegisterLemmas.{made_by, sound_low, watched_in}
use Rattle.uffd_ioctl.proofs.space.Space.register.Goals as goal
use Rattle.foundation.proofs.TestLemmas.{never_some}

pub registered-requires-clause-low : goal.registered-requires-clause-low
registered-requires-clause-low c = sound_low (machine_space c.self.inside.areas c.self.inside.pages c.self.inside.object) c.self.invariant

pub returns-clause-space : goal.returns-clause-space
returns-clause-space c =
    let start = c.args.start in
    let len = c.args.len in
    let now = c.args.self.now in
    let range = c.whole_pages-range in
    made_by (table.register_error now start len c.args.mode) now (table.registered_in now (start / 4096) (len / 4096) (table.mode_of c.args.mode)) _
    (sym c.register_error.ensures ∙ never_some c.register_error.result c.in_default.not-Some)
    (watched_in c.self.inside.areas c.self.inside.pages c.open_unwatched.new.pages c.self.inside.object c.in_ok-object.object range.result.first range.result.count (modes.mode_of c.mode_of-mode.result) c.self.invariant c.open_unwatched.ensures.bytes c.in_ok-object.ensures c.open_unwatched.ensures.protected
    ∙ (λ i. table.registered_in (c.self.view_is i) (range.ensures.first i) (range.ensures.count i) (c.mode_of-mode.ensures i)))

pub invariant_of-self : goal.invariant_of-self
invariant_of-self c =
    subst machine.IsSoundSpace (sym (returns-clause-space c)) (IsSoundSpace-range_registered c.args.self.now c.args.start c.args.len c.args.mode (subst machine.IsSoundSpace c.self.view_is c.self.invariant))
