use Rattle.std.proofs.Common.{◌≡◌, ◌&&◌, ◌||◌, ap, ◌∙◌}
use Rattle.std.specs.FinMap as map
use Rattle.mig_model.specs.Ioctls.{is_one_area}
use Rattle.foundation.specs.Tests.{is_every}
use Rattle.userfault.specs.Modes.{has_mode_of}
use Rattle.uffd_ioctl.specs.Spaces.{machine_space}
use Rattle.uffd_ioctl.proofs.InstallLemmas.{every_prot, one_area_found, one_area_not}
use Rattle.uffd_ioctl.proofs.space.Space.is_one_area.Goals as goal
use Rattle.uffd_ioctl.proofs.space.Space.is_one_area.Goals.{then-mode, else-mode, then-mode-2, else-mode-2}

pub returns-then-has_one_mode : goal.returns-then-has_one_mode
returns-then-has_one_mode c =
    let first = c.args.range.first in
    let count = c.args.range.count in
    let watched : c.if-mode.value ≡ (c.mode_at-mode.result.missing || c.mode_at-mode.result.protect) =
    elim c.if-mode.branch [ then-mode w ↦ rw w.if-mode.true (w.value-is ∙ w.if-mode.true) | else-mode w ↦ rw w.if-mode.false w.value-is ] in
    let modes : c.if-mode-2.value ≡ (c.if-mode.value && is_every (has_mode_of c.self.inside.object first) first count) =
    elim c.if-mode-2.branch [ then-mode-2 w ↦ w.value-is ∙ rw w.if-mode-2.true w.has_one_mode.ensures | else-mode-2 w ↦ w.value-is ∙ rw w.if-mode-2.false ] in
    let here = watched ∙ ap (λ m. m.missing || m.protect) c.mode_at-mode.ensures in
    c.is_some.ensures
    ∙ one_area_found (machine_space c.self.inside.areas c.self.inside.pages c.self.inside.object) first count c.if-mode.value c.if-mode-2.value _ c.requires.some here modes c.if-has_one_mode.true
    (every_prot (λ page. map.get c.self.inside.areas page) first count c.one_prot.result c.requires.some c.one_prot.ensures.some (c.one_prot.ensures.none c.requires.some))
    ∙ ap (λ s. is_one_area s first count) c.self.view_is

pub returns-else-has_one_mode : goal.returns-else-has_one_mode
returns-else-has_one_mode c =
    let first = c.args.range.first in
    let count = c.args.range.count in
    let watched : c.if-mode.value ≡ (c.mode_at-mode.result.missing || c.mode_at-mode.result.protect) =
    elim c.if-mode.branch [ then-mode w ↦ rw w.if-mode.true (w.value-is ∙ w.if-mode.true) | else-mode w ↦ rw w.if-mode.false w.value-is ] in
    let modes : c.if-mode-2.value ≡ (c.if-mode.value && is_every (has_mode_of c.self.inside.object first) first count) =
    elim c.if-mode-2.branch [ then-mode-2 w ↦ w.value-is ∙ rw w.if-mode-2.true w.has_one_mode.ensures | else-mode-2 w ↦ w.value-is ∙ rw w.if-mode-2.false ] in
    let here = watched ∙ ap (λ m. m.missing || m.protect) c.mode_at-mode.ensures in
    one_area_not (machine_space c.self.inside.areas c.self.inside.pages c.self.inside.object) first count c.if-mode.value c.if-mode-2.value c.requires.some here modes c.if-has_one_mode.false
    ∙ ap (λ s. is_one_area s first count) c.self.view_is
