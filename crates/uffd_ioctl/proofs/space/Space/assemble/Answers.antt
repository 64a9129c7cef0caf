use Rattle.std.proofs.Common.{◌∙◌, ◌≡◌, sym, subst}
use Rattle.mig_model.specs.Host.{IsSound}
use Rattle.mig_model.specs.Space as machine
use Rattle.userfault.specs.Modes as modes
use Rattle.uffd_ioctl.specs.Spaces.{assembled_object}
use Rattle.uffd_ioctl.proofs.RegisterLemmas.{enabled_low, assembled_watching, assembled_fresh, assembled_sound}
use Rattle.uffd_ioctl.proofs.space.Space.assemble.Goals as goal
use Rattle.uffd_ioctl.proofs.space.Space.assemble.Goals.{then-mode-ne0+in-Ok, else-mode-ne0}

pub registered-requires-clause-low : goal.registered-requires-clause-low
registered-requires-clause-low c = enabled_low c.new-object.result c.enable.new.self 76 c.new-object.ensures c.enable.ensures

pub returns-clause-ok : goal.returns-clause-ok
returns-clause-ok c =
    let sound : IsSound (record { areas = c.args.areas; bytes = c.args.pages.bytes }) = record { bound = c.ends_by_high_page.ensures; mapped = c.requires.mapped; whole = c.has_whole_pages.ensures.whole } in
    let object : c.if-mode-ne0.object ≡ assembled_object c.args.areas c.args.mode =
    elim c.if-mode-ne0.branch [
      | then-mode-ne0+in-Ok w ↦
          w.object-is
          ∙ assembled_watching c.args.areas c.args.pages.bytes c.new-object.result w.enable.new.self w.in-Ok.watching (modes.mode_of w.mode_of.result) c.args.mode sound w.if-mode-ne0.true c.new-object.ensures w.enable.ensures w.mode_of.ensures w.in-Ok.ensures
      | else-mode-ne0 w ↦ w.object-is ∙ assembled_fresh c.args.areas c.new-object.result c.args.mode c.new-object.ensures w.if-mode-ne0.false
    ] in
    λ i. record { host = record { areas = c.args.areas; bytes = c.args.pages.bytes }; protected = c.requires.open i; object = object i }

pub invariant_of-result : goal.invariant_of-result
invariant_of-result c =
    let sound : IsSound (record { areas = c.args.areas; bytes = c.args.pages.bytes }) = record { bound = c.ends_by_high_page.ensures; mapped = c.requires.mapped; whole = c.has_whole_pages.ensures.whole } in
    subst machine.IsSoundSpace (sym (returns-clause-ok c)) (assembled_sound c.args.areas c.args.pages.bytes c.args.mode sound)
