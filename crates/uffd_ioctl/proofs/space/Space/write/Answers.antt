use Rattle.std.proofs.Common.{ap, sym, subst, ◌∙◌, ◌/◌, ◌≡◌, true}
use Rattle.std.specs.FinMap.{contains_key, get}
use Rattle.mig_base.specs.Bytes.{low_bytes}
use Rattle.mig_base.proofs.PageSetViews.{on_any_err}
use Rattle.mig_model.specs.Space.{IsSoundSpace}
use Rattle.page_table.specs.Bytes.{write_needs_room}
use Rattle.uffd_ioctl.specs.Spaces.{machine_space}
use Rattle.uffd_ioctl.proofs.AnswerLemmas.{digits_of, digits_fit}
use Rattle.uffd_ioctl.proofs.AccessLemmas.{sound_written, written_space}
use Rattle.uffd_ioctl.proofs.space.Space.write.Goals as goal

pub write-requires-clause-inside : goal.write-requires-clause-inside
write-requires-clause-inside c =
    digits_fit c.args.addr c.args.width _ c.args.value c.requires.aligned (digits_of c.write_u64.new.buf c.from.result c.args.width c.args.value c.write_u64.ensures c.from.ensures)

pub invariant_of-self : goal.invariant_of-self
invariant_of-self c = subst (λ pages. IsSoundSpace (machine_space c.self.inside.areas pages c.self.inside.object)) (sym c.in_err-write.ensures.err) c.self.invariant

pub returns-in_err-write-clause-needs : goal.returns-in_err-write-clause-needs
returns-in_err-write-clause-needs c =
    let stored = digits_of c.write_u64.new.buf c.from.result c.args.width c.args.value c.write_u64.ensures c.from.ensures in
    on_any_err c.from_residual.result
    (ap (λ s. write_needs_room (get s.host.bytes (c.args.addr / 4096)) (low_bytes c.args.value c.args.width)) (sym c.self.view_is)
    ∙ ap (write_needs_room (get c.self.inside.pages.bytes (c.args.addr / 4096))) (sym stored) ∙ c.in_err-write.ensures.needs)

pub invariant_of-self-2 : goal.invariant_of-self-2
invariant_of-self-2 c =
    let own = c.self.inside in
    let mapped : contains_key own.areas (c.args.addr / 4096) ≡ true = ap (λ s. contains_key s.host.areas (c.args.addr / 4096)) c.self.view_is ∙ c.requires.mapped in
    sound_written own.areas own.pages c.write.new.self own.object c.args.addr c.args.width c.args.value _ c.self.invariant mapped c.requires.aligned
    (digits_of c.write_u64.new.buf c.from.result c.args.width c.args.value c.write_u64.ensures c.from.ensures) c.in_ok-write.ensures.bytes c.write.ensures.protected

pub returns-clause-ok : goal.returns-clause-ok
returns-clause-ok c =
    let own = c.self.inside in
    written_space own.areas own.pages c.write.new.self own.object c.args.self.now c.args.addr c.args.width c.args.value _ c.self.view_is
    (digits_of c.write_u64.new.buf c.from.result c.args.width c.args.value c.write_u64.ensures c.from.ensures) c.in_ok-write.ensures.bytes c.write.ensures.protected
