use Rattle.std.proofs.Common.{arith, ◌∙◌, ap, refl}
use Rattle.mig_base.specs.declared.command.Command.TheVariants.{Mremap}
use Rattle.mig_model.specs.Space.{called}
use Rattle.uffd_ioctl.specs.Spaces.{machine_space}
use Rattle.uffd_ioctl.proofs.ChangeLemmas.{moved_well, remap_of, remap_prot}
use Rattle.uffd_ioctl.proofs.CallLemmas.{space_moved, queued_moved, protected_below, sound_called}
use Rattle.uffd_ioctl.proofs.RegisterLemmas.{sound_low}
use Rattle.uffd_ioctl.proofs.space.Space.mremap.Goals as goal

pub overflow_cast-range : goal.overflow_cast-range
overflow_cast-range c =
    let moved = moved_well (record { areas = c.self.inside.areas; bytes = c.self.inside.pages.bytes }) c.args.addr c.args.old_len c.args.new_len c.args.may_move c.args.fixed c.in-Ok.target c.self.invariant.host (c.in-Ok.ensures c.self.inside.pages.bytes c.self.invariant.host) in
    let from = moved.from in
    omega arith

pub overflow_cast-range-in-Ok : goal.overflow_cast-range-in-Ok
overflow_cast-range-in-Ok c =
    let moved = moved_well (record { areas = c.self.inside.areas; bytes = c.self.inside.pages.bytes }) c.args.addr c.args.old_len c.args.new_len c.args.may_move c.args.fixed c.in-Ok.target c.self.invariant.host (c.in-Ok.ensures c.self.inside.pages.bytes c.self.invariant.host) in
    let from = moved.from in
    omega (arith, c.page_count.ensures)

pub overflow_cast-range-in-Ok-2 : goal.overflow_cast-range-in-Ok-2
overflow_cast-range-in-Ok-2 c =
    let moved = moved_well (record { areas = c.self.inside.areas; bytes = c.self.inside.pages.bytes }) c.args.addr c.args.old_len c.args.new_len c.args.may_move c.args.fixed c.in-Ok.target c.self.invariant.host (c.in-Ok.ensures c.self.inside.pages.bytes c.self.invariant.host) in
    let to = moved.to in
    omega arith

pub overflow_cast-range-in-Ok-3 : goal.overflow_cast-range-in-Ok-3
overflow_cast-range-in-Ok-3 c =
    let moved = moved_well (record { areas = c.self.inside.areas; bytes = c.self.inside.pages.bytes }) c.args.addr c.args.old_len c.args.new_len c.args.may_move c.args.fixed c.in-Ok.target c.self.invariant.host (c.in-Ok.ensures c.self.inside.pages.bytes c.self.invariant.host) in
    let to = moved.to in
    omega (arith, c.page_count-in-Ok.ensures)

pub remapped-requires-clause-range : goal.remapped-requires-clause-range
remapped-requires-clause-range c =
    remap_of c.args.addr c.args.old_len c.args.new_len c.in-Ok.target c.page_count.result c.page_count-in-Ok.result (moved_well (record { areas = c.self.inside.areas; bytes = c.self.inside.pages.bytes }) c.args.addr c.args.old_len c.args.new_len c.args.may_move c.args.fixed c.in-Ok.target c.self.invariant.host (c.in-Ok.ensures c.self.inside.pages.bytes c.self.invariant.host)) c.page_count.ensures c.page_count-in-Ok.ensures

pub remapped-requires-clause-low : goal.remapped-requires-clause-low
remapped-requires-clause-low c = sound_low (machine_space c.self.inside.areas c.self.inside.pages c.self.inside.object) c.self.invariant

pub remapped-requires-clause-prot : goal.remapped-requires-clause-prot
remapped-requires-clause-prot c =
    remap_prot (record { areas = c.self.inside.areas; bytes = c.self.inside.pages.bytes }) c.args.addr c.args.old_len c.args.new_len c.args.may_move c.args.fixed c.in-Ok.target c.page_count.result (c.in-Ok.ensures c.self.inside.pages.bytes c.self.invariant.host) c.page_count.ensures

pub remapped-requires-clause-protected : goal.remapped-requires-clause-protected
remapped-requires-clause-protected c =
    protected_below (machine_space c.self.inside.areas c.self.inside.pages c.self.inside.object) c.self.invariant

pub invariant_of-self-in-Ok : goal.invariant_of-self-in-Ok
invariant_of-self-in-Ok c =
    sound_called _ (machine_space c.self.inside.areas c.self.inside.pages c.self.inside.object) c.args.cpu (Mremap c.args.addr c.args.old_len c.args.new_len c.args.may_move c.args.fixed) refl c.self.invariant
    (space_moved (machine_space c.self.inside.areas c.self.inside.pages c.self.inside.object) c.remapped.new.areas c.remapped.new.pages c.remapped.new.object c.args.cpu c.args.addr c.args.old_len c.args.new_len c.args.may_move c.args.fixed c.in-Ok.target c.page_count.result c.page_count-in-Ok.result
    c.self.invariant (c.in-Ok.ensures c.self.inside.pages.bytes c.self.invariant.host) c.page_count.ensures c.page_count-in-Ok.ensures c.in_ok-queued-in-Ok.ensures.areas c.in_ok-queued-in-Ok.ensures.pages c.in_ok-queued-in-Ok.ensures.protected c.in_ok-queued-in-Ok.ensures.object)

pub returns-in_ok-queued-in-Ok-clause-queued : goal.returns-in_ok-queued-in-Ok-clause-queued
returns-in_ok-queued-in-Ok-clause-queued c =
    queued_moved (machine_space c.self.inside.areas c.self.inside.pages c.self.inside.object) c.args.self.now c.args.addr c.args.old_len c.args.new_len c.args.may_move c.args.fixed c.in-Ok.target c.page_count.result c.page_count-in-Ok.result _ c.self.view_is c.self.invariant (c.in-Ok.ensures c.self.inside.pages.bytes c.self.invariant.host) c.page_count.ensures c.page_count-in-Ok.ensures c.in_ok-queued-in-Ok.ensures.count

pub returns-in_ok-queued-in-Ok-clause-space : goal.returns-in_ok-queued-in-Ok-clause-space
returns-in_ok-queued-in-Ok-clause-space c =
    space_moved (machine_space c.self.inside.areas c.self.inside.pages c.self.inside.object) c.remapped.new.areas c.remapped.new.pages c.remapped.new.object c.args.cpu c.args.addr c.args.old_len c.args.new_len c.args.may_move c.args.fixed c.in-Ok.target c.page_count.result c.page_count-in-Ok.result
    c.self.invariant (c.in-Ok.ensures c.self.inside.pages.bytes c.self.invariant.host) c.page_count.ensures c.page_count-in-Ok.ensures c.in_ok-queued-in-Ok.ensures.areas c.in_ok-queued-in-Ok.ensures.pages c.in_ok-queued-in-Ok.ensures.protected c.in_ok-queued-in-Ok.ensures.object
    ∙ ap (λ s. called s c.args.cpu (Mremap c.args.addr c.args.old_len c.args.new_len c.args.may_move c.args.fixed)) c.self.view_is
