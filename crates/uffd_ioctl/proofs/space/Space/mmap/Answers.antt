use Rattle.std.proofs.Common.{arith, ◌∙◌, ap, refl}
use Rattle.mig_base.specs.declared.command.Command.TheVariants.{Mmap}
use Rattle.mig_model.specs.Space.{called}
use Rattle.uffd_ioctl.specs.Spaces.{machine_space}
use Rattle.uffd_ioctl.proofs.ChangeLemmas.{made_inside}
use Rattle.uffd_ioctl.proofs.CallLemmas.{space_made, sound_called}
use Rattle.uffd_ioctl.proofs.MoveLemmas.{told_of}
use Rattle.uffd_ioctl.proofs.space.Space.mmap.Goals as goal

pub overflow_cast-first : goal.overflow_cast-first
overflow_cast-first c =
    let made = made_inside (record { areas = c.self.inside.areas; bytes = c.self.inside.pages.bytes }) c.args.len c.args.prot c.args.place c.in-Ok.start (c.in-Ok.ensures c.args.prot c.self.inside.pages.bytes c.self.invariant.host) in
    let first = made.first in
    omega arith

pub overflow_cast-count : goal.overflow_cast-count
overflow_cast-count c =
    let made = made_inside (record { areas = c.self.inside.areas; bytes = c.self.inside.pages.bytes }) c.args.len c.args.prot c.args.place c.in-Ok.start (c.in-Ok.ensures c.args.prot c.self.inside.pages.bytes c.self.invariant.host) in
    let count = made.count in
    omega (arith, c.page_count-count.ensures)

pub overflow_add-first : goal.overflow_add-first
overflow_add-first c =
    let made = made_inside (record { areas = c.self.inside.areas; bytes = c.self.inside.pages.bytes }) c.args.len c.args.prot c.args.place c.in-Ok.start (c.in-Ok.ensures c.args.prot c.self.inside.pages.bytes c.self.invariant.host) in
    let high = made.high in
    omega (arith, c.page_count-count.ensures)

pub is_any_registered-is_due-requires : goal.is_any_registered-is_due-requires
is_any_registered-is_due-requires c =
    let made = made_inside (record { areas = c.self.inside.areas; bytes = c.self.inside.pages.bytes }) c.args.len c.args.prot c.args.place c.in-Ok.start (c.in-Ok.ensures c.args.prot c.self.inside.pages.bytes c.self.invariant.host) in
    let high = made.high in
    omega (arith, c.page_count-count.ensures)

pub map-requires : goal.map-requires
map-requires c =
    let made = made_inside (record { areas = c.self.inside.areas; bytes = c.self.inside.pages.bytes }) c.args.len c.args.prot c.args.place c.in-Ok.start (c.in-Ok.ensures c.args.prot c.self.inside.pages.bytes c.self.invariant.host) in
    let high = made.high in
    omega (arith, c.page_count-count.ensures)

pub drop_range-requires : goal.drop_range-requires
drop_range-requires c =
    let made = made_inside (record { areas = c.self.inside.areas; bytes = c.self.inside.pages.bytes }) c.args.len c.args.prot c.args.place c.in-Ok.start (c.in-Ok.ensures c.args.prot c.self.inside.pages.bytes c.self.invariant.host) in
    let high = made.high in
    omega (arith, c.page_count-count.ensures)

pub forget_range-requires : goal.forget_range-requires
forget_range-requires c =
    let made = made_inside (record { areas = c.self.inside.areas; bytes = c.self.inside.pages.bytes }) c.args.len c.args.prot c.args.place c.in-Ok.start (c.in-Ok.ensures c.args.prot c.self.inside.pages.bytes c.self.invariant.host) in
    let high = made.high in
    omega (arith, c.page_count-count.ensures)

pub invariant_of-self-in-Ok : goal.invariant_of-self-in-Ok
invariant_of-self-in-Ok c =
    sound_called _ (machine_space c.self.inside.areas c.self.inside.pages c.self.inside.object) c.args.cpu (Mmap c.args.len c.args.prot c.args.place) refl c.self.invariant
    (space_made (machine_space c.self.inside.areas c.self.inside.pages c.self.inside.object) c.map.new.self c.drop_range.new.self c.forget_range.new.self c.args.cpu c.args.len c.in-Ok.start c.page_count-count.result c.page_address-end.result c.args.prot c.args.place
    (c.in-Ok.ensures c.args.prot c.self.inside.pages.bytes c.self.invariant.host) c.page_count-count.ensures c.page_address-end.ensures c.in-Ok-map.ensures.ok c.drop_range.ensures.bytes c.drop_range.ensures.protected (told_of c.self.inside.object c.queue_if_due.new.object c.forget_range.new.self _ _ c.args.cpu _ _ c.in_ok-queued-in-Ok.ensures.object c.forget_range.ensures c.is_any_registered-is_due.ensures))

pub returns-in-Ok-map-clause-space : goal.returns-in-Ok-map-clause-space
returns-in-Ok-map-clause-space c =
    space_made (machine_space c.self.inside.areas c.self.inside.pages c.self.inside.object) c.map.new.self c.drop_range.new.self c.forget_range.new.self c.args.cpu c.args.len c.in-Ok.start c.page_count-count.result c.page_address-end.result c.args.prot c.args.place
    (c.in-Ok.ensures c.args.prot c.self.inside.pages.bytes c.self.invariant.host) c.page_count-count.ensures c.page_address-end.ensures c.in-Ok-map.ensures.ok c.drop_range.ensures.bytes c.drop_range.ensures.protected (told_of c.self.inside.object c.queue_if_due.new.object c.forget_range.new.self _ _ c.args.cpu _ _ c.in_ok-queued-in-Ok.ensures.object c.forget_range.ensures c.is_any_registered-is_due.ensures)
    ∙ ap (λ s. called s c.args.cpu (Mmap c.args.len c.args.prot c.args.place)) c.self.view_is
