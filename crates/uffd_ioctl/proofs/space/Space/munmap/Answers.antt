use Rattle.std.proofs.Common.{arith, refl}
use Rattle.mig_base.specs.declared.command.Command.TheVariants.{Munmap}
use Rattle.uffd_ioctl.specs.Spaces.{machine_space}
use Rattle.uffd_ioctl.proofs.CallLemmas.{space_unmapped, sound_called}
use Rattle.uffd_ioctl.proofs.MoveLemmas.{told_of}
use Rattle.uffd_ioctl.proofs.space.Space.munmap.Goals as goal

pub invariant_of-self-2 : goal.invariant_of-self-2
invariant_of-self-2 c =
    sound_called _ (machine_space c.self.inside.areas c.self.inside.pages c.self.inside.object) c.args.cpu (Munmap c.args.addr c.args.len) refl c.self.invariant
    (space_unmapped (machine_space c.self.inside.areas c.self.inside.pages c.self.inside.object) c.unmap.new.self c.drop_range.new.self c.forget_range.new.self c.args.cpu c.args.addr c.args.len c.page_count-count.result c.page_address-end.result
    c.if-addr-ne0.false (omega arith) c.page_count-count.ensures (omega (arith, c.from.ensures)) c.page_address-end.ensures c.in-Ok.ensures.ok c.drop_range.ensures.bytes c.drop_range.ensures.protected (told_of c.self.inside.object c.queue_if_due.new.object c.forget_range.new.self _ _ c.args.cpu _ _ c.in_ok-queued.ensures.object c.forget_range.ensures c.is_any_registered-is_due.ensures))
