use Rattle.uffd_ioctl.specs.MapCalls.{host_of}
use Rattle.uffd_ioctl.proofs.MapCallLemmas.{grows, test_inside}
use Rattle.uffd_ioctl.proofs.map_calls.can_grow.Goals as goal

pub returns : goal.returns
returns c = λ bytes sound.
    grows (host_of c.args.areas.now bytes) c.args.addr c.args.old_len c.args.new_len c.page_count-count.result c.page_count.result c.mapped_in.result c.requires.whole c.requires.longer (test_inside _ _ c.if-not-ends_inside.ensures) c.page_count-count.ensures c.page_count.ensures c.mapped_in.ensures
