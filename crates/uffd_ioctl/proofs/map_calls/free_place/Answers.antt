use Rattle.std.proofs.Common.{arith, Some, None}
use Rattle.uffd_ioctl.specs.MapCalls.{host_of}
use Rattle.uffd_ioctl.proofs.MapCallLemmas.{mmap_full, mmap_placed}
use Rattle.uffd_ioctl.proofs.map_calls.free_place.Goals as goal

pub returns-then-from-count : goal.returns-then-from-count
returns-then-from-count c = λ prot bytes sound.
    mmap_full (host_of c.args.areas.now bytes) c.args.len c.page_count-count.result prot sound (omega arith) c.page_count-count.ensures (omega arith) (omega arith)

pub returns-in-Some : goal.returns-in-Some
returns-in-Some c = λ prot bytes sound.
    mmap_placed (host_of c.args.areas.now bytes) c.args.len c.page_count-count.result prot (Some c.in-Some.start) sound (omega arith) c.page_count-count.ensures (omega arith) (omega arith) c.in-Some.ensures

pub returns-in-None : goal.returns-in-None
returns-in-None c = λ prot bytes sound.
    mmap_placed (host_of c.args.areas.now bytes) c.args.len c.page_count-count.result prot None sound (omega arith) c.page_count-count.ensures (omega arith) (omega arith) c.in-None.ensures
