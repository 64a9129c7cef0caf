use Rattle.std.proofs.Common.{sym}
use Rattle.uffd_ioctl.specs.MapCalls.{host_of}
use Rattle.uffd_ioctl.proofs.MapCallLemmas.{past_not_all, all_mapped, test_past}
use Rattle.uffd_ioctl.proofs.map_calls.is_all_mapped.Goals as goal

pub returns-then-not-ends_inside : goal.returns-then-not-ends_inside
returns-then-not-ends_inside c = λ bytes sound. sym (past_not_all (host_of c.args.areas.now bytes) c.args.addr c.args.len sound (test_past _ _ c.if-not-ends_inside.ensures) c.requires.some)

pub returns : goal.returns
returns c = λ bytes sound. all_mapped (host_of c.args.areas.now bytes) c.args.addr c.args.len c.page_count-count.result c.mapped_in.result c.requires.whole c.page_count-count.ensures c.mapped_in.ensures
