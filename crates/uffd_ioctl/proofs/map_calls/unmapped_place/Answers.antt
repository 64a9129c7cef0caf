use Rattle.std.proofs.Common.{arith}
use Rattle.uffd_ioctl.specs.MapCalls.{host_of}
use Rattle.uffd_ioctl.proofs.MapCallLemmas.{mapped_there, unmapped_there}
use Rattle.uffd_ioctl.proofs.map_calls.unmapped_place.Goals as goal

pub returns-then-mapped_in-ne0 : goal.returns-then-mapped_in-ne0
returns-then-mapped_in-ne0 c = λ prot bytes sound.
    mapped_there (host_of c.args.areas.now bytes) c.args.addr c.args.len c.page_count-count.result c.mapped_in.result prot
    (record { whole = c.in_default.ensures.inside.0; high = c.in_default.ensures.inside.2; passes = c.in_default.ensures.refusal })
    c.page_count-count.ensures c.mapped_in.ensures (omega arith)

pub returns : goal.returns
returns c = λ prot bytes sound.
    unmapped_there (host_of c.args.areas.now bytes) c.args.addr c.args.len c.page_count-count.result c.mapped_in.result prot _
    (record { whole = c.in_default.ensures.inside.0; high = c.in_default.ensures.inside.2; passes = c.in_default.ensures.refusal })
    c.page_count-count.ensures c.mapped_in.ensures c.if-mapped_in-ne0.false (c.fixed_place.ensures prot bytes sound)
