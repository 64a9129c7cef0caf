use Rattle.std.proofs.Common.{arith}
use Rattle.uffd_ioctl.specs.MapCalls.{host_of}
use Rattle.uffd_ioctl.proofs.MapCallLemmas.{fixed_full, fixed_placed}
use Rattle.uffd_ioctl.proofs.map_calls.fixed_place.Goals as goal

pub returns-then-from-count : goal.returns-then-from-count
returns-then-from-count c = λ prot bytes sound.
    fixed_full (host_of c.args.areas.now bytes) c.args.addr c.args.len c.page_count-count.result c.mapped_in-replaced.result prot sound
    (record { whole = c.in_default.ensures.inside.0; high = c.in_default.ensures.inside.2; passes = c.in_default.ensures.refusal })
    c.page_count-count.ensures c.mapped_in-replaced.ensures (omega arith)

pub returns : goal.returns
returns c = λ prot bytes sound.
    fixed_placed (host_of c.args.areas.now bytes) c.args.addr c.args.len c.page_count-count.result c.mapped_in-replaced.result prot sound
    (record { whole = c.in_default.ensures.inside.0; high = c.in_default.ensures.inside.2; passes = c.in_default.ensures.refusal })
    c.page_count-count.ensures c.mapped_in-replaced.ensures (omega arith)
