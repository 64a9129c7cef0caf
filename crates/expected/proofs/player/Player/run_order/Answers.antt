use Rattle.std.proofs.Common.{None, arith}
use Rattle.expected.specs.Cases.{Asks}
use Rattle.expected.proofs.player.Player.run_order.Goals as goal

pub returns-in_ok-carry_out-in-Some-Do-clause-ok : goal.returns-in_ok-carry_out-in-Some-Do-clause-ok
returns-in_ok-carry_out-in-Some-Do-clause-ok c =
    let spells = rw c.in-Some-Do.is at c.in_ok-parse.ensures.found in
    record {
      case = Asks c.in-Some-Do.order None;
      says = rw c.in-Some-Do.field-0-is at spells;
      does = c.in_ok-carry_out-in-Some-Do.ensures.ok;
      meets = tt;
      counts = λ few. omega arith;
    }
