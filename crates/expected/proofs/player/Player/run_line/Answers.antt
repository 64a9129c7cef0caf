use Rattle.std.proofs.Common.{refl, arith}
use Rattle.expected.specs.Cases.{Cpus}
use Rattle.expected.proofs.Settings.{wrong_cpus}
use Rattle.expected.proofs.player.Player.run_line.Goals as goal

pub returns-in-Wrong-clause-fault : goal.returns-in-Wrong-clause-fault
returns-in-Wrong-clause-fault c = let wrong = rw c.in-Wrong.is at c.in_ok-setting_of.ensures in (refl, wrong_cpus _ _ wrong.0 c.if-number-ne1.false wrong.1 wrong.2)

pub returns-in_ok-self-in-Count-clause-ok : goal.returns-in_ok-self-in-Count-clause-ok
returns-in_ok-self-in-Count-clause-ok c = record {
  case = Cpus c.in-Count.cpus;
  says = (c.if-number-ne1.false, rw c.in-Count.is at c.in_ok-setting_of.ensures);
  does = (c.in_ok-self-in-Count.ensures.ok, c.clear.ensures.bytes);
  meets = tt;
  counts = λ few. omega arith;
}
