use Rattle.std.proofs.Common.{refl}
use Rattle.fault_handler.proofs.WorldLemmas.{issue_in, notice_in, retry_in}
use Rattle.fault_handler.proofs.laws.a_step_of_the_destination.Goals as goal

pub returns : goal.returns
returns c = record {
  read = λ world. refl;
  act = λ world. refl;
  install = λ world. refl;
  notice = notice_in;
  issue = issue_in;
  retry = retry_in;
}
