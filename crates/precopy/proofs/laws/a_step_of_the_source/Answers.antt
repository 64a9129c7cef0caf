use Rattle.std.proofs.Common.{refl}
use Rattle.precopy.proofs.CommandLemmas.{issued_at, retried_at}
use Rattle.precopy.proofs.laws.a_step_of_the_source.Goals as goal

pub returns : goal.returns
returns c = record {
  start = λ world. refl;
  round = λ world. refl;
  send = λ world. refl;
  send_run = λ world count. refl;
  read = λ world. refl;
  act = λ world. refl;
  switch = λ world. refl;
  push = λ world ticket. refl;
  push_urgent = λ world ticket. refl;
  serve = λ world. refl;
  end = λ world. refl;
  notice = λ world. refl;
  resume = λ world paused. rw paused refl;
  issue = issued_at;
  retry = retried_at;
}
