use Rattle.wiretap.proofs.Puts.{put_by_step}
use Rattle.wiretap.proofs.laws.what_a_step_puts.Goals as goal

pub returns-clause-forward : goal.returns-clause-forward
returns-clause-forward c world step = (put_by_step world step).forward

pub returns-clause-back : goal.returns-clause-back
returns-clause-back c world step = (put_by_step world step).back

pub returns-clause-urgent : goal.returns-clause-urgent
returns-clause-urgent c world step = (put_by_step world step).urgent
