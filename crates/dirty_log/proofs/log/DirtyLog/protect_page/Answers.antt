use Rattle.std.proofs.Common.{◌∙◌}
use Rattle.dirty_log.proofs.SendLemmas.{bytes_shown, here_there, one_sent, page_of_present, protected_shown}
use Rattle.dirty_log.proofs.log.DirtyLog.protect_page.Goals as goal

pub returns-clause-log : goal.returns-clause-log
returns-clause-log c = c.in_ok-protect_run.ensures.log ∙ one_sent c.args.self.now c.args.page

pub returns-clause-bytes : goal.returns-clause-bytes
returns-clause-bytes c = bytes_shown c.args.space.now c.protect_run.new.space c.args.page c.in_ok-protect_run.ensures.accepted c.in_ok-protect_run.ensures.space

pub returns-clause-protected : goal.returns-clause-protected
returns-clause-protected c = protected_shown c.args.space.now c.protect_run.new.space c.args.page c.requires.page c.in_ok-protect_run.ensures.accepted c.in_ok-protect_run.ensures.space

pub returns-clause-present : goal.returns-clause-present
returns-clause-present c =
    let here = here_there c.args.space.now c.args.page c.in_ok-protect_run.ensures.accepted in
    (rw c.in_ok-protect_run.ensures.space here, page_of_present c.args.space.now c.args.page c.requires.lent c.is_in_order.ensures here)
