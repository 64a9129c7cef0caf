use Rattle.std.proofs.Common.{refl}
use Rattle.std.proofs.lemmas.Result.{on_ok_weaker}
use Rattle.userfault.proofs.RunLemmas.{run_put, run_kept, run_left}
use Rattle.userfault.proofs.object.runs.register_run.Goals as goal

pub returns-in_ok-insert_range-in-true-true-clause-missing : goal.returns-in_ok-insert_range-in-true-true-clause-missing
returns-in_ok-insert_range-in-true-true-clause-missing c =
    on_ok_weaker c.insert_range-in-true-true.result (λ _. run_put c.args.missing.now c.args.protect.now _ c.args.first c.args.count c.args.mode.missing c.args.mode.protect c.requires.bound c.requires.missing c.in-true-true.is-0 c.in_ok-insert_range-in-true-true.ensures.ok) c.insert_range-in-true-true.ensures.ok

pub returns-in_ok-insert_range-in-true-true-clause-protect : goal.returns-in_ok-insert_range-in-true-true-clause-protect
returns-in_ok-insert_range-in-true-true-clause-protect c =
    on_ok_weaker c.insert_range-in-true-true.result (λ is. run_put c.args.protect.now c.args.missing.now _ c.args.first c.args.count c.args.mode.protect c.args.mode.missing c.requires.bound c.requires.protect c.in-true-true.is-1 is) c.insert_range-in-true-true.ensures.ok

pub returns-in-true-false-clause-missing : goal.returns-in-true-false-clause-missing
returns-in-true-false-clause-missing c =
    on_ok_weaker c.insert_range-in-true-false.result (λ is. run_put c.args.missing.now c.args.protect.now _ c.args.first c.args.count c.args.mode.missing c.args.mode.protect c.requires.bound c.requires.missing c.in-true-false.is-0 is) c.insert_range-in-true-false.ensures.ok

pub returns-in-true-false-clause-protect : goal.returns-in-true-false-clause-protect
returns-in-true-false-clause-protect c =
    on_ok_weaker c.insert_range-in-true-false.result (λ _. run_kept c.args.protect.now c.args.missing.now _ c.args.first c.args.count c.args.mode.protect c.args.mode.missing c.requires.bound c.requires.protect c.in-true-false.is-1 c.in-true-false.is-0 c.remove_unless_in.ensures) c.insert_range-in-true-false.ensures.ok

pub returns-in-false-true-clause-missing : goal.returns-in-false-true-clause-missing
returns-in-false-true-clause-missing c =
    on_ok_weaker c.insert_range-in-false-true.result (λ _. run_kept c.args.missing.now c.args.protect.now _ c.args.first c.args.count c.args.mode.missing c.args.mode.protect c.requires.bound c.requires.missing c.in-false-true.is-0 c.in-false-true.is-1 c.remove_unless_in-in-false-true.ensures) c.insert_range-in-false-true.ensures.ok

pub returns-in-false-true-clause-protect : goal.returns-in-false-true-clause-protect
returns-in-false-true-clause-protect c =
    on_ok_weaker c.insert_range-in-false-true.result (λ is. run_put c.args.protect.now c.args.missing.now _ c.args.first c.args.count c.args.mode.protect c.args.mode.missing c.requires.bound c.requires.protect c.in-false-true.is-1 is) c.insert_range-in-false-true.ensures.ok

pub returns-in-false-false-clause-missing : goal.returns-in-false-false-clause-missing
returns-in-false-false-clause-missing c = run_left c.args.missing.now c.args.protect.now _ c.args.first c.args.count c.args.mode.missing c.args.mode.protect c.requires.bound c.requires.missing c.in-false-false.is-0 c.in-false-false.is-1 refl

pub returns-in-false-false-clause-protect : goal.returns-in-false-false-clause-protect
returns-in-false-false-clause-protect c = run_left c.args.protect.now c.args.missing.now _ c.args.first c.args.count c.args.mode.protect c.args.mode.missing c.requires.bound c.requires.protect c.in-false-false.is-1 c.in-false-false.is-0 refl
