use Rattle.std.proofs.Common.{◌∙◌, ap}
use Rattle.std.specs.FinSet.{contains}
use Rattle.foundation.specs.Tests.{same_bool, is_every}
use Rattle.userfault.specs.Modes.{has_mode_of}
use Rattle.userfault.proofs.EveryLemmas.{both_true, both_false}
use Rattle.userfault.proofs.object.Userfault.has_one_mode.Goals as goal

pub returns-then-missing : goal.returns-then-missing
returns-then-missing c =
    let missing = contains c.self.inside.missing in
    let protect = contains c.self.inside.protect in
    both_true (λ page. same_bool (missing c.args.first) (missing page)) (λ page. same_bool (protect c.args.first) (protect page)) c.args.first c.args.count _ _ c.is_one_run-missing.ensures c.is_one_run-protect.ensures c.if-missing.true
    ∙ ap (λ o. is_every (has_mode_of o c.args.first) c.args.first c.args.count) c.self.view_is

pub returns-else-missing : goal.returns-else-missing
returns-else-missing c =
    let missing = contains c.self.inside.missing in
    let protect = contains c.self.inside.protect in
    both_false (λ page. same_bool (missing c.args.first) (missing page)) (λ page. same_bool (protect c.args.first) (protect page)) c.args.first c.args.count _ c.is_one_run-missing.ensures c.if-missing.false
    ∙ ap (λ o. is_every (has_mode_of o c.args.first) c.args.first c.args.count) c.self.view_is
