use Rattle.std.proofs.Common.{refl, ap, ◌∙◌}
use Rattle.mig_base.specs.Flat.{reply_of}
use Rattle.mig_model.specs.Host.{memory}
use Rattle.mig_model.specs.Space.{accessed_by}
use Rattle.mig_model.proofs.memory.CommandLemmas.{memory-changed}
use Rattle.mig_model.proofs.memory.SpaceLemmas.{access_reply}
use Rattle.mig_model.proofs.laws.a_space_answers_as_its_memory.Goals as goal

pub returns-clause-reply : goal.returns-clause-reply
returns-clause-reply c space command reply h = access_reply space command reply h

pub returns-clause-answered : goal.returns-clause-answered
returns-clause-answered c space cpu command reply sound h =
    ap (λ a. memory (accessed_by a space cpu command).host) h ∙ memory-changed space.host command (reply_of (memory space.host) command) sound.host refl

pub returns-clause-missing : goal.returns-clause-missing
returns-clause-missing c space cpu command h = ap (λ a. memory (accessed_by a space cpu command).host) h

pub returns-clause-protected : goal.returns-clause-protected
returns-clause-protected c space cpu command h = ap (λ a. memory (accessed_by a space cpu command).host) h

pub returns-clause-call : goal.returns-clause-call
returns-clause-call c space cpu command sound = memory-changed space.host command (reply_of (memory space.host) command) sound.host refl
