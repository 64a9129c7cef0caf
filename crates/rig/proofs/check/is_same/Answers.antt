use Rattle.std.proofs.Common.{◌∙◌, ap₂, sym}
use Rattle.std.proofs.lemmas.Bool.{and_parts}
use Rattle.mig_base.specs.declared.command.Command.{Command}
use Rattle.mig_base.specs.declared.command.Reply.{Reply}
use Rattle.mig_base.proofs.EqualLemmas.{same_commands, same_replies}
use Rattle.rig.proofs.check.is_same.Goals as goal

pub returns-clause-yes : goal.returns-clause-yes
returns-clause-yes c same =
    let parts = and_parts _ _ (sym c.eq.ensures ∙ same) in
    ap₂ (λ (command : Command) (reply : Reply). record c.args.one { command = command; reply = reply }) ((same_commands c.args.one.command c.args.other.command).0 parts.0) ((same_replies c.args.one.reply c.args.other.reply).0 parts.1)
