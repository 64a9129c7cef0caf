use Rattle.std.proofs.Common.{length, ◌∷◌, [], None}
use Rattle.page_stream.specs.Texts.{command_text}
use Rattle.page_stream.proofs.Puts.{puts_more, puts_room, puts_all}
use Rattle.page_stream.proofs.writing.put_commands.Goals as goal

pub put_command-requires : goal.put_command-requires
put_command-requires c = puts_room c.args.into.now c.loop-command.into (length c.args.commands.now ∷ []) command_text c.args.commands.now c.loop-command.command-index None c.loop-command-test.true c.requires.room c.loop-command.invariant

pub loop-command-preserved : goal.loop-command-preserved
loop-command-preserved c = puts_more c.args.into.now c.loop-command.into c.put_command.new.into (length c.args.commands.now ∷ []) command_text c.args.commands.now c.loop-command.command-index None c.loop-command-test.true c.loop-command.invariant c.put_command.ensures

pub returns : goal.returns
returns c = puts_all c.args.into.now c.loop-command.into (length c.args.commands.now ∷ []) command_text c.args.commands.now c.loop-command.command-index c.loop-command-test.false c.loop-command.invariant
