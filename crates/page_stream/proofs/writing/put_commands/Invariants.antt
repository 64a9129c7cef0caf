use Rattle.std.proofs.Common.{length, take, ◌++◌, ◌∷◌, []}
use Rattle.std.specs.List.{flat_map}
use Rattle.page_stream.specs.Texts.{command_text}
use Rattle.page_stream.specs.Writing.{Puts}
use Rattle.page_stream.proofs.writing.put_commands.Given as goal

abbrev pub invariant-loop-command : goal.invariant-loop-command
invariant-loop-command l = Puts l.fn.into l.into ((length l.commands ∷ []) ++ flat_map command_text (take l.command-index l.commands))
