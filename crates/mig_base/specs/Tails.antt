-- What stands after the first words of an effect's text.
use Rattle.std.specs.Prelude.{ℕ, false, List, [], ◌++◌, codes}
use Rattle.std.specs.Fmt.{decimal, digits}
use Rattle.mig_base.specs.Texts.{hexadecimal, reply_text, fault_text, event_text, state_text, side_text}
use Rattle.mig_base.specs.declared.texts.Tail.{Tail}
use Rattle.mig_base.specs.declared.texts.Tail.TheVariants as tail

-- the text of a tail; if it begins with an address, the 0x belongs to the words before it
abbrev pub tail_text : Tail → List ℕ
tail_text tail.Nothing = []
tail_text (tail.Number n) = decimal n
tail_text (tail.Address addr) = digits 16 false addr
tail_text (tail.Pages addr pages) = digits 16 false addr ++ codes " " ++ decimal pages
tail_text (tail.Reply cpu reply) = decimal cpu ++ codes " " ++ reply_text reply
tail_text (tail.Asleep cpu) = decimal cpu ++ codes " asleep"
tail_text (tail.InCall cpu messages) = decimal cpu ++ codes " in call " ++ decimal messages
tail_text (tail.Round round todo) = decimal round ++ codes " todo " ++ decimal todo
tail_text (tail.Fault addr wp) = digits 16 false addr ++ codes " " ++ fault_text wp
tail_text (tail.Event event) = event_text event
tail_text (tail.Last event cpu reply) = event_text event ++ codes ", cpu " ++ decimal cpu ++ codes " " ++ reply_text reply
tail_text (tail.Requested origin addr) = digits 16 false origin ++ codes " for " ++ hexadecimal addr
tail_text (tail.Switched discard owed) = decimal discard ++ codes " owed " ++ decimal owed
tail_text (tail.Installed addr origin) = digits 16 false addr ++ codes " from " ++ hexadecimal origin
tail_text (tail.Received state pages) = state_text state ++ codes " " ++ decimal pages
tail_text (tail.Side at) = side_text at
