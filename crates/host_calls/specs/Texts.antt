-- The texts of calls: the commands of the host protocol, in conformance/README.md, and the lines that have them.
use Rattle.std.specs.Prelude.{ℕ, List, [], ◌∷◌, ◌++◌, codes}
use Rattle.std.specs.Fmt.{decimal}
use Rattle.mig_base.specs.declared.schedule.Side.{Side}
use Rattle.mig_base.specs.Texts.{hexadecimal, side_text}
use Rattle.host_calls.specs.declared.call.Call.{Call}

-- a call as a command. HEX stands for the bytes of the copy
abbrev pub call_text : Call → List ℕ
call_text (Call.Open features) = codes "open " ++ hexadecimal features
call_text (Call.Register addr len mode) = codes "register " ++ hexadecimal addr ++ codes " " ++ decimal len ++ codes " " ++ decimal mode
call_text Call.Read = codes "read"
call_text (Call.Wake addr) = codes "wake " ++ hexadecimal addr ++ codes " 4096"
call_text (Call.WakeRange addr len) = codes "wake " ++ hexadecimal addr ++ codes " " ++ decimal len
call_text (Call.WriteProtect addr len mode) = codes "writeprotect " ++ hexadecimal addr ++ codes " " ++ decimal len ++ codes " " ++ decimal mode
call_text (Call.ZeroPage addr) = codes "zeropage " ++ hexadecimal addr ++ codes " 4096 0"
call_text (Call.Copy addr) = codes "copy " ++ hexadecimal addr ++ codes " 0 HEX"
call_text (Call.Page addr) = codes "page " ++ hexadecimal addr

-- the line of a call on the host of a node
unfoldable pub call_line : Side → Call → List ℕ
call_line node call = codes "> " ++ side_text node ++ codes " " ++ call_text call ++ 10 ∷ []

-- the lines of calls, in turn
abbrev pub call_lines : Side → List Call → List ℕ
call_lines node [] = []
call_lines node (call ∷ calls) = call_line node call ++ call_lines node calls
