-- The texts of commands, steps, orders and entries, as they are printed.
use Rattle.std.specs.Prelude.{ℕ, List, [], ◌∷◌, ◌++◌, ◌-◌, ◌*◌, ◌^◌, ◌==◌, if◌then◌else◌, codes, Bool, false, true, Option, Some, None}
use Rattle.std.specs.Fmt.{decimal}
use Rattle.mig_base.specs.Texts.{hexadecimal, reply_text, side_text}
use Rattle.foundation.specs.declared.TheConstants.{PAGE_SIZE}
use Rattle.mig_base.specs.declared.Prot.{Prot}
use Rattle.mig_base.specs.declared.Prot.TheVariants.{NoAccess, Read, ReadWrite}
use Rattle.mig_base.specs.declared.command.Place.{Place}
use Rattle.mig_base.specs.declared.command.Place.TheVariants.{Anywhere, Fixed, NoReplace}
use Rattle.mig_base.specs.declared.command.Command.{Command}
use Rattle.mig_base.specs.declared.command.Command.TheVariants.{Load, Store, Mmap, Munmap, Mremap, DontNeed}
use Rattle.mig_base.specs.declared.command.Entry.{Entry}
use Rattle.mig_base.specs.declared.schedule.Step.{Step}
use Rattle.mig_base.specs.declared.schedule.Step.TheVariants as step
use Rattle.grammar.specs.declared.order.ForwardWire.{ForwardWire}
use Rattle.grammar.specs.declared.order.ForwardWire.TheVariants.{Main, Urgent}
use Rattle.grammar.specs.declared.order.Order.{Order}
use Rattle.grammar.specs.declared.order.Order.TheVariants.{Make, Push, Progress}

-- the word of a protection, as in a script
abbrev pub prot_text : Prot → List ℕ
prot_text NoAccess = codes "none"
prot_text Read = codes "r"
prot_text ReadWrite = codes "rw"

-- the words of a place, as in a script, with a space before each; empty if the place is left open
abbrev pub place_text : Place → List ℕ
place_text Anywhere = []
place_text (Fixed addr) = codes " fixed " ++ hexadecimal addr
place_text (NoReplace addr) = codes " noreplace " ++ hexadecimal addr

-- the word that lets a range move, with a space before it; empty if the range may not move
abbrev pub may_move_text : Bool → List ℕ
may_move_text false = []
may_move_text true = codes " maymove"

-- the words of a fixed target, with a space before each; empty if there is none
abbrev pub target_text : Option ℕ → List ℕ
target_text None = []
target_text (Some addr) = codes " fixed " ++ hexadecimal addr

-- the words of a call of mmap, as in a script
abbrev pub mmap_text : ℕ → Prot → Place → List ℕ
mmap_text len prot place = codes "mmap " ++ decimal len ++ codes " " ++ prot_text prot ++ place_text place

-- the words of a call of mremap, as in a script
abbrev pub mremap_text : ℕ → ℕ → ℕ → Bool → Option ℕ → List ℕ
mremap_text addr old_len new_len may_move fixed =
    codes "mremap " ++ hexadecimal addr ++ codes " " ++ decimal old_len ++ codes " " ++ decimal new_len ++ may_move_text may_move ++ target_text fixed

-- the words of a command, as in a script
abbrev pub command_text : Command → List ℕ
command_text (Load addr width) = codes "load " ++ hexadecimal addr ++ codes " " ++ decimal width
command_text (Store addr width value) = codes "store " ++ hexadecimal addr ++ codes " " ++ decimal width ++ codes " " ++ hexadecimal value
command_text (Mmap len prot place) = mmap_text len prot place
command_text (Munmap addr len) = codes "munmap " ++ hexadecimal addr ++ codes " " ++ decimal len
command_text (Mremap addr old_len new_len may_move fixed) = mremap_text addr old_len new_len may_move fixed
command_text (DontNeed addr len) = codes "dontneed " ++ hexadecimal addr ++ codes " " ++ decimal len

-- a number of bytes, with a space before it; empty for the greatest, which a line may leave out
abbrev pub bytes_text : ℕ → List ℕ
bytes_text n = if n == 2 ^ 64 - 1 then [] else codes " " ++ decimal n

-- the word of a push, by its wire
abbrev pub push_word : ForwardWire → List ℕ
push_word Main = codes "push"
push_word Urgent = codes "upush"

-- an epoch that is written, with a space before it; empty if none is
abbrev pub epoch_text : Option ℕ → List ℕ
epoch_text None = []
epoch_text (Some epoch) = codes " " ++ decimal epoch

-- the words of a push. A page is written as its first address
abbrev pub push_text : ForwardWire → ℕ → Option ℕ → List ℕ
push_text wire page epoch = push_word wire ++ codes " " ++ hexadecimal (PAGE_SIZE * page) ++ epoch_text epoch

-- the words of a step, as in a script
abbrev pub step_text : Step → List ℕ
step_text (step.Issue cpu command) = codes "cpu " ++ decimal cpu ++ codes " " ++ command_text command
step_text (step.Retry cpu) = codes "retry " ++ decimal cpu
step_text step.Start = codes "start"
step_text step.Round = codes "round"
step_text step.Send = codes "send"
step_text (step.SendRun count) = codes "sendrun " ++ decimal count
step_text step.SourceRead = codes "sread"
step_text step.SourceAct = codes "sact"
step_text step.Switch = codes "switch"
step_text (step.Deliver n) = codes "deliver" ++ bytes_text n
step_text (step.DeliverBack n) = codes "back" ++ bytes_text n
step_text step.DestRead = codes "dread"
step_text step.DestAct = codes "dact"
step_text step.Install = codes "install"
step_text (step.Push ticket) = push_text Main ticket.page (Some ticket.epoch)
step_text (step.PushUrgent ticket) = push_text Urgent ticket.page (Some ticket.epoch)
step_text (step.DeliverUrgent n) = codes "udeliver" ++ bytes_text n
step_text step.Serve = codes "serve"
step_text step.End = codes "end"
step_text step.Break = codes "break"
step_text (step.Notice at) = codes "notice " ++ side_text at
step_text step.Resume = codes "resume"

-- the line of an order in a script, without its line feed
abbrev pub order_text : Order → List ℕ
order_text (Make made) = step_text made
order_text (Push wire page epoch) = push_text wire page epoch
order_text Progress = codes "progress"

-- an entry: its processor, its command and its reply
abbrev pub entry_text : Entry → List ℕ
entry_text entry = decimal entry.cpu ++ codes " " ++ command_text entry.command ++ codes " => " ++ reply_text entry.reply

-- the transcript line of an entry
unfoldable pub entry_line : Entry → List ℕ
entry_line entry = entry_text entry ++ 10 ∷ []
