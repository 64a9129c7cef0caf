-- What a line can say: orders and entries whose numbers fit.
use Rattle.std.specs.Prelude.{ℕ, ◌<◌, ◌≤◌, ◌^◌, Option, None, Some}
use Rattle.mig_base.specs.declared.TheConstants.{HIGH_PAGE, MAX_RUN}
use Rattle.mig_base.specs.declared.command.Command.{Command}
use Rattle.mig_base.specs.declared.command.Command.TheVariants.{Load, Store, Mmap, Munmap, Mremap, DontNeed}
use Rattle.mig_base.specs.declared.command.Place.{Place}
use Rattle.mig_base.specs.declared.command.Place.TheVariants.{Anywhere, Fixed, NoReplace}
use Rattle.mig_base.specs.declared.command.Reply.{Reply}
use Rattle.mig_base.specs.declared.command.Reply.TheVariants.{Value, At}
use Rattle.mig_base.specs.declared.command.Entry.{Entry}
use Rattle.mig_base.specs.declared.schedule.Step.{Step}
use Rattle.mig_base.specs.declared.schedule.Step.TheVariants as step
use Rattle.grammar.specs.declared.order.Order.{Order}
use Rattle.grammar.specs.declared.order.Order.TheVariants.{Make, Push, Progress}
use Rattle.grammar.specs.Spelling.{FitsEpoch}

-- a number of 64 bits
abbrev pub FitsWord : ℕ → Type 0
FitsWord n = n < 2 ^ 64

-- the address of a place, if it has one
abbrev pub PlaceFits : Place → Type 0
PlaceFits Anywhere = Unit {0}
PlaceFits (Fixed addr) = FitsWord addr
PlaceFits (NoReplace addr) = FitsWord addr

-- the address of a target, if there is one
abbrev pub TargetFits : Option ℕ → Type 0
TargetFits None = Unit {0}
TargetFits (Some addr) = FitsWord addr

-- the numbers of a command: its width has 8 bits, and any other has 64
abbrev pub CommandFits : Command → Type 0
CommandFits (Load addr width) = FitsWord addr × (width < 256)
CommandFits (Store addr width value) = FitsWord addr × (width < 256) × FitsWord value
CommandFits (Mmap len prot place) = FitsWord len × PlaceFits place
CommandFits (Munmap addr len) = FitsWord addr × FitsWord len
CommandFits (Mremap addr old_len new_len may_move fixed) = FitsWord addr × FitsWord old_len × FitsWord new_len × TargetFits fixed
CommandFits (DontNeed addr len) = FitsWord addr × FitsWord len

-- the numbers of a step. A push is no step of a line: it is an order of its own
abbrev pub StepFits : Step → Type 0
StepFits (step.Issue cpu command) = (cpu < 256) × CommandFits command
StepFits (step.Retry cpu) = cpu < 256
StepFits (step.SendRun count) = (0 < count) × (count ≤ MAX_RUN)
StepFits (step.Deliver n) = FitsWord n
StepFits (step.DeliverBack n) = FitsWord n
StepFits (step.DeliverUrgent n) = FitsWord n
StepFits (step.Push ticket) = ⊥
StepFits (step.PushUrgent ticket) = ⊥
StepFits made = Unit {0}

-- the numbers of an order: a page that is pushed lies in the address space, and an epoch has 32 bits
abbrev pub OrderFits : Order → Type 0
OrderFits (Make made) = StepFits made
OrderFits (Push wire page epoch) = (page < HIGH_PAGE) × FitsEpoch epoch
OrderFits Progress = Unit {0}

-- the number of a reply, if it has one
abbrev pub ReplyFits : Reply → Type 0
ReplyFits (Value n) = FitsWord n
ReplyFits (At addr) = FitsWord addr
ReplyFits reply = Unit {0}

-- the numbers of an entry
abbrev pub EntryFits : Entry → Type 0
EntryFits entry = (entry.cpu < 256) × CommandFits entry.command × ReplyFits entry.reply

-- Where the numbers are of their types

-- a line can say the step: a run has 1 to MAX_RUN pages, and a push is an order of its own
abbrev pub IsSayable : Step → Type 0
IsSayable (step.SendRun count) = (0 < count) × (count ≤ MAX_RUN)
IsSayable (step.Push ticket) = ⊥
IsSayable (step.PushUrgent ticket) = ⊥
IsSayable made = Unit {0}

-- a line can say the order: a page that is pushed lies in the address space
abbrev pub CanBeSpelled : Order → Type 0
CanBeSpelled (Make made) = IsSayable made
CanBeSpelled (Push wire page epoch) = page < HIGH_PAGE
CanBeSpelled Progress = Unit {0}
