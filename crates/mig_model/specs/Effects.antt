-- What the steps report.
use Rattle.std.specs.Prelude.{ℕ, ◌*◌, if◌then◌else◌, Option, Some, None, List, length}
use Rattle.std.specs.FinSet as finset
use Rattle.foundation.specs.declared.TheConstants.{PAGE_SIZE}
use Rattle.mig_base.specs.declared.command.Reply.{Reply}
use Rattle.mig_base.specs.declared.effect.Effect.{Effect}
use Rattle.mig_base.specs.declared.message.Message.{Message}
use Rattle.mig_base.specs.declared.message.Message.TheVariants.{PageFault}
use Rattle.mig_model.specs.Cpus.{Cpus, Took, handed_over, processor_at}
use Rattle.mig_model.specs.Cpus.Took.{Sleep, Call}
use Rattle.mig_model.specs.Wire.{Frame, is_zeros}
use Rattle.mig_model.specs.Wire.Frame.{Advise, Page, Zero, Run, Discard, Package, End, Resume, Request, Recv, Done}

-- the effect of a command: a reply, sleep, or a map call that returns once `left` messages are read
abbrev pub try_effect : ℕ → Took → Effect
try_effect cpu (Took.Answer reply) = Effect.Answered cpu reply
try_effect cpu Sleep = Effect.Asleep cpu
try_effect cpu (Call reply left) = Effect.InCall cpu left

-- the effect of sending a page: a page of zeros is sent without its bytes
abbrev pub page_effect : ℕ → List ℕ → Effect
page_effect page bytes = if is_zeros bytes then Effect.SentZero (PAGE_SIZE * page) else Effect.SentPage (PAGE_SIZE * page)

-- the effect of reading an event: if it is the last of its map call, the processor gets the reply of the call
abbrev pub event_effect : Message → ℕ → Option Reply → Effect
event_effect event cpu None = Effect.ReadEvent event
event_effect event cpu (Some reply) = Effect.ReadLast event cpu reply

-- the effect of reading a message: a page fault, or an event of the processor's map call
abbrev pub read_effect : Cpus → ℕ → Message → Effect
read_effect cpus cpu (PageFault addr write wp tid) = Effect.ReadFault addr wp
read_effect cpus cpu message = event_effect message cpu (handed_over (processor_at cpus cpu))

-- the effect of taking a frame, with the page's address or the number of pages
abbrev pub frame_effect : Frame → Effect
frame_effect Advise = Effect.TookAdvise
frame_effect (Page page bytes) = Effect.TookPage (PAGE_SIZE * page)
frame_effect (Zero page) = Effect.TookZero (PAGE_SIZE * page)
frame_effect (Run first pages) = Effect.TookRun (PAGE_SIZE * first) (length pages)
frame_effect (Discard pages) = Effect.TookDiscard (finset.len pages)
frame_effect (Package areas owed commands) = Effect.TookPackage (finset.len owed)
frame_effect (End urgent) = Effect.TookEnd
frame_effect Resume = Effect.TookResume
frame_effect (Request page) = Effect.TookRequest (PAGE_SIZE * page)
frame_effect (Recv state owed) = Effect.TookRecv state (finset.len owed)
frame_effect Done = Effect.TookDone

-- the effect of Install: the page where the copy was installed, if any, and its page at the source
abbrev pub install_effect : Option ℕ → ℕ → Effect
install_effect None origin = Effect.Dropped (PAGE_SIZE * origin)
install_effect (Some page) origin = Effect.Installed (PAGE_SIZE * page) (PAGE_SIZE * origin)
