-- The texts of error numbers, replies, refusals, messages and effects.
use Rattle.std.specs.Prelude.{ℕ, Bool, false, true, List, ◌++◌, codes}
use Rattle.std.specs.Fmt.{decimal, digits}
use Rattle.mig_base.specs.declared.command.Errno.{Errno}
use Rattle.mig_base.specs.declared.command.Errno.TheVariants.{Eperm, Enoent, Eagain, Enomem, Efault, Eexist, Einval}
use Rattle.mig_base.specs.declared.command.Reply.{Reply}
use Rattle.mig_base.specs.declared.command.Reply.TheVariants.{Value, Done, At, Segv, BadAccess, Refused}
use Rattle.mig_base.specs.declared.effect.Effect.{Effect}
use Rattle.mig_base.specs.declared.effect.Effect.TheVariants as effect
use Rattle.mig_base.specs.declared.refusal.Refusal.{Refusal}
use Rattle.mig_base.specs.declared.refusal.Refusal.TheVariants as refusal
use Rattle.mig_base.specs.declared.message.Message.{Message}
use Rattle.mig_base.specs.declared.message.Message.TheVariants.{PageFault, Remap, Remove, Unmap}
use Rattle.mig_base.specs.declared.phase.Received.{Received}
use Rattle.mig_base.specs.declared.phase.Received.TheVariants as received
use Rattle.mig_base.specs.declared.schedule.Side.{Side}
use Rattle.mig_base.specs.declared.schedule.Side.TheVariants as side

-- 0x and lower-case digits without leading zeros
abbrev pub hexadecimal : ℕ → List ℕ
hexadecimal n = codes "0x" ++ digits 16 false n

-- the name of an error number, as in errno(3)
abbrev pub errno_name : Errno → List ℕ
errno_name Eperm = codes "EPERM"
errno_name Enoent = codes "ENOENT"
errno_name Eagain = codes "EAGAIN"
errno_name Enomem = codes "ENOMEM"
errno_name Efault = codes "EFAULT"
errno_name Eexist = codes "EEXIST"
errno_name Einval = codes "EINVAL"

-- a reply
abbrev pub reply_text : Reply → List ℕ
reply_text (Value n) = codes "value " ++ hexadecimal n
reply_text Done = codes "done"
reply_text (At addr) = codes "at " ++ hexadecimal addr
reply_text (Segv false) = codes "segv unmapped"
reply_text (Segv true) = codes "segv protected"
reply_text BadAccess = codes "bad access"
reply_text (Refused errno) = codes "refused " ++ errno_name errno

-- the name of a refusal
abbrev pub refusal_name : Refusal → List ℕ
refusal_name refusal.NoCpu = codes "NoCpu"
refusal_name refusal.Busy = codes "Busy"
refusal_name refusal.NotAsleep = codes "NotAsleep"
refusal_name refusal.NotWoken = codes "NotWoken"
refusal_name refusal.Phase = codes "Phase"
refusal_name refusal.Broken = codes "Broken"
refusal_name refusal.NotBroken = codes "NotBroken"
refusal_name refusal.StaleEpoch = codes "StaleEpoch"
refusal_name refusal.NothingThere = codes "NothingThere"
refusal_name refusal.Changing = codes "Changing"
refusal_name refusal.InstallFirst = codes "InstallFirst"
refusal_name refusal.UrgentFirst = codes "UrgentFirst"
refusal_name refusal.PageNotSendable = codes "PageNotSendable"
refusal_name refusal.NotRemaining = codes "NotRemaining"
refusal_name refusal.PagesLeft = codes "PagesLeft"
refusal_name refusal.CountUsed = codes "CountUsed"
refusal_name refusal.NoMemory = codes "NoMemory"

-- the kind of a page fault
abbrev pub fault_text : Bool → List ℕ
fault_text false = codes "missing"
fault_text true = codes "write-protect"

-- a message that was read
abbrev pub event_text : Message → List ℕ
event_text (PageFault addr write wp tid) = codes "fault " ++ hexadecimal addr ++ codes " " ++ fault_text wp
event_text (Remap from to len) = codes "remap " ++ hexadecimal from ++ codes " " ++ hexadecimal to ++ codes " " ++ decimal len
event_text (Remove start end) = codes "remove " ++ hexadecimal start ++ codes " " ++ hexadecimal end
event_text (Unmap start end) = codes "unmap " ++ hexadecimal start ++ codes " " ++ hexadecimal end

-- how far a destination has come
abbrev pub state_text : Received → List ℕ
state_text received.NotRun = codes "notrun"
state_text received.Running = codes "running"
state_text received.Ended = codes "ended"

-- the name of a side of the channel
abbrev pub side_text : Side → List ℕ
side_text side.Source = codes "source"
side_text side.Destination = codes "dest"

-- the text of an effect
abbrev pub effect_text : Effect → List ℕ
effect_text (effect.Answered cpu reply) = codes "cpu " ++ decimal cpu ++ codes " " ++ reply_text reply
effect_text (effect.Asleep cpu) = codes "cpu " ++ decimal cpu ++ codes " asleep"
effect_text (effect.InCall cpu messages) = codes "cpu " ++ decimal cpu ++ codes " in call " ++ decimal messages
effect_text (effect.Started epoch) = codes "started epoch " ++ decimal epoch
effect_text (effect.RoundMade round todo) = codes "round " ++ decimal round ++ codes " todo " ++ decimal todo
effect_text (effect.SentPage addr) = codes "sent page " ++ hexadecimal addr
effect_text (effect.SentZero addr) = codes "sent zero " ++ hexadecimal addr
effect_text (effect.SentRun addr pages) = codes "sent run " ++ hexadecimal addr ++ codes " " ++ decimal pages
effect_text (effect.ReadFault addr wp) = codes "read fault " ++ hexadecimal addr ++ codes " " ++ fault_text wp
effect_text (effect.ReadEvent event) = codes "read " ++ event_text event
effect_text (effect.ReadLast event cpu reply) = codes "read " ++ event_text event ++ codes ", cpu " ++ decimal cpu ++ codes " " ++ reply_text reply
effect_text (effect.Unprotected addr) = codes "unprotected " ++ hexadecimal addr
effect_text (effect.Zeroed addr) = codes "zeroed " ++ hexadecimal addr
effect_text (effect.Woke addr) = codes "woke " ++ hexadecimal addr
effect_text (effect.Forgot addr) = codes "forgot " ++ hexadecimal addr
effect_text (effect.Requested origin addr) = codes "requested " ++ hexadecimal origin ++ codes " for " ++ hexadecimal addr
effect_text (effect.Switched discard owed) = codes "switched discard " ++ decimal discard ++ codes " owed " ++ decimal owed
effect_text (effect.Moved bytes) = codes "moved " ++ decimal bytes
effect_text effect.TookAdvise = codes "took advise"
effect_text (effect.TookPage addr) = codes "took page " ++ hexadecimal addr
effect_text (effect.TookZero addr) = codes "took zero " ++ hexadecimal addr
effect_text (effect.TookRun addr pages) = codes "took run " ++ hexadecimal addr ++ codes " " ++ decimal pages
effect_text (effect.TookDiscard pages) = codes "took discard " ++ decimal pages
effect_text (effect.TookPackage owed) = codes "took package owed " ++ decimal owed
effect_text effect.TookEnd = codes "took end"
effect_text effect.TookResume = codes "took resume"
effect_text (effect.TookRequest addr) = codes "took request " ++ hexadecimal addr
effect_text (effect.TookRecv state pages) = codes "took recv " ++ state_text state ++ codes " " ++ decimal pages
effect_text effect.TookDone = codes "took done"
effect_text (effect.Installed addr origin) = codes "installed " ++ hexadecimal addr ++ codes " from " ++ hexadecimal origin
effect_text (effect.Dropped origin) = codes "dropped " ++ hexadecimal origin
effect_text (effect.Asked addr) = codes "asked " ++ hexadecimal addr
effect_text effect.EndSent = codes "end sent"
effect_text effect.Broken = codes "broken"
effect_text (effect.Noticed at) = codes "paused " ++ side_text at
effect_text (effect.Resumed epoch) = codes "resumed epoch " ++ decimal epoch
