-- The numbers of an effect.
use Rattle.std.specs.Prelude.{ℕ, Bool, true, false}
use Rattle.mig_base.specs.declared.command.Errno.{Errno}
use Rattle.mig_base.specs.declared.command.Reply.{Reply}
use Rattle.mig_base.specs.declared.effect.Effect.{Effect}
use Rattle.mig_base.specs.declared.message.Message.{Message}
use Rattle.mig_base.specs.declared.phase.Received.{Received}
use Rattle.mig_base.specs.declared.schedule.Side.{Side}
use Rattle.postmig_c.specs.declared.effects.EffectNumbers.{EffectNumbers}

-- Parts

-- 1 for true
abbrev pub bool_number : Bool → ℕ
bool_number true = 1
bool_number false = 0

-- an errno of Linux
abbrev pub errno_number : Errno → ℕ
errno_number Errno.Eperm = 1
errno_number Errno.Enoent = 2
errno_number Errno.Eagain = 11
errno_number Errno.Enomem = 12
errno_number Errno.Efault = 14
errno_number Errno.Eexist = 17
errno_number Errno.Einval = 22

-- the kind of a reply
abbrev pub reply_number : Reply → ℕ
reply_number (Reply.Value value) = 1
reply_number Reply.Done = 2
reply_number (Reply.At addr) = 3
reply_number (Reply.Segv mapped) = 4
reply_number Reply.BadAccess = 5
reply_number (Reply.Refused errno) = 6

-- the value of a reply
abbrev pub reply_value : Reply → ℕ
reply_value (Reply.Value value) = value
reply_value Reply.Done = 0
reply_value (Reply.At addr) = addr
reply_value (Reply.Segv mapped) = bool_number mapped
reply_value Reply.BadAccess = 0
reply_value (Reply.Refused errno) = errno_number errno

-- the number of an event in struct uffd_msg
abbrev pub event_number : Message → ℕ
event_number (Message.PageFault addr write wp tid) = 0x12
event_number (Message.Remap from to len) = 0x14
event_number (Message.Remove start end) = 0x15
event_number (Message.Unmap start end) = 0x16

-- the first address of an event
abbrev pub event_addr : Message → ℕ
event_addr (Message.PageFault addr write wp tid) = addr
event_addr (Message.Remap from to len) = from
event_addr (Message.Remove start end) = start
event_addr (Message.Unmap start end) = start

-- its other address: where a range was moved, or the address after the last byte
abbrev pub event_other : Message → ℕ
event_other (Message.PageFault addr write wp tid) = 0
event_other (Message.Remap from to len) = to
event_other (Message.Remove start end) = end
event_other (Message.Unmap start end) = end

-- the length in bytes of a range that was moved
abbrev pub event_length : Message → ℕ
event_length (Message.PageFault addr write wp tid) = 0
event_length (Message.Remap from to len) = len
event_length (Message.Remove start end) = 0
event_length (Message.Unmap start end) = 0

-- the state of a destination, as in a Recv
abbrev pub state_number : Received → ℕ
state_number Received.NotRun = 0
state_number Received.Running = 1
state_number Received.Ended = 2

-- a side of the channel
abbrev pub side_number : Side → ℕ
side_number Side.Source = 0
side_number Side.Destination = 1

-- Effects

-- the kind of an effect
abbrev pub kind_of : Effect → ℕ
kind_of (Effect.Answered cpu reply) = 1
kind_of (Effect.Asleep cpu) = 2
kind_of (Effect.InCall cpu messages) = 3
kind_of (Effect.Started epoch) = 4
kind_of (Effect.RoundMade round todo) = 5
kind_of (Effect.SentPage addr) = 6
kind_of (Effect.SentZero addr) = 7
kind_of (Effect.SentRun addr pages) = 8
kind_of (Effect.ReadFault addr wp) = 9
kind_of (Effect.ReadEvent event) = 10
kind_of (Effect.ReadLast event cpu reply) = 11
kind_of (Effect.Unprotected addr) = 12
kind_of (Effect.Zeroed addr) = 13
kind_of (Effect.Woke addr) = 14
kind_of (Effect.Forgot addr) = 15
kind_of (Effect.Requested origin addr) = 16
kind_of (Effect.Switched discard owed) = 17
kind_of (Effect.Moved bytes) = 18
kind_of Effect.TookAdvise = 19
kind_of (Effect.TookPage addr) = 20
kind_of (Effect.TookZero addr) = 21
kind_of (Effect.TookRun addr pages) = 22
kind_of (Effect.TookDiscard pages) = 23
kind_of (Effect.TookPackage owed) = 24
kind_of Effect.TookEnd = 25
kind_of Effect.TookResume = 26
kind_of (Effect.TookRequest addr) = 27
kind_of (Effect.TookRecv state pages) = 28
kind_of Effect.TookDone = 29
kind_of (Effect.Installed addr origin) = 30
kind_of (Effect.Dropped origin) = 31
kind_of (Effect.Asked addr) = 32
kind_of Effect.EndSent = 33
kind_of Effect.Broken = 34
kind_of (Effect.Noticed side) = 35
kind_of (Effect.Resumed epoch) = 36

-- the processor of an effect
abbrev pub cpu_in : Effect → ℕ
cpu_in (Effect.Answered cpu reply) = cpu
cpu_in (Effect.Asleep cpu) = cpu
cpu_in (Effect.InCall cpu messages) = cpu
cpu_in (Effect.ReadLast event cpu reply) = cpu
cpu_in effect = 0

-- the number of an effect: an epoch, a round, the pages discarded, a state, a side, whether a fault is a write-protect fault, or an event
abbrev pub number_in : Effect → ℕ
number_in (Effect.Started epoch) = epoch
number_in (Effect.Resumed epoch) = epoch
number_in (Effect.RoundMade round todo) = round
number_in (Effect.ReadFault addr wp) = bool_number wp
number_in (Effect.ReadEvent event) = event_number event
number_in (Effect.ReadLast event cpu reply) = event_number event
number_in (Effect.Switched discard owed) = discard
number_in (Effect.TookRecv state pages) = state_number state
number_in (Effect.Noticed side) = side_number side
number_in effect = 0

-- how many pages or messages an effect has
abbrev pub count_in : Effect → ℕ
count_in (Effect.InCall cpu messages) = messages
count_in (Effect.RoundMade round todo) = todo
count_in (Effect.SentRun addr pages) = pages
count_in (Effect.TookRun addr pages) = pages
count_in (Effect.TookDiscard pages) = pages
count_in (Effect.TookRecv state pages) = pages
count_in (Effect.Switched discard owed) = owed
count_in (Effect.TookPackage owed) = owed
count_in effect = 0

-- the address of the page, or the first of an event
abbrev pub addr_in : Effect → ℕ
addr_in (Effect.SentPage addr) = addr
addr_in (Effect.SentZero addr) = addr
addr_in (Effect.SentRun addr pages) = addr
addr_in (Effect.ReadFault addr wp) = addr
addr_in (Effect.Unprotected addr) = addr
addr_in (Effect.Zeroed addr) = addr
addr_in (Effect.Woke addr) = addr
addr_in (Effect.Forgot addr) = addr
addr_in (Effect.Requested origin addr) = addr
addr_in (Effect.TookPage addr) = addr
addr_in (Effect.TookZero addr) = addr
addr_in (Effect.TookRun addr pages) = addr
addr_in (Effect.TookRequest addr) = addr
addr_in (Effect.Installed addr origin) = addr
addr_in (Effect.Asked addr) = addr
addr_in (Effect.ReadEvent event) = event_addr event
addr_in (Effect.ReadLast event cpu reply) = event_addr event
addr_in effect = 0

-- the address of the page at the source, or the other address of an event
abbrev pub other_in : Effect → ℕ
other_in (Effect.Requested origin addr) = origin
other_in (Effect.Installed addr origin) = origin
other_in (Effect.Dropped origin) = origin
other_in (Effect.ReadEvent event) = event_other event
other_in (Effect.ReadLast event cpu reply) = event_other event
other_in effect = 0

-- a length in bytes
abbrev pub length_in : Effect → ℕ
length_in (Effect.ReadEvent event) = event_length event
length_in (Effect.ReadLast event cpu reply) = event_length event
length_in (Effect.Moved bytes) = bytes
length_in effect = 0

-- the reply to the command; 0 if there is none
abbrev pub reply_in : Effect → ℕ
reply_in (Effect.Answered cpu reply) = reply_number reply
reply_in (Effect.ReadLast event cpu reply) = reply_number reply
reply_in effect = 0

-- the value of the reply
abbrev pub value_in : Effect → ℕ
value_in (Effect.Answered cpu reply) = reply_value reply
value_in (Effect.ReadLast event cpu reply) = reply_value reply
value_in effect = 0

-- the numbers of a kind of effect that has no others
abbrev pub of_kind : ℕ → EffectNumbers
of_kind kind = record { kind = kind; cpu = 0; number = 0; count = 0; addr = 0; other = 0; length = 0; value = 0; reply = 0 }

-- an effect in numbers
abbrev pub effect_numbers : Effect → EffectNumbers
effect_numbers effect =
    record {
      kind = kind_of effect;
      cpu = cpu_in effect;
      number = number_in effect;
      count = count_in effect;
      addr = addr_in effect;
      other = other_in effect;
      length = length_in effect;
      value = value_in effect;
      reply = reply_in effect;
    }
