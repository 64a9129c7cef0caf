-- The calls of a destination that may need memory.
use Rattle.std.specs.Prelude.{not, Bool, true, false}
use Rattle.mig_base.specs.declared.act.Act.{Act}
use Rattle.mig_base.specs.declared.message.Message.{Message}
use Rattle.mig_base.specs.declared.message.Message.TheVariants.{PageFault, Remap, Remove, Unmap}
use Rattle.mig_model.specs.Destination.{Destination}
use Rattle.mig_model.specs.Owed.{is_requested}

-- whether reading a message may need memory: a page fault is held, and pairs that move may need room at their new pages
abbrev pub read_grows : Message → Bool
read_grows (PageFault addr write wp tid) = true
read_grows (Remap from to len) = true
read_grows (Remove start end) = false
read_grows (Unmap start end) = false

-- whether resolving a fault may need memory: a page is requested that was not before, or becomes zeros
abbrev pub act_grows : Act → Destination → Bool
act_grows (Act.Requested origin) node = not (is_requested node.requests origin)
act_grows Act.Zeroed node = true
act_grows act node = false
