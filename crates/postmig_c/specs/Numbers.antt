-- The numbers of a frame.
use Rattle.std.specs.Prelude.{ℕ, ◌*◌, length}
use Rattle.std.specs.FinSet as finset
use Rattle.foundation.specs.declared.TheConstants.{PAGE_SIZE}
use Rattle.mig_model.specs.Wire.{Frame, Sent}
use Rattle.mig_model.specs.Wire.Frame.{Advise, Page, Zero, Run, Discard, Package, End, Resume, Request, Recv, Done}
use Rattle.page_stream.specs.Texts.{tag_code}
use Rattle.postmig_c.specs.declared.numbers.FrameNumbers.{FrameNumbers}

-- the address of a frame's page, or of the first page of its run; 0 if it names no page
abbrev pub address_in : Frame → ℕ
address_in (Page page bytes) = PAGE_SIZE * page
address_in (Zero page) = PAGE_SIZE * page
address_in (Run first pages) = PAGE_SIZE * first
address_in (Request page) = PAGE_SIZE * page
address_in Advise = 0
address_in (Discard pages) = 0
address_in (Package areas owed commands) = 0
address_in (End urgent) = 0
address_in Resume = 0
address_in (Recv state owed) = 0
address_in Done = 0

-- the number of pages of a frame: those of its run, those that it discards, or the owed ones; of an End its number of urgent frames
abbrev pub count_in : Frame → ℕ
count_in (Page page bytes) = 1
count_in (Zero page) = 1
count_in (Run first pages) = length pages
count_in (Request page) = 1
count_in Advise = 0
count_in (Discard pages) = finset.len pages
count_in (Package areas owed commands) = finset.len owed
count_in (End urgent) = urgent
count_in Resume = 0
count_in (Recv state owed) = finset.len owed
count_in Done = 0

-- a frame in numbers: its tag, its epoch, its address and its count
abbrev pub numbers_of : Sent → FrameNumbers
numbers_of sent = record { tag = tag_code sent.frame; epoch = sent.epoch; addr = address_in sent.frame; count = count_in sent.frame }
