-- Two drivers. The node of each holds no byte of a page: each line is entered there without bytes, and the driver keeps the bytes of the guest.
-- What it does with them is said here, by what its node answers; and which accesses of the guest are entered at no node. Nothing else
-- touches the guest's memory: the deeds are all that happens.
use Rattle.std.specs.Prelude.{◌≡◌, ℕ, zero, suc, ◌+◌, ◌/◌, Bool, true, false, if◌then◌else◌, Option, Some, None, Ok, List, [], ◌∷◌, ◌++◌, map, length, get_or, set, replicate}
use Rattle.std.specs.Ordering.{nat_cmp}
use Rattle.std.specs.FinMap as finmap
use Rattle.std.specs.FinMap.{FinMap, contains_key, get, insert}
use Rattle.std.specs.FinSet.{contains}
use Rattle.foundation.specs.declared.TheConstants.{PAGE_SIZE}
use Rattle.mig_base.specs.declared.command.Command.{Command}
use Rattle.mig_base.specs.declared.command.Entry.{Entry}
use Rattle.mig_base.specs.declared.effect.Effect.{Effect}
use Rattle.mig_base.specs.declared.schedule.Side.{Side}
use Rattle.mig_base.specs.declared.schedule.Step.{Step}
use Rattle.mig_base.specs.Bytes.{contents, zero_page}
use Rattle.mig_base.specs.Commands.{is_access, is_store, page_of}
use Rattle.mig_base.specs.Flat.{memory_of, reply_of}
use Rattle.mig_model.specs.Cpus.{idle_answer}
use Rattle.mig_model.specs.Destination.{Destination, settled}
use Rattle.mig_model.specs.Guest.{Guest}
use Rattle.mig_model.specs.Host.{Host, host_after, memory}
use Rattle.mig_model.specs.Migration.{after_steps, first_world_with}
use Rattle.mig_model.specs.Promises.{is_last}
use Rattle.mig_model.specs.Source.{Source, commands_of}
use Rattle.mig_model.specs.Whereabouts.{current_by}
use Rattle.mig_model.specs.Wire.{Copy, Frame, kept_after, page_frame}
use Rattle.mig_model.specs.Wire.Frame.{Page, Zero, Run, Package, Resume}
use Rattle.mig_laws.specs.Orders.{log_of}
use Rattle.mig_laws.specs.Processes.{Event, GoesHere, GoesThere, IsEvent, Processes, first_processes}
use Rattle.mig_laws.specs.Replacements.{Change, IsReplaced, last_log, source_log}
use Rattle.mig_laws.specs.Sides.{Did, Line, destination_line, source_line}
use Rattle.mig_laws.specs.Worlds.{destination_under, sent_under, source_under, step_under}

-- What is entered at a node

-- takes each byte to 0
abbrev pub no_byte : ℕ → ℕ
no_byte byte = 0

-- a line as it is entered at the node: a store is one of 0, and a page one of zeros
abbrev pub entered : Line → Line
entered (Line.Made step) = Line.Made (step_under no_byte step)
entered (Line.Took sent) = Line.Took (sent_under no_byte sent)
entered (Line.TookUrgent sent) = Line.TookUrgent (sent_under no_byte sent)

-- What a driver has of its guest

-- the bytes of pages, by their numbers
abbrev pub Pages : Type 0
Pages = FinMap nat_cmp (List ℕ)

-- the pages in memory, the load or store with which each processor waits, and the commands that took effect, with the replies that the
-- guest got
pub record Held : Type 0 where
  pub pages : Pages
  pub waits : List (Option Command)
  pub entries : List Entry

-- `cpus` processors that wait for nothing, and no page
abbrev pub none_held : ℕ → Held
none_held cpus = record { pages = finmap.empty; waits = replicate cpus None; entries = [] }

-- its memory: mapped as the node has it, with these pages
abbrev pub host_with : Guest → Pages → Host
host_with guest pages = record guest.space.host { bytes = pages }

-- a command of a processor takes effect: it gets the reply of that memory, and changes it as a store, mmap(2), munmap(2), mremap(2) and
-- madvise(2) do
abbrev pub makes : Guest → Held → ℕ → Command → Held
makes guest held cpu command =
    record {
      pages = (host_after (host_with guest held.pages) command).bytes;
      waits = set held.waits cpu None;
      entries = held.entries ++ record { cpu = cpu; command = command; reply = reply_of (memory (host_with guest held.pages)) command } ∷ [];
    }

-- a command that is entered takes effect, or its processor waits, as the node answers
abbrev pub tries : Effect → Guest → Held → ℕ → Command → Held
tries (Effect.Answered k reply) guest held cpu command = makes guest held cpu command
tries (Effect.InCall k left) guest held cpu command = makes guest held cpu command
tries (Effect.Asleep k) guest held cpu command = record held { waits = set held.waits cpu (Some command) }
tries effect guest held cpu command = held

-- a woken processor makes the command with which it waits
abbrev pub tries_again : Effect → Guest → Held → ℕ → Option Command → Held
tries_again effect guest held cpu None = held
tries_again effect guest held cpu (Some command) = tries effect guest held cpu command

-- a page is made zeros where the node's handler says so: UFFDIO_ZEROPAGE
abbrev pub zeroes : Effect → Held → Held
zeroes (Effect.Zeroed addr) held = record held { pages = insert held.pages (addr / PAGE_SIZE) zero_page }
zeroes effect held = held

-- after a line that the node answers with this effect: nothing but commands of the guest and pages of zeros changes the memory
abbrev pub held_after : Line → Effect → Guest → Held → Held
held_after (Line.Made (Step.Issue cpu command)) effect guest held = tries effect guest held cpu command
held_after (Line.Made (Step.Retry cpu)) effect guest held = tries_again effect guest held cpu (get_or held.waits cpu None)
held_after (Line.Made Step.SourceAct) effect guest held = zeroes effect held
held_after (Line.Made Step.DestAct) effect guest held = zeroes effect held
held_after line effect guest held = held

-- The source

-- the same at the source, whose pages are the guest's no longer once it is released
abbrev pub here_after : Line → Effect → Guest → Held → Held
here_after (Line.Took sent) effect guest held = if is_last sent.frame then record held { pages = finmap.empty } else held
here_after line effect guest held = held_after line effect guest held

-- the bytes of neighbouring pages, from the first on
abbrev pub pages_from : Pages → ℕ → ℕ → List (List ℕ)
pages_from pages first zero = []
pages_from pages first (suc count) = contents pages first ∷ pages_from pages (1 + first) count

-- a frame that the node sends, with what it lacks: the bytes of its pages as they are in memory, and the commands with which processors wait
abbrev pub filled : Held → Frame → Frame
filled held (Page page bytes) = page_frame page (contents held.pages page)
filled held (Zero page) = page_frame page (contents held.pages page)
filled held (Run first pages) = Run first (pages_from held.pages first (length pages))
filled held (Package areas owed commands) = Package areas owed held.waits
filled held frame = frame

-- what the source does by a line, with its frames filled
abbrev pub did_filled : Held → Did Source → Did Source
did_filled held did = record did { frames = map (filled held) did.frames; urgent = map (filled held) did.urgent }

-- The destination

-- what a driver has there: its guest; the newest copy of each page, until the guest runs; and the copies that came since and were not
-- installed, in the order in which the node took them
pub record There : Type 0 where
  pub held : Held
  pub kept : Pages
  pub came : List Copy

-- a driver of a destination of `cpus` processors that has nothing
abbrev pub none_there : ℕ → There
none_there cpus = record { held = none_held cpus; kept = finmap.empty; came = [] }

-- the copy of a frame Page or Zero waits to be installed
abbrev pub comes : Frame → There → There
comes (Page page bytes) there = record there { came = there.came ++ record { page = page; bytes = bytes } ∷ [] }
comes (Zero page) there = record there { came = there.came ++ record { page = page; bytes = zero_page } ∷ [] }
comes frame there = there

-- a frame is taken, before the guest has run there or since. With the Package the kept copies are the memory, and each processor makes the
-- command with which it waited at the source; a Resume before that takes the copies away
abbrev pub takes : (has_run : Bool) → Frame → There → There
takes has_run (Package areas owed commands) there = record there { held = record there.held { pages = there.kept; waits = commands }; kept = finmap.empty }
takes true (Page page bytes) there = comes (Page page bytes) there
takes true (Zero page) there = comes (Zero page) there
takes false Resume there = record there { kept = finmap.empty }
takes has_run frame there = record there { kept = kept_after there.kept frame }

-- the first copy is put where the node says, or dropped: UFFDIO_COPY of the bytes that came with its frame
abbrev pub puts : Effect → List Copy → There → There
puts (Effect.Installed addr origin) (copy ∷ rest) there =
    record there { held = record there.held { pages = insert there.held.pages (addr / PAGE_SIZE) copy.bytes }; came = rest }
puts (Effect.Dropped origin) (copy ∷ rest) there = record there { came = rest }
puts effect came there = there

-- after a line that the node answers with this effect
abbrev pub there_after : Line → Effect → Destination → There → There
there_after (Line.Took sent) effect node there = takes node.has_run sent.frame there
there_after (Line.TookUrgent sent) effect node there = comes sent.frame there
there_after (Line.Made Step.Install) effect node there = puts effect there.came there
there_after line effect node there = record there { held = held_after line effect node.guest there.held }

-- Both

-- the two nodes without bytes, with channels between them on which the frames have their bytes, and what the two drivers have
pub record Drivers : Type 0 where
  pub nodes : Processes
  pub here : Held
  pub there : There

-- two drivers of `cpus` processors to whose nodes nothing has happened
abbrev pub first_drivers : ℕ → ℕ → ℕ → Drivers
first_drivers cpus epoch rounds = record { nodes = first_processes cpus epoch rounds; here = none_held cpus; there = none_there cpus }

-- what happens: a line of a side, something that becomes of a channel, another destination that takes a Resume of an epoch in place of the
-- first one, or a load or store that is entered at no node
pub data Deed : Type 0 where
  Happens : (event : Event) → Deed
  Replaced : (epoch : ℕ) → Deed
  Accesses : (side : Side) → (cpu : ℕ) → (command : Command) → Deed

-- a line of the source
pub record IsDoneHere (old : Drivers) (line : Line) (new : Drivers) : Type 0 where
  pub did : Did Source
  pub gives : source_line old.nodes.source (entered line) ≡ Ok did
  pub nodes : Processes
  pub goes : GoesHere old.nodes line (did_filled old.here did) nodes
  pub is : new ≡ record { nodes = nodes; here = here_after line did.effect old.nodes.source.guest old.here; there = old.there }

-- a line of the destination
pub record IsDoneThere (old : Drivers) (line : Line) (new : Drivers) : Type 0 where
  pub did : Did Destination
  pub gives : destination_line old.nodes.destination (entered line) ≡ Ok did
  pub nodes : Processes
  pub goes : GoesThere old.nodes line did nodes
  pub is : new ≡ record { nodes = nodes; here = old.here; there = there_after line did.effect old.nodes.destination old.there }

-- something becomes of a channel
pub record IsOfChannel (old : Drivers) (event : Event) (new : Drivers) : Type 0 where
  pub nodes : Processes
  pub becomes : IsEvent old.nodes event nodes
  pub is : new ≡ record old { nodes = nodes }

-- another destination takes the place of the first one, which has not run (`IsReplaced`). Its driver has nothing
pub record IsNewThere (cpus : ℕ) (old : Drivers) (epoch : ℕ) (new : Drivers) : Type 0 where
  pub nodes : Processes
  pub becomes : IsReplaced cpus old.nodes epoch nodes
  pub is : new ≡ record { nodes = nodes; here = old.here; there = none_there cpus }

-- an access meets no fault: a load or store of an idle processor at a page that is present, and not write-protected if it is a store
pub record MeetsNoFault (guest : Guest) (pages : Pages) (cpu : ℕ) (command : Command) : Type 0 where
  pub access : is_access command ≡ true
  pub idle : idle_answer guest.cpus cpu ≡ Ok tt
  pub present : contains_key pages (page_of command) ≡ true
  pub unprotected : is_store command ≡ true → contains guest.space.protected (page_of command) ≡ false

-- such an access at the source, before it switches
pub record IsAccessHere (old : Drivers) (cpu : ℕ) (command : Command) (new : Drivers) : Type 0 where
  pub runs : old.nodes.source.switched ≡ false
  pub meets : MeetsNoFault old.nodes.source.guest old.here.pages cpu command
  pub is : new ≡ record old { here = makes old.nodes.source.guest old.here cpu command }

-- and at the destination, once the guest has run there
pub record IsAccessThere (old : Drivers) (cpu : ℕ) (command : Command) (new : Drivers) : Type 0 where
  pub runs : old.nodes.destination.has_run ≡ true
  pub meets : MeetsNoFault old.nodes.destination.guest old.there.held.pages cpu command
  pub is : new ≡ record old { there = record old.there { held = makes old.nodes.destination.guest old.there.held cpu command } }

-- a deed leads from two drivers of `cpus` processors to two drivers
abbrev pub IsDeed : (cpus : ℕ) → Drivers → Deed → Drivers → Type 0
IsDeed cpus old (Deed.Happens (Event.Here line)) new = IsDoneHere old line new
IsDeed cpus old (Deed.Happens (Event.There line)) new = IsDoneThere old line new
IsDeed cpus old (Deed.Happens event) new = IsOfChannel old event new
IsDeed cpus old (Deed.Replaced epoch) new = IsNewThere cpus old epoch new
IsDeed cpus old (Deed.Accesses Side.Source cpu command) new = IsAccessHere old cpu command new
IsDeed cpus old (Deed.Accesses Side.Destination cpu command) new = IsAccessThere old cpu command new

-- deeds in the order in which they happened
abbrev pub AreDeeds : (cpus : ℕ) → Drivers → List Deed → Drivers → Type 0
AreDeeds cpus old [] new = new ≡ old
AreDeeds cpus old (deed ∷ deeds) new = (mid : Drivers) × IsDeed cpus old deed mid × AreDeeds cpus mid deeds new

-- The machine with all bytes

-- a deed as what happens to two processes whose nodes hold all bytes: an access is then a line like any other
abbrev pub change_of : Deed → Change
change_of (Deed.Happens event) = Change.Happens event
change_of (Deed.Replaced epoch) = Change.Replaced epoch
change_of (Deed.Accesses Side.Source cpu command) = Change.Happens (Event.Here (Line.Made (Step.Issue cpu command)))
change_of (Deed.Accesses Side.Destination cpu command) = Change.Happens (Event.There (Line.Made (Step.Issue cpu command)))

-- two nodes hold the bytes of two drivers: without bytes they are the drivers' nodes, and all that has bytes is what the drivers have
pub record HoldBytes (drivers : Drivers) (from : Source) (to : Destination) : Type 0 where
  pub source : drivers.nodes.source ≡ source_under no_byte from
  pub destination : drivers.nodes.destination ≡ destination_under no_byte to
  pub here : drivers.here.pages ≡ from.guest.space.host.bytes
  pub there : drivers.there.held.pages ≡ to.guest.space.host.bytes
  pub kept : drivers.there.kept ≡ to.kept
  pub came : drivers.there.came ≡ to.arrivals
  pub waits_here : drivers.here.waits ≡ commands_of from.guest.cpus
  pub waits_there : drivers.there.held.waits ≡ commands_of to.guest.cpus

-- the commands of the guest that took effect, at the source and after them at the destination, each with the reply that the guest got
abbrev pub entries_of : Drivers → List Entry
entries_of drivers = drivers.here.entries ++ drivers.there.held.entries

-- a world with all bytes in which steps lead to what the drivers have. Its one side has the source's log of these deeds, and the other ends
-- with that of the last destination
pub record IsWorldOf (cpus epoch rounds : ℕ) (deeds : List Deed) (drivers : Drivers) (steps : List Step) : Type 0 where
  pub earlier : List Line
  pub here : log_of Side.Source (first_world_with cpus epoch rounds) steps ≡ source_log (map change_of deeds)
  pub there : log_of Side.Destination (first_world_with cpus epoch rounds) steps ≡ earlier ++ last_log [] (map change_of deeds)
  pub bytes : HoldBytes drivers (after_steps (first_world_with cpus epoch rounds) steps).source (after_steps (first_world_with cpus epoch rounds) steps).destination
  pub transcript : (after_steps (first_world_with cpus epoch rounds) steps).transcript ≡ entries_of drivers

-- The headline

-- the memory that the guest sees: at the source until it has run at the destination, and from then on the destination's, where a page that
-- is owed has the source's bytes
abbrev pub seen_by : Drivers → Host
seen_by drivers =
    current_by drivers.nodes.destination.has_run (host_with drivers.nodes.destination.guest drivers.there.held.pages) (host_with drivers.nodes.source.guest drivers.here.pages)
    (settled drivers.nodes.destination)

-- the driver of the destination alone has the guest's memory, no page is owed, and no copy waits
pub record HasAlone (drivers : Drivers) : Type 0 where
  pub memory_is : memory (host_with drivers.nodes.destination.guest drivers.there.held.pages) ≡ memory_of (entries_of drivers)
  pub none_here : drivers.here.pages ≡ finmap.empty
  pub none_owed : drivers.nodes.destination.owed ≡ finmap.empty
  pub none_came : drivers.there.came ≡ []

-- whether there is a page at an address
abbrev pub has_page : Pages → ℕ → Bool
has_page pages addr = contains_key pages (addr / PAGE_SIZE)

-- a copy is put at an address where no page was and a page is then, with the bytes that the driver of the source has of the page from which
-- it was owed
pub record IsPutRight (old new : Drivers) (addr origin : ℕ) : Type 0 where
  pub missing : has_page old.there.held.pages addr ≡ false
  pub bytes : get new.there.held.pages (addr / PAGE_SIZE) ≡ get old.here.pages (origin / PAGE_SIZE)
  pub present : has_page new.there.held.pages addr ≡ true
