-- Laws of one changed guest, source, destination or space, as records: each step or call gives it what it gives the old one, changed. Where
-- a step says no byte of a page, `bytes` is any.
use Rattle.std.specs.Prelude.{◌≡◌, ℕ, Bool, List}
use Rattle.mig_base.specs.declared.command.Command.{Command}
use Rattle.mig_base.specs.declared.schedule.Ticket.{Ticket}
use Rattle.mig_model.specs.Destination.{Destination}
use Rattle.mig_model.specs.DestinationSteps as destination
use Rattle.mig_model.specs.Guest.{Guest}
use Rattle.mig_model.specs.GuestSteps as steps
use Rattle.mig_model.specs.Source.{Source}
use Rattle.mig_model.specs.SourceSteps as source
use Rattle.mig_model.specs.Space as spaces
use Rattle.mig_model.specs.Space.{Space}
use Rattle.mig_model.specs.Wire.{Frame}
use Rattle.mig_laws.specs.Contents.{access_under, command_under, guest_under, space_under}
use Rattle.mig_laws.specs.Nodes.{destination_acted_under, destination_sends_under, map_ok, own_bytes, source_acted_under, source_sends_under, tried_under}
use Rattle.mig_laws.specs.Worlds.{IsWholeFrame, bytes_in, destination_under, frame_under, source_under}

-- Commands

-- the commands of a processor on a space
pub record CommandsAlike (f : ℕ → ℕ) (space : Space) : Type 0 where
  pub access : (command : Command) → spaces.access_of (space_under f space) (command_under f command) ≡ access_under f (spaces.access_of space command)
  pub accessed : (cpu : ℕ) (command : Command) → spaces.accessed (space_under f space) cpu (command_under f command) ≡ space_under f (spaces.accessed space cpu command)
  pub called : (cpu : ℕ) (command : Command) → spaces.called (space_under f space) cpu (command_under f command) ≡ space_under f (spaces.called space cpu command)
  pub messages : (command : Command) → spaces.queued_by (space_under f space) (command_under f command) ≡ spaces.queued_by space command

-- the commands of the processors of a guest
pub record TriesAlike (f : ℕ → ℕ) (guest : Guest) : Type 0 where
  pub issue : (bytes : ℕ → List ℕ) (runs : Bool) (cpu : ℕ) (command : Command) →
      steps.issue (guest_under f guest) runs cpu (command_under f command) ≡ map_ok (tried_under f bytes) (steps.issue guest runs cpu command)
  pub retry : (bytes : ℕ → List ℕ) (runs : Bool) (cpu : ℕ) → steps.retry (guest_under f guest) runs cpu ≡ map_ok (tried_under f bytes) (steps.retry guest runs cpu)

-- The source

-- its steps that read no page and make none
pub record SourceStepsAlike (f : ℕ → ℕ) (node : Source) : Type 0 where
  pub start : (bytes : ℕ → List ℕ) → source.start (source_under f node) ≡ map_ok (source_sends_under f bytes) (source.start node)
  pub round : (bytes : ℕ → List ℕ) → source.round (source_under f node) ≡ map_ok (source_acted_under f bytes) (source.round node)
  pub read : (bytes : ℕ → List ℕ) → source.read (source_under f node) ≡ map_ok (source_acted_under f bytes) (source.read node)
  pub switch : (bytes : ℕ → List ℕ) → source.switch (source_under f node) ≡ map_ok (source_sends_under f bytes) (source.switch node)
  pub serve : (bytes : ℕ → List ℕ) → source.serve (source_under f node) ≡ map_ok (source_acted_under f bytes) (source.serve node)
  pub end : (bytes : ℕ → List ℕ) → source.end (source_under f node) ≡ map_ok (source_sends_under f bytes) (source.end node)
  pub take : (frame : Frame) → source.take (source_under f node) (frame_under f frame) ≡ map_ok (source_sends_under f (λ addr. bytes_in frame)) (source.take node frame)
  pub pause : (bytes : ℕ → List ℕ) → source.pause (source_under f node) ≡ map_ok (source_acted_under f bytes) (source.pause node)
  pub resume : (bytes : ℕ → List ℕ) → source.resume (source_under f node) ≡ map_ok (source_sends_under f bytes) (source.resume node)

-- its steps that read pages or make zeros: Send, Push and PushUrgent say page or zero by the changed bytes of the page
pub record SourcePagesAlike (f : ℕ → ℕ) (node : Source) : Type 0 where
  pub send : source.send (source_under f node) ≡ map_ok (source_sends_under f (own_bytes node)) (source.send node)
  pub send_run : (bytes : ℕ → List ℕ) (count : ℕ) → source.send_run (source_under f node) count ≡ map_ok (source_sends_under f bytes) (source.send_run node count)
  pub act : (bytes : ℕ → List ℕ) → source.act (source_under f node) ≡ map_ok (source_acted_under f bytes) (source.act node)
  pub push : (ticket : Ticket) → source.push (source_under f node) ticket ≡ map_ok (source_sends_under f (own_bytes node)) (source.push node ticket)
  pub push_urgent : (ticket : Ticket) → source.push_urgent (source_under f node) ticket ≡ map_ok (source_sends_under f (own_bytes node)) (source.push_urgent node ticket)

-- The destination

-- its steps that take no page and make none
pub record DestinationStepsAlike (f : ℕ → ℕ) (node : Destination) : Type 0 where
  pub read : (bytes : ℕ → List ℕ) → destination.read (destination_under f node) ≡ map_ok (destination_acted_under f bytes) (destination.read node)
  pub install : (bytes : ℕ → List ℕ) → destination.install (destination_under f node) ≡ map_ok (destination_acted_under f bytes) (destination.install node)
  pub pause : (bytes : ℕ → List ℕ) → destination.pause (destination_under f node) ≡ map_ok (destination_acted_under f bytes) (destination.pause node)

-- its steps that take pages or make zeros
pub record DestinationPagesAlike (f : ℕ → ℕ) (node : Destination) : Type 0 where
  pub act : (bytes : ℕ → List ℕ) → destination.act (destination_under f node) ≡ map_ok (destination_sends_under f bytes) (destination.act node)
  pub take : (epoch : ℕ) (frame : Frame) → IsWholeFrame frame →
      destination.take (destination_under f node) epoch (frame_under f frame) ≡ map_ok (destination_sends_under f (λ addr. bytes_in frame)) (destination.take node epoch frame)
  pub take_urgent : (frame : Frame) → IsWholeFrame frame →
      destination.take_urgent (destination_under f node) (frame_under f frame) ≡ map_ok (destination_acted_under f (λ addr. bytes_in frame)) (destination.take_urgent node frame)
