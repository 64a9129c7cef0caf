-- Which parts of a world each step may change. Every other part stays as it was: a step of the source reaches the destination only by a
-- wire.
use Rattle.std.specs.Prelude.{◌≡◌, true, false, List, ◌++◌}
use Rattle.mig_base.specs.declared.phase.DestPhase.{DestPhase}
use Rattle.mig_base.specs.declared.phase.SourcePhase.{SourcePhase}
use Rattle.mig_base.specs.declared.schedule.Side.{Side}
use Rattle.mig_base.specs.declared.schedule.Step.{Step}
use Rattle.mig_model.specs.Wire.{Sent, Wire}
use Rattle.mig_model.specs.Migration.{World}

-- frames were put at the end of a wire, or none; the bytes of the first that have come stay
pub record Grows (old new : Wire) : Type 0 where
  pub more : List Sent
  pub is : new ≡ record old { frames = old.frames ++ more }

-- frames were taken from the front of a wire, or none; the number of bytes of the first that have come may change
pub record Shrinks (old new : Wire) : Type 0 where
  pub taken : List Sent
  pub is : old.frames ≡ taken ++ new.frames

-- only the guest at the node that runs it, and the transcript
pub record GuestAlone (old new : World) : Type 0 where
  pub forward : new.forward ≡ old.forward
  pub back : new.back ≡ old.back
  pub urgent : new.urgent ≡ old.urgent
  pub up : new.up ≡ old.up
  pub source : old.destination.has_run ≡ true → new.source ≡ old.source
  pub destination : old.destination.has_run ≡ false → new.destination ≡ old.destination
  pub source_guest : new.source ≡ record old.source { guest = new.source.guest }
  pub destination_guest : new.destination ≡ record old.destination { guest = new.destination.guest }

-- only the source, and the end of the wire to the destination
pub record SourceAlone (old new : World) : Type 0 where
  pub destination : new.destination ≡ old.destination
  pub forward : Grows old.forward new.forward
  pub back : new.back ≡ old.back
  pub urgent : new.urgent ≡ old.urgent
  pub up : new.up ≡ old.up
  pub transcript : new.transcript ≡ old.transcript

-- only the destination, and the end of the wire back
pub record DestinationAlone (old new : World) : Type 0 where
  pub source : new.source ≡ old.source
  pub forward : new.forward ≡ old.forward
  pub back : Grows old.back new.back
  pub urgent : new.urgent ≡ old.urgent
  pub up : new.up ≡ old.up
  pub transcript : new.transcript ≡ old.transcript

-- only the front of the wire to the destination, the destination, and the end of the wire back
pub record Delivers (old new : World) : Type 0 where
  pub source : new.source ≡ old.source
  pub forward : Shrinks old.forward new.forward
  pub back : Grows old.back new.back
  pub urgent : new.urgent ≡ old.urgent
  pub up : new.up ≡ old.up
  pub transcript : new.transcript ≡ old.transcript

-- only the front of the wire back, the source, and the end of the wire to the destination
pub record DeliversBack (old new : World) : Type 0 where
  pub destination : new.destination ≡ old.destination
  pub forward : Grows old.forward new.forward
  pub back : Shrinks old.back new.back
  pub urgent : new.urgent ≡ old.urgent
  pub up : new.up ≡ old.up
  pub transcript : new.transcript ≡ old.transcript

-- only the source, and the end of the urgent wire
pub record UrgentAlone (old new : World) : Type 0 where
  pub destination : new.destination ≡ old.destination
  pub forward : new.forward ≡ old.forward
  pub back : new.back ≡ old.back
  pub urgent : Grows old.urgent new.urgent
  pub up : new.up ≡ old.up
  pub transcript : new.transcript ≡ old.transcript

-- only the front of the urgent wire, and the destination
pub record DeliversUrgent (old new : World) : Type 0 where
  pub source : new.source ≡ old.source
  pub forward : new.forward ≡ old.forward
  pub back : new.back ≡ old.back
  pub urgent : Shrinks old.urgent new.urgent
  pub up : new.up ≡ old.up
  pub transcript : new.transcript ≡ old.transcript

-- only the wires and the link
pub record WiresAlone (old new : World) : Type 0 where
  pub source : new.source ≡ old.source
  pub destination : new.destination ≡ old.destination
  pub transcript : new.transcript ≡ old.transcript

-- only the phase of the source
pub record SourcePhaseAlone (old new : World) : Type 0 where
  pub phase : SourcePhase
  pub is : new ≡ record old { source = record old.source { phase = phase } }

-- only the phase of the destination
pub record DestinationPhaseAlone (old new : World) : Type 0 where
  pub phase : DestPhase
  pub is : new ≡ record old { destination = record old.destination { phase = phase } }

-- only the link, the source's epoch with its count of urgent frames, and the end of the wire to the destination
pub record LinkAlone (old new : World) : Type 0 where
  pub source : new.source ≡ record old.source { epoch = new.source.epoch; urgent_sent = new.source.urgent_sent }
  pub destination : new.destination ≡ old.destination
  pub forward : Grows old.forward new.forward
  pub back : new.back ≡ old.back
  pub urgent : new.urgent ≡ old.urgent
  pub transcript : new.transcript ≡ old.transcript

-- a step from one world to another changes only the parts that it may
abbrev pub ChangesParts : World → Step → World → Type 0
ChangesParts old (Step.Issue cpu command) new = GuestAlone old new
ChangesParts old (Step.Retry cpu) new = GuestAlone old new
ChangesParts old Step.Start new = SourceAlone old new
ChangesParts old Step.Round new = SourceAlone old new
ChangesParts old Step.Send new = SourceAlone old new
ChangesParts old (Step.SendRun count) new = SourceAlone old new
ChangesParts old Step.SourceRead new = SourceAlone old new
ChangesParts old Step.SourceAct new = SourceAlone old new
ChangesParts old Step.Switch new = SourceAlone old new
ChangesParts old (Step.Deliver n) new = Delivers old new
ChangesParts old (Step.DeliverBack n) new = DeliversBack old new
ChangesParts old Step.DestRead new = DestinationAlone old new
ChangesParts old Step.DestAct new = DestinationAlone old new
ChangesParts old Step.Install new = DestinationAlone old new
ChangesParts old (Step.Push ticket) new = SourceAlone old new
ChangesParts old (Step.PushUrgent ticket) new = UrgentAlone old new
ChangesParts old (Step.DeliverUrgent n) new = DeliversUrgent old new
ChangesParts old Step.Serve new = SourceAlone old new
ChangesParts old Step.End new = SourceAlone old new
ChangesParts old Step.Break new = WiresAlone old new
ChangesParts old (Step.Notice Side.Source) new = SourcePhaseAlone old new
ChangesParts old (Step.Notice Side.Destination) new = DestinationPhaseAlone old new
ChangesParts old Step.Resume new = LinkAlone old new
