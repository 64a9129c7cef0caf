-- What a source hands over when it stops.
use Rattle.std.specs.Prelude.{◌≡◌}
use Rattle.mig_model.specs.Bounds.{ArePages, IsFrame}
use Rattle.mig_model.specs.Log.{less}
use Rattle.mig_model.specs.Source.{Source, commands_of, not_clean, space_of}
use Rattle.mig_model.specs.Wire.Frame.{Package}
use Rattle.page_stream.specs.Frames.{frame_of}
use Rattle.precopy.specs.declared.source.pushes.HandedOver.{HandedOver}

-- the pages that the destination must discard, each of which may be mapped; the owed pages; and the well formed Package that owes them
pub record IsHandedOver (node : Source) (handed : HandedOver) : Type 0 where
  pub discarded : handed.discarded ≡ less node.log.sent node.log.clean
  pub pages : ArePages handed.discarded
  pub owed : handed.owed ≡ not_clean node
  pub well_formed : IsFrame (frame_of handed.package)
  pub frame : frame_of handed.package ≡ Package (space_of node).host.areas (not_clean node) (commands_of node.guest.cpus)
