-- A node of its own: the machine's node, and the frames that it has sent and that were not collected yet.
use Rattle.std.specs.Prelude.{ℕ, List, refl}
use Rattle.std.specs.Coded.{Coded, code_by, coded×, coded_ℕ, coded_list}
use Rattle.mig_model.specs.Destination.{Destination}
use Rattle.mig_model.specs.Source.{Source}
use Rattle.mig_model.specs.Wire.{Sent, Wire}
use Rattle.wires.specs.Codes.{coded_sent}

-- a node, and the wire of the frames that wait
pub record Posting (Node : Type 0) : Type 0 where
  pub node : Node
  pub wire : Wire

-- a source with its wire
abbrev pub PostingSource : Type 0
PostingSource = Posting Source

-- a destination with its wire
abbrev pub PostingDestination : Type 0
PostingDestination = Posting Destination

-- the code of a wire
abbrev pub coded_wire : Coded Wire
coded_wire = code_by (List Sent × ℕ) (coded× (coded_list coded_sent) coded_ℕ) (λ wire. (wire.frames, wire.held)) (λ p. record { frames = p.0; held = p.1 }) (λ _. refl)

-- the code of a node with its wire
abbrev pub coded_posting : {Node : Type 0} → Coded Node → Coded (Posting Node)
coded_posting {Node} code = code_by (Node × Wire) (coded× code coded_wire) (λ s. (s.node, s.wire)) (λ p. record { node = p.0; wire = p.1 }) (λ _. refl)
