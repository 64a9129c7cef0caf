-- Codes of worlds, by which a proof distinguishes the values of models that contain them.
use Rattle.std.specs.Prelude.{ℕ, Bool, List, refl}
use Rattle.std.specs.Coded.{Coded, code_by, coded×, coded_ℕ, coded_bool, coded_list}
use Rattle.mig_base.specs.contracts.command.Entry as entry
use Rattle.mig_base.specs.declared.command.Entry.{Entry}
use Rattle.mig_model.specs.Destination.{Destination}
use Rattle.mig_model.specs.Migration.{World}
use Rattle.mig_model.specs.Source.{Source}
use Rattle.mig_model.specs.Wire.{Sent, Wire}
use Rattle.fault_handler.specs.Codes.{coded_destination}
use Rattle.precopy.specs.Codes.{coded_source}
use Rattle.wires.specs.Codes.{coded_sent}

-- the code of a wire
abbrev pub coded_wire : Coded Wire
coded_wire = code_by (List Sent × ℕ) (coded× (coded_list coded_sent) coded_ℕ) (λ wire. (wire.frames, wire.held)) (λ p. record { frames = p.0; held = p.1 }) (λ _. refl)

-- the three wires
abbrev pub Wires : Type 0
Wires = Wire × (Wire × Wire)

-- the code of the three wires
abbrev pub coded_wires : Coded Wires
coded_wires = coded× coded_wire (coded× coded_wire coded_wire)

-- the code of a world
abbrev pub coded_world : Coded World
coded_world =
    code_by (Source × (Destination × (Wires × (Bool × List Entry)))) (coded× coded_source (coded× coded_destination (coded× coded_wires (coded× coded_bool (coded_list entry.the_row.coded)))))
    (λ w. (w.source, (w.destination, ((w.forward, (w.back, w.urgent)), (w.up, w.transcript)))))
    (λ p. record { source = p.0; destination = p.1.0; forward = p.1.1.0.0; back = p.1.1.0.1.0; urgent = p.1.1.0.1.1; up = p.1.1.1.0; transcript = p.1.1.1.1 })
    (λ _. refl)
