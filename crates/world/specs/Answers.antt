-- What a world says of itself, beside its steps.
use Rattle.std.specs.Prelude.{ℕ, ◌+◌, ◌==◌, ◌&&◌, Bool, List, [], ◌∷◌}
use Rattle.mig_base.specs.declared.refusal.Refusal.{Refusal}
use Rattle.mig_model.specs.Lengths.{text_len}
use Rattle.mig_model.specs.Source.{Source, is_stopped}
use Rattle.mig_model.specs.Wire.{Sent}
use Rattle.vcpu.specs.declared.fault.NewFault.{NewFault}

-- whether the source has stopped, and has sent End in its epoch
abbrev pub has_sent_end : Source → Bool
has_sent_end node = is_stopped node.phase && node.end_epoch == node.epoch

-- the bytes of frames in flight, those of the first that have come among them
abbrev pub in_flight_len : List Sent → ℕ
in_flight_len [] = 0
in_flight_len (sent ∷ rest) = text_len sent.frame + in_flight_len rest

-- the refusal of a new world whose source or destination cannot be made
abbrev pub new_refusal : NewFault → Refusal
new_refusal NewFault.NoCpu = Refusal.NoCpu
new_refusal NewFault.NoMemory = Refusal.NoMemory
