use Rattle.std.proofs.Common.{List, ℕ, ap}
use Rattle.mig_model.specs.Wire.{Frame}
use Rattle.mig_model.specs.Wire.Frame.{Run}
use Rattle.mig_laws.specs.Sides.{Line}
use Rattle.nodes.proofs.WithoutBytes.{page-without, pages-without}
use Rattle.nodes.proofs.laws.a_head_is_its_frame_without_bytes.Goals as goal

pub returns-clause-page : goal.returns-clause-page
returns-clause-page c epoch page bytes = ap (λ (frame : Frame). Line.Took (record { epoch = epoch; frame = frame })) (page-without page bytes)

pub returns-clause-run : goal.returns-clause-run
returns-clause-run c epoch first pages whole = ap (λ (l : List (List ℕ)). Line.Took (record { epoch = epoch; frame = Run first l })) (pages-without pages whole)
