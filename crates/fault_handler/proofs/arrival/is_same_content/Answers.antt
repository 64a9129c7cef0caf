use Rattle.std.proofs.Common.{◌∙◌, sym}
use Rattle.std.proofs.lemmas.Bool.Decides.{Decides-eqb, Decides-like}
use Rattle.std.proofs.lemmas.Slice.Eq.{slice_eq-Decides}
use Rattle.fault_handler.proofs.arrival.is_same_content.Goals as goal

pub returns : goal.returns
returns c =
    Decides-like c.eq.result
    (λ e. sym c.bytes_of.ensures ∙ e ∙ c.bytes_of-2.ensures)
    (λ e. c.bytes_of.ensures ∙ e ∙ sym c.bytes_of-2.ensures)
    (slice_eq-Decides Decides-eqb c.bytes_of.result.now c.bytes_of-2.result.now c.eq.result c.eq.ensures)
