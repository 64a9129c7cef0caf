use Rattle.std.proofs.Common.{◌∙◌, sym}
use Rattle.std.proofs.lemmas.Bool.Decides.{Decides-eqb, Decides-like}
use Rattle.std.proofs.lemmas.Slice.Eq.{slice_eq-Decides}
use Rattle.mig_base.proofs.page_bytes.PageBytes.is_same.Goals as goal

pub returns : goal.returns
returns c =
    Decides-like c.eq.result
    (λ e. sym c.self.view_is ∙ e ∙ c.other.view_is)
    (λ e. c.self.view_is ∙ e ∙ sym c.other.view_is)
    (slice_eq-Decides Decides-eqb c.self.inside.bytes.items c.other.inside.bytes.items c.eq.result c.eq.ensures)
