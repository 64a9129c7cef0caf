use Rattle.std.proofs.Common.{◌∙◌, sym}
use Rattle.std.proofs.lemmas.Bool.Decides.{Decides-like}
use Rattle.std.proofs.lemmas.Slice.Eq.{slice_eq-Decides}
use Rattle.mig_base.proofs.EqualLemmas.{same_states}
use Rattle.vcpu.proofs.cpus.Cpus.is_same.Goals as goal

pub returns : goal.returns
returns c =
    Decides-like c.eq.result
    (λ e. sym c.self.view_is ∙ e ∙ c.other.view_is)
    (λ e. c.self.view_is ∙ e ∙ sym c.other.view_is)
    (slice_eq-Decides same_states c.self.inside.states.items c.other.inside.states.items c.eq.result c.eq.ensures)
