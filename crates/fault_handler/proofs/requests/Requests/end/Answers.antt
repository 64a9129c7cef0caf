use Rattle.std.proofs.Common.{ap, ◌∙◌}
use Rattle.mig_model.specs.Owed.{without_request}
use Rattle.fault_handler.proofs.RequestLemmas.{same_ended}
use Rattle.fault_handler.proofs.requests.Requests.end.Goals as goal

pub returns : goal.returns
returns c = c.shift_remove.ensures.keys ∙ same_ended c.self.inside.pages.keys c.args.origin ∙ ap (λ pages. without_request pages c.args.origin) c.self.view_is
