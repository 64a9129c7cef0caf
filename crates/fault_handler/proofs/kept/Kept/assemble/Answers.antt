use Rattle.std.proofs.Common.{◌∙◌, ap}
use Rattle.std.specs.FinMap.{contains_key}
use Rattle.std.specs.FinSet as set
use Rattle.mig_model.specs.Destination.{assembled}
use Rattle.mig_model.specs.Ioctls.{event_features}
use Rattle.mig_base.specs.Userfault.{enabled_with, fresh_object, registered_where}
use Rattle.mig_model.proofs.memory.HandlerCalls.{missing_mode}
use Rattle.fault_handler.proofs.KeptLemmas.{kept_nothing}
use Rattle.fault_handler.proofs.kept.Kept.assemble.Goals as goal

pub invariant_of-self : goal.invariant_of-self
invariant_of-self c = kept_nothing c.replace-pages.new.dest c.new-in-Ok.result (ap (λ p. p.bytes) c.replace-pages.ensures.after ∙ c.new.ensures.0) (ap (λ p. p.protected) c.replace-pages.ensures.after ∙ c.new.ensures.1) c.new-in-Ok.ensures

pub returns-in-Ok-clause-ok : goal.returns-in-Ok-clause-ok
returns-in-Ok-clause-ok c = c.in-Ok.ensures.ok ∙ ap (λ mode. record { host = record { areas = c.args.areas; bytes = c.replace-pages.result.bytes }; protected = set.empty; object = registered_where (enabled_with fresh_object event_features) (λ page. contains_key c.args.areas page) mode }) missing_mode ∙ ap (assembled c.args.areas) (ap (λ p. p.bytes) c.replace-pages.ensures.value ∙ c.self.view_is)
