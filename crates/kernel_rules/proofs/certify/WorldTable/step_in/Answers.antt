use Rattle.std.proofs.Common.{◌≡◌, Option, subst, sym}
use Rattle.std.specs.Prelude.{IfOk}
use Rattle.kernel_rules.specs.Certified.{Place}
use Rattle.kernel_rules.specs.Worlds.{if_made, place_of}
use Rattle.kernel_rules.proofs.Places.{moved_seen}
use Rattle.kernel_rules.proofs.certify.WorldTable.step_in.Goals as goal

pub returns-clause-step : goal.returns-clause-step
returns-clause-step c =
    subst (λ (p : Option Place). IfOk c.step.result (λ ok. p ≡ if_made ok (place_of c.step.new.self)))
    (sym (moved_seen c.args.log.now (place_of c.args.self.now) c.args.step c.seen_at.result c.get-seen.result c.seen_at.ensures c.get-seen.ensures.lookup)) c.step.ensures.step
