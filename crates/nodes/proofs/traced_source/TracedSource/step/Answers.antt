use Rattle.std.proofs.Common.{◌≡◌, rules}
use Rattle.mig_model.specs.NodeSteps.{acted}
use Rattle.nodes.specs.SourceCalls.{answer}
use Rattle.nodes.proofs.SourceLines.{step-line}
use Rattle.nodes.proofs.traced_source.TracedSource.step.Goals as goal

pub returns-clause-logged : goal.returns-clause-logged
returns-clause-logged c =
    let made : answer c.args.step c.args.self.now.node ≡ acted c.in_ok-effect.effect c.step.new.self = search rules in
    step-line c.args.step c.args.self.now.node c.in_ok-effect.effect c.step.new.self made
