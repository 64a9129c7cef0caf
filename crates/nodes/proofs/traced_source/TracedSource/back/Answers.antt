use Rattle.std.proofs.Common.{rules}
use Rattle.nodes.specs.SourceCalls.{IsReturned}
use Rattle.nodes.proofs.SourceLines.{back-line}
use Rattle.nodes.proofs.traced_source.TracedSource.back.Goals as goal

pub returns-clause-logged : goal.returns-clause-logged
returns-clause-logged c =
    let taken : IsReturned c.args.bytes.now c.args.self.now.node c.in_ok-effect.effect c.back.new.self = search rules in
    back-line c.args.bytes.now c.args.self.now.node c.in_ok-effect.effect c.back.new.self taken
