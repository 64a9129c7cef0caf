use Rattle.wiretap.proofs.OneLine.{closes_running, ends_line}
use Rattle.wiretap.proofs.Whole.{on_ok}
use Rattle.wiretap.proofs.run.finish.Goals as goal

pub write_put-requires : goal.write_put-requires
write_put-requires g c = closes_running c.args.script.now c.finish.new.self.work _ _ _ _ _ c.requires.runs c.in_ok-finish.ensures.ok.1

pub returns : goal.returns
returns g c =
    on_ok _ _ _
    (λ gets.
    ends_line g.T.Write.contents c.args.script.now c.finish.new.self.work c.in_ok-finish.ensures.ok.0 _ _ _ _ c.in_ok-before.before c.in_ok-finish.ensures.ok.1 c.requires.runs c.requires.open c.in_ok-before.ensures gets)
    c.write_put.ensures
