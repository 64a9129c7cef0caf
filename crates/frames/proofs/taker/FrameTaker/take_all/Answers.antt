use Rattle.std.proofs.Common.{rules, length}
use Rattle.std.proofs.lemmas.Iterator.Adapters.{YieldsList-from_vec}
use Rattle.std.proofs.lemmas.Iterator.Consumers.{YieldsList-so_far, YieldsList-turn}
use Rattle.std.proofs.lemmas.Result.{err_from_is_err_and}
use Rattle.frames.proofs.Handing.{frame_at, handed_one, handed_some}
use Rattle.frames.proofs.taker.FrameTaker.take_all.Goals as goal

pub take-requires : goal.take-requires
take-requires c =
    frame_at c.args.frames.items (length c.loop-epoch.yielded) (c.in-Some.epoch, c.in-Some.frame) c.requires
    (YieldsList-turn (YieldsList-from_vec {s = c.into_iter-epoch-iterator.result} c.args.frames.items (search rules) (search rules)) c.loop-epoch.yielded c.loop-epoch.epoch-iterator c.loop-epoch.yielded_by c.next.result c.next.new.self
    (c.in-Some.epoch, c.in-Some.frame) c.in-Some.is c.next.ensures.steps)

pub loop-epoch-preserved : goal.loop-epoch-preserved
loop-epoch-preserved c =
    handed_one c.args.self.now.destination c.args.self.now.output.items c.args.self.now.refused c.loop-epoch.yielded c.loop-epoch.self.destination c.take.new.self.destination _ _ _ _ (c.in-Some.epoch, c.in-Some.frame)
    c.loop-epoch.invariant c.in_ok-take.ensures.destination c.in_ok-take.ensures.line c.in_ok-take.ensures.count

pub returns-in_err-take-clause-err : goal.returns-in_err-take-clause-err
returns-in_err-take-clause-err c =
    let p = err_from_is_err_and c.from_residual.result c.from_residual.ensures.1 in
    rw p.1
    (handed_some c.args.self.now.destination c.args.self.now.output.items c.args.self.now.refused c.args.frames.items c.loop-epoch.yielded c.loop-epoch.self.destination _ _ _
    (YieldsList-so_far (YieldsList-from_vec {s = c.into_iter-epoch-iterator.result} c.args.frames.items (search rules) (search rules)) c.loop-epoch.yielded c.loop-epoch.epoch-iterator c.loop-epoch.yielded_by)
    c.loop-epoch.invariant c.in_err-take.ensures.err)
