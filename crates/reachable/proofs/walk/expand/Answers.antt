use Rattle.std.proofs.Common.{◌≤◌, length, arith}
use Rattle.reachable.proofs.Walks.{grows-trans, followed-next, followed-all}
use Rattle.reachable.proofs.walk.expand.Goals as goal

pub loop-turn-preserved : goal.loop-turn-preserved
loop-turn-preserved g c = record {
  hashed = c.in_ok-follow_move.ensures.hashed;
  grows = grows-trans (g.Y.System.next c.args.system.now) c.args.moves.now c.args.reached.now.found.items c.loop-turn.reached.found.items c.follow_move.new.reached.found.items
      c.loop-turn.invariant.grows c.in_ok-follow_move.ensures.grows;
  followed = followed-next (g.Y.System.next c.args.system.now) c.args.moves.now c.args.reached.now.found.items c.loop-turn.reached.found.items c.follow_move.new.reached.found.items
      c.args.from c.loop-turn.turn c.requires.from c.loop-turn.invariant.grows c.in_ok-follow_move.ensures.grows c.loop-turn.invariant.followed c.in_ok-follow_move.ensures.there;
}

pub returns-clause-followed : goal.returns-clause-followed
returns-clause-followed g c =
    let all : length c.args.moves.now ≤ c.loop-turn.turn = omega arith in
    followed-all (g.Y.System.next c.args.system.now) c.args.moves.now c.args.reached.now.found.items c.loop-turn.reached.found.items c.args.from c.loop-turn.turn
    all c.loop-turn.invariant.followed
