use Rattle.std.proofs.Common.{◌<◌, ◌≤◌, length, arith}
use Rattle.reachable.proofs.Walks.{longer, followed-more, followed-whole, all-found}
use Rattle.reachable.proofs.walk.reach.Goals as goal

pub loop-at-init : goal.loop-at-init
loop-at-init g c = record {
  hashed = c.in_ok-reached.ensures.hashed;
  sound = c.in_ok-reached.ensures.sound c.args.moves.now;
  within = omega arith;
  followed = λ state step none among. absurd (omega (arith, none.1));
}

pub loop-at-preserved : goal.loop-at-preserved
loop-at-preserved g c =
    let within : c.loop-at.at < length c.loop-at.reached.found.items = omega arith in
    let still_within : c.loop-at.at < length c.expand.new.reached.found.items =
    longer (g.Y.System.next c.args.system.now) c.args.moves.now c.loop-at.reached.found.items c.expand.new.reached.found.items c.loop-at.at c.in_ok-expand.ensures.grows within in
    record {
      hashed = c.in_ok-expand.ensures.hashed;
      sound = c.in_ok-expand.ensures.grows.sound c.args.first c.loop-at.invariant.sound;
      within = omega (arith, still_within);
      followed = followed-more (g.Y.System.next c.args.system.now) c.args.moves.now c.loop-at.reached.found.items c.expand.new.reached.found.items c.loop-at.at
          c.in_ok-expand.ensures.grows within c.loop-at.invariant.followed c.in_ok-expand.ensures.followed;
    }

pub returns : goal.returns
returns g c =
    let all : length c.loop-at.reached.found.items ≤ c.loop-at.at = omega arith in
    all-found (g.Y.System.next c.args.system.now) c.args.moves.now c.args.first c.loop-at.reached.found.items c.loop-at.invariant.sound
    (followed-whole (g.Y.System.next c.args.system.now) c.args.moves.now c.loop-at.reached.found.items c.loop-at.at all c.loop-at.invariant.followed)
