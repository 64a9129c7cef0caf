use Rattle.std.proofs.Common.{◌≡◌, sym, ◌∙◌, subst}
use Rattle.std.proofs.lemmas.Result.{on_ok_weaker}
use Rattle.std.specs.List.{Contains}
use Rattle.reachable.specs.Reachable.{states_of}
use Rattle.reachable.proofs.Walks.{followed-to, has-it}
use Rattle.reachable.proofs.walk.follow_move.Goals as goal

pub returns-in_ok-path-in-Some-clause-there : goal.returns-in_ok-path-in-Some-clause-there
returns-in_ok-path-in-Some-clause-there g c = on_ok_weaker c.add.result (λ there state step.
    let made : c.in-Some.state ≡ g.Y.System.next c.args.system.now c.index.result.now.state c.index-moves-turn.result = rw c.in-Some.is at c.in_ok-state.ensures in
    subst (λ (s : g.row.S.Denot). Contains (states_of c.add.new.reached.found.items) s)
    (made ∙ sym (followed-to (g.Y.System.next c.args.system.now) c.args.reached.now.found.items c.args.moves.now c.args.from c.args.turn c.index.result.now c.index-moves-turn.result state step
    c.requires.from c.requires.turn c.index.ensures c.index-moves-turn.is)) there) c.add.ensures.there

pub returns-in-None-clause-there : goal.returns-in-None-clause-there
returns-in-None-clause-there g c state step =
    let stayed : g.Y.System.next c.args.system.now c.index.result.now.state c.index-moves-turn.result ≡ c.index.result.now.state = rw c.in-None.is at c.in_ok-state.ensures in
    subst (λ (s : g.row.S.Denot). Contains (states_of c.args.reached.now.found.items) s)
    (sym (followed-to (g.Y.System.next c.args.system.now) c.args.reached.now.found.items c.args.moves.now c.args.from c.args.turn c.index.result.now c.index-moves-turn.result state step
    c.requires.from c.requires.turn c.index.ensures c.index-moves-turn.is ∙ stayed))
    (has-it c.args.reached.now.found.items c.args.from c.index.result.now c.requires.from c.index.ensures)
