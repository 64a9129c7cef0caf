use Rattle.std.proofs.Common.{List}
use Rattle.std.proofs.lemmas.List.{map-append}
use Rattle.std.proofs.lemmas.List.Elements.{Contains-push}
use Rattle.reachable.specs.Reachable.{states_of}
use Rattle.reachable.specs.declared.found.Found.{Found}
use Rattle.reachable.proofs.Walks.{grows-push}
use Rattle.reachable.proofs.walk.add.Goals as goal

pub returns-clause-grows : goal.returns-clause-grows
returns-clause-grows g c =
    let before : List (Found g.row.S.Denot g.row.M.Denot) = c.args.reached.now.found.items in
    rw c.in_ok-push-2.ensures.items
    (grows-push (g.Y.System.next c.args.system.now) c.args.moves.now before c.args.from c.args.step c.args.new c.requires.from c.requires.among
    c.requires.path c.requires.state (λ there. cc (c.holds.ensures.1 there, c.if-holds.false)))

pub returns-clause-there : goal.returns-clause-there
returns-clause-there g c =
    rw (c.in_ok-push-2.ensures.items, map-append) (Contains-push (states_of c.args.reached.now.found.items) c.args.new.state)
