use Rattle.std.proofs.Common.{◌≡◌, ◌≤◌, ◌+◌, arith, subst}
use Rattle.explore.specs.Explorations.{Going}
use Rattle.explore.proofs.Going.{going_added, going_gone, going_cut, going_stops, are_few, on_err, ended_ok, ended_fault}
use Rattle.explore.proofs.run.write_script.Goals as goal

pub returns-in_err-add_order-clause-fault : goal.returns-in_err-add_order-clause-fault
returns-in_err-add_order-clause-fault g c =
    let few : c.loop.counter ≤ c.args.plan.now.steps = omega (arith, c.loop.auto.counter-end) in
    on_err _ _ (going_stops _ _ _ _ _ _ _ _ _ c.loop.invariant (are_few _ _ _ few))

pub returns-in_err-flush_much-clause-fault : goal.returns-in_err-flush_much-clause-fault
returns-in_err-flush_much-clause-fault g c =
    let few : c.loop.counter + 1 ≤ c.args.plan.now.steps = omega (arith, c.loop-test.true) in
    on_err _ _ (going_cut _ _ _ _ _ _ _ _ _ _ (going_added _ _ _ _ _ _ _ _ _ c.loop.invariant c.in_ok-add_order.ensures) (are_few _ _ _ few) c.in_err-flush_much.ensures.front)

pub loop-preserved : goal.loop-preserved
loop-preserved g c = going_gone _ _ _ _ _ _ _ _ _ (going_added _ _ _ _ _ _ _ _ _ c.loop.invariant c.in_ok-add_order.ensures) c.in_ok-flush_much.ensures.ok

pub returns-clause-ok : goal.returns-clause-ok
returns-clause-ok g c =
    let all : c.loop.counter ≡ c.args.plan.now.steps = omega (arith, c.loop.auto.counter-end, c.loop-test.false) in
    let going = subst (λ n. Going c.args.plan.now.answers c.args.world.now n c.loop.world (g.W.Write.contents c.args.writer.now) (g.W.Write.contents c.loop.writer) c.loop.sheet.output.items) all c.loop.invariant in
    ended_ok _ _ _ _ _ _ _ _ _ _ _ going c.write_end.ensures.ok

pub returns-clause-fault : goal.returns-clause-fault
returns-clause-fault g c =
    let all : c.loop.counter ≡ c.args.plan.now.steps = omega (arith, c.loop.auto.counter-end, c.loop-test.false) in
    let going = subst (λ n. Going c.args.plan.now.answers c.args.world.now n c.loop.world (g.W.Write.contents c.args.writer.now) (g.W.Write.contents c.loop.writer) c.loop.sheet.output.items) all c.loop.invariant in
    ended_fault _ _ _ _ _ _ _ _ _ _ going c.write_end.ensures.fault
