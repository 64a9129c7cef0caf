use Rattle.std.proofs.Common.{◌≡◌, Option, subst, sym}
use Rattle.std.specs.Prelude.{IfOk}
use Rattle.kernel_rules.specs.Certified.{Place, find_of, moved_by, protected_by}
use Rattle.kernel_rules.specs.Faults.{leaves, queues, sees}
use Rattle.kernel_rules.specs.MapCalls.{clears, drops, tells}
use Rattle.kernel_rules.specs.Held.{kernel_of}
use Rattle.kernel_rules.specs.Worlds.{event_seen, if_made, place_of}
use Rattle.kernel_rules.proofs.Places.{clears_moved, drops_moved, effect_moved, kernel_step, leaves_moved, line_moved, protects_moved, queues_moved, reads_moved, refuses_moved, rule_step, sees_moved, starts_moved, tells_moved}
use Rattle.kernel_rules.proofs.certify.WorldTable.step.Goals as goal

pub returns-in-Line-clause-step : goal.returns-in-Line-clause-step
returns-in-Line-clause-step c =
    subst (λ (p : Option Place). IfOk c.line.result (λ ok. p ≡ if_made ok (place_of c.line.new.self))) (sym (line_moved (event_seen c.args.seen) (place_of c.args.self.now) c.args.step c.in-Line.is))
    c.line.ensures.step

pub returns-in-Effect-clause-step : goal.returns-in-Effect-clause-step
returns-in-Effect-clause-step c =
    subst (λ (p : Option Place). IfOk c.effect.result (λ ok. p ≡ if_made ok (place_of c.effect.new.self)))
    (sym (effect_moved (event_seen c.args.seen) (place_of c.args.self.now) c.args.step c.in-Effect.key c.in-Effect.at c.in-Effect.is)) c.effect.ensures.step

pub returns-in-Refuses-clause-step : goal.returns-in-Refuses-clause-step
returns-in-Refuses-clause-step c =
    subst (λ (p : Option Place). IfOk c.effect-in-Refuses.result (λ ok. p ≡ if_made ok (place_of c.effect-in-Refuses.new.self)))
    (sym (refuses_moved (event_seen c.args.seen) (place_of c.args.self.now) c.args.step c.in-Refuses.key c.in-Refuses.at c.in-Refuses.is)) c.effect-in-Refuses.ensures.step

pub returns-in-Starts-clause-step : goal.returns-in-Starts-clause-step
returns-in-Starts-clause-step c =
    subst (λ (p : Option Place). IfOk c.effect-in-Starts.result (λ ok. p ≡ if_made ok (place_of c.effect-in-Starts.new.self)))
    (sym (starts_moved (event_seen c.args.seen) (place_of c.args.self.now) c.args.step c.in-Starts.key c.in-Starts.at c.in-Starts.is)) c.effect-in-Starts.ensures.step

pub returns-in-Reads-clause-step : goal.returns-in-Reads-clause-step
returns-in-Reads-clause-step c =
    subst (λ (p : Option Place). IfOk c.next.result (λ ok. p ≡ if_made ok (place_of c.next.new.self)))
    (sym (reads_moved (event_seen c.args.seen) (place_of c.args.self.now) c.args.step c.in-Reads.key c.in-Reads.at c.in-Reads.is)) c.next.ensures.step

pub returns-in-Sees-clause-step : goal.returns-in-Sees-clause-step
returns-in-Sees-clause-step c =
    rule_step c.args.self.now c.sees.new.self (sees (kernel_of c.args.self.now.kernel) c.in-Sees.thread c.in-Sees.object c.in-Sees.page c.in-Sees.flags)
    (moved_by (event_seen c.args.seen) (place_of c.args.self.now) c.args.step) c.sees.result
    (sees_moved (event_seen c.args.seen) (place_of c.args.self.now) c.args.step c.in-Sees.thread c.in-Sees.object c.in-Sees.page c.in-Sees.flags c.in-Sees.is) c.sees.ensures.step

pub returns-in-Queues-clause-step : goal.returns-in-Queues-clause-step
returns-in-Queues-clause-step c =
    rule_step c.args.self.now c.queues.new.self (queues (kernel_of c.args.self.now.kernel) c.in-Queues.thread) (moved_by (event_seen c.args.seen) (place_of c.args.self.now) c.args.step) c.queues.result
    (queues_moved (event_seen c.args.seen) (place_of c.args.self.now) c.args.step c.in-Queues.thread c.in-Queues.is) c.queues.ensures.step

pub returns-in-Leaves-clause-step : goal.returns-in-Leaves-clause-step
returns-in-Leaves-clause-step c =
    rule_step c.args.self.now c.leaves.new.self (leaves (kernel_of c.args.self.now.kernel) c.in-Leaves.thread) (moved_by (event_seen c.args.seen) (place_of c.args.self.now) c.args.step) c.leaves.result
    (leaves_moved (event_seen c.args.seen) (place_of c.args.self.now) c.args.step c.in-Leaves.thread c.in-Leaves.is) c.leaves.ensures.step

pub returns-in-Tells-clause-step : goal.returns-in-Tells-clause-step
returns-in-Tells-clause-step c =
    rule_step c.args.self.now c.tells.new.self (tells (kernel_of c.args.self.now.kernel) c.in-Tells.key) (moved_by (event_seen c.args.seen) (place_of c.args.self.now) c.args.step) c.tells.result
    (tells_moved (event_seen c.args.seen) (place_of c.args.self.now) c.args.step c.in-Tells.key c.in-Tells.is) (rw c.from.ensures at c.tells.ensures.step)

pub returns-in-Clears-clause-step : goal.returns-in-Clears-clause-step
returns-in-Clears-clause-step c =
    rule_step c.args.self.now c.clears.new.self (clears (kernel_of c.args.self.now.kernel) c.in-Clears.key) (moved_by (event_seen c.args.seen) (place_of c.args.self.now) c.args.step) c.clears.result
    (clears_moved (event_seen c.args.seen) (place_of c.args.self.now) c.args.step c.in-Clears.key c.in-Clears.is) (rw c.from-in-Clears.ensures at c.clears.ensures.step)

pub returns-in-Drops-clause-step : goal.returns-in-Drops-clause-step
returns-in-Drops-clause-step c =
    rule_step c.args.self.now c.drops.new.self (drops (kernel_of c.args.self.now.kernel) c.in-Drops.object c.in-Drops.page) (moved_by (event_seen c.args.seen) (place_of c.args.self.now) c.args.step) c.drops.result
    (drops_moved (event_seen c.args.seen) (place_of c.args.self.now) c.args.step c.in-Drops.object c.in-Drops.page c.in-Drops.is) c.drops.ensures.step

pub returns-in-Protects-clause-step : goal.returns-in-Protects-clause-step
returns-in-Protects-clause-step c =
    kernel_step c.args.self.now c.protects.new.self (protected_by (kernel_of c.args.self.now.kernel) (find_of c.args.self.now.begun.items c.in-Protects.key) c.in-Protects.page)
    (moved_by (event_seen c.args.seen) (place_of c.args.self.now) c.args.step) c.protects.result
    (protects_moved (event_seen c.args.seen) (place_of c.args.self.now) c.args.step c.in-Protects.key c.in-Protects.page c.in-Protects.is) c.protects.ensures.same c.protects.ensures.step
