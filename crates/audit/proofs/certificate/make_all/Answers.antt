use Rattle.std.proofs.Common.{◌≡◌}
use Rattle.kernel_rules.specs.Certified.{moved}
use Rattle.kernel_rules.specs.Worlds.{if_made, place_of}
use Rattle.audit.proofs.Certificates.{reached_more, refused_more, seen_moved}
use Rattle.audit.proofs.certificate.make_all.Goals as goal

pub loop-init : goal.loop-init
loop-init c = (c.requires.tables, c.requires.reached)

pub loop-preserved : goal.loop-preserved
loop-preserved c =
    let is : moved c.args.entries.now (place_of c.loop.world) c.in-Some.step ≡ if_made c.in_ok-step.field-0 (place_of c.step.new.self) =
    seen_moved c.args.entries.now (place_of c.loop.world) (place_of c.step.new.self) c.in-Some.step c.in_ok-step.field-0 c.seen_at.result c.in_ok-seen.seen c.as_ref.result c.seen_at.ensures c.in_ok-seen.ensures
    c.as_ref.ensures.value c.in_ok-step.ensures.step
    in (
      c.step.ensures.tables,
      reached_more c.args.entries.now (place_of c.loop.world) (place_of c.step.new.self) c.in-Some.step c.in_ok-step.field-0 c.loop.invariant.1 is c.if-not-branch.false,
    )

pub returns-in_default-clause-run : goal.returns-in_default-clause-run
returns-in_default-clause-run c = c.loop.invariant.1

pub returns-then-not-branch-clause-run : goal.returns-then-not-branch-clause-run
returns-then-not-branch-clause-run c =
    let is : moved c.args.entries.now (place_of c.loop.world) c.in-Some.step ≡ if_made c.in_ok-step.field-0 (place_of c.step.new.self) =
    seen_moved c.args.entries.now (place_of c.loop.world) (place_of c.step.new.self) c.in-Some.step c.in_ok-step.field-0 c.seen_at.result c.in_ok-seen.seen c.as_ref.result c.seen_at.ensures c.in_ok-seen.ensures
    c.as_ref.ensures.value c.in_ok-step.ensures.step
    in refused_more c.args.entries.now (place_of c.loop.world) (place_of c.step.new.self) c.in-Some.step c.in_ok-step.field-0 c.loop.invariant.1 is c.if-not-branch.true

pub returns-clause-run : goal.returns-clause-run
returns-clause-run c = c.loop.invariant.1
