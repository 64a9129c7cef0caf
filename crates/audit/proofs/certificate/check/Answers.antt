use Rattle.std.proofs.Common.{◌≡◌, Some, None, length, arith, refl, sym}
use Rattle.kernel_rules.specs.Certified.{IsCertified, fresh_place}
use Rattle.kernel_rules.specs.Held.{kernel_of}
use Rattle.kernel_rules.specs.Worlds.{place_of}
use Rattle.kernel_rules.proofs.Laws.{certified_none, certified_run, certified_short, certified_some}
use Rattle.audit.specs.declared.certificate.Totals.{Totals}
use Rattle.audit.proofs.Certificates.{may_be, none_found, reached_first, some_found}
use Rattle.audit.proofs.certificate.check.Goals as goal

pub make_all-requires-clause-reached : goal.make_all-requires-clause-reached
make_all-requires-clause-reached c = reached_first c.args.entries.now (place_of c.new-world.result) c.new-world.ensures.fresh

pub returns-then-not-branch-clause-exact : goal.returns-then-not-branch-clause-exact
returns-then-not-branch-clause-exact c =
    let led = c.in_ok-make_all.ensures.run in
    (led.0, none_found c.args.entries.now led.0 None (sym (certified_none c.args.entries.now led.0 fresh_place (place_of c.make_all.new.world) c.in_ok-make_all.field-0 refl led.1 c.if-not-branch.true)) refl)

pub returns-then-world-count-clause-exact : goal.returns-then-world-count-clause-exact
returns-then-world-count-clause-exact c =
    let led = c.in_ok-make_all.ensures.run in (
      led.0,
      none_found c.args.entries.now led.0 None
          (sym (certified_short c.args.entries.now led.0 fresh_place (place_of c.make_all.new.world) c.in_ok-make_all.field-0 refl led.1 c.if-not-branch.false (rw c.len-count.ensures at c.if-world-count.true))) refl,
    )

pub returns-clause-run : goal.returns-clause-run
returns-clause-run c =
    let led = c.in_ok-make_all.ensures.run in
    let totals : Totals = record { owed = c.len.result; twice = c.len-2.result } in
    let made : IsCertified c.args.entries.now led.0 (kernel_of c.make_all.new.world.kernel) =
    certified_run c.args.entries.now led.0 (kernel_of c.make_all.new.world.kernel)
    (certified_some c.args.entries.now led.0 fresh_place (place_of c.make_all.new.world) c.in_ok-make_all.field-0 refl led.1 c.if-not-branch.false (rw c.len-count.ensures at c.if-world-count.false))
    in
    let owed : c.len.result ≡ length c.finish.new.self.owed.items = omega (arith, c.len.ensures, c.finish.new.self.owed.ok.0) in
    let twice : c.len-2.result ≡ length c.finish.new.self.twice.items = omega (arith, c.len-2.ensures, c.finish.new.self.twice.ok.0) in
    may_be c.args.entries.now led.0 c.make_all.new.world.kernel c.finish.new.self totals made c.in_ok-finish.ensures.finished owed twice

pub returns-clause-exact : goal.returns-clause-exact
returns-clause-exact c =
    let led = c.in_ok-make_all.ensures.run in
    let owed : c.len.result ≡ length c.finish.new.self.owed.items = omega (arith, c.len.ensures, c.finish.new.self.owed.ok.0) in
    let twice : c.len-2.result ≡ length c.finish.new.self.twice.items = omega (arith, c.len-2.ensures, c.finish.new.self.twice.ok.0) in (
      led.0,
      some_found c.args.entries.now led.0 (Some c.make_all.new.world.kernel) c.make_all.new.world.kernel c.finish.new.self c.len.result c.len-2.result
          (sym (certified_some c.args.entries.now led.0 fresh_place (place_of c.make_all.new.world) c.in_ok-make_all.field-0 refl led.1 c.if-not-branch.false (rw c.len-count.ensures at c.if-world-count.false))) refl
          c.in_ok-finish.ensures.finished owed twice,
    )
