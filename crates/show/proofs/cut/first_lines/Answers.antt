use Rattle.std.proofs.Common.{◌≡◌, ◌-◌, ℕ, ap, arith, length, subst, take}
use Rattle.lines.specs.Lines.{Left}
use Rattle.show.specs.Shown.{AreFirst}
use Rattle.show.proofs.Passing.{all_passed, none_passed, one_passed, rest_fits}
use Rattle.show.proofs.cut.first_lines.Goals as goal

pub loop-init : goal.loop-init
loop-init c = rw (ap (λ (l : Left). l.bytes) c.new-lines.ensures) (none_passed c.args.bytes.now)

pub loop-preserved : goal.loop-preserved
loop-preserved c = one_passed c.args.bytes.now c.loop.counter c.loop.lines c.in_ok-next.field-0 c.next.new.self c.loop.invariant c.in_ok-next.ensures.steps

pub slice_bounds-result-count : goal.slice_bounds-result-count
slice_bounds-result-count c = rw c.rest.ensures (rest_fits c.args.bytes.now c.loop.counter c.loop.lines.bytes c.loop.invariant)

pub returns-clause-some : goal.returns-clause-some
returns-clause-some c =
    let done : c.loop.counter ≡ c.args.count = omega (arith, c.loop-test.false, c.loop.auto.counter-end) in
    rw c.rest.ensures
    (subst (λ (n : ℕ). AreFirst n c.args.bytes.now (take (length c.args.bytes.now - length c.loop.lines.bytes) c.args.bytes.now)) done
    (all_passed c.args.bytes.now c.loop.counter c.loop.lines.bytes c.loop.invariant))
