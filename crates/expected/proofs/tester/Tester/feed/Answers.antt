use Rattle.std.proofs.Common.{◌∷◌, true, false, length, ap, arith, length-append}
use Rattle.std.proofs.lemmas.Result.{err_from_is_err_and}
use Rattle.lines.proofs.Cuts.{ended_cut, line_cut}
use Rattle.expected.proofs.Pieces.{fed_line, fed_fault, fed_unmet, fed_all}
use Rattle.expected.proofs.tester.Tester.feed.Goals as goal

pub returns-in_err-hold-clause-fault : goal.returns-in_err-hold-clause-fault
returns-in_err-hold-clause-fault c =
    let p = err_from_is_err_and c.from_residual.result c.from_residual.ensures.1 in
    let cut = line_cut c.loop-line.line-iterator c.in-Some.line c.next.new.self false c.in-Some.ensures.steps c.if-not-line.true in
    rw (p.1, p.2)
    (λ cpus front ran.
    let fed = c.loop-line.invariant.fed cpus front ran in
    fed_fault cpus front c.args.bytes.now c.loop-line.line-iterator.bytes _ c.next.new.self.bytes c.loop-line.self _ fed cut (c.in_err-hold.ensures.fault cpus _ fed.ran))

pub returns-in_err-end_line-clause-fault : goal.returns-in_err-end_line-clause-fault
returns-in_err-end_line-clause-fault c =
    let p = err_from_is_err_and c.from_residual-in_err-end_line.result c.from_residual-in_err-end_line.ensures.1 in
    let cut = line_cut c.loop-line.line-iterator c.in-Some.line c.next.new.self true c.in-Some.ensures.steps c.if-not-line.false in
    rw (p.1, p.2)
    (λ cpus front ran.
    let fed = c.loop-line.invariant.fed cpus front ran in
    fed_fault cpus front c.args.bytes.now c.loop-line.line-iterator.bytes _ c.next.new.self.bytes c.loop-line.self _ fed cut (c.in_err-end_line.ensures.fault cpus _ fed.ran))

pub returns-in-Differs-clause-ok : goal.returns-in-Differs-clause-ok
returns-in-Differs-clause-ok c = λ cpus front ran.
    let fed = c.loop-line.invariant.fed cpus front ran in
    let cut = line_cut c.loop-line.line-iterator c.in-Some.line c.next.new.self true c.in-Some.ensures.steps c.if-not-line.false in
    fed_unmet c.args.name.now cpus front c.args.bytes.now c.loop-line.line-iterator.bytes _ c.next.new.self.bytes _ _ c.loop-line.self fed cut ((rw c.in-Differs.is at c.in_ok-end_line.ensures.ok) cpus _ fed.ran)

pub loop-line-preserved-in-Continue-1 : goal.loop-line-preserved-in-Continue-1
loop-line-preserved-in-Continue-1 c =
    let cut = line_cut c.loop-line.line-iterator c.in-Some.line c.next.new.self false c.in-Some.ensures.steps c.if-not-line.true in
    record {
      fed = λ cpus front ran.
          let fed = c.loop-line.invariant.fed cpus front ran in
          fed_line cpus front c.args.bytes.now c.loop-line.line-iterator.bytes _ c.next.new.self.bytes c.loop-line.self c.hold.new.self fed cut (c.in_ok-hold.ensures.ok cpus _ fed.ran);
      number = omega (arith, c.loop-line.invariant.number, c.in_ok-hold.ensures.number, ap length cut, length-append c.in-Some.line.raw.now c.next.new.self.bytes);
    }

pub loop-line-preserved : goal.loop-line-preserved
loop-line-preserved c =
    let next = c.in-Some.ensures.steps in
    let cut = line_cut c.loop-line.line-iterator c.in-Some.line c.next.new.self true next c.if-not-line.false in
    record {
      fed = λ cpus front ran.
          let fed = c.loop-line.invariant.fed cpus front ran in
          fed_line cpus front c.args.bytes.now c.loop-line.line-iterator.bytes _ c.next.new.self.bytes c.loop-line.self c.end_line.new.self fed cut ((rw c.in_default.is at c.in_ok-end_line.ensures.ok) cpus _ fed.ran);
      number = omega (arith, c.loop-line.invariant.number, c.in_ok-end_line.ensures.number, ap length (ended_cut c.loop-line.line-iterator c.in-Some.line c.next.new.self next c.if-not-line.false), length-append c.in-Some.line.raw.now (10 ∷ c.next.new.self.bytes));
    }

pub returns-clause-ok : goal.returns-clause-ok
returns-clause-ok c = λ cpus front ran. fed_all cpus front c.args.bytes.now c.loop-line.line-iterator.bytes c.loop-line.self (c.loop-line.invariant.fed cpus front ran) c.in-None.ensures.steps.0
