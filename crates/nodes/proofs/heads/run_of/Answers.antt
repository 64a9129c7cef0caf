use Rattle.std.proofs.Common.{arith, sym, ◌∙◌}
use Rattle.nodes.proofs.HeadLemmas.{other_bytes, run_again, run_count, run_first, run_length}
use Rattle.nodes.proofs.heads.run_of.Goals as goal
use Rattle.nodes.proofs.heads.run_of.Goals.{then-count-lt1-via-then-count-lt1, then-count-lt1-via-else-count-lt1+then-from-count, then-count-lt1-via-else-count-lt1+else-from-count+then-first-count}

pub returns-then-bytes-ne20-clause-none : goal.returns-then-bytes-ne20-clause-none
returns-then-bytes-ne20-clause-none c epoch first count is = c.if-bytes-ne20.true (run_length c.args.bytes.now epoch first count is.head)

pub returns-then-first-lt-LOW_PAGE-clause-none : goal.returns-then-first-lt-LOW_PAGE-clause-none
returns-then-first-lt-LOW_PAGE-clause-none c epoch first count is =
    let number = run_first c.args.bytes.now epoch first count is.head (omega (arith, is.in_space)) in
    omega (arith, number, is.in_space, c.number_at-first.ensures, c.then-first-lt-LOW_PAGE.either)

pub returns-then-count-lt1-clause-none : goal.returns-then-count-lt1-clause-none
returns-then-count-lt1-clause-none c epoch first count is =
    let one = run_first c.args.bytes.now epoch first count is.head (omega (arith, is.in_space)) in
    let many = run_count c.args.bytes.now epoch first count is.head (omega (arith, is.few)) in
    elim c.then-count-lt1.branch [
      | then-count-lt1-via-then-count-lt1 w ↦ omega (arith, many, is.some, c.number_at-count.ensures, w.if-count-lt1.true)
      | then-count-lt1-via-else-count-lt1+then-from-count w ↦ omega (arith, many, is.few, c.number_at-count.ensures, w.from.ensures, w.if-from-count.true)
      | then-count-lt1-via-else-count-lt1+else-from-count+then-first-count w ↦ omega (arith, one, many, is.last, c.number_at-first.ensures, c.number_at-count.ensures, w.if-first-count.true)
    ]

pub returns-then-ne-clause-none : goal.returns-then-ne-clause-none
returns-then-ne-clause-none c epoch first count is =
    other_bytes c.args.bytes.now c.as_slice.result.now (sym c.if-ne.ensures)
    (run_again c.args.bytes.now c.run_head.result epoch first count c.number_at-epoch.result c.number_at-first.result c.number_at-count.result is c.number_at-epoch.ensures c.number_at-first.ensures c.number_at-count.ensures
    c.run_head.ensures
    ∙ sym c.as_slice.ensures)
