use Rattle.std.proofs.Common.{arith, sym, ◌∙◌}
use Rattle.nodes.proofs.HeadLemmas.{other_bytes, page_again, page_length, page_number}
use Rattle.nodes.proofs.heads.page_of.Goals as goal

pub returns-then-bytes-ne16-clause-none : goal.returns-then-bytes-ne16-clause-none
returns-then-bytes-ne16-clause-none c epoch page is = c.if-bytes-ne16.true (page_length c.args.bytes.now epoch page is.head)

pub returns-then-page-lt-LOW_PAGE-clause-none : goal.returns-then-page-lt-LOW_PAGE-clause-none
returns-then-page-lt-LOW_PAGE-clause-none c epoch page is =
    let number = page_number c.args.bytes.now epoch page is.head (omega (arith, is.in_space)) in
    omega (arith, number, is.in_space, c.number_at-page.ensures, c.then-page-lt-LOW_PAGE.either)

pub returns-then-ne-clause-none : goal.returns-then-ne-clause-none
returns-then-ne-clause-none c epoch page is =
    other_bytes c.args.bytes.now c.as_slice.result.now (sym c.if-ne.ensures)
    (page_again c.args.bytes.now c.page_head.result epoch page c.number_at-epoch.result c.number_at-page.result is c.number_at-epoch.ensures c.number_at-page.ensures c.page_head.ensures
    ∙ sym c.as_slice.ensures)
