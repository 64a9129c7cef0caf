use Rattle.std.proofs.Common.{◌≡◌, length, Err, ap, subst, arith}
use Rattle.std.proofs.lemmas.List.{length-drop}
use Rattle.std.proofs.lemmas.Result.{err_from_is_err_and}
use Rattle.frame_decoder.specs.declared.fault.StreamFault.TheVariants as faults
use Rattle.frame_decoder.specs.Reading.{FailsToRead, page_in}
use Rattle.frame_decoder.proofs.HeadLemmas.{page_body, page_body_bad, page_body_long, page_rest}
use Rattle.frame_decoder.proofs.head.read_page_head.Goals as goal

pub returns-in_err-page-clause-head : goal.returns-in_err-page-clause-head
returns-in_err-page-clause-head c =
    let p = err_from_is_err_and c.from_residual.result c.from_residual.ensures.1 in
    let bad : page_in c.args.body.now ≡ Err faults.BadField = subst (λ f. FailsToRead f (page_in c.args.body.now)) c.in_err-page.ensures.fault c.in_err-page.ensures.gives in
    rw (p.1, p.2, c.in_err-page.ensures.fault) (page_body_bad c.args.version c.args.body.now bad)

pub returns-then-bytes-ne-PAGE_BYTES-clause-head : goal.returns-then-bytes-ne-PAGE_BYTES-clause-head
returns-then-bytes-ne-PAGE_BYTES-clause-head c =
    page_body_long c.args.version c.args.body.now c.in_ok-page.bytes.now c.in_ok-page.page c.in_ok-page.ensures.gives c.if-bytes-ne-PAGE_BYTES.true

pub returns-clause-head : goal.returns-clause-head
returns-clause-head c = page_body c.args.version c.args.body.now c.in_ok-page.bytes.now c.in_ok-page.page c.in_ok-page.ensures.gives c.if-bytes-ne-PAGE_BYTES.false

pub returns-clause-len : goal.returns-clause-len
returns-clause-len c =
    let rest = ap length (page_rest c.args.body.now c.in_ok-page.bytes.now c.in_ok-page.page c.in_ok-page.ensures.gives) in
    omega (arith, rest, c.if-bytes-ne-PAGE_BYTES.false, length-drop 4 c.args.body.now)
