use Rattle.std.proofs.Common.{◌≡◌, Err, sym, subst, ◌∙◌}
use Rattle.std.proofs.lemmas.Result.{err_from_is_err_and}
use Rattle.std.specs.Int.{w32}
use Rattle.frame_decoder.specs.declared.fault.StreamFault.TheVariants as faults
use Rattle.frame_decoder.specs.Reading.{FailsToRead, number_in}
use Rattle.frame_decoder.proofs.HeadLemmas.{run_body, run_body_bad, run_body_cut, run_body_other}
use Rattle.frame_decoder.proofs.head.read_run_head.Goals as goal
use Rattle.frame_decoder.proofs.head.read_run_head.Goals.{then-not-is_page_run-via-then-not-is_page_run, then-not-is_page_run-via-else-not-is_page_run+then-bytes-count}

pub returns-in_err-first-clause-head : goal.returns-in_err-first-clause-head
returns-in_err-first-clause-head c =
    let p = err_from_is_err_and c.from_residual.result c.from_residual.ensures.1 in
    let bad : number_in w32 c.args.body.now ≡ Err faults.BadField = subst (λ f. FailsToRead f (number_in w32 c.args.body.now)) c.in_err-first.ensures.fault c.in_err-first.ensures.gives in
    rw (p.1, p.2, c.in_err-first.ensures.fault) (run_body_bad c.args.version c.args.body.now bad)

pub returns-in_err-count-clause-head : goal.returns-in_err-count-clause-head
returns-in_err-count-clause-head c =
    let p = err_from_is_err_and c.from_residual-in_err-count.result c.from_residual-in_err-count.ensures.1 in
    let rest = c.in_ok-first.rest.now in
    let bad : number_in w32 rest ≡ Err faults.BadField = subst (λ f. FailsToRead f (number_in w32 rest)) c.in_err-count.ensures.fault c.in_err-count.ensures.gives in
    rw (p.1, p.2, c.in_err-count.ensures.fault) (run_body_cut c.args.version c.args.body.now rest c.in_ok-first.first c.in_ok-first.ensures.gives bad)

pub returns-then-not-is_page_run-clause-head : goal.returns-then-not-is_page_run-clause-head
returns-then-not-is_page_run-clause-head c =
    run_body_other c.args.version c.args.body.now c.in_ok-first.rest.now c.in_ok-count.bytes.now c.in_ok-first.first c.in_ok-count.count c.in_ok-first.ensures.gives c.in_ok-count.ensures.gives
    (λ right long. elim c.then-not-is_page_run.branch [
      | then-not-is_page_run-via-then-not-is_page_run w ↦ absurd (let other = sym w.if-not-is_page_run.true ∙ c.is_page_run.ensures ∙ right in cc)
      | then-not-is_page_run-via-else-not-is_page_run+then-bytes-count w ↦ w.if-bytes-count.true long
    ])

pub returns-clause-head : goal.returns-clause-head
returns-clause-head c =
    run_body c.args.version c.args.body.now c.in_ok-first.rest.now c.in_ok-count.bytes.now c.in_ok-first.first c.in_ok-count.count c.in_ok-first.ensures.gives c.in_ok-count.ensures.gives
    (sym c.is_page_run.ensures ∙ c.if-not-is_page_run.false) c.if-bytes-count.false
