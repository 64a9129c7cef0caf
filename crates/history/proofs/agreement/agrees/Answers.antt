use Rattle.std.proofs.Common.{◌≡◌, ◌+◌, ◌<◌, refl, sym, ap, ◌∙◌, subst, arith, get_or, set}
use Rattle.std.proofs.lemmas.Bool.{OnTrue_at}
use Rattle.std.proofs.lemmas.List.{get_or_default, length-set}
use Rattle.history.specs.declared.operation.Operation.{Operation}
use Rattle.history.proofs.Agreeing.{Agrees, Follows, no_operation, none_agree, one_more}
use Rattle.history.proofs.agreement.agrees.Goals as goal

pub loop-operation-init : goal.loop-operation-init
loop-operation-init c = record { agree = none_agree _ _ _; room = refl; room_too = refl }

pub loop-operation-preserved : goal.loop-operation-preserved
loop-operation-preserved c =
    let x : Operation = get_or c.args.operations.now c.loop-operation.operation-index no_operation in
    let own : c.thread_of-thread.result ≡ x.thread = c.thread_of-thread.ensures.value in
    let ended : get_or c.loop-operation.ends c.thread_of-thread.result 0 ≡ get_or c.loop-operation.ends x.thread 0 = ap (λ n. get_or c.loop-operation.ends n 0) own in
    record {
      agree =
          subst (λ n. Agrees c.args.operations.now (c.loop-operation.operation-index + 1) c.max-latest.result (set c.loop-operation.ends n x.end) (set c.loop-operation.lines n c.line_at_once.result)) (sym own)
          (one_more c.args.operations.now c.loop-operation.operation-index c.loop-operation.latest c.max-latest.result c.line_at_once.result c.loop-operation.ends c.loop-operation.lines x c.loop-operation-test.true
          (λ d. get_or_default c.args.operations.now c.loop-operation.operation-index d no_operation c.loop-operation-test.true) (omega arith) (omega arith) (omega arith) (omega arith) c.line_at_once.ensures
          c.loop-operation.invariant.agree (omega arith) (record { timed = omega arith; idle = omega (arith, ended); later = λ e. subst (λ n. get_or c.loop-operation.lines n 0 < x.line) own (OnTrue_at c.if-not-is_later.false c.is_later.ensures (e ∙ sym ended)) }));
      room = length-set c.loop-operation.ends c.thread_of-thread.result x.end ∙ c.loop-operation.invariant.room;
      room_too = length-set c.loop-operation.lines c.thread_of-thread.result c.line_at_once.result ∙ c.loop-operation.invariant.room_too;
    }
