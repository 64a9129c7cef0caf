use Rattle.std.proofs.Common.{arith}
use Rattle.words.proofs.Bytes.{all_others, none_of}
use Rattle.uffd_log.proofs.OneToken.{no_descriptor, parts_at}
use Rattle.words.proofs.Numbers.{one_number}
use Rattle.uffd_log.proofs.token.descriptor.Goals as goal

pub returns-in_err-at-clause-none : goal.returns-in_err-at-clause-none
returns-in_err-at-clause-none c = rw c.from_residual.ensures (λ on. no_descriptor c.args.word.now on (none_of 58 c.args.word.now (all_others 58 c.args.word.now c.in_err-at.ensures)))

pub returns-in_err-object-clause-none : goal.returns-in_err-object-clause-none
returns-in_err-object-clause-none c = rw c.from_residual-in_err-object.ensures (λ on d.
    let parts = parts_at c.args.word.now c.in_ok-at.at c.around.result.0.now c.around.result.1.now c.in_ok-at.ensures c.around.ensures.front c.around.ensures.back on d in
    c.in_err-object.ensures.none on.object parts.0.0)

pub returns-in_err-fd-clause-none : goal.returns-in_err-fd-clause-none
returns-in_err-fd-clause-none c = rw c.from_residual-in_err-fd.ensures (λ on d.
    let parts = parts_at c.args.word.now c.in_ok-at.at c.around.result.0.now c.around.result.1.now c.in_ok-at.ensures c.around.ensures.front c.around.ensures.back on d in
    c.in_err-fd.ensures.none on.fd parts.0.1)

pub returns-clause-none : goal.returns-clause-none
returns-clause-none c = λ on d.
    let parts = parts_at c.args.word.now c.in_ok-at.at c.around.result.0.now c.around.result.1.now c.in_ok-at.ensures c.around.ensures.front c.around.ensures.back on d in
    let same = one_number c.around.result.1.now c.in_ok-fd.fd on.fd c.in_ok-fd.ensures.found parts.0.1 in
    omega (arith, c.if-fd.false, same, parts.1)
