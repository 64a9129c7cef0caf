use Rattle.std.proofs.Common.{◌*◌, ap, arith}
use Rattle.dirty_log.proofs.SpaceLemmas.{can_protect, protect_left, protect_not_refused}
use Rattle.dirty_log.proofs.spaces.protect.Goals as goal
use Rattle.mig_model.proofs.memory.HandlerCalls.{one_is_protect}

pub unreachable-requires : goal.unreachable-requires
unreachable-requires c =
    let space = c.args.space.now in
    let can = can_protect space c.args.first c.args.count c.is_in_order.ensures c.requires.lent c.requires.quiet c.requires.some c.requires.inside c.requires.sendable in
    protect_not_refused space c.args.first c.args.count 1 _ _ c.in_default.field-0 c.writeprotect.result can (omega arith) c.page_address.ensures (ap (λ n. n * 4096) c.from-len.ensures) c.writeprotect.ensures.answer c.in_default.is

pub returns : goal.returns
returns c =
    let space = c.args.space.now in
    let can = can_protect space c.args.first c.args.count c.is_in_order.ensures c.requires.lent c.requires.quiet c.requires.some c.requires.inside c.requires.sendable in
    protect_left space c.writeprotect.new.self c.args.first c.args.count 1 _ _ _ can (omega arith) c.page_address.ensures (ap (λ n. n * 4096) c.from-len.ensures) one_is_protect c.writeprotect.ensures.space
