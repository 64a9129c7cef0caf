use Rattle.std.proofs.Common.{arith, refl}
use Rattle.mig_base.proofs.BitLemmas.{zero_is_no_one}
use Rattle.dirty_log.proofs.SpaceLemmas.{can_unprotect, protect_left, protect_not_refused}
use Rattle.dirty_log.proofs.spaces.unprotect.Goals as goal

pub unreachable-requires : goal.unreachable-requires
unreachable-requires c =
    let space = c.args.space.now in
    let can = can_unprotect space c.args.page c.is_in_order.ensures c.requires.lent c.requires.quiet c.requires.protected in
    protect_not_refused space c.args.page 1 0 _ _ c.in_default.field-0 c.writeprotect.result can (omega arith) c.page_address.ensures refl c.writeprotect.ensures.answer c.in_default.is

pub returns : goal.returns
returns c =
    let space = c.args.space.now in
    let can = can_unprotect space c.args.page c.is_in_order.ensures c.requires.lent c.requires.quiet c.requires.protected in
    protect_left space c.writeprotect.new.self c.args.page 1 0 _ _ _ can (omega arith) c.page_address.ensures refl (zero_is_no_one 0) c.writeprotect.ensures.space
