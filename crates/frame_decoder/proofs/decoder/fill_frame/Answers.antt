use Rattle.frame_decoder.proofs.Fillings.{filled_up, then_ok}
use Rattle.frame_decoder.proofs.decoder.fill_frame.Goals as goal

pub returns-clause-ok : goal.returns-clause-ok
returns-clause-ok c =
    let old = c.args.held.now.items in
    let mid = c.fill.new.held.items in
    let new = c.fill-2.new.held.items in
    then_ok _ _ c.fill-2.result (λ rest is. filled_up c.args.fixed old c.args.piece.now mid c.in_ok-rest.rest.now new rest.now c.requires.part c.in_ok-rest.ensures.ok is) c.fill-2.ensures.ok
