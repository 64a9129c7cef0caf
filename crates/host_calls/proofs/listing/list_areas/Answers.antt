use Rattle.std.proofs.Common.{◌++◌, ◌∷◌, [], ◌*◌, ap, ◌∙◌}
use Rattle.std.proofs.lemmas.List.{take_all}
use Rattle.host_calls.specs.declared.call.Call.{Call}
use Rattle.host_calls.specs.Calls.{registers}
use Rattle.page_stream.proofs.AreaTexts.{areas_are}
use Rattle.host_calls.proofs.ListedCalls.{registers_more}
use Rattle.host_calls.proofs.listing.list_areas.Goals as goal

pub loop-area-preserved : goal.loop-area-preserved
loop-area-preserved c =
    registers_more c.areas-area-items.result.now c.loop-area.area-index c.args.mode c.args.calls.now.items c.loop-area.calls.items c.push.new.self.items c.loop-area-test.true c.loop-area.invariant
    (c.in_ok-push.ensures.items
    ∙ (λ i. c.loop-area.calls.items ++ Call.Register (c.page_address-addr.ensures i) (4096 * c.from-len.ensures i) c.args.mode ∷ []))

pub returns : goal.returns
returns c =
    let list = c.areas-area-items.result.now in
    let whole = take_all c.loop-area.area-index list c.loop-area-test.false in
    let are = areas_are list c.args.space.now.host.areas c.areas-area-items.ensures.runs (c.areas-area-items.ensures.pages ∙ c.in_ok-areas.ensures) in
    c.loop-area.invariant ∙ ap (λ areas. c.args.calls.now.items ++ registers areas c.args.mode) (whole ∙ are)
