use Rattle.std.proofs.Common.{◌∙◌, Some}
use Rattle.frame_decoder.specs.Streams.{decoded_sent, sents}
use Rattle.frame_decoder.proofs.Fillings.{behind}
use Rattle.frame_decoder.proofs.Whole.{holds_left}
use Rattle.frame_decoder.proofs.decoder.read_behind.Goals as goal

pub returns-clause-ok : goal.returns-clause-ok
returns-clause-ok c = λ fixed may.
    let t = c.in_ok-taken.taken in
    let v = c.args.version in
    let splits = holds_left (Some v) c.args.rest.now (sents t.frames.items) t.read t.fault t.version c.hold.new.held.items c.in_ok-taken.ensures (c.in_ok-hold.ensures.ok ∙ c.left_of.ensures) in
    rw c.in_ok-insert.ensures.items (behind fixed v c.args.held.now.items c.args.rest.now (decoded_sent c.args.sent) (sents t.frames.items) c.hold.new.held.items t.fault t.version c.requires may splits)
