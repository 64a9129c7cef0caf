use Rattle.std.proofs.Common.{◌≡◌, ◌-◌, length, min, refl, arith}
use Rattle.call_log.proofs.Reading.{leads_held}
use Rattle.call_log.proofs.input.LineReader.hold.Goals as goal

pub returns : goal.returns
returns c =
    let len = c.args.self.now.held.ok.0 in
    let room : c.min-room.result ≡ min (4097 - length c.args.self.now.held.items) (length c.args.bytes.now) = grind (arith, len, c.min-room.ensures, c.saturating_sub.ensures, c.len.ensures) in
    λ w. leads_held c.args.self.now _ w c.args.bytes.now c.min-room.result c.requires room c.in_ok-extend_from_slice.ensures.items refl
