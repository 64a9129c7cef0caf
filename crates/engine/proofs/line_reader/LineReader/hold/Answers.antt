use Rattle.std.proofs.Common.{◌≡◌, ◌-◌, ◌∙◌, length, min, arith, length-append, refl}
use Rattle.engine.proofs.RawLines.{front_then}
use Rattle.engine.proofs.line_reader.LineReader.hold.Goals as goal

pub returns-clause-ok : goal.returns-clause-ok
returns-clause-ok c =
    let len = c.args.self.now.line.ok.0 in
    let room : c.min-room.result ≡ min (256 - length c.args.self.now.line.items) (length c.args.bytes.now) = grind (arith, len, c.min-room.ensures, c.saturating_sub.ensures, c.len.ensures) in
    record {
      held = λ held is. (
        c.in_ok-extend_from_slice.ensures.items ∙ front_then c.args.self.now.line.items held c.args.bytes.now c.min-room.result is.0 room,
        omega (arith, is.1, length-append held c.args.bytes.now),
      );
      len = refl;
      number = refl;
      output = refl;
    }
