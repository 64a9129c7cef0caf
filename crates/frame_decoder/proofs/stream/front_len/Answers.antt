use Rattle.std.proofs.Common.{arith}
use Rattle.frame_decoder.proofs.FrontTexts.{head_long, head_reads, head_says}
use Rattle.frame_decoder.proofs.stream.front_len.Goals as goal

pub returns-then-bytes-lt-HEADER_LEN : goal.returns-then-bytes-lt-HEADER_LEN
returns-then-bytes-lt-HEADER_LEN c = λ version sent rest fits is. absurd (let long = head_long version sent rest c.args.bytes.now fits is in omega (arith, long, c.if-bytes-lt-HEADER_LEN.true))

pub returns-in-Ok : goal.returns-in-Ok
returns-in-Ok c = λ version sent rest fits is. head_says version sent rest c.args.bytes.now _ fits is c.in-Ok.ensures

pub returns-in-Err : goal.returns-in-Err
returns-in-Err c = λ version sent rest fits is. absurd (head_reads version sent rest c.args.bytes.now c.in-Err.field-0 fits is c.in-Err.ensures)
