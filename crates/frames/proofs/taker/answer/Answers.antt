use Rattle.frame_decoder.specs.Streams.{decoded_sent}
use Rattle.frames.proofs.Answering.{is_refused, refused_node, refused_line}
use Rattle.frames.proofs.taker.answer.Goals as goal

pub returns-in-Err-clause-taken : goal.returns-in-Err-clause-taken
returns-in-Err-clause-taken c =
    (is_refused c.args.destination.now (decoded_sent (c.args.epoch, c.args.frame)) c.in-Err.fault c.in_ok-print_refusal.ensures.printed c.in-Err.ensures.refused).count_is

pub returns-in-Err-clause-destination : goal.returns-in-Err-clause-destination
returns-in-Err-clause-destination c =
    refused_node c.args.destination.now c.take.new.self (decoded_sent (c.args.epoch, c.args.frame)) c.in-Err.fault c.in_ok-print_refusal.ensures.printed c.in-Err.ensures.refused c.in-Err.ensures.err

pub returns-in-Err-clause-line : goal.returns-in-Err-clause-line
returns-in-Err-clause-line c =
    refused_line c.args.destination.now (decoded_sent (c.args.epoch, c.args.frame)) c.in-Err.fault _ _ c.in_ok-print_refusal.ensures.printed c.in-Err.ensures.refused c.clear.ensures.bytes c.in_ok-print_refusal.ensures.line
