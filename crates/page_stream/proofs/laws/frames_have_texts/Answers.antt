use Rattle.page_stream.proofs.GoodFrames.{frames_good}
use Rattle.page_stream.proofs.LengthBounds.{text_short}
use Rattle.mig_model.proofs.memory.ReplyOfLemmas.{right_answered}
use Rattle.page_stream.proofs.Encodable.{encodable}
use Rattle.page_stream.proofs.laws.frames_have_texts.Goals as goal

pub returns-clause-in_flight : goal.returns-clause-in_flight
returns-clause-in_flight c world reached count = frames_good world reached count

pub returns-clause-short : goal.returns-clause-short
returns-clause-short c frame is = text_short frame is

pub returns-clause-accesses : goal.returns-clause-accesses
returns-clause-accesses c memory command is = right_answered memory command is

pub returns-clause-encodable : goal.returns-clause-encodable
returns-clause-encodable c epoch frame small is = encodable epoch frame small is
