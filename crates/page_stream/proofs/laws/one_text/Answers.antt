use Rattle.page_stream.proofs.OneText.{same_text}
use Rattle.page_stream.proofs.laws.one_text.Goals as goal

pub returns-clause-version : goal.returns-clause-version
returns-clause-version c v w d e f g s r hf hg eq = (same_text v w d e f g s r hf hg eq).version

pub returns-clause-epoch : goal.returns-clause-epoch
returns-clause-epoch c v w d e f g s r hf hg eq = (same_text v w d e f g s r hf hg eq).epoch

pub returns-clause-frame : goal.returns-clause-frame
returns-clause-frame c v w d e f g s r hf hg eq = (same_text v w d e f g s r hf hg eq).frame

pub returns-clause-rest : goal.returns-clause-rest
returns-clause-rest c v w d e f g s r hf hg eq = (same_text v w d e f g s r hf hg eq).rest
