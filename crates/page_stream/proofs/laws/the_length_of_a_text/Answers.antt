use Rattle.page_stream.proofs.TextLemmas.{length-text}
use Rattle.page_stream.proofs.TextsInFlight.{forward_counted, back_counted, urgent_counted}
use Rattle.page_stream.proofs.laws.the_length_of_a_text.Goals as goal

pub returns-clause-text : goal.returns-clause-text
returns-clause-text c version epoch frame has whole = length-text version epoch frame has whole

pub returns-clause-forward : goal.returns-clause-forward
returns-clause-forward c world reached = forward_counted world reached

pub returns-clause-back : goal.returns-clause-back
returns-clause-back c world reached = back_counted world reached

pub returns-clause-urgent : goal.returns-clause-urgent
returns-clause-urgent c world reached = urgent_counted world reached
