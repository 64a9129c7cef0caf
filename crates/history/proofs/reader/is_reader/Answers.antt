use Rattle.std.proofs.Common.{sym}
use Rattle.std.proofs.lemmas.Bool.{OnTrue_at, OnTrue_from}
use Rattle.history.proofs.reader.is_reader.Goals as goal

pub returns : goal.returns
returns c =
    OnTrue_from c.has_no_other.result _
    (λ e. record {
      value = c.in-Some.value;
      left = OnTrue_at c.if-not-leaves.false c.leaves.ensures.only;
      found = sym c.in-Some.ensures;
      between = c.ended_before-between.result;
      came = c.ended_before-between.ensures;
      sources = OnTrue_at e c.has_no_other.ensures;
    })
