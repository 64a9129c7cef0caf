use Rattle.std.proofs.Common.{None, get_or}
use Rattle.std.proofs.lemmas.Bool.{OnTrue_at, OnTrue_from}
use Rattle.std.proofs.lemmas.List.Elements.{Contains-get_or}
use Rattle.history.specs.declared.operation.Operation.{Operation}
use Rattle.history.proofs.Agreeing.{no_operation}
use Rattle.history.proofs.Readers.{without_source}
use Rattle.history.proofs.Refuted.{at_index}
use Rattle.history.proofs.contradiction.refutes_alone.Goals as goal

pub returns : goal.returns
returns c =
    let reader : Operation = get_or c.args.operations.now c.args.at no_operation in
    OnTrue_from c.has_no_other.result _
    (λ e clock. (
      reader,
      at_index c.args.operations.now c.args.at no_operation c.if-at-operations.false,
      c.in-Some.read.place,
      c.in-Some.read.size,
      c.in-Some.read.value,
      record {
        location = OnTrue_at c.if-not-is_location.false c.is_location.ensures;
        reads = Contains-get_or c.args.operations.now c.args.at no_operation c.if-at-operations.false;
        found = c.in-Some.ensures;
        disturbed = tt;
        sources = without_source c.args.operations.now c.in-Some.read.place c.in-Some.read.value reader None (OnTrue_at e c.has_no_other.ensures);
      },
    ))
