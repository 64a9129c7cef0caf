use Rattle.std.proofs.Common.{Some, get_or}
use Rattle.std.proofs.lemmas.Bool.{OnTrue_at, OnTrue_from}
use Rattle.std.proofs.lemmas.List.Elements.{Contains-get_or}
use Rattle.history.specs.declared.operation.Operation.{Operation}
use Rattle.history.proofs.Agreeing.{no_operation}
use Rattle.history.proofs.Readers.{without_source}
use Rattle.history.proofs.Refuted.{at_index}
use Rattle.history.proofs.contradiction.refutes_between.Goals as goal

pub returns : goal.returns
returns c =
    let reader : Operation = get_or c.args.operations.now c.args.at no_operation in
    let middle : Operation = get_or c.args.operations.now c.args.mid no_operation in
    OnTrue_from c.has_no_other.result _
    (λ e clock. (
      reader,
      middle,
      at_index c.args.operations.now c.args.at no_operation c.if-at-operations.false,
      at_index c.args.operations.now c.args.mid no_operation c.if-mid-operations.false,
      c.in-Some.read.place,
      c.in-Some.read.size,
      c.in-Some.read.value,
      record {
        location = OnTrue_at c.if-not-is_location.false c.is_location.ensures;
        reads = Contains-get_or c.args.operations.now c.args.at no_operation c.if-at-operations.false;
        found = c.in-Some.ensures;
        disturbed = (Contains-get_or c.args.operations.now c.args.mid no_operation c.if-mid-operations.false, OnTrue_at c.if-not-is_before.false c.is_before.ensures, OnTrue_at c.if-not-disturbs.false c.disturbs.ensures);
        sources = without_source c.args.operations.now c.in-Some.read.place c.in-Some.read.value reader (Some middle) (OnTrue_at e c.has_no_other.ensures);
      },
    ))
