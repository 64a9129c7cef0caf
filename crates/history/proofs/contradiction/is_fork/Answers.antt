use Rattle.std.proofs.Common.{get_or}
use Rattle.std.proofs.lemmas.Bool.{OnTrue_at, OnTrue_from}
use Rattle.std.proofs.lemmas.List.Elements.{Contains-get_or}
use Rattle.history.specs.declared.operation.Operation.{Operation}
use Rattle.history.proofs.Agreeing.{no_operation}
use Rattle.history.proofs.Refuted.{at_index}
use Rattle.history.proofs.contradiction.is_fork.Goals as goal

pub returns : goal.returns
returns c =
    let source : Operation = get_or c.args.operations.now c.args.from no_operation in
    let one : Operation = get_or c.args.operations.now c.args.first no_operation in
    let other : Operation = get_or c.args.operations.now c.args.second no_operation in
    OnTrue_from c.is_reader-2.result _
    (λ e clock. (
      source,
      one,
      other,
      at_index c.args.operations.now c.args.from no_operation c.if-from-operations.false,
      at_index c.args.operations.now c.args.first no_operation c.if-first-operations.false,
      at_index c.args.operations.now c.args.second no_operation c.if-second-operations.false,
      c.in-Some.read.place,
      c.in-Some.read.size,
      record {
        location = OnTrue_at c.if-not-is_location.false c.is_location.ensures;
        source_there = Contains-get_or c.args.operations.now c.args.from no_operation c.if-from-operations.false;
        first_there = Contains-get_or c.args.operations.now c.args.first no_operation c.if-first-operations.false;
        second_there = Contains-get_or c.args.operations.now c.args.second no_operation c.if-second-operations.false;
        apart = c.if-one-other.false;
        first_reads = OnTrue_at c.if-not-is_reader.false c.is_reader.ensures;
        second_reads = OnTrue_at e c.is_reader-2.ensures;
        first_leaves = OnTrue_at c.if-not-changes.false c.changes.ensures;
        second_leaves = OnTrue_at c.if-not-changes-2.false c.changes-else-not-changes.ensures;
      },
    ))
