-- What a log leaves at its node does not depend on the order of the two logs.
use Rattle.std.proofs.Common.{◌≡◌, ◌++◌, List, [], ◌∷◌, append_assoc, sym, ap, ◌∙◌}
use Rattle.std.proofs.lemmas.List.{append-nil}
use Rattle.mig_base.specs.declared.effect.Effect.{Effect}
use Rattle.mig_laws.specs.Orders.{AreTurns, Pair, Turn, destination_lines, source_lines}
use Rattle.mig_laws.specs.Sides.{Line, destination_after, destination_entries, destination_line, entries_by, node_by, source_after, source_entries, source_line}

-- what two processes have once the lines of both logs are made, by each log alone
pub record IsLeft (old : Pair) (here there : List Line) (new : Pair) : Type 0 where
  pub source : new.source ≡ source_after old.source here
  pub destination : new.destination ≡ destination_after old.destination there
  pub at_source : new.at_source ≡ old.at_source ++ source_entries old.source here
  pub at_destination : new.at_destination ≡ old.at_destination ++ destination_entries old.destination there

pub left : (old : Pair) (turns : List Turn) (effects : List Effect) (new : Pair) → AreTurns old turns effects new → IsLeft old (source_lines turns) (destination_lines turns) new
left old [] [] new is =
    record {
      source = ap (λ (pair : Pair). pair.source) is;
      destination = ap (λ (pair : Pair). pair.destination) is;
      at_source = ap (λ (pair : Pair). pair.at_source) is ∙ sym (append-nil old.at_source);
      at_destination = ap (λ (pair : Pair). pair.at_destination) is ∙ sym (append-nil old.at_destination);
    }
left old [] (effect ∷ effects) new is = absurd is
left old (turn ∷ turns) [] new is = absurd is
left old (Turn.AtSource line ∷ turns) (effect ∷ effects) new is =
    let mid = is.0 in
    let turn = is.1.1 in
    let did = is.1.0 in
    let rest = left mid turns effects new is.2 in
    let node = ap (λ (pair : Pair). pair.source) turn.is ∙ sym (ap (node_by old.source) turn.gives) in
    let entries = ap (λ (pair : Pair). pair.at_source) turn.is ∙ ap (λ entries. old.at_source ++ entries) (sym (ap entries_by turn.gives)) in
    record {
      source = rest.source ∙ ap (λ n. source_after n (source_lines turns)) node;
      destination = rest.destination ∙ ap (λ (pair : Pair). destination_after pair.destination (destination_lines turns)) turn.is;
      at_source =
          rest.at_source ∙ ap (λ n. mid.at_source ++ source_entries n (source_lines turns)) node ∙ ap (λ es. es ++ source_entries (node_by old.source (source_line old.source line)) (source_lines turns)) entries
          ∙ append_assoc old.at_source (entries_by (source_line old.source line)) (source_entries (node_by old.source (source_line old.source line)) (source_lines turns));
      at_destination = rest.at_destination ∙ ap (λ (pair : Pair). pair.at_destination ++ destination_entries pair.destination (destination_lines turns)) turn.is;
    }
left old (Turn.AtDestination line ∷ turns) (effect ∷ effects) new is =
    let mid = is.0 in
    let turn = is.1.1 in
    let did = is.1.0 in
    let rest = left mid turns effects new is.2 in
    let node = ap (λ (pair : Pair). pair.destination) turn.is ∙ sym (ap (node_by old.destination) turn.gives) in
    let entries = ap (λ (pair : Pair). pair.at_destination) turn.is ∙ ap (λ entries. old.at_destination ++ entries) (sym (ap entries_by turn.gives)) in
    record {
      source = rest.source ∙ ap (λ (pair : Pair). source_after pair.source (source_lines turns)) turn.is;
      destination = rest.destination ∙ ap (λ n. destination_after n (destination_lines turns)) node;
      at_source = rest.at_source ∙ ap (λ (pair : Pair). pair.at_source ++ source_entries pair.source (source_lines turns)) turn.is;
      at_destination =
          rest.at_destination ∙ ap (λ n. mid.at_destination ++ destination_entries n (destination_lines turns)) node ∙ ap (λ es. es ++ destination_entries (node_by old.destination (destination_line old.destination line)) (destination_lines turns)) entries
          ∙ append_assoc old.at_destination (entries_by (destination_line old.destination line)) (destination_entries (node_by old.destination (destination_line old.destination line)) (destination_lines turns));
    }
left old (Turn.Cut ∷ turns) (effect ∷ effects) new is =
    let mid = is.0 in
    let turn = is.1.0 in
    let rest = left mid turns effects new is.2 in
    record {
      source = rest.source ∙ ap (λ (pair : Pair). source_after pair.source (source_lines turns)) turn.is;
      destination = rest.destination ∙ ap (λ (pair : Pair). destination_after pair.destination (destination_lines turns)) turn.is;
      at_source = rest.at_source ∙ ap (λ (pair : Pair). pair.at_source ++ source_entries pair.source (source_lines turns)) turn.is;
      at_destination = rest.at_destination ∙ ap (λ (pair : Pair). pair.at_destination ++ destination_entries pair.destination (destination_lines turns)) turn.is;
    }
