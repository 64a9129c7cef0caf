use Rattle.std.proofs.Common.{ap, arith, length, sym, ◌∙◌}
use Rattle.std.proofs.lemmas.Bool.{eqb-false, eqb-true}
use Rattle.std.proofs.lemmas.List.{length-drop, nil_from_length}
use Rattle.wires.proofs.ChunkLemmas.{empty_is, some_full, some_left}
use Rattle.wires.proofs.chunks.Chunks.is_empty.Goals as goal

pub returns-then-self-len : goal.returns-then-self-len
returns-then-self-len c = sym (some_left c.args.self.now c.requires (λ none. let long = length-drop c.args.self.now.taken c.args.self.now.reading.items in let short = ap length none in omega (arith, long, short, c.if-self-len.true, c.len.ensures)))

pub returns-then-is_empty : goal.returns-then-is_empty
returns-then-is_empty c =
    let none = eqb-true _ _ (sym c.is_empty.ensures ∙ c.if-is_empty.true) in
    empty_is c.args.self.now c.requires (omega (arith, c.if-self-len.false, c.len.ensures)) (nil_from_length c.args.self.now.full.items (omega (arith, none))) c.is_empty-then-is_empty.result (sym c.is_empty-then-is_empty.ensures)

pub returns : goal.returns
returns c = sym (some_full c.args.self.now c.requires (λ none. eqb-false _ _ (sym c.is_empty.ensures ∙ c.if-is_empty.false) (let none = ap length none in omega (arith, none))))
