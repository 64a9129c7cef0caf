use Rattle.std.proofs.Common.{◌≡◌, ◌++◌, ◌∷◌, [], ap, arith, length, refl, sym, ◌∙◌}
use Rattle.std.proofs.lemmas.Bool.{eqb-false}
use Rattle.wires.proofs.ChunkLemmas.{set_aside}
use Rattle.wires.proofs.chunks.Chunks.make_room.Goals as goal

pub returns-clause-chunks : goal.returns-clause-chunks
returns-clause-chunks c =
    let behind = c.in-Ok.ensures.items ∙ (λ i. c.reserve.ensures.items i ++ c.swap.ensures.y_after i ∷ []) in
    let some : c.args.self.now.writing.items ≡ [] → ⊥ = λ none. eqb-false _ _ (sym c.is_empty.ensures ∙ c.if-is_empty.false) (let none = ap length none in omega (arith, none)) in
    (set_aside c.args.self.now (record { reading = c.args.self.now.reading; taken = c.args.self.now.taken; full = c.push_back.new.self; writing = c.swap.new.x }) c.requires refl refl behind (ap (λ v. v.items) c.swap.ensures.x_after ∙ c.in_ok-chunk.ensures.items) some).0

pub returns-clause-stays : goal.returns-clause-stays
returns-clause-stays c =
    let behind = c.in-Ok.ensures.items ∙ (λ i. c.reserve.ensures.items i ++ c.swap.ensures.y_after i ∷ []) in
    let some : c.args.self.now.writing.items ≡ [] → ⊥ = λ none. eqb-false _ _ (sym c.is_empty.ensures ∙ c.if-is_empty.false) (let none = ap length none in omega (arith, none)) in
    (set_aside c.args.self.now (record { reading = c.args.self.now.reading; taken = c.args.self.now.taken; full = c.push_back.new.self; writing = c.swap.new.x }) c.requires refl refl behind (ap (λ v. v.items) c.swap.ensures.x_after ∙ c.in_ok-chunk.ensures.items) some).1
