use Rattle.std.proofs.Common.{ap, arith, refl, ◌∙◌}
use Rattle.std.proofs.lemmas.List.{nil_from_length}
use Rattle.wires.proofs.ChunkLemmas.{next_full, next_written, none_behind}
use Rattle.wires.proofs.chunks.Chunks.turn.Goals as goal

pub returns-in-Some-clause-stays : goal.returns-in-Some-clause-stays
returns-in-Some-clause-stays c =
    next_full c.args.self.now (record { reading = c.in-Some.chunk; taken = 0; full = c.pop_front.new.self; writing = c.args.self.now.writing }) c.in-Some.chunk c.requires (omega (arith, c.if-self-len.false, c.len.ensures)) c.in-Some.ensures.items refl refl refl

pub returns-in-None-clause-stays : goal.returns-in-None-clause-stays
returns-in-None-clause-stays c =
    let none = nil_from_length c.args.self.now.full.items (omega (arith, c.in-None.ensures.cases.0)) in
    let behind = nil_from_length c.pop_front.new.self.items (omega (arith, c.in-None.ensures.cases.1)) in
    next_written c.args.self.now (record { reading = c.swap.new.x; taken = 0; full = c.pop_front.new.self; writing = c.swap.new.y }) c.requires (omega (arith, c.if-self-len.false, c.len.ensures)) none behind refl (ap (λ v. v.items) c.swap.ensures.x_after)
    (ap (λ v. v.items) c.swap.ensures.y_after ∙ c.clear.ensures.items)

pub returns-in-None-clause-first : goal.returns-in-None-clause-first
returns-in-None-clause-first c = λ read.
    none_behind (record { reading = c.swap.new.x; taken = 0; full = c.pop_front.new.self; writing = c.swap.new.y }) read (nil_from_length c.pop_front.new.self.items (omega (arith, c.in-None.ensures.cases.1)))
    (ap (λ v. v.items) c.swap.ensures.y_after ∙ c.clear.ensures.items)
