use Rattle.std.proofs.Common.{◌+◌, ap, arith, length, subst, sym, ◌∙◌, ◌∷◌, ◌≡◌}
use Rattle.std.proofs.lemmas.Bool.{eqb-false}
use Rattle.wires.specs.Chunks.{in_flight}
use Rattle.wires.specs.Lanes.{IsFirstLen, lane_bytes}
use Rattle.wires.proofs.ByteLemmas.{fewer_bytes}
use Rattle.wires.proofs.WireLemmas.{has_front, none_held, none_known, not_none, same_rest}
use Rattle.wires.proofs.wire.Wire.drop_first.Goals as goal

pub overflow_add-self : goal.overflow_add-self
overflow_add-self c =
    let front = has_front c.turn.new.self c.left-left.result.now c.self.inside.first_len c.first_len.result c.turn.ensures.chunks c.left-left.ensures (λ none. eqb-false _ _ (sym c.is_empty.ensures ∙ c.if-is_empty.false) (ap length none)) (subst (λ frames. IsFirstLen frames c.self.inside.first_len) (sym c.turn.ensures.stays) c.self.invariant.2) c.first_len.ensures.known c.first_len.ensures.read in
    let inside = front.are.inside in
    omega (arith, inside, c.turn.new.self.reading.small)

pub invariant_of-self-2 : goal.invariant_of-self-2
invariant_of-self-2 c =
    let front = has_front c.turn.new.self c.left-left.result.now c.self.inside.first_len c.first_len.result c.turn.ensures.chunks c.left-left.ensures (λ none. eqb-false _ _ (sym c.is_empty.ensures ∙ c.if-is_empty.false) (ap length none)) (subst (λ frames. IsFirstLen frames c.self.inside.first_len) (sym c.turn.ensures.stays) c.self.invariant.2) c.first_len.ensures.known c.first_len.ensures.read in
    (front.are, none_held _, none_known _)

pub returns-clause-first : goal.returns-clause-first
returns-clause-first c = λ sent rest is.
    let front = has_front c.turn.new.self c.left-left.result.now c.self.inside.first_len c.first_len.result c.turn.ensures.chunks c.left-left.ensures (λ none. eqb-false _ _ (sym c.is_empty.ensures ∙ c.if-is_empty.false) (ap length none)) (subst (λ frames. IsFirstLen frames c.self.inside.first_len) (sym c.turn.ensures.stays) c.self.invariant.2) c.first_len.ensures.known c.first_len.ensures.read in
    let old : in_flight c.turn.new.self ≡ sent ∷ rest = c.turn.ensures.stays ∙ ap (λ w. w.wire.frames) c.self.view_is ∙ is in
    let left = front.behind ∙ same_rest (in_flight c.turn.new.self) front.sent sent front.rest rest front.flight old in
    λ i. record { frames = left i; held = 0 }

pub returns-clause-bytes : goal.returns-clause-bytes
returns-clause-bytes c = λ sent rest is.
    let front = has_front c.turn.new.self c.left-left.result.now c.self.inside.first_len c.first_len.result c.turn.ensures.chunks c.left-left.ensures (λ none. eqb-false _ _ (sym c.is_empty.ensures ∙ c.if-is_empty.false) (ap length none)) (subst (λ frames. IsFirstLen frames c.self.inside.first_len) (sym c.turn.ensures.stays) c.self.invariant.2) c.first_len.ensures.known c.first_len.ensures.read in
    let first : in_flight c.self.inside.chunks ≡ sent ∷ rest = ap (λ w. w.wire.frames) c.self.view_is ∙ is in
    let left = front.behind ∙ same_rest (in_flight c.turn.new.self) front.sent sent front.rest rest front.flight (c.turn.ensures.stays ∙ first) in
    sym (ap lane_bytes c.self.view_is) ∙ fewer_bytes c.self.inside.chunks (record c.turn.new.self { taken = c.turn.new.self.taken + c.first_len.result }) sent rest c.self.invariant.0 front.are first left

pub returns-clause-none : goal.returns-clause-none
returns-clause-none c = λ none.
    let front = has_front c.turn.new.self c.left-left.result.now c.self.inside.first_len c.first_len.result c.turn.ensures.chunks c.left-left.ensures (λ none. eqb-false _ _ (sym c.is_empty.ensures ∙ c.if-is_empty.false) (ap length none)) (subst (λ frames. IsFirstLen frames c.self.inside.first_len) (sym c.turn.ensures.stays) c.self.invariant.2) c.first_len.ensures.known c.first_len.ensures.read in
    absurd (not_none (in_flight c.turn.new.self) front.sent front.rest front.flight (c.turn.ensures.stays ∙ ap (λ w. w.wire.frames) c.self.view_is ∙ none))
