use Rattle.std.proofs.Common.{◌+◌, ap, arith, inr, length, subst, sym, ◌∙◌}
use Rattle.std.proofs.lemmas.Bool.{eqb-false}
use Rattle.std.proofs.lemmas.Result.{err_from_is_err_and}
use Rattle.frame_decoder.specs.Streams.{IsTextOf}
use Rattle.frame_decoder.specs.declared.version.Version.TheVariants as versions
use Rattle.wires.specs.Chunks.{in_flight}
use Rattle.wires.proofs.WireLemmas.{completes, completes_first, has_front, held_below, held_there, known_there, moves, none_is_not, read_is}
use Rattle.mig_model.specs.Invariant.{HeldFits}
use Rattle.wires.specs.Lanes.{IsFirstLen, lane_bytes}
use Rattle.wires.proofs.ByteLemmas.{same_bytes}
use Rattle.wires.proofs.wire.Wire.arrive.Goals as goal

pub overflow_sub-len : goal.overflow_sub-len
overflow_sub-len c =
    let front = has_front c.turn.new.self c.left-left.result.now c.self.inside.first_len c.first_len-len.result c.turn.ensures.chunks c.left-left.ensures (λ none. eqb-false _ _ (sym c.is_empty.ensures ∙ c.if-is_empty.false) (ap length none)) (subst (λ frames. IsFirstLen frames c.self.inside.first_len) (sym c.turn.ensures.stays) c.self.invariant.2) c.first_len-len.ensures.known c.first_len-len.ensures.read in
    let below = held_below (in_flight c.self.inside.chunks) front.sent front.rest c.self.inside.held (sym c.turn.ensures.stays ∙ front.flight) c.self.invariant.1 in
    let long = front.len_is in
    omega (arith, below, long)

pub invariant_of-self-then-n-len : goal.invariant_of-self-then-n-len
invariant_of-self-then-n-len c =
    let front = has_front c.turn.new.self c.left-left.result.now c.self.inside.first_len c.first_len-len.result c.turn.ensures.chunks c.left-left.ensures (λ none. eqb-false _ _ (sym c.is_empty.ensures ∙ c.if-is_empty.false) (ap length none)) (subst (λ frames. IsFirstLen frames c.self.inside.first_len) (sym c.turn.ensures.stays) c.self.invariant.2) c.first_len-len.ensures.known c.first_len-len.ensures.read in
    let long = front.len_is in
    (c.turn.ensures.chunks, held_there (in_flight c.turn.new.self) front.sent front.rest (c.self.inside.held + c.args.n) front.flight (omega (arith, long, c.if-n-len.true)), known_there (in_flight c.turn.new.self) front.sent front.rest _ front.flight front.len_is)

pub returns-then-n-len-clause-arrived : goal.returns-then-n-len-clause-arrived
returns-then-n-len-clause-arrived c =
    let front = has_front c.turn.new.self c.left-left.result.now c.self.inside.first_len c.first_len-len.result c.turn.ensures.chunks c.left-left.ensures (λ none. eqb-false _ _ (sym c.is_empty.ensures ∙ c.if-is_empty.false) (ap length none)) (subst (λ frames. IsFirstLen frames c.self.inside.first_len) (sym c.turn.ensures.stays) c.self.invariant.2) c.first_len-len.ensures.known c.first_len-len.ensures.read in
    rw (← c.self.view_is) (inr (moves (in_flight c.self.inside.chunks) (in_flight c.turn.new.self) front.sent front.rest c.self.inside.held c.first_len-len.result c.args.n c.turn.ensures.stays front.flight front.len_is c.if-n-len.true))

pub split_at-requires : goal.split_at-requires
split_at-requires c =
    let front = has_front c.turn.new.self c.left-left.result.now c.self.inside.first_len c.first_len-len.result c.turn.ensures.chunks c.left-left.ensures (λ none. eqb-false _ _ (sym c.is_empty.ensures ∙ c.if-is_empty.false) (ap length none)) (subst (λ frames. IsFirstLen frames c.self.inside.first_len) (sym c.turn.ensures.stays) c.self.invariant.2) c.first_len-len.ensures.known c.first_len-len.ensures.read in
    front.inside

pub unreachable-requires : goal.unreachable-requires
unreachable-requires c =
    let front = has_front c.turn.new.self c.left-left.result.now c.self.inside.first_len c.first_len-len.result c.turn.ensures.chunks c.left-left.ensures (λ none. eqb-false _ _ (sym c.is_empty.ensures ∙ c.if-is_empty.false) (ap length none)) (subst (λ frames. IsFirstLen frames c.self.inside.first_len) (sym c.turn.ensures.stays) c.self.invariant.2) c.first_len-len.ensures.known c.first_len-len.ensures.read in
    let stands : IsTextOf versions.Two c.split_at.result.0.now front.sent = rw c.split_at.ensures.front front.text_is in
    none_is_not c.in_ok-epoch.field-0 front.sent (c.in_ok-epoch.ensures.whole versions.Two front.sent stands) c.in-None.is

pub returns-clause-arrived : goal.returns-clause-arrived
returns-clause-arrived c =
    let front = has_front c.turn.new.self c.left-left.result.now c.self.inside.first_len c.first_len-len.result c.turn.ensures.chunks c.left-left.ensures (λ none. eqb-false _ _ (sym c.is_empty.ensures ∙ c.if-is_empty.false) (ap length none)) (subst (λ frames. IsFirstLen frames c.self.inside.first_len) (sym c.turn.ensures.stays) c.self.invariant.2) c.first_len-len.ensures.known c.first_len-len.ensures.read in
    let stands : IsTextOf versions.Two c.split_at.result.0.now front.sent = rw c.split_at.ensures.front front.text_is in
    let read = c.in_ok-epoch.ensures.whole versions.Two front.sent stands in
    let same = read_is c.in_ok-epoch.field-0 c.in-Some.epoch c.in-Some.frame front.sent read c.in-Some.is in
    let enough = c.if-n-len.false in
    rw (← c.self.view_is) (
      completes (in_flight c.self.inside.chunks) (in_flight c.turn.new.self) front.sent front.rest _ c.self.inside.held c.first_len-len.result c.args.n c.turn.ensures.stays front.flight front.len_is same (λ less. omega (arith, enough, less)),
      (λ i. record { frames = c.turn.ensures.stays i; held = c.self.inside.held }),
    )

pub returns-then-is_empty-clause-bytes : goal.returns-then-is_empty-clause-bytes
returns-then-is_empty-clause-bytes c = same_bytes c.self.inside.chunks c.turn.new.self c.self.invariant.0 c.turn.ensures.chunks c.turn.ensures.stays ∙ ap lane_bytes c.self.view_is

pub returns-then-n-len-clause-bytes : goal.returns-then-n-len-clause-bytes
returns-then-n-len-clause-bytes c = same_bytes c.self.inside.chunks c.turn.new.self c.self.invariant.0 c.turn.ensures.chunks c.turn.ensures.stays ∙ ap lane_bytes c.self.view_is

pub returns-in_err-epoch-clause-arrived : goal.returns-in_err-epoch-clause-arrived
returns-in_err-epoch-clause-arrived c =
    let p = err_from_is_err_and c.from_residual.result c.from_residual.ensures.1 in
    let front = has_front c.turn.new.self c.left-left.result.now c.self.inside.first_len c.first_len-len.result c.turn.ensures.chunks c.left-left.ensures (λ none. eqb-false _ _ (sym c.is_empty.ensures ∙ c.if-is_empty.false) (ap length none)) (subst (λ frames. IsFirstLen frames c.self.inside.first_len) (sym c.turn.ensures.stays) c.self.invariant.2) c.first_len-len.ensures.known c.first_len-len.ensures.read in
    let enough = c.if-n-len.false in
    rw (p.1, ← c.self.view_is) (
      completes_first (in_flight c.self.inside.chunks) (in_flight c.turn.new.self) front.sent front.rest c.self.inside.held c.first_len-len.result c.args.n c.turn.ensures.stays front.flight front.len_is (λ less. omega (arith, enough, less)),
      (λ i. record { frames = c.turn.ensures.stays i; held = c.self.inside.held }),
    )

pub returns-in_err-epoch-clause-bytes : goal.returns-in_err-epoch-clause-bytes
returns-in_err-epoch-clause-bytes c = same_bytes c.self.inside.chunks c.turn.new.self c.self.invariant.0 c.turn.ensures.chunks c.turn.ensures.stays ∙ ap lane_bytes c.self.view_is

pub returns-clause-bytes : goal.returns-clause-bytes
returns-clause-bytes c = same_bytes c.self.inside.chunks c.turn.new.self c.self.invariant.0 c.turn.ensures.chunks c.turn.ensures.stays ∙ ap lane_bytes c.self.view_is

pub invariant_of-self-in_err-epoch : goal.invariant_of-self-in_err-epoch
invariant_of-self-in_err-epoch c =
    let front = has_front c.turn.new.self c.left-left.result.now c.self.inside.first_len c.first_len-len.result c.turn.ensures.chunks c.left-left.ensures (λ none. eqb-false _ _ (sym c.is_empty.ensures ∙ c.if-is_empty.false) (ap length none)) (subst (λ frames. IsFirstLen frames c.self.inside.first_len) (sym c.turn.ensures.stays) c.self.invariant.2) c.first_len-len.ensures.known c.first_len-len.ensures.read in
    (c.turn.ensures.chunks, subst (λ frames. HeldFits frames c.self.inside.held) (sym c.turn.ensures.stays) c.self.invariant.1, known_there (in_flight c.turn.new.self) front.sent front.rest _ front.flight front.len_is)

pub invariant_of-self-2 : goal.invariant_of-self-2
invariant_of-self-2 c =
    let front = has_front c.turn.new.self c.left-left.result.now c.self.inside.first_len c.first_len-len.result c.turn.ensures.chunks c.left-left.ensures (λ none. eqb-false _ _ (sym c.is_empty.ensures ∙ c.if-is_empty.false) (ap length none)) (subst (λ frames. IsFirstLen frames c.self.inside.first_len) (sym c.turn.ensures.stays) c.self.invariant.2) c.first_len-len.ensures.known c.first_len-len.ensures.read in
    (c.turn.ensures.chunks, subst (λ frames. HeldFits frames c.self.inside.held) (sym c.turn.ensures.stays) c.self.invariant.1, known_there (in_flight c.turn.new.self) front.sent front.rest _ front.flight front.len_is)
