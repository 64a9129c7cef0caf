use Rattle.std.proofs.Common.{◌≡◌, ◌++◌, ◌∙◌, ℕ, List, ap, sym, drop, true≢false}
use Rattle.std.specs.List.{concat}
use Rattle.wires.specs.Chunks.{bytes_from, in_flight, pieces}
use Rattle.wires.proofs.ByteLemmas.{bytes_in, same_bytes, same_frames}
use Rattle.wires.proofs.PieceLemmas.{cut, tells_along, tells_apart, tells_more, told_other, told_same}
use Rattle.wires.proofs.chunks.Chunks.is_same.Goals as goal

pub loop-len-init : goal.loop-len-init
loop-len-init c =
    let mine = c.args.self.now in
    let theirs = c.args.other.now in
    record {
      tells =
          tells_along (in_flight mine ≡ in_flight theirs) (bytes_in mine) (bytes_in theirs) (bytes_from (pieces mine) c.front-next.result.0.now c.front-next.result.1)
          (bytes_from (pieces theirs) c.front-other_next.result.0.now c.front-other_next.result.1) (same_bytes theirs mine c.requires.1 c.requires.0, same_frames mine theirs c.requires.0 c.requires.1)
          (ap (λ (rest : List ℕ). bytes_from (pieces mine) rest 1) (sym c.left.ensures) ∙ sym c.front-next.ensures.stays)
          (ap (λ (rest : List ℕ). bytes_from (pieces theirs) rest 1) (sym c.left-2.ensures) ∙ sym c.front-other_next.ensures.stays);
      none = c.front-next.ensures.none;
      none_theirs = c.front-other_next.ensures.none;
    }

pub returns-then-ne : goal.returns-then-ne
returns-then-ne c =
    let P = in_flight c.args.self.now ≡ in_flight c.args.other.now in
    let mine = concat (drop c.loop-len.next (pieces c.args.self.now)) in
    let theirs = concat (drop c.loop-len.other_next (pieces c.args.other.now)) in
    let front = c.split_at.result.0.now in
    let other = c.split_at-in-loop-len.result.0.now in
    let rest = c.split_at.result.1.now in
    let more = c.split_at-in-loop-len.result.1.now in (
      λ e. absurd (true≢false (sym e)),
      λ e. absurd
          (told_other front other c.ne.result c.ne.ensures c.if-ne.true
          (tells_apart P front (rest ++ mine) other (more ++ theirs) c.min-len.result
          (tells_along P (c.loop-len.mine.now ++ mine) (c.loop-len.theirs.now ++ theirs) (front ++ (rest ++ mine)) (other ++ (more ++ theirs)) c.loop-len.invariant.tells
          (cut c.loop-len.mine.now front rest mine c.min-len.result c.split_at.ensures.front c.split_at.ensures.back)
          (cut c.loop-len.theirs.now other more theirs c.min-len.result c.split_at-in-loop-len.ensures.front c.split_at-in-loop-len.ensures.back))
          c.split_at.ensures.front_len c.split_at-in-loop-len.ensures.front_len e)),
    )

pub loop-len-preserved : goal.loop-len-preserved
loop-len-preserved c =
    let P = in_flight c.args.self.now ≡ in_flight c.args.other.now in
    let mine = concat (drop c.loop-len.next (pieces c.args.self.now)) in
    let theirs = concat (drop c.loop-len.other_next (pieces c.args.other.now)) in
    let front = c.split_at.result.0.now in
    let other = c.split_at-in-loop-len.result.0.now in
    let rest = c.split_at.result.1.now in
    let more = c.split_at-in-loop-len.result.1.now in
    record {
      tells =
          tells_along P (rest ++ mine) (more ++ theirs) (bytes_from (pieces c.args.self.now) c.front.result.0.now c.front.result.1)
          (bytes_from (pieces c.args.other.now) c.front-in-loop-len.result.0.now c.front-in-loop-len.result.1)
          (tells_more P front (rest ++ mine) other (more ++ theirs)
          (tells_along P (c.loop-len.mine.now ++ mine) (c.loop-len.theirs.now ++ theirs) (front ++ (rest ++ mine)) (other ++ (more ++ theirs)) c.loop-len.invariant.tells
          (cut c.loop-len.mine.now front rest mine c.min-len.result c.split_at.ensures.front c.split_at.ensures.back)
          (cut c.loop-len.theirs.now other more theirs c.min-len.result c.split_at-in-loop-len.ensures.front c.split_at-in-loop-len.ensures.back))
          (told_same front other c.ne.result c.ne.ensures c.if-ne.false))
          (sym c.front.ensures.stays) (sym c.front-in-loop-len.ensures.stays);
      none = c.front.ensures.none;
      none_theirs = c.front-in-loop-len.ensures.none;
    }
