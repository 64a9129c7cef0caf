use Rattle.std.proofs.Common.{◌≡◌, ◌++◌, ◌∷◌, [], ap, ◌∙◌}
use Rattle.pusher.specs.Rule.{kept_share, given_share}
use Rattle.thread_tests.proofs.Knowing.{everything, knows_joined}
use Rattle.thread_tests.proofs.claims.two_threads.claim_by_two.Goals as goal

pub returns-in-Ok : goal.returns-in-Ok
returns-in-Ok g c =
    let first = c.join-first.ensures.first.1 in let start = c.in_ok-claims.ensures.seat.3 in let cut = c.in_ok-second.ensures.shares in
    let kept = first.0 ∙ cut.0 ∙ ap kept_share start in let given = c.join-first.ensures.second.1 ∙ cut.1 ∙ ap given_share start in
    let share : c.join.new.seat.share ≡ 1 ∷ 1 ∷ [] = c.join.ensures.lists.2 ∙ (λ i. kept i ++ given i) in
    everything c.in_ok-claims.claims c.join.new.seat c.args.pages.items c.in-Ok._left.items c.in-Ok.claimed.items c.in_ok-claims.ensures.claims.1 share
    (knows_joined c.join-first.result.0 c.join-first.result.1 c.join.new.seat _ c.join.ensures.lists.0 c.join.ensures.lists.1 first.1) c.in-Ok.ensures.left c.in-Ok.ensures.all
