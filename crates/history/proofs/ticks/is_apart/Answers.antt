use Rattle.std.proofs.lemmas.Bool.{OnTrue_at, OnTrue_from}
use Rattle.history.proofs.Apart.{apart_from_increasing}
use Rattle.history.proofs.ticks.is_apart.Goals as goal

pub returns : goal.returns
returns c = OnTrue_from c.is_increasing.result _ (λ e. apart_from_increasing c.args.list.now c.sort_unstable.new.self c.sort_unstable.ensures.permutation (OnTrue_at e c.is_increasing.ensures))
