use Rattle.std.proofs.Common.{rules, get_or}
use Rattle.std.proofs.lemmas.List.{get_or_default}
use Rattle.std.proofs.lemmas.List.Sorted.{answers_always}
use Rattle.pusher.proofs.EntryLemmas.{found, missed}
use Rattle.pusher.proofs.entries.find.Goals as goal

pub returns-in-Ok-clause-some : goal.returns-in-Ok-clause-some
returns-in-Ok-clause-some c = found c.args.entries.now c.args.page c.in-Ok.place (get_or c.args.entries.now c.in-Ok.place (0, 0)) c.in-Ok.ensures.bound (c.in-Ok.ensures.position (λ e. e.0) (answers_always _ _ _ (λ f a r g called. search rules))) (get_or_default c.args.entries.now c.in-Ok.place (0, 0) _ c.in-Ok.ensures.bound)

pub returns-in-Err-clause-none : goal.returns-in-Err-clause-none
returns-in-Err-clause-none c = missed c.args.entries.now c.args.page c.in-Err.field-0 c.requires (c.in-Err.ensures.position (λ e. e.0) (answers_always _ _ _ (λ f a r g called. search rules)))
