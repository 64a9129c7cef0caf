use Rattle.std.proofs.Common.{◌≡◌, ◌∙◌, ◌∷◌, ap, map, rules, subst, sym}
use Rattle.std.proofs.lemmas.Iterator.{YieldsList-from_map, YieldsList-from_slice}
use Rattle.std.proofs.lemmas.Iterator.Adapters.{items_from_extend}
use Rattle.std.specs.List.{AllByRecursion}
use Rattle.mig_base.specs.declared.phase.Received.{Received}
use Rattle.mig_model.proofs.memory.PageLists.{few_none}
use Rattle.mig_model.specs.Bounds.{IsFrame}
use Rattle.mig_model.specs.Destination.{recv_by}
use Rattle.mig_model.specs.Owed.{origins}
use Rattle.mig_model.specs.Wire as wire
use Rattle.page_stream.specs.declared.frame.Frame.{Frame}
use Rattle.fault_handler.proofs.RequestLemmas.{asked_right, reported}
use Rattle.fault_handler.proofs.destination.Destination.report.Goals as goal
use Rattle.fault_handler.proofs.destination.Destination.report.Goals.{in-Running+in_ok-owed-in-Running+in_ok-push-in-Running+in_ok-extend-in-Running, in-NotRun+in_ok-push-in-NotRun, in-Ended+in_ok-push-in-Ended}

pub returns-clause-frames : goal.returns-clause-frames
returns-clause-frames c = elim c.match-received.branch [
  | in-Running+in_ok-owed-in-Running+in_ok-push-in-Running+in_ok-extend-in-Running w ↦
      let h = items_from_extend w.extend.result w.extend.ensures.ran (YieldsList-from_map _ Frame.Request (YieldsList-from_slice w.requests.result.now cc) w.map.ensures.closure (λ x r q k. search rules)) in
      let items : c.match-received.frames.items ≡ Frame.Recv Received.Running w.in_ok-owed-in-Running.owed ∷ map Frame.Request w.requests.result.now = search rules in
      reported c.match-received.frames.items w.in_ok-owed-in-Running.owed w.requests.result.now items
      ∙ (λ i. wire.Frame.Recv Received.Running ((w.in_ok-owed-in-Running.ensures ∙ ap origins w.owed.ensures.owed) i) ∷ map wire.Frame.Request (w.requests.ensures.pages i))
      ∙ ap (λ state. recv_by state c.args.self.now) (sym w.in-Running.is ∙ c.received.ensures)
  | in-NotRun+in_ok-push-in-NotRun w ↦
      rw (w.frames-is, w.in_ok-push-in-NotRun.ensures.items, c.new-frames.ensures.items, w.new.ensures) (ap (λ state. recv_by state c.args.self.now) (sym w.in-NotRun.is ∙ c.received.ensures))
  | in-Ended+in_ok-push-in-Ended w ↦
      rw (w.frames-is, w.in_ok-push-in-Ended.ensures.items, c.new-frames.ensures.items, w.new-in-Ended.ensures) (ap (λ state. recv_by state c.args.self.now) (sym w.in-Ended.is ∙ c.received.ensures))
]

pub returns-clause-well_formed : goal.returns-clause-well_formed
returns-clause-well_formed c = elim c.match-received.branch [
  | in-Running+in_ok-owed-in-Running+in_ok-push-in-Running+in_ok-extend-in-Running w ↦
      subst (AllByRecursion IsFrame) (sym (returns-clause-frames c))
      (subst (λ state. AllByRecursion IsFrame (recv_by state c.args.self.now)) (sym w.in-Running.is ∙ c.received.ensures) (w.owed.ensures.few, asked_right c.args.self.now.requests w.requests.ensures.mapped))
  | in-NotRun+in_ok-push-in-NotRun w ↦ rw (w.frames-is, w.in_ok-push-in-NotRun.ensures.items, c.new-frames.ensures.items, w.new.ensures) (few_none, tt)
  | in-Ended+in_ok-push-in-Ended w ↦ rw (w.frames-is, w.in_ok-push-in-Ended.ensures.items, c.new-frames.ensures.items, w.new-in-Ended.ensures) (few_none, tt)
]
