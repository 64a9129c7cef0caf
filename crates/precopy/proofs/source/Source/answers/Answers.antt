use Rattle.mig_model.proofs.memory.PageLists.{few_none}
use Rattle.precopy.proofs.source.Source.answers.Goals as goal
use Rattle.precopy.proofs.source.Source.answers.Goals.{in-Recv-NotRun-default+in_ok-present-in-Recv-NotRun-default+in_ok-package-in-Recv-NotRun-default+in_ok-push-in-Recv-NotRun-default+in_ok-push-in-Recv-NotRun-default-2, in-Recv-NotRun-default+else-self, in-Recv+in-Running-1, in-Advise-2}

pub returns-clause-well_formed : goal.returns-clause-well_formed
returns-clause-well_formed c = elim c.match-frame.branch [
  | in-Recv-NotRun-default+in_ok-present-in-Recv-NotRun-default+in_ok-package-in-Recv-NotRun-default+in_ok-push-in-Recv-NotRun-default+in_ok-push-in-Recv-NotRun-default-2 w ↦
      rw (w.frames-is, w.in_ok-push-in-Recv-NotRun-default-2.ensures.items, w.in_ok-push-in-Recv-NotRun-default.ensures.items, c.new-frames.ensures.items, w.new-pages.ensures)
      (few_none.0, (w.in_ok-package-in-Recv-NotRun-default.ensures.well_formed w.in_ok-present-in-Recv-NotRun-default.ensures.few, tt))
  | in-Recv-NotRun-default+else-self w ↦ rw (w.frames-is, c.new-frames.ensures.items) tt
  | in-Recv+in-Running-1 w ↦ rw (w.frames-is, c.new-frames.ensures.items) tt
  | in-Advise-2 w ↦ rw (w.frames-is, c.new-frames.ensures.items) tt
]
