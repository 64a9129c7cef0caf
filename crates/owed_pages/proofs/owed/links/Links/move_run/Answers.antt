use Rattle.std.proofs.Common.{◌≡◌, ◌∙◌, ◌+◌, ◌-◌, sym, ap, arith}
use Rattle.owed_pages.specs.Tables.{page_number}
use Rattle.owed_pages.proofs.LinkLemmas.{moved_on, not_filled_yet, not_read_yet}
use Rattle.owed_pages.proofs.owed.links.Links.move_run.Goals as goal

pub move_link-requires-clause-room : goal.move_link-requires-clause-room
move_link-requires-clause-room c = λ s h.
    let at : c.args.from + (c.args.to + c.loop-i.i - c.args.to) ≡ c.args.from + c.loop-i.i = omega arith in
    c.loop-i.invariant.stay (c.args.to + c.loop-i.i)
    ∙ c.requires.room (c.args.to + c.loop-i.i) s (omega arith) (omega arith)
    (ap (page_number c.args.self.now.forth.items) at
    ∙ sym (not_read_yet (page_number c.args.self.now.forth.items) c.args.from c.args.to c.loop-i.i c.args.count (c.args.from + c.loop-i.i) c.requires.apart (omega arith) (omega arith) (omega arith))
    ∙ sym (c.loop-i.invariant.moved (c.args.from + c.loop-i.i)) ∙ h)

pub move_link-requires-clause-free : goal.move_link-requires-clause-free
move_link-requires-clause-free c =
    c.loop-i.invariant.moved (c.args.to + c.loop-i.i)
    ∙ not_filled_yet (page_number c.args.self.now.forth.items) c.args.from c.args.to c.loop-i.i c.args.count (c.args.to + c.loop-i.i) c.requires.apart (omega arith) (omega arith) (omega arith)
    ∙ c.requires.free (c.args.to + c.loop-i.i) (omega arith) (omega arith)

pub loop-i-preserved : goal.loop-i-preserved
loop-i-preserved c = record {
  moved = λ q. c.move_link.ensures.moved q
      ∙ moved_on (page_number c.args.self.now.forth.items) (page_number c.loop-i.self.forth.items) c.args.from c.args.to c.loop-i.i 1 c.args.count c.requires.apart (omega arith) c.loop-i.invariant.moved q;
  stay = λ q. c.move_link.ensures.stay q ∙ c.loop-i.invariant.stay q;
}
