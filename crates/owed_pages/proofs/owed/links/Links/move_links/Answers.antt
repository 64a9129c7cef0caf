use Rattle.std.proofs.Common.{◌≡◌, ◌∙◌, ◌+◌, ◌-◌, sym, ap, arith}
use Rattle.owed_pages.specs.Tables.{page_number, moved_number}
use Rattle.owed_pages.proofs.TableLemmas.{none_without_place}
use Rattle.owed_pages.proofs.LinkLemmas.{moved_on, moved_nothing, not_filled_yet, not_read_yet}
use Rattle.owed_pages.proofs.owed.links.Links.move_links.Goals as goal
use Rattle.mig_base.proofs.PlaceLemmas.{same_leaf}

pub move_run-requires-clause-room : goal.move_run-requires-clause-room
move_run-requires-clause-room c = λ q s a b h.
    let page = c.args.from + c.loop-moved.moved + (q - (c.args.to + c.loop-moved.moved)) in
    let at : c.args.from + (q - c.args.to) ≡ page = omega arith in
    c.loop-moved.invariant.stay q
    ∙ c.requires.room q s (omega arith) (omega arith)
    (ap (page_number c.args.self.now.forth.items) at
    ∙ sym (not_read_yet (page_number c.args.self.now.forth.items) c.args.from c.args.to c.loop-moved.moved c.args.count page c.requires.apart (omega arith) (omega arith) (omega arith))
    ∙ sym (c.loop-moved.invariant.moved page) ∙ h)

pub move_run-requires-clause-free : goal.move_run-requires-clause-free
move_run-requires-clause-free c = λ q a b.
    c.loop-moved.invariant.moved q
    ∙ not_filled_yet (page_number c.args.self.now.forth.items) c.args.from c.args.to c.loop-moved.moved c.args.count q c.requires.apart (omega arith) (omega arith) (omega arith)
    ∙ c.requires.free q (omega arith) (omega arith)

pub loop-moved-preserved-then-has_leaf : goal.loop-moved-preserved-then-has_leaf
loop-moved-preserved-then-has_leaf c =
    let next = c.next_leaf.result - c.args.from in
    let whole : c.loop-moved.moved + (next - c.loop-moved.moved) ≡ next = omega arith in
    record {
      moved = λ q. c.move_run.ensures.moved q
          ∙ moved_on (page_number c.args.self.now.forth.items) (page_number c.loop-moved.self.forth.items) c.args.from c.args.to c.loop-moved.moved (next - c.loop-moved.moved) c.args.count c.requires.apart (omega arith) c.loop-moved.invariant.moved q
          ∙ ap (λ n. moved_number (page_number c.args.self.now.forth.items) c.args.from c.args.to n q) whole;
      stay = λ q. c.move_run.ensures.stay q ∙ c.loop-moved.invariant.stay q;
      few = omega arith;
    }

pub loop-moved-preserved : goal.loop-moved-preserved
loop-moved-preserved c =
    let next = c.next_leaf.result - c.args.from in
    let whole : c.loop-moved.moved + (next - c.loop-moved.moved) ≡ next = omega arith in
    record {
      moved = λ q.
          moved_nothing (page_number c.loop-moved.self.forth.items) (c.args.from + c.loop-moved.moved) (c.args.to + c.loop-moved.moved) (next - c.loop-moved.moved) q
          (λ p a b. none_without_place c.loop-moved.self.forth.items p (same_leaf c.loop-moved.self.forth.items (c.args.from + c.loop-moved.moved) p (c.next_leaf.ensures.same p a (omega arith)) (sym c.has_leaf.ensures ∙ c.if-has_leaf.false)))
          (λ p a b. c.loop-moved.invariant.moved p
          ∙ not_filled_yet (page_number c.args.self.now.forth.items) c.args.from c.args.to c.loop-moved.moved c.args.count p c.requires.apart (omega arith) (omega arith) (omega arith)
          ∙ c.requires.free p (omega arith) (omega arith))
          ∙ moved_on (page_number c.args.self.now.forth.items) (page_number c.loop-moved.self.forth.items) c.args.from c.args.to c.loop-moved.moved (next - c.loop-moved.moved) c.args.count c.requires.apart (omega arith) c.loop-moved.invariant.moved q
          ∙ ap (λ n. moved_number (page_number c.args.self.now.forth.items) c.args.from c.args.to n q) whole;
      stay = c.loop-moved.invariant.stay;
      few = omega arith;
    }
