use Rattle.std.proofs.Common.{◌∙◌, ◌+◌, ◌-◌, ◌<◌, ◌≤◌, ⊎_elim, refl, sym, arith}
use Rattle.std.proofs.lemmas.Bool.{cases_lt}
use Rattle.owed_pages.proofs.TableLemmas.{none_without_place}
use Rattle.owed_pages.proofs.LinkLemmas.{same_links, none_some}
use Rattle.owed_pages.proofs.owed.links.Links.make_room.Goals as goal
use Rattle.mig_base.proofs.PlaceLemmas.{same_leaf}

pub invariant_of-self : goal.invariant_of-self
invariant_of-self c = record {
  kept = same_links c.loop-made.self.forth.items c.loop-made.self.back.items c.make_leaves.new.places.items c.loop-made.self.back.items c.loop-made.self.count c.loop-made.self.kept c.make_leaves.ensures.few c.loop-made.self.kept.few_back c.make_leaves.ensures.same (λ s. refl);
}

pub loop-made-preserved-in_ok-make_leaves : goal.loop-made-preserved-in_ok-make_leaves
loop-made-preserved-in_ok-make_leaves c = record {
  same = λ q. c.make_leaves.ensures.same q ∙ c.loop-made.invariant.same q;
  room = λ q s a b h. ⊎_elim
      (λ (below : q < c.args.to + c.loop-made.made). c.make_leaves.ensures.stay q (c.loop-made.invariant.room q s a below (sym (c.make_leaves.ensures.same (c.args.from + (q - c.args.to))) ∙ h)))
      (λ (past : c.args.to + c.loop-made.made ≤ q). c.in_ok-make_leaves.ensures.there q past (omega arith))
      (cases_lt q (c.args.to + c.loop-made.made));
  few = omega arith;
}

pub loop-made-preserved : goal.loop-made-preserved
loop-made-preserved c = record {
  same = c.loop-made.invariant.same;
  room = λ q s a b h. ⊎_elim
      (λ (below : q < c.args.to + c.loop-made.made). c.loop-made.invariant.room q s a below h)
      (λ (past : c.args.to + c.loop-made.made ≤ q).
      let page = c.args.from + (q - c.args.to) in
      none_some s (sym (none_without_place c.loop-made.self.forth.items page (same_leaf c.loop-made.self.forth.items (c.args.from + c.loop-made.made) page (c.next_leaf.ensures.same page (omega arith) (omega arith)) (sym c.has_leaf.ensures ∙ c.if-has_leaf.false))) ∙ h))
      (cases_lt q (c.args.to + c.loop-made.made));
  few = omega arith;
}
