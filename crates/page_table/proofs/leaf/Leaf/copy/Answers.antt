use Rattle.std.proofs.Common.{◌∙◌, sym, arith}
use Rattle.page_table.specs.Leaves.{leaf_cell}
use Rattle.page_table.proofs.LeafLemmas.{copied_cell}
use Rattle.page_table.proofs.leaf.Leaf.copy.Goals as goal
use Rattle.mig_base.proofs.PlaceLemmas.{read_place}

pub put-requires-clause-whole : goal.put-requires-clause-whole
put-requires-clause-whole c = λ bytes h.
    c.args.self.now.sized c.loop-i.i bytes
    (sym (c.in_ok-page.ensures ∙ read_place c.args.self.now.pages.items c.loop-i.i c.index.result.now (omega (arith, c.args.self.now.whole)) c.index.ensures) ∙ h)

pub loop-i-preserved : goal.loop-i-preserved
loop-i-preserved c = λ j l.
    let page = c.in_ok-page.ensures ∙ read_place c.args.self.now.pages.items c.loop-i.i c.index.result.now (omega (arith, c.args.self.now.whole)) c.index.ensures in
    copied_cell (leaf_cell c.loop-i.copy) (leaf_cell c.args.self.now) (leaf_cell c.put.new.self j) (c.in_ok-page.page, c.contains.result) c.loop-i.i j c.loop-i.invariant (λ k. (page k, c.contains.ensures k)) (c.put.ensures j) l
