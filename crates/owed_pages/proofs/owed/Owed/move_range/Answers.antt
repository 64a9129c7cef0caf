use Rattle.std.proofs.Common.{◌∙◌, ap, cond, None}
use Rattle.foundation.specs.Ranges.{in_range}
use Rattle.mig_base.proofs.PageSetViews.{on_any_err}
use Rattle.owed_pages.proofs.OwedLemmas.{same_shown, moved_shown}
use Rattle.owed_pages.proofs.owed.Owed.move_range.Goals as goal

pub returns-in_err-make_room-clause-err : goal.returns-in_err-make_room-clause-err
returns-in_err-make_room-clause-err c = on_any_err c.from_residual.result
    (same_shown c.self.inside.links.forth.items c.make_room.new.self.forth.items c.args.self.now c.self.inside.links.kept.few c.make_room.new.self.kept.few c.self.view_is c.make_room.ensures.same)

pub returns-clause-ok : goal.returns-clause-ok
returns-clause-ok c =
    moved_shown c.self.inside.links.forth.items c.unlink_range.new.self.forth.items c.move_links.new.self.forth.items c.args.self.now c.args.from c.args.to c.args.count c.self.inside.links.kept.few c.move_links.new.self.kept.few c.self.view_is c.requires.apart
    (λ q. c.unlink_range.ensures.pairs q ∙ ap (λ o. cond (in_range c.args.to c.args.count q) None o) (c.make_room.ensures.same q))
    c.move_links.ensures.moved
