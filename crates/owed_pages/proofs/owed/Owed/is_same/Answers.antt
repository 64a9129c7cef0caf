use Rattle.std.proofs.Common.{◌∙◌, ap, sym}
use Rattle.std.specs.FinMap.{get}
use Rattle.owed_pages.proofs.OwedLemmas.{same_shown, seen}
use Rattle.owed_pages.proofs.owed.Owed.is_same.Goals as goal

pub returns : goal.returns
returns c =
    let mine = c.self.inside.links in
    let theirs = c.other.inside.links in (
      λ same. sym c.self.view_is
          ∙ same_shown theirs.forth.items mine.forth.items c.args.other.now theirs.kept.few mine.kept.few c.other.view_is (c.is_same.ensures.0 same),
      λ same. c.is_same.ensures.1
          (λ q. seen mine.forth.items c.args.self.now q mine.kept.few c.self.view_is ∙ ap (λ owed. get owed q) same ∙ sym (seen theirs.forth.items c.args.other.now q theirs.kept.few c.other.view_is)),
    )
