use Rattle.std.proofs.Common.{◌≤◌, arith, length}
use Rattle.owed_pages.proofs.LinkLemmas.{same_links}
use Rattle.owed_pages.proofs.owed.links.Links.copy.Goals as goal

pub invariant_of-result : goal.invariant_of-result
invariant_of-result c =
    let links = c.args.self.now.kept in
    let few : length c.in_ok-forth.forth.items ≤ 1024 = let most = links.few in omega (arith, c.in_ok-forth.ensures.size) in
    let few_back : length c.in_ok-copy_places.field-0.items ≤ 1024 = let most = links.few_back in omega (arith, c.in_ok-copy_places.ensures.size) in
    record { kept = same_links c.args.self.now.forth.items c.args.self.now.back.items c.in_ok-forth.forth.items c.in_ok-copy_places.field-0.items c.args.self.now.count links few few_back c.in_ok-forth.ensures.same c.in_ok-copy_places.ensures.same }
