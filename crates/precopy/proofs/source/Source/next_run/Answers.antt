use Rattle.std.proofs.Common.{sym, ◌∙◌}
use Rattle.precopy.proofs.RunLemmas.{few_are, few_pages, run_some}
use Rattle.precopy.proofs.source.Source.next_run.Goals as goal

pub returns-clause-pages : goal.returns-clause-pages
returns-clause-pages c =
    let node = c.args.self.now in
    let first = c.in_ok-first.first in
    let pages = c.run_length.result in
    let few = few_are node first c.args.most c.most_of.result pages (rw (← c.self.view_is) c.run_length.ensures.run) c.most_of.ensures in
    (rw few (run_some node first c.args.most (sym c.next_to_send.ensures.answer ∙ c.in_ok-first.was)), few_pages node first c.args.most pages c.most_of.result c.most_of.ensures c.run_length.ensures.few, c.run_length.ensures.inside)
