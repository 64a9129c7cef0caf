use Rattle.std.proofs.Common.{◌∙◌, sym, ap, get_or, None}
use Rattle.owed_pages.specs.Tables.{number_in}
use Rattle.owed_pages.proofs.TableLemmas.{all_none}
use Rattle.owed_pages.proofs.owed.table.place_make.Goals as goal

pub returns-in-Ok-clause-same : goal.returns-in-Ok-clause-same
returns-in-Ok-clause-same c = λ i.
    ap (λ xs. get_or xs i None) c.in-Ok.ensures.ok
    ∙ all_none 1024 i
    ∙ sym (ap (λ o. number_in o i) c.in-None.is)
