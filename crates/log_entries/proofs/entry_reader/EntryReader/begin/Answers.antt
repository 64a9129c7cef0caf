use Rattle.std.proofs.Common.{◌≡◌, ◌∙◌, ◌++◌, ◌∷◌, [], List, ap}
use Rattle.std.proofs.lemmas.Result.{on_ok_weaker}
use Rattle.kernel_rules.specs.Runs.{Event, begins}
use Rattle.log_entries.specs.declared.entry_reader.EntryReader.{EntryReader}
use Rattle.log_entries.specs.declared.log_line.LogLine.{LogLine}
use Rattle.log_entries.specs.Readers.{others}
use Rattle.log_entries.proofs.Entered.{begun}
use Rattle.log_entries.proofs.entry_reader.EntryReader.begin.Goals as goal

pub returns : goal.returns
returns c =
    let keep = c.keep.ensures.same in
    let new : EntryReader = record c.keep.new.self { entries = c.push_begin.new.self } in
    let whole : c.keep.new.self.whole ≡ c.args.self.now.whole = ap (λ (r : EntryReader). r.whole) keep in
    let programs = ap (λ (r : EntryReader). r.programs) keep in
    let kept : c.keep.new.self.kept.items ≡ others c.args.stamp.pid c.args.number c.args.self.now.kept.items ++ c.args.one ∷ [] =
    c.in_ok-keep.ensures.kept ∙ ap (λ (l : List LogLine). l ++ c.args.one ∷ []) c.remove_lines.ensures
    in
    let same : c.keep.new.self.entries ≡ c.args.self.now.entries = ap (λ (r : EntryReader). r.entries) keep in
    on_ok_weaker c.push_begin.result
    (λ e lines has.
    begun lines c.args.self.now new c.args.one c.args.stamp c.args.number c.args.call c.made_by.result c.program-program.result c.requires whole programs kept c.program-program.ensures c.made_by.ensures
    (e ∙ ap (λ (l : List Event). l ++ begins c.made_by.result ∷ []) same) has)
    c.push_begin.ensures.ok
