use Rattle.std.proofs.Common.{◌≡◌, ◌∙◌, List, ap, refl}
use Rattle.std.specs.Prelude.{not}
use Rattle.foundation.specs.Tests.{is_empty}
use Rattle.log_entries.specs.declared.entry_reader.EntryReader.{EntryReader}
use Rattle.log_entries.specs.declared.log_line.LogLine.{LogLine}
use Rattle.log_entries.specs.Readers.{own}
use Rattle.log_entries.proofs.Entered.{read_more, read_none}
use Rattle.log_entries.proofs.entry_reader.EntryReader.read.Goals as goal

pub returns-in_ok-keep : goal.returns-in_ok-keep
returns-in_ok-keep c =
    let keep = c.keep.ensures.same in
    let test : c.has_line.result ≡ not (is_empty (own c.args.pid c.args.number c.args.self.now.kept.items)) =
    c.has_line.ensures ∙ ap (λ (l : List LogLine). not (is_empty (own c.args.pid c.args.number l))) c.deref.ensures.value
    in
    λ lines has.
    read_more lines c.args.self.now c.keep.new.self c.args.one c.args.pid c.args.number c.has_line.result c.requires.of c.requires.kind test c.if-has_line.true (ap (λ (r : EntryReader). r.whole) keep)
    (ap (λ (r : EntryReader). r.programs) keep) (ap (λ (r : EntryReader). r.entries) keep) c.in_ok-keep.ensures.kept has

pub returns-else-has_line : goal.returns-else-has_line
returns-else-has_line c =
    let test : c.has_line.result ≡ not (is_empty (own c.args.pid c.args.number c.args.self.now.kept.items)) =
    c.has_line.ensures ∙ ap (λ (l : List LogLine). not (is_empty (own c.args.pid c.args.number l))) c.deref.ensures.value
    in
    λ lines has. read_none lines c.args.self.now c.args.self.now c.args.one c.args.pid c.args.number c.has_line.result c.requires.of c.requires.kind test c.if-has_line.false refl has
