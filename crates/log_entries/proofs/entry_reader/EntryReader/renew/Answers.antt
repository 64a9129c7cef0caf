use Rattle.std.proofs.lemmas.Result.{on_ok_weaker}
use Rattle.log_entries.proofs.Entered.{renewed}
use Rattle.log_entries.proofs.entry_reader.EntryReader.renew.Goals as goal

pub returns : goal.returns
returns c =
    on_ok_weaker c.note_program.result
    (λ e lines has. renewed lines c.args.self.now c.note_program.new.self c.args.one c.args.pid c.requires c.note_program.ensures.same e has)
    c.note_program.ensures.noted
