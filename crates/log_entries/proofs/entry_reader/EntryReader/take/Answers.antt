use Rattle.std.proofs.Common.{◌≡◌, true, ap, inl, inr}
use Rattle.log_entries.proofs.Entered.{is_other, other}
use Rattle.log_entries.proofs.entry_reader.EntryReader.take.Goals as goal

pub returns-in-Dropped : goal.returns-in-Dropped
returns-in-Dropped c =
    let is : is_other c.args.one.line ≡ true =
    elim c.in-Dropped.is [ inl a ↦ ap is_other a.2 | inr a ↦ ap is_other a.1 ]
    in
    λ lines has. other lines c.args.self.now c.args.one is has
