use Rattle.log_entries.proofs.Entered.{settled_or_same}
use Rattle.log_entries.proofs.entry_reader.EntryReader.settle.Goals as goal

pub returns-clause-read : goal.returns-clause-read
returns-clause-read c = λ lines has. settled_or_same lines c.args.self.now c.settle.new.self c.args.at c.args.space c.args.last c.settle.result c.settle.ensures.ok c.settle.ensures.err has
