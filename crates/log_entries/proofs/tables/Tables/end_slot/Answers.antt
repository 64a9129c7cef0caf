use Rattle.log_entries.proofs.Stored.{ended_event}
use Rattle.log_entries.proofs.tables.Tables.end_slot.Goals as goal

pub returns-clause-event : goal.returns-clause-event
returns-clause-event c =
    ended_event c.answer_number.new.self c.add_messages.new.self c.add_runs.new.self c.args.key c.in_ok-answer.answer c.in_ok-messages.messages c.in_ok-runs.runs c.args.answer c.args.messages.now c.args.runs.now
    c.add_messages.ensures.grown c.add_runs.ensures.grown c.in_ok-answer.ensures.found c.in_ok-messages.ensures.part c.in_ok-messages.ensures.added c.in_ok-runs.ensures.added
