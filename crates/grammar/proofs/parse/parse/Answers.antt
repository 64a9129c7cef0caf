use Rattle.grammar.proofs.Meaning.{no_script_line, no_transcript_line}
use Rattle.grammar.proofs.parse.parse.Goals as goal

pub returns-in-None-clause-none : goal.returns-in-None-clause-none
returns-in-None-clause-none c =
    rw c.in-Script.is (no_script_line c.args.text.now (λ h. let no = c.if-is_nothing.ensures.1 h in absurd cc) (rw c.in-None.is at c.in_ok-order-in-Script.ensures.none))

pub returns-in-None-2-clause-none : goal.returns-in-None-2-clause-none
returns-in-None-2-clause-none c =
    rw c.in-Transcript.is (no_transcript_line c.args.text.now (λ h. let no = c.if-is_nothing.ensures.1 h in absurd cc) (rw c.in-None-2.is at c.in_ok-entry-in-Transcript.ensures.none))
