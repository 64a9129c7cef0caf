use Rattle.std.proofs.Common.{ap, ◌∙◌}
use Rattle.uffd_log.specs.Lines.{line_from}
use Rattle.uffd_log.proofs.OneToken.{no_line}
use Rattle.uffd_log.proofs.parse.parse.Goals as goal

pub returns-then-branch-clause-none : goal.returns-then-branch-clause-none
returns-then-branch-clause-none c =
    no_line c.args.text.now c.read_tokens.new.tokens.items c.line_of.result (rw c.if-branch.true at c.in_ok-read_tokens.ensures.found) (c.line_of.ensures ∙ ap line_from c.deref.ensures.value)
