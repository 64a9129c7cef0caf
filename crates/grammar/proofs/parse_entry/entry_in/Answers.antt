use Rattle.std.proofs.Common.{ap, ◌∙◌}
use Rattle.grammar.specs.Parsing.{entry_from}
use Rattle.grammar.proofs.Entries.{entry_words_found, entry_words_none}
use Rattle.grammar.proofs.parse_entry.entry_in.Goals as goal

pub returns-then-branch-clause-found : goal.returns-then-branch-clause-found
returns-then-branch-clause-found c =
    entry_words_found _ c.read_tokens.new.tokens.items c.entry_of.result (rw c.if-branch.true at c.in_ok-read_tokens.ensures.found) (c.entry_of.ensures ∙ ap entry_from c.deref.ensures.value)

pub returns-then-branch-clause-none : goal.returns-then-branch-clause-none
returns-then-branch-clause-none c =
    entry_words_none _ c.read_tokens.new.tokens.items c.entry_of.result (rw c.if-branch.true at c.in_ok-read_tokens.ensures.found) (c.entry_of.ensures ∙ ap entry_from c.deref.ensures.value)
