use Rattle.std.proofs.Common.{◌≡◌, ◌≤◌, length}
use Rattle.grammar.specs.Words.{words_of}
use Rattle.grammar.proofs.token.skip_spaces.Given as goal

abbrev pub invariant-loop-rest : goal.invariant-loop-rest
invariant-loop-rest l = record {
  words : words_of l.rest ≡ words_of l.text;
  shorter : length l.rest ≤ length l.text;
}

abbrev pub decreases-loop-rest : goal.decreases-loop-rest
decreases-loop-rest l = length l.rest
