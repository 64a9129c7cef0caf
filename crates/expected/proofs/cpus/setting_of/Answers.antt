use Rattle.std.proofs.Common.{◌∷◌, [], length, arith, ap, ◌∙◌}
use Rattle.grammar.specs.declared.token.Token.TheVariants.{Number}
use Rattle.expected.proofs.Settings.{says_one, says_some}
use Rattle.expected.proofs.cpus.setting_of.Goals as goal

pub returns-then-not-branch : goal.returns-then-not-branch
returns-then-not-branch c = (_, c.in-Some.ensures.found, λ count says. (rw c.if-not-branch.true at c.in_ok-read_tokens.ensures.none) (Number count ∷ []) (says_some _ _ count c.in-Some.ensures.found says))

pub returns-in_default-as_slice-5 : goal.returns-in_default-as_slice-5
returns-in_default-as_slice-5 c = (
  _,
  c.in-Some.ensures.found,
  λ count says.
      let one = ap length (c.as_slice.ensures.value ∙ says_one _ _ _ count c.in-Some.ensures.found (rw c.if-not-branch.false at c.in_ok-read_tokens.ensures.found) says) in
      omega (arith, one, c.in_default-as_slice.len_at_least),
)
