use Rattle.std.proofs.Common.{◌∙◌, sym, ap, not, arith, ◌&&◌, below_more}
use Rattle.std.proofs.lemmas.Bool.{and_left}
use Rattle.foundation.specs.Bits.{is_one}
use Rattle.foundation.proofs.RangeLemmas.{none_below-from, none_below-not}
use Rattle.mig_model.specs.Ioctls.{is_feature}
use Rattle.uffd_ioctl.proofs.RegisterLemmas.{is_unknown, is_known}
use Rattle.uffd_ioctl.proofs.arguments.has_unknown_feature.Goals as goal
use Rattle.uffd_ioctl.proofs.arguments.has_unknown_feature.Goals.{else-has_bit-via-then-has_bit+else-not-is_feature, else-has_bit-via-else-has_bit}

pub returns-then-not-is_feature : goal.returns-then-not-is_feature
returns-then-not-is_feature c =
    sym (ap not (none_below-not (λ i. is_one c.args.features i && not (is_feature i)) 64 c.loop-i.i c.loop-i-test.true
    (is_unknown _ _ (sym c.has_bit.ensures ∙ c.if-has_bit.true) (sym c.is_feature.ensures ∙ c.if-not-is_feature.true))))

pub loop-i-preserved : goal.loop-i-preserved
loop-i-preserved c =
    below_more _ _ c.loop-i.invariant
    (elim c.else-has_bit.branch [
      | else-has_bit-via-then-has_bit+else-not-is_feature w ↦ is_known _ _ (sym w.is_feature.ensures ∙ w.if-not-is_feature.false)
      | else-has_bit-via-else-has_bit w ↦ and_left _ _ (sym c.has_bit.ensures ∙ w.if-has_bit.false)
    ])

pub returns : goal.returns
returns c = sym (ap not (none_below-from (λ i. is_one c.args.features i && not (is_feature i)) 64 (λ k l. c.loop-i.invariant k (omega arith))))
