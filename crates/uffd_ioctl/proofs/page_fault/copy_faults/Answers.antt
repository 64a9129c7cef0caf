use Rattle.std.proofs.Common.{◌≡◌, ◌∙◌, ◌+◌, ◌++◌, ◌∷◌, [], suc, sym, ap, arith, take}
use Rattle.std.proofs.Math.Seq.{take-suc}
use Rattle.uffd_ioctl.proofs.page_fault.copy_faults.Goals as goal

pub loop-i-preserved : goal.loop-i-preserved
loop-i-preserved c =
    let next : suc c.loop-i.i ≡ c.loop-i.i + 1 = omega arith in
    rw c.in_ok-push_back.ensures.items
    ((λ k. c.loop-i.invariant k ++ (c.copy.ensures ∙ c.index.ensures) k ∷ [])
    ∙ sym (take-suc c.args.faults.now.items c.loop-i.i c.index.result.now (omega arith))
    ∙ ap (λ n. take n c.args.faults.now.items) next)
