use Rattle.std.proofs.Common.{◌/◌, false}
use Rattle.mig_base.specs.Bytes.{zero_page}
use Rattle.mig_model.specs.Ioctls.{zeropage_error}
use Rattle.uffd_ioctl.specs.Spaces.{machine_space}
use Rattle.uffd_ioctl.proofs.InstallLemmas.{IsCall, zeropage_call, same_protected}
use Rattle.uffd_ioctl.proofs.space.Space.zeropage.Goals as goal

call : (c : goal.After-outcome) → IsCall (zeropage_error c.args.self.now c.args.start c.args.len c.args.mode) c.args.self.now (machine_space c.self.inside.areas c.put_zeros-done.new.pages c.self.inside.object) c.args.start (c.args.len / 4096) c.args.mode (λ i. zero_page) false c.outcome.result
call c =
    zeropage_call c.self.inside.areas c.self.inside.pages c.put_zeros-done.new.pages c.self.inside.object c.args.self.now c.args.start c.args.len c.args.mode c.whole_pages-range.result.first c.whole_pages-range.result.count c.put_zeros-done.result.0 c.has_bit.result c.put_zeros-done.result.1 c.outcome.result c.self.view_is c.self.invariant c.in_default.ensures c.whole_pages-range.ensures.first c.whole_pages-range.ensures.count c.whole_pages-range.ensures.inside c.has_bit.ensures
    (record {
      put = c.put_zeros-done.ensures.put;
      now = c.put_zeros-done.ensures.bytes;
      protected = λ q. same_protected c.self.inside.pages.protected c.put_zeros-done.new.pages.protected c.whole_pages-range.result.first c.put_zeros-done.result.0 q c.put_zeros-done.ensures.protected;
    })
    c.outcome.ensures

pub invariant_of-self : goal.invariant_of-self
invariant_of-self c = (call c).sound

pub returns : goal.returns
returns c = record { row = (call c).row }
