use Rattle.std.proofs.Common.{◌/◌, arith, length}
use Rattle.foundation.specs.Bits.{is_one}
use Rattle.mig_model.specs.Ioctls.{copy_error, handed}
use Rattle.uffd_ioctl.specs.Spaces.{machine_space}
use Rattle.uffd_ioctl.proofs.InstallLemmas.{IsCall, copy_call}
use Rattle.uffd_ioctl.proofs.space.Space.copy.Goals as goal

call : (c : goal.After-outcome) → IsCall (copy_error c.args.self.now c.args.start (length c.args.bytes.now) c.args.mode) c.args.self.now (machine_space c.self.inside.areas c.put_copies-done.new.pages c.self.inside.object) c.args.start (length c.args.bytes.now / 4096) c.args.mode (handed c.args.bytes.now) (is_one c.args.mode 1) c.outcome.result
call c =
    copy_call c.self.inside.areas c.self.inside.pages c.put_copies-done.new.pages c.self.inside.object c.args.self.now c.args.start c.args.mode c.whole_pages-range.result.first c.put_copies-done.result.0 c.args.bytes.now c.has_bit-protect.result c.has_bit.result c.put_copies-done.result.1 c.outcome.result c.self.view_is c.self.invariant c.in_default.ensures c.whole_pages-range.ensures.first
    (let size = c.whole_pages-range.ensures.count in let inside = c.whole_pages-range.ensures.inside in omega arith)
    c.has_bit-protect.ensures c.has_bit.ensures
    (record { put = c.put_copies-done.ensures.put; now = c.put_copies-done.ensures.bytes; protected = c.put_copies-done.ensures.protected })
    c.outcome.ensures

pub invariant_of-self : goal.invariant_of-self
invariant_of-self c = (call c).sound

pub returns : goal.returns
returns c = record { row = (call c).row }
