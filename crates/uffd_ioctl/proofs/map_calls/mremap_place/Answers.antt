use Rattle.std.proofs.Common.{◌∙◌, ap, sym, arith}
use Rattle.mig_base.specs.Flat.{mremap_target}
use Rattle.foundation.specs.Ranges.{rounded}
use Rattle.mig_model.specs.Host.{memory}
use Rattle.uffd_ioctl.specs.MapCalls.{host_of}
use Rattle.uffd_ioctl.proofs.MapCallLemmas.{remap_answer}
use Rattle.uffd_ioctl.proofs.map_calls.mremap_place.Goals as goal

pub returns-in-Some : goal.returns-in-Some
returns-in-Some c = λ bytes sound.
    let one = sym (c.if-not-has_one_prot.ensures.one bytes sound) in
    remap_answer (host_of c.args.areas.now bytes) c.args.addr c.args.old_len c.args.new_len c.args.may_move c.args.fixed _ (omega arith) (omega arith) (omega arith) (sym c.if-is_bad_target.ensures) one
    (c.moved_place.ensures bytes sound one c.args.may_move ∙ ap (mremap_target (memory (host_of c.args.areas.now bytes)) c.args.addr (rounded c.args.old_len) (rounded c.args.new_len) c.args.may_move) (sym c.in-Some.is))
