use Rattle.std.proofs.Common.{◌∙◌, ap, sym}
use Rattle.mig_base.specs.Flat.{mmap_reply}
use Rattle.mig_model.specs.Host.{memory}
use Rattle.uffd_ioctl.specs.MapCalls.{host_of}
use Rattle.uffd_ioctl.proofs.map_calls.mmap_place.Goals as goal

pub returns-in-Anywhere : goal.returns-in-Anywhere
returns-in-Anywhere c = λ prot bytes sound. c.free_place.ensures prot bytes sound ∙ ap (λ place. mmap_reply (memory (host_of c.args.areas.now bytes)) c.args.len prot place) (sym c.in-Anywhere.is)
