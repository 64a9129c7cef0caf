-- A space whose userfault object is not enabled, and which commands need memory in it.
use Rattle.std.specs.Prelude.{◌≡◌, ◌&&◌, not, Bool, false}
use Rattle.std.specs.FinSet.{empty}
use Rattle.mig_base.specs.declared.command.Command.{Command}
use Rattle.mig_base.specs.declared.command.Command.TheVariants.{Load, Store, DontNeed}
use Rattle.mig_base.specs.Flat.{reply_of}
use Rattle.mig_base.specs.Userfault.{fresh_object}
use Rattle.mig_model.specs.Host.{Host, memory}
use Rattle.mig_model.specs.Space.{Space, IsSoundSpace, is_made}
use Rattle.uffd_ioctl.specs.Spaces.{is_refused, store_needs_room}

-- the object is not enabled and has no registered page and no message, and no page is write-protected
pub record IsUnwatched (space : Space) : Type 0 where
  pub sound : IsSoundSpace space
  pub object : space.object ≡ fresh_object
  pub protected : space.protected ≡ empty

-- whether a command may need memory: a store that is made, to a missing page or of another number than 0 to a page of zeros, and mmap,
-- munmap or mremap that is not refused, for the mapping
abbrev pub host_needs_room : Host → Command → Bool
host_needs_room host (Load addr width) = false
host_needs_room host (Store addr width value) =
    is_made (reply_of (memory host) (Store addr width value)) && store_needs_room host (Store addr width value)
host_needs_room host (DontNeed addr len) = false
host_needs_room host command = not (is_refused (reply_of (memory host) command))
