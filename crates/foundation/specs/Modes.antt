-- The modes of a registration.
use Rattle.std.specs.Prelude.{Bool}

-- the modes in which a page may be registered: ioctl_userfaultfd(2), UFFDIO_REGISTER
pub record Mode : Type 0 where
  -- a load or store of the page is a fault while it is missing: UFFDIO_REGISTER_MODE_MISSING
  pub missing : Bool
  -- a store to the page is a fault while it is write-protected: UFFDIO_REGISTER_MODE_WP
  pub protect : Bool
