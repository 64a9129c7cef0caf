-- A registered page, and what becomes of it.
use Rattle.std.specs.Prelude.{ℕ, ◌==◌, ◌&&◌, ◌||◌, not, Bool, true, false, if◌then◌else◌, Option, Some, None}
use Rattle.foundation.specs.Bits.{is_one}
use Rattle.foundation.specs.Modes.{Mode}
use Rattle.kernel_rules.specs.declared.known.Page.{Page}
use Rattle.kernel_rules.specs.declared.known.Presence.{Presence}
use Rattle.kernel_rules.specs.declared.known.Presence.TheVariants.{Unknown, Missing, Present, Poisoned}

-- the page is known to be missing
abbrev pub is_missing : Presence → Bool
is_missing Missing = true
is_missing Unknown = false
is_missing Present = false
is_missing Poisoned = false

-- the page is known to be present
abbrev pub is_present : Presence → Bool
is_present Missing = false
is_present Unknown = false
is_present Present = true
is_present Poisoned = false

-- the page is poisoned
abbrev pub is_poisoned : Presence → Bool
is_poisoned Missing = false
is_poisoned Unknown = false
is_poisoned Present = false
is_poisoned Poisoned = true

-- whether a page may be missing, as far as is known, or is poisoned
abbrev pub may_be_missing : Page → Bool
may_be_missing page = not (is_present page.presence)

-- whether a page may be missing, and is not poisoned
abbrev pub may_be_empty : Page → Bool
may_be_empty page = may_be_missing page && not (is_poisoned page.presence)

-- whether a page may be there. One that is not registered for missing faults may have been touched by anybody
abbrev pub may_be_there : Page → Bool
may_be_there page = not (is_missing page.presence) || not page.missing

-- whether a page is known not to be there, or is poisoned
abbrev pub is_lacking : Page → Bool
is_lacking page = not (may_be_there page) || is_poisoned page.presence

-- whether UFFDIO_MOVE cannot take a page from its place: one that is missing only where it may not leave a hole
abbrev pub is_unmovable : Bool → Page → Bool
is_unmovable holes page = is_poisoned page.presence || not holes && not (may_be_there page)

-- a page that MADV_POPULATE_READ or MADV_POPULATE_WRITE has found there, the latter without protection
abbrev pub populated_page : Bool → Page → Page
populated_page write page = record page { presence = Present; guarded = page.guarded && not write; freed = page.freed && not write }

-- the modes of a word of UFFDIO_REGISTER
abbrev pub mode_of : ℕ → Mode
mode_of bits = record { missing = is_one bits 0; protect = is_one bits 1 }

-- what is known of a page that may have this presence: that it is missing only where it is registered for missing faults, since elsewhere
-- a processor's touch fills it without a message
abbrev pub known_as : Bool → Presence → Presence
known_as missing presence = if is_missing presence && not missing then Unknown else presence

-- a page once it is registered: one that has all modes asked for keeps its own
abbrev pub with_mode : Mode → Bool → Page → Page
with_mode mode minor page =
    if (not minor || page.minor) && ((not mode.missing || page.missing) && (not mode.protect || page.protect)) then page
    else
    record page {
      missing = mode.missing;
      protect = mode.protect;
      minor = minor;
      presence = known_as mode.missing page.presence;
      guarded = page.guarded && mode.protect;
    }

-- a page once an object has registered it in this mode: nothing is known of its presence, if it was not registered before, nor whether
-- MADV_FREE was called for it
abbrev pub registered_page : ℕ → Mode → Bool → Option Page → Option Page
registered_page name mode minor None =
    Some (record { object = name; missing = mode.missing; protect = mode.protect; minor = minor; presence = Unknown; guarded = false; put = false; freed = true })
registered_page name mode minor (Some page) = Some (with_mode mode minor page)

-- the page, unless it is registered with the object
abbrev pub without_object : ℕ → Option Page → Option Page
without_object name None = None
without_object name (Some page) = if page.object == name then None else Some page

-- a page once it is put
abbrev pub put_page : Bool → Page → Page
put_page protect page = record page { presence = Present; guarded = protect; put = true; freed = false }

-- a page once it is poisoned
abbrev pub poisoned_page : Page → Page
poisoned_page page = record page { presence = Poisoned; guarded = false; put = true; freed = false }

-- a page to which another one may have been moved
abbrev pub perhaps_put : Page → Page
perhaps_put page = record page { presence = Unknown; guarded = false; put = true; freed = false }

-- whether a call may stop at a page that is not there: where `cached`, at one of the page cache, if it is registered for minor faults; where
-- `marked`, at the marker that protects a missing page
abbrev pub may_stop : Bool → Bool → Page → Bool
may_stop cached marked page = cached && page.minor || marked && page.guarded

-- a page at which a call has stopped: it is there, or poisoned, unless what may stop the call elsewhere says nothing of it
abbrev pub found_there : Bool → Bool → Page → Page
found_there cached marked page = if is_poisoned page.presence || may_stop cached marked page then page else record page { presence = Present }

-- a page once it is protected, or no longer: one that is missing has no protection, unless UFFD_FEATURE_WP_UNPOPULATED was asked for
abbrev pub protected_page : Bool → Bool → Page → Page
protected_page protect unpopulated page =
    if page.protect then record page { guarded = protect && (unpopulated || not (is_missing page.presence)) } else page

-- a page of a range that a refused call may have protected
abbrev pub perhaps_protected : Bool → Page → Page
perhaps_protected protect page = if protect && page.protect then record page { guarded = true } else page

-- a page of a range of which a call may have cleared the first pages
abbrev pub perhaps_cleared : Page → Page
perhaps_cleared page = if is_missing page.presence then page else record page { presence = Unknown }

-- nothing is known of the page's presence
abbrev pub is_unknown : Presence → Bool
is_unknown Missing = false
is_unknown Unknown = true
is_unknown Present = false
is_unknown Poisoned = false

-- a page of which a recorder has found this: it settles what is not known
abbrev pub settled : Presence → Page → Page
settled found page = if is_unknown page.presence then record page { presence = known_as page.missing found } else page

-- UFFD_PAGEFAULT_FLAG_WP
abbrev pub is_of_protection : ℕ → Bool
is_of_protection flags = is_one flags 1

-- UFFD_PAGEFAULT_FLAG_MINOR
abbrev pub is_of_minor : ℕ → Bool
is_of_minor flags = is_one flags 2

-- what a fault shows of its page: a write-protected one is present, and another one missing or not mapped, so that it is not protected
abbrev pub shown : Bool → Page → Page
shown true page = record page { presence = Present }
shown false page = record page { presence = known_as page.missing Missing; guarded = false }

-- a page once it is cleared
abbrev pub cleared_page : Page → Page
cleared_page page = record page { presence = known_as page.missing Missing; guarded = false; freed = false }

-- a page that the kernel may take back from now on, if it is there. One that is poisoned is cleared
abbrev pub freed_page : Page → Page
freed_page page =
    if is_missing page.presence then page else if is_poisoned page.presence then cleared_page page else record page { presence = Unknown; freed = true }

-- whether the kernel may take back a page that is registered with an object
abbrev pub is_freed : ℕ → Page → Bool
is_freed name page = page.object == name && page.freed && not (is_missing page.presence)
