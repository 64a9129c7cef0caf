-- The versions of a stream: the frames of each, and the lengths of their bodies in bytes.
use Rattle.std.specs.Prelude.{◌≡◌, ℕ, ◌+◌, ◌-◌, ◌*◌, ◌%◌, ◌≤◌, Bool, true, false, ◌&&◌, ◌==◌, nat_le, if◌then◌else◌, List, [], ◌∷◌, Option, Some, None}
use Rattle.std.specs.FinMap as finmap
use Rattle.std.specs.FinSet.{len}
use Rattle.foundation.specs.declared.TheConstants.{PAGE_SIZE}
use Rattle.mig_base.specs.declared.TheConstants.{LOW_PAGE, HIGH_PAGE, MAX_PAGES, MAX_CPUS, MAX_RUN}
use Rattle.mig_model.specs.Bounds.{IsFrame}
use Rattle.mig_model.specs.Wire.{Frame}
use Rattle.page_stream.specs.Texts as texts
use Rattle.frame_decoder.specs.declared.tag.Tag.{Tag}
use Rattle.frame_decoder.specs.declared.tag.Tag.TheVariants as tag
use Rattle.frame_decoder.specs.declared.version.Version.{Version}
use Rattle.frame_decoder.specs.declared.version.Version.TheVariants as versions
use Rattle.frame_decoder.specs.declared.version.TheConstants.{FIRST_MAX_PAGES}

-- bridges the code's version to that of the texts
abbrev pub version_of : Version → texts.Version
version_of versions.One = texts.Version.One
version_of versions.Two = texts.Version.Two

-- the number of pages that may be mapped: 16,384 in version 1, and 262,144 in version 2
abbrev pub max_pages : Version → ℕ
max_pages versions.One = FIRST_MAX_PAGES
max_pages versions.Two = MAX_PAGES

-- whether the version has the frame Run
abbrev pub has_runs : Version → Bool
has_runs versions.One = false
has_runs versions.Two = true

-- Frames

-- no more pages are mapped, and no more are owed, than may be mapped
abbrev pub AreFewIn : Version → Frame → Type 0
AreFewIn version (Frame.Package areas owed commands) = (finmap.len areas ≤ max_pages version) × (len owed ≤ max_pages version)
AreFewIn version (Frame.Recv state owed) = len owed ≤ max_pages version
AreFewIn version frame = Unit {0}

-- a frame that a stream of the version may have: the version has it, it is well formed, and it has no more pages than may be mapped
pub record IsFrameIn (version : Version) (frame : Frame) : Type 0 where
  pub has : texts.has_frame (version_of version) frame ≡ true
  pub right : IsFrame frame
  pub few : AreFewIn version frame

-- Headers

-- the version of a header, by its first byte; None if it is not known, or not the fixed one
abbrev pub version_from : Option Version → ℕ → Option Version
version_from None code = if code == 1 then Some versions.One else (if code == 2 then Some versions.Two else None)
version_from (Some version) code = if code == texts.version_code (version_of version) then Some version else None

-- the tag of a frame, which its header has as the byte `code_of`
abbrev pub tag_of : Frame → Tag
tag_of Frame.Advise = tag.Advise
tag_of (Frame.Page page bytes) = tag.Page
tag_of (Frame.Zero page) = tag.Zero
tag_of (Frame.Discard pages) = tag.Discard
tag_of (Frame.Package areas owed commands) = tag.Package
tag_of (Frame.End urgent) = tag.End
tag_of Frame.Resume = tag.Resume
tag_of (Frame.Run first pages) = tag.Run
tag_of (Frame.Request page) = tag.Request
tag_of (Frame.Recv state owed) = tag.Recv
tag_of Frame.Done = tag.Done

-- the byte of a tag, the second of a header; those of frames that go back to the source have the highest bit set
abbrev pub code_of : Tag → ℕ
code_of tag.Advise = 0x01
code_of tag.Page = 0x02
code_of tag.Zero = 0x03
code_of tag.Discard = 0x04
code_of tag.Package = 0x05
code_of tag.End = 0x06
code_of tag.Resume = 0x07
code_of tag.Run = 0x08
code_of tag.Request = 0x81
code_of tag.Recv = 0x82
code_of tag.Done = 0x83

-- the tags of a version: only version 2 has Run
abbrev pub tags_of : Version → List Tag
tags_of version =
    tag.Advise ∷ tag.Page ∷ tag.Zero ∷ tag.Discard ∷ tag.Package ∷ tag.End ∷ tag.Resume ∷ tag.Request ∷ tag.Recv ∷ tag.Done ∷ (if has_runs version then tag.Run ∷ [] else [])

-- the tag in a list with that byte
abbrev pub tag_among : ℕ → List Tag → Option Tag
tag_among code [] = None
tag_among code (t ∷ rest) = if code == code_of t then Some t else tag_among code rest

-- the tag with that byte; None if the version has none
abbrev pub tag_from : Version → ℕ → Option Tag
tag_from version code = tag_among code (tags_of version)

-- whether a body of such a frame may have that length in bytes: frames without lists have one length, the others bounds, and all of them
-- but a Package a whole number of items
abbrev pub allows : Version → Tag → ℕ → Bool
allows version tag.Advise len = len == 0
allows version tag.Page len = len == 4 + PAGE_SIZE
allows version tag.Zero len = len == 4
allows version tag.Discard len = nat_le 4 len && nat_le len (4 + 4 * (HIGH_PAGE - LOW_PAGE)) && len % 8 == 4
allows version tag.Package len = nat_le 10 len && nat_le len (9 + 17 * max_pages version + 18 * MAX_CPUS)
allows version tag.End len = len == 4
allows version tag.Resume len = len == 0
allows version tag.Run len = nat_le (8 + PAGE_SIZE) len && nat_le len (8 + PAGE_SIZE * MAX_RUN) && len % PAGE_SIZE == 8
allows version tag.Request len = len == 4
allows version tag.Recv len = nat_le 5 len && nat_le len (5 + 8 * max_pages version) && len % 8 == 5
allows version tag.Done len = len == 0
