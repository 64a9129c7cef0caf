-- The header of a text: 12 bytes. The first rule that it breaks decides the fault of the stream.
use Rattle.std.specs.Prelude.{ℕ, Bool, ◌&&◌, ◌==◌, if◌then◌else◌, List, take, drop, slice_index, Option, Some, None, Result, Ok, Err}
use Rattle.std.specs.Int.{w32, from_be_bytes}
use Rattle.frame_decoder.specs.declared.fault.StreamFault.{StreamFault}
use Rattle.frame_decoder.specs.declared.fault.StreamFault.TheVariants as faults
use Rattle.frame_decoder.specs.declared.tag.Tag.{Tag}
use Rattle.frame_decoder.specs.declared.version.Version.{Version}
use Rattle.frame_decoder.specs.Versions.{version_from, tag_from, allows}

-- the fields of a header; `len` is the length of the body in bytes
pub record Header : Type 0 where
  pub version : Version
  pub tag : Tag
  pub epoch : ℕ
  pub len : ℕ

-- a header of a known version: BadTag if the version does not have the tag, then BadLength if no body of such a frame has the length, then
-- BadField if byte 2 or 3 is not zero
abbrev pub header_with : Version → Option Tag → (epoch len : ℕ) → (zeros : Bool) → Result Header StreamFault
header_with version None epoch len zeros = Err faults.BadTag
header_with version (Some t) epoch len zeros =
    if allows version t len then (if zeros then Ok (record { version = version; tag = t; epoch = epoch; len = len }) else Err faults.BadField) else Err faults.BadLength

-- a header, which is BadTag if the version is not known
abbrev pub header_from : Option Version → (code epoch len : ℕ) → (zeros : Bool) → Result Header StreamFault
header_from None code epoch len zeros = Err faults.BadTag
header_from (Some version) code epoch len zeros = header_with version (tag_from version code) epoch len zeros

-- the header in the first 12 bytes, or its first fault: an unknown version or tag, or another version than the fixed one; a length that
-- no body of such a frame has; a byte 2 or 3 that is not zero
unfoldable pub header_at : (fixed : Option Version) → List ℕ → Result Header StreamFault
header_at fixed bytes = header_from (version_from fixed (slice_index bytes 0)) (slice_index bytes 1)
    (from_be_bytes w32 (take 4 (drop 4 bytes))) (from_be_bytes w32 (take 4 (drop 8 bytes))) (slice_index bytes 2 == 0 && slice_index bytes 3 == 0)
