-- What the content of a page means.
use Rattle.std.specs.Prelude.{ℕ, List, Option, Some, None}
use Rattle.mig_base.specs.Bytes.{zero_page}
use Rattle.page_table.specs.declared.page.Content.{Content}
use Rattle.page_table.specs.declared.page.Content.TheVariants.{Missing, Zeros, Bytes}

-- the bytes that a content means, none for a missing page
abbrev pub bytes_in : Content → Option (List ℕ)
bytes_in Missing = None
bytes_in Zeros = Some zero_page
bytes_in (Bytes bytes) = Some bytes
