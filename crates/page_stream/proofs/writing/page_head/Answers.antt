use Rattle.std.proofs.Common.{ℕ, ◌++◌, sym, ap}
use Rattle.std.specs.Int.{w32, to_be_bytes}
use Rattle.page_stream.specs.Texts.{header_text, text}
use Rattle.page_stream.specs.Texts.Version.{Two}
use Rattle.page_stream.proofs.FrameTexts.{page_long}
use Rattle.page_stream.proofs.writing.page_head.Goals as goal

pub returns : goal.returns
unfolding text
returns c bytes whole =
    rw (c.copy_from_slice-2.ensures.after, c.copy_from_slice.ensures.after, c.to_be_bytes.ensures, c.header.ensures)
    (ap (λ (n : ℕ). header_text Two 2 c.args.epoch n ++ to_be_bytes w32 c.args.page ++ bytes) (sym (page_long c.args.page bytes whole)))
