use Rattle.std.proofs.Common.{ℕ, List, ◌++◌, length, sym, ap, ◌∙◌}
use Rattle.std.specs.List.{flat_map}
use Rattle.std.specs.Int.{w32, to_be_bytes}
use Rattle.mig_model.specs.Wire as machine
use Rattle.page_stream.specs.Texts.{body_text, header_text, text}
use Rattle.page_stream.specs.Texts.Version.{Two}
use Rattle.page_stream.proofs.FrameTexts.{run_long}
use Rattle.page_stream.proofs.writing.run_head.Goals as goal

pub returns : goal.returns
unfolding text
returns c pages many whole =
    let head : ℕ → ℕ → List ℕ = λ len n. header_text Two 8 c.args.epoch len ++ to_be_bytes w32 c.args.first ++ to_be_bytes w32 n ++ flat_map (λ page. page) pages in
    rw (c.copy_from_slice-3.ensures.after, c.copy_from_slice-2.ensures.after, c.copy_from_slice.ensures.after, c.to_be_bytes-2.ensures, c.to_be_bytes.ensures, c.header.ensures)
    (ap (λ (len : ℕ). head len c.args.count) (sym (run_long c.args.first c.args.count pages many whole)) ∙ ap (head (length (body_text (machine.Frame.Run c.args.first pages)))) (sym many))
