use Rattle.std.proofs.Common.{length, take, ◌++◌}
use Rattle.std.specs.List.{flat_map}
use Rattle.std.specs.Int.{w32, to_be_bytes}
use Rattle.page_stream.specs.Writing.{Puts}
use Rattle.page_stream.proofs.writing.put_pages.Given as goal

abbrev pub invariant-loop-page : goal.invariant-loop-page
invariant-loop-page l = Puts l.fn.into l.into (to_be_bytes w32 l.first ++ to_be_bytes w32 (length l.pages) ++ flat_map (λ page. page) (take l.page-index l.page-items))
