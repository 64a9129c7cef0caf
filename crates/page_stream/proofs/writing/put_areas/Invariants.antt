use Rattle.std.proofs.Common.{length, take, ◌++◌}
use Rattle.std.specs.List.{flat_map}
use Rattle.std.specs.Int.{w32, to_be_bytes}
use Rattle.page_stream.specs.Texts.{area_text}
use Rattle.page_stream.specs.Writing.{Puts}
use Rattle.page_stream.proofs.writing.put_areas.Given as goal

abbrev pub invariant-loop-area : goal.invariant-loop-area
invariant-loop-area l = Puts l.fn.into l.into (to_be_bytes w32 (length l.areas) ++ flat_map area_text (take l.area-index l.areas))
