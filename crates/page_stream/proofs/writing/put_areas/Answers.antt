use Rattle.std.proofs.Common.{length}
use Rattle.std.specs.Int.{w32, to_be_bytes}
use Rattle.mig_base.specs.declared.Prot.TheVariants.{NoAccess}
use Rattle.page_stream.specs.Texts.{area_text}
use Rattle.page_stream.proofs.Puts.{puts_more, puts_room, puts_all}
use Rattle.page_stream.proofs.writing.put_areas.Goals as goal

pub put_area-requires : goal.put_area-requires
put_area-requires c = puts_room c.args.into.now c.loop-area.into (to_be_bytes w32 (length c.args.areas.now)) area_text c.args.areas.now c.loop-area.area-index (record { first = 0; count = 0; prot = NoAccess }) c.loop-area-test.true c.requires.room c.loop-area.invariant

pub loop-area-preserved : goal.loop-area-preserved
loop-area-preserved c = puts_more c.args.into.now c.loop-area.into c.put_area.new.into (to_be_bytes w32 (length c.args.areas.now)) area_text c.args.areas.now c.loop-area.area-index (record { first = 0; count = 0; prot = NoAccess }) c.loop-area-test.true c.loop-area.invariant c.put_area.ensures

pub returns : goal.returns
returns c = puts_all c.args.into.now c.loop-area.into (to_be_bytes w32 (length c.args.areas.now)) area_text c.args.areas.now c.loop-area.area-index c.loop-area-test.false c.loop-area.invariant
