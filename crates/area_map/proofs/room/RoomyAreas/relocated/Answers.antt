use Rattle.area_map.proofs.ViewLemmas.{relocated_answer}
use Rattle.area_map.proofs.room.RoomyAreas.relocated.Goals as goal

pub returns : goal.returns
returns c =
    relocated_answer c.self.inside.areas.items c.put_in_room.new.areas.items c.put_in_room-2.new.areas.items c.args.self c.args.from c.args.count c.args.to c.args.new_count c.args.prot c.self.view_is c.put_in_room.ensures.pages c.put_in_room-2.ensures.pages
