use Rattle.log_entries.specs.Stores.{no_shape}
use Rattle.log_entries.proofs.Shaped.{begun_again}
use Rattle.log_entries.proofs.tables.Tables.begin_slot.Goals as goal

pub returns-clause-event : goal.returns-clause-event
returns-clause-event c =
    begun_again c.shape_number.new.self.shapes.items c.in_ok-shape.shape c.addresses_of-to.result.0 c.addresses_of-to.result.1 c.shape_of.result c.args.made no_shape c.in_ok-shape.ensures.found c.shape_of.ensures
    c.addresses_of-to.ensures.to c.addresses_of-to.ensures.from
