use Rattle.mig_laws.proofs.LogNodes.{left}
use Rattle.mig_laws.proofs.sides.a_log_decides_its_node.Goals as goal

pub returns-clause-source : goal.returns-clause-source
returns-clause-source c old new order = (left old order.turns order.effects new order.are).source

pub returns-clause-destination : goal.returns-clause-destination
returns-clause-destination c old new order = (left old order.turns order.effects new order.are).destination

pub returns-clause-at_source : goal.returns-clause-at_source
returns-clause-at_source c old new order = (left old order.turns order.effects new order.are).at_source

pub returns-clause-at_destination : goal.returns-clause-at_destination
returns-clause-at_destination c old new order = (left old order.turns order.effects new order.are).at_destination
