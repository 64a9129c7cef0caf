use Rattle.page_stream.proofs.RunsAndAreas.{prot_in-areas_of}
use Rattle.page_stream.proofs.AreasInOrder.{areas_of-ordered, areas_of-only}
use Rattle.page_stream.proofs.laws.the_areas_of_a_map.Goals as goal

pub returns-clause-pages : goal.returns-clause-pages
returns-clause-pages c areas page below = prot_in-areas_of areas below page

pub returns-clause-ordered : goal.returns-clause-ordered
returns-clause-ordered c areas = areas_of-ordered areas

pub returns-clause-only : goal.returns-clause-only
returns-clause-only c areas list below ordered same = areas_of-only areas list below ordered same
