use Rattle.mig_laws.proofs.WholeWorlds.{whole-reached}
use Rattle.mig_laws.proofs.worlds.reached_worlds_have_whole_pages.Goals as goal

pub returns : goal.returns
returns c world reached = whole-reached world reached
