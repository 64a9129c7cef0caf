use Rattle.mig_laws.proofs.WorldSides.{first-turned}
use Rattle.mig_laws.proofs.sides.a_world_is_two_logs.Goals as goal

pub returns : goal.returns
returns c cpus epoch rounds steps are_whole =
    let all = first-turned cpus epoch rounds steps are_whole in
    record { last = all.new; order = record { turns = all.turns; effects = all.effects; are = all.are }; world = all.world; here = all.here; there = all.there }
