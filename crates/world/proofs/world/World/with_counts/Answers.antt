use Rattle.world.proofs.CoreLemmas.{core_first}
use Rattle.world.proofs.HeadlineLemmas.{headline_of}
use Rattle.world.proofs.NewLemmas.{count_made, first_is}
use Rattle.world.proofs.world.World.with_counts.Goals as goal

pub invariant_of-result : goal.invariant_of-result
invariant_of-result c =
    rw (c.in-Ok.ensures.ok, c.in-Ok-new.ensures.ok, c.new-3.ensures, c.new-4.ensures, c.new-5.ensures, c.new-6.ensures.items)
    (first_is c.args.cpus c.args.epoch c.args.rounds (count_made c.args.cpus c.in-Ok.ensures.no_cpu))

pub returns-clause-core : goal.returns-clause-core
returns-clause-core c =
    rw (c.in-Ok.ensures.ok, c.in-Ok-new.ensures.ok, c.new-3.ensures, c.new-4.ensures, c.new-5.ensures, c.new-6.ensures.items)
    (core_first c.args.cpus c.args.epoch c.args.rounds)

pub returns-clause-headline : goal.returns-clause-headline
returns-clause-headline c =
    rw (c.in-Ok.ensures.ok, c.in-Ok-new.ensures.ok, c.new-3.ensures, c.new-4.ensures, c.new-5.ensures, c.new-6.ensures.items)
    (headline_of _ (first_is c.args.cpus c.args.epoch c.args.rounds (count_made c.args.cpus c.in-Ok.ensures.no_cpu)))
