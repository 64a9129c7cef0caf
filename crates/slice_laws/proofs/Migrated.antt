-- What the migration of a slice says of the slice's entries.
use Rattle.std.proofs.Common.{◌≡◌, true, List, [], ◌∷◌, map, refl, sym, ap, subst, ◌∙◌}
use Rattle.mig_base.specs.declared.command.Entry.{Entry}
use Rattle.mig_base.specs.Flat.{IsFlatRun, IsRunFrom, Memory, after, memory_from, memory_of, no_memory}
use Rattle.mig_model.specs.Host.{memory}
use Rattle.mig_model.specs.Source.{is_released}
use Rattle.mig_laws.specs.Drivers.{entries_of, host_with}
use Rattle.mig_laws.proofs.DriverWorlds.{IsHeadline, headline-of}
use Rattle.slice_laws.specs.Migrations.{Migration, unnamed}

headline-in : (entries : List Entry) (it : Migration entries) → IsHeadline it.last
headline-in entries it = headline-of it.cpus it.epoch it.rounds it.deeds it.last it.are

-- Names of threads

to-unnamed : (m : Memory) (entries : List Entry) → IsRunFrom m entries → IsRunFrom m (map unnamed entries)
to-unnamed m [] run = run
to-unnamed m (entry ∷ entries) run = (run.0, to-unnamed (after m entry.command) entries run.1)

from-unnamed : (m : Memory) (entries : List Entry) → IsRunFrom m (map unnamed entries) → IsRunFrom m entries
from-unnamed m [] run = run
from-unnamed m (entry ∷ entries) run = (run.0, from-unnamed (after m entry.command) entries run.1)

memory-unnamed : (m : Memory) (entries : List Entry) → memory_from m (map unnamed entries) ≡ memory_from m entries
memory-unnamed m [] = refl
memory-unnamed m (entry ∷ entries) = memory-unnamed (after m entry.command) entries

pub flat-run : (entries : List Entry) → Migration entries → IsFlatRun entries
flat-run entries it =
    let headline = headline-in entries it in
    from-unnamed no_memory entries (subst IsFlatRun (sym it.entered) (to-unnamed no_memory (entries_of it.last) headline.flat))

pub holds-alone : (entries : List Entry) (it : Migration entries) → is_released it.last.nodes.source.phase ≡ true → memory (host_with it.last.nodes.destination.guest it.last.there.held.pages) ≡ memory_of entries
holds-alone entries it released =
    let headline = headline-in entries it in
    let alone = headline.alone released in
    alone.memory_is ∙ sym (memory-unnamed no_memory (entries_of it.last)) ∙ ap memory_of (sym it.entered) ∙ memory-unnamed no_memory entries
