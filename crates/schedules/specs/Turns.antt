-- The schedules of a small world: which steps they may choose, and where these lead.
use Rattle.std.specs.Prelude.{ℕ, ◌+◌, ◌-◌, ◌*◌, ◌%◌, ◌^◌, nat_eq, nat_lt, if◌then◌else◌, Bool, true, List, length, count_by}
use Rattle.mig_base.specs.declared.command.Entry.{Entry}
use Rattle.mig_base.specs.declared.schedule.Step.{Step}
use Rattle.mig_base.specs.declared.schedule.Step.TheVariants as step
use Rattle.mig_model.specs.Guest.{counted}
use Rattle.mig_model.specs.Migration.{World, next}
use Rattle.mig_model.specs.Views.{owed_left}
use Rattle.world.specs.Answers.{in_flight_len}

-- how many commands of a processor took effect
abbrev pub made_by : ℕ → List Entry → ℕ
made_by cpu transcript = count_by (λ entry. nat_eq entry.cpu cpu) transcript

-- how often the channel broke
abbrev pub breaks_of : World → ℕ
breaks_of world = (world.source.epoch - 1) + (if world.up then 0 else 1)

-- whether a schedule may choose a step: a command after this number of its processor's; a round or a break while there were fewer
abbrev pub may_choose : World → Step → ℕ → Bool
may_choose world (step.Issue cpu command) limit = nat_eq (made_by cpu world.transcript) limit
may_choose world step.Round limit = nat_lt world.source.rounds limit
may_choose world step.Break limit = nat_lt (breaks_of world) limit
may_choose world other limit = true

-- the world after a turn; one that may not be chosen, or is refused, changes nothing
unfoldable pub turned : World → Step → ℕ → World
turned world made limit = if may_choose world made limit then next world made else world

-- a number that depends on both of these
abbrev pub mix_of : ℕ → ℕ → ℕ
mix_of mixed number = mixed % 2 ^ 56 * 31 + number % 2 ^ 56

-- a number of the bytes in flight
unfoldable pub flight_of : World → ℕ
flight_of world =
    mix_of (mix_of (counted 0 (in_flight_len world.forward.frames)) (counted 0 (in_flight_len world.back.frames))) (counted 0 (in_flight_len world.urgent.frames))

-- a number that equal worlds share, of what getters tell
unfoldable pub hash_of : World → ℕ
hash_of world =
    mix_of (mix_of (mix_of (mix_of (mix_of (mix_of (mix_of (mix_of (mix_of world.source.rounds world.source.pages_sent) world.destination.installed)
    (length world.transcript)) (owed_left world)) (length world.destination.arrivals)) (length world.destination.requests)) (length world.source.log.held)) (breaks_of world))
    (flight_of world)
