-- A command that waits is a load or store whose form is right, of a page that may be mapped.
use Rattle.std.proofs.lemmas.Bool.Decides.{nat_tests}
use Rattle.std.proofs.Common.{◌≡◌, ℕ, suc, ◌/◌, ◌^◌, Bool, true, false, Option, Some, is_some, List, [], ◌∷◌, refl, sym, ap, ◌∙◌, ⊎_elim, if◌then◌else◌, ◌<◌, arith}
use Rattle.mig_base.specs.declared.Prot.{Prot}
use Rattle.mig_base.specs.declared.cpu_state.CpuState.{CpuState}
use Rattle.mig_base.specs.declared.command.Command.{Command}
use Rattle.mig_base.specs.declared.command.Command.TheVariants.{Load, Store}
use Rattle.mig_base.specs.declared.command.Reply.{Reply}
use Rattle.mig_base.specs.declared.command.Reply.TheVariants.{BadAccess}
use Rattle.mig_base.specs.declared.schedule.Step.{Step}
use Rattle.mig_base.specs.Commands.{is_access}
use Rattle.mig_base.specs.Flat.{Cell, access_reply, is_aligned, is_mapped}
use Rattle.mig_model.specs.Host.{memory}
use Rattle.mig_model.specs.Space.{Space, is_made}
use Rattle.mig_model.specs.Cpus.{outstanding, processor_at}
use Rattle.mig_model.specs.Cpus.Took.{Sleep}
use Rattle.mig_model.specs.Guest.{Guest, took_by}
use Rattle.mig_model.specs.Migration.{World, first_world_with, guest_by, guest_of, next}
use Rattle.mig_model.specs.Source.{commands_of}
use Rattle.mig_model.specs.Invariant.{IsSoundWorld}
use Rattle.mig_model.specs.Promises.{Slept}
use Rattle.mig_model.specs.Bounds.{AreRightAccesses, IsMapping, IsPage, IsRightAccess}
use Rattle.mig_model.proofs.memory.HostLemmas.{is_mapped-memory}
use Rattle.mig_model.proofs.memory.MappingLemmas.{IsMapping-guest}
use Rattle.mig_model.proofs.transcript.WaitingCommands.{idle_at, waits_arise}

-- A command that sleeps

access_form : (right : Bool) (o : Option Cell) (allows : Prot → Bool) (answer : Reply) → is_made (if right then access_reply o allows answer else BadAccess) ≡ true → (right ≡ true) × (is_some o ≡ true)
access_form right o allows answer h = grind (arith, nat_tests)

page_of_access : (space : Space) (addr : ℕ) → IsMapping space.host.areas → is_mapped (memory space.host) addr ≡ true → IsPage (addr / 4096)
page_of_access space addr mapping h = mapping.pages (addr / 4096) (sym (ap (λ test. test addr) (is_mapped-memory space.host)) ∙ h)

-- a load or store of the right form, whose page may be mapped
abbrev pub IsInside : Command → Type 0
IsInside (Load addr width) = (is_aligned addr width ≡ true) × IsPage (addr / 4096)
IsInside (Store addr width value) = (is_aligned addr width ≡ true) × (value < 256 ^ width) × IsPage (addr / 4096)
IsInside command = ⊥

right_form : (command : Command) → IsInside command → IsRightAccess command
right_form command is = grind (arith, nat_tests)

pub right_slept : (access : Bool) (space : Space) (command : Command) → access ≡ is_access command → IsMapping space.host.areas → took_by access space command ≡ Sleep → IsInside command
right_slept access space command is mapping h = grind (arith, nat_tests, access_form, page_of_access)

-- Where the guest runs

abbrev pub AllRight : List CpuState → Type 0
AllRight processors = (k : ℕ) (command : Command) → outstanding (processor_at processors k) ≡ Some command → IsInside command

abbrev pub AreRight : World → Type 0
AreRight world = AllRight (guest_of world).cpus

pub right-first : (cpus epoch rounds : ℕ) → AreRight (first_world_with cpus epoch rounds)
right-first cpus epoch rounds = grind (arith, nat_tests, idle_at)

pub right-next : (world : World) (step : Step) → IsSoundWorld world → AreRight world → AreRight (next world step)
right-next world step kept right k command h =
    ⊎_elim
    (λ (was : outstanding (processor_at (guest_of world).cpus k) ≡ Some command). right k command was)
    (λ (slept : Slept world step k command). right_slept (is_access command) (guest_of world).space command refl (IsMapping-guest world kept) slept.sleeps)
    (waits_arise world step k command kept h)

-- the source's, until the destination has run
pub right_source : (ran : Bool) (from to : Guest) → ran ≡ false → AllRight (guest_by ran from to).cpus → AllRight from.cpus
right_source ran from to bare right = grind (arith, nat_tests)

right_one : (o : Option Command) (rest : List (Option Command)) → ((command : Command) → o ≡ Some command → IsRightAccess command) → AreRightAccesses rest → AreRightAccesses (o ∷ rest)
right_one o rest h right = grind (arith, nat_tests)

-- so are the commands of a Package
pub right_commands : (processors : List CpuState) → AllRight processors → AreRightAccesses (commands_of processors)
right_commands [] right = tt
right_commands (processor ∷ rest) right = right_one (outstanding processor) (commands_of rest) (λ command h. right_form command (right 0 command h)) (right_commands rest (λ k command h. right (suc k) command h))
