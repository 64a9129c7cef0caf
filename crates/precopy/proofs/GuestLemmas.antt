-- The guest of a source: its memory is one that commands leave, and what its processors still have to make is of the right form.
use Rattle.std.proofs.lemmas.Bool.Decides.{nat_tests}
use Rattle.std.proofs.Common.{◌≡◌, ℕ, zero, suc, Bool, true, cond, eqb, not, Option, Some, None, is_some, List, [], ◌∷◌, ◌++◌, length, set, refl, sym, ap, ◌∙◌, subst, arith}
use Rattle.std.specs.FinMap.{get}
use Rattle.std.specs.FinSet.{FinSet, contains}
use Rattle.std.specs.Ordering.{nat_cmp}
use Rattle.std.proofs.lemmas.Bool.{and_parts, eqb-true}
use Rattle.std.proofs.lemmas.List.{length-map}
use Rattle.std.proofs.lemmas.Option.{none-some}
use Rattle.mig_base.proofs.ByteLemmas.{get_or-zero_page}
use Rattle.mig_base.specs.Bytes.{zero_page}
use Rattle.mig_base.specs.Commands.{is_access}
use Rattle.mig_base.specs.Flat.{is_mapped}
use Rattle.mig_base.specs.declared.command.Command.{Command}
use Rattle.mig_base.specs.declared.cpu_state.CpuState.{CpuState}
use Rattle.mig_base.specs.declared.message.Message.{Message}
use Rattle.mig_base.specs.declared.message.Message.TheVariants.{PageFault}
use Rattle.mig_model.specs.Bounds.{AreFewPages, AreRightAccesses, IsCpuCount, IsFrame, IsMapping}
use Rattle.mig_model.specs.Cpus.{Cpus, Took, all_woken, idle_processors, message_less, outstanding, processor_after, processor_at, woken_if}
use Rattle.mig_model.specs.Cpus.Took.{Answer, Call, Sleep}
use Rattle.mig_base.specs.declared.act.Act.{Act}
use Rattle.mig_model.specs.Guest as machine
use Rattle.mig_model.specs.Guest.{Fault, Guest, is_left_by, is_present, read_guest, took_by, tried}
use Rattle.mig_model.specs.Host.{bare_host, memory}
use Rattle.mig_model.specs.Log.{Log, dirty, present}
use Rattle.mig_model.specs.Source.{Source, commands_of, source_act, source_act_by, source_acted, source_acted_by, space_of}
use Rattle.mig_model.specs.Space.{IsSoundSpace, Space}
use Rattle.mig_model.specs.Wire.Frame.{Package}
use Rattle.mig_model.proofs.invariant.DestinationAct.{byte_of, get-put_one, memory-reads}
use Rattle.mig_model.proofs.memory.EntryLemmas.{entry_of, holds_after}
use Rattle.mig_model.proofs.memory.Facts.{some_command}
use Rattle.mig_model.proofs.memory.HostLemmas.{memory-empty}
use Rattle.mig_model.proofs.memory.MappingLemmas.{IsMapping-flat, host_tried}
use Rattle.mig_model.proofs.transcript.RightCommands.{AllRight, IsInside, right_commands, right_slept}
use Rattle.mig_model.proofs.invariant.SourceMapped.{read_host}
use Rattle.mig_model.proofs.invariant.Stopping.{member_less}
use Rattle.mig_model.proofs.transcript.WaitingCommands.{less_same}
use Rattle.page_stream.proofs.FrameBounds.{member_present, present_pages}
use Rattle.precopy.specs.Order.{HasRightGuest}

-- Commands that wait

right_cons : (o : Option Command) (rest : List (Option Command)) → AreRightAccesses (o ∷ []) → AreRightAccesses rest → AreRightAccesses (o ∷ rest)
right_cons None rest is are = are
right_cons (Some command) rest is are = (is.0, are)

right_head : (o : Option Command) (rest : List (Option Command)) → AreRightAccesses (o ∷ rest) → AreRightAccesses (o ∷ [])
right_head None rest are = tt
right_head (Some command) rest are = (are.0, tt)

right_tail : (o : Option Command) (rest : List (Option Command)) → AreRightAccesses (o ∷ rest) → AreRightAccesses rest
right_tail None rest are = are
right_tail (Some command) rest are = are.1

right_idle : (count : ℕ) → AreRightAccesses (commands_of (idle_processors count))
right_idle zero = tt
right_idle (suc count) = right_idle count

right_at : (cpus : Cpus) (k : ℕ) → AreRightAccesses (commands_of cpus) → AreRightAccesses (outstanding (processor_at cpus k) ∷ [])
right_at [] k are = tt
right_at (p ∷ ps) zero are = right_head (outstanding p) (commands_of ps) are
right_at (p ∷ ps) (suc k) are = right_at ps k (right_tail (outstanding p) (commands_of ps) are)

right_set : (cpus : Cpus) (k : ℕ) (new : CpuState) → AreRightAccesses (outstanding new ∷ []) → AreRightAccesses (commands_of cpus) → AreRightAccesses (commands_of (set cpus k new))
right_set [] k new is are = tt
right_set (p ∷ ps) zero new is are = right_cons (outstanding new) (commands_of ps) is (right_tail (outstanding p) (commands_of ps) are)
right_set (p ∷ ps) (suc k) new is are =
    right_cons (outstanding p) (commands_of (set ps k new)) (right_head (outstanding p) (commands_of ps) are) (right_set ps k new is (right_tail (outstanding p) (commands_of ps) are))

-- waking leaves what waits
woken_one : (test : ℕ → Bool) (p : CpuState) → outstanding (woken_if test p) ≡ outstanding p
woken_one test p = grind (arith, nat_tests)

woken_commands : (test : ℕ → Bool) (cpus : Cpus) → commands_of (all_woken test cpus) ≡ commands_of cpus
woken_commands test [] = refl
woken_commands test (p ∷ ps) = λ i. woken_one test p i ∷ woken_commands test ps i

right_woken : (test : ℕ → Bool) (cpus : Cpus) → AreRightAccesses (commands_of cpus) → AreRightAccesses (commands_of (all_woken test cpus))
right_woken test cpus are = subst AreRightAccesses (sym (woken_commands test cpus)) are

right_read : (guest : Guest) (cpu : ℕ) (message : Message) → AreRightAccesses (commands_of guest.cpus) → AreRightAccesses (commands_of (read_guest guest cpu message).cpus)
right_read guest cpu (PageFault addr write wp tid) are = are
right_read guest cpu message are =
    let p = processor_at guest.cpus cpu in
    right_woken (is_left_by message) (set guest.cpus cpu (message_less p)) (right_set guest.cpus cpu (message_less p) (subst (λ o. AreRightAccesses (o ∷ [])) (sym (less_same p)) (right_at guest.cpus cpu are)) are)

-- a command that sleeps
asleep_right : (command : Command) → IsInside command → AllRight (CpuState.Asleep command ∷ [])
asleep_right command is zero other h = subst IsInside (some_command command other h) is
asleep_right command is (suc k) other h = absurd (none-some other h)

right_after : (command : Command) (took : Took) → (took ≡ Sleep → IsInside command) → AreRightAccesses (outstanding (processor_after command took) ∷ [])
right_after command (Answer reply) h = tt
right_after command Sleep h = right_commands (CpuState.Asleep command ∷ []) (asleep_right command (h refl))
right_after command (Call reply left) h = tt

-- The guest

-- nothing is mapped
pub bare_guest : (cpus : Cpus) → AreRightAccesses (commands_of cpus) → HasRightGuest bare_host cpus
bare_guest cpus right = record { entries = []; holds = memory-empty; right = right }

pub new_guest : (count : ℕ) → HasRightGuest bare_host (idle_processors count)
new_guest count = bare_guest (idle_processors count) (right_idle count)

pub tried_guest : (guest new : Guest) (cpu : ℕ) (command : Command) → IsSoundSpace guest.space → new ≡ tried (is_access command) guest cpu command → HasRightGuest guest.space.host guest.cpus → HasRightGuest new.space.host new.cpus
tried_guest guest new cpu command sound is old =
    let host = guest.space.host in
    let took = took_by (is_access command) guest.space command in
    let cpus = set guest.cpus cpu (processor_after command took) in
    let right = right_set guest.cpus cpu (processor_after command took) (right_after command took (right_slept (is_access command) guest.space command refl (IsMapping-flat host old.entries sound.host (ap is_mapped old.holds)))) old.right in
    subst (λ (g : Guest). HasRightGuest g.space.host g.cpus) (sym is)
    (host_tried (λ h. HasRightGuest h cpus) (is_access command) guest.space cpu command (record { entries = old.entries; holds = old.holds; right = right })
    (record { entries = old.entries ++ entry_of host cpu command ∷ []; holds = holds_after host old.entries cpu command sound.host old.holds; right = right }))

pub seen_guest : (guest : Guest) (space : Space) (cpus : Cpus) (cpu : ℕ) (message : Message) → space ≡ (read_guest guest cpu message).space → cpus ≡ (read_guest guest cpu message).cpus → HasRightGuest guest.space.host guest.cpus → HasRightGuest space.host cpus
seen_guest guest space cpus cpu message is also old = rw (is, also) (record { entries = old.entries; holds = ap memory (read_host guest cpu message) ∙ old.holds; right = right_read guest cpu message old.right })

-- a page of zeros reads as a missing one
zeros_read : (here : Bool) (own : Option (List ℕ)) (i : ℕ) → (here ≡ true → own ≡ None) → byte_of (cond here (Some zero_page) own) i ≡ byte_of own i
zeros_read here own i none = grind (arith, nat_tests, get_or-zero_page)

zeroed_memory : (space : Space) (page : ℕ) → get space.host.bytes page ≡ None → memory (machine.zero_installed space page).host ≡ memory space.host
zeroed_memory space page none =
    memory-reads space.host.areas space.host.bytes (machine.zero_installed space page).host.bytes
    (λ q i. ap (λ o. byte_of o i) (get-put_one space.host.bytes page q zero_page) ∙ zeros_read (eqb q page) (get space.host.bytes q) i (λ e. ap (get space.host.bytes) (eqb-true q page e) ∙ none))

acted_by : (act : Act) (node : Source) (page : ℕ) → (act ≡ Act.Zeroed → get (space_of node).host.bytes page ≡ None) → HasRightGuest (space_of node).host node.guest.cpus →
    HasRightGuest (space_of (source_acted_by act node page)).host (source_acted_by act node page).guest.cpus
acted_by Act.Zeroed node page missing old =
    record { entries = old.entries; holds = zeroed_memory (space_of node) page (missing refl) ∙ old.holds; right = right_woken (λ q. eqb q page) node.guest.cpus old.right }
acted_by Act.Unprotected node page missing old = record { entries = old.entries; holds = old.holds; right = right_woken (λ q. eqb q page) node.guest.cpus old.right }
acted_by Act.Woke node page missing old = record { entries = old.entries; holds = old.holds; right = right_woken (λ q. eqb q page) node.guest.cpus old.right }
acted_by Act.Forgot node page missing old = record { entries = old.entries; holds = old.holds; right = right_woken (λ q. eqb q page) node.guest.cpus old.right }
acted_by (Act.Requested origin) node page missing old = record { entries = old.entries; holds = old.holds; right = right_woken (λ q. eqb q page) node.guest.cpus old.right }

-- only a missing page becomes zeros
missing_by : (gone protected : Bool) (o : Option (List ℕ)) → source_act_by gone (is_some o) protected ≡ Act.Zeroed → o ≡ None
missing_by gone protected o h = grind (arith, nat_tests)

pub acted_guest : (node new : Source) (fault : Fault) → new ≡ source_acted node fault → HasRightGuest (space_of node).host node.guest.cpus → HasRightGuest (space_of new).host new.guest.cpus
acted_guest node new fault is old =
    subst (λ (n : Source). HasRightGuest (space_of n).host n.guest.cpus) (sym is) (acted_by (source_act node fault) node fault.page (missing_by _ _ (get (space_of node).host.bytes fault.page)) old)

-- What it sends of it

-- a page that is not clean is present
pub dirty_present : (space : Space) (log : Log) (page : ℕ) → contains (dirty space log) page ≡ true → is_present space page ≡ true
dirty_present space log page h = member_present space page (and_parts (contains (present space) page) (not (contains log.clean page)) (sym (member_less (present space) log.clean page) ∙ h)).0

guest_mapping : (space : Space) (cpus : Cpus) → IsSoundSpace space → HasRightGuest space.host cpus → IsMapping space.host.areas
guest_mapping space cpus sound old = IsMapping-flat space.host old.entries sound.host (ap is_mapped old.holds)

-- its present pages
pub few_present : (space : Space) (cpus : Cpus) (pages : FinSet nat_cmp) → IsSoundSpace space → HasRightGuest space.host cpus → pages ≡ present space → AreFewPages pages
few_present space cpus pages sound old is = rw is (present_pages space.host (present space) sound.host (guest_mapping space cpus sound old) (member_present space))

-- those that are not clean
pub few_dirty : (space : Space) (cpus : Cpus) (log : Log) → IsSoundSpace space → HasRightGuest space.host cpus → AreFewPages (dirty space log)
few_dirty space cpus log sound old = present_pages space.host (dirty space log) sound.host (guest_mapping space cpus sound old) (dirty_present space log)

-- a Package of them
pub right_package : (space : Space) (cpus : Cpus) (owed : FinSet nat_cmp) → IsSoundSpace space → HasRightGuest space.host cpus → IsCpuCount (length cpus) → AreFewPages owed → IsFrame (Package space.host.areas owed (commands_of cpus))
right_package space cpus owed sound old count few = (guest_mapping space cpus sound old, few, old.right, subst IsCpuCount (sym (length-map cpus outstanding)) count)
