-- A guest of one processor with one page: it is stored to at the source, and read at the destination before it has come.
use Rattle.std.proofs.lemmas.Bool.Decides.{nat_tests}
use Rattle.std.proofs.Common.{◌≡◌, ℕ, ◌+◌, ◌-◌, ◌*◌, ◌&&◌, ◌||◌, Bool, true, false, not, cond, ltb, Option, Some, None, List, [], ◌∷◌, arith, refl, sym, ap, ◌∙◌}
use Rattle.std.specs.Ordering.{nat_cmp}
use Rattle.std.specs.FinMap as finmap
use Rattle.std.specs.FinMap.{FinMap, get, get-empty, insert, contains_key, len-empty}
use Rattle.std.specs.FinSet.{FinSet, contains, contains-empty}
use Rattle.mig_base.specs.declared.Prot.{Prot}
use Rattle.mig_base.specs.declared.Prot.TheVariants.{ReadWrite}
use Rattle.mig_base.specs.declared.TheConstants.{MAX_PAGES}
use Rattle.mig_base.specs.declared.command.Command.{Command}
use Rattle.mig_base.specs.declared.command.Command.TheVariants.{Load, Mmap, Store}
use Rattle.mig_base.specs.declared.command.Entry.{Entry}
use Rattle.mig_base.specs.declared.command.Place.TheVariants.{Fixed}
use Rattle.mig_base.specs.declared.command.Reply.TheVariants.{At, Done}
use Rattle.mig_base.specs.Bytes.{zero_page}
use Rattle.std.specs.FinMap.{get-retain_keys, retain_keys}
use Rattle.std.specs.FinSet.{contains-retain, nat_cmp-IsAntisymmetric}
use Rattle.mig_base.specs.declared.TheConstants.{HIGH_PAGE}
use Rattle.mig_base.specs.declared.message.Message.{Message}
use Rattle.mig_base.specs.Userfault.{Noted, thread_id}
use Rattle.mig_base.proofs.PageLemmas.{get-remove_range}
use Rattle.mig_base.proofs.SetLemmas.{member_below, member_without}
use Rattle.mig_model.specs.Guest.{Fault}
use Rattle.mig_model.specs.Host.{byte_in, host_after}
use Rattle.std.specs.FinSet as finset
use Rattle.std.specs.Prelude.{IsOk, is_some, if◌then◌else◌}
use Rattle.mig_base.specs.Userfault.{has_modes}
use Rattle.mig_model.specs.Destination.{for_missing, install_by, installed_at}
use Rattle.mig_model.specs.Effects.{frame_effect, install_effect, page_effect}
use Rattle.mig_model.specs.Faults.{is_early, is_end}
use Rattle.mig_model.specs.Guest.{is_present}
use Rattle.mig_model.specs.Ioctls.{event_features}
use Rattle.mig_model.specs.Log.{present}
use Rattle.mig_model.specs.Wire.{wire_behind}
use Rattle.mig_model.specs.Lengths.{text_len}
use Rattle.mig_model.specs.Log.{less, no_pages}
use Rattle.mig_model.specs.NodeSteps.{unless}
use Rattle.mig_model.specs.Owed.{home, own_places}
use Rattle.mig_model.specs.Source.{not_clean}
use Rattle.mig_model.specs.Wire.{Copy, Frame, Sent, is_zeros, page_frame}
use Rattle.mig_model.specs.Destination.{arrived}
use Rattle.mig_model.proofs.invariant.PackageTaken.{get-own_places, own_place}
use Rattle.mig_model.proofs.memory.HostLemmas.{get-put}
use Rattle.mig_model.proofs.owed.SettledLemmas.{home-is}
use Rattle.mig_model.proofs.steps.StepAnswers.{answers-deliver, answers-dest_read, answers-install, answers-push, answers-start, answers-switch}
use Rattle.mig_model.proofs.steps.StepWorlds.{after_deliver, after_dest_read, after_push, after_start, after_switch}
use Rattle.mig_base.specs.declared.cpu_state.CpuState.{CpuState}
use Rattle.mig_base.specs.declared.effect.Effect.{Effect}
use Rattle.mig_base.specs.declared.schedule.Step.{Step}
use Rattle.mig_base.specs.Bytes.{contents, low_bytes, overwrite}
use Rattle.mig_base.specs.Flat.{exceeds_limit, fill, mapped_count, reply_of, zeros_with}
use Rattle.mig_base.specs.Pages.{remove_range, set_range}
use Rattle.foundation.specs.Ranges.{none_below}
use Rattle.mig_base.specs.Sets.{without}
use Rattle.mig_base.specs.Userfault.{Object, enabled_with, fresh_object, is_registered, is_watched, unregistered}
use Rattle.mig_base.proofs.PageLemmas.{get-set_range, len-set_range}
use Rattle.mig_model.specs.Host.{Host, IsSound, bare_host, memory}
use Rattle.mig_model.specs.Migration.{World, answer, first_world, made, outcome}
use Rattle.mig_model.specs.Source.{enabled_space, first_source}
use Rattle.mig_model.proofs.memory.HostLemmas.{IsSound-empty, IsSound-map, mapped_count-memory, memory-map, memory-some}

-- The commands

abbrev pub mapping : Command
mapping = Mmap 4096 ReadWrite (Fixed 0x10000)

abbrev pub storing : Command
storing = Store 0x10000 1 7

-- The source

abbrev pub one_page : Host
one_page = record { areas = set_range finmap.empty 16 1 ReadWrite; bytes = remove_range finmap.empty 16 1 }

abbrev pub stored : Host
stored = record one_page { bytes = insert one_page.bytes 16 (overwrite (contents one_page.bytes 16) 0 (low_bytes 7 1)) }

sound-one : IsSound one_page
sound-one = IsSound-map bare_host 16 1 ReadWrite IsSound-empty (omega arith)

one-mapped : mapped_count (memory one_page) ≡ 4096
one-mapped = mapped_count-memory one_page sound-one ∙ ap (λ n. 4096 * n) (len-set_range finmap.empty 16 1 ReadWrite (λ q l m. get-empty nat_cmp q) ∙ ap (λ n. n + 1) (len-empty nat_cmp Prot))

few : exceeds_limit (fill (memory bare_host) 65536 4096 (zeros_with ReadWrite)) ≡ false
few = ap exceeds_limit (sym (memory-map bare_host 16 1 ReadWrite)) ∙ ap (λ n. ltb (4096 * MAX_PAGES) n) one-mapped

maps : reply_of (memory bare_host) mapping ≡ At 65536
maps = rw few refl

unwatched : (is_registered enabled_space.object 16) ≡ false
unwatched = λ i. contains-empty nat_cmp 16 i || contains-empty nat_cmp 16 i

unwatched-one : is_watched enabled_space.object 16 1 ≡ false
unfolding none_below
unwatched-one = ap (λ b. not (true && not b)) unwatched

-- the object after the mapping, which unregisters what was there
abbrev pub mapped_object : Object
mapped_object = unregistered enabled_space.object 16 1

-- a world whose source has this host
abbrev pub at_source : Host → FinSet nat_cmp → List Entry → World
at_source host protected entries =
    record (first_world 1) {
      source = record (first_source 1 0 0) {
        guest = record { space = record { host = host; protected = protected; object = mapped_object }; cpus = CpuState.Idle ∷ [] };
      };
      transcript = entries;
    }

abbrev pub w1 : World
w1 = at_source one_page (without enabled_space.protected 16 1) (record { cpu = 0; command = mapping; reply = At 0x10000 } ∷ [])

pub first-step : answer (first_world 1) (Step.Issue 0 mapping) ≡ made (Effect.Answered 0 (At 0x10000)) w1
first-step = rw (few, unwatched-one) refl

-- the page is stored to

areas-there : get one_page.areas 16 ≡ Some ReadWrite
areas-there = get-set_range finmap.empty 16 1 ReadWrite 16

bytes-none : contains_key one_page.bytes 16 ≡ false
bytes-none = ap (λ o. contains-some o) (get-remove_range finmap.empty 16 1 16) where
  contains-some : Option (List ℕ) → Bool
  contains-some None = false
  contains-some (Some x) = true

memory-there : (bytes : FinMap nat_cmp (List ℕ)) → memory (record one_page { bytes = bytes }) 65536 ≡ Some (record { byte = byte_in bytes 65536; prot = ReadWrite })
memory-there bytes = memory-some (record one_page { bytes = bytes }) 65536 ReadWrite areas-there

no-mode : contains mapped_object.missing 16 ≡ false
no-mode = member_without enabled_space.object.missing 16 1 16 ∙ ap (λ b. b && false) (contains-empty nat_cmp 16)

stores : host_after one_page storing ≡ stored
stores = rw (memory-there one_page.bytes) refl

abbrev pub w2 : World
w2 =
    at_source stored (without enabled_space.protected 16 1)
    (record { cpu = 0; command = mapping; reply = At 0x10000 } ∷ record { cpu = 0; command = storing; reply = Done } ∷ [])

pub second-step : answer w1 (Step.Issue 0 storing) ≡ made (Effect.Answered 0 Done) w2
second-step =
    rw (memory-there one_page.bytes, no-mode, bytes-none)
    (ap (λ host. made (Effect.Answered 0 Done) (at_source host (without enabled_space.protected 16 1) w2.transcript)) stores)

-- The migration

abbrev pub w3 : World
w3 = after_start w2

pub third-step : answer w2 Step.Start ≡ made (Effect.Started 1) w3
third-step = answers-start w2 refl refl

abbrev pub owed : FinSet nat_cmp
owed = not_clean w3.source

abbrev pub w4 : World
w4 = after_switch w3

pub fourth-step : answer w3 Step.Switch ≡ made (Effect.Switched (finset.len (less no_pages no_pages)) (finset.len owed)) w4
fourth-step = answers-switch w3 refl refl refl

abbrev pub sent : Frame → Sent
sent frame = record { epoch = 1; frame = frame }

abbrev pub discard_frame : Frame
discard_frame = Frame.Discard (less no_pages no_pages)

abbrev pub package_frame : Frame
package_frame = Frame.Package stored.areas owed (None ∷ [])

not_short : (length : ℕ) → ltb length (length - 0) ≡ false
not_short length = grind (arith, nat_tests)

abbrev pub w5 : World
w5 = after_deliver w4 (sent Frame.Advise) (sent discard_frame ∷ sent package_frame ∷ [])

pub fifth-step : answer w4 (Step.Deliver (text_len Frame.Advise)) ≡ made Effect.TookAdvise w5
fifth-step = answers-deliver w4 (text_len Frame.Advise) (sent Frame.Advise) (sent discard_frame ∷ sent package_frame ∷ []) refl refl refl refl refl refl

abbrev pub w6 : World
w6 = after_deliver w5 (sent discard_frame) (sent package_frame ∷ [])

pub sixth-step : answer w5 (Step.Deliver (text_len discard_frame)) ≡ made (Effect.TookDiscard (finset.len (less no_pages no_pages))) w6
sixth-step = answers-deliver w5 (text_len discard_frame) (sent discard_frame) (sent package_frame ∷ []) refl (not_short (text_len discard_frame)) refl refl refl refl

abbrev pub w7 : World
w7 = after_deliver w6 (sent package_frame) []

pub seventh-step : answer w6 (Step.Deliver (text_len package_frame)) ≡ made (Effect.TookPackage (finset.len owed)) w7
seventh-step = answers-deliver w6 (text_len package_frame) (sent package_frame) [] refl (not_short (text_len package_frame)) refl refl refl refl

-- At the destination

abbrev pub loading : Command
loading = Load 0x10000 1

nothing-kept : (keep : Bool) (o : Option (List ℕ)) → o ≡ None → is_some (cond keep o None) ≡ false
nothing-kept true o none = ap is_some none
nothing-kept false o none = refl

kept-nothing : (keep : ℕ → Bool) (q : ℕ) → contains_key (retain_keys (finmap.empty {K = ℕ} {X = List ℕ} {R = nat_cmp}) keep) q ≡ false
kept-nothing keep q =
    ap is_some (get-retain_keys finmap.empty keep q (λ x e. ap keep (sym (nat_cmp-IsAntisymmetric q x e))))
    ∙ nothing-kept (keep q) (get finmap.empty q) (get-empty nat_cmp q)

kept-none : contains_key w7.destination.guest.space.host.bytes 16 ≡ false
kept-none = kept-nothing (λ page. not (contains (less no_pages no_pages) page)) 16

registered-there : contains w7.destination.guest.space.object.missing 16 ≡ true
registered-there =
    member_below
    (λ page. if contains_key stored.areas page && not (has_modes (enabled_with fresh_object event_features) page for_missing) then true
    else contains (enabled_with fresh_object event_features).missing page)
    HIGH_PAGE 16
    ∙ rw (areas-there, contains-empty nat_cmp 16) refl

stored-there : contains_key stored.bytes 16 ≡ true
stored-there = ap is_some (get-put one_page.bytes 16 16 (overwrite (contents one_page.bytes 16) 0 (low_bytes 7 1)))

owed-there : contains owed 16 ≡ true
owed-there =
    contains-retain (present w3.source.guest.space) (λ q. not (contains no_pages q)) 16 (λ x e. ap (λ q. not (contains no_pages q)) (sym (nat_cmp-IsAntisymmetric 16 x e)))
    ∙ (λ i. both i && not (contains-empty nat_cmp 16 i))
  where
    both : contains (present w3.source.guest.space) 16 ≡ true
    both = member_below (λ page. is_present w3.source.guest.space page) HIGH_PAGE 16 ∙ stored-there

owed-place : get (own_places owed HIGH_PAGE) 16 ≡ Some 16
owed-place = get-own_places owed HIGH_PAGE 16 ∙ ap (λ b. cond b (Some 16) None) owed-there

abbrev pub noted : Noted
noted = record { message = Message.PageFault 0x10000 false false (thread_id w7.destination.guest.space.object 0); cpu = 0 }

abbrev pub w8 : World
w8 =
    record w7 {
      destination = record w7.destination {
        guest = record {
          space = record w7.destination.guest.space { object = record w7.destination.guest.space.object { faults = noted ∷ [] } };
          cpus = CpuState.Asleep loading ∷ [];
        };
      };
    }

pub eighth-step : answer w7 (Step.Issue 0 loading) ≡ made (Effect.Asleep 0) w8
eighth-step = rw (memory-there w7.destination.guest.space.host.bytes, kept-none, registered-there) refl

abbrev pub w9 : World
w9 = after_dest_read w8 noted

pub ninth-step : answer w8 Step.DestRead ≡ made (Effect.ReadFault 0x10000 false) w9
ninth-step = answers-dest_read w8 noted refl refl

abbrev pub fault : Fault
fault = record { page = 16; wp = false }

abbrev pub w10 : World
w10 =
    record w9 {
      destination = record w9.destination { held = []; requests = 16 ∷ [] };
      back = record { frames = sent (Frame.Request 16) ∷ []; held = 0 };
    }

pub tenth-step : answer w9 Step.DestAct ≡ made (Effect.Requested 0x10000 0x10000) w10
unfolding unless
tenth-step = rw (areas-there, registered-there, kept-none, owed-place) refl

abbrev pub w11 : World
w11 = after_push w10 16

pub eleventh-step : answer w10 (Step.Push (record { epoch = 1; page = 16 })) ≡ made (page_effect 16 (contents stored.bytes 16)) w11
eleventh-step = answers-push w10 16 refl refl stored-there owed-there

-- the frame of the page, by whether its bytes are all zeros
abbrev pub frame_by : Bool → Frame
frame_by zeros = if zeros then Frame.Zero 16 else Frame.Page 16 (contents stored.bytes 16)

abbrev pub copy_by : Bool → Copy
copy_by zeros = record { page = 16; bytes = if zeros then zero_page else contents stored.bytes 16 }

abbrev pub carried : Frame
carried = page_frame 16 (contents stored.bytes 16)

abbrev pub copy : Copy
copy = copy_by (is_zeros (contents stored.bytes 16))

abbrev pub w12 : World
w12 = record w11 { destination = arrived w11.destination copy; forward = wire_behind [] }

took-frame : (zeros : Bool) → after_deliver w11 (sent (frame_by zeros)) [] ≡ record w11 { destination = arrived w11.destination (copy_by zeros); forward = wire_behind [] }
took-frame true = refl
took-frame false = refl

no-end : (zeros : Bool) → (is_end (frame_by zeros) && false) ≡ false
no-end true = refl
no-end false = refl

not-early : (zeros : Bool) → is_early w11.destination (frame_by zeros) ≡ false
not-early true = refl
not-early false = refl

pub twelfth-step : answer w11 (Step.Deliver (text_len carried)) ≡ made (frame_effect carried) w12
twelfth-step =
    answers-deliver w11 (text_len carried) (sent carried) [] refl (not_short (text_len carried)) refl refl
    (no-end (is_zeros (contents stored.bytes 16))) (not-early (is_zeros (contents stored.bytes 16)))
    ∙ ap (made (frame_effect carried)) (took-frame (is_zeros (contents stored.bytes 16)))

one-place : (page other origin : ℕ) → get (own_places owed HIGH_PAGE) page ≡ Some origin → get (own_places owed HIGH_PAGE) other ≡ Some origin → page ≡ other
one-place page other origin h k = sym (own_place owed page origin h).2 ∙ (own_place owed other origin k).2

home-there : home (own_places owed HIGH_PAGE) 16 ≡ Some 16
home-there = home-is (own_places owed HIGH_PAGE) 16 16 one-place (omega arith) owed-place

abbrev pub w13 : World
w13 = record w12 { destination = installed_at w12.destination copy [] 16 }

pub thirteenth-step : answer w12 Step.Install ≡ made (Effect.Installed 0x10000 0x10000) w13
thirteenth-step = answers-install w12 copy [] refl refl refl ∙ ap (λ place. made (install_effect place 16) (record w12 { destination = install_by place w12.destination copy [] })) home-there

pub retried : IsOk (outcome w13 (Step.Retry 0))
unfolding outcome
retried = refl
