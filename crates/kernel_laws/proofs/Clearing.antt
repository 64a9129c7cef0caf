-- A MADV_DONTNEED over pages that are not known to be present: both objects have the same REMOVE to tell if any of them is registered.
use Rattle.std.proofs.lemmas.Bool.{eqb-true, false≢true}
use Rattle.std.proofs.lemmas.Grind.{flat_map-append}
use Rattle.std.proofs.lemmas.List.Concat.{flat_map-cons}
use Rattle.std.proofs.lemmas.List.Folds.{list_any-append}
use Rattle.std.proofs.lemmas.List.{map-append}
use Rattle.std.proofs.Common.{◌≡◌, ℕ, ◌+◌, ◌-◌, ◌*◌, ◌/◌, ◌%◌, ◌^◌, ◌&&◌, ◌||◌, Bool, true, false, not, cond, eqb, leb, Option, Some, None, List, [], ◌∷◌, ◌++◌, filter, map, arith, refl, sym, ap, subst, ◌∙◌}
use Rattle.std.specs.Prelude.{if◌then◌else◌, is_some}
use Rattle.std.specs.FinMap.{contains_key, get}
use Rattle.std.specs.FinSet.{contains}
use Rattle.mig_base.specs.declared.command.Command.TheVariants.{DontNeed}
use Rattle.mig_base.specs.declared.command.Errno.{Errno}
use Rattle.mig_base.specs.declared.command.Reply.{Reply}
use Rattle.mig_base.specs.declared.command.Reply.TheVariants.{Done, Refused}
use Rattle.mig_base.specs.declared.TheConstants.{HIGH}
use Rattle.mig_base.specs.declared.message.Message.TheVariants.{Remove}
use Rattle.mig_base.specs.Flat.{dontneed_reply, first_refusal, is_all_mapped, is_page_start}
use Rattle.mig_base.specs.Pages.{remove_range}
use Rattle.foundation.specs.Ranges.{in_range, lesser, pages_of, rounded}
use Rattle.mig_base.specs.Sets.{without}
use Rattle.foundation.specs.Tests.{is_empty}
use Rattle.mig_base.specs.Userfault.{Noted, is_watched}
use Rattle.mig_base.proofs.PageLemmas.{get-remove_range}
use Rattle.foundation.proofs.RangeLemmas.{in_range_bounds}
use Rattle.mig_base.proofs.ReplyLemmas.{dontneed_done, dontneed_hole}
use Rattle.foundation.proofs.TestLemmas.{eqb-self}
use Rattle.mig_model.specs.Host.{host_dropped, memory}
use Rattle.mig_model.specs.Space.{IsSoundSpace, Space, all_queued, call_messages, called, message_if}
use Rattle.mig_model.proofs.memory.SpaceLemmas.{IsSoundSpace-called}
use Rattle.uffd_log.specs.declared.call.Message.{Message as LogMessage}
use Rattle.uffd_log.specs.declared.call.Message.TheVariants as log
use Rattle.uffd_log.specs.declared.line.Answer.{Answer}
use Rattle.uffd_log.specs.declared.line.Answer.TheVariants as answer
use Rattle.kernel_rules.specs.declared.calling.Span.{Span}
use Rattle.kernel_rules.specs.declared.calling.Told.{Told}
use Rattle.kernel_rules.specs.declared.calling.Untold.{Untold}
use Rattle.kernel_rules.specs.declared.known.Page.{Page}
use Rattle.kernel_rules.specs.declared.known.Presence.TheVariants.{Missing, Unknown}
use Rattle.kernel_rules.specs.declared.object.Object.{Object}
use Rattle.kernel_rules.specs.Ioctls.{span_of}
use Rattle.kernel_rules.specs.MapCalls.{all_cleared, cleared_by, cleared_in_part, clearing, clears, is_told_all, madvised, spans_without, with_all_told, with_clearing}
use Rattle.kernel_rules.specs.Pages.{cleared_page, freed_page, is_missing, is_poisoned, is_present, known_as, perhaps_cleared}
use Rattle.kernel_rules.specs.Changes.{page_with}
use Rattle.kernel_rules.specs.State.{Kernel, allowed, page_is}
use Rattle.kernel_laws.specs.Agreement.{Agree, AgreesAt, IsPage, AreUntold, Counterparts, Takes, is_inside, messages_of, message_of, removes, telling}
use Rattle.kernel_laws.specs.Maps.{AreGone, AreUnseen, MapCall, answer_of_reply, failed}
use Rattle.kernel_laws.proofs.EventReads.{same-rest}
use Rattle.kernel_laws.proofs.MapReplies.{by-reply, called_as}
use Rattle.kernel_laws.proofs.Registers.{still-protected}
use Rattle.kernel_laws.proofs.Unmaps.{IsNew, filtered-none, is-watched, new-call, once-more, remove-tells, same-bytes, told-more}

-- The REMOVE

span-more : (span : Span) (spans : List Span) (other : ℕ) → span_of (spans ++ span ∷ []) other ≡ (if is_some (span_of spans other) then span_of spans other else cond (eqb span.key other) (Some span) None)
span-more span [] other = refl
span-more span (first ∷ spans) other = one (eqb first.key other) first (span_of spans other) _ (span-more span spans other) where
  one : (b : Bool) (first : Span) (found : Option Span) (more : Option Span) → more ≡ (if is_some found then found else cond (eqb span.key other) (Some span) None) →
      cond b (Some first) more ≡ (if is_some (cond b (Some first) found) then cond b (Some first) found else cond (eqb span.key other) (Some span) None)
  one true first found more is = refl
  one false first found more is = is

kept-span : (o : Option Span) → (if is_some o then o else None) ≡ o
kept-span None = refl
kept-span (Some span) = refl

abbrev texts : List Untold → List LogMessage
texts events = map (λ (one : Untold). one.message) events

pub untold-remove : (name : ℕ) (kernel : Kernel) (key space first end : ℕ) (events : List Noted) (noted : Noted) → IsNew kernel key → AreUntold name kernel events → message_of noted.message ≡ log.Remove (4096 * first) (4096 * end) →
    AreUntold name
    (record kernel {
      calls = kernel.calls ++ key ∷ [];
      told = kernel.told ++ record { key = key; object = name } ∷ [];
      untold = kernel.untold ++ record { key = key; space = space; first = first; end = end; frees = false } ∷ [];
      clears = kernel.clears ++ record { key = key; space = space; first = first; end = end; frees = false } ∷ [];
    })
    (events ++ noted ∷ [])
untold-remove name kernel key space first end events noted new are is =
    let span : Span = record { key = key; space = space; first = first; end = end; frees = false } in
    let teller : Told = record { key = key; object = name } in
    let now : Kernel = record kernel { calls = kernel.calls ++ key ∷ []; told = kernel.told ++ teller ∷ []; untold = kernel.untold ++ span ∷ []; clears = kernel.clears ++ span ∷ [] } in
    let others : (other : ℕ) → eqb key other ≡ false → messages_of now other ≡ messages_of kernel other =
    λ other apart.
    ap (λ s. texts (filter (λ (one : Untold). eqb one.key other) kernel.events) ++ removes s)
    (span-more span kernel.untold other ∙ ap (λ b. if is_some (span_of kernel.untold other) then span_of kernel.untold other else cond b (Some span) None) apart ∙ kept-span (span_of kernel.untold other)) in
    let own : messages_of now key ≡ log.Remove (4096 * first) (4096 * end) ∷ [] =
    (λ i. texts (filtered-none (λ (one : Untold). eqb one.key key) kernel.events new.events i) ++ removes (span-more span kernel.untold key i))
    ∙ (λ i. removes (if is_some (new.spans i) then new.spans i else cond (eqb-self key i) (Some span) None)) in
    record {
      same = flat_map-append (messages_of now) kernel.calls (key ∷ [])
          ∙ (λ i. same-rest kernel now key kernel.calls new.calls others i ++ (flat_map-cons (messages_of now) key [] ∙ ap (λ l. l ++ []) own) i)
          ∙ (λ i. are.same i ++ sym is i ∷ [])
          ∙ sym (map-append (λ (one : Noted). message_of one.message) events (noted ∷ []));
      once = once-more key kernel.calls are.once new.calls;
      ranks = are.ranks;
      own = are.own;
      tells = λ other some.
          list_any-append (λ (one : Told). eqb one.key other && eqb one.object name) kernel.told (teller ∷ [])
          ∙ told-more name key other kernel.told (eqb key other) false refl (λ apart. are.tells other (ap is_empty (sym (others other apart)) ∙ some));
      none_queued = are.none_queued;
    }

-- The pages

abbrev is_seen_page : Page → Bool
is_seen_page page = is_present page.presence

pub dropped-bytes : (space : Space) (first count page : ℕ) → in_range first count page ≡ true → contains_key (remove_range space.host.bytes first count) page ≡ false
dropped-bytes space first count page inside = ap is_some (get-remove_range space.host.bytes first count page ∙ ap (λ b. cond b None (get space.host.bytes page)) inside)

pub page-dropped : (space new : Space) (first count name page : ℕ) (b : Bool) (found : Option Page) → new.host.bytes ≡ remove_range space.host.bytes first count → new.protected ≡ without space.protected first count →
    new.object.missing ≡ space.object.missing → new.object.protect ≡ space.object.protect → in_range first count page ≡ b → (b ≡ true → page_is is_seen_page found ≡ false) → AgreesAt space name page found → AgreesAt new name page found
page-dropped space new first count name page b None bytes guards missing protect is unseen agrees = (λ i. contains (missing i) page || contains (protect i) page) ∙ agrees
page-dropped space new first count name page b (Some one) bytes guards missing protect is unseen agrees =
    record {
      object = agrees.object;
      missing = agrees.missing ∙ ap (λ s. contains s page) (sym missing);
      protect = agrees.protect ∙ ap (λ s. contains s page) (sym protect);
      registered = (λ i. contains (missing i) page || contains (protect i) page) ∙ agrees.registered;
      absent = λ h. ap (λ m. contains_key m page) bytes ∙ absent b is (agrees.absent h);
      present = λ h. ap (λ m. contains_key m page) bytes ∙ there b is h unseen (agrees.present h);
      whole = agrees.whole;
      plain = agrees.plain;
      guarded = λ h. agrees.guarded (still-protected space first count page (ap (λ s. contains s page) (sym guards) ∙ h));
    }
  where
    absent : (b : Bool) → in_range first count page ≡ b → contains_key space.host.bytes page ≡ false → contains_key (remove_range space.host.bytes first count) page ≡ false
    absent true is none = dropped-bytes space first count page is
    absent false is none = same-bytes space.host.bytes first count page is ∙ none

    there : (b : Bool) → in_range first count page ≡ b → is_present one.presence ≡ true → (b ≡ true → is_present one.presence ≡ false) → contains_key space.host.bytes page ≡ true → contains_key (remove_range space.host.bytes first count) page ≡ true
    there true is h unseen some = absurd (false≢true (sym (unseen refl) ∙ h))
    there false is h unseen some = same-bytes space.host.bytes first count page is ∙ some

-- where no page of the range is registered
page-cleared : (space new : Space) (first count name page : ℕ) (b : Bool) (found : Option Page) → new.host.bytes ≡ remove_range space.host.bytes first count → new.protected ≡ without space.protected first count →
    new.object.missing ≡ space.object.missing → new.object.protect ≡ space.object.protect → is_watched space.object first count ≡ false → in_range first count page ≡ b → AgreesAt space name page found →
    AgreesAt new name page (cond b (page_with cleared_page found) found)
page-cleared space new first count name page true None bytes guards missing protect none is agrees = (λ i. contains (missing i) page || contains (protect i) page) ∙ agrees
page-cleared space new first count name page true (Some one) bytes guards missing protect none is agrees =
    let bounds = in_range_bounds first count page is in
    absurd (false≢true (sym none ∙ is-watched space first count page bounds.0 bounds.1 agrees.registered))
page-cleared space new first count name page false found bytes guards missing protect none is agrees = page-dropped space new first count name page false found bytes guards missing protect is (λ h. absurd (false≢true h)) agrees

-- Both afterwards

abbrev pub dropped_space : Space → (first count start stop cpu : ℕ) → (watched : Bool) → Space
dropped_space space first count start stop cpu watched =
    record {
      host = host_dropped space.host first count;
      protected = without space.protected first count;
      object = all_queued space.object (message_if watched (Remove start stop)) cpu;
    }

-- the kernel, by whom the call tells
abbrev pub clearing_by : Kernel → (key space first count : ℕ) → List ℕ → Kernel
clearing_by kernel key space first count told =
    if is_empty told then all_cleared kernel space first count false else with_clearing (with_all_told kernel key told) key space first count false

pub cleared-by : (it : MapCall) (first count start stop cpu : ℕ) (w : Bool) → is_watched it.one.space.object first count ≡ w → start ≡ 4096 * first → stop ≡ 4096 * (first + count) → AreUnseen it.one first count →
    IsSoundSpace (dropped_space it.one.space first count start stop cpu w) →
    Agree (dropped_space it.one.space first count start stop cpu w) (clearing_by it.one.kernel it.key it.one.object.space first count (cond w (it.one.name ∷ []) [])) it.one.name it.one.object
cleared-by it first count start stop cpu false is low high unseen sound =
    let agree = it.one.agree in
    let own = it.one.object.space in
    record {
      sound = sound;
      named = agree.named;
      features = agree.features;
      pages = λ page.
          page-cleared it.one.space (dropped_space it.one.space first count start stop cpu false) first count it.one.name page (eqb own own && in_range first count page) (it.one.kernel.pages own page) refl refl refl refl is
          (sym (ap (λ e. e && in_range first count page) (eqb-self own))) (agree.pages page);
      unread = agree.unread;
      untold = agree.untold;
      alone = agree.alone;
      ranged = agree.ranged;
    }
cleared-by it first count start stop cpu true is low high unseen sound =
    let agree = it.one.agree in
    record {
      sound = sound;
      named = agree.named;
      features = agree.features;
      pages = λ page.
          page-dropped it.one.space (dropped_space it.one.space first count start stop cpu true) first count it.one.name page (in_range first count page) (it.one.kernel.pages it.one.object.space page) refl refl refl refl refl (unseen page)
          (agree.pages page);
      unread = agree.unread;
      untold = untold-remove it.one.name (telling it.one.kernel) it.key it.one.object.space first (first + count) it.one.space.object.events (record { message = Remove start stop; cpu = cpu }) (new-call (telling it.one.kernel) it.key it.is_new)
          agree.untold (λ i. log.Remove (low i) (high i));
      alone = agree.alone;
      ranged = agree.ranged;
    }

-- A refused MADV_DONTNEED: a kernel may have cleared some pages before it met one that it cannot clear

page-perhaps : (space : Space) (name page : ℕ) (b : Bool) (found : Option Page) → AgreesAt space name page found → AgreesAt space name page (cond b (page_with perhaps_cleared found) found)
page-perhaps space name page false found agrees = agrees
page-perhaps space name page true None agrees = agrees
page-perhaps space name page true (Some one) agrees = by (is_missing one.presence) where
  by : (b : Bool) → AgreesAt space name page (Some (if b then one else record one { presence = Unknown }))
  by true = agrees
  by false =
      record {
        object = agrees.object;
        missing = agrees.missing;
        protect = agrees.protect;
        registered = agrees.registered;
        absent = λ h. absurd (false≢true h);
        present = λ h. absurd (false≢true h);
        whole = refl;
        plain = agrees.plain;
        guarded = agrees.guarded;
      }

pub agree-perhaps : (space : Space) (kernel : Kernel) (name : ℕ) (object : Object) (first count : ℕ) → Agree space kernel name object → Agree space (cleared_in_part kernel object.space first count 4) name object
agree-perhaps space kernel name object first count agree =
    let own = object.space in
    let inside = λ (page : ℕ). in_range first (count - 1) page in
    record {
      sound = agree.sound;
      named = agree.named;
      features = agree.features;
      pages = λ page.
          subst (λ b. AgreesAt space name page (cond b (page_with perhaps_cleared (kernel.pages own page)) (kernel.pages own page))) (sym (ap (λ e. e && inside page) (eqb-self own)))
          (page-perhaps space name page (inside page) (kernel.pages own page) (agree.pages page));
      unread = agree.unread;
      untold = agree.untold;
      alone = agree.alone;
      ranged = agree.ranged;
    }

-- by its reply
pub by-dontneed : (P : Reply → Type 0) (whole zero far hole : Bool) → P (Refused Errno.Einval) → P Done → P (Refused Errno.Enomem) →
    P (if not whole then Refused Errno.Einval else if zero then Done else first_refusal ((far, Errno.Einval) ∷ (hole, Errno.Enomem) ∷ []) Done)
by-dontneed P false zero far hole invalid done enomem = invalid
by-dontneed P true true far hole invalid done enomem = done
by-dontneed P true false true hole invalid done enomem = invalid
by-dontneed P true false false true invalid done enomem = enomem
by-dontneed P true false false false invalid done enomem = done

-- One that clears pages

-- a MADV_DONTNEED with this reply has cleared the mapped pages of its range
pub record Clears (space : Space) (addr len : ℕ) (reply : Reply) (ends : Answer) : Type 0 where
  pub is : dontneed_reply (memory space.host) addr len ≡ reply
  pub whole : addr % 4096 ≡ 0
  pub says : call_messages space.object (DontNeed addr len) reply ≡ message_if (is_watched space.object (addr / 4096) (pages_of len)) (Remove addr (addr + 4096 * pages_of len))
  pub after : (cpu : ℕ) → called_as space cpu (DontNeed addr len) reply ≡ dropped_space space (addr / 4096) (pages_of len) addr (addr + 4096 * pages_of len) cpu (is_watched space.object (addr / 4096) (pages_of len))
  pub answers : answer_of_reply reply ≡ ends
  pub takes : (kernel : Kernel) (key home : ℕ) → madvised kernel key home addr len 4 ends ≡ Some (clearing kernel key home (addr / 4096) (pages_of len) false)

pub done-clears : (space : Space) (addr len : ℕ) → dontneed_reply (memory space.host) addr len ≡ Done → Clears space addr len Done answer.Done
done-clears space addr len is = record { is = is; whole = dontneed_done (memory space.host) addr len (sym is); says = refl; after = λ cpu. refl; answers = refl; takes = λ kernel key home. refl }

pub hole-clears : (space : Space) (addr len : ℕ) → is_inside addr (rounded len) ≡ true → dontneed_reply (memory space.host) addr len ≡ Refused Errno.Enomem → Clears space addr len (Refused Errno.Enomem) (failed Errno.Enomem)
hole-clears space addr len inside is =
    let stop = addr + 4096 * pages_of len in
    let w = is_watched space.object (addr / 4096) (pages_of len) in
    let least : lesser stop HIGH ≡ stop = ap (λ b. cond b stop HIGH) inside in
    record {
      is = is;
      whole = dontneed_hole (memory space.host) addr len (sym is);
      says = ap (λ n. message_if w (Remove addr n)) least;
      after = λ cpu. ap (λ n. record (dropped_space space (addr / 4096) (pages_of len) addr stop cpu w) { object = all_queued space.object (message_if w (Remove addr n)) cpu }) least;
      answers = refl;
      takes = λ kernel key home. refl;
    }

-- the space afterwards
pub clears-space : {space : Space} {addr len : ℕ} {reply : Reply} {ends : Answer} → Clears space addr len reply ends → (cpu : ℕ) →
    called space cpu (DontNeed addr len) ≡ dropped_space space (addr / 4096) (pages_of len) addr (addr + 4096 * pages_of len) cpu (is_watched space.object (addr / 4096) (pages_of len))
clears-space {space = space} {addr = addr} {len = len} {reply = reply} it cpu = by-reply space cpu (DontNeed addr len) reply it.is ∙ it.after cpu

clears-as : (it : MapCall) (cpu addr len : ℕ) (reply : Reply) (ends : Answer) → Clears it.one.space addr len reply ends → AreUnseen it.one (addr / 4096) (pages_of len) →
    Takes (madvised it.one.kernel it.key it.one.object.space addr len 4 (answer_of_reply (dontneed_reply (memory it.one.space.host) addr len))) (called it.one.space cpu (DontNeed addr len)) it.one.name
clears-as it cpu addr len reply ends is unseen =
    let first = addr / 4096 in
    let count = pages_of len in
    let w = is_watched it.one.space.object first count in
    let new = clears-space is cpu in
    let sound = subst IsSoundSpace new (IsSoundSpace-called it.one.space cpu (DontNeed addr len) refl it.one.agree.sound) in
    record {
      kernel = clearing it.one.kernel it.key it.one.object.space first count false;
      object = it.one.object;
      taken = ap (λ r. madvised it.one.kernel it.key it.one.object.space addr len 4 (answer_of_reply r)) is.is ∙ ap (madvised it.one.kernel it.key it.one.object.space addr len 4) is.answers ∙ is.takes it.one.kernel it.key it.one.object.space;
      agree = subst (λ s. Agree s (clearing it.one.kernel it.key it.one.object.space first count false) it.one.name it.one.object) (sym new)
          (subst (λ told. Agree (dropped_space it.one.space first count addr (addr + 4096 * count) cpu w) (clearing_by it.one.kernel it.key it.one.object.space first count told) it.one.name it.one.object)
          (sym (remove-tells it first count w refl)) (cleared-by it first count addr (addr + 4096 * count) cpu w refl (starts addr is.whole) (ends_at addr count is.whole) unseen sound));
    }
  where
    starts : (addr : ℕ) → addr % 4096 ≡ 0 → addr ≡ 4096 * (addr / 4096)
    starts addr whole = omega (arith, whole)

    ends_at : (addr count : ℕ) → addr % 4096 ≡ 0 → addr + 4096 * count ≡ 4096 * (addr / 4096 + count)
    ends_at addr count whole = omega (arith, whole)

-- one that is refused
refused-as : (it : MapCall) (cpu addr len : ℕ) → dontneed_reply (memory it.one.space.host) addr len ≡ Refused Errno.Einval →
    Takes (madvised it.one.kernel it.key it.one.object.space addr len 4 (answer_of_reply (dontneed_reply (memory it.one.space.host) addr len))) (called it.one.space cpu (DontNeed addr len)) it.one.name
refused-as it cpu addr len is =
    let new = cleared_in_part it.one.kernel it.one.object.space (addr / 4096) (pages_of len) 4 in
    record {
      kernel = new;
      object = it.one.object;
      taken = ap (λ r. madvised it.one.kernel it.key it.one.object.space addr len 4 (answer_of_reply r)) is;
      agree = subst (λ s. Agree s new it.one.name it.one.object) (sym (by-reply it.one.space cpu (DontNeed addr len) (Refused Errno.Einval) is))
          (agree-perhaps it.one.space it.one.kernel it.one.name it.one.object (addr / 4096) (pages_of len) it.one.agree);
    }

pub dontneed-taken : (it : MapCall) (cpu addr len : ℕ) → AreUnseen it.one (addr / 4096) (pages_of len) → (dontneed_reply (memory it.one.space.host) addr len ≡ Refused Errno.Enomem → is_inside addr (rounded len) ≡ true) →
    Takes (madvised it.one.kernel it.key it.one.object.space addr len 4 (answer_of_reply (dontneed_reply (memory it.one.space.host) addr len))) (called it.one.space cpu (DontNeed addr len)) it.one.name
dontneed-taken it cpu addr len unseen inside =
    let there = memory it.one.space.host in
    by-dontneed (λ reply. dontneed_reply there addr len ≡ reply → Takes (madvised it.one.kernel it.key it.one.object.space addr len 4 (answer_of_reply (dontneed_reply there addr len))) (called it.one.space cpu (DontNeed addr len)) it.one.name)
    (is_page_start addr) (eqb len 0) (leb (2 ^ 64) (addr + rounded len)) (not (is_all_mapped there addr (rounded len)))
    (λ is. refused-as it cpu addr len is)
    (λ is. clears-as it cpu addr len Done answer.Done (done-clears it.one.space addr len is) unseen)
    (λ is. clears-as it cpu addr len (Refused Errno.Enomem) (failed Errno.Enomem) (hole-clears it.one.space addr len (inside is) is) unseen) refl

-- The pages are cleared

page-emptied : (space : Space) (name page : ℕ) (frees b : Bool) (found : Option Page) → IsSoundSpace space → (b ≡ true → contains_key space.host.bytes page ≡ false) → AgreesAt space name page found →
    AgreesAt space name page (cond b (page_with (if frees then freed_page else cleared_page) found) found)
page-emptied space name page frees true None sound gone agrees = agrees
page-emptied space name page true true (Some one) sound gone agrees = freed (is_missing one.presence) (is_poisoned one.presence) refl where
  freed : (missing poisoned : Bool) → is_poisoned one.presence ≡ poisoned →
      IsPage space name page (if missing then one else if poisoned then cleared_page one else record one { presence = Unknown; freed = true })
  freed true poisoned is = agrees
  freed false true is = absurd (false≢true (sym agrees.whole ∙ is))
  freed false false is =
      record {
        object = agrees.object;
        missing = agrees.missing;
        protect = agrees.protect;
        registered = agrees.registered;
        absent = λ h. gone refl;
        present = λ h. absurd (false≢true h);
        whole = refl;
        plain = agrees.plain;
        guarded = agrees.guarded;
      }
page-emptied space name page false true (Some one) sound gone agrees =
    record {
      object = agrees.object;
      missing = agrees.missing;
      protect = agrees.protect;
      registered = agrees.registered;
      absent = λ h. gone refl;
      present = λ h. absurd (never one.missing h);
      whole = known-whole one.missing;
      plain = agrees.plain;
      guarded = λ h. absurd (false≢true (sym (gone refl) ∙ sound.present page h));
    }
  where
    known-whole : (missing : Bool) → is_poisoned (known_as missing Missing) ≡ false
    known-whole true = refl
    known-whole false = refl

    never : (missing : Bool) → is_present (known_as missing Missing) ≡ true → ⊥
    never true h = false≢true h
    never false h = false≢true h
page-emptied space name page frees false found sound gone agrees = agrees

-- a page of the space that is cleared, or of another one
same-space : (change : Page → Page) (pages : ℕ → ℕ → Option Page) (space own page : ℕ) (inside b : Bool) → eqb space own ≡ b →
    cond (b && inside) (page_with change (pages space page)) (pages own page) ≡ cond (b && inside) (page_with change (pages own page)) (pages own page)
same-space change pages space own page inside true is = ap (λ n. cond (true && inside) (page_with change (pages n page)) (pages own page)) (eqb-true space own is)
same-space change pages space own page inside false is = refl

pub clears-taken : (one : Counterparts) (key : ℕ) (span : Span) → span_of one.kernel.clears key ≡ Some span → is_told_all one.kernel key ≡ true → AreGone one span → Takes (clears one.kernel key) one.space one.name
clears-taken one key span has told gone =
    let agree = one.agree in
    let untold = agree.untold in
    let new = all_cleared (record one.kernel { clears = spans_without one.kernel.clears key }) span.space span.first (span.end - span.first) span.frees in
    record {
      kernel = new;
      object = one.object;
      taken = ap (cleared_by one.kernel key) has ∙ ap (λ b. allowed b new) told;
      agree = record {
        sound = agree.sound;
        named = agree.named;
        features = agree.features;
        pages = λ page.
            subst (AgreesAt one.space one.name page) (sym (same-space (if span.frees then freed_page else cleared_page) one.kernel.pages span.space one.object.space page (in_range span.first (span.end - span.first) page) (eqb span.space one.object.space) refl))
            (page-emptied one.space one.name page span.frees (eqb span.space one.object.space && in_range span.first (span.end - span.first) page) (one.kernel.pages one.object.space page) agree.sound (gone page) (agree.pages page));
        unread = agree.unread;
        untold = record { same = untold.same; once = untold.once; ranks = untold.ranks; own = untold.own; tells = untold.tells; none_queued = untold.none_queued };
        alone = agree.alone;
        ranged = agree.ranged;
      };
    }
