-- Where the guest's memory is: what the guest sees, and which copies are kept, in flight or still to be pushed. The promises are made in
-- these words.
use Rattle.std.specs.Prelude.{◌≡◌, ◌≢◌, ℕ, ◌==◌, ◌&&◌, ◌||◌, Bool, true, false, if◌then◌else◌, Option, Some, None, List, [], ◌∷◌, ◌++◌}
use Rattle.std.specs.Option.{option_and_then}
use Rattle.std.specs.Ordering.{nat_cmp}
use Rattle.std.specs.FinMap.{FinMap, get, contains_key}
use Rattle.std.specs.FinSet.{FinSet, contains}
use Rattle.mig_base.specs.declared.TheConstants.{HIGH_PAGE}
use Rattle.mig_base.specs.declared.phase.Received.{Received}
use Rattle.mig_base.specs.Pages.{map_below}
use Rattle.mig_model.specs.Host.{Host}
use Rattle.mig_base.specs.Userfault.{Noted}
use Rattle.mig_model.specs.Wire.{Frame, Sent, Copy, copies_in, kept_after}
use Rattle.mig_model.specs.Wire.Frame.{Package, Request, Recv}
use Rattle.mig_model.specs.Migration.{World}
use Rattle.mig_model.specs.Guest.{is_changed_by, is_present}
use Rattle.mig_model.specs.Log.{no_pages}
use Rattle.mig_model.specs.Source.{Source, commands_of, space_of}
use Rattle.mig_model.specs.Destination.{Destination, settled}

-- The memory that the guest sees

-- the bytes of a page of the destination: its own where it is present, else those of the page at the source from which it is owed
abbrev pub seen_bytes : Host → Host → (ℕ → Option ℕ) → ℕ → Option (List ℕ)
seen_bytes here there owed page = elim (get here.bytes page) [ Some bytes ↦ Some bytes | None ↦ option_and_then (get there.bytes) (owed page) ]

-- the destination's host as the guest sees it
abbrev pub seen_host : Host → Host → (ℕ → Option ℕ) → Host
seen_host here there owed = record { areas = here.areas; bytes = map_below (seen_bytes here there owed) HIGH_PAGE }

-- the host of the source until the destination has run, and from then on the destination's as the guest sees it
abbrev pub current_by : Bool → Host → Host → (ℕ → Option ℕ) → Host
current_by false here there owed = there
current_by true here there owed = seen_host here there owed

-- the host that the guest sees in a world: its memory is the flat memory of the transcript, as the law `every_schedule` says
abbrev pub current_host : World → Host
current_host world = current_by world.destination.has_run world.destination.guest.space.host world.source.guest.space.host (settled world.destination)

-- Unread events

-- whether an unread event has changed a page
abbrev pub is_unread : List Noted → ℕ → Bool
is_unread [] page = false
is_unread (noted ∷ events) page = is_changed_by noted.message page || is_unread events page

-- What the frames in flight carry

-- the copies that frames in flight carry, in their order
abbrev pub copies_of : List Sent → List Copy
copies_of [] = []
copies_of (sent ∷ rest) = copies_in sent.frame ++ copies_of rest

-- whether there is a copy of a page
abbrev pub has_copy : List Copy → ℕ → Bool
has_copy [] page = false
has_copy (copy ∷ copies) page = copy.page == page || has_copy copies page

-- the page of each copy is present in this map, with the bytes of the copy
abbrev pub AreFaithful : FinMap nat_cmp (List ℕ) → List Copy → Type 0
AreFaithful bytes [] = Unit {0}
AreFaithful bytes (copy ∷ copies) = (get bytes copy.page ≡ Some copy.bytes) × AreFaithful bytes copies

-- whether a frame is a Package
abbrev pub is_package : Frame → Bool
is_package (Package areas owed commands) = true
is_package frame = false

-- what the destination keeps once the frames before the Package are taken, or all frames if there is no Package
abbrev pub kept_by : FinMap nat_cmp (List ℕ) → List Sent → FinMap nat_cmp (List ℕ)
kept_by kept [] = kept
kept_by kept (sent ∷ rest) = if is_package sent.frame then kept else kept_by (kept_after kept sent.frame) rest

-- the frames after the Package
abbrev pub after_package : List Sent → List Sent
after_package [] = []
after_package (sent ∷ rest) = if is_package sent.frame then rest else after_package rest

-- the Package in flight, if any
abbrev pub package_in : List Sent → Option Frame
package_in [] = None
package_in (sent ∷ rest) = if is_package sent.frame then Some sent.frame else package_in rest

-- whether a frame is a Request
abbrev pub is_request : Frame → Bool
is_request (Request page) = true
is_request frame = false

-- whether frames are requests alone
abbrev pub are_requests : List Sent → Bool
are_requests [] = true
are_requests (sent ∷ rest) = is_request sent.frame && are_requests rest

-- whether a page is still to be pushed, or is on the urgent wire
abbrev pub is_urgent_or_left : FinSet nat_cmp → List Sent → ℕ → Bool
is_urgent_or_left remaining urgent page = contains remaining page || has_copy (copies_of urgent) page

-- Copies and owed pages, phase by phase, while the link is up

-- what holds of copies while the source makes rounds of pre-copy and the link is up
pub record IsPrecopying (source : Source) (kept : FinMap nat_cmp (List ℕ)) (forward : List Sent) : Type 0 where
  -- the newest copy of a clean page is right, unless an unread event has changed the page
  pub clean_copy : (page : ℕ) → contains source.log.clean page ≡ true → is_unread (space_of source).object.events page ≡ false → get (kept_by kept forward) page ≡ get (space_of source).host.bytes page
  -- each page that has a copy was sent in this epoch
  pub copies_sent : (page : ℕ) → contains_key (kept_by kept forward) page ≡ true → contains source.log.sent page ≡ true

-- what holds of copies while a Package is in flight; `owed` has the pages that it owes
pub record IsSwitching (source : Source) (kept : FinMap nat_cmp (List ℕ)) (forward urgent : List Sent) : Type 0 where
  pub owed : FinSet nat_cmp
  -- the Package has the source's mapped pages and the outstanding commands of its processors
  pub plan : package_in forward ≡ Some (Package (space_of source).host.areas owed (commands_of source.guest.cpus))
  pub owed_present : (page : ℕ) → contains owed page ≡ true → is_present (space_of source) page ≡ true
  -- when it is taken, exactly the source's present pages that it does not owe are kept, with their bytes
  pub kept_rest : (page : ℕ) → get (kept_by kept forward) page ≡ (if contains owed page then None else get (space_of source).host.bytes page)
  -- what it owes is still to be pushed, on the urgent wire, or after it
  pub whereabouts : (page : ℕ) → contains owed page ≡ true → (is_urgent_or_left source.remaining urgent page || has_copy (copies_of (after_package forward)) page) ≡ true
  pub faithful : AreFaithful (space_of source).host.bytes (copies_of (after_package forward))

-- the first frame of a wire back is a Recv of this state. It lists at least the pages that the destination still needs, and all of them
-- are present at the source; requests come after it
pub record IsReceiving (source : Source) (destination : Destination) (state : Received) (back : List Sent) : Type 0 where
  pub owed : FinSet nat_cmp
  pub epoch : ℕ
  pub rest : List Sent
  pub first : back ≡ record { epoch = epoch; frame = Recv state owed } ∷ rest
  pub requests : are_requests rest ≡ true
  -- if the destination does not run, no request comes after it, and it lists no page
  pub alone : state ≢ Received.Running → rest ≡ []
  pub none_listed : state ≢ Received.Running → owed ≡ no_pages
  pub needed : (page origin : ℕ) → get destination.owed page ≡ Some origin → contains owed origin ≡ true
  pub owed_present : (page : ℕ) → contains owed page ≡ true → is_present (space_of source) page ≡ true
