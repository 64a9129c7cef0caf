-- Frames in flight: what each word on a wire says of two wires joined, of a wire to which frames were sent, and how many bytes of its first
-- frame it holds.
use Rattle.std.proofs.Common.{◌≡◌, ℕ, ◌&&◌, ◌||◌, Bool, true, false, cond, eqb, Option, Some, is_some, List, [], ◌∷◌, ◌++◌, map, refl, sym, ap, ◌∙◌, append_assoc, if◌then◌else◌, ◌+◌, arith, length}
use Rattle.std.specs.Option.{option_and_then}
use Rattle.std.specs.Ordering.{nat_cmp}
use Rattle.std.specs.FinMap.{FinMap}
use Rattle.mig_model.specs.Wire.{Frame, Sent, Copy, kept_after, sending, Wire, page_frame, copies_in}
use Rattle.mig_model.specs.Wire.Frame.{Request}
use Rattle.mig_model.specs.Whereabouts.{has_copy, is_package, kept_by, after_package, package_in, copies_of, AreFaithful, is_request, are_requests}
use Rattle.mig_model.specs.Invariant.{Flow, flow_next, flow_after, AreOf, Wires, IsSoundFlight, is_done, are_requests_and_done, HeldFits}
use Rattle.mig_model.specs.Migration.{World, is_short, next}
use Rattle.mig_model.specs.Source.{space_of}
use Rattle.mig_model.proofs.memory.Facts.{or_assoc, up_not_down, zero_bytes}
use Rattle.std.proofs.lemmas.Bool.Decides.{nat_tests}
use Rattle.mig_model.specs.Invariant.Flow.{Copies, Pushed}
use Rattle.mig_model.proofs.invariant.FirstFrame.{stays_late}

-- Frames that are sent stand after those in flight

pub sending-behind : (wire : List Sent) (epoch : ℕ) (frames : List Frame) → sending wire epoch frames ≡ wire ++ sending [] epoch frames
sending-behind [] epoch frames = refl
sending-behind (sent ∷ wire) epoch [] = ap (λ w. sent ∷ w) (sending-behind wire epoch [])
sending-behind (sent ∷ wire) epoch (frame ∷ frames) =
    let one : Sent = record { epoch = epoch; frame = frame } in
    sending-behind (sent ∷ (wire ++ one ∷ [])) epoch frames
    ∙ append_assoc (sent ∷ wire) (one ∷ []) (sending [] epoch frames)
    ∙ ap (λ w. sent ∷ (wire ++ w)) (sym (sending-behind (one ∷ []) epoch frames))

-- The order of the frames

and_then_twice : {A : Type 0} {B : Type 0} {C : Type 0} (f : B → Option C) (g : A → Option B) (o : Option A) → option_and_then (λ x. option_and_then f (g x)) o ≡ option_and_then f (option_and_then g o)
and_then_twice f g o = grind arith

pub flow_after-append : (flow : Flow) (a b : List Sent) → flow_after flow (a ++ b) ≡ option_and_then (λ next. flow_after next b) (flow_after flow a)
flow_after-append flow [] b = refl
flow_after-append flow (sent ∷ a) b =
    ap (λ f. option_and_then f (flow_next flow sent.frame)) (λ i next. flow_after-append next a b i)
    ∙ and_then_twice (λ next. flow_after next b) (λ next. flow_after next a) (flow_next flow sent.frame)

-- Copies

pub has_copy-append : (a b : List Copy) (page : ℕ) → has_copy (a ++ b) page ≡ (has_copy a page || has_copy b page)
has_copy-append [] b page = refl
has_copy-append (copy ∷ a) b page = ap (λ t. eqb copy.page page || t) (has_copy-append a b page) ∙ or_assoc (eqb copy.page page) (has_copy a page) (has_copy b page)

-- Epochs

pub AreOf-append : (epoch : ℕ) (a b : List Sent) → AreOf epoch a → AreOf epoch b → AreOf epoch (a ++ b)
AreOf-append epoch [] b x y = y
AreOf-append epoch (sent ∷ a) b x y = (x.0, AreOf-append epoch a b x.1 y)

pub AreOf-sending : (epoch : ℕ) (wire : List Sent) (frames : List Frame) → AreOf epoch wire → AreOf epoch (sending wire epoch frames)
AreOf-sending epoch wire [] x = x
AreOf-sending epoch wire (frame ∷ frames) x = grind (arith, nat_tests, AreOf-append, AreOf-sending epoch (wire ++ record { epoch = epoch; frame = frame } ∷ []) frames (AreOf-append epoch wire _ x (refl, tt)))

-- The Package, and what stands before and after it

pub package_in-append : (a b : List Sent) → package_in (a ++ b) ≡ (if is_some (package_in a) then package_in a else package_in b)
package_in-append [] b = refl
package_in-append (sent ∷ a) b = grind (arith, nat_tests, package_in-append a b)

pub behind-append : (a b : List Sent) → after_package (a ++ b) ≡ (if is_some (package_in a) then after_package a ++ b else after_package b)
behind-append [] b = refl
behind-append (sent ∷ a) b = grind (arith, nat_tests, behind-append a b)

pub kept_by-append : (kept : FinMap nat_cmp (List ℕ)) (a b : List Sent) → kept_by kept (a ++ b) ≡ (if is_some (package_in a) then kept_by kept a else kept_by (kept_by kept a) b)
kept_by-append kept [] b = refl
kept_by-append kept (sent ∷ a) b = grind (arith, nat_tests, kept_by-append (kept_after kept sent.frame) a b)

-- The wire back

and_assoc : (a b c : Bool) → (a && (b && c)) ≡ ((a && b) && c)
and_assoc a b c = grind arith

pub are_requests-append : (a b : List Sent) → are_requests (a ++ b) ≡ (are_requests a && are_requests b)
are_requests-append [] b = refl
are_requests-append (sent ∷ a) b = ap (λ t. is_request sent.frame && t) (are_requests-append a b) ∙ and_assoc (is_request sent.frame) (are_requests a) (are_requests b)

done_step : (here before after : Bool) (x : Bool) → (before ≡ true → after ≡ true) → (here && before) ≡ true → ((here && after) || x) ≡ true
done_step here before after x h e = grind arith

-- a Done after requests
pub are_requests_and_done-push : (wire : List Sent) (sent : Sent) → is_done sent.frame ≡ true → are_requests wire ≡ true → are_requests_and_done (wire ++ sent ∷ []) ≡ true
are_requests_and_done-push [] sent done h = grind (arith, nat_tests)
are_requests_and_done-push (s ∷ wire) sent done h = grind (arith, nat_tests, done_step, are_requests_and_done-push wire sent done)

pub are_requests-sending : (epoch : ℕ) (wire : List Sent) (pages : List ℕ) → are_requests wire ≡ true → are_requests (sending wire epoch (map Request pages)) ≡ true
are_requests-sending epoch wire [] h = h
are_requests-sending epoch wire (page ∷ pages) h =
    let one : Sent = record { epoch = epoch; frame = Request page } in
    are_requests-sending epoch (wire ++ one ∷ []) pages (are_requests-append wire (one ∷ []) ∙ ap (λ t. t && true) h)

-- What is in flight while the link is up

pub flight_up : (world : World) → world.up ≡ true → (world.destination.has_run ≡ true → AreFaithful (space_of world.source).host.bytes (copies_of world.forward.frames)) →
    Wires world.source world.destination world.forward.frames world.back.frames world.urgent.frames →
    IsSoundFlight world.source world.destination world.forward.frames world.back.frames world.urgent.frames world.up
flight_up world up faithful wires = record { flight_faithful = faithful; down = λ down. up_not_down world.up up down; wires = λ h. wires }

pub fits-none : (frames : List Sent) → HeldFits frames 0
fits-none frames = grind (arith, nat_tests)

pub fits-append : (frames more : List Sent) (held : ℕ) → HeldFits frames held → HeldFits (frames ++ more) held
fits-append frames more held h = grind (arith, nat_tests)

pub fits-more : (frames : List Sent) (held epoch : ℕ) (more : List Frame) → HeldFits frames held → HeldFits (sending frames epoch more) held
fits-more frames held epoch [] h = h
fits-more frames held epoch (frame ∷ more) h = fits-more (frames ++ record { epoch = epoch; frame = frame } ∷ []) held epoch more (fits-append frames (record { epoch = epoch; frame = frame } ∷ []) held h)

-- bytes that complete no frame are held
pub fits-moved : (wire : Wire) (n : ℕ) (sent : Sent) (rest : List Sent) → wire.frames ≡ sent ∷ rest → is_short wire sent.frame n ≡ true → HeldFits wire.frames (wire.held + n)
fits-moved wire n sent rest is short = grind (arith, nat_tests)

-- One frame more

pub flow_sent : (flow before after : Flow) (wire : List Sent) (sent : Sent) → flow_after flow wire ≡ Some before → flow_next before sent.frame ≡ Some after → flow_after flow (wire ++ sent ∷ []) ≡ Some after
flow_sent flow before after wire sent h n = grind (arith, nat_tests, flow_after-append)

-- After a Package

-- a wire on which a Package is has the same Package, and the same is kept before it, whatever is put after it
pub record HasPackage (kept : FinMap nat_cmp (List ℕ)) (wire more : List Sent) : Type 0 where
  pub same : package_in (wire ++ more) ≡ package_in wire
  pub kept_same : kept_by kept (wire ++ more) ≡ kept_by kept wire
  pub behind_more : after_package (wire ++ more) ≡ after_package wire ++ more

pub has_package : (kept : FinMap nat_cmp (List ℕ)) (wire more : List Sent) (frame : Frame) → package_in wire ≡ Some frame → HasPackage kept wire more
has_package kept wire more frame h = grind (arith, nat_tests, package_in-append, kept_by-append, behind-append)

-- No Package yet: the wire is before its Discard

plain_head : (flow : Flow) (frame : Frame) (rest : List Sent) → option_and_then (λ next. flow_after next rest) (flow_next flow frame) ≡ Some Copies → is_package frame ≡ false
plain_head flow frame rest h = grind (arith, nat_tests, stays_late)

step_by : {A : Type 0} (o : Option Flow) (rest : List Sent) → ((next : Flow) → flow_after next rest ≡ Some Copies → A) → option_and_then (λ next. flow_after next rest) o ≡ Some Copies → A
step_by o rest next h = grind arith

no_package : (flow : Flow) (wire : List Sent) → flow_after flow wire ≡ Some Copies → is_some (package_in wire) ≡ false
no_package flow [] h = refl
no_package flow (sent ∷ wire) h =
    ap (λ b. is_some (cond b (Some sent.frame) (package_in wire))) (plain_head flow sent.frame wire h)
    ∙ step_by (flow_next flow sent.frame) wire (λ next e. no_package next wire e) h

pub record HasNoPackage (kept : FinMap nat_cmp (List ℕ)) (wire more : List Sent) : Type 0 where
  pub plan : package_in (wire ++ more) ≡ package_in more
  pub kept_then : kept_by kept (wire ++ more) ≡ kept_by (kept_by kept wire) more
  pub behind_then : after_package (wire ++ more) ≡ after_package more

-- a wire of copies alone, or of Advise and copies, has no Package
pub has_no_package : (flow : Flow) (kept : FinMap nat_cmp (List ℕ)) (wire more : List Sent) → flow_after flow wire ≡ Some Copies → HasNoPackage kept wire more
has_no_package flow kept wire more h = grind (arith, nat_tests, no_package, package_in-append, kept_by-append, behind-append)

-- The frame of a page

pub copies_in-page : (page : ℕ) (bytes : List ℕ) → length bytes ≡ 4096 → copies_in (page_frame page bytes) ≡ record { page = page; bytes = bytes } ∷ []
copies_in-page page bytes whole = grind (arith, nat_tests, zero_bytes)

pub copies_of-page : (epoch page : ℕ) (bytes : List ℕ) → length bytes ≡ 4096 → copies_of (record { epoch = epoch; frame = page_frame page bytes } ∷ []) ≡ record { page = page; bytes = bytes } ∷ []
copies_of-page epoch page bytes whole = ap (λ copies. copies ++ []) (copies_in-page page bytes whole)

pub page_flow : (page : ℕ) (bytes : List ℕ) → (flow_next Copies (page_frame page bytes) ≡ Some Copies) × (flow_next Pushed (page_frame page bytes) ≡ Some Pushed)
page_flow page bytes = grind (arith, nat_tests)
