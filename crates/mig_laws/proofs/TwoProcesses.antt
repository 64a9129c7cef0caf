-- What happens to two processes has an order of their logs: a side that has lost its channel first waits until the other has lost it too.
use Rattle.std.proofs.Common.{◌≡◌, ◌⊎◌, inl, inr, ℕ, ◌||◌, Bool, true, false, List, [], ◌∷◌, ◌++◌, map, if◌then◌else◌, append_assoc, refl, sym, ap, subst, ◌∙◌}
use Rattle.std.specs.Prelude.{Ok}
use Rattle.std.proofs.lemmas.Bool.{false≢true}
use Rattle.std.proofs.lemmas.List.{append-nil}
use Rattle.mig_base.specs.declared.command.Entry.{Entry}
use Rattle.mig_base.specs.declared.schedule.Side.{Side}
use Rattle.mig_base.specs.declared.schedule.Step.{Step}
use Rattle.mig_model.specs.Destination.{Destination, first_destination, is_dest_paused}
use Rattle.mig_model.specs.Migration.{World, after_steps, first_world_with}
use Rattle.mig_model.specs.Promises.{IsReached}
use Rattle.mig_model.specs.Source.{Source, first_source, is_under_way}
use Rattle.mig_model.specs.Wire.{Sent, sending, sending_if}
use Rattle.mig_laws.specs.Orders.{IsCut, IsDestinationTurn, Pair, TakesFront, TakesUrgentFront, destination_may, first_pair, is_alone, log_of, step_of}
use Rattle.mig_laws.specs.Processes.{AreEvents, Channel, Event, IsEvent, IsSettled, Processes, first_processes, last_of, log_here, log_there, logged_here, logged_there, put_first, put_later}
use Rattle.mig_laws.specs.Sides.{Did, Line, destination_after, destination_entries, destination_line, source_after, source_entries, source_line}
use Rattle.mig_laws.proofs.LogNodes.{left}
use Rattle.mig_laws.proofs.OrderRuns.{run_of_logs}
use Rattle.mig_laws.proofs.GrownOrders.{Adds, InUse, IsLost, Leads, Open, Shut, all-alone, all-alone_there, alone-more, alone-more_there, back-same, down, down-here, down-there, leads-cut, leads-here, leads-there, lost-same, never-used, on, on-here, one-here, one-there, regroup, shut-loses, shut-more, shut-opens}
use Rattle.mig_laws.proofs.LinesAlone.{IsDestinationAlone}

-- What has happened, as an order so far and the lines that wait

not-used : (here : Source) (later : List Channel) (now : Source) (lines : List Line) → InUse here later false now lines → ⊥
not-used here [] now lines used = used
not-used here (next ∷ later) now lines used = used

pub not-empty : (next : Channel) (later : List Channel) → next ∷ later ≡ [] → ⊥
not-empty next later is = cc

-- the destination uses the first channel: of the source's lines those wait that it has made since it lost that channel
pub record Meets (first : Pair) (here there : List Line) (source : Source) (destination : Destination) (channel : Channel) (later : List Channel) (uses : Bool) : Type 0 where
  pub at : Source
  pub waiting : List Line
  pub done : List Line
  pub said : List Entry
  pub told : List Entry
  pub leads : Leads first done there (on channel at destination said told)
  pub ahead : Open at later uses source waiting
  pub is : here ≡ done ++ waiting

-- both have lost the first channel: of the source's lines those wait with which it has opened later ones
pub record Parted (first : Pair) (here there : List Line) (source : Source) (destination : Destination) (later : List Channel) (uses : Bool) : Type 0 where
  pub at : Source
  pub waiting : List Line
  pub done : List Line
  pub said : List Entry
  pub told : List Entry
  pub leads : Leads first done there (down at destination said told)
  pub ahead : Shut at later uses source waiting
  pub is : here ≡ done ++ waiting

-- the destination alone has lost the channel, and its lines since then wait
pub record Waits (first : Pair) (here there : List Line) (source : Source) (destination : Destination) (channel : Channel) (later : List Channel) (uses : Bool) : Type 0 where
  pub at : Destination
  pub waiting : List Line
  pub done : List Line
  pub said : List Entry
  pub told : List Entry
  pub leads : Leads first here done (on channel source at said told)
  pub alone : IsDestinationAlone at waiting
  pub now : destination ≡ destination_after at waiting
  pub is : there ≡ done ++ waiting
  pub none : later ≡ []
  pub used : uses ≡ true

abbrev pub SimBy : Pair → List Line → List Line → Source → Destination → Channel → List Channel → Bool → Bool → Type 0
SimBy first here there source destination channel later uses true = Meets first here there source destination channel later uses
SimBy first here there source destination channel later uses false = Parted first here there source destination later uses ⊎ Waits first here there source destination channel later uses

abbrev pub Sim : Pair → List Line → List Line → Processes → Type 0
Sim first here there old = SimBy first here there old.source old.destination old.first old.later old.here old.there

nil-then : (done waiting : List Line) (line : Line) (here : List Line) → here ≡ done ++ waiting → waiting ≡ [] → here ++ line ∷ [] ≡ (done ++ line ∷ []) ++ []
nil-then done waiting line here is none = ap (λ l. l ++ line ∷ []) (is ∙ ap (λ w. done ++ w) none ∙ append-nil done) ∙ sym (append-nil (done ++ line ∷ []))

-- A line of the source

here-met : (first : Pair) (here there : List Line) (source : Source) (destination : Destination) (channel : Channel) (later : List Channel) (uses : Bool) (line : Line) (did : Did Source) (new : Channel)
    (at : Source) (waiting done : List Line) (said told : List Entry) → Leads first done there (on channel at destination said told) → Open at later uses source waiting → here ≡ done ++ waiting → Adds uses source (last_of channel later) line did new →
    Meets first (here ++ line ∷ []) there did.node destination (put_first channel later new) (put_later later new) uses
here-met first here there source destination channel [] true line did new at waiting done said told leads (inl used) is adds =
    let turn = on-here channel new at destination said told line did (subst (λ node. Adds true node channel line did new) used.0 adds) in
    record {
      at = did.node;
      waiting = [];
      done = done ++ line ∷ [];
      said = said ++ did.entries;
      told = told;
      leads = leads-here first (on channel at destination said told) (on new did.node destination (said ++ did.entries) told) done there (line ∷ []) (did.effect ∷ []) leads
          (one-here (on channel at destination said told) (on new did.node destination (said ++ did.entries) told) line did turn);
      ahead = inl (refl, refl);
      is = nil-then done waiting line here is used.1;
    }
here-met first here there source destination channel [] false line did new at waiting done said told leads (inl used) is adds = absurd used
here-met first here there source destination channel (next ∷ later) uses line did new at waiting done said told leads (inl used) is adds = absurd (never-used at next later uses source waiting used)
here-met first here there source destination channel [] true line did new at waiting done said told leads (inr (alone, more, lost, shut, split)) is adds = absurd (false≢true (sym shut.0))
here-met first here there source destination channel [] false line did new at waiting done said told leads (inr (alone, more, lost, shut, split)) is adds =
    let grew = alone-more at alone line did lost.alone adds.may (subst (λ node. source_line node line ≡ Ok did) shut.1 adds.gives) in
    record {
      at = at;
      waiting = waiting ++ line ∷ [];
      done = done;
      said = said;
      told = told;
      leads = subst (λ (c : Channel). Leads first done there (on c at destination said told)) (sym (lost-same source channel new line did adds)) leads;
      ahead = inr (
        alone ++ line ∷ [],
        [],
        record { under_way = lost.under_way; alone = grew.0 },
        (refl, sym grew.1, refl),
        ap (λ l. l ++ line ∷ []) (split ∙ ap (λ m. alone ++ m) shut.2 ∙ append-nil alone) ∙ sym (append-nil (alone ++ line ∷ [])),
      );
      is = regroup done waiting line here is;
    }
here-met first here there source destination channel (next ∷ later) uses line did new at waiting done said told leads (inr (alone, more, lost, shut, split)) is adds =
    record {
      at = at;
      waiting = waiting ++ line ∷ [];
      done = done;
      said = said;
      told = told;
      leads = leads;
      ahead = inr (alone, more ++ line ∷ [], lost, shut-more (source_after at alone) next later uses source more line did new shut adds, regroup alone more line waiting split);
      is = regroup done waiting line here is;
    }

here-parted : (first : Pair) (here there : List Line) (source : Source) (destination : Destination) (channel : Channel) (later : List Channel) (uses : Bool) (line : Line) (did : Did Source) (new : Channel)
    (at : Source) (waiting done : List Line) (said told : List Entry) → Leads first done there (down at destination said told) → Shut at later uses source waiting → here ≡ done ++ waiting → Adds uses source (last_of channel later) line did new →
    Parted first (here ++ line ∷ []) there did.node destination (put_later later new) uses
here-parted first here there source destination channel [] true line did new at waiting done said told leads shut is adds = absurd (false≢true (sym shut.0))
here-parted first here there source destination channel [] false line did new at waiting done said told leads shut is adds =
    let turn = down-here at destination said told line did adds.may (subst (λ node. source_line node line ≡ Ok did) shut.1 adds.gives) in
    record {
      at = did.node;
      waiting = [];
      done = done ++ line ∷ [];
      said = said ++ did.entries;
      told = told;
      leads = leads-here first (down at destination said told) (down did.node destination (said ++ did.entries) told) done there (line ∷ []) (did.effect ∷ []) leads
          (one-here (down at destination said told) (down did.node destination (said ++ did.entries) told) line did turn);
      ahead = (refl, refl, refl);
      is = nil-then done waiting line here is shut.2;
    }
here-parted first here there source destination channel (next ∷ later) uses line did new at waiting done said told leads shut is adds =
    record {
      at = at;
      waiting = waiting ++ line ∷ [];
      done = done;
      said = said;
      told = told;
      leads = leads;
      ahead = shut-more at next later uses source waiting line did new shut adds;
      is = regroup done waiting line here is;
    }

here-waits : (first : Pair) (here there : List Line) (source : Source) (destination : Destination) (channel : Channel) (later : List Channel) (uses : Bool) (line : Line) (did : Did Source) (new : Channel) → Waits first here there source destination channel later uses →
    Adds uses source (last_of channel later) line did new → Waits first (here ++ line ∷ []) there did.node destination (put_first channel later new) (put_later later new) uses
here-waits first here there source destination channel [] true line did new waits adds =
    let turn = on-here channel new source waits.at waits.said waits.told line did adds in
    record {
      at = waits.at;
      waiting = waits.waiting;
      done = waits.done;
      said = waits.said ++ did.entries;
      told = waits.told;
      leads = leads-here first (on channel source waits.at waits.said waits.told) (on new did.node waits.at (waits.said ++ did.entries) waits.told) here waits.done (line ∷ []) (did.effect ∷ []) waits.leads
          (one-here (on channel source waits.at waits.said waits.told) (on new did.node waits.at (waits.said ++ did.entries) waits.told) line did turn);
      alone = waits.alone;
      now = waits.now;
      is = waits.is;
      none = refl;
      used = refl;
    }
here-waits first here there source destination channel [] false line did new waits adds = absurd (false≢true waits.used)
here-waits first here there source destination channel (next ∷ later) uses line did new waits adds = absurd (not-empty next later waits.none)

here-sim : (first : Pair) (here there : List Line) (source : Source) (destination : Destination) (channel : Channel) (later : List Channel) (uses reads : Bool) (line : Line) (did : Did Source) (new : Channel) → SimBy first here there source destination channel later uses reads →
    Adds uses source (last_of channel later) line did new → SimBy first (here ++ line ∷ []) there did.node destination (put_first channel later new) (put_later later new) uses reads
here-sim first here there source destination channel later uses true line did new m adds = here-met first here there source destination channel later uses line did new m.at m.waiting m.done m.said m.told m.leads m.ahead m.is adds
here-sim first here there source destination channel later uses false line did new (inl m) adds = inl (here-parted first here there source destination channel later uses line did new m.at m.waiting m.done m.said m.told m.leads m.ahead m.is adds)
here-sim first here there source destination channel later uses false line did new (inr waits) adds = inr (here-waits first here there source destination channel later uses line did new waits adds)

-- Resume

abbrev opened_by : Did Source → Channel
opened_by did = record { forward = sending [] did.node.epoch did.frames; back = []; urgent = sending [] did.node.epoch did.urgent }

way-opens : (here : Source) (later : List Channel) (now : Source) (lines : List Line) (did : Did Source) → Open here later false now lines → source_line now (Line.Made Step.Resume) ≡ Ok did → Open here (later ++ opened_by did ∷ []) true did.node (lines ++ Line.Made Step.Resume ∷ [])
way-opens here later now lines did (inl used) gives = absurd (not-used here later now lines used)
way-opens here later now lines did (inr (alone, more, lost, shut, split)) gives =
    inr (alone, more ++ Line.Made Step.Resume ∷ [], lost, shut-opens (source_after here alone) later now more did shut gives, regroup alone more (Line.Made Step.Resume) lines split)

opens-sim : (first : Pair) (here there : List Line) (source : Source) (destination : Destination) (channel : Channel) (later : List Channel) (reads : Bool) (did : Did Source) → SimBy first here there source destination channel later false reads →
    source_line source (Line.Made Step.Resume) ≡ Ok did → SimBy first (here ++ Line.Made Step.Resume ∷ []) there did.node destination channel (later ++ opened_by did ∷ []) true reads
opens-sim first here there source destination channel later true did m gives =
    record {
      at = m.at;
      waiting = m.waiting ++ Line.Made Step.Resume ∷ [];
      done = m.done;
      said = m.said;
      told = m.told;
      leads = m.leads;
      ahead = way-opens m.at later source m.waiting did m.ahead gives;
      is = regroup m.done m.waiting (Line.Made Step.Resume) here m.is;
    }
opens-sim first here there source destination channel later false did (inl m) gives =
    inl (record {
      at = m.at;
      waiting = m.waiting ++ Line.Made Step.Resume ∷ [];
      done = m.done;
      said = m.said;
      told = m.told;
      leads = m.leads;
      ahead = shut-opens m.at later source m.waiting did m.ahead gives;
      is = regroup m.done m.waiting (Line.Made Step.Resume) here m.is;
    })
opens-sim first here there source destination channel later false did (inr waits) gives = absurd (false≢true waits.used)

-- The source loses its channel

way-loses : (here : Source) (later : List Channel) (now : Source) (lines : List Line) → Open here later true now lines → is_under_way now ≡ true → Open here later false now lines
way-loses here [] now lines (inl used) under_way = inr ([], [], record { under_way = ap is_under_way (sym used.0) ∙ under_way; alone = tt }, (refl, used.0, refl), used.1)
way-loses here (next ∷ later) now lines (inl used) under_way = absurd used
way-loses here later now lines (inr (alone, more, lost, shut, split)) under_way = inr (alone, more, lost, shut-loses (source_after here alone) later now more shut under_way, split)

-- the channel is cut
cut-pair : (channel : Channel) (source : Source) (destination : Destination) (said told : List Entry) → is_under_way source ≡ true → IsCut (on channel source destination said told) (down source destination said told)
cut-pair channel source destination said told under_way = record { was_up = refl; under_way = under_way; is = refl }

-- and the destination's lines that wait come after that
waited : (first : Pair) (here there : List Line) (source : Source) (destination : Destination) (channel : Channel) (later : List Channel) (uses : Bool) → Waits first here there source destination channel later uses → is_under_way source ≡ true →
    (said : List Entry) × (told : List Entry) × Leads first here there (down source destination said told)
waited first here there source destination channel later uses waits under_way =
    let before = on channel source waits.at waits.said waits.told in
    let middle = down source waits.at waits.said waits.told in
    let alone = all-alone_there source waits.at waits.said waits.told waits.waiting waits.alone in
    let cut = leads-cut first before middle here waits.done waits.leads (cut-pair channel source waits.at waits.said waits.told under_way) in
    let after = leads-there first middle (down source (destination_after waits.at waits.waiting) waits.said alone.more) here waits.done waits.waiting alone.effects cut alone.are in (
      waits.said,
      alone.more,
      subst (λ log. Leads first here log (down source destination waits.said alone.more)) (sym waits.is)
          (subst (λ node. Leads first here (waits.done ++ waits.waiting) (down source node waits.said alone.more)) (sym waits.now) after),
    )

loses-sim : (first : Pair) (here there : List Line) (source : Source) (destination : Destination) (channel : Channel) (later : List Channel) (reads : Bool) → SimBy first here there source destination channel later true reads → is_under_way source ≡ true →
    SimBy first here there source destination channel later false reads
loses-sim first here there source destination channel later true m under_way =
    record { at = m.at; waiting = m.waiting; done = m.done; said = m.said; told = m.told; leads = m.leads; ahead = way-loses m.at later source m.waiting m.ahead under_way; is = m.is }
loses-sim first here there source destination channel later false (inl m) under_way =
    inl (record { at = m.at; waiting = m.waiting; done = m.done; said = m.said; told = m.told; leads = m.leads; ahead = shut-loses m.at later source m.waiting m.ahead under_way; is = m.is })
loses-sim first here there source destination channel [] false (inr waits) under_way =
    let flat = waited first here there source destination channel [] true waits under_way in
    inl (record { at = source; waiting = []; done = here; said = flat.0; told = flat.1; leads = flat.2; ahead = (refl, refl, refl); is = sym (append-nil here) })
loses-sim first here there source destination channel (next ∷ later) false (inr waits) under_way = absurd (not-empty next later waits.none)

-- A line of the destination

record AddsThere (reads : Bool) (there : Destination) (old : Channel) (line : Line) (did : Did Destination) (new : Channel) : Type 0 where
  gives : destination_line there line ≡ Ok did
  may : (if reads then destination_may true line else is_alone line) ≡ true
  forward : List Sent
  takes : TakesFront line old.forward forward
  urgent : List Sent
  takes_urgent : TakesUrgentFront line old.urgent urgent
  puts : new ≡ record { forward = forward; back = sending_if reads old.back did.node.epoch did.frames; urgent = urgent }

on-there : (channel new : Channel) (here : Source) (there : Destination) (said told : List Entry) (line : Line) (did : Did Destination) → AddsThere true there channel line did new → IsDestinationTurn (on channel here there said told) line did (on new here did.node said (told ++ did.entries))
on-there channel new here there said told line did adds =
    record {
      gives = adds.gives;
      may = adds.may;
      forward = adds.forward;
      takes = adds.takes;
      urgent = adds.urgent;
      takes_urgent = adds.takes_urgent;
      is = ap (λ (c : Channel). on c here did.node said (told ++ did.entries)) adds.puts;
    }

pub urgent-same : (line : Line) (flight rest : List Sent) → is_alone line ≡ true → TakesUrgentFront line flight rest → rest ≡ flight
urgent-same (Line.Made step) flight rest alone takes = takes
urgent-same (Line.Took sent) flight rest alone takes = takes
urgent-same (Line.TookUrgent sent) flight rest alone takes = absurd (false≢true alone)

lost-same_there : (there : Destination) (channel new : Channel) (line : Line) (did : Did Destination) → AddsThere false there channel line did new → new ≡ channel
lost-same_there there channel new line did adds =
    adds.puts ∙ (λ i. record { forward = back-same line channel.forward adds.forward adds.may adds.takes i; back = channel.back; urgent = urgent-same line channel.urgent adds.urgent adds.may adds.takes_urgent i })

there-sim : (first : Pair) (here there : List Line) (source : Source) (destination : Destination) (channel : Channel) (later : List Channel) (uses reads : Bool) (line : Line) (did : Did Destination) (new : Channel) → SimBy first here there source destination channel later uses reads →
    AddsThere reads destination channel line did new → SimBy first here (there ++ line ∷ []) source did.node new later uses reads
there-sim first here there source destination channel later uses true line did new m adds =
    let before = on channel m.at destination m.said m.told in
    let after = on new m.at did.node m.said (m.told ++ did.entries) in
    record {
      at = m.at;
      waiting = m.waiting;
      done = m.done;
      said = m.said;
      told = m.told ++ did.entries;
      leads = leads-there first before after m.done there (line ∷ []) (did.effect ∷ []) m.leads (one-there before after line did (on-there channel new m.at destination m.said m.told line did adds));
      ahead = m.ahead;
      is = m.is;
    }
there-sim first here there source destination channel later uses false line did new (inl m) adds =
    let before = down m.at destination m.said m.told in
    let after = down m.at did.node m.said (m.told ++ did.entries) in
    inl (record {
      at = m.at;
      waiting = m.waiting;
      done = m.done;
      said = m.said;
      told = m.told ++ did.entries;
      leads = leads-there first before after m.done there (line ∷ []) (did.effect ∷ []) m.leads (one-there before after line did (down-there m.at destination m.said m.told line did adds.may adds.gives));
      ahead = m.ahead;
      is = m.is;
    })
there-sim first here there source destination channel later uses false line did new (inr waits) adds =
    let grew = alone-more_there waits.at waits.waiting line did waits.alone adds.may (subst (λ node. destination_line node line ≡ Ok did) waits.now adds.gives) in
    inr (record {
      at = waits.at;
      waiting = waits.waiting ++ line ∷ [];
      done = waits.done;
      said = waits.said;
      told = waits.told;
      leads = subst (λ (c : Channel). Leads first here waits.done (on c source waits.at waits.said waits.told)) (sym (lost-same_there destination channel new line did adds)) waits.leads;
      alone = grew.0;
      now = sym grew.1;
      is = regroup waits.done waits.waiting line there waits.is;
      none = waits.none;
      used = waits.used;
    })

-- The destination loses its channel

-- the channel is cut, and the source's lines that wait come after that, up to its Resume
cut-met : (first : Pair) (there : List Line) (destination : Destination) (channel : Channel) (at : Source) (alone done : List Line) (said told : List Entry) → Leads first done there (on channel at destination said told) → IsLost at alone →
    (more : List Entry) × Leads first (done ++ alone) there (down (source_after at alone) destination more told)
cut-met first there destination channel at alone done said told leads lost =
    let flat = all-alone at destination said told alone lost.alone in (
      flat.more,
      leads-here first (down at destination said told) (down (source_after at alone) destination flat.more told) done there alone flat.effects
          (leads-cut first (on channel at destination said told) (down at destination said told) done there leads (cut-pair channel at destination said told lost.under_way)) flat.are,
    )

parted-met : (first : Pair) (here there : List Line) (source : Source) (destination : Destination) (channel : Channel) (later : List Channel) (uses : Bool) (at : Source) (waiting done : List Line) (said told : List Entry) → Leads first done there (on channel at destination said told) →
    Open at later uses source waiting → here ≡ done ++ waiting → SimBy first here there source destination channel later uses false
parted-met first here there source destination channel [] true at waiting done said told leads (inl used) is =
    inr (record {
      at = destination;
      waiting = [];
      done = there;
      said = said;
      told = told;
      leads = subst (λ node. Leads first here there (on channel node destination said told)) (sym used.0) (subst (λ log. Leads first log there (on channel at destination said told)) (sym (is ∙ ap (λ w. done ++ w) used.1 ∙ append-nil done)) leads);
      alone = tt;
      now = refl;
      is = sym (append-nil there);
      none = refl;
      used = refl;
    })
parted-met first here there source destination channel [] false at waiting done said told leads (inl used) is = absurd used
parted-met first here there source destination channel (next ∷ later) uses at waiting done said told leads (inl used) is = absurd (never-used at next later uses source waiting used)
parted-met first here there source destination channel later uses at waiting done said told leads (inr (alone, more, lost, shut, split)) is =
    let flat = cut-met first there destination channel at alone done said told leads lost in
    inl (record {
      at = source_after at alone;
      waiting = more;
      done = done ++ alone;
      said = flat.0;
      told = told;
      leads = flat.1;
      ahead = shut;
      is = is ∙ ap (λ w. done ++ w) split ∙ sym (append_assoc done alone more);
    })

loses_there-sim : (first : Pair) (here there : List Line) (source : Source) (destination : Destination) (channel : Channel) (later : List Channel) (uses reads : Bool) → reads ≡ true → SimBy first here there source destination channel later uses reads →
    SimBy first here there source destination channel later uses false
loses_there-sim first here there source destination channel later uses true used m = parted-met first here there source destination channel later uses m.at m.waiting m.done m.said m.told m.leads m.ahead m.is
loses_there-sim first here there source destination channel later uses false used m = absurd (false≢true used)

-- The destination changes to the next channel

joins-sim : (first : Pair) (here there : List Line) (source : Source) (destination : Destination) (channel next : Channel) (later : List Channel) (uses reads : Bool) → reads ≡ false → is_dest_paused destination.phase ≡ true →
    SimBy first here there source destination channel (next ∷ later) uses reads → SimBy first here there source destination next later uses true
joins-sim first here there source destination channel next later uses true lost paused m = absurd (false≢true (sym lost))
joins-sim first here there source destination channel next later uses false lost paused (inr waits) = absurd (not-empty next later waits.none)
joins-sim first here there source destination channel next later uses false lost paused (inl m) =
    let mid = m.ahead.0 in
    let opened = m.ahead.1 in
    let rest = m.ahead.2 in
    let way = m.ahead.3 in
    record {
      at = mid;
      waiting = rest;
      done = m.done ++ opened;
      said = m.said ++ way.entries;
      told = m.told;
      leads = leads-here first (down m.at destination m.said m.told) (on next mid destination (m.said ++ way.entries) m.told) m.done there opened way.effects m.leads (way.are destination m.said m.told paused);
      ahead = m.ahead.4;
      is = m.is ∙ ap (λ w. m.done ++ w) m.ahead.5 ∙ sym (append_assoc m.done opened rest);
    }

-- Every event

event-sim : (first : Pair) (here there : List Line) (old : Processes) (event : Event) (new : Processes) → IsEvent old event new → Sim first here there old → Sim first (here ++ logged_here event) (there ++ logged_there event) new
event-sim first here there old (Event.Here line) new is sim =
    let adds : Adds old.here old.source (last_of old.first old.later) line is.0 is.2.channel = record { gives = is.1; may = is.2.may; back = is.2.back; takes = is.2.takes; puts = is.2.puts } in
    subst (λ log. Sim first (here ++ line ∷ []) log new) (sym (append-nil there))
    (subst (Sim first (here ++ line ∷ []) there) (sym is.2.is) (here-sim first here there old.source old.destination old.first old.later old.here old.there line is.0 is.2.channel sim adds))
event-sim first here there old (Event.There line) new is sim =
    let channel : Channel = record { forward = is.2.forward; back = sending_if old.there old.first.back is.0.node.epoch is.0.frames; urgent = is.2.urgent } in
    let adds : AddsThere old.there old.destination old.first line is.0 channel = record { gives = is.1; may = is.2.may; forward = is.2.forward; takes = is.2.takes; urgent = is.2.urgent; takes_urgent = is.2.takes_urgent; puts = refl } in
    subst (λ log. Sim first log (there ++ line ∷ []) new) (sym (append-nil here))
    (subst (Sim first here (there ++ line ∷ [])) (sym is.2.is) (there-sim first here there old.source old.destination old.first old.later old.here old.there line is.0 channel sim adds))
event-sim first here there old Event.Opens new is sim =
    let lost : SimBy first here there old.source old.destination old.first old.later false old.there = subst (λ uses. SimBy first here there old.source old.destination old.first old.later uses old.there) is.lost sim in
    subst (λ log. Sim first (here ++ Line.Made Step.Resume ∷ []) log new) (sym (append-nil there))
    (subst (Sim first (here ++ Line.Made Step.Resume ∷ []) there) (sym is.is) (opens-sim first here there old.source old.destination old.first old.later old.there is.did lost is.gives))
event-sim first here there old Event.LosesHere new is sim =
    let used : SimBy first here there old.source old.destination old.first old.later true old.there = subst (λ uses. SimBy first here there old.source old.destination old.first old.later uses old.there) is.used sim in
    subst (λ log. Sim first (here ++ []) log new) (sym (append-nil there))
    (subst (λ log. Sim first log there new) (sym (append-nil here)) (subst (Sim first here there) (sym is.is) (loses-sim first here there old.source old.destination old.first old.later old.there used is.under_way)))
event-sim first here there old Event.LosesThere new is sim =
    subst (λ log. Sim first (here ++ []) log new) (sym (append-nil there))
    (subst (λ log. Sim first log there new) (sym (append-nil here))
    (subst (Sim first here there) (sym is.is) (loses_there-sim first here there old.source old.destination old.first old.later old.here old.there is.used sim)))
event-sim first here there old Event.Joins new is sim =
    let opened : SimBy first here there old.source old.destination old.first (is.next ∷ is.rest) old.here old.there = subst (λ later. SimBy first here there old.source old.destination old.first later old.here old.there) is.opened sim in
    subst (λ log. Sim first (here ++ []) log new) (sym (append-nil there))
    (subst (λ log. Sim first log there new) (sym (append-nil here))
    (subst (Sim first here there) (sym is.is) (joins-sim first here there old.source old.destination old.first is.next is.rest old.here old.there is.lost is.paused opened)))

pub events-sim : (first : Pair) (here there : List Line) (old : Processes) (events : List Event) (new : Processes) → AreEvents old events new → Sim first here there old → Sim first (here ++ log_here events) (there ++ log_there events) new
events-sim first here there old [] new is sim =
    subst (λ log. Sim first (here ++ []) log new) (sym (append-nil there)) (subst (λ log. Sim first log there new) (sym (append-nil here)) (subst (Sim first here there) (sym is) sim))
events-sim first here there old (event ∷ events) new is sim =
    subst (λ log. Sim first (here ++ log_here (event ∷ events)) log new) (append_assoc there (logged_there event) (log_there events))
    (subst (λ log. Sim first log ((there ++ logged_there event) ++ log_there events) new) (append_assoc here (logged_here event) (log_here events))
    (events-sim first (here ++ logged_here event) (there ++ logged_there event) is.0 events new is.2 (event-sim first here there old event is.0 is.1 sim)))

pub first-sim : (cpus epoch rounds : ℕ) → Sim (first_pair cpus epoch rounds) [] [] (first_processes cpus epoch rounds)
first-sim cpus epoch rounds =
    record {
      at = (first_processes cpus epoch rounds).source;
      waiting = [];
      done = [];
      said = [];
      told = [];
      leads = record { turns = []; effects = []; are = refl; here_is = refl; there_is = refl };
      ahead = inl (refl, refl);
      is = refl;
    }

-- In the end nothing waits

pub record Ends (first : Pair) (here there : List Line) (source : Source) (destination : Destination) : Type 0 where
  pub pair : Pair
  pub leads : Leads first here there pair
  pub source_is : pair.source ≡ source
  pub destination_is : pair.destination ≡ destination

ends-met : (first : Pair) (here there : List Line) (source : Source) (destination : Destination) (channel : Channel) (uses : Bool) (at : Source) (waiting done : List Line) (said told : List Entry) → Leads first done there (on channel at destination said told) →
    Open at [] uses source waiting → here ≡ done ++ waiting → Ends first here there source destination
ends-met first here there source destination channel true at waiting done said told leads (inl used) is =
    record {
      pair = on channel at destination said told;
      leads = subst (λ log. Leads first log there (on channel at destination said told)) (sym (is ∙ ap (λ w. done ++ w) used.1 ∙ append-nil done)) leads;
      source_is = sym used.0;
      destination_is = refl;
    }
ends-met first here there source destination channel false at waiting done said told leads (inl used) is = absurd used
ends-met first here there source destination channel uses at waiting done said told leads (inr (alone, more, lost, shut, split)) is =
    let flat = cut-met first there destination channel at alone done said told leads lost in
    let new = down (source_after at alone) destination flat.0 told in
    record {
      pair = new;
      leads = subst (λ log. Leads first log there new) (sym (is ∙ ap (λ w. done ++ w) (split ∙ ap (λ m. alone ++ m) shut.2 ∙ append-nil alone))) flat.1;
      source_is = sym shut.1;
      destination_is = refl;
    }

ends-by : (first : Pair) (here there : List Line) (source : Source) (destination : Destination) (channel : Channel) (later : List Channel) (uses reads : Bool) → later ≡ [] → (reads || is_under_way source) ≡ true → SimBy first here there source destination channel later uses reads →
    Ends first here there source destination
ends-by first here there source destination channel (next ∷ later) uses reads none under_way sim = absurd (not-empty next later none)
ends-by first here there source destination channel [] uses true none under_way m = ends-met first here there source destination channel uses m.at m.waiting m.done m.said m.told m.leads m.ahead m.is
ends-by first here there source destination channel [] uses false none under_way (inl m) =
    record {
      pair = down m.at destination m.said m.told;
      leads = subst (λ log. Leads first log there (down m.at destination m.said m.told)) (sym (m.is ∙ ap (λ w. m.done ++ w) m.ahead.2 ∙ append-nil m.done)) m.leads;
      source_is = sym m.ahead.1;
      destination_is = refl;
    }
ends-by first here there source destination channel [] uses false none under_way (inr waits) =
    let flat = waited first here there source destination channel [] uses waits under_way in
    record { pair = down source destination flat.0 flat.1; leads = flat.2; source_is = refl; destination_is = refl }

pub ends : (cpus epoch rounds : ℕ) (events : List Event) (new : Processes) → AreEvents (first_processes cpus epoch rounds) events new → IsSettled new → Ends (first_pair cpus epoch rounds) (log_here events) (log_there events) new.source new.destination
ends cpus epoch rounds events new is settled =
    ends-by (first_pair cpus epoch rounds) (log_here events) (log_there events) new.source new.destination new.first new.later new.here new.there settled.joined settled.under_way
    (events-sim (first_pair cpus epoch rounds) [] [] (first_processes cpus epoch rounds) events new is (first-sim cpus epoch rounds))

-- Two logs as the sides of a world

-- a world with two logs as its sides, which ends with these nodes
pub record IsWorldOf (cpus epoch rounds : ℕ) (here there : List Line) (source : Source) (destination : Destination) : Type 0 where
  pub steps : List Step
  pub here_is : log_of Side.Source (first_world_with cpus epoch rounds) steps ≡ here
  pub there_is : log_of Side.Destination (first_world_with cpus epoch rounds) steps ≡ there
  pub source_is : (after_steps (first_world_with cpus epoch rounds) steps).source ≡ source
  pub destination_is : (after_steps (first_world_with cpus epoch rounds) steps).destination ≡ destination
  pub transcript_is : (after_steps (first_world_with cpus epoch rounds) steps).transcript ≡ source_entries (first_source cpus epoch rounds) here ++ destination_entries (first_destination cpus) there

pub world-of : (cpus epoch rounds : ℕ) (events : List Event) (new : Processes) → AreEvents (first_processes cpus epoch rounds) events new → IsSettled new → IsWorldOf cpus epoch rounds (log_here events) (log_there events) new.source new.destination
world-of cpus epoch rounds events new is settled =
    let end = ends cpus epoch rounds events new is settled in
    let run = run_of_logs cpus epoch rounds end.leads.turns end.leads.effects end.pair end.leads.are in
    let logs = left (first_pair cpus epoch rounds) end.leads.turns end.leads.effects end.pair end.leads.are in
    record {
      steps = map step_of end.leads.turns;
      here_is = run.here ∙ end.leads.here_is;
      there_is = run.there ∙ end.leads.there_is;
      source_is = ap (λ (w : World). w.source) run.world ∙ end.source_is;
      destination_is = ap (λ (w : World). w.destination) run.world ∙ end.destination_is;
      transcript_is =
          ap (λ (w : World). w.transcript) run.world ∙ (λ i. logs.at_source i ++ logs.at_destination i)
          ∙ (λ i. source_entries (first_source cpus epoch rounds) (end.leads.here_is i) ++ destination_entries (first_destination cpus) (end.leads.there_is i));
    }

-- and a world of two logs is reached
pub reached-of : (cpus epoch rounds : ℕ) (steps : List Step) → IsReached (after_steps (first_world_with cpus epoch rounds) steps)
reached-of cpus epoch rounds steps = record { cpus = cpus; epoch = epoch; rounds = rounds; steps = steps; is = refl }
