-- Orders that grow at their end, and what a source makes that has lost its channel before the destination has.
use Rattle.std.proofs.Common.{◌≡◌, ◌⊎◌, inl, inr, ◌||◌, Bool, true, false, not, List, [], ◌∷◌, ◌++◌, map, if◌then◌else◌, append_assoc, refl, sym, ap, subst, ◌∙◌}
use Rattle.std.specs.Prelude.{Ok, IsOk}
use Rattle.std.proofs.Math.Bool.{or-true}
use Rattle.std.proofs.lemmas.Bool.{false≢true}
use Rattle.std.proofs.lemmas.List.{append-nil, map-append}
use Rattle.mig_base.specs.declared.command.Entry.{Entry}
use Rattle.mig_base.specs.declared.effect.Effect.{Effect}
use Rattle.mig_base.specs.declared.refusal.Refusal.{Refusal}
use Rattle.mig_base.specs.declared.schedule.Side.{Side}
use Rattle.mig_base.specs.declared.schedule.Step.{Step}
use Rattle.mig_model.specs.Destination.{Destination, is_dest_paused}
use Rattle.mig_model.specs.GuestSteps.{issue, retry}
use Rattle.mig_model.specs.Source.{Source, is_under_way}
use Rattle.mig_model.specs.SourceSteps as source
use Rattle.mig_model.specs.Wire.{Sent, sending, sending_if}
use Rattle.mig_laws.specs.Orders.{AreTurns, IsCut, IsDestinationTurn, IsSourceTurn, Pair, TakesFront, Turn, destination_lines, is_alone, is_resume, source_lines, source_may}
use Rattle.mig_laws.specs.Processes.{Channel, last_of, put_later}
use Rattle.mig_laws.specs.Sides.{Did, Line, acts, destination_after, destination_line, node_by, source_after, source_line, source_step}
use Rattle.mig_laws.proofs.LinesAlone.{IsDestinationAlone, IsSourceAlone, alone-may, alone-resume, alone-takes, alone-urgent, got, source-may-still, there-may}
use Rattle.mig_laws.proofs.AcceptedSteps.{nothing-first, ok-holds}
use Rattle.mig_laws.proofs.OrderRuns.{each, never, over_map}

-- Pairs

-- two nodes over a channel, and after it is lost
abbrev pub on : Channel → Source → Destination → List Entry → List Entry → Pair
on channel here there said told = record { source = here; destination = there; forward = channel.forward; back = channel.back; urgent = channel.urgent; up = true; at_source = said; at_destination = told }

abbrev pub down : Source → Destination → List Entry → List Entry → Pair
down here there said told = record { source = here; destination = there; forward = []; back = []; urgent = []; up = false; at_source = said; at_destination = told }

-- Orders that grow at their end

turns-append : (old mid new : Pair) (turns more : List Turn) (effects others : List Effect) → AreTurns old turns effects mid → AreTurns mid more others new → AreTurns old (turns ++ more) (effects ++ others) new
turns-append old mid new [] more [] others is last = subst (λ p. AreTurns p more others new) is last
turns-append old mid new [] more (effect ∷ effects) others is last = absurd is
turns-append old mid new (turn ∷ turns) more [] others is last = absurd is
turns-append old mid new (turn ∷ turns) more (effect ∷ effects) others is last = (is.0, is.1, turns-append is.0 mid new turns more effects others is.2 last)

source_lines-append : (turns more : List Turn) → source_lines (turns ++ more) ≡ source_lines turns ++ source_lines more
source_lines-append [] more = refl
source_lines-append (Turn.AtSource line ∷ turns) more = ap (λ lines. line ∷ lines) (source_lines-append turns more)
source_lines-append (Turn.AtDestination line ∷ turns) more = source_lines-append turns more
source_lines-append (Turn.Cut ∷ turns) more = source_lines-append turns more

destination_lines-append : (turns more : List Turn) → destination_lines (turns ++ more) ≡ destination_lines turns ++ destination_lines more
destination_lines-append [] more = refl
destination_lines-append (Turn.AtSource line ∷ turns) more = destination_lines-append turns more
destination_lines-append (Turn.AtDestination line ∷ turns) more = ap (λ lines. line ∷ lines) (destination_lines-append turns more)
destination_lines-append (Turn.Cut ∷ turns) more = destination_lines-append turns more

here-lines : (lines : List Line) → source_lines (map (λ line. Turn.AtSource line) lines) ≡ lines
here-lines [] = refl
here-lines (line ∷ lines) = ap (λ more. line ∷ more) (here-lines lines)

here-none : (lines : List Line) → destination_lines (map (λ line. Turn.AtSource line) lines) ≡ []
here-none [] = refl
here-none (line ∷ lines) = here-none lines

there-lines : (lines : List Line) → destination_lines (map (λ line. Turn.AtDestination line) lines) ≡ lines
there-lines [] = refl
there-lines (line ∷ lines) = ap (λ more. line ∷ more) (there-lines lines)

there-none : (lines : List Line) → source_lines (map (λ line. Turn.AtDestination line) lines) ≡ []
there-none [] = refl
there-none (line ∷ lines) = there-none lines

-- an order of two logs that leads to a pair
pub record Leads (old : Pair) (here there : List Line) (new : Pair) : Type 0 where
  pub turns : List Turn
  pub effects : List Effect
  pub are : AreTurns old turns effects new
  pub here_is : source_lines turns ≡ here
  pub there_is : destination_lines turns ≡ there

grown : (old mid new : Pair) (here there more other : List Line) (turns : List Turn) (effects : List Effect) → Leads old here there mid → AreTurns mid turns effects new → source_lines turns ≡ more → destination_lines turns ≡ other → Leads old (here ++ more) (there ++ other) new
grown old mid new here there more other turns effects leads are here_is there_is =
    record {
      turns = leads.turns ++ turns;
      effects = leads.effects ++ effects;
      are = turns-append old mid new leads.turns turns leads.effects effects leads.are are;
      here_is = source_lines-append leads.turns turns ∙ (λ i. leads.here_is i ++ here_is i);
      there_is = destination_lines-append leads.turns turns ∙ (λ i. leads.there_is i ++ there_is i);
    }

pub leads-here : (old mid new : Pair) (here there lines : List Line) (effects : List Effect) → Leads old here there mid → AreTurns mid (map (λ line. Turn.AtSource line) lines) effects new → Leads old (here ++ lines) there new
leads-here old mid new here there lines effects leads are =
    subst (λ log. Leads old (here ++ lines) log new) (append-nil there) (grown old mid new here there lines [] (map (λ line. Turn.AtSource line) lines) effects leads are (here-lines lines) (here-none lines))

pub leads-there : (old mid new : Pair) (here there lines : List Line) (effects : List Effect) → Leads old here there mid → AreTurns mid (map (λ line. Turn.AtDestination line) lines) effects new → Leads old here (there ++ lines) new
leads-there old mid new here there lines effects leads are =
    subst (λ log. Leads old log (there ++ lines) new) (append-nil here) (grown old mid new here there [] lines (map (λ line. Turn.AtDestination line) lines) effects leads are (there-none lines) (there-lines lines))

pub leads-cut : (old mid new : Pair) (here there : List Line) → Leads old here there mid → IsCut mid new → Leads old here there new
leads-cut old mid new here there leads cut =
    subst (λ log. Leads old log there new) (append-nil here) (subst (λ log. Leads old (here ++ []) log new) (append-nil there) (grown old mid new here there [] [] (Turn.Cut ∷ []) (Effect.Broken ∷ []) leads (new, (cut, refl), refl) refl refl))

pub one-here : (old new : Pair) (line : Line) (did : Did Source) → IsSourceTurn old line did new → AreTurns old (map (λ line. Turn.AtSource line) (line ∷ [])) (did.effect ∷ []) new
one-here old new line did turn = (new, (did, turn, refl), refl)

pub one-there : (old new : Pair) (line : Line) (did : Did Destination) → IsDestinationTurn old line did new → AreTurns old (map (λ line. Turn.AtDestination line) (line ∷ [])) (did.effect ∷ []) new
one-there old new line did turn = (new, (did, turn, refl), refl)

-- Lines that need no channel

-- they send nothing at the source
abbrev IsSilent : Did Source → Type 0
IsSilent did = (did.frames ≡ []) × (did.urgent ≡ [])

pub silent : (node : Source) (line : Line) (did : Did Source) → is_alone line ≡ true → source_line node line ≡ Ok did → IsSilent did
silent node (Line.Made (Step.Issue cpu command)) did alone gives =
    ok-holds IsSilent (source_step node (Step.Issue cpu command)) did (over_map _ _ (issue node.guest (not node.switched) cpu command) (each _ (issue node.guest (not node.switched) cpu command) (λ tried. (refl, refl)))) gives
silent node (Line.Made (Step.Retry cpu)) did alone gives =
    ok-holds IsSilent (source_step node (Step.Retry cpu)) did (over_map _ _ (retry node.guest (not node.switched) cpu) (each _ (retry node.guest (not node.switched) cpu) (λ tried. (refl, refl)))) gives
silent node (Line.Made Step.Round) did alone gives = ok-holds IsSilent (acts (source.round node)) did (over_map _ _ (source.round node) (each _ (source.round node) (λ acted. (refl, refl)))) gives
silent node (Line.Made Step.SourceRead) did alone gives = ok-holds IsSilent (acts (source.read node)) did (over_map _ _ (source.read node) (each _ (source.read node) (λ acted. (refl, refl)))) gives
silent node (Line.Made Step.SourceAct) did alone gives = ok-holds IsSilent (acts (source.act node)) did (over_map _ _ (source.act node) (each _ (source.act node) (λ acted. (refl, refl)))) gives
silent node (Line.Made (Step.Notice Side.Source)) did alone gives = ok-holds IsSilent (acts (source.pause node)) did (over_map _ _ (source.pause node) (each _ (source.pause node) (λ acted. (refl, refl)))) gives
silent node (Line.Made (Step.Notice Side.Destination)) did alone gives = absurd (never Refusal.Phase did gives)
silent node (Line.Made (Step.Deliver n)) did alone gives = absurd (never Refusal.Phase did gives)
silent node (Line.Made (Step.DeliverBack n)) did alone gives = absurd (never Refusal.Phase did gives)
silent node (Line.Made (Step.DeliverUrgent n)) did alone gives = absurd (never Refusal.Phase did gives)
silent node (Line.Made Step.DestRead) did alone gives = absurd (never Refusal.Phase did gives)
silent node (Line.Made Step.DestAct) did alone gives = absurd (never Refusal.Phase did gives)
silent node (Line.Made Step.Install) did alone gives = absurd (never Refusal.Phase did gives)
silent node (Line.Made Step.Break) did alone gives = absurd (never Refusal.Phase did gives)
silent node (Line.Made Step.Start) did alone gives = absurd (false≢true alone)
silent node (Line.Made Step.Send) did alone gives = absurd (false≢true alone)
silent node (Line.Made (Step.SendRun count)) did alone gives = absurd (false≢true alone)
silent node (Line.Made Step.Switch) did alone gives = absurd (false≢true alone)
silent node (Line.Made (Step.Push ticket)) did alone gives = absurd (false≢true alone)
silent node (Line.Made (Step.PushUrgent ticket)) did alone gives = absurd (false≢true alone)
silent node (Line.Made Step.Serve) did alone gives = absurd (false≢true alone)
silent node (Line.Made Step.End) did alone gives = absurd (false≢true alone)
silent node (Line.Made Step.Resume) did alone gives = absurd (false≢true alone)
silent node (Line.Took sent) did alone gives = absurd (false≢true alone)
silent node (Line.TookUrgent sent) did alone gives = absurd (false≢true alone)

-- one such line after a loss
pub down-here : (here : Source) (there : Destination) (said told : List Entry) (line : Line) (did : Did Source) → is_alone line ≡ true → source_line here line ≡ Ok did → IsSourceTurn (down here there said told) line did (down did.node there (said ++ did.entries) told)
down-here here there said told line did alone gives =
    let quiet = silent here line did alone gives in
    record {
      gives = gives;
      may = alone-may (is_dest_paused there.phase) line alone;
      back = [];
      takes = alone-takes line [] alone;
      is = λ i. record {
        source = did.node;
        destination = there;
        forward = sending [] did.node.epoch (sym quiet.0 i);
        back = [];
        urgent = sending [] did.node.epoch (sym quiet.1 i);
        up = (sym (ap (λ b. b || false) (alone-resume line alone))) i;
        at_source = said ++ did.entries;
        at_destination = told;
      };
    }

pub down-there : (here : Source) (there : Destination) (said told : List Entry) (line : Line) (did : Did Destination) → is_alone line ≡ true → destination_line there line ≡ Ok did → IsDestinationTurn (down here there said told) line did (down here did.node said (told ++ did.entries))
down-there here there said told line did alone gives =
    record { gives = gives; may = there-may line alone; forward = []; takes = alone-takes line [] alone; urgent = []; takes_urgent = alone-urgent line [] alone; is = refl }

-- any number of them
pub record Alone (here : Source) (there : Destination) (said told : List Entry) (lines : List Line) : Type 0 where
  pub effects : List Effect
  pub more : List Entry
  pub are : AreTurns (down here there said told) (map (λ line. Turn.AtSource line) lines) effects (down (source_after here lines) there more told)

pub all-alone : (here : Source) (there : Destination) (said told : List Entry) (lines : List Line) → IsSourceAlone here lines → Alone here there said told lines
all-alone here there said told [] alone = record { effects = []; more = said; are = refl }
all-alone here there said told (line ∷ lines) alone =
    let found : (did : Did Source) × (source_line here line ≡ Ok did) = got (source_line here line) alone.1 in
    let did = found.0 in
    let rest = all-alone did.node there (said ++ did.entries) told lines (subst (λ given. IsSourceAlone (node_by here given) lines) found.1 alone.2) in
    record {
      effects = did.effect ∷ rest.effects;
      more = rest.more;
      are = (
        down did.node there (said ++ did.entries) told,
        (did, down-here here there said told line did alone.0 found.1, refl),
        subst (λ node. AreTurns (down did.node there (said ++ did.entries) told) (map (λ line. Turn.AtSource line) lines) rest.effects (down (source_after node lines) there rest.more told)) (sym (ap (node_by here) found.1)) rest.are,
      );
    }

pub record AloneThere (here : Source) (there : Destination) (said told : List Entry) (lines : List Line) : Type 0 where
  pub effects : List Effect
  pub more : List Entry
  pub are : AreTurns (down here there said told) (map (λ line. Turn.AtDestination line) lines) effects (down here (destination_after there lines) said more)

pub all-alone_there : (here : Source) (there : Destination) (said told : List Entry) (lines : List Line) → IsDestinationAlone there lines → AloneThere here there said told lines
all-alone_there here there said told [] alone = record { effects = []; more = told; are = refl }
all-alone_there here there said told (line ∷ lines) alone =
    let found : (did : Did Destination) × (destination_line there line ≡ Ok did) = got (destination_line there line) alone.1 in
    let did = found.0 in
    let rest = all-alone_there here did.node said (told ++ did.entries) lines (subst (λ given. IsDestinationAlone (node_by there given) lines) found.1 alone.2) in
    record {
      effects = did.effect ∷ rest.effects;
      more = rest.more;
      are = (
        down here did.node said (told ++ did.entries),
        (did, down-there here there said told line did alone.0 found.1, refl),
        subst (λ node. AreTurns (down here did.node said (told ++ did.entries)) (map (λ line. Turn.AtDestination line) lines) rest.effects (down here (destination_after node lines) said rest.more)) (sym (ap (node_by there) found.1)) rest.are,
      );
    }

-- one more of them
pub alone-more : (node : Source) (lines : List Line) (line : Line) (did : Did Source) → IsSourceAlone node lines → is_alone line ≡ true → source_line (source_after node lines) line ≡ Ok did → IsSourceAlone node (lines ++ line ∷ []) × (source_after node (lines ++ line ∷ []) ≡ did.node)
alone-more node [] line did before alone gives = ((alone, subst (λ given. IsOk given) (sym gives) refl, tt), ap (node_by node) gives)
alone-more node (first ∷ lines) line did before alone gives =
    let rest = alone-more (node_by node (source_line node first)) lines line did before.2 alone gives in
    ((before.0, before.1, rest.0), rest.1)

pub alone-more_there : (node : Destination) (lines : List Line) (line : Line) (did : Did Destination) → IsDestinationAlone node lines → is_alone line ≡ true → destination_line (destination_after node lines) line ≡ Ok did →
    IsDestinationAlone node (lines ++ line ∷ []) × (destination_after node (lines ++ line ∷ []) ≡ did.node)
alone-more_there node [] line did before alone gives = ((alone, subst (λ given. IsOk given) (sym gives) refl, tt), ap (node_by node) gives)
alone-more_there node (first ∷ lines) line did before alone gives =
    let rest = alone-more_there (node_by node (destination_line node first)) lines line did before.2 alone gives in
    ((before.0, before.1, rest.0), rest.1)

-- What the source has done since it lost a channel that the destination still uses

-- lines with which a source that has lost its channel opens the next, and uses it: they lead to the same whatever the destination is, as
-- long as it is paused
pub record Opened (here : Source) (channel : Channel) (new : Source) (lines : List Line) : Type 0 where
  pub effects : List Effect
  pub entries : List Entry
  pub are : (there : Destination) (said told : List Entry) → is_dest_paused there.phase ≡ true → AreTurns (down here there said told) (map (λ line. Turn.AtSource line) lines) effects (on channel new there (said ++ entries) told)
  pub empty : channel.back ≡ []

-- the source uses a channel, and no later one
abbrev pub InUse : Source → List Channel → Bool → Source → List Line → Type 0
InUse here [] true new lines = (new ≡ here) × (lines ≡ [])
InUse here later uses new lines = ⊥

-- a source loses its channel in a migration that is under way, and then makes lines by itself
pub record IsLost (here : Source) (lines : List Line) : Type 0 where
  pub under_way : is_under_way here ≡ true
  pub alone : IsSourceAlone here lines

-- a source that has lost its channel opens these, and makes these lines
abbrev pub Shut : Source → List Channel → Bool → Source → List Line → Type 0
Shut here [] uses new lines = (uses ≡ false) × (new ≡ here) × (lines ≡ [])
Shut here (channel ∷ later) uses new lines =
    (mid : Source) × (opened : List Line) × (rest : List Line) × Opened here channel mid opened
    × (InUse mid later uses new rest ⊎ ((alone : List Line) × (more : List Line) × IsLost mid alone × Shut (source_after mid alone) later uses new more × (rest ≡ alone ++ more))) × (lines ≡ opened ++ rest)

-- the same of a source that uses a channel
abbrev pub Open : Source → List Channel → Bool → Source → List Line → Type 0
Open here later uses new lines =
    InUse here later uses new lines ⊎ ((alone : List Line) × (more : List Line) × IsLost here alone × Shut (source_after here alone) later uses new more × (lines ≡ alone ++ more))

-- A line more

-- a line of the source on a channel
pub record Adds (uses : Bool) (here : Source) (old : Channel) (line : Line) (did : Did Source) (new : Channel) : Type 0 where
  pub gives : source_line here line ≡ Ok did
  pub may : (if uses then source_may true false line else is_alone line) ≡ true
  pub back : List Sent
  pub takes : TakesFront line old.back back
  pub puts : new ≡ record { forward = sending_if uses old.forward did.node.epoch did.frames; back = back; urgent = sending_if uses old.urgent did.node.epoch did.urgent }

no_resume : (line : Line) → source_may true false line ≡ true → is_resume line ≡ false
no_resume (Line.Made Step.Resume) may = absurd (false≢true may)
no_resume (Line.Made _) may = refl
no_resume (Line.Took sent) may = refl
no_resume (Line.TookUrgent sent) may = refl

pub on-here : (channel new : Channel) (here : Source) (there : Destination) (said told : List Entry) (line : Line) (did : Did Source) → Adds true here channel line did new → IsSourceTurn (on channel here there said told) line did (on new did.node there (said ++ did.entries) told)
on-here channel new here there said told line did adds =
    record {
      gives = adds.gives;
      may = source-may-still true false (is_dest_paused there.phase) line (no_resume line adds.may) adds.may;
      back = adds.back;
      takes = adds.takes;
      is = ap (λ (c : Channel). on c did.node there (said ++ did.entries) told) adds.puts ∙ (λ i. record {
        source = did.node;
        destination = there;
        forward = sending channel.forward did.node.epoch did.frames;
        back = adds.back;
        urgent = sending channel.urgent did.node.epoch did.urgent;
        up = sym (or-true (is_resume line)) i;
        at_source = said ++ did.entries;
        at_destination = told;
      });
    }

pub never-used : (here : Source) (next : Channel) (later : List Channel) (uses : Bool) (now : Source) (lines : List Line) → InUse here (next ∷ later) uses now lines → ⊥
never-used here next later true now lines used = used
never-used here next later false now lines used = used

pub back-same : (line : Line) (flight rest : List Sent) → is_alone line ≡ true → TakesFront line flight rest → rest ≡ flight
back-same (Line.Made step) flight rest alone takes = takes
back-same (Line.Took sent) flight rest alone takes = absurd (false≢true alone)
back-same (Line.TookUrgent sent) flight rest alone takes = takes

-- a channel that nothing is taken from has no frame for a line to take
still-empty : (line : Line) (flight rest : List Sent) → flight ≡ [] → TakesFront line flight rest → rest ≡ []
still-empty (Line.Took sent) flight rest none takes = absurd (nothing-first sent rest flight none takes)
still-empty (Line.Made step) flight rest none takes = takes ∙ none
still-empty (Line.TookUrgent sent) flight rest none takes = takes ∙ none

opened-more : (here : Source) (channel new : Channel) (mid : Source) (lines : List Line) (line : Line) (did : Did Source) → Opened here channel mid lines → Adds true mid channel line did new → Opened here new did.node (lines ++ line ∷ [])
opened-more here channel new mid lines line did opened adds =
    record {
      effects = opened.effects ++ did.effect ∷ [];
      entries = opened.entries ++ did.entries;
      are = λ there said told paused.
          let before = on channel mid there (said ++ opened.entries) told in
          let after = on new did.node there ((said ++ opened.entries) ++ did.entries) told in
          let turn = on-here channel new mid there (said ++ opened.entries) told line did adds in
          subst (λ entries. AreTurns (down here there said told) (map (λ line. Turn.AtSource line) (lines ++ line ∷ [])) (opened.effects ++ did.effect ∷ []) (on new did.node there entries told)) (append_assoc said opened.entries did.entries)
          (subst (λ turns. AreTurns (down here there said told) turns (opened.effects ++ did.effect ∷ []) after) (sym (map-append (λ line. Turn.AtSource line) lines (line ∷ [])))
          (turns-append (down here there said told) before after (map (λ line. Turn.AtSource line) lines) (map (λ line. Turn.AtSource line) (line ∷ [])) opened.effects (did.effect ∷ []) (opened.are there said told paused) (one-here before after line did turn)));
      empty = ap (λ (c : Channel). c.back) adds.puts ∙ still-empty line channel.back adds.back opened.empty adds.takes;
    }

-- after a loss nothing changes on the channel
pub lost-same : (here : Source) (channel new : Channel) (line : Line) (did : Did Source) → Adds false here channel line did new → new ≡ channel
lost-same here channel new line did adds =
    adds.puts ∙ (λ i. record { forward = channel.forward; back = back-same line channel.back adds.back adds.may adds.takes i; urgent = channel.urgent })

pub regroup : (opened rest : List Line) (line : Line) (lines : List Line) → lines ≡ opened ++ rest → lines ++ line ∷ [] ≡ opened ++ (rest ++ line ∷ [])
regroup opened rest line lines is = ap (λ l. l ++ line ∷ []) is ∙ append_assoc opened rest (line ∷ [])

-- a line more of a source that is ahead of the destination
pub shut-more : (here : Source) (channel : Channel) (later : List Channel) (uses : Bool) (now : Source) (lines : List Line) (line : Line) (did : Did Source) (new : Channel) → Shut here (channel ∷ later) uses now lines →
    Adds uses now (last_of channel later) line did new → Shut here (put_later (channel ∷ later) new) uses did.node (lines ++ line ∷ [])
shut-more here channel [] true now lines line did new (mid, opened, rest, way, inl used, is) adds =
    let more = opened-more here channel new mid opened line did way (subst (λ node. Adds true node channel line did new) used.0 adds) in
    (did.node, opened ++ line ∷ [], [], more, inl (refl, refl), ap (λ l. l ++ line ∷ []) (is ∙ ap (λ r. opened ++ r) used.1 ∙ append-nil opened) ∙ sym (append-nil (opened ++ line ∷ [])))
shut-more here channel [] false now lines line did new (mid, opened, rest, way, inl used, is) adds = absurd used
shut-more here channel (next ∷ later) uses now lines line did new (mid, opened, rest, way, inl used, is) adds = absurd (never-used mid next later uses now rest used)
shut-more here channel [] true now lines line did new (mid, opened, rest, way, inr (alone, more, lost, shut, split), is) adds = absurd (false≢true (sym shut.0))
shut-more here channel [] false now lines line did new (mid, opened, rest, way, inr (alone, more, lost, shut, split), is) adds =
    let grew = alone-more mid alone line did lost.alone adds.may (subst (λ node. source_line node line ≡ Ok did) shut.1 adds.gives) in (
      mid,
      opened,
      rest ++ line ∷ [],
      subst (λ c. Opened here c mid opened) (sym (lost-same now channel new line did adds)) way,
      inr (alone ++ line ∷ [], [], record { under_way = lost.under_way; alone = grew.0 }, (refl, sym grew.1, refl), ap (λ l. l ++ line ∷ []) (split ∙ ap (λ m. alone ++ m) shut.2 ∙ append-nil alone) ∙ sym (append-nil (alone ++ line ∷ []))),
      regroup opened rest line lines is,
    )
shut-more here channel (next ∷ later) uses now lines line did new (mid, opened, rest, way, inr (alone, more, lost, shut, split), is) adds =
    let further = shut-more (source_after mid alone) next later uses now more line did new shut adds in
    (mid, opened, rest ++ line ∷ [], way, inr (alone, more ++ line ∷ [], lost, further, regroup alone more line rest split), regroup opened rest line lines is)

-- Resume
opened-first : (here : Source) (did : Did Source) → source_line here (Line.Made Step.Resume) ≡ Ok did → Opened here (record { forward = sending [] did.node.epoch did.frames; back = []; urgent = sending [] did.node.epoch did.urgent }) did.node (Line.Made Step.Resume ∷ [])
opened-first here did gives =
    record {
      effects = did.effect ∷ [];
      entries = did.entries;
      are = λ there said told paused.
          let new = on (record { forward = sending [] did.node.epoch did.frames; back = []; urgent = sending [] did.node.epoch did.urgent }) did.node there (said ++ did.entries) told in
          one-here (down here there said told) new (Line.Made Step.Resume) did (record { gives = gives; may = paused; back = []; takes = refl; is = refl });
      empty = refl;
    }

pub shut-opens : (here : Source) (later : List Channel) (now : Source) (lines : List Line) (did : Did Source) → Shut here later false now lines → source_line now (Line.Made Step.Resume) ≡ Ok did →
    Shut here (later ++ record { forward = sending [] did.node.epoch did.frames; back = []; urgent = sending [] did.node.epoch did.urgent } ∷ []) true did.node (lines ++ Line.Made Step.Resume ∷ [])
shut-opens here [] now lines did shut gives =
    (did.node, Line.Made Step.Resume ∷ [], [], opened-first here did (subst (λ node. source_line node (Line.Made Step.Resume) ≡ Ok did) shut.1 gives), inl (refl, refl), ap (λ l. l ++ Line.Made Step.Resume ∷ []) shut.2)
shut-opens here (channel ∷ []) now lines did (mid, opened, rest, way, inl used, is) gives = absurd used
shut-opens here (channel ∷ next ∷ later) now lines did (mid, opened, rest, way, inl used, is) gives = absurd used
shut-opens here (channel ∷ later) now lines did (mid, opened, rest, way, inr (alone, more, lost, shut, split), is) gives =
    let further = shut-opens (source_after mid alone) later now more did shut gives in
    (mid, opened, rest ++ Line.Made Step.Resume ∷ [], way, inr (alone, more ++ Line.Made Step.Resume ∷ [], lost, further, regroup alone more (Line.Made Step.Resume) rest split), regroup opened rest (Line.Made Step.Resume) lines is)

-- the loss of the channel that the source uses
pub shut-loses : (here : Source) (later : List Channel) (now : Source) (lines : List Line) → Shut here later true now lines → is_under_way now ≡ true → Shut here later false now lines
shut-loses here [] now lines shut under_way = absurd (false≢true (sym shut.0))
shut-loses here (channel ∷ []) now lines (mid, opened, rest, way, inl used, is) under_way =
    (mid, opened, rest, way, inr ([], [], record { under_way = ap is_under_way (sym used.0) ∙ under_way; alone = tt }, (refl, used.0, refl), used.1), is)
shut-loses here (channel ∷ next ∷ later) now lines (mid, opened, rest, way, inl used, is) under_way = absurd used
shut-loses here (channel ∷ later) now lines (mid, opened, rest, way, inr (alone, more, lost, shut, split), is) under_way =
    (mid, opened, rest, way, inr (alone, more, lost, shut-loses (source_after mid alone) later now more shut under_way, split), is)
