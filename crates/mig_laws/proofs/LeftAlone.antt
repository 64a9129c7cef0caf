-- A destination that has lost its last channel makes lines alone. But for its phase, they are steps of a world whose channel is up.
use Rattle.std.proofs.Common.{◌≡◌, ◌⊎◌, inl, inr, ℕ, ◌&&◌, Bool, true, false, not, List, [], ◌∷◌, ◌++◌, map, Option, Some, None, append_assoc, refl, sym, ap, subst, ◌∙◌}
use Rattle.std.specs.Prelude.{Result, Ok, Err, IsOk, ok_or}
use Rattle.std.proofs.lemmas.Bool.{false≢true}
use Rattle.std.proofs.lemmas.List.{append-nil}
use Rattle.mig_base.specs.declared.act.Act.{Act}
use Rattle.mig_base.specs.declared.command.Entry.{Entry}
use Rattle.mig_base.specs.declared.effect.Effect.{Effect}
use Rattle.mig_base.specs.declared.phase.DestPhase.{DestPhase}
use Rattle.mig_base.specs.declared.refusal.Refusal.{Refusal}
use Rattle.mig_base.specs.declared.schedule.Side.{Side}
use Rattle.mig_base.specs.declared.schedule.Step.{Step}
use Rattle.mig_base.specs.Userfault.{Noted, next_message}
use Rattle.mig_model.specs.Destination.{Destination, act_frames, destination_act, destination_acted, destination_acted_by, destination_paused, destination_read, install_by, is_dest_paused}
use Rattle.mig_model.specs.Effects.{install_effect, read_effect}
use Rattle.mig_model.specs.Guest.{Fault}
use Rattle.mig_model.specs.GuestSteps.{Tried, issue, retry, when_quiet}
use Rattle.mig_model.specs.NodeSteps.{acted, and_then, first_of, in_phase, rest_of, sent}
use Rattle.mig_model.specs.Owed.{home}
use Rattle.mig_model.specs.Source.{Source}
use Rattle.mig_model.specs.Wire.{Copy, sending}
use Rattle.mig_laws.specs.Orders.{IsDestinationTurn, Pair, destination_may}
use Rattle.mig_laws.specs.Orders as orders
use Rattle.mig_laws.specs.Processes.{Channel}
use Rattle.mig_laws.specs.Sides.{Did, Line, acts, destination_after, destination_entries, destination_line, entries_by, node_by, sends, tries}
use Rattle.mig_laws.proofs.GrownOrders.{Leads, leads-there, on, one-there}
use Rattle.mig_laws.proofs.LinesAlone.{IsDestinationAlone, alone-takes, alone-urgent, got}

-- What a line gives, whatever the phase

abbrev without_phase : Destination → Destination
without_phase node = record node { phase = DestPhase.Idle }

abbrev bare : Result (Did Destination) Refusal → Option (List Entry × Destination)
bare (Ok did) = Some (did.entries, without_phase did.node)
bare (Err refusal) = None

of-tries : (node : Destination) (phase : DestPhase) (step : Result Tried Refusal) → bare (tries (λ guest. record node { phase = phase; guest = guest }) step) ≡ bare (tries (λ guest. record node { guest = guest }) step)
of-tries node phase (Ok tried) = refl
of-tries node phase (Err refusal) = refl

of-read : (node : Destination) (phase : DestPhase) (run : Bool) (found : Result Noted Refusal) →
    bare (acts (in_phase run (and_then found (λ noted. acted (read_effect node.guest.cpus noted.cpu noted.message) (destination_read (record node { phase = phase }) noted)))))
    ≡ bare (acts (in_phase run (and_then found (λ noted. acted (read_effect node.guest.cpus noted.cpu noted.message) (destination_read node noted)))))
of-read node phase true (Ok noted) = refl
of-read node phase true (Err refusal) = refl
of-read node phase false found = refl

acted-phase : (act : Act) (node : Destination) (phase : DestPhase) (page : ℕ) → without_phase (destination_acted_by act (record node { phase = phase }) page) ≡ without_phase (destination_acted_by act node page)
acted-phase Act.Zeroed node phase page = refl
acted-phase (Act.Requested origin) node phase page = refl
acted-phase Act.Woke node phase page = refl
acted-phase Act.Forgot node phase page = refl
acted-phase Act.Unprotected node phase page = refl

of-act : (node : Destination) (phase : DestPhase) (run : Bool) (found : Result Fault Refusal) (effect : Fault → Effect) →
    bare (sends (in_phase run (and_then found (λ fault. sent (effect fault) (act_frames (destination_act node fault) (record node { phase = phase })) (destination_acted (record node { phase = phase }) fault)))))
    ≡ bare (sends (in_phase run (and_then found (λ fault. sent (effect fault) (act_frames (destination_act node fault) node) (destination_acted node fault)))))
of-act node phase true (Ok fault) effect = ap (λ (now : Destination). Some ([], now)) (acted-phase (destination_act node fault) node phase fault.page)
of-act node phase true (Err refusal) effect = refl
of-act node phase false found effect = refl

put-phase : (o : Option ℕ) (node : Destination) (phase : DestPhase) (copy : Copy) (rest : List Copy) → without_phase (install_by o (record node { phase = phase }) copy rest) ≡ without_phase (install_by o node copy rest)
put-phase None node phase copy rest = refl
put-phase (Some page) node phase copy rest = refl

of-install : (node : Destination) (phase : DestPhase) (run : Bool) (found : Result Copy Refusal) →
    bare (acts (in_phase run (and_then found (λ copy. acted (install_effect (home node.owed copy.page) copy.page) (install_by (home node.owed copy.page) (record node { phase = phase }) copy (rest_of node.arrivals))))))
    ≡ bare (acts (in_phase run (and_then found (λ copy. acted (install_effect (home node.owed copy.page) copy.page) (install_by (home node.owed copy.page) node copy (rest_of node.arrivals))))))
of-install node phase true (Ok copy) = ap (λ (now : Destination). Some ([], now)) (put-phase (home node.owed copy.page) node phase copy (rest_of node.arrivals))
of-install node phase true (Err refusal) = refl
of-install node phase false found = refl

-- a line other than a notice of the destination
abbrev is_notice : Line → Bool
is_notice (Line.Made (Step.Notice Side.Destination)) = true
is_notice line = false

of-line : (node : Destination) (phase : DestPhase) (line : Line) → orders.is_alone line ≡ true → is_notice line ≡ false → bare (destination_line (record node { phase = phase }) line) ≡ bare (destination_line node line)
of-line node phase (Line.Made (Step.Issue cpu command)) alone other = of-tries node phase (issue node.guest node.has_run cpu command)
of-line node phase (Line.Made (Step.Retry cpu)) alone other = of-tries node phase (retry node.guest node.has_run cpu)
of-line node phase (Line.Made Step.DestRead) alone other = of-read node phase node.has_run (ok_or (next_message node.guest.space.object) Refusal.NothingThere)
of-line node phase (Line.Made Step.DestAct) alone other = of-act node phase node.has_run (when_quiet node.guest (first_of node.held)) _
of-line node phase (Line.Made Step.Install) alone other = of-install node phase node.has_run (when_quiet node.guest (first_of node.arrivals))
of-line node phase (Line.Made (Step.Notice Side.Destination)) alone other = absurd (false≢true (sym other))
of-line node phase (Line.Made (Step.Notice Side.Source)) alone other = refl
of-line node phase (Line.Made _) alone other = refl
of-line node phase (Line.Took sent) alone other = absurd (false≢true alone)
of-line node phase (Line.TookUrgent sent) alone other = absurd (false≢true alone)

-- what a result gives of which this is known
abbrev entries_in : Option (List Entry × Destination) → List Entry
entries_in None = []
entries_in (Some known) = known.0

abbrev node_in : Destination → Option (List Entry × Destination) → Destination
node_in other None = other
node_in other (Some known) = known.1

known-by : (given : Result (Did Destination) Refusal) (did : Did Destination) → bare given ≡ bare (Ok did) → (same : Did Destination) × (given ≡ Ok same) × (same.entries ≡ did.entries) × (without_phase same.node ≡ without_phase did.node)
known-by (Ok same) did is = (same, refl, ap entries_in is, ap (node_in did.node) is)
known-by (Err refusal) did is = absurd (cc)

-- two destinations that differ in their phases alone
abbrev pub AreTwins : Destination → Destination → Type 0
AreTwins node other = node ≡ record other { phase = node.phase }

twin-line : (node other : Destination) (line : Line) (did : Did Destination) → AreTwins node other → orders.is_alone line ≡ true → is_notice line ≡ false → destination_line node line ≡ Ok did →
    (same : Did Destination) × (destination_line other line ≡ Ok same) × (same.entries ≡ did.entries) × AreTwins did.node same.node
twin-line node other line did twins alone plain gives =
    let given = sym (of-line other node.phase line alone plain) ∙ ap (λ (at : Destination). bare (destination_line at line)) (sym twins) ∙ ap bare gives in
    let known = known-by (destination_line other line) did given in
    (known.0, known.1, known.2, ap (λ (at : Destination). record at { phase = did.node.phase }) (sym known.3))

-- Lines in turn

-- an order in which the destination has made the same, but for its phase
pub record Follows (first : Pair) (here : List Line) (source : Source) (said : List Entry) (node : Destination) (told : List Entry) : Type 0 where
  pub channel : Channel
  pub other : Destination
  pub done : List Line
  pub leads : Leads first here done (on channel source other said told)
  pub twins : AreTwins node other

pub silent : (node : Destination) (may : Bool) → entries_by (acts (in_phase may (acted (Effect.Noticed Side.Destination) (destination_paused node)))) ≡ []
silent node true = refl
silent node false = refl

paused-twin : (node other : Destination) (may : Bool) → AreTwins node other → AreTwins (node_by node (acts (in_phase may (acted (Effect.Noticed Side.Destination) (destination_paused node))))) other
paused-twin node other true twins = ap (λ (at : Destination). record at { phase = DestPhase.Paused }) twins
paused-twin node other false twins = twins

may-alone : (line : Line) → orders.is_alone line ≡ true → is_notice line ≡ false → (Line.Made (Step.Notice Side.Source) ≡ line → ⊥) → destination_may true line ≡ true
may-alone (Line.Made (Step.Notice Side.Destination)) alone plain not_source = absurd (false≢true (sym plain))
may-alone (Line.Made (Step.Notice Side.Source)) alone plain not_source = absurd (not_source refl)
may-alone (Line.Made _) alone plain not_source = refl
may-alone (Line.Took sent) alone plain not_source = refl
may-alone (Line.TookUrgent sent) alone plain not_source = refl

not_of_source : (node : Destination) (line : Line) → IsOk (destination_line node line) → Line.Made (Step.Notice Side.Source) ≡ line → ⊥
not_of_source node line ok is = false≢true (subst (λ l. IsOk (destination_line node l)) (sym is) ok)

follow-line : (first : Pair) (here : List Line) (source : Source) (said : List Entry) (node : Destination) (told : List Entry) (line : Line) (did : Did Destination) → Follows first here source said node told → orders.is_alone line ≡ true → is_notice line ≡ false →
    IsOk (destination_line node line) → destination_line node line ≡ Ok did → Follows first here source said did.node (told ++ did.entries)
follow-line first here source said node told line did follows alone plain ok gives =
    let twin = twin-line node follows.other line did follows.twins alone plain gives in
    let same = twin.0 in
    let channel = follows.channel in
    let new : Channel = record { forward = channel.forward; back = sending channel.back same.node.epoch same.frames; urgent = channel.urgent } in
    let before = on channel source follows.other said told in
    let after = on new source same.node said (told ++ same.entries) in
    let turn : IsDestinationTurn before line same after =
    record {
      gives = twin.1;
      may = may-alone line alone plain (not_of_source node line ok);
      forward = channel.forward;
      takes = alone-takes line channel.forward alone;
      urgent = channel.urgent;
      takes_urgent = alone-urgent line channel.urgent alone;
      is = refl;
    } in
    let leads = leads-there first before after here follows.done (line ∷ []) (same.effect ∷ []) follows.leads (one-there before after line same turn) in
    record {
      channel = new;
      other = same.node;
      done = follows.done ++ line ∷ [];
      leads = subst (λ entries. Leads first here (follows.done ++ line ∷ []) (on new source same.node said (told ++ entries))) twin.2 leads;
      twins = twin.3;
    }

follow-notice : (first : Pair) (here : List Line) (source : Source) (said : List Entry) (node : Destination) (told : List Entry) → Follows first here source said node told →
    Follows first here source said (node_by node (destination_line node (Line.Made (Step.Notice Side.Destination)))) (told ++ entries_by (destination_line node (Line.Made (Step.Notice Side.Destination))))
follow-notice first here source said node told follows =
    let may = not (is_dest_paused node.phase) in
    let none : told ++ entries_by (destination_line node (Line.Made (Step.Notice Side.Destination))) ≡ told = ap (λ entries. told ++ entries) (silent node may) ∙ append-nil told in
    record {
      channel = follows.channel;
      other = follows.other;
      done = follows.done;
      leads = subst (λ entries. Leads first here follows.done (on follows.channel source follows.other said entries)) (sym none) follows.leads;
      twins = paused-twin node follows.other may follows.twins;
    }

follow-one : (first : Pair) (here : List Line) (source : Source) (said : List Entry) (node : Destination) (told : List Entry) (line : Line) (b : Bool) → is_notice line ≡ b → Follows first here source said node told → orders.is_alone line ≡ true → IsOk (destination_line node line) →
    Follows first here source said (node_by node (destination_line node line)) (told ++ entries_by (destination_line node line))
follow-one first here source said node told line false plain follows alone ok =
    let did = got (destination_line node line) ok in
    subst (λ given. Follows first here source said (node_by node given) (told ++ entries_by given)) (sym did.1) (follow-line first here source said node told line did.0 follows alone plain ok did.1)
follow-one first here source said node told (Line.Made (Step.Notice Side.Destination)) true is follows alone ok = follow-notice first here source said node told follows
follow-one first here source said node told (Line.Made (Step.Notice Side.Source)) true is follows alone ok = absurd (false≢true is)
follow-one first here source said node told (Line.Made _) true is follows alone ok = absurd (false≢true is)
follow-one first here source said node told (Line.Took sent) true is follows alone ok = absurd (false≢true is)
follow-one first here source said node told (Line.TookUrgent sent) true is follows alone ok = absurd (false≢true is)

pub follow : (first : Pair) (here : List Line) (source : Source) (said : List Entry) (node : Destination) (told : List Entry) (lines : List Line) → Follows first here source said node told → IsDestinationAlone node lines →
    Follows first here source said (destination_after node lines) (told ++ destination_entries node lines)
follow first here source said node told [] follows alone = subst (Follows first here source said node) (sym (append-nil told)) follows
follow first here source said node told (line ∷ lines) follows alone =
    let given = destination_line node line in
    subst (Follows first here source said (destination_after node (line ∷ lines))) (append_assoc told (entries_by given) (destination_entries (node_by node given) lines))
    (follow first here source said (node_by node given) (told ++ entries_by given) lines (follow-one first here source said node told line (is_notice line) refl follows alone.0 alone.1) alone.2)
