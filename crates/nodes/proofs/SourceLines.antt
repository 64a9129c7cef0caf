-- An accepted call of a source is a line of its log.
use Rattle.std.proofs.lemmas.Bool.Decides.{nat_tests}
use Rattle.std.proofs.Common.{◌≡◌, ◌⊎◌, inl, inr, ℕ, ◌==◌, not, arith, if◌then◌else◌, Bool, true, false, Option, Some, None, List, [], ◌∷◌, refl, sym, ap, ◌∙◌}
use Rattle.std.specs.Prelude.{Result, Ok, Err}
use Rattle.mig_base.specs.Sets.{run_length}
use Rattle.foundation.specs.Tests.{first_holding}
use Rattle.std.proofs.lemmas.Bool.{false≢true}
use Rattle.std.proofs.lemmas.Option.{none-some}
use Rattle.std.specs.Option.{option_map}
use Rattle.mig_base.specs.declared.effect.Effect.{Effect}
use Rattle.mig_base.specs.declared.refusal.Refusal.{Refusal}
use Rattle.mig_model.specs.Faults.{is_in_place_back}
use Rattle.mig_model.specs.GuestSteps as guest
use Rattle.mig_model.specs.GuestSteps.{Tried}
use Rattle.mig_model.specs.NodeSteps.{Acted, Sends, acted, and_then}
use Rattle.mig_model.specs.Source.{Source}
use Rattle.mig_model.specs.SourceSteps as source
use Rattle.mig_model.specs.SourceSteps.{run_bound}
use Rattle.mig_model.specs.Wire.{Sent, wire_with}
use Rattle.mig_laws.specs.Sides as sides
use Rattle.mig_laws.specs.Sides.{Did, Line}
use Rattle.nodes.specs.Lines.{AreSourceLines, IsLoggedBack, IsSourceLine, is_handed_out}
use Rattle.precopy.specs.Back.{is_bad_recv}
use Rattle.precopy.specs.declared.fault.SourceFault.{SourceFault}
use Rattle.nodes.specs.Faults.{of_source, returning_fault}
use Rattle.nodes.specs.Nodes.{PostingSource}
use Rattle.nodes.specs.SourceCalls.{IsReturned, acts, answer, hands_out, posts, tries}
use Rattle.nodes.specs.Traces.{source_step}
use Rattle.nodes.specs.declared.fault.FrameFault.{FrameFault}
use Rattle.nodes.specs.declared.steps.SourceStep.{SourceStep}
use Rattle.nodes.proofs.Accepted.{refused, same-effect, same-node}
use Rattle.nodes.proofs.Bounds.{bound_again}

posts-line : (line : Line) (old : PostingSource) (step : Result (Sends Source) Refusal) (effect : Effect) (new : PostingSource) → is_handed_out line ≡ false → sides.source_line old.node line ≡ sides.sends step → posts old step ≡ acted effect new → IsSourceLine old line effect new
posts-line line old (Ok step) effect new waits gives is =
    let node = same-node step.effect effect (record { node = step.node; wire = wire_with old.wire step.node.epoch step.frames }) new is in
    record {
      did = record { effect = step.effect; frames = step.frames; urgent = []; entries = []; node = step.node };
      gives = gives;
      effect_is = sym (same-effect step.effect effect (record { node = step.node; wire = wire_with old.wire step.node.epoch step.frames }) new is);
      node_is = ap (λ (p : PostingSource). p.node) (sym node);
      waits = ap (λ (p : PostingSource). p.wire) (sym node) ∙ ap (λ b. wire_with old.wire step.node.epoch (if b then [] else step.frames)) (sym waits);
      none_urgent = λ own. refl;
    }
posts-line line old (Err refusal) effect new waits gives is = absurd (refused refusal effect new is)

quiet-wire : (out : Bool) (old : PostingSource) (did : Did Source) → wire_with old.wire did.node.epoch (if out then [] else []) ≡ old.wire
quiet-wire true old did = refl
quiet-wire false old did = refl

-- of a line whose frames are the caller's, or that has none
quiet-line : (line : Line) (old : PostingSource) (did : Did Source) (effect : Effect) (new : PostingSource) → (is_handed_out line ≡ true) ⊎ ((did.frames ≡ []) × (did.urgent ≡ [])) → sides.source_line old.node line ≡ Ok did →
    acted did.effect (record old { node = did.node }) ≡ acted effect new → IsSourceLine old line effect new
quiet-line line old did effect new (inl out) gives is =
    let node = same-node did.effect effect (record old { node = did.node }) new is in
    record {
      did = did;
      gives = gives;
      effect_is = sym (same-effect did.effect effect (record old { node = did.node }) new is);
      node_is = ap (λ (p : PostingSource). p.node) (sym node);
      waits = ap (λ (p : PostingSource). p.wire) (sym node) ∙ ap (λ b. wire_with old.wire did.node.epoch (if b then [] else did.frames)) (sym out);
      none_urgent = λ own. absurd (false≢true (sym own ∙ out));
    }
quiet-line line old did effect new (inr none) gives is =
    let node = same-node did.effect effect (record old { node = did.node }) new is in
    record {
      did = did;
      gives = gives;
      effect_is = sym (same-effect did.effect effect (record old { node = did.node }) new is);
      node_is = ap (λ (p : PostingSource). p.node) (sym node);
      waits = ap (λ (p : PostingSource). p.wire) (sym node) ∙ sym (ap (λ frames. wire_with old.wire did.node.epoch (if is_handed_out line then [] else frames)) none.0 ∙ quiet-wire (is_handed_out line) old did);
      none_urgent = λ own. none.1;
    }

hands-line : (line : Line) (old : PostingSource) (step : Result (Sends Source) Refusal) (effect : Effect) (new : PostingSource) → is_handed_out line ≡ true → sides.source_line old.node line ≡ sides.sends step → hands_out old step ≡ acted effect new → IsSourceLine old line effect new
hands-line line old (Ok step) effect new out gives is = quiet-line line old (record { effect = step.effect; frames = step.frames; urgent = []; entries = []; node = step.node }) effect new (inl out) gives is
hands-line line old (Err refusal) effect new out gives is = absurd (refused refusal effect new is)

urgent-line : (line : Line) (old : PostingSource) (step : Result (Sends Source) Refusal) (effect : Effect) (new : PostingSource) → is_handed_out line ≡ true → sides.source_line old.node line ≡ sides.sends_urgently step → hands_out old step ≡ acted effect new → IsSourceLine old line effect new
urgent-line line old (Ok step) effect new out gives is = quiet-line line old (record { effect = step.effect; frames = []; urgent = step.frames; entries = []; node = step.node }) effect new (inl out) gives is
urgent-line line old (Err refusal) effect new out gives is = absurd (refused refusal effect new is)

acts-line : (line : Line) (old : PostingSource) (step : Result (Acted Source) Refusal) (effect : Effect) (new : PostingSource) → sides.source_line old.node line ≡ sides.acts step → acts old step ≡ acted effect new → IsSourceLine old line effect new
acts-line line old (Ok step) effect new gives is = quiet-line line old (record { effect = step.effect; frames = []; urgent = []; entries = []; node = step.node }) effect new (inr (refl, refl)) gives is
acts-line line old (Err refusal) effect new gives is = absurd (refused refusal effect new is)

tries-line : (line : Line) (old : PostingSource) (step : Result Tried Refusal) (effect : Effect) (new : PostingSource) → sides.source_line old.node line ≡ sides.tries (λ g. record old.node { guest = g }) step → tries old step ≡ acted effect new → IsSourceLine old line effect new
tries-line line old (Ok step) effect new gives is =
    quiet-line line old (record { effect = step.effect; frames = []; urgent = []; entries = step.entries; node = record old.node { guest = step.guest } }) effect new (inr (refl, refl)) gives is
tries-line line old (Err refusal) effect new gives is = absurd (refused refusal effect new is)

-- a run of any number of pages is that of the number which its line has
bounded : (most : ℕ) (old : PostingSource) → hands_out old (source.send_run old.node (run_bound most)) ≡ hands_out old (source.send_run old.node most)
bounded most old = ap (λ (bound : ℕ). hands_out old (and_then (source.next_to_send old.node) (λ first. source.send_pages old.node first (run_length old.node.log.todo first bound)))) (bound_again most)

pub step-line : (step : SourceStep) (old : PostingSource) (effect : Effect) (new : PostingSource) → answer step old ≡ acted effect new → IsSourceLine old (Line.Made (source_step step)) effect new
step-line (SourceStep.Issue cpu command) old effect new is = tries-line _ old (guest.issue old.node.guest (not old.node.switched) cpu command) effect new refl is
step-line (SourceStep.Retry cpu) old effect new is = tries-line _ old (guest.retry old.node.guest (not old.node.switched) cpu) effect new refl is
step-line SourceStep.Start old effect new is = posts-line _ old (source.start old.node) effect new refl refl is
step-line SourceStep.Round old effect new is = acts-line _ old (source.round old.node) effect new refl is
step-line SourceStep.Send old effect new is = hands-line _ old (source.send old.node) effect new refl refl is
step-line (SourceStep.RunSent most) old effect new is = hands-line _ old (source.send_run old.node (run_bound most)) effect new refl refl (bounded most old ∙ is)
step-line SourceStep.Read old effect new is = acts-line _ old (source.read old.node) effect new refl is
step-line SourceStep.Act old effect new is = acts-line _ old (source.act old.node) effect new refl is
step-line SourceStep.Switch old effect new is = posts-line _ old (source.switch old.node) effect new refl refl is
step-line (SourceStep.Push ticket) old effect new is = hands-line _ old (source.push old.node ticket) effect new refl refl is
step-line (SourceStep.PushUrgent ticket) old effect new is = urgent-line _ old (source.push_urgent old.node ticket) effect new refl refl is
step-line SourceStep.Serve old effect new is = acts-line _ old (source.serve old.node) effect new refl is
step-line SourceStep.End old effect new is = posts-line _ old (source.end old.node) effect new refl refl is
step-line SourceStep.Notice old effect new is = acts-line _ old (source.pause old.node) effect new refl is
step-line SourceStep.Resume old effect new is = posts-line _ old (source.resume old.node) effect new refl refl is

-- A frame that comes back

second-of : (one other third : Bool) → option_map of_source (first_holding ((one, SourceFault.OutOfPlace) ∷ (other, SourceFault.StaleEpoch) ∷ (third, SourceFault.BadOwed) ∷ [])) ≡ None → other ≡ false
second-of true other third is = absurd (none-some FrameFault.OutOfPlace (sym is))
second-of false true third is = absurd (none-some FrameFault.StaleEpoch (sym is))
second-of false false third is = refl

same-epoch : (one other : ℕ) → not (one == other) ≡ false → one ≡ other
same-epoch one other is = grind (arith, nat_tests)

pub own-epoch : (node : Source) (sent : Sent) → returning_fault node sent.epoch sent.frame ≡ None → sent.epoch ≡ node.epoch
own-epoch node sent accepted = same-epoch sent.epoch node.epoch (second-of (not (is_in_place_back node sent.frame)) (not (sent.epoch == node.epoch)) (is_bad_recv node sent.frame) accepted)

pub back-line : (bytes : List ℕ) (old : PostingSource) (effect : Effect) (new : PostingSource) → IsReturned bytes old effect new → IsLoggedBack bytes old effect new
back-line bytes old effect new is =
    record {
      version = is.version;
      sent = is.sent;
      text = is.text;
      own_epoch = own-epoch old.node is.sent is.accepted;
      line = posts-line (Line.Took is.sent) old (source.take old.node is.sent.frame) effect new refl refl is.taken;
    }

-- Calls in turn

made-node : (old : Source) (now : PostingSource) (line : Line) (effect : Effect) (next : PostingSource) → now.node ≡ old → IsSourceLine now line effect next → next.node ≡ sides.node_by old (sides.source_line old line)
made-node old now line effect next same is = is.node_is ∙ sym (ap (λ did. sides.node_by now.node did) is.gives) ∙ ap (λ node. sides.node_by node (sides.source_line node line)) same

pub log-node : (old new : PostingSource) (lines : List Line) → AreSourceLines old lines new → new.node ≡ sides.source_after old.node lines
log-node old new [] is = is
log-node old new (line ∷ lines) (now, effect, next, same, made, rest) =
    log-node next new lines rest ∙ ap (λ node. sides.source_after node lines) (made-node old.node now line effect next same made)
