-- The calls of a source of its own: each is the source's step of its name, and the frames without page bytes that it sends wait.
use Rattle.std.specs.Prelude.{◌≡◌, ◌⊎◌, ℕ, not, true, Some, None, Result, Ok, Err, IsOk, List}
use Rattle.mig_base.specs.declared.effect.Effect.{Effect}
use Rattle.mig_base.specs.declared.refusal.Refusal.{Refusal}
use Rattle.mig_model.specs.GuestSteps as guest
use Rattle.mig_model.specs.GuestSteps.{Tried}
use Rattle.mig_model.specs.NodeSteps.{Acted, IsRefusedFor, Sends, acted, is_used}
use Rattle.mig_model.specs.Source.{Source}
use Rattle.mig_model.specs.SourceSteps as source
use Rattle.mig_model.specs.Wire.{Sent, wire_with}
use Rattle.frame_decoder.specs.Streams.{IsTextOf}
use Rattle.frame_decoder.specs.declared.version.Version.{Version}
use Rattle.nodes.specs.Faults.{returning_fault}
use Rattle.nodes.specs.Nodes.{PostingSource}
use Rattle.nodes.specs.declared.fault.FrameFault.{FrameFault}
use Rattle.nodes.specs.declared.steps.SourceStep.{SourceStep}

-- what a call gives: its effect and the node after it, or its refusal
abbrev pub Answer : Type 0
Answer = Result (Acted PostingSource) Refusal

-- the frames of a step wait after those that wait already
abbrev pub posts : PostingSource → Result (Sends Source) Refusal → Answer
posts old (Ok step) = acted step.effect (record { node = step.node; wire = wire_with old.wire step.node.epoch step.frames })
posts old (Err refusal) = Err refusal

-- the caller sends the page or the run of a step, which has its bytes; no frame waits
abbrev pub hands_out : PostingSource → Result (Sends Source) Refusal → Answer
hands_out old (Ok step) = acted step.effect (record old { node = step.node })
hands_out old (Err refusal) = Err refusal

-- a step that sends nothing
abbrev pub acts : PostingSource → Result (Acted Source) Refusal → Answer
acts old (Ok step) = acted step.effect (record old { node = step.node })
acts old (Err refusal) = Err refusal

-- a command of a processor
abbrev pub tries : PostingSource → Result Tried Refusal → Answer
tries old (Ok step) = acted step.effect (record old { node = record old.node { guest = step.guest } })
tries old (Err refusal) = Err refusal

-- what each call gives
abbrev pub answer : SourceStep → PostingSource → Answer
answer (SourceStep.Issue cpu command) old = tries old (guest.issue old.node.guest (not old.node.switched) cpu command)
answer (SourceStep.Retry cpu) old = tries old (guest.retry old.node.guest (not old.node.switched) cpu)
answer SourceStep.Start old = posts old (source.start old.node)
answer SourceStep.Round old = acts old (source.round old.node)
answer SourceStep.Send old = hands_out old (source.send old.node)
answer (SourceStep.RunSent most) old = hands_out old (source.send_run old.node most)
answer SourceStep.Read old = acts old (source.read old.node)
answer SourceStep.Act old = acts old (source.act old.node)
answer SourceStep.Switch old = posts old (source.switch old.node)
answer (SourceStep.Push ticket) old = hands_out old (source.push old.node ticket)
answer (SourceStep.PushUrgent ticket) old = hands_out old (source.push_urgent old.node ticket)
answer SourceStep.Serve old = acts old (source.serve old.node)
answer SourceStep.End old = posts old (source.end old.node)
answer SourceStep.Notice old = acts old (source.pause old.node)
answer SourceStep.Resume old = posts old (source.resume old.node)

-- why a call may be refused: for the reason of the step, or memory ran out; an urgent push also at the greatest count of urgent frames
abbrev pub MayBeRefused : SourceStep → PostingSource → Refusal → Type 0
MayBeRefused (SourceStep.PushUrgent ticket) old refusal =
    IsRefusedFor (answer (SourceStep.PushUrgent ticket) old) refusal
    ⊎ ((refusal ≡ Refusal.CountUsed) × (is_used old.node.urgent_sent ≡ true) × IsOk (answer (SourceStep.PushUrgent ticket) old))
MayBeRefused step old refusal = IsRefusedFor (answer step old) refusal

-- Frames that come back

-- the bytes are the text of a frame, which is taken: what it makes the source send waits
pub record IsReturned (bytes : List ℕ) (old : PostingSource) (effect : Effect) (new : PostingSource) : Type 0 where
  pub version : Version
  pub sent : Sent
  pub text : IsTextOf version bytes sent
  pub accepted : returning_fault old.node sent.epoch sent.frame ≡ None
  pub taken : posts old (source.take old.node sent.frame) ≡ acted effect new

-- the bytes are the text of a frame, which is not taken for this reason
pub record IsRefusedBack (bytes : List ℕ) (old : PostingSource) (fault : FrameFault) : Type 0 where
  pub version : Version
  pub sent : Sent
  pub text : IsTextOf version bytes sent
  pub refused : returning_fault old.node sent.epoch sent.frame ≡ Some fault

-- no frame has these bytes as its text
abbrev pub IsNoText : List ℕ → Type 0
IsNoText bytes = (version : Version) (sent : Sent) → IsTextOf version bytes sent → ⊥

-- why bytes are not taken: memory ran out, they are not the text of a frame, or the source refuses the frame
abbrev pub MayNotReturn : List ℕ → PostingSource → FrameFault → Type 0
MayNotReturn bytes old fault = (fault ≡ FrameFault.NoMemory) ⊎ (((fault ≡ FrameFault.NotAFrame) × IsNoText bytes) ⊎ IsRefusedBack bytes old fault)
