-- What a destination answers to frames, some of them after others.
use Rattle.std.proofs.Common.{◌≡◌, ◌≢◌, ℕ, ◌+◌, List, [], ◌∷◌, ◌++◌, Option, Some, None, Ok, refl, ap, sym, ◌∙◌, append_assoc, arith}
use Rattle.std.specs.Prelude.{unwrap_or}
use Rattle.mig_base.specs.declared.fault.TakeFault.{TakeFault}
use Rattle.mig_base.specs.declared.fault.TakeFault.TheVariants as takes
use Rattle.mig_model.specs.Destination.{Destination, destination_took}
use Rattle.mig_model.specs.Faults.{take_fault}
use Rattle.mig_model.specs.Effects.{frame_effect}
use Rattle.mig_model.specs.Wire.{Sent}
use Rattle.grammar.specs.Printed.{outcome_line}
use Rattle.frames.specs.Answers.{after_frame, answer_line, answer_lines, after_frames, refusal_line, refusals, refusals_of, Adds}

pub behind-append : (node : Destination) (xs ys : List Sent) → after_frames node (xs ++ ys) ≡ after_frames (after_frames node xs) ys
behind-append node [] ys = refl
behind-append node (x ∷ xs) ys = behind-append (after_frame node x) xs ys

pub answer_lines-append : (node : Destination) (xs ys : List Sent) → answer_lines node (xs ++ ys) ≡ answer_lines node xs ++ answer_lines (after_frames node xs) ys
answer_lines-append node [] ys = refl
answer_lines-append node (x ∷ xs) ys =
    ap (λ (l : List ℕ). answer_line node x ++ l) (answer_lines-append (after_frame node x) xs ys)
    ∙ sym (append_assoc (answer_line node x) (answer_lines (after_frame node x) xs) (answer_lines (after_frames (after_frame node x) xs) ys))

pub refusals-append : (node : Destination) (xs ys : List Sent) → refusals node (xs ++ ys) ≡ refusals node xs + refusals (after_frames node xs) ys
refusals-append node [] ys = omega arith
refusals-append node (x ∷ xs) ys = omega (arith, refusals-append (after_frame node x) xs ys)

pub adds_then : (a x b y c : ℕ) → Adds a x b → Adds b y c → Adds a (x + y) c
adds_then a x b y c p q = λ few.
    let one : b ≡ a + x = p (omega arith) in
    let two : c ≡ b + y = q (omega arith) in
    omega arith

-- one frame

taken_or_not : (o : Option TakeFault) (fault : TakeFault) → (fault ≡ takes.NoMemory → ⊥) → fault ≡ unwrap_or o takes.NoMemory → o ≡ Some fault
taken_or_not None fault some is = absurd (some is)
taken_or_not (Some other) fault some is = ap (λ (f : TakeFault). Some f) (sym is)

-- the answer, where the frame is not taken
pub record IsRefused (node : Destination) (sent : Sent) (fault : TakeFault) : Type 0 where
  pub node_is : after_frame node sent ≡ node
  pub line_is : answer_line node sent ≡ refusal_line fault
  pub count_is : refusals_of node sent ≡ 1

pub is_refused : (node : Destination) (sent : Sent) (fault : TakeFault) → (fault ≡ takes.NoMemory → ⊥) → fault ≡ unwrap_or (take_fault node sent.epoch sent.frame) takes.NoMemory → IsRefused node sent fault
is_refused node sent fault some is =
    let why = taken_or_not (take_fault node sent.epoch sent.frame) fault some is in
    record {
      node_is = ap (λ (o : Option TakeFault). elim o [ None ↦ destination_took node sent.epoch sent.frame | Some reason ↦ node ]) why;
      line_is = ap (λ (o : Option TakeFault). elim o [ None ↦ outcome_line (Ok (frame_effect sent.frame)) | Some reason ↦ refusal_line reason ]) why;
      count_is = ap (λ (o : Option TakeFault). elim o [ None ↦ 0 | Some reason ↦ 1 ]) why;
    }

pub refused_node : (node now : Destination) (sent : Sent) (fault : TakeFault) → fault ≢ takes.NoMemory → fault ≡ unwrap_or (take_fault node sent.epoch sent.frame) takes.NoMemory → now ≡ node → now ≡ after_frame node sent
refused_node node now sent fault some is same = same ∙ sym (is_refused node sent fault some is).node_is

pub refused_line : (node : Destination) (sent : Sent) (fault : TakeFault) (old new : List ℕ) → fault ≢ takes.NoMemory → fault ≡ unwrap_or (take_fault node sent.epoch sent.frame) takes.NoMemory → old ≡ [] → new ≡ old ++ refusal_line fault
    → new ≡ answer_line node sent
refused_line node sent fault old new some is none line = line ∙ ap (λ (l : List ℕ). l ++ refusal_line fault) none ∙ sym (is_refused node sent fault some is).line_is

-- a frame that is taken
pub taken_count : (node : Destination) (sent : Sent) → take_fault node sent.epoch sent.frame ≡ None → refusals_of node sent ≡ 0
taken_count node sent none = ap (λ (o : Option TakeFault). elim o [ None ↦ 0 | Some reason ↦ 1 ]) none
