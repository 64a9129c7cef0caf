-- What a step puts on a wire, as frames and as bytes.
use Rattle.std.proofs.Common.{◌≡◌, ℕ, List, [], ◌++◌, length, drop, refl, sym, ap, subst, ◌∙◌, append-nil, length-append, arith, inl, inr}
use Rattle.std.proofs.lemmas.List.{drop_all}
use Rattle.std.proofs.Math.Seq.{drop-append_seam}
use Rattle.mig_base.specs.declared.schedule.Side.{Side}
use Rattle.mig_base.specs.declared.schedule.Step.{Step}
use Rattle.mig_model.specs.Migration.{World, next}
use Rattle.mig_model.specs.Parts.{Grows, Shrinks, ChangesParts}
use Rattle.mig_model.specs.Runs.{Happens, Outcome}
use Rattle.mig_model.specs.Wire.{Sent, Wire, empty_wire}
use Rattle.mig_model.proofs.steps.PartsChanged.{changes_parts}
use Rattle.mig_model.proofs.steps.StepCases.{made-next}
use Rattle.frame_decoder.proofs.Whole.{texts_join}
use Rattle.frame_decoder.specs.Streams.{texts}
use Rattle.frame_decoder.specs.declared.version.Version.TheVariants.{Two}
use Rattle.wiretap.specs.Traffic.{IsPut, put_on, put_between}
use Rattle.wiretap.specs.Moves.{AreMarks, bytes_in_flight}
use Rattle.wiretap.specs.declared.marks.Marks.{Marks}

-- One wire

-- what was put by a step that did this
abbrev IsPutFor : Wire → Wire → Type 0
IsPutFor old new = IsPut old new (put_on old new)

put_none : (old new : Wire) → Shrinks old new → IsPutFor old new
put_none old new p =
    let all = ap length p.is ∙ length-append p.taken new.frames in
    inr (drop_all (length old.frames) new.frames (omega (arith, all)), p)

put_same : (old new : Wire) → new ≡ old → IsPutFor old new
put_same old new e = put_none old new (record { taken = []; is = sym (ap (λ (w : Wire). w.frames) e) })

put_more : (old new : Wire) → Grows old new → IsPutFor old new
put_more old new p =
    let is : new.frames ≡ old.frames ++ p.more = ap (λ (w : Wire). w.frames) p.is in
    let put : put_on old new ≡ p.more = ap (drop (length old.frames)) is ∙ drop-append_seam old.frames p.more in
    inl (is ∙ ap (λ (more : List Sent). old.frames ++ more) (sym put))

put_lost : (old : Wire) → IsPutFor old empty_wire
put_lost old = put_none old empty_wire (record { taken = old.frames; is = sym (append-nil old.frames) })

-- All three

pub record ArePut (old new : World) : Type 0 where
  pub forward : IsPutFor old.forward new.forward
  pub back : IsPutFor old.back new.back
  pub urgent : IsPutFor old.urgent new.urgent

pub put_nothing : (old new : World) → new ≡ old → ArePut old new
put_nothing old new e = record {
  forward = put_same old.forward new.forward (ap (λ (w : World). w.forward) e);
  back = put_same old.back new.back (ap (λ (w : World). w.back) e);
  urgent = put_same old.urgent new.urgent (ap (λ (w : World). w.urgent) e);
}

put_forward : (old new : World) → Grows old.forward new.forward → new.back ≡ old.back → new.urgent ≡ old.urgent → ArePut old new
put_forward old new f b u = record { forward = put_more old.forward new.forward f; back = put_same old.back new.back b; urgent = put_same old.urgent new.urgent u }

put_none_at_all : (old new : World) → new.forward ≡ old.forward → new.back ≡ old.back → new.urgent ≡ old.urgent → ArePut old new
put_none_at_all old new f b u = record { forward = put_same old.forward new.forward f; back = put_same old.back new.back b; urgent = put_same old.urgent new.urgent u }

put_back : (old new : World) → new.forward ≡ old.forward → Grows old.back new.back → new.urgent ≡ old.urgent → ArePut old new
put_back old new f b u = record { forward = put_same old.forward new.forward f; back = put_more old.back new.back b; urgent = put_same old.urgent new.urgent u }

-- by the parts that a step changes; a break changes all wires
put_by_parts : (old : World) (step : Step) (new : World) → (step ≡ Step.Break → ArePut old new) → ChangesParts old step new → ArePut old new
put_by_parts old (Step.Issue cpu command) new lost p = put_none_at_all old new p.forward p.back p.urgent
put_by_parts old (Step.Retry cpu) new lost p = put_none_at_all old new p.forward p.back p.urgent
put_by_parts old Step.Start new lost p = put_forward old new p.forward p.back p.urgent
put_by_parts old Step.Round new lost p = put_forward old new p.forward p.back p.urgent
put_by_parts old Step.Send new lost p = put_forward old new p.forward p.back p.urgent
put_by_parts old (Step.SendRun count) new lost p = put_forward old new p.forward p.back p.urgent
put_by_parts old Step.SourceRead new lost p = put_forward old new p.forward p.back p.urgent
put_by_parts old Step.SourceAct new lost p = put_forward old new p.forward p.back p.urgent
put_by_parts old Step.Switch new lost p = put_forward old new p.forward p.back p.urgent
put_by_parts old (Step.Deliver n) new lost p =
    record { forward = put_none old.forward new.forward p.forward; back = put_more old.back new.back p.back; urgent = put_same old.urgent new.urgent p.urgent }
put_by_parts old (Step.DeliverBack n) new lost p =
    record { forward = put_more old.forward new.forward p.forward; back = put_none old.back new.back p.back; urgent = put_same old.urgent new.urgent p.urgent }
put_by_parts old Step.DestRead new lost p = put_back old new p.forward p.back p.urgent
put_by_parts old Step.DestAct new lost p = put_back old new p.forward p.back p.urgent
put_by_parts old Step.Install new lost p = put_back old new p.forward p.back p.urgent
put_by_parts old (Step.Push ticket) new lost p = put_forward old new p.forward p.back p.urgent
put_by_parts old (Step.PushUrgent ticket) new lost p =
    record { forward = put_same old.forward new.forward p.forward; back = put_same old.back new.back p.back; urgent = put_more old.urgent new.urgent p.urgent }
put_by_parts old (Step.DeliverUrgent n) new lost p =
    record { forward = put_same old.forward new.forward p.forward; back = put_same old.back new.back p.back; urgent = put_none old.urgent new.urgent p.urgent }
put_by_parts old Step.Serve new lost p = put_forward old new p.forward p.back p.urgent
put_by_parts old Step.End new lost p = put_forward old new p.forward p.back p.urgent
put_by_parts old Step.Break new lost p = lost refl
put_by_parts old (Step.Notice Side.Source) new lost p =
    put_none_at_all old new (ap (λ (w : World). w.forward) p.is) (ap (λ (w : World). w.back) p.is) (ap (λ (w : World). w.urgent) p.is)
put_by_parts old (Step.Notice Side.Destination) new lost p =
    put_none_at_all old new (ap (λ (w : World). w.forward) p.is) (ap (λ (w : World). w.back) p.is) (ap (λ (w : World). w.urgent) p.is)
put_by_parts old Step.Resume new lost p = put_forward old new p.forward p.back p.urgent

put_at_break : (world : World) → ArePut world (next world Step.Break)
put_at_break world =
    made-next (ArePut world) world Step.Break (put_nothing world world refl)
    (λ started unreleased up. record { forward = put_lost world.forward; back = put_lost world.back; urgent = put_lost world.urgent })

pub put_by_step : (world : World) (step : Step) → ArePut world (next world step)
put_by_step world step =
    put_by_parts world step (next world step) (λ is. subst (λ (s : Step). ArePut world (next world s)) (sym is) (put_at_break world)) (changes_parts world step)

-- a step that happens, also where memory is short
pub put_happens : (old : World) (step : Step) (outcome : Outcome) (new : World) → Happens old step outcome new → ArePut old new
put_happens old step outcome new h = elim h [
  | inl made ↦ subst (λ (w : World). ArePut old w) (sym made.1) (put_by_step old step)
  | inr lacking ↦ put_nothing old new lacking.2
]

-- The bytes

texts_put : (old new : Wire) → IsPutFor old new → drop (length (texts Two old.frames)) (texts Two new.frames) ≡ texts Two (put_on old new)
texts_put old new p = elim p [
  | inl grown ↦
      ap (λ (frames : List Sent). drop (length (texts Two old.frames)) (texts Two frames)) grown
      ∙ ap (drop (length (texts Two old.frames))) (texts_join Two old.frames (put_on old new))
      ∙ drop-append_seam (texts Two old.frames) (texts Two (put_on old new))
  | inr shrunk ↦
      let all = ap (λ (frames : List Sent). length (texts Two frames)) shrunk.1.is ∙ ap length (texts_join Two shrunk.1.taken new.frames) ∙ length-append (texts Two shrunk.1.taken) (texts Two new.frames) in
      drop_all (length (texts Two old.frames)) (texts Two new.frames) (omega (arith, all)) ∙ sym (ap (texts Two) shrunk.0)
]

-- what comes after the bytes that were in flight is what was put
pub behind_put : (old new : World) (marks : Marks) → AreMarks old marks → ArePut old new → bytes_in_flight marks new ≡ put_between old new
behind_put old new marks are p = λ i. record {
  forward = (ap (λ (n : ℕ). drop n (texts Two new.forward.frames)) are.forward ∙ texts_put old.forward new.forward p.forward) i;
  back = (ap (λ (n : ℕ). drop n (texts Two new.back.frames)) are.back ∙ texts_put old.back new.back p.back) i;
  urgent = (ap (λ (n : ℕ). drop n (texts Two new.urgent.frames)) are.urgent ∙ texts_put old.urgent new.urgent p.urgent) i;
}
