-- `from_box`: the call gives the pointer with the right to what is there, and the allocator; the struct keeps both.
use Rattle.std.proofs.Common.{◌≡◌, List, [], ◌∷◌, ◌++◌, refl, sym, ap, ◌∙◌, subst}
use mir.Syntax.{a_type, dcons, dnil}
use mir.Val.{Val, vstruct, of_list}
use mir.MapTy.{inst_fn}
use base.Logic.{SProp, ent, emp, id⊢}
use base.Fml.{ftrue, fsep, flft}
use prog.Wp.{WpFn}
use types.Kit.{‵, raw, ◌⊛◌, some, later, ◌$◌, ◌∵◌, !, qed, by, move, keep, drop, split, split3, join, fsplit, fjoin, fpick, pick, suffices, use0, use1, await, rewrite, feq_l}
use types.Run.{stop, fld, of_opd, no_more, and_then, returns, enter}
use types.ByLocal.{alloc_all, pass_all, free_all, look_at, get, get_in, sets, lands_as}
use types.Part.{agg, sub, whole}
use contract.Monad.{fact, fact_i}
use contract.Running.{tables}
use denote.Exit.{no}
use denote.RattleType.{RattleType, owns}
use denote.Signature.{types_at, plain}
use denote.Builtin.{RawPtr}
use denote.RawPtr.{Ptr}
use denote.Steps.{nothing, only, heard}
use denote.Param.{param, layout, bounded}
use denote.Param.Laws.{param_laws}
use denote.Struct.Tuple.{Tuple}
use denote.Triple.Spec.{triple_of}
use denote.Triple.Call.{calls_at}
use denote.Triple.Walked.{Stays, stay_dropped, walk_of}
use Rattle.core.proofs.alloc.Calls.{Goes-blank, handle_tells}
use Rattle.core.proofs.atomic.Steps.{fm, Ptr-Good}
use Rattle.core.proofs.cell.Inside.{one}
use Rattle.std_alloc.specs.Box.Ownership.{box_owns}
use Rattle.std_alloc.specs.contracts.boxed.Box as boxed
use Rattle.std_alloc.proofs.boxed.Box.TheLaws as box_laws
use Rattle.std.proofs.raw_atomic.Walks.{proved_at, leaves}
use Rattle.postmig_c.proofs.Words.{word, word_good, together}
use Rattle.std_alloc.specs.contracts.boxed.Box.into_raw_with_allocator as callee
use Rattle.std_alloc.proofs.boxed.Box.into_raw_with_allocator.Met.{met}
use Rattle.postmig_c.specs.contracts.unboxed.Unboxed.from_box.{ended, clauses}
use Rattle.postmig_c.specs.contracts.unboxed.Unboxed.from_box.Key.{name as #self}
use Rattle.postmig_c.proofs.unboxed.Unboxed.from_box.Statement.{statement}
use Rattle.postmig_c.proofs.unboxed.Unboxed.from_box.Code as code

pub from_box_spec : {M : Type 1} → statement M
from_box_spec 𝓤 𝓛 𝓜 𝓡 wired T A LT LA g methods drops_value drops_allocator allocator drop_value drop_allocator =
    let H = 𝓛.H in let 𝓣 = tables 𝓤 H 𝓜 𝓡 𝓡.env in
    let R : RattleType = param 0 T in let Z : RattleType = param 1 A in let LZ = param_laws 1 A LA in
    let B : RattleType = boxed.the_row R Z g in let Pair = Tuple (RawPtr ∷ Z ∷ []) in
    let End = ended T A g methods drops_value drops_allocator in let c = clauses T A g methods drops_value drops_allocator 𝓛 𝓜.mem 𝓡.returns in
    let bounds = bounded (a_type ∷ a_type ∷ []) (T, (A, tt)) (dcons methods (dcons drops_value (dcons drops_allocator dnil))) in let fn = inst_fn bounds code.function in
    let stays : Stays End.signature.params End.kept = (stay_dropped (plain (λ _. B)) no, tt) in
    proved_at 𝓛 End stays c 𝓜 𝓡 (Goes-blank 𝓛 2 (plain (λ _. B)) no (λ κs x f. tt), tt) (#self bounds) fn (code.unfolded 𝓤 H 𝓜 𝓡 wired (T, (A, tt)) methods drops_value drops_allocator) (λ z are.
    let κs = z.0.0 in let qs = z.0.1 in let b = z.0.3.0 in
    let Post : Val → SProp 𝓤 = (walk_of 𝓛 End stays c).post z in let Run : List Val → SProp 𝓤 = λ ws. WpFn 𝓤 H 𝓣.C 𝓣.Λ fn ws Post in
    let tokens = ‵ (flft κs.0 qs.0) ⊛ ‵ (flft κs.1.0 qs.1.0) ⊛ ‵ ftrue in
    -- the box is one machine value
    let v = one (layout B) z.0.4.0 (((box_laws.the_row_laws R Z g (param_laws 0 T LT) LZ).lawful 𝓛).typed b z.0.4.0 are.0) in
    let call = triple_of 𝓛 (callee.signature T A g methods drops_allocator drops_value) (callee.spec T A g methods drops_allocator drops_value 𝓛 𝓜.mem 𝓡.returns) in
    let y : call.Ghost = ((κs, qs, tt, (b, tt), (v.0 ∷ [], tt)), tt) in
    qed 𝓛 ((tokens ⊛ ‵ (owns (types_at End.signature.params κs) z.0.3 z.0.4)) ∷ raw ((c κs z.0.3).requires z.1) ∷ []) ∵
    split ! $ move ! (1 ∷ []) $ fsplit ! $
    rewrite ! 0 (λ (us : List Val). ‵ (B.own_val b us)) v.1 refl $
    fjoin ! $ move ! (1 ∷ 0 ∷ []) $ join ! $ join ! $ use1 𝓛 (raw (call.pre y)) (id⊢ 𝓤 _) $
    suffices ! (Run (v.0 ∷ [])) (subst (λ (us : List Val). ent 𝓤 (Run (v.0 ∷ [])) (Run us)) (sym (λ i. v.1 i ++ [])) (id⊢ 𝓤 (Run (v.0 ∷ [])))) $
    enter ! 𝓣.C 𝓣.Λ fn (v.0 ∷ []) Post $ alloc_all ! (λ l. pass_all ! refl (v.2, tt) $
    sets ! (of_opd ! (get ! refl)) refl v.2 $
    calls_at ! (fm 𝓛 𝓜 𝓡) call (met 𝓤 𝓛 𝓜 𝓡 (code.calls-std_alloc::boxed::Box::into_raw_with_allocator 𝓡.env wired) T A LT LA g methods drops_allocator drops_value allocator drop_allocator drop_value) y
    (and_then ! (get ! refl) (no_more !)) (λ u.
    -- [the tokens and the pair; the allocator is the box's, and the pointer owns the value]
    use1 𝓛 (later (some (λ (r : Ptr × A.Denot). (tokens ⊛ ‵ (Pair.own_val r (u ∷ []))) ⊛ some (λ (_ : (Unit {0} × (Unit {0} × Unit {0})) × Unit {0}).
    ‵ (fsep (fsep ftrue (fsep ftrue ftrue)) ftrue) ⊛ (raw (fact 𝓤 (r.1 ≡ b.alloc)) ⊛ ‵ (box_owns (g.dealloc_token b.alloc) R r.0 b.value)))))) (id⊢ 𝓤 _) $
    await ! tt $ pick ! (λ r. split ! $ move ! (1 ∷ []) $ pick ! (λ _. split3 ! $ drop ! $ heard ! (r.1 ≡ b.alloc) (λ same.
    move ! (1 ∷ []) $ split ! $ move ! (1 ∷ []) $
    fpick ! (λ parts. fsplit ! $ feq_l ! (λ pair. fsplit ! $ feq_l ! (λ pointer. fsplit ! $
    rewrite ! 0 (λ (a : A.Denot). ‵ (A.own_val a parts.1.0)) same refl $
    handle_tells (record { row = A; laws = LA; g = g; d = methods; drops = drops_allocator }) ! b.alloc parts.1.0 (λ h handle fits.
    let good = word_good Z r.0 h fits in
    lands_as ! (ap only (pair ∙ (λ i. vstruct (of_list (pointer i ++ (handle i ++ []))) ∷ []))) refl good $
    sets ! (of_opd ! (get_in ! (fld ! refl (stop !)) (sub ! 0 refl (whole !)))) refl (Ptr-Good r.0) $
    sets ! (of_opd ! (get_in ! (fld ! refl (stop !)) (sub ! 1 refl (whole !)))) refl fits $
    sets ! (of_opd ! (get ! refl)) refl fits $
    sets ! (agg ! (and_then ! (get ! refl) (and_then ! (get ! refl) (no_more !)))) refl good $
    move ! (3 ∷ 0 ∷ []) $ together R Z LZ g ! r.0 h b.alloc b.value $
    use0 𝓛 (raw (fact 𝓤 (b.value ≡ b.value))) (fact_i 𝓤 (b.value ≡ b.value) (emp 𝓤) refl) $ nothing ! $ nothing ! $ fjoin ! $
    returns ! (look_at ! 0 refl) $ free_all ! refl $ keep ! (4 ∷ 0 ∷ 2 ∷ 1 ∷ []) $
    by ! (leaves 𝓛 End stays c z (word r.0 h) (record { at = r.0; alloc = b.alloc; value = b.value }) ((tt, (tt, tt)), tt) (tt, tt))))))))))))
