-- `into_box`: the struct gives its pointer, with what that owns, and its allocator; the call makes the box of them.
use Rattle.std.proofs.Common.{◌≡◌, List, [], ◌∷◌, ◌++◌, refl, sym, subst}
use mir.Syntax.{a_type, dcons, dnil}
use mir.Val.{Val}
use mir.MapTy.{inst_fn}
use base.Logic.{SProp, ent, id⊢}
use base.Fml.{ftrue, flft}
use prog.Wp.{WpFn}
use types.Kit.{‵, raw, ◌⊛◌, some, later, at_ret, ◌$◌, ◌∵◌, !, qed, by, move, keep, drop, split, split3, join, fsplit, fjoin, pick, suffices, use1, await, feq_i}
use types.Run.{stop, fld, of_opd, no_more, and_then, first, blocks, exec, returns, enter}
use types.ByLocal.{alloc_all, pass_all, free_all, look_at, get, get_in, sets, lands_last, env}
use types.Part.{sub, whole}
use contract.Monad.{fact}
use contract.BorrowLft.{◌⊑◌}
use contract.Running.{tables}
use denote.Exit.{no}
use denote.Laws.{Is, shows}
use denote.RattleType.{RattleType, owns}
use denote.Signature.{types_at, plain}
use denote.RawPtr.{ptr_val}
use denote.Steps.{nothing, peeks}
use denote.Param.{param, bounded}
use denote.Param.Laws.{param_laws}
use denote.Triple.Clauses.{Lasts, lasts}
use denote.Triple.Spec.{triple_of}
use denote.Triple.Call.{calls_at_last}
use denote.Triple.Walked.{Stays, stay_dropped, walk_of}
use Rattle.core.proofs.alloc.Calls.{Goes-blank}
use Rattle.core.proofs.alloc.Shapes.{after}
use Rattle.core.proofs.atomic.Steps.{fm, Ptr-Good}
use Rattle.std_alloc.specs.contracts.boxed.Box as boxed
use Rattle.std_alloc.proofs.boxed.Box.TheLaws as box_laws
use Rattle.std.proofs.raw_atomic.Walks.{proved_at, leaves}
use Rattle.postmig_c.proofs.Words.{word, word_good, U, apart}
use Rattle.std_alloc.specs.contracts.boxed.Box.from_raw as callee
use Rattle.std_alloc.proofs.boxed.Box.from_raw.Met.{met}
use Rattle.postmig_c.specs.contracts.unboxed.Unboxed.into_box.{ended, clauses}
use Rattle.postmig_c.specs.contracts.unboxed.Unboxed.into_box.Key.{name as #self}
use Rattle.postmig_c.proofs.unboxed.Unboxed.into_box.Statement.{statement}
use Rattle.postmig_c.proofs.unboxed.Unboxed.into_box.Code as code

pub into_box_spec : {M : Type 1} → statement M
into_box_spec 𝓤 𝓛 𝓜 𝓡 wired T A LT LA g methods drops_value drops_allocator allocator drop_value drop_allocator =
    let H = 𝓛.H in let 𝓣 = tables 𝓤 H 𝓜 𝓡 𝓡.env in
    let R : RattleType = param 0 T in let Z : RattleType = param 1 A in let LZ = param_laws 1 A LA in
    let B : RattleType = boxed.the_row R Z g in let Us : RattleType = U R Z LZ g in
    let End = ended T A g methods drops_value drops_allocator in let c = clauses T A g methods drops_value drops_allocator 𝓛 𝓜.mem 𝓡.returns in
    let bounds = bounded (a_type ∷ a_type ∷ []) (T, (A, tt)) (dcons methods (dcons drops_value (dcons drops_allocator dnil))) in let fn = inst_fn bounds code.function in
    let stays : Stays End.signature.params End.kept = (stay_dropped (plain (λ _. Us)) no, tt) in
    proved_at 𝓛 End stays c 𝓜 𝓡 (Goes-blank 𝓛 2 (plain (λ _. Us)) no (λ κs x f. tt), tt) (#self bounds) fn (code.unfolded 𝓤 H 𝓜 𝓡 wired (T, (A, tt)) methods drops_value drops_allocator) (λ z are.
    let κs = z.0.0 in let qs = z.0.1 in let u = z.0.3.0 in
    let Post : Val → SProp 𝓤 = (walk_of 𝓛 End stays c).post z in let Run : List Val → SProp 𝓤 = λ ws. WpFn 𝓤 H 𝓣.C 𝓣.Λ fn ws Post in
    let tokens = ‵ (flft κs.0 qs.0) ⊛ ‵ (flft κs.1.0 qs.1.0) ⊛ ‵ ftrue in
    qed 𝓛 ((tokens ⊛ ‵ (owns (types_at End.signature.params κs) z.0.3 z.0.4)) ∷ raw ((c κs z.0.3).requires z.1) ∷ []) ∵
    split ! $ move ! (1 ∷ []) $ fsplit ! $
    apart R Z LZ g ! u z.0.4.0 (λ h is fits.
    let w : Val = word u.at h in let good = word_good Z u.at h fits in
    let call = triple_of 𝓛 (callee.signature T A g methods drops_allocator) (callee.spec T A g methods drops_allocator 𝓛 𝓜.mem 𝓡.returns) in
    let y : call.Ghost = ((κs, qs, tt, (u.alloc, (u.at, tt)), (h ∷ [], (ptr_val u.at ∷ [], tt))), u.value) in
    -- the lifetimes are those of the parameters
    move ! (4 ∷ []) $ use1 𝓛 (raw (fact 𝓤 (κs.0 ⊑ T.lives)) ⊛ raw (fact 𝓤 (κs.1.0 ⊑ A.lives)) ⊛ ‵ ftrue) (id⊢ 𝓤 _) $ split3 ! $
    move ! (2 ∷ []) $ drop ! $ move ! (1 ∷ 2 ∷ []) $ join ! $ move ! (1 ∷ 0 ∷ []) $ join ! $
    -- the pointer and the allocator are the arguments
    move ! (2 ∷ []) $ feq_i ! (List Val) (ptr_val u.at ∷ []) (ptr_val u.at ∷ []) refl $ fjoin ! $ move ! (2 ∷ 0 ∷ []) $ fjoin ! $
    move ! (2 ∷ 0 ∷ []) $ join ! $ join ! $ use1 𝓛 (raw (call.pre y)) (id⊢ 𝓤 _) $
    suffices ! (Run (w ∷ [])) (subst (λ (us : List Val). ent 𝓤 (Run (w ∷ [])) (Run us)) (sym (λ i. is i ++ [])) (id⊢ 𝓤 (Run (w ∷ [])))) $
    enter ! 𝓣.C 𝓣.Λ fn (w ∷ []) Post $ alloc_all ! (λ l. pass_all ! refl (good, tt) $ let Locals = env fn.locals l in
    sets ! (of_opd ! (get_in ! (fld ! refl (stop !)) (sub ! 0 refl (whole !)))) refl (Ptr-Good u.at) $
    sets ! (of_opd ! (get_in ! (fld ! refl (stop !)) (sub ! 1 refl (whole !)))) refl fits $
    first ! $ blocks ! $ sets ! (of_opd ! (get ! refl)) refl fits $
    calls_at_last ! (fm 𝓛 𝓜 𝓡) call (met 𝓤 𝓛 𝓜 𝓡 (code.calls-std_alloc::boxed::Box::from_raw 𝓡.env wired) T A LT LA g methods drops_allocator allocator drop_allocator) y
    (and_then ! (get ! refl) (and_then ! (get ! refl) (no_more !))) (λ r.
    -- [the tokens and the box; it has the value and the allocator]
    use1 𝓛 (later (some (λ (b : B.Denot). (tokens ⊛ ‵ (B.own_val b (r ∷ []))) ⊛ some (λ (ls : Lasts (callee.ended T A g methods drops_allocator) κs y.0.3).
    ‵ (lasts (callee.ended T A g methods drops_allocator) κs y.0.3 ls) ⊛ (raw (fact 𝓤 (b.value ≡ u.value)) ⊛ raw (fact 𝓤 (b.alloc ≡ u.alloc))))))) (id⊢ 𝓤 (call.post y r)) $
    await ! tt $ pick ! (λ b. split ! $ move ! (1 ∷ []) $ pick ! (λ _. split3 ! $ drop ! $ move ! (2 ∷ []) $ split ! $ move ! (1 ∷ []) $
    peeks ! B (Is B) (shows 𝓛 B) b (r ∷ []) (λ typed.
    let fine = (((box_laws.the_row_laws R Z g (param_laws 0 T LT) LZ).lawful 𝓛).typed b (r ∷ []) typed).0 in
    lands_last ! refl fine $ exec ! 𝓣.C 𝓣.Λ Locals (after 3 fn.body) (at_ret Locals Post) $ sets ! (of_opd ! (get ! refl)) refl fine $
    nothing ! $ nothing ! $ fjoin ! $
    returns ! (look_at ! 0 refl) $ free_all ! refl $ keep ! (2 ∷ 0 ∷ 1 ∷ 3 ∷ []) $
    by ! (leaves 𝓛 End stays c z r b ((tt, (tt, tt)), tt) (tt, tt)))))))))
