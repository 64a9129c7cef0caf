-- `into_unboxed` tests the pointer: at null nothing is held, and elsewhere the box of the content.
use Rattle.std.proofs.Common.{◌≡◌, List, [], ◌∷◌, ◌++◌, refl, sym, ap, ◌∙◌, subst, lit<}
use mir.Val.{Val, vcons, vnil}
use base.Logic.{SProp, ent, emp, id⊢}
use prog.Wp.{WpFn}
use types.Kit.{‵, raw, ◌⊛◌, at_ret, ◌$◌, ◌∵◌, !, qed, by, move, keep, split, fsplit, fjoin, suffices, use0, use1}
use types.Run.{stop, fld, lit, of_opd, bin, no_more, and_then, first, branches, exec, returns, enter}
use types.ByLocal.{alloc_all, pass_all, free_all, look_at, get, get_in, sets, sets_last, env}
use types.Part.{agg, sub, whole}
use types.Match.{live}
use contract.Monad.{fact, fact_i}
use contract.Running.{tables}
use denote.Exit.{yes}
use denote.RattleType.{RattleType, owns}
use denote.Signature.{types_at, type_at, plain}
use denote.RawPtr.{Ptr, block_ptr, null_ptr, tests_null}
use denote.Steps.{nothing}
use denote.Param.{layout}
use denote.Triple.Entry.{alive}
use denote.Triple.Walked.{Stays, stay_dropped, walk_of, Goes-dropped}
use Rattle.std.specs.declared.option.Option.TheVariants.{None, Some}
use Rattle.core.proofs.alloc.Shapes.{after}
use Rattle.core.proofs.atomic.Steps.{Ptr-Good}
use Rattle.core.proofs.cell.Inside.{Good}
use Rattle.core.proofs.option.Made.{Some-of, none_of}
use Rattle.std_alloc.proofs.ResultValues.{and_tt}
use Rattle.std.specs.contracts.impls.GlobalAllocator.TheImpl.{ghosts}
use Rattle.std.proofs.alloc.Global.TheLaws as heap_laws
use Rattle.std.proofs.raw_atomic.Walks.{proved_at, leaves}
use Rattle.postmig_c.proofs.Words.{word, word_good, U, together}
use Rattle.postmig_c.proofs.HandleWords.{Z, R, H as Row, handle_apart, either}
use Rattle.postmig_c.specs.contracts.handle.Handle.into_unboxed.{ended, clauses}
use Rattle.postmig_c.specs.contracts.handle.Handle.into_unboxed.Key.{name as #self}
use Rattle.postmig_c.proofs.handle.Handle.into_unboxed.Statement.{statement}
use Rattle.postmig_c.proofs.handle.Handle.into_unboxed.Code as code

pub into_unboxed_spec : {M : Type 1} → statement M
into_unboxed_spec 𝓤 𝓛 𝓜 𝓡 wired =
    let H = 𝓛.H in let 𝓣 = tables 𝓤 H 𝓜 𝓡 𝓡.env in let c = clauses 𝓛 𝓜.mem 𝓡.returns in let fn = code.function in
    let LZ = heap_laws.the_row_laws in let Us : RattleType = U R Z LZ ghosts in
    let stays : Stays ended.signature.params ended.kept = (stay_dropped (plain (λ _. Row)) yes, tt) in
    proved_at 𝓛 ended stays c 𝓜 𝓡 (Goes-dropped 𝓛 0 (plain (λ _. Row)) yes (λ κs x f. refl), tt) #self fn (code.unfolded 𝓤 H 𝓜 𝓡 wired) (λ z are.
    let κs = z.0.0 in let qs = z.0.1 in let d = z.0.3.0 in
    let Post : Val → SProp 𝓤 = (walk_of 𝓛 ended stays c).post z in let Run : List Val → SProp 𝓤 = λ ws. WpFn 𝓤 H 𝓣.C 𝓣.Λ fn ws Post in
    let Out : RattleType = type_at ended.signature.result κs in
    qed 𝓛 ((raw (alive 𝓛 ended.signature κs qs) ⊛ ‵ (owns (types_at ended.signature.params κs) z.0.3 z.0.4)) ∷ raw ((c κs z.0.3).requires z.1) ∷ []) ∵
    split ! $ move ! (1 ∷ []) $ fsplit ! $
    handle_apart ! d z.0.4.0 (λ h is fits. either d.alloc ! d.at d.content
    -- at null
    (λ at none.
    let w : Val = word null_ptr h in let here : z.0.4.0 ≡ w ∷ [] = is ∙ ap (λ (q : Ptr). word q h ∷ []) at in
    suffices ! (Run (w ∷ [])) (subst (λ (us : List Val). ent 𝓤 (Run (w ∷ [])) (Run us)) (sym (λ i. here i ++ [])) (id⊢ 𝓤 (Run (w ∷ [])))) $
    enter ! 𝓣.C 𝓣.Λ fn (w ∷ []) Post $ alloc_all ! (λ l. pass_all ! refl (word_good Z null_ptr h fits, tt) $ let Locals = env fn.locals l in
    sets ! (of_opd ! (get_in ! (fld ! refl (stop !)) (sub ! 0 refl (whole !)))) refl (Ptr-Good null_ptr) $
    sets ! (of_opd ! (get_in ! (fld ! refl (stop !)) (sub ! 1 refl (whole !)))) refl fits $
    sets ! (bin ! (get ! refl) (lit ! tt) tt) refl (tt, tt) $
    first ! $ branches ! (get ! refl)
    (λ _. sets_last ! (agg ! (and_then ! (lit ! tt) (no_more !))) refl (tt, (record { fits = lit< tt }, tt)) $
    exec ! 𝓣.C 𝓣.Λ Locals (after 4 fn.body) (at_ret Locals Post) $
    sets ! (of_opd ! (get ! refl)) refl (tt, (record { fits = lit< tt }, tt)) $
    use0 𝓛 (‵ (Out.own_val None (live 0 vnil ∷ []))) (none_of 𝓛 Us) $
    use0 𝓛 (raw (fact 𝓤 (d.content ≡ None))) (fact_i 𝓤 (d.content ≡ None) (emp 𝓤) none) $ nothing ! $ nothing ! $ fjoin ! $
    returns ! (look_at ! 0 refl) $ free_all ! refl $ keep ! (5 ∷ 0 ∷ 2 ∷ 1 ∷ []) $
    by ! (leaves 𝓛 ended stays c z (live 0 vnil) None (tt, tt) (tt, tt)))
    (λ wrong. absurd wrong)))
    -- elsewhere
    (λ b o x at some test.
    let p = block_ptr b o in let w : Val = word p h in let here : z.0.4.0 ≡ w ∷ [] = is ∙ ap (λ (q : Ptr). word q h ∷ []) at in
    let good = word_good Z p h fits in let v : Val = live 1 (vcons w vnil) in let u : Us.Denot = record { at = p; alloc = d.alloc; value = x } in
    let v_good : Good (layout Out) v = (and_tt _ good.0, (record { fits = lit< tt }, (good.1, tt))) in
    suffices ! (Run (w ∷ [])) (subst (λ (us : List Val). ent 𝓤 (Run (w ∷ [])) (Run us)) (sym (λ i. here i ++ [])) (id⊢ 𝓤 (Run (w ∷ [])))) $
    enter ! 𝓣.C 𝓣.Λ fn (w ∷ []) Post $ alloc_all ! (λ l. pass_all ! refl (good, tt) $ let Locals = env fn.locals l in
    sets ! (of_opd ! (get_in ! (fld ! refl (stop !)) (sub ! 0 refl (whole !)))) refl (Ptr-Good p) $
    sets ! (of_opd ! (get_in ! (fld ! refl (stop !)) (sub ! 1 refl (whole !)))) refl fits $
    sets ! (bin ! (get ! refl) (lit ! tt) (tests_null p test)) refl (tt, tt) $
    first ! $ branches ! (get ! refl) (λ wrong. absurd wrong)
    (λ _. sets ! (of_opd ! (get ! refl)) refl (Ptr-Good p) $
    sets ! (agg ! (and_then ! (get ! refl) (and_then ! (get ! refl) (no_more !)))) refl good $
    sets_last ! (agg ! (and_then ! (lit ! tt) (and_then ! (get ! refl) (no_more !)))) refl v_good $
    exec ! 𝓣.C 𝓣.Λ Locals (after 4 fn.body) (at_ret Locals Post) $
    sets ! (of_opd ! (get ! refl)) refl v_good $
    together R Z LZ ghosts ! p h d.alloc x $
    use1 𝓛 (‵ (Out.own_val (Some u) (v ∷ []))) (Some-of 𝓛 Us u w) $
    use0 𝓛 (raw (fact 𝓤 (d.content ≡ Some x))) (fact_i 𝓤 (d.content ≡ Some x) (emp 𝓤) some) $ nothing ! $ nothing ! $ fjoin ! $
    returns ! (look_at ! 0 refl) $ free_all ! refl $ keep ! (4 ∷ 0 ∷ 2 ∷ 1 ∷ []) $
    by ! (leaves 𝓛 ended stays c z v (Some u) (tt, tt) (tt, tt)))))))
