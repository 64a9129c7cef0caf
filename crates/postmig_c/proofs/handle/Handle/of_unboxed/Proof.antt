-- `of_unboxed`: what the pointer owns is what the handle owns at it.
use Rattle.std.proofs.Common.{◌≡◌, List, [], ◌∷◌, ◌++◌, refl, sym, ◌∙◌, ap, subst}
use mir.Val.{Val}
use mir.Raw.{raw as bare}
use base.Logic.{SProp, ent, emp, id⊢, fst∗, never}
use prog.Wp.{WpFn}
use types.Logic.{sem}
use types.Kit.{‵, raw, ◌⊛◌, ◌$◌, ◌∵◌, !, qed, by, move, keep, split, fsplit, fjoin, suffices, use0}
use types.Run.{stop, fld, of_opd, no_more, and_then, returns, enter}
use types.ByLocal.{alloc_all, pass_all, free_all, look_at, get, get_in, sets}
use types.Part.{agg, sub, whole}
use contract.Monad.{fact, fact_i}
use contract.Running.{tables}
use denote.Exit.{yes}
use denote.Memory.{lone}
use denote.RattleType.{RattleType, owns}
use denote.Signature.{types_at, plain}
use denote.RawPtr.{Ptr, block_ptr, null_ptr, in_a_block}
use denote.Steps.{nothing}
use denote.Triple.Entry.{alive}
use denote.Triple.Walked.{Stays, stay_dropped, walk_of, Goes-dropped}
use Rattle.core.proofs.atomic.Steps.{Ptr-Good}
use Rattle.std.specs.declared.option.Option.TheVariants.{Some}
use Rattle.std.specs.contracts.impls.GlobalAllocator.TheImpl.{ghosts}
use Rattle.std.proofs.alloc.Global.TheLaws as heap_laws
use Rattle.std.proofs.raw_atomic.Walks.{proved_at, leaves}
use Rattle.postmig_c.specs.Held.{boxed}
use Rattle.postmig_c.proofs.Words.{word, word_good, U, apart}
use Rattle.postmig_c.proofs.HandleWords.{Z, R, handle_together}
use Rattle.postmig_c.specs.contracts.handle.Handle.of_unboxed.{ended, clauses}
use Rattle.postmig_c.specs.contracts.handle.Handle.of_unboxed.Key.{name as #self}
use Rattle.postmig_c.proofs.handle.Handle.of_unboxed.Statement.{statement}
use Rattle.postmig_c.proofs.handle.Handle.of_unboxed.Code as code

pub of_unboxed_spec : {M : Type 1} → statement M
of_unboxed_spec 𝓤 𝓛 𝓜 𝓡 wired =
    let H = 𝓛.H in let 𝓣 = tables 𝓤 H 𝓜 𝓡 𝓡.env in let c = clauses 𝓛 𝓜.mem 𝓡.returns in let fn = code.function in
    let LZ = heap_laws.the_row_laws in let Us : RattleType = U R Z LZ ghosts in
    let stays : Stays ended.signature.params ended.kept = (stay_dropped (plain (λ _. Us)) yes, tt) in
    proved_at 𝓛 ended stays c 𝓜 𝓡 (Goes-dropped 𝓛 0 (plain (λ _. Us)) yes (λ κs x f. refl), tt) #self fn (code.unfolded 𝓤 H 𝓜 𝓡 wired) (λ z are.
    let κs = z.0.0 in let qs = z.0.1 in let u = z.0.3.0 in
    let Post : Val → SProp 𝓤 = (walk_of 𝓛 ended stays c).post z in let Run : List Val → SProp 𝓤 = λ ws. WpFn 𝓤 H 𝓣.C 𝓣.Λ fn ws Post in
    qed 𝓛 ((raw (alive 𝓛 ended.signature κs qs) ⊛ ‵ (owns (types_at ended.signature.params κs) z.0.3 z.0.4)) ∷ raw ((c κs z.0.3).requires z.1) ∷ []) ∵
    split ! $ move ! (1 ∷ []) $ fsplit ! $
    apart R Z LZ ghosts ! u z.0.4.0 (λ h is fits.
    -- nothing lies at null
    in_a_block ! u.at (λ p. boxed u.alloc p u.value) (fst∗ 𝓤 (never 𝓤) (sem 𝓛 (ghosts.dealloc_token u.alloc (bare (lone R.mir)) null_ptr))) (λ b o at.
    let p = block_ptr b o in let w : Val = word p h in let here : z.0.4.0 ≡ w ∷ [] = is ∙ ap (λ (q : Ptr). word q h ∷ []) at in
    suffices ! (Run (w ∷ [])) (subst (λ (us : List Val). ent 𝓤 (Run (w ∷ [])) (Run us)) (sym (λ i. here i ++ [])) (id⊢ 𝓤 (Run (w ∷ [])))) $
    enter ! 𝓣.C 𝓣.Λ fn (w ∷ []) Post $ alloc_all ! (λ l. pass_all ! refl (word_good Z p h fits, tt) $
    sets ! (of_opd ! (get_in ! (fld ! refl (stop !)) (sub ! 0 refl (whole !)))) refl (Ptr-Good p) $
    sets ! (of_opd ! (get_in ! (fld ! refl (stop !)) (sub ! 1 refl (whole !)))) refl fits $
    sets ! (of_opd ! (get ! refl)) refl (Ptr-Good p) $
    sets ! (agg ! (and_then ! (get ! refl) (and_then ! (get ! refl) (no_more !)))) refl (word_good Z p h fits) $
    handle_together ! p h u.alloc (Some u.value) $
    use0 𝓛 (raw (fact 𝓤 (Some u.value ≡ Some u.value))) (fact_i 𝓤 (Some u.value ≡ Some u.value) (emp 𝓤) refl) $ nothing ! $ nothing ! $ fjoin ! $
    returns ! (look_at ! 0 refl) $ free_all ! refl $ keep ! (4 ∷ 0 ∷ 2 ∷ 1 ∷ []) $
    by ! (leaves 𝓛 ended stays c z w (record { at = p; alloc = u.alloc; content = Some u.value }) (tt, tt) (tt, tt))))))
