-- A pointer and an allocator, as the machine keeps them: the two fields of an `Unboxed` and of a `Handle`.
use Rattle.std.proofs.Common.{◌≡◌, List, [], ◌∷◌, ◌++◌, refl, ◌∙◌}
use mathlib.Core.Bool.{Bool, true, false, ◌&&◌}
use lib.Dec.{T}
use seplogic.Ra.Ura.{Ura}
use mir.Syntax.{ty_ptr, impl, tnil, dnil}
use mir.Val.{Val, vstruct, vcons, vnil, of_list, has_ty, WT}
use types.Logic.{Logic}
use types.Kit.{Item, Goal, Seq, Step, step, ‵, ◌$◌, move, drop, fsplit, fjoin, fpick, fpack, feq_i, feq_l}
use denote.RattleType.{RattleType, Valss}
use denote.Builtin.{RawPtr}
use denote.RawPtr.{Ptr, ptr_val}
use denote.Steps.{nothing}
use denote.Param.{layout}
use denote.Param.Laws.{Laws}
use denote.Struct.Struct.{within}
use denote.Struct.Owning.{shape}
use Rattle.core.specs.declared.alloc.Allocator.{Ghosts}
use Rattle.core.proofs.alloc.Calls.{Al, handle_tells}
use Rattle.core.proofs.atomic.Steps.{Ptr-Good}
use Rattle.core.proofs.cell.Inside.{Good}
use Rattle.std_alloc.specs.Box.Ownership.{box_owns}
use Rattle.postmig_c.specs.contracts.unboxed.Unboxed as unboxed

-- the machine's struct of a pointer and an allocator's value
abbrev pub word : Ptr → Val → Val
word p h = vstruct (vcons (ptr_val p) (vcons h vnil))

fits_both : (x y : Bool) → T x → T y → T (x && (y && true))
fits_both true true x y = tt
fits_both true false x y = absurd y
fits_both false y x z = absurd x

-- it has the type of such a struct
pub word_good : (Z : RattleType) (p : Ptr) (h : Val) → Good (layout Z) h → T (has_ty ty_ptr (ptr_val p) && (has_ty (layout Z) h && true)) × WT (word p h)
word_good Z p h fits = let at = Ptr-Good p in (fits_both (has_ty ty_ptr (ptr_val p)) (has_ty (layout Z) h) at.0 fits.0, (at.1, (fits.1, tt)))

module _ (R Z : RattleType) (LZ : Laws Z) (g : Ghosts Z.Denot) where
  abbrev pub U : RattleType
  U = unboxed.the_row R Z g

  abbrev allocator : Al
  allocator = record { row = Z; laws = LZ; g = g; d = impl [] tnil dnil; drops = impl [] tnil dnil }

  module _ {M : Type 1} {𝓤 : Ura M} {𝓛 : Logic 𝓤} {K : Type 0} {Γ : List (Item 𝓤)} {G : Goal 𝓤 𝓛.H} where
    -- what an `Unboxed` owns: its value in memory with the right to free the block, and its allocator
    pub apart : K → (u : U.Denot) (vs : List Val)
        → ((h : Val) → vs ≡ word u.at h ∷ [] → Good (layout Z) h → Seq K 𝓛 (‵ (box_owns (g.dealloc_token u.alloc) R u.at u.value) ∷ ‵ (Z.own_val u.alloc (h ∷ [])) ∷ Γ) G)
        → Seq K 𝓛 (‵ (U.own_val u vs) ∷ Γ) G
    apart t u vs next =
        fsplit t $ fpick t (λ parts.
        fsplit t $ feq_l t (λ whole. fsplit t $ feq_l t (λ pointer. fsplit t $
        handle_tells allocator t u.alloc parts.1.0 (λ h handle fits.
        move t (1 ∷ []) $ drop t $ move t (1 ∷ []) $
        next h (whole ∙ (λ i. vstruct (of_list (pointer i ++ (handle i ++ []))) ∷ [])) fits))))

    -- the other way
    pub together : K → (p : Ptr) (h : Val) (a : Z.Denot) (x : R.Denot)
        → Step K 𝓛 (‵ (U.own_val (record { at = p; alloc = a; value = x }) (word p h ∷ [])) ∷ Γ) G (‵ (box_owns (g.dealloc_token a) R p x) ∷ ‵ (Z.own_val a (h ∷ [])) ∷ Γ) G
    together t p h a x = step (λ next.
        nothing t $ move t (2 ∷ 0 ∷ []) $ fjoin t $
        feq_i t (List Val) (ptr_val p ∷ []) (ptr_val p ∷ []) refl $ fjoin t $
        feq_i t (List Val) (word p h ∷ []) (word p h ∷ []) refl $ fjoin t $
        fpack t (Valss (RawPtr ∷ Z ∷ [])) (within (shape (unboxed.the_type R Z g)) (p, (a, tt)) (word p h ∷ [])) (ptr_val p ∷ [], (h ∷ [], tt)) $ fjoin t $ next)
