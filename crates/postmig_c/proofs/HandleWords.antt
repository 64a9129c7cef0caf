-- The machine's words of a `Handle`, and what they own.
use Rattle.std.proofs.Common.{◌≡◌, ℕ, List, [], ◌∷◌, ◌++◌, refl, ◌∙◌}
use seplogic.Ra.Ura.{Ura}
use mir.Syntax.{impl, tnil, dnil}
use mir.Raw.{raw as bare}
use mir.Val.{Val, vstruct, of_list}
use base.Logic.{ent, via, guard, guard_i, snd∗, never_e}
use base.Fml.{ftrue}
use base.Fraction.{full_share}
use types.Logic.{Logic, sem}
use contract.Monad.{fact_use}
use types.Kit.{Item, Goal, Seq, Step, step, ‵, given, ◌$◌, move, drop, fsplit, fjoin, fpick, fpack, feq_i, feq_l, use1, learn}
use denote.RattleType.{RattleType, Valss}
use denote.Memory.{lone}
use denote.RawPtr.{Ptr, block_ptr, null_ptr, ptr_val, lies_at, Testable}
use denote.Steps.{nothing}
use denote.Param.{layout}
use denote.Struct.Struct.{within}
use denote.Struct.Owning.{fields, shape, to}
use Rattle.core.proofs.alloc.Calls.{Al, handle_tells}
use Rattle.core.proofs.cell.Inside.{Good}
use Rattle.std.specs.contracts.alloc.Global as heap
use Rattle.std.proofs.alloc.Global.TheLaws as heap_laws
use Rattle.std.specs.declared.alloc.Global.{Global}
use Rattle.std.specs.declared.option.Option.{Option}
use Rattle.std.specs.declared.option.Option.TheVariants.{None, Some}
use Rattle.std.specs.contracts.impls.GlobalAllocator.TheImpl.{ghosts}
use Rattle.std.proofs.GlobalToken.{dealloc_token-Testable}
use Rattle.postmig_c.specs.declared.handle.Content.{Content}
use Rattle.postmig_c.specs.contracts.handle.Content as content
use Rattle.postmig_c.specs.contracts.handle.Handle as handle
use Rattle.postmig_c.specs.Held.{held, boxed}
use Rattle.postmig_c.proofs.Words.{word}

abbrev pub Z : RattleType
Z = heap.the_row

abbrev pub R : RattleType
R = content.the_row

abbrev pub H : RattleType
H = handle.the_row

abbrev allocator : Al
allocator = record { row = Z; laws = heap_laws.the_row_laws; g = ghosts; d = impl [] tnil dnil; drops = impl [] tnil dnil }

-- what a handle owns: what is held at its pointer, and its allocator
module _ {M : Type 1} {𝓤 : Ura M} {𝓛 : Logic 𝓤} {K : Type 0} {Γ : List (Item 𝓤)} {G : Goal 𝓤 𝓛.H} where
  pub handle_apart : K → (d : H.Denot) (vs : List Val)
      → ((h : Val) → vs ≡ word d.at h ∷ [] → Good (layout Z) h → Seq K 𝓛 (‵ (held d.alloc d.at d.content) ∷ ‵ (Z.own_val d.alloc (h ∷ [])) ∷ Γ) G)
      → Seq K 𝓛 (‵ (H.own_val d vs) ∷ Γ) G
  handle_apart t d vs next =
      fsplit t $ fpick t (λ parts.
      fsplit t $ feq_l t (λ whole. fsplit t $ feq_l t (λ pointer. fsplit t $
      handle_tells allocator t d.alloc parts.1.0 (λ h bits fits.
      move t (1 ∷ []) $ drop t $ move t (1 ∷ []) $
      next h (whole ∙ (λ i. vstruct (of_list (pointer i ++ (bits i ++ []))) ∷ [])) fits))))

  -- the other way
  pub handle_together : K → (p : Ptr) (h : Val) (a : Global) (x : Option Content)
      → Step K 𝓛 (‵ (H.own_val (record { at = p; alloc = a; content = x }) (word p h ∷ [])) ∷ Γ) G (‵ (held a p x) ∷ ‵ (Z.own_val a (h ∷ [])) ∷ Γ) G
  handle_together t p h a x = step (λ next.
      nothing t $ move t (2 ∷ 0 ∷ []) $ fjoin t $
      feq_i t (List Val) (ptr_val p ∷ []) (ptr_val p ∷ []) refl $ fjoin t $
      feq_i t (List Val) (word p h ∷ []) (word p h ∷ []) refl $ fjoin t $
      fpack t (Valss (fields handle.the_type)) (within (shape handle.the_type) (to handle.the_type (record { at = p; alloc = a; content = x })) (word p h ∷ [])) (ptr_val p ∷ [], (h ∷ [], tt)) $ fjoin t $ next)

-- the pointer of a box may be compared with null
module _ {M : Type 1} {𝓤 : Ura M} (𝓛 : Logic 𝓤) (a : Global) (p : Ptr) (x : Content) where
  testable : ent 𝓤 (sem 𝓛 (boxed a p x)) (guard 𝓤 (Testable p) (sem 𝓛 (boxed a p x)))
  testable =
      fact_use 𝓤 (Testable p) (via 𝓤 _ (snd∗ 𝓤 (sem 𝓛 (lies_at R full_share p x)) (sem 𝓛 (ghosts.dealloc_token a (bare (lone R.mir)) p))) (dealloc_token-Testable 𝓛 a (bare (lone R.mir)) p))
      (guard_i 𝓤 (Testable p) (sem 𝓛 (boxed a p x)))

-- either nothing is held at null, or a box elsewhere
module _ {M : Type 1} {𝓤 : Ura M} {𝓛 : Logic 𝓤} {K : Type 0} {Γ : List (Item 𝓤)} {G : Goal 𝓤 𝓛.H} (a : Global) where
  pub either : K → (p : Ptr) (v : Option Content)
      → (p ≡ null_ptr → v ≡ None → Seq K 𝓛 Γ G)
      → ((b o : ℕ) (x : Content) → p ≡ block_ptr b o → v ≡ Some x → Testable (block_ptr b o) → Seq K 𝓛 (‵ (boxed a (block_ptr b o) x) ∷ Γ) G)
      → Seq K 𝓛 (‵ (held a p v) ∷ Γ) G
  either t null_ptr None nothing_is one_is = drop t $ nothing_is refl refl
  either t null_ptr (Some x) nothing_is one_is = use1 𝓛 (given ⊥ (‵ ftrue)) (never_e 𝓤 _) $ learn t (λ wrong. absurd wrong)
  either t (block_ptr b o) None nothing_is one_is = use1 𝓛 (given ⊥ (‵ ftrue)) (never_e 𝓤 _) $ learn t (λ wrong. absurd wrong)
  either t (block_ptr b o) (Some x) nothing_is one_is =
      use1 𝓛 (given (Testable (block_ptr b o)) (‵ (boxed a (block_ptr b o) x))) (testable 𝓛 a (block_ptr b o) x) $ learn t (λ test. one_is b o x refl refl test)
