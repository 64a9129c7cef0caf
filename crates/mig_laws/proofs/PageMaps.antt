-- A function applied to each value of a map of pages: what the map is asked and how it is changed before or after is the same.
use Rattle.std.proofs.Common.{◌≡◌, ℕ, ◌+◌, ◌-◌, Bool, true, false, cond, ltb, Option, Some, None, is_some, unwrap_or, List, [], ◌∷◌, map, refl, sym, ap, ◌∙◌}
use Rattle.std.specs.Option.{option_map}
use Rattle.std.specs.Ordering.{nat_cmp, eq_by_cmp}
use Rattle.std.specs.declared.cmp.Ordering.TheVariants.{Equal}
use Rattle.std.specs.Cmp.{nat_cmp_total}
use Rattle.std.specs.FinMap.{FinMap, find, entries, get, insert, empty, contains_key, retain_keys, get-empty, get-entries, get-from_entries, get-insert, get-retain_keys, nat_cmp-IsAntisymmetric}
use Rattle.foundation.specs.Ranges.{in_range}
use Rattle.mig_base.specs.Pages.{remove_range, moved_range}
use Rattle.mig_base.proofs.PageLemmas.{same_pages, get-remove_range, get-moved_range}
use Rattle.mig_model.specs.Ioctls.{put_pages}
use Rattle.mig_model.proofs.memory.IoctlLemmas.{get-put_pages}
use Rattle.mig_laws.specs.Contents.{map_values}

abbrev PageMap : Type 0 → Type 0
PageMap X = FinMap nat_cmp X

-- Options

map-cond : {X : Type 0} (g : X → X) (b : Bool) (o other : Option X) → option_map g (cond b o other) ≡ cond b (option_map g o) (option_map g other)
map-cond g true o other = refl
map-cond g false o other = refl

pub is_some-map : {X : Type 0} (g : X → X) (o : Option X) → is_some (option_map g o) ≡ is_some o
is_some-map g None = refl
is_some-map g (Some x) = refl

pub unwrap_or-map : {X : Type 0} (g : X → X) (o : Option X) (x y : X) → g x ≡ y → unwrap_or (option_map g o) y ≡ g (unwrap_or o x)
unwrap_or-map g None x y h = sym h
unwrap_or-map g (Some z) x y h = refl

-- Look-ups

find-map : {X : Type 0} (g : X → X) (q : ℕ) (es : List (ℕ × X)) → find nat_cmp q (map (λ (e : ℕ × X). (e.0, g e.1)) es) ≡ option_map g (find nat_cmp q es)
find-map g q [] = refl
find-map g q (e ∷ es) = ap (λ o. cond (eq_by_cmp nat_cmp q e.0) (Some (g e.1)) o) (find-map g q es) ∙ sym (map-cond g (eq_by_cmp nat_cmp q e.0) (Some e.1) (find nat_cmp q es))

pub get-map_values : {X : Type 0} (g : X → X) (m : PageMap X) (q : ℕ) → get (map_values g m) q ≡ option_map g (get m q)
unfolding map_values
get-map_values g m q = get-from_entries nat_cmp_total (map (λ e. (e.0, g e.1)) (entries m)) q ∙ find-map g q (entries m) ∙ ap (option_map g) (sym (get-entries m q))

pub contains_key-map_values : {X : Type 0} (g : X → X) (m : PageMap X) (q : ℕ) → contains_key (map_values g m) q ≡ contains_key m q
contains_key-map_values g m q = ap is_some (get-map_values g m q) ∙ is_some-map g (get m q)

-- Changes

-- a map that answers by a choice of the old one is changed alike
chosen : {X : Type 0} (g : X → X) (m new : PageMap X) (q : ℕ) (b : Bool) (o : Option X) → get new q ≡ cond b o (get m q) → get (map_values g new) q ≡ cond b (option_map g o) (get (map_values g m) q)
chosen g m new q b o h =
    get-map_values g new q ∙ ap (option_map g) h ∙ map-cond g b o (get m q) ∙ ap (λ x. cond b (option_map g o) x) (sym (get-map_values g m q))

pub map_values-empty : {X : Type 0} (g : X → X) → map_values g empty ≡ empty
map_values-empty g = same_pages _ _ (λ q. get-map_values g empty q ∙ ap (option_map g) (get-empty nat_cmp q) ∙ sym (get-empty nat_cmp q))

pub map_values-insert : {X : Type 0} (g : X → X) (m : PageMap X) (page : ℕ) (x : X) → map_values g (insert m page x) ≡ insert (map_values g m) page (g x)
map_values-insert g m page x =
    same_pages _ _ (λ q. chosen g m (insert m page x) q (eq_by_cmp nat_cmp q page) (Some x) (get-insert nat_cmp_total m page x q) ∙ sym (get-insert nat_cmp_total (map_values g m) page (g x) q))

alike : (test : ℕ → Bool) (q x : ℕ) → nat_cmp q x ≡ Equal → test x ≡ test q
alike test q x e = ap test (sym (nat_cmp-IsAntisymmetric q x e))

pub map_values-retain_keys : {X : Type 0} (g : X → X) (m : PageMap X) (test : ℕ → Bool) → map_values g (retain_keys m test) ≡ retain_keys (map_values g m) test
map_values-retain_keys g m test =
    same_pages _ _ (λ q.
    get-map_values g (retain_keys m test) q
    ∙ ap (option_map g) (get-retain_keys m test q (λ x e. alike test q x e))
    ∙ map-cond g (test q) (get m q) None
    ∙ ap (λ o. cond (test q) o None) (sym (get-map_values g m q))
    ∙ sym (get-retain_keys (map_values g m) test q (λ x e. alike test q x e)))

pub map_values-remove_range : {X : Type 0} (g : X → X) (m : PageMap X) (first count : ℕ) → map_values g (remove_range m first count) ≡ remove_range (map_values g m) first count
map_values-remove_range g m first count =
    same_pages _ _ (λ q. chosen g m (remove_range m first count) q (in_range first count q) None (get-remove_range m first count q) ∙ sym (get-remove_range (map_values g m) first count q))

moved-cond : {X : Type 0} (g : X → X) (a b c : Bool) (x y : Option X) → option_map g (cond a (cond b x None) (cond c None y)) ≡ cond a (cond b (option_map g x) None) (cond c None (option_map g y))
moved-cond g true true c x y = refl
moved-cond g true false c x y = refl
moved-cond g false b true x y = refl
moved-cond g false b false x y = refl

pub map_values-moved_range : {X : Type 0} (g : X → X) (m : PageMap X) (from count to new_count : ℕ) → map_values g (moved_range m from count to new_count None) ≡ moved_range (map_values g m) from count to new_count None
map_values-moved_range g m from count to new_count =
    same_pages _ _ (λ q.
    get-map_values g (moved_range m from count to new_count None) q
    ∙ ap (option_map g) (get-moved_range m from count to new_count q None)
    ∙ moved-cond g (in_range to new_count q) (ltb (q - to) count) (in_range from count q) (get m (from + (q - to))) (get m q)
    ∙ ap (λ o. cond (in_range to new_count q) (cond (ltb (q - to) count) o None) (cond (in_range from count q) None (option_map g (get m q)))) (sym (get-map_values g m (from + (q - to))))
    ∙ ap (λ o. cond (in_range to new_count q) (cond (ltb (q - to) count) (get (map_values g m) (from + (q - to))) None) (cond (in_range from count q) None o)) (sym (get-map_values g m q))
    ∙ sym (get-moved_range (map_values g m) from count to new_count q None))

pub map_values-put_pages : (g : List ℕ → List ℕ) (m : PageMap (List ℕ)) (first count : ℕ) (bytes : ℕ → List ℕ) → map_values g (put_pages m first count bytes) ≡ put_pages (map_values g m) first count (λ i. g (bytes i))
map_values-put_pages g m first count bytes =
    same_pages _ _ (λ q.
    chosen g m (put_pages m first count bytes) q (in_range first count q) (Some (bytes (q - first))) (get-put_pages m first count q bytes)
    ∙ sym (get-put_pages (map_values g m) first count q (λ i. g (bytes i))))
