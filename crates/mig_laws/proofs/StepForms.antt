-- The forms of steps: a function applied to what a step gives passes through its tests.
use Rattle.std.proofs.Common.{◌≡◌, Bool, true, false, cond, not, ◌||◌, Option, Some, None, List, [], ◌∷◌, map, refl, ap, ◌∙◌}
use Rattle.std.specs.Prelude.{Result, Ok, Err, ok_or}
use Rattle.std.specs.Option.{option_map}
use Rattle.foundation.specs.Tests.{is_empty}
use Rattle.mig_base.specs.declared.refusal.Refusal.{Refusal}
use Rattle.mig_laws.specs.Nodes.{map_ok}
use Rattle.mig_model.specs.NodeSteps.{and_then, first_of, in_phase, is_out_of_phase, rest_of, unless, while_down, while_up}

refused : {A B : Type 0} (g : A → B) (b : Bool) (refusal : Refusal) (result : Result A Refusal) (new : Result B Refusal) → new ≡ map_ok g result → cond b (Err refusal) new ≡ map_ok g (cond b (Err refusal) result)
refused g true refusal result new h = refl
refused g false refusal result new h = h

pub unless-map : {A B : Type 0} (g : A → B) (reasons : List (Bool × Refusal)) (result : Result A Refusal) (new : Result B Refusal) → new ≡ map_ok g result → unless reasons new ≡ map_ok g (unless reasons result)
unfolding unless
unless-map g [] result new h = h
unless-map g (reason ∷ reasons) result new h = refused g reason.0 reason.1 (unless reasons result) (unless reasons new) (unless-map g reasons result new h)

pub in_phase-map : {A B : Type 0} (g : A → B) (allowed : Bool) (result : Result A Refusal) (new : Result B Refusal) → new ≡ map_ok g result → in_phase allowed new ≡ map_ok g (in_phase allowed result)
in_phase-map g true result new h = h
in_phase-map g false result new h = refl

by_link : {A B : Type 0} (g : A → B) (test : Bool) (other refusal : Refusal) → cond test (Err refusal) (Err other) ≡ map_ok g (cond test (Err refusal) (Err other))
by_link g true other refusal = refl
by_link g false other refusal = refl

while_up-ok : {A B : Type 0} (g : A → B) (up : Bool) (result : Result A Refusal) → while_up up (map_ok g result) ≡ map_ok g (while_up up result)
while_up-ok g true (Ok x) = refl
while_up-ok g false (Ok x) = refl
while_up-ok {A} {B} g up (Err refusal) = by_link g (is_out_of_phase {A = A} (Err refusal) || up) Refusal.Broken refusal

pub while_up-map : {A B : Type 0} (g : A → B) (up : Bool) (result : Result A Refusal) (new : Result B Refusal) → new ≡ map_ok g result → while_up up new ≡ map_ok g (while_up up result)
while_up-map g up result new h = ap (while_up up) h ∙ while_up-ok g up result

while_down-ok : {A B : Type 0} (g : A → B) (up : Bool) (result : Result A Refusal) → while_down up (map_ok g result) ≡ map_ok g (while_down up result)
while_down-ok g true (Ok x) = refl
while_down-ok g false (Ok x) = refl
while_down-ok {A} {B} g up (Err refusal) = by_link g (is_out_of_phase {A = A} (Err refusal) || not up) Refusal.NotBroken refusal

pub while_down-map : {A B : Type 0} (g : A → B) (up : Bool) (result : Result A Refusal) (new : Result B Refusal) → new ≡ map_ok g result → while_down up new ≡ map_ok g (while_down up result)
while_down-map g up result new h = ap (while_down up) h ∙ while_down-ok g up result

pub and_then-map : {A B C D : Type 0} (g : A → B) (k : C → D) (found : Result A Refusal) (new : Result B Refusal) (step : A → Result C Refusal) (other : B → Result D Refusal) → new ≡ map_ok g found →
    ((x : A) → other (g x) ≡ map_ok k (step x)) → and_then new other ≡ map_ok k (and_then found step)
and_then-map g k (Ok x) new step other h steps = ap (λ r. and_then r other) h ∙ steps x
and_then-map g k (Err refusal) new step other h steps = ap (λ r. and_then r other) h

pub and_then-same : {A C D : Type 0} (k : C → D) (found : Result A Refusal) (step : A → Result C Refusal) (other : A → Result D Refusal) → ((x : A) → other x ≡ map_ok k (step x)) → and_then found other ≡ map_ok k (and_then found step)
and_then-same k (Ok x) step other steps = steps x
and_then-same k (Err refusal) step other steps = refl

-- Lists

pub first_of-map : {A B : Type 0} (g : A → B) (xs : List A) → first_of (map g xs) ≡ option_map g (first_of xs)
first_of-map g [] = refl
first_of-map g (x ∷ xs) = refl

pub rest_of-map : {A B : Type 0} (g : A → B) (xs : List A) → rest_of (map g xs) ≡ map g (rest_of xs)
rest_of-map g [] = refl
rest_of-map g (x ∷ xs) = refl

pub is_empty-map : {A B : Type 0} (g : A → B) (xs : List A) → is_empty (map g xs) ≡ is_empty xs
is_empty-map g [] = refl
is_empty-map g (x ∷ xs) = refl

pub ok_or-map : {A B : Type 0} (g : A → B) (o : Option A) (refusal : Refusal) → ok_or (option_map g o) refusal ≡ map_ok g (ok_or o refusal)
ok_or-map g None refusal = refl
ok_or-map g (Some x) refusal = refl

-- two functions applied one after the other, in either order
pub map-twice : {A B C D : Type 0} (g : A → B) (h : B → D) (k : A → C) (l : C → D) → ((x : A) → h (g x) ≡ l (k x)) → (xs : List A) → map h (map g xs) ≡ map l (map k xs)
map-twice g h k l same [] = refl
map-twice g h k l same (x ∷ xs) = λ i. same x i ∷ map-twice g h k l same xs i
