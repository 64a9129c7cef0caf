-- What is read of a command has its form, and what has a form is read.
use Rattle.std.proofs.Common.{◌≡◌, ℕ, ◌<◌, Bool, true, false, cond, ltb, List, [], ◌∷◌, ◌++◌, Option, Some, None, refl, ap, subst, ◌∙◌, arith, inl, inr}
use Rattle.std.specs.Prelude.{◌⊎◌}
use Rattle.std.proofs.lemmas.Bool.{lt-ltb}
use borrow.Author.Tests.{ltb-true}
use Rattle.mig_base.specs.declared.command.Command.{Command}
use Rattle.mig_base.specs.declared.command.Command.TheVariants.{Load, Store, Mmap, Munmap, Mremap, DontNeed}
use Rattle.mig_base.specs.declared.Prot.{Prot}
use Rattle.mig_base.specs.declared.Prot.TheVariants.{NoAccess, Read, ReadWrite}
use Rattle.mig_base.specs.declared.command.Place.{Place}
use Rattle.mig_base.specs.declared.command.Place.TheVariants.{Anywhere, Fixed, NoReplace}
use Rattle.grammar.specs.declared.keyword.Keyword.{Keyword}
use Rattle.grammar.specs.declared.keyword.Keyword.TheVariants as key
use Rattle.grammar.specs.declared.token.Token.{Token}
use Rattle.grammar.specs.declared.token.Token.TheVariants.{Key, Number}
use Rattle.grammar.specs.Spelling.{prot_key, place_form, may_move_form, fixed_form, CommandForm}
use Rattle.grammar.specs.Parsing.{◌>>=◌, below, small, prot_from, place_from, target_from, access_from, map_call_from, first_command, command_from}

pub bind_some : {A B : Type 0} (o : Option A) (f : A → Option B) (y : B) → (o >>= f) ≡ Some y → (x : A) × (o ≡ Some x) × (f x ≡ Some y)
bind_some (Some x) f y e = (x, refl, e)
bind_some None f y e = absurd cc

abbrev pub just : {A : Type 0} → A → Option A
just x = Some x

pub some_is : {A : Type 0} (x y : A) → just x ≡ just y → x ≡ y
some_is x y e = cc

pub none_some : {A : Type 0} (x : A) → None ≡ just x → ⊥
none_some x e = cc

pub chosen : (b : Bool) (n m : ℕ) → cond b (just n) None ≡ just m → (b ≡ true) × (n ≡ m)
chosen true n m e = (refl, cc)
chosen false n m e = absurd cc

pub below_is : (limit n m : ℕ) → below limit n ≡ Some m → (n < limit) × (n ≡ m)
below_is limit n m e = let c = chosen (ltb n limit) n m e in (ltb-true n limit c.0, c.1)

pub below_again : (limit n : ℕ) → n < limit → below limit n ≡ Some n
below_again limit n lt = rw (lt-ltb n limit lt) refl

pub small_is : (n m : ℕ) → small n ≡ Some m → (n < 256) × (n ≡ m)
small_is n m e = below_is 256 n m e

pub small_again : (n : ℕ) → n < 256 → small n ≡ Some n
small_again n lt = below_again 256 n lt

prot_found : (k : Keyword) (p : Prot) → prot_from k ≡ Some p → k ≡ prot_key p
unfolding prot_from
prot_found key.NoAccess p e = ap prot_key (some_is NoAccess p e)
prot_found key.Read p e = ap prot_key (some_is Read p e)
prot_found key.ReadWrite p e = ap prot_key (some_is ReadWrite p e)
prot_found _ p e = absurd cc

prot_again : (p : Prot) → prot_from (prot_key p) ≡ Some p
unfolding prot_from
prot_again NoAccess = refl
prot_again Read = refl
prot_again ReadWrite = refl

place_found : (ts : List Token) (p : Place) → place_from ts ≡ Some p → ts ≡ place_form p
unfolding place_from
place_found [] p e = ap place_form (some_is Anywhere p e)
place_found (Key key.Fixed ∷ Number addr ∷ []) p e = ap place_form (some_is (Fixed addr) p e)
place_found (Key key.NoReplace ∷ Number addr ∷ []) p e = ap place_form (some_is (NoReplace addr) p e)
place_found _ p e = absurd cc

place_again : (p : Place) → place_from (place_form p) ≡ Some p
unfolding place_from
place_again Anywhere = refl
place_again (Fixed addr) = refl
place_again (NoReplace addr) = refl

abbrev Target : Type 0
Target = Bool × Option ℕ

abbrev target_form : Target → List Token
target_form t = may_move_form t.0 ++ fixed_form t.1

target_found : (ts : List Token) (t : Target) → target_from ts ≡ Some t → ts ≡ target_form t
unfolding target_from
target_found [] t e = ap target_form (some_is (false, None) t e)
target_found (Key key.MayMove ∷ []) t e = ap target_form (some_is (true, None) t e)
target_found (Key key.Fixed ∷ Number addr ∷ []) t e = ap target_form (some_is (false, Some addr) t e)
target_found (Key key.MayMove ∷ Key key.Fixed ∷ Number addr ∷ []) t e = ap target_form (some_is (true, Some addr) t e)
target_found _ t e = absurd cc

target_again : (m : Bool) (f : Option ℕ) → target_from (may_move_form m ++ fixed_form f) ≡ Some (m, f)
unfolding target_from
target_again false None = refl
target_again false (Some addr) = refl
target_again true None = refl
target_again true (Some addr) = refl

access_found : (ts : List Token) (c : Command) → access_from ts ≡ Some c → CommandForm c ts
unfolding access_from
access_found (Key key.Load ∷ Number addr ∷ Number width ∷ []) c e =
    let w = bind_some (small width) (λ w. Some (Load addr w)) c e in
    let s = small_is width w.0 w.1 in
    subst (λ (x : Command). CommandForm x (Key key.Load ∷ Number addr ∷ Number width ∷ [])) (some_is (Load addr w.0) c w.2)
    (omega (arith, s.0, s.1), ap (λ (k : ℕ). Key key.Load ∷ Number addr ∷ Number k ∷ []) s.1)
access_found (Key key.Store ∷ Number addr ∷ Number width ∷ Number value ∷ []) c e =
    let w = bind_some (small width) (λ w. Some (Store addr w value)) c e in
    let s = small_is width w.0 w.1 in
    subst (λ (x : Command). CommandForm x (Key key.Store ∷ Number addr ∷ Number width ∷ Number value ∷ [])) (some_is (Store addr w.0 value) c w.2)
    (omega (arith, s.0, s.1), ap (λ (k : ℕ). Key key.Store ∷ Number addr ∷ Number k ∷ Number value ∷ []) s.1)
access_found _ c e = absurd cc

map_call_found : (ts : List Token) (c : Command) → map_call_from ts ≡ Some c → CommandForm c ts
unfolding map_call_from
map_call_found (Key key.Mmap ∷ Number len ∷ Key prot ∷ place) c e =
    let p = bind_some (prot_from prot) (λ p. place_from place >>= λ q. Some (Mmap len p q)) c e in
    let q = bind_some (place_from place) (λ q. Some (Mmap len p.0 q)) c p.2 in
    subst (λ (x : Command). CommandForm x (Key key.Mmap ∷ Number len ∷ Key prot ∷ place)) (some_is (Mmap len p.0 q.0) c q.2)
    (ap (λ (x : Keyword). Key key.Mmap ∷ Number len ∷ Key x ∷ place) (prot_found prot p.0 p.1)
    ∙ ap (λ (x : List Token). Key key.Mmap ∷ Number len ∷ Key (prot_key p.0) ∷ x) (place_found place q.0 q.1))
map_call_found (Key key.Munmap ∷ Number addr ∷ Number len ∷ []) c e =
    subst (λ (x : Command). CommandForm x (Key key.Munmap ∷ Number addr ∷ Number len ∷ [])) (some_is (Munmap addr len) c e) refl
map_call_found (Key key.Mremap ∷ Number addr ∷ Number old_len ∷ Number new_len ∷ target) c e =
    let t = bind_some (target_from target) (λ t. Some (Mremap addr old_len new_len t.0 t.1)) c e in
    subst (λ (x : Command). CommandForm x (Key key.Mremap ∷ Number addr ∷ Number old_len ∷ Number new_len ∷ target)) (some_is (Mremap addr old_len new_len t.0.0 t.0.1) c t.2)
    (ap (λ (x : List Token). Key key.Mremap ∷ Number addr ∷ Number old_len ∷ Number new_len ∷ x) (target_found target t.0 t.1))
map_call_found (Key key.DontNeed ∷ Number addr ∷ Number len ∷ []) c e =
    subst (λ (x : Command). CommandForm x (Key key.DontNeed ∷ Number addr ∷ Number len ∷ [])) (some_is (DontNeed addr len) c e) refl
map_call_found _ c e = absurd cc

first_found : (a b : Option Command) (c : Command) (T : Type 0) → first_command a b ≡ Some c → (a ≡ Some c → T) → (b ≡ Some c → T) → T
first_found (Some x) b c T e f g = f e
first_found None b c T e f g = g e

pub command_found : (ts : List Token) (c : Command) → command_from ts ≡ Some c → CommandForm c ts
command_found ts c e = first_found (access_from ts) (map_call_from ts) c (CommandForm c ts) e (access_found ts c) (map_call_found ts c)

by_access : (a b : Option Command) (c : Command) → a ≡ Some c → first_command a b ≡ Some c
by_access a b c e = rw e refl

by_map_call : (a b : Option Command) (c : Command) → a ≡ None → b ≡ Some c → first_command a b ≡ Some c
by_map_call a b c none e = rw none e

load_again : (addr width : ℕ) (ts : List Token) → CommandForm (Load addr width) ts → access_from ts ≡ Some (Load addr width)
unfolding access_from
load_again addr width ts h = rw h.1 (rw (small_again width h.0) refl)

store_again : (addr width value : ℕ) (ts : List Token) → CommandForm (Store addr width value) ts → access_from ts ≡ Some (Store addr width value)
unfolding access_from
store_again addr width value ts h = rw h.1 (rw (small_again width h.0) refl)

mmap_again : (len : ℕ) (prot : Prot) (place : Place) (ts : List Token) → ts ≡ Key key.Mmap ∷ Number len ∷ Key (prot_key prot) ∷ place_form place → map_call_from ts ≡ Some (Mmap len prot place)
unfolding map_call_from
mmap_again len prot place ts h = rw h (rw (prot_again prot, place_again place) refl)

mremap_again : (addr old_len new_len : ℕ) (m : Bool) (f : Option ℕ) (ts : List Token) → CommandForm (Mremap addr old_len new_len m f) ts → map_call_from ts ≡ Some (Mremap addr old_len new_len m f)
unfolding map_call_from
mremap_again addr old_len new_len m f ts h = rw h (rw (target_again m f) refl)

munmap_again : (addr len : ℕ) (ts : List Token) → CommandForm (Munmap addr len) ts → map_call_from ts ≡ Some (Munmap addr len)
unfolding map_call_from
munmap_again addr len ts h = rw h refl

dontneed_again : (addr len : ℕ) (ts : List Token) → CommandForm (DontNeed addr len) ts → map_call_from ts ≡ Some (DontNeed addr len)
unfolding map_call_from
dontneed_again addr len ts h = rw h refl

no_access : (k : Keyword) (more : List Token) → (k ≡ key.Mmap) ⊎ ((k ≡ key.Munmap) ⊎ ((k ≡ key.Mremap) ⊎ (k ≡ key.DontNeed))) → access_from (Key k ∷ more) ≡ None
unfolding access_from
no_access k more is = elim is [
  | inl e ↦ rw e refl
  | inr r ↦ elim r [
    | inl e ↦ rw e refl
    | inr s ↦ elim s [
      | inl e ↦ rw e refl
      | inr e ↦ rw e refl
    ]
  ]
]

pub command_again : (c : Command) (ts : List Token) → CommandForm c ts → command_from ts ≡ Some c
command_again (Load addr width) ts h = by_access (access_from ts) (map_call_from ts) (Load addr width) (load_again addr width ts h)
command_again (Store addr width value) ts h = by_access (access_from ts) (map_call_from ts) (Store addr width value) (store_again addr width value ts h)
command_again (Mmap len prot place) ts h = by_map_call (access_from ts) (map_call_from ts) (Mmap len prot place) (ap access_from h ∙ no_access key.Mmap _ (inl refl)) (mmap_again len prot place ts h)
command_again (Munmap addr len) ts h = by_map_call (access_from ts) (map_call_from ts) (Munmap addr len) (ap access_from h ∙ no_access key.Munmap _ (inr (inl refl))) (munmap_again addr len ts h)
command_again (Mremap addr old_len new_len m f) ts h =
    by_map_call (access_from ts) (map_call_from ts) (Mremap addr old_len new_len m f) (ap access_from h ∙ no_access key.Mremap _ (inr (inr (inl refl)))) (mremap_again addr old_len new_len m f ts h)
command_again (DontNeed addr len) ts h =
    by_map_call (access_from ts) (map_call_from ts) (DontNeed addr len) (ap access_from h ∙ no_access key.DontNeed _ (inr (inr (inr refl)))) (dontneed_again addr len ts h)
