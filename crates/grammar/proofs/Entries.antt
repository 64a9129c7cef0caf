-- What is read of a transcript line has its form, and what has a form is read.
use Rattle.std.proofs.Common.{◌≡◌, ℕ, zero, suc, ◌<◌, Bool, true, false, cond, List, [], ◌∷◌, ◌++◌, length, take, drop, get_or, Option, Some, None, refl, sym, ap, subst, ◌∙◌, arith}
use Rattle.std.specs.Prelude.{IfSome, IfNone}
use Rattle.mig_base.specs.declared.command.Errno.{Errno}
use Rattle.mig_base.specs.declared.command.Errno.TheVariants.{Eperm, Enoent, Eagain, Enomem, Efault, Eexist, Einval}
use Rattle.mig_base.specs.declared.command.Command.{Command}
use Rattle.mig_base.specs.declared.command.Command.TheVariants.{Load, Store, Mmap, Munmap, Mremap, DontNeed}
use Rattle.mig_base.specs.declared.Prot.{Prot}
use Rattle.mig_base.specs.declared.Prot.TheVariants.{NoAccess, Read, ReadWrite}
use Rattle.mig_base.specs.declared.command.Place.{Place}
use Rattle.mig_base.specs.declared.command.Place.TheVariants.{Anywhere, Fixed, NoReplace}
use Rattle.mig_base.specs.declared.command.Reply.{Reply}
use Rattle.mig_base.specs.declared.command.Reply.TheVariants.{Value, Done, At, Segv, BadAccess, Refused}
use Rattle.mig_base.specs.declared.command.Entry.{Entry}
use Rattle.grammar.specs.declared.keyword.Keyword.{Keyword}
use Rattle.grammar.specs.declared.keyword.Keyword.TheVariants as key
use Rattle.grammar.specs.declared.token.Token.{Token}
use Rattle.grammar.specs.declared.token.Token.TheVariants.{Key, Number}
use Rattle.grammar.specs.Words.{AreTokens}
use Rattle.grammar.specs.Spelling.{prot_key, place_form, may_move_form, fixed_form, errno_key, reply_form, CommandForm, EntryForm, SpellsEntry}
use Rattle.grammar.specs.Parsing.{◌>>=◌, small, command_from, errno_from, reply_from, is_arrow, at_arrow, entry_from}
use Rattle.grammar.proofs.Tokens.{one_list}
use Rattle.grammar.proofs.Commands.{bind_some, just, some_is, none_some, small_is, small_again, command_found, command_again}

-- ---- replies

errno_found : (k : Keyword) (e : Errno) → errno_from k ≡ Some e → k ≡ errno_key e
unfolding errno_from
errno_found key.Eperm e h = ap errno_key (some_is Eperm e h)
errno_found key.Enoent e h = ap errno_key (some_is Enoent e h)
errno_found key.Eagain e h = ap errno_key (some_is Eagain e h)
errno_found key.Enomem e h = ap errno_key (some_is Enomem e h)
errno_found key.Efault e h = ap errno_key (some_is Efault e h)
errno_found key.Eexist e h = ap errno_key (some_is Eexist e h)
errno_found key.Einval e h = ap errno_key (some_is Einval e h)
errno_found _ e h = absurd cc

errno_again : (e : Errno) → errno_from (errno_key e) ≡ Some e
unfolding errno_from
errno_again Eperm = refl
errno_again Enoent = refl
errno_again Eagain = refl
errno_again Enomem = refl
errno_again Efault = refl
errno_again Eexist = refl
errno_again Einval = refl

reply_found : (ts : List Token) (r : Reply) → reply_from ts ≡ Some r → ts ≡ reply_form r
unfolding reply_from
reply_found (Key key.Value ∷ Number n ∷ []) r h = ap reply_form (some_is (Value n) r h)
reply_found (Key key.Done ∷ []) r h = ap reply_form (some_is Done r h)
reply_found (Key key.At ∷ Number addr ∷ []) r h = ap reply_form (some_is (At addr) r h)
reply_found (Key key.Segv ∷ Key key.Unmapped ∷ []) r h = ap reply_form (some_is (Segv false) r h)
reply_found (Key key.Segv ∷ Key key.Protected ∷ []) r h = ap reply_form (some_is (Segv true) r h)
reply_found (Key key.Bad ∷ Key key.Access ∷ []) r h = ap reply_form (some_is BadAccess r h)
reply_found (Key key.Refused ∷ Key errno ∷ []) r h =
    let e = bind_some (errno_from errno) (λ e. Some (Refused e)) r h in
    ap (λ (k : Keyword). Key key.Refused ∷ Key k ∷ []) (errno_found errno e.0 e.1) ∙ ap reply_form (some_is (Refused e.0) r e.2)
reply_found _ r h = absurd cc

reply_again : (r : Reply) → reply_from (reply_form r) ≡ Some r
unfolding reply_from
reply_again (Value n) = refl
reply_again Done = refl
reply_again (At addr) = refl
reply_again (Segv false) = refl
reply_again (Segv true) = refl
reply_again BadAccess = refl
reply_again (Refused errno) = rw (errno_again errno) refl

-- ---- the arrow

abbrev Parts : Type 0
Parts = List Token × List Token

-- no token is the arrow
abbrev pub HasNoArrow : List Token → Type 0
HasNoArrow [] = Unit {0}
HasNoArrow (t ∷ ts) = (is_arrow t ≡ false) × HasNoArrow ts

pub arrow_none : (ts : List Token) → HasNoArrow ts → at_arrow ts ≡ None
arrow_none [] h = refl
arrow_none (t ∷ ts) h = rw (h.0, arrow_none ts h.1) refl

the_arrow : (t : Token) → is_arrow t ≡ true → t ≡ Key key.Gives
the_arrow (Key key.Gives) e = refl
the_arrow _ e = cc

arrow_either : (t : Token) (ts : List Token) (b : Bool) (parts : Parts) → is_arrow t ≡ b → cond b (just ([], ts)) (at_arrow ts >>= λ parts. Some (t ∷ parts.0, parts.1)) ≡ Some parts
    → ((behind : Parts) → at_arrow ts ≡ Some behind → ts ≡ behind.0 ++ Key key.Gives ∷ behind.1) → t ∷ ts ≡ parts.0 ++ Key key.Gives ∷ parts.1
arrow_either t ts true parts is e found = ap (λ (x : Token). x ∷ ts) (the_arrow t is) ∙ ap (λ (p : Parts). p.0 ++ Key key.Gives ∷ p.1) (some_is ([], ts) parts e)
arrow_either t ts false parts is e found =
    let behind = bind_some (at_arrow ts) (λ parts. Some (t ∷ parts.0, parts.1)) parts e in
    ap (λ (xs : List Token). t ∷ xs) (found behind.0 behind.1) ∙ ap (λ (p : Parts). p.0 ++ Key key.Gives ∷ p.1) (some_is (t ∷ behind.0.0, behind.0.1) parts behind.2)

arrow_found : (ts : List Token) (parts : Parts) → at_arrow ts ≡ Some parts → ts ≡ parts.0 ++ Key key.Gives ∷ parts.1
arrow_found [] parts e = cc
arrow_found (t ∷ ts) parts e = arrow_either t ts (is_arrow t) parts refl e (arrow_found ts)

-- the first arrow stands at a place
pub arrow_split : (ts : List Token) (n : ℕ) (other : Token) → n < length ts → HasNoArrow (take n ts) → is_arrow (get_or ts n other) ≡ true → at_arrow ts ≡ Some (take n ts, drop (suc n) ts)
arrow_split [] n other lt h e = absurd (omega (arith, lt))
arrow_split (t ∷ ts) zero other lt h e = rw e refl
arrow_split (t ∷ ts) (suc n) other lt h e = rw (h.0, arrow_split ts n other (omega (arith, lt)) h.1 e) refl

pub arrow_more : (ts : List Token) (n : ℕ) (other : Token) → n < length ts → HasNoArrow (take n ts) → is_arrow (get_or ts n other) ≡ false → HasNoArrow (take (suc n) ts)
arrow_more [] n other lt h e = absurd (omega (arith, lt))
arrow_more (t ∷ ts) zero other lt h e = (e, tt)
arrow_more (t ∷ ts) (suc n) other lt h e = (h.0, arrow_more ts n other (omega (arith, lt)) h.1 e)

prot_arrow : (prot : Prot) → is_arrow (Key (prot_key prot)) ≡ false
prot_arrow NoAccess = refl
prot_arrow Read = refl
prot_arrow ReadWrite = refl

place_arrow : (place : Place) (rest : List Token) → at_arrow (place_form place ++ Key key.Gives ∷ rest) ≡ Some (place_form place, rest)
place_arrow Anywhere rest = refl
place_arrow (Fixed addr) rest = refl
place_arrow (NoReplace addr) rest = refl

target_arrow : (m : Bool) (f : Option ℕ) (rest : List Token) → at_arrow ((may_move_form m ++ fixed_form f) ++ Key key.Gives ∷ rest) ≡ Some (may_move_form m ++ fixed_form f, rest)
target_arrow false None rest = refl
target_arrow false (Some addr) rest = refl
target_arrow true None rest = refl
target_arrow true (Some addr) rest = refl

-- no command has an arrow
command_arrow : (c : Command) (ts rest : List Token) → CommandForm c ts → at_arrow (ts ++ Key key.Gives ∷ rest) ≡ Some (ts, rest)
command_arrow (Load addr width) ts rest h = rw h.1 refl
command_arrow (Store addr width value) ts rest h = rw h.1 refl
command_arrow (Mmap len prot place) ts rest h = rw h (rw (prot_arrow prot, place_arrow place rest) refl)
command_arrow (Munmap addr len) ts rest h = rw h refl
command_arrow (Mremap addr old_len new_len m f) ts rest h = rw h (rw (target_arrow m f rest) refl)
command_arrow (DontNeed addr len) ts rest h = rw h refl

-- ---- entries

abbrev entry : ℕ → Command → Reply → Entry
entry k c r = record { cpu = k; command = c; reply = r }

entry_shape : (cpu k : ℕ) (ts : List Token) (parts : Parts) (r : Reply) → cpu ≡ k → ts ≡ parts.0 ++ Key key.Gives ∷ parts.1 → parts.1 ≡ reply_form r
    → Number cpu ∷ ts ≡ Number k ∷ (parts.0 ++ Key key.Gives ∷ reply_form r)
entry_shape cpu k ts parts r same split reply = cc

entry_found : (ts : List Token) (e : Entry) → entry_from ts ≡ Some e → EntryForm e ts
unfolding entry_from
entry_found (Number cpu ∷ ts) e h =
    let k = bind_some (small cpu) (λ k. at_arrow ts >>= λ parts. command_from parts.0 >>= λ c. reply_from parts.1 >>= λ r. Some (entry k c r)) e h in
    let parts = bind_some (at_arrow ts) (λ parts. command_from parts.0 >>= λ c. reply_from parts.1 >>= λ r. Some (entry k.0 c r)) e k.2 in
    let c = bind_some (command_from parts.0.0) (λ c. reply_from parts.0.1 >>= λ r. Some (entry k.0 c r)) e parts.2 in
    let r = bind_some (reply_from parts.0.1) (λ r. Some (entry k.0 c.0 r)) e c.2 in
    let is = small_is cpu k.0 k.1 in
    subst (λ (x : Entry). EntryForm x (Number cpu ∷ ts)) {x = entry k.0 c.0 r.0} (some_is (entry k.0 c.0 r.0) e r.2) (
      omega (arith, is.0, is.1),
      parts.0.0,
      entry_shape cpu k.0 ts parts.0 r.0 is.1 (arrow_found ts parts.0 parts.1) (reply_found parts.0.1 r.0 r.1),
      command_found parts.0.0 c.0 c.1,
    )
entry_found _ e h = absurd cc

entry_again : (e : Entry) (ts : List Token) → EntryForm e ts → entry_from ts ≡ Some e
unfolding entry_from
entry_again e ts h = rw h.2 (rw (small_again e.cpu h.0, command_arrow e.command h.1 (reply_form e.reply) h.3, command_again e.command h.1 h.3, reply_again e.reply) refl)

-- ---- words

pub entry_words_found : (words : List (List ℕ)) (tokens : List Token) (r : Option Entry) → AreTokens tokens words → r ≡ entry_from tokens → IfSome r (λ entry. SpellsEntry words entry)
entry_words_found words tokens None are e = tt
entry_words_found words tokens (Some entry) are e = (tokens, are, entry_found tokens entry (sym e))

pub entry_words_none : (words : List (List ℕ)) (tokens : List Token) (r : Option Entry) → AreTokens tokens words → r ≡ entry_from tokens → IfNone r ((entry : Entry) → SpellsEntry words entry → ⊥)
entry_words_none words tokens None are e = λ entry h.
    let same : h.0 ≡ tokens = one_list h.0 tokens words h.1 are in
    none_some entry (e ∙ ap entry_from (sym same) ∙ entry_again entry h.0 h.2)
entry_words_none words tokens (Some entry) are e = tt

-- words spell one entry
pub one_entry : (words : List (List ℕ)) (d e : Entry) → SpellsEntry words d → SpellsEntry words e → d ≡ e
one_entry words d e p q = some_is d e (sym (entry_again d p.0 p.2) ∙ ap entry_from (one_list p.0 q.0 words p.1 q.1) ∙ entry_again e q.0 q.2)
