-- The words of orders and entries: their text is what is printed, and their tokens are those of the form.
use Rattle.std.proofs.Common.{◌≡◌, ℕ, ◌-◌, ◌*◌, ◌^◌, ◌<◌, ◌≤◌, Bool, true, false, cond, eqb, List, [], ◌∷◌, ◌++◌, length, Option, Some, None, refl, sym, ap, subst, ◌∙◌, append_assoc, append-nil, length-append, arith, inl, inr}
use Rattle.std.specs.Prelude.{codes}
use Rattle.std.specs.Fmt.{decimal}
use Rattle.std.specs.Str.Lines.{strip_carriage_return}
use Rattle.std.proofs.lemmas.Bool.{eqb-true}
use Rattle.mig_base.specs.Texts.{errno_name, hexadecimal, reply_text}
use Rattle.foundation.specs.declared.TheConstants.{PAGE_SIZE}
use Rattle.mig_base.specs.declared.Prot.{Prot}
use Rattle.mig_base.specs.declared.Prot.TheVariants.{NoAccess, Read, ReadWrite}
use Rattle.mig_base.specs.declared.command.Errno.{Errno}
use Rattle.mig_base.specs.declared.command.Errno.TheVariants.{Eperm}
use Rattle.mig_base.specs.declared.command.Place.{Place}
use Rattle.mig_base.specs.declared.command.Place.TheVariants.{Anywhere, Fixed, NoReplace}
use Rattle.mig_base.specs.declared.command.Command.{Command}
use Rattle.mig_base.specs.declared.command.Command.TheVariants.{Load, Store, Mmap, Munmap, Mremap, DontNeed}
use Rattle.mig_base.specs.declared.command.Reply.{Reply}
use Rattle.mig_base.specs.declared.command.Reply.TheVariants.{Value, Done, At, Segv, BadAccess, Refused}
use Rattle.mig_base.specs.declared.command.Entry.{Entry}
use Rattle.mig_base.specs.declared.schedule.Step.{Step}
use Rattle.mig_base.specs.declared.schedule.Step.TheVariants as step
use Rattle.mig_base.specs.declared.schedule.Side.TheVariants as side
use Rattle.grammar.specs.declared.keyword.Keyword.{Keyword}
use Rattle.grammar.specs.declared.keyword.Keyword.TheVariants as key
use Rattle.grammar.specs.declared.line.Language.TheVariants.{Script, Transcript}
use Rattle.grammar.specs.declared.line.Line.TheVariants.{Do, Enter}
use Rattle.grammar.specs.declared.order.ForwardWire.{ForwardWire}
use Rattle.grammar.specs.declared.order.ForwardWire.TheVariants.{Main, Urgent}
use Rattle.grammar.specs.declared.order.Order.{Order}
use Rattle.grammar.specs.declared.order.Order.TheVariants.{Make, Push, Progress}
use Rattle.grammar.specs.declared.token.Token.{Token}
use Rattle.grammar.specs.declared.token.Token.TheVariants.{Key, Number}
use Rattle.grammar.specs.Fits.{FitsWord, PlaceFits, TargetFits, CommandFits, StepFits, OrderFits, ReplyFits, EntryFits}
use Rattle.grammar.specs.Lines.{IsLine}
use Rattle.grammar.specs.Orders.{HasStep, order_of}
use Rattle.grammar.specs.Spelling.{prot_key, place_form, may_move_form, fixed_form, CommandForm, BytesForm, MovesForm, side_key, StepForm, push_key, epoch_form, FitsEpoch, OrderForm, errno_key, reply_form, EntryForm, HasSpelling}
use Rattle.grammar.specs.Texts.{prot_text, place_text, may_move_text, target_text, command_text, bytes_text, push_text, step_text, order_text, entry_text}
use Rattle.grammar.specs.Words.{AreTokens, keyword_text, words_of}
use Rattle.grammar.proofs.Written.{Word, Plain, Dec, Hex, tokens_of, AreSmall, spaced, tokens-append, small-append, spaced-append, AreWords, written_line}

-- ---- commands

abbrev place_words : Place → List Word
place_words Anywhere = []
place_words (Fixed addr) = Plain key.Fixed ∷ Hex addr ∷ []
place_words (NoReplace addr) = Plain key.NoReplace ∷ Hex addr ∷ []

abbrev may_move_words : Bool → List Word
may_move_words false = []
may_move_words true = Plain key.MayMove ∷ []

abbrev fixed_words : Option ℕ → List Word
fixed_words None = []
fixed_words (Some addr) = Plain key.Fixed ∷ Hex addr ∷ []

abbrev command_words : Command → List Word
command_words (Load addr width) = Plain key.Load ∷ Hex addr ∷ Dec width ∷ []
command_words (Store addr width value) = Plain key.Store ∷ Hex addr ∷ Dec width ∷ Hex value ∷ []
command_words (Mmap len prot place) = Plain key.Mmap ∷ Dec len ∷ Plain (prot_key prot) ∷ place_words place
command_words (Munmap addr len) = Plain key.Munmap ∷ Hex addr ∷ Dec len ∷ []
command_words (Mremap addr old_len new_len may_move fixed) = Plain key.Mremap ∷ Hex addr ∷ Dec old_len ∷ Dec new_len ∷ (may_move_words may_move ++ fixed_words fixed)
command_words (DontNeed addr len) = Plain key.DontNeed ∷ Hex addr ∷ Dec len ∷ []

prot_written : (prot : Prot) → prot_text prot ≡ keyword_text (prot_key prot)
prot_written NoAccess = refl
prot_written Read = refl
prot_written ReadWrite = refl

place_written : (place : Place) → place_text place ≡ spaced (place_words place)
place_written Anywhere = refl
place_written (Fixed addr) = simp append-nil
place_written (NoReplace addr) = simp append-nil

target_written : (m : Bool) (f : Option ℕ) → may_move_text m ++ target_text f ≡ spaced (may_move_words m ++ fixed_words f)
target_written false None = refl
target_written false (Some addr) = simp append-nil
target_written true None = refl
target_written true (Some addr) = simp append-nil

-- the words after mmap and mremap, before their spaces are counted
behind_mmap : (a p q : List ℕ) → a ++ codes " " ++ p ++ q ≡ a ++ (32 ∷ (p ++ q))
behind_mmap a p q = simp append_assoc

behind_mremap : (a b c p q : List ℕ) → a ++ codes " " ++ b ++ codes " " ++ c ++ p ++ q ≡ a ++ (32 ∷ (b ++ (32 ∷ (c ++ (p ++ q)))))
behind_mremap a b c p q = simp append_assoc

command_written : (c : Command) → 32 ∷ command_text c ≡ spaced (command_words c)
command_written (Load addr width) = simp (append_assoc, append-nil)
command_written (Store addr width value) = simp (append_assoc, append-nil)
command_written (Mmap len prot place) =
    ap (λ (t : List ℕ). 32 ∷ (codes "mmap " ++ t)) (behind_mmap (decimal len) (prot_text prot) (place_text place))
    ∙ ap (λ (t : List ℕ). 32 ∷ (codes "mmap " ++ (decimal len ++ (32 ∷ (t ++ place_text place))))) (prot_written prot)
    ∙ ap (λ (t : List ℕ). 32 ∷ (codes "mmap " ++ (decimal len ++ (32 ∷ (keyword_text (prot_key prot) ++ t))))) (place_written place)
command_written (Munmap addr len) = simp (append_assoc, append-nil)
command_written (Mremap addr old_len new_len m f) =
    ap (λ (t : List ℕ). 32 ∷ (codes "mremap " ++ t)) (behind_mremap (hexadecimal addr) (decimal old_len) (decimal new_len) (may_move_text m) (target_text f))
    ∙ ap (λ (t : List ℕ). 32 ∷ (codes "mremap " ++ (hexadecimal addr ++ (32 ∷ (decimal old_len ++ (32 ∷ (decimal new_len ++ t))))))) (target_written m f)
command_written (DontNeed addr len) = simp (append_assoc, append-nil)

byte_small : (n : ℕ) → n < 256 → n < 2 ^ 64
byte_small n lt = omega (arith, lt)

place_are : (place : Place) → PlaceFits place → AreWords (λ ts. ts ≡ place_form place) 2 (place_words place)
place_are Anywhere h = record { form = refl; small = tt; few = omega arith }
place_are (Fixed addr) h = record { form = refl; small = (tt, (h, tt)); few = omega arith }
place_are (NoReplace addr) h = record { form = refl; small = (tt, (h, tt)); few = omega arith }

target_are : (m : Bool) (f : Option ℕ) → TargetFits f → AreWords (λ ts. ts ≡ may_move_form m ++ fixed_form f) 3 (may_move_words m ++ fixed_words f)
target_are false None h = record { form = refl; small = tt; few = omega arith }
target_are false (Some addr) h = record { form = refl; small = (tt, (h, tt)); few = omega arith }
target_are true None h = record { form = refl; small = (tt, tt); few = omega arith }
target_are true (Some addr) h = record { form = refl; small = (tt, (tt, (h, tt))); few = omega arith }

command_are : (c : Command) → CommandFits c → AreWords (CommandForm c) 7 (command_words c)
command_are (Load addr width) h = record { form = (h.1, refl); small = (tt, (h.0, (byte_small width h.1, tt))); few = omega arith }
command_are (Store addr width value) h = record { form = (h.1, refl); small = (tt, (h.0, (byte_small width h.1, (h.2, tt)))); few = omega arith }
command_are (Mmap len prot place) h =
    let p = place_are place h.1 in
    record {
      form = ap (λ (ts : List Token). Key key.Mmap ∷ Number len ∷ Key (prot_key prot) ∷ ts) p.form;
      small = (tt, (h.0, (tt, p.small)));
      few = omega (arith, p.few);
    }
command_are (Munmap addr len) h = record { form = refl; small = (tt, (h.0, (h.1, tt))); few = omega arith }
command_are (Mremap addr old_len new_len m f) h =
    let t = target_are m f h.3 in
    record {
      form = ap (λ (ts : List Token). Key key.Mremap ∷ Number addr ∷ Number old_len ∷ Number new_len ∷ ts) t.form;
      small = (tt, (h.0, (h.1, (h.2, t.small))));
      few = omega (arith, t.few);
    }
command_are (DontNeed addr len) h = record { form = refl; small = (tt, (h.0, (h.1, tt))); few = omega arith }

-- ---- orders

abbrev greatest : ℕ
greatest = 2 ^ 64 - 1

-- by whether the number is the greatest
abbrev bytes_by : Bool → ℕ → List Word
bytes_by true n = []
bytes_by false n = Dec n ∷ []

abbrev moves_words : Keyword → ℕ → List Word
moves_words word n = Plain word ∷ bytes_by (eqb n greatest) n

abbrev epoch_words : Option ℕ → List Word
epoch_words None = []
epoch_words (Some epoch) = Dec epoch ∷ []

abbrev push_words : ForwardWire → ℕ → Option ℕ → List Word
push_words wire page epoch = Plain (push_key wire) ∷ Hex (PAGE_SIZE * page) ∷ epoch_words epoch

abbrev step_words : Step → List Word
step_words (step.Issue cpu command) = Plain key.Cpu ∷ Dec cpu ∷ command_words command
step_words (step.Retry cpu) = Plain key.Retry ∷ Dec cpu ∷ []
step_words step.Start = Plain key.Start ∷ []
step_words step.Round = Plain key.Round ∷ []
step_words step.Send = Plain key.Send ∷ []
step_words (step.SendRun count) = Plain key.SendRun ∷ Dec count ∷ []
step_words step.SourceRead = Plain key.SourceRead ∷ []
step_words step.SourceAct = Plain key.SourceAct ∷ []
step_words step.Switch = Plain key.Switch ∷ []
step_words (step.Deliver n) = moves_words key.Deliver n
step_words (step.DeliverBack n) = moves_words key.Back n
step_words step.DestRead = Plain key.DestRead ∷ []
step_words step.DestAct = Plain key.DestAct ∷ []
step_words step.Install = Plain key.Install ∷ []
step_words (step.Push pushed) = push_words Main pushed.page (Some pushed.epoch)
step_words (step.PushUrgent pushed) = push_words Urgent pushed.page (Some pushed.epoch)
step_words (step.DeliverUrgent n) = moves_words key.DeliverUrgent n
step_words step.Serve = Plain key.Serve ∷ []
step_words step.End = Plain key.End ∷ []
step_words step.Break = Plain key.Break ∷ []
step_words (step.Notice at) = Plain key.Notice ∷ Plain (side_key at) ∷ []
step_words step.Resume = Plain key.Resume ∷ []

abbrev order_words : Order → List Word
order_words (Make made) = step_words made
order_words (Push wire page epoch) = push_words wire page epoch
order_words Progress = Plain key.Progress ∷ []

bytes_written : (t : Bool) (n : ℕ) → cond t [] (codes " " ++ decimal n) ≡ spaced (bytes_by t n)
bytes_written true n = refl
bytes_written false n = simp append-nil

moves_written : (word : Keyword) (n : ℕ) → 32 ∷ (keyword_text word ++ bytes_text n) ≡ spaced (moves_words word n)
moves_written word n = ap (λ (t : List ℕ). 32 ∷ (keyword_text word ++ t)) (bytes_written (eqb n greatest) n)

push_written : (wire : ForwardWire) (page : ℕ) (epoch : Option ℕ) → 32 ∷ push_text wire page epoch ≡ spaced (push_words wire page epoch)
push_written Main page None = simp (append_assoc, append-nil)
push_written Main page (Some epoch) = simp (append_assoc, append-nil)
push_written Urgent page None = simp (append_assoc, append-nil)
push_written Urgent page (Some epoch) = simp (append_assoc, append-nil)

step_written : (s : Step) → 32 ∷ step_text s ≡ spaced (step_words s)
step_written (step.Issue cpu command) = simp append_assoc (ap (λ (t : List ℕ). 32 ∷ (keyword_text key.Cpu ++ (32 ∷ (decimal cpu ++ t)))) (command_written command))
step_written (step.Retry cpu) = simp append-nil
step_written (step.SendRun count) = simp append-nil
step_written (step.Deliver n) = moves_written key.Deliver n
step_written (step.DeliverBack n) = moves_written key.Back n
step_written (step.DeliverUrgent n) = moves_written key.DeliverUrgent n
step_written (step.Push pushed) = push_written Main pushed.page (Some pushed.epoch)
step_written (step.PushUrgent pushed) = push_written Urgent pushed.page (Some pushed.epoch)
step_written (step.Notice side.Source) = refl
step_written (step.Notice side.Destination) = refl
step_written _ = refl

order_written : (o : Order) → 32 ∷ order_text o ≡ spaced (order_words o)
order_written (Make made) = step_written made
order_written (Push wire page epoch) = push_written wire page epoch
order_written Progress = refl

bytes_are : (t : Bool) (n : ℕ) → eqb n greatest ≡ t → FitsWord n → AreWords (BytesForm n) 1 (bytes_by t n)
bytes_are true n e h = record { form = inr (refl, eqb-true n greatest e); small = tt; few = omega arith }
bytes_are false n e h = record { form = inl refl; small = (h, tt); few = omega arith }

moves_are : (word : Keyword) (n : ℕ) → FitsWord n → AreWords (MovesForm word n) 9 (moves_words word n)
moves_are word n h =
    let b = bytes_are (eqb n greatest) n refl h in
    record { form = (tokens_of (bytes_by (eqb n greatest) n), refl, b.form); small = (tt, b.small); few = omega (arith, b.few) }

epoch_small : (epoch : Option ℕ) → FitsEpoch epoch → AreSmall (epoch_words epoch) × (length (epoch_words epoch) ≤ 1) × (tokens_of (epoch_words epoch) ≡ epoch_form epoch)
epoch_small None h = (tt, omega arith, refl)
epoch_small (Some epoch) h = ((omega (arith, h), tt), omega arith, refl)

step_are : (s : Step) → StepFits s → AreWords (StepForm s) 9 (step_words s)
step_are (step.Issue cpu command) h =
    let c = command_are command h.1 in
    record { form = (h.0, tokens_of (command_words command), refl, c.form); small = (tt, (byte_small cpu h.0, c.small)); few = omega (arith, c.few) }
step_are (step.Retry cpu) h = record { form = (h, refl); small = (tt, (byte_small cpu h, tt)); few = omega arith }
step_are (step.SendRun count) h = record { form = (h.0, h.1, refl); small = (tt, (omega (arith, h.1), tt)); few = omega arith }
step_are (step.Deliver n) h = moves_are key.Deliver n h
step_are (step.DeliverBack n) h = moves_are key.Back n h
step_are (step.DeliverUrgent n) h = moves_are key.DeliverUrgent n h
step_are (step.Push pushed) h = absurd h
step_are (step.PushUrgent pushed) h = absurd h
step_are (step.Notice at) h = record { form = refl; small = (tt, (tt, tt)); few = omega arith }
step_are _ h = record { form = refl; small = (tt, tt); few = omega arith }

order_are : (o : Order) → OrderFits o → AreWords (OrderForm o) 9 (order_words o)
order_are (Make made) h = step_are made h
order_are (Push wire page epoch) h =
    let e = epoch_small epoch h.1 in
    record {
      form = (h.0, h.1, ap (λ (ts : List Token). Key (push_key wire) ∷ Number (PAGE_SIZE * page) ∷ ts) e.2);
      small = (tt, (omega (arith, h.0), e.0));
      few = omega (arith, e.1);
    }
order_are Progress h = record { form = refl; small = (tt, tt); few = omega arith }

pub order_line : (o : Order) → OrderFits o → IsLine Script (order_text o) (Do o)
order_line o fits =
    let w = order_are o fits in
    written_line Script (Do o) (order_text o) (order_words o) (order_written o) w.small (omega (arith, w.few)) (λ are. (tokens_of (order_words o), are, w.form))

-- ---- entries

abbrev reply_words : Reply → List Word
reply_words (Value n) = Plain key.Value ∷ Hex n ∷ []
reply_words Done = Plain key.Done ∷ []
reply_words (At addr) = Plain key.At ∷ Hex addr ∷ []
reply_words (Segv false) = Plain key.Segv ∷ Plain key.Unmapped ∷ []
reply_words (Segv true) = Plain key.Segv ∷ Plain key.Protected ∷ []
reply_words BadAccess = Plain key.Bad ∷ Plain key.Access ∷ []
reply_words (Refused errno) = Plain key.Refused ∷ Plain (errno_key errno) ∷ []

abbrev entry_words : Entry → List Word
entry_words entry = Dec entry.cpu ∷ (command_words entry.command ++ Plain key.Gives ∷ reply_words entry.reply)

errno_written : (e : Errno) → errno_name e ≡ keyword_text (errno_key e)
errno_written Eperm = refl
errno_written _ = refl

reply_written : (r : Reply) → 32 ∷ reply_text r ≡ spaced (reply_words r)
reply_written (Value n) = simp append-nil
reply_written Done = refl
reply_written (At addr) = simp append-nil
reply_written (Segv false) = refl
reply_written (Segv true) = refl
reply_written BadAccess = refl
reply_written (Refused errno) = simp (append-nil, errno_written)

entry_written : (e : Entry) → 32 ∷ entry_text e ≡ spaced (entry_words e)
entry_written e =
    let more = spaced-append (command_words e.command) (Plain key.Gives ∷ reply_words e.reply) in
    let behind = ap (λ (t : List ℕ). 32 ∷ 61 ∷ 62 ∷ t) (reply_written e.reply) in
    let all = ap (λ (t : List ℕ). t ++ (32 ∷ 61 ∷ 62 ∷ 32 ∷ reply_text e.reply)) (command_written e.command) in
    simp append_assoc (ap (λ (t : List ℕ). 32 ∷ (decimal e.cpu ++ t)) (all ∙ ap (λ (t : List ℕ). spaced (command_words e.command) ++ t) behind ∙ sym more))

reply_are : (r : Reply) → ReplyFits r → AreWords (λ ts. ts ≡ reply_form r) 2 (reply_words r)
reply_are (Value n) h = record { form = refl; small = (tt, (h, tt)); few = omega arith }
reply_are Done h = record { form = refl; small = (tt, tt); few = omega arith }
reply_are (At addr) h = record { form = refl; small = (tt, (h, tt)); few = omega arith }
reply_are (Segv false) h = record { form = refl; small = (tt, (tt, tt)); few = omega arith }
reply_are (Segv true) h = record { form = refl; small = (tt, (tt, tt)); few = omega arith }
reply_are BadAccess h = record { form = refl; small = (tt, (tt, tt)); few = omega arith }
reply_are (Refused errno) h = record { form = refl; small = (tt, (tt, tt)); few = omega arith }

entry_are : (e : Entry) → EntryFits e → AreWords (EntryForm e) 11 (entry_words e)
entry_are e h =
    let c = command_are e.command h.1 in
    let r = reply_are e.reply h.2 in
    let gives : List Word = Plain key.Gives ∷ reply_words e.reply in
    record {
      form = (
        h.0,
        tokens_of (command_words e.command),
        ap (λ (ts : List Token). Number e.cpu ∷ ts) (tokens-append (command_words e.command) gives
            ∙ ap (λ (ts : List Token). tokens_of (command_words e.command) ++ Key key.Gives ∷ ts) r.form),
        c.form,
      );
      small = (byte_small e.cpu h.0, small-append (command_words e.command) gives c.small (tt, r.small));
      few = omega (arith, c.few, r.few, length-append (command_words e.command) gives);
    }

pub entry_line_is : (e : Entry) → EntryFits e → IsLine Transcript (entry_text e) (Enter e)
entry_line_is e fits =
    let w = entry_are e fits in
    written_line Transcript (Enter e) (entry_text e) (entry_words e) (entry_written e) w.small (omega (arith, w.few)) (λ are. (tokens_of (entry_words e), are, w.form))

-- ---- what is spelled fits

-- each number has 64 bits
abbrev Numbers : List Token → Type 0
Numbers [] = Unit {0}
Numbers (Key keyword ∷ ts) = Numbers ts
Numbers (Number n ∷ ts) = (n < 2 ^ 64) × Numbers ts

numbers : (ts : List Token) (words : List (List ℕ)) → AreTokens ts words → Numbers ts
numbers [] words are = tt
numbers (t ∷ ts) [] are = absurd are
numbers (Key keyword ∷ ts) (w ∷ words) are = numbers ts words are.1
numbers (Number n ∷ ts) (w ∷ words) are = (are.0.0, numbers ts words are.1)

numbers-append : (xs ys : List Token) → Numbers (xs ++ ys) → Numbers xs × Numbers ys
numbers-append [] ys h = (tt, h)
numbers-append (Key keyword ∷ xs) ys h = numbers-append xs ys h
numbers-append (Number n ∷ xs) ys h = let rest = numbers-append xs ys h.1 in ((h.0, rest.0), rest.1)

place_fits : (place : Place) → Numbers (place_form place) → PlaceFits place
place_fits Anywhere h = tt
place_fits (Fixed addr) h = h.0
place_fits (NoReplace addr) h = h.0

target_fits : (m : Bool) (f : Option ℕ) → Numbers (may_move_form m ++ fixed_form f) → TargetFits f
target_fits m None h = tt
target_fits false (Some addr) h = h.0
target_fits true (Some addr) h = h.0

command_fits : (c : Command) (ts : List Token) → CommandForm c ts → Numbers ts → CommandFits c
command_fits (Load addr width) ts h small = let s = subst Numbers h.1 small in (s.0, h.0)
command_fits (Store addr width value) ts h small = let s = subst Numbers h.1 small in (s.0, h.0, s.1.1.0)
command_fits (Mmap len prot place) ts h small = let s = subst Numbers h small in (s.0, place_fits place s.1)
command_fits (Munmap addr len) ts h small = let s = subst Numbers h small in (s.0, s.1.0)
command_fits (Mremap addr old_len new_len m f) ts h small = let s = subst Numbers h small in (s.0, s.1.0, s.1.1.0, target_fits m f s.1.1.1)
command_fits (DontNeed addr len) ts h small = let s = subst Numbers h small in (s.0, s.1.0)

moves_fits : (word : Keyword) (n : ℕ) (ts : List Token) → MovesForm word n ts → Numbers ts → FitsWord n
moves_fits word n ts h small = elim h.2 [
  | inl e ↦ (subst Numbers e (subst Numbers h.1 small)).0
  | inr e ↦ omega (arith, e.1)
]

step_fits : (s : Step) (ts : List Token) → StepForm s ts → Numbers ts → StepFits s
step_fits (step.Issue cpu command) ts h small = (h.0, command_fits command h.1 h.3 (subst Numbers h.2 small).1)
step_fits (step.Retry cpu) ts h small = h.0
step_fits (step.SendRun count) ts h small = (h.0, h.1)
step_fits (step.Deliver n) ts h small = moves_fits key.Deliver n ts h small
step_fits (step.DeliverBack n) ts h small = moves_fits key.Back n ts h small
step_fits (step.DeliverUrgent n) ts h small = moves_fits key.DeliverUrgent n ts h small
step_fits (step.Push pushed) ts h small = h
step_fits (step.PushUrgent pushed) ts h small = h
step_fits _ ts h small = tt

form_fits : (o : Order) (ts : List Token) → OrderForm o ts → Numbers ts → OrderFits o
form_fits (Make made) ts h small = step_fits made ts h small
form_fits (Push wire page epoch) ts h small = (h.0, h.1)
form_fits Progress ts h small = tt

reply_fits : (r : Reply) → Numbers (reply_form r) → ReplyFits r
reply_fits (Value n) h = h.0
reply_fits (At addr) h = h.0
reply_fits _ h = tt

pub order_fits : (o : Order) → HasSpelling Script (Do o) → OrderFits o
order_fits o h = form_fits o h.1.0 h.1.2 (numbers h.1.0 (words_of h.0) h.1.1)

pub entry_fits : (e : Entry) → HasSpelling Transcript (Enter e) → EntryFits e
entry_fits e h =
    let form = h.1.2 in
    let small = subst Numbers form.2 (numbers h.1.0 (words_of h.0) h.1.1) in
    let parts = numbers-append form.1 (Key key.Gives ∷ reply_form e.reply) small.1 in
    (form.0, command_fits e.command form.1 form.3 parts.0, reply_fits e.reply parts.1)

-- ---- what is printed is a line

pub has_line : (o : Order) → OrderFits o → HasSpelling Script (Do o)
has_line o fits = (strip_carriage_return (order_text o), (order_line o fits).spells)

pub has_entry_line : (e : Entry) → EntryFits e → HasSpelling Transcript (Enter e)
has_entry_line e fits = (strip_carriage_return (entry_text e), (entry_line_is e fits).spells)

pub order_printed : (o : Order) → HasSpelling Script (Do o) → IsLine Script (order_text o) (Do o)
order_printed o h = order_line o (order_fits o h)

pub entry_printed : (e : Entry) → HasSpelling Transcript (Enter e) → IsLine Transcript (entry_text e) (Enter e)
entry_printed e h = entry_line_is e (entry_fits e h)

-- ---- the order of a step

pub has_step : (s : Step) → HasStep (order_of s) s
has_step (step.Push pushed) = λ epoch. refl
has_step (step.PushUrgent pushed) = λ epoch. refl
has_step _ = λ epoch. refl
