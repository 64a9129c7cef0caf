-- What is read of a script line has its form, and what has a form is read: each line by one way.
use Rattle.std.proofs.Common.{◌≡◌, ℕ, ◌-◌, ◌*◌, ◌/◌, ◌%◌, ◌^◌, ◌<◌, ◌≤◌, ◌&&◌, not, Bool, true, false, cond, ltb, eqb, List, [], ◌∷◌, Option, Some, None, refl, sym, ap, subst, ◌∙◌, arith, inl, inr}
use Rattle.std.proofs.lemmas.Bool.{lt-ltb, eq-eqb}
use Rattle.std.proofs.lemmas.Bool.Decides.{nat_tests}
use Rattle.std.specs.Prelude.{IfSome, IfNone}
use Rattle.foundation.specs.declared.TheConstants.{PAGE_SIZE}
use Rattle.mig_base.specs.declared.TheConstants.{HIGH, HIGH_PAGE, MAX_RUN}
use Rattle.mig_base.specs.declared.schedule.Step.{Step}
use Rattle.mig_base.specs.declared.schedule.Step.TheVariants as step
use Rattle.mig_base.specs.declared.schedule.Side.TheVariants as side
use Rattle.grammar.specs.declared.keyword.Keyword.{Keyword}
use Rattle.grammar.specs.declared.keyword.Keyword.TheVariants as key
use Rattle.grammar.specs.declared.token.Token.{Token}
use Rattle.grammar.specs.declared.token.Token.TheVariants.{Key, Number}
use Rattle.grammar.specs.declared.order.ForwardWire.{ForwardWire}
use Rattle.grammar.specs.declared.order.ForwardWire.TheVariants.{Main, Urgent}
use Rattle.grammar.specs.declared.order.Order.{Order}
use Rattle.grammar.specs.declared.order.Order.TheVariants.{Make, Push, Progress}
use Rattle.grammar.specs.Words.{AreTokens}
use Rattle.grammar.specs.Spelling.{BytesForm, MovesForm, push_key, epoch_form, FitsEpoch, StepForm, OrderForm, SpellsOrder}
use Rattle.grammar.specs.Parsing.{◌>>=◌, below, small, page_from, epoch_from, bytes_from, count_from, issue_from, retry_from, run_from, notice_from, push_from, word_from, alone_from, order_with, order_from, command_from}
use Rattle.grammar.proofs.Tokens.{one_list}
use Rattle.grammar.proofs.Commands.{bind_some, just, some_is, none_some, chosen, below_is, below_again, small_is, small_again, command_found, command_again}

-- ---- numbers

page_is : (addr page : ℕ) → page_from addr ≡ Some page → (page < HIGH_PAGE) × (addr ≡ PAGE_SIZE * page)
page_is addr page e =
    let c = chosen (eqb (addr % PAGE_SIZE) 0 && ltb addr HIGH) (addr / PAGE_SIZE) page e in
    (grind (arith, nat_tests, c.0, c.1), grind (arith, nat_tests, c.0, c.1))

page_again : (page : ℕ) → page < HIGH_PAGE → page_from (PAGE_SIZE * page) ≡ Some page
page_again page lt =
    rw (eq-eqb (PAGE_SIZE * page % PAGE_SIZE) 0 (omega arith), lt-ltb (PAGE_SIZE * page) HIGH (omega arith)) (ap just (omega arith))

count_is : (n count : ℕ) → count_from n ≡ Some count → ((0 < count) × (count ≤ MAX_RUN)) × (n ≡ count)
count_is n count e =
    let k = bind_some (small n) (λ k. cond (ltb 0 k && not (ltb MAX_RUN k)) (just k) None) count e in
    let c = chosen (ltb 0 k.0 && not (ltb MAX_RUN k.0)) k.0 count k.2 in
    let s = small_is n k.0 k.1 in
    ((grind (arith, nat_tests, c.0, c.1), grind (arith, nat_tests, c.0, c.1)), s.1 ∙ c.1)

count_again : (count : ℕ) → 0 < count → count ≤ MAX_RUN → count_from count ≡ Some count
count_again count some few = grind (arith, nat_tests)

epoch_found : (ts : List Token) (epoch : Option ℕ) → epoch_from ts ≡ Some epoch → FitsEpoch epoch × (ts ≡ epoch_form epoch)
unfolding epoch_from
epoch_found [] epoch e = subst (λ (x : Option ℕ). FitsEpoch x × ([] ≡ epoch_form x)) (some_is None epoch e) (tt, refl)
epoch_found (Number n ∷ []) epoch e =
    let k = bind_some (below (2 ^ 32) n) (λ k. just (just k)) epoch e in
    let is = below_is (2 ^ 32) n k.0 k.1 in
    subst (λ (x : Option ℕ). FitsEpoch x × (Number n ∷ [] ≡ epoch_form x)) (some_is (just k.0) epoch k.2)
    (subst (λ (m : ℕ). m < 2 ^ 32) is.1 is.0, ap (λ (m : ℕ). Number m ∷ []) is.1)
epoch_found _ epoch e = absurd cc

epoch_again : (epoch : Option ℕ) → FitsEpoch epoch → epoch_from (epoch_form epoch) ≡ Some epoch
unfolding epoch_from
epoch_again None fits = refl
epoch_again (Some epoch) fits = rw (below_again (2 ^ 32) epoch fits) refl

bytes_found : (ts : List Token) (bytes : ℕ) → bytes_from ts ≡ Some bytes → BytesForm bytes ts
unfolding bytes_from
bytes_found [] bytes e = inr (refl, sym (some_is (2 ^ 64 - 1) bytes e))
bytes_found (Number n ∷ []) bytes e = inl (ap (λ (m : ℕ). Number m ∷ []) (some_is n bytes e))
bytes_found _ bytes e = absurd cc

bytes_again : (ts : List Token) (bytes : ℕ) → BytesForm bytes ts → bytes_from ts ≡ Some bytes
unfolding bytes_from
bytes_again ts bytes h = elim h [
  | inl e ↦ rw e refl
  | inr e ↦ rw (e.0, e.1) refl
]

-- ---- what stands after the first word

issue_found : (ts : List Token) (o : Order) → issue_from ts ≡ Some o → OrderForm o (Key key.Cpu ∷ ts)
unfolding issue_from
issue_found (Number cpu ∷ command) o e =
    let k = bind_some (small cpu) (λ k. command_from command >>= λ c. Some (Make (step.Issue k c))) o e in
    let c = bind_some (command_from command) (λ c. Some (Make (step.Issue k.0 c))) o k.2 in
    let is = small_is cpu k.0 k.1 in
    subst (λ (x : Order). OrderForm x (Key key.Cpu ∷ Number cpu ∷ command)) (some_is (Make (step.Issue k.0 c.0)) o c.2)
    (omega (arith, is.0, is.1), command, ap (λ (n : ℕ). Key key.Cpu ∷ Number n ∷ command) is.1, command_found command c.0 c.1)
issue_found _ o e = absurd cc

retry_found : (ts : List Token) (o : Order) → retry_from ts ≡ Some o → OrderForm o (Key key.Retry ∷ ts)
unfolding retry_from
retry_found (Number cpu ∷ []) o e =
    let k = bind_some (small cpu) (λ k. Some (Make (step.Retry k))) o e in
    let is = small_is cpu k.0 k.1 in
    subst (λ (x : Order). OrderForm x (Key key.Retry ∷ Number cpu ∷ [])) (some_is (Make (step.Retry k.0)) o k.2)
    (omega (arith, is.0, is.1), ap (λ (n : ℕ). Key key.Retry ∷ Number n ∷ []) is.1)
retry_found _ o e = absurd cc

run_found : (ts : List Token) (o : Order) → run_from ts ≡ Some o → OrderForm o (Key key.SendRun ∷ ts)
unfolding run_from
run_found (Number n ∷ []) o e =
    let k = bind_some (count_from n) (λ k. Some (Make (step.SendRun k))) o e in
    let is = count_is n k.0 k.1 in
    subst (λ (x : Order). OrderForm x (Key key.SendRun ∷ Number n ∷ [])) (some_is (Make (step.SendRun k.0)) o k.2)
    (is.0.0, is.0.1, ap (λ (m : ℕ). Key key.SendRun ∷ Number m ∷ []) is.1)
run_found _ o e = absurd cc

notice_found : (ts : List Token) (o : Order) → notice_from ts ≡ Some o → OrderForm o (Key key.Notice ∷ ts)
unfolding notice_from
notice_found (Key key.Source ∷ []) o e = subst (λ (x : Order). OrderForm x (Key key.Notice ∷ Key key.Source ∷ [])) (some_is (Make (step.Notice side.Source)) o e) refl
notice_found (Key key.Dest ∷ []) o e = subst (λ (x : Order). OrderForm x (Key key.Notice ∷ Key key.Dest ∷ [])) (some_is (Make (step.Notice side.Destination)) o e) refl
notice_found _ o e = absurd cc

push_found : (wire : ForwardWire) (ts : List Token) (o : Order) → push_from wire ts ≡ Some o → OrderForm o (Key (push_key wire) ∷ ts)
unfolding push_from
push_found wire (Number addr ∷ epoch) o e =
    let p = bind_some (page_from addr) (λ p. epoch_from epoch >>= λ at. Some (Push wire p at)) o e in
    let at = bind_some (epoch_from epoch) (λ at. Some (Push wire p.0 at)) o p.2 in
    let page = page_is addr p.0 p.1 in
    let written = epoch_found epoch at.0 at.1 in
    subst (λ (x : Order). OrderForm x (Key (push_key wire) ∷ Number addr ∷ epoch)) (some_is (Push wire p.0 at.0) o at.2) (
      page.0,
      written.0,
      ap (λ (n : ℕ). Key (push_key wire) ∷ Number n ∷ epoch) page.1
          ∙ ap (λ (xs : List Token). Key (push_key wire) ∷ Number (PAGE_SIZE * p.0) ∷ xs) written.1,
    )
push_found wire _ o e = absurd cc

moves_found : (word : Keyword) (make : ℕ → Step) (ts : List Token) (o : Order) → ((n : ℕ) (all : List Token) → MovesForm word n all → OrderForm (Make (make n)) all)
    → (bytes_from ts >>= λ n. Some (Make (make n))) ≡ Some o → OrderForm o (Key word ∷ ts)
moves_found word make ts o form e =
    let n = bind_some (bytes_from ts) (λ n. Some (Make (make n))) o e in
    subst (λ (x : Order). OrderForm x (Key word ∷ ts)) (some_is (Make (make n.0)) o n.2) (form n.0 (Key word ∷ ts) (ts, refl, bytes_found ts n.0 n.1))

word_found : (word : Keyword) (o : Order) → word_from word ≡ Some o → OrderForm o (Key word ∷ [])
unfolding word_from
word_found key.Start o e = subst (λ (x : Order). OrderForm x (Key key.Start ∷ [])) (some_is (Make step.Start) o e) refl
word_found key.Round o e = subst (λ (x : Order). OrderForm x (Key key.Round ∷ [])) (some_is (Make step.Round) o e) refl
word_found key.Send o e = subst (λ (x : Order). OrderForm x (Key key.Send ∷ [])) (some_is (Make step.Send) o e) refl
word_found key.SourceRead o e = subst (λ (x : Order). OrderForm x (Key key.SourceRead ∷ [])) (some_is (Make step.SourceRead) o e) refl
word_found key.SourceAct o e = subst (λ (x : Order). OrderForm x (Key key.SourceAct ∷ [])) (some_is (Make step.SourceAct) o e) refl
word_found key.Switch o e = subst (λ (x : Order). OrderForm x (Key key.Switch ∷ [])) (some_is (Make step.Switch) o e) refl
word_found key.DestRead o e = subst (λ (x : Order). OrderForm x (Key key.DestRead ∷ [])) (some_is (Make step.DestRead) o e) refl
word_found key.DestAct o e = subst (λ (x : Order). OrderForm x (Key key.DestAct ∷ [])) (some_is (Make step.DestAct) o e) refl
word_found key.Install o e = subst (λ (x : Order). OrderForm x (Key key.Install ∷ [])) (some_is (Make step.Install) o e) refl
word_found key.Serve o e = subst (λ (x : Order). OrderForm x (Key key.Serve ∷ [])) (some_is (Make step.Serve) o e) refl
word_found key.End o e = subst (λ (x : Order). OrderForm x (Key key.End ∷ [])) (some_is (Make step.End) o e) refl
word_found key.Break o e = subst (λ (x : Order). OrderForm x (Key key.Break ∷ [])) (some_is (Make step.Break) o e) refl
word_found key.Resume o e = subst (λ (x : Order). OrderForm x (Key key.Resume ∷ [])) (some_is (Make step.Resume) o e) refl
word_found key.Progress o e = subst (λ (x : Order). OrderForm x (Key key.Progress ∷ [])) (some_is Progress o e) refl
word_found _ o e = absurd cc

alone_found : (word : Keyword) (ts : List Token) (o : Order) → alone_from word ts ≡ Some o → OrderForm o (Key word ∷ ts)
unfolding alone_from
alone_found word [] o e = word_found word o e
alone_found word _ o e = absurd cc

-- ---- orders

with_found : (word : Keyword) (ts : List Token) (o : Order) → order_with word ts ≡ Some o → OrderForm o (Key word ∷ ts)
unfolding order_with
with_found key.Cpu ts o e = issue_found ts o e
with_found key.Retry ts o e = retry_found ts o e
with_found key.SendRun ts o e = run_found ts o e
with_found key.Deliver ts o e = moves_found key.Deliver (λ n. step.Deliver n) ts o (λ n all h. h) e
with_found key.Back ts o e = moves_found key.Back (λ n. step.DeliverBack n) ts o (λ n all h. h) e
with_found key.DeliverUrgent ts o e = moves_found key.DeliverUrgent (λ n. step.DeliverUrgent n) ts o (λ n all h. h) e
with_found key.Push ts o e = push_found Main ts o e
with_found key.PushUrgent ts o e = push_found Urgent ts o e
with_found key.Notice ts o e = notice_found ts o e
with_found word ts o e = alone_found word ts o e

pub order_found : (ts : List Token) (o : Order) → order_from ts ≡ Some o → OrderForm o ts
unfolding order_from
order_found (Key word ∷ ts) o e = with_found word ts o e
order_found _ o e = absurd cc

moves_again : (word : Keyword) (n : ℕ) (ts : List Token) (make : ℕ → Step) → MovesForm word n ts
    → ((more : List Token) → order_from (Key word ∷ more) ≡ (bytes_from more >>= λ m. Some (Make (make m)))) → order_from ts ≡ Some (Make (make n))
moves_again word n ts make h reads = ap order_from h.1 ∙ reads h.0 ∙ ap (λ (x : Option ℕ). x >>= λ m. Some (Make (make m))) (bytes_again h.0 n h.2)

step_again : (s : Step) (ts : List Token) → StepForm s ts → order_from ts ≡ Some (Make s)
unfolding order_from order_with issue_from retry_from run_from notice_from alone_from word_from
step_again (step.Issue cpu command) ts h = rw h.2 (rw (small_again cpu h.0, command_again command h.1 h.3) refl)
step_again (step.Retry cpu) ts h = rw h.1 (rw (small_again cpu h.0) refl)
step_again step.Start ts h = rw h refl
step_again step.Round ts h = rw h refl
step_again step.Send ts h = rw h refl
step_again (step.SendRun count) ts h = rw h.2 (rw (count_again count h.0 h.1) refl)
step_again step.SourceRead ts h = rw h refl
step_again step.SourceAct ts h = rw h refl
step_again step.Switch ts h = rw h refl
step_again (step.Deliver n) ts h = moves_again key.Deliver n ts (λ m. step.Deliver m) h (λ more. refl)
step_again (step.DeliverBack n) ts h = moves_again key.Back n ts (λ m. step.DeliverBack m) h (λ more. refl)
step_again step.DestRead ts h = rw h refl
step_again step.DestAct ts h = rw h refl
step_again step.Install ts h = rw h refl
step_again (step.Push ticket) ts h = absurd h
step_again (step.PushUrgent ticket) ts h = absurd h
step_again (step.DeliverUrgent n) ts h = moves_again key.DeliverUrgent n ts (λ m. step.DeliverUrgent m) h (λ more. refl)
step_again step.Serve ts h = rw h refl
step_again step.End ts h = rw h refl
step_again step.Break ts h = rw h refl
step_again (step.Notice side.Source) ts h = rw h refl
step_again (step.Notice side.Destination) ts h = rw h refl
step_again step.Resume ts h = rw h refl

pushed : (wire : ForwardWire) (addr : ℕ) (epoch : List Token) → order_from (Key (push_key wire) ∷ Number addr ∷ epoch) ≡ (page_from addr >>= λ p. epoch_from epoch >>= λ e. Some (Push wire p e))
unfolding order_from order_with push_from
pushed Main addr epoch = refl
pushed Urgent addr epoch = refl

order_again : (o : Order) (ts : List Token) → OrderForm o ts → order_from ts ≡ Some o
unfolding order_from order_with alone_from word_from
order_again (Make made) ts h = step_again made ts h
order_again (Push wire page epoch) ts h = ap order_from h.2 ∙ pushed wire (PAGE_SIZE * page) (epoch_form epoch) ∙ rw (page_again page h.0, epoch_again epoch h.1) refl
order_again Progress ts h = rw h refl

-- ---- words

pub words_found : (words : List (List ℕ)) (tokens : List Token) (r : Option Order) → AreTokens tokens words → r ≡ order_from tokens → IfSome r (λ order. SpellsOrder words order)
words_found words tokens None are e = tt
words_found words tokens (Some order) are e = (tokens, are, order_found tokens order (sym e))

pub words_none : (words : List (List ℕ)) (tokens : List Token) (r : Option Order) → AreTokens tokens words → r ≡ order_from tokens → IfNone r ((order : Order) → SpellsOrder words order → ⊥)
words_none words tokens None are e = λ order h.
    let same : h.0 ≡ tokens = one_list h.0 tokens words h.1 are in
    none_some order (e ∙ ap order_from (sym same) ∙ order_again order h.0 h.2)
words_none words tokens (Some order) are e = tt

-- words spell one order
pub one_order : (words : List (List ℕ)) (s t : Order) → SpellsOrder words s → SpellsOrder words t → s ≡ t
one_order words s t p q = some_is s t (sym (order_again s p.0 p.2) ∙ ap order_from (one_list p.0 q.0 words p.1 q.1) ∙ order_again t q.0 q.2)
