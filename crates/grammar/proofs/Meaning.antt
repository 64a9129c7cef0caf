-- A script and a transcript have one meaning.
use Rattle.std.proofs.Common.{◌≡◌, ℕ, ◌≤◌, List, [], ◌∷◌, ◌++◌, length, Some, refl, sym, ap, subst, ◌∙◌, arith, inl, inr}
use Rattle.std.specs.Prelude.{slice_get}
use Rattle.std.specs.Str.Lines.{strip_carriage_return}
use Rattle.mig_base.specs.declared.schedule.Step.{Step}
use Rattle.mig_base.specs.declared.schedule.Step.TheVariants as step
use Rattle.mig_base.specs.declared.command.Entry.{Entry}
use Rattle.grammar.specs.declared.line.Language.{Language}
use Rattle.grammar.specs.declared.line.Language.TheVariants.{Script, Transcript}
use Rattle.grammar.specs.declared.line.Line.{Line}
use Rattle.grammar.specs.declared.line.Line.TheVariants.{Skipped, Do, Enter}
use Rattle.grammar.specs.declared.order.Order.{Order}
use Rattle.grammar.specs.declared.order.Order.TheVariants.{Make, Push, Progress}
use Rattle.grammar.specs.declared.keyword.Keyword.{Keyword}
use Rattle.grammar.specs.declared.token.Token.{Token}
use Rattle.grammar.specs.declared.token.Token.TheVariants.{Key, Number}
use Rattle.grammar.specs.Words.{keyword_text, words_of, AreTokens}
use Rattle.grammar.specs.Spelling.{StepForm, OrderForm, IsNothing, SpellsOrder, SpellsEntry, Spells}
use Rattle.grammar.specs.Lines.{HasNoFeed, ReadsLine, Reads, BeginsWrong}
use Rattle.grammar.proofs.Tokens.{first_no_digit, number_no_comment}
use Rattle.grammar.proofs.Orders.{one_order}
use Rattle.grammar.proofs.Entries.{one_entry}
use Rattle.grammar.proofs.Cuts.{feed_inside, one_cut}

-- each order begins with a keyword
step_first : (s : Step) (ts : List Token) → StepForm s ts → (k : Keyword) × (more : List Token) × (ts ≡ Key k ∷ more)
step_first (step.Issue cpu command) ts h = (_, _, h.2)
step_first (step.Retry cpu) ts h = (_, _, h.1)
step_first step.Start ts h = (_, _, h)
step_first step.Round ts h = (_, _, h)
step_first step.Send ts h = (_, _, h)
step_first (step.SendRun count) ts h = (_, _, h.2)
step_first step.SourceRead ts h = (_, _, h)
step_first step.SourceAct ts h = (_, _, h)
step_first step.Switch ts h = (_, _, h)
step_first (step.Deliver n) ts h = (_, _, h.1)
step_first (step.DeliverBack n) ts h = (_, _, h.1)
step_first step.DestRead ts h = (_, _, h)
step_first step.DestAct ts h = (_, _, h)
step_first step.Install ts h = (_, _, h)
step_first (step.Push ticket) ts h = absurd h
step_first (step.PushUrgent ticket) ts h = absurd h
step_first (step.DeliverUrgent n) ts h = (_, _, h.1)
step_first step.Serve ts h = (_, _, h)
step_first step.End ts h = (_, _, h)
step_first step.Break ts h = (_, _, h)
step_first (step.Notice at) ts h = (_, _, h)
step_first step.Resume ts h = (_, _, h)

order_first : (o : Order) (ts : List Token) → OrderForm o ts → (k : Keyword) × (more : List Token) × (ts ≡ Key k ∷ more)
order_first (Make made) ts h = step_first made ts h
order_first (Push wire page epoch) ts h = (_, _, h.2)
order_first Progress ts h = (_, _, h)

first_byte : (b : ℕ) (bs : List ℕ) → 58 ≤ b → slice_get (b ∷ bs) 0 ≡ Some 35 → ⊥
first_byte b bs le e = let h : b ≡ 35 = cc in absurd (omega (arith, le, h))

no_comment : (k : Keyword) (w : List ℕ) → w ≡ keyword_text k → slice_get w 0 ≡ Some 35 → ⊥
no_comment k w e h =
    let l = first_no_digit k in
    first_byte l.0 l.1 l.3 (subst (λ (t : List ℕ). slice_get t 0 ≡ Some 35) (e ∙ l.2) h)

first_is : (k : Keyword) (more : List Token) (words : List (List ℕ)) → AreTokens (Key k ∷ more) words → IsNothing words → ⊥
first_is k more [] are nothing = absurd are
first_is k more (w ∷ words) are nothing = no_comment k w are.0 nothing

nothing_or_order : (words : List (List ℕ)) (o : Order) → IsNothing words → SpellsOrder words o → ⊥
nothing_or_order words o nothing p =
    let f = order_first o p.0 p.2 in
    first_is f.0 f.1 words (subst (λ (ts : List Token). AreTokens ts words) f.2 p.1) nothing

number_first : (n : ℕ) (more : List Token) (words : List (List ℕ)) → AreTokens (Number n ∷ more) words → IsNothing words → ⊥
number_first n more [] are nothing = absurd are
number_first n more (w ∷ words) are nothing = number_no_comment w n are.0 nothing

nothing_or_entry : (words : List (List ℕ)) (e : Entry) → IsNothing words → SpellsEntry words e → ⊥
nothing_or_entry words e nothing p = number_first e.cpu _ words (subst (λ (ts : List Token). AreTokens ts words) p.2.2 p.1) nothing

pub one_line : (l : Language) (text : List ℕ) (a b : Line) → Spells l text a → Spells l text b → a ≡ b
one_line l text Skipped Skipped p q = refl
one_line Script text Skipped (Do t) p q = absurd (nothing_or_order (words_of text) t p q)
one_line Script text (Do s) Skipped p q = absurd (nothing_or_order (words_of text) s q p)
one_line Script text (Do s) (Do t) p q = ap (λ (x : Order). Do x) (one_order (words_of text) s t p q)
one_line Script text (Enter d) b p q = absurd p
one_line Script text a (Enter e) p q = absurd q
one_line Transcript text Skipped (Enter e) p q = absurd (nothing_or_entry (words_of text) e p q)
one_line Transcript text (Enter d) Skipped p q = absurd (nothing_or_entry (words_of text) d q p)
one_line Transcript text (Enter d) (Enter e) p q = ap (λ (x : Entry). Enter x) (one_entry (words_of text) d e p q)
one_line Transcript text (Do s) b p q = absurd p
one_line Transcript text a (Do t) p q = absurd q

-- a text that is neither nothing nor an order is no line of a script
pub no_script_line : (text : List ℕ) → (IsNothing (words_of text) → ⊥) → ((order : Order) → SpellsOrder (words_of text) order → ⊥) → (line : Line) → Spells Script text line → ⊥
no_script_line text nothing none Skipped h = nothing h
no_script_line text nothing none (Do order) h = none order h
no_script_line text nothing none (Enter entry) h = h

pub no_transcript_line : (text : List ℕ) → (IsNothing (words_of text) → ⊥) → ((entry : Entry) → SpellsEntry (words_of text) entry → ⊥) → (line : Line) → Spells Transcript text line → ⊥
no_transcript_line text nothing none Skipped h = nothing h
no_transcript_line text nothing none (Do order) h = h
no_transcript_line text nothing none (Enter entry) h = none entry h

pub one_first : (l : Language) (bytes : List ℕ) (a b : Line) (r s : List ℕ) → ReadsLine l bytes a r → ReadsLine l bytes b s → (a ≡ b) × (r ≡ s)
one_first l bytes a b r s p q = elim p [
  | inl e ↦ elim q [
    | inl f ↦
        let cut = one_cut e.raw f.raw r s e.one f.one (sym e.whole ∙ f.whole) in
        (one_line l (strip_carriage_return f.raw) a b (subst (λ (t : List ℕ). Spells l (strip_carriage_return t) a) cut.0 e.spells) f.spells, cut.1)
    | inr f ↦ absurd (feed_inside e.raw r (subst (λ (t : List ℕ). HasNoFeed t) e.whole f.0.one))
  ]
  | inr e ↦ elim q [
    | inl f ↦ absurd (feed_inside f.raw s (subst (λ (t : List ℕ). HasNoFeed t) f.whole e.0.one))
    | inr f ↦ (one_line l bytes a b e.0.spells f.0.spells, e.1 ∙ sym f.1)
  ]
]

long : (xs ys : List ℕ) → xs ++ 10 ∷ ys ≡ [] → ⊥
long [] ys e = cc
long (x ∷ xs) ys e = cc

-- no line is read where nothing is left
some_left : (l : Language) (bytes : List ℕ) (a : Line) (r : List ℕ) → ReadsLine l bytes a r → bytes ≡ [] → ⊥
some_left l bytes a r p none = elim p [
  | inl e ↦ long e.raw r (sym e.whole ∙ none)
  | inr e ↦ let zero_long : length bytes ≡ 0 = ap length none in absurd (omega (arith, e.0.some, zero_long))
]

pub one_reading : (l : Language) (input : List ℕ) (xs ys : List Line) → Reads l input xs [] → Reads l input ys [] → xs ≡ ys
one_reading l input [] [] p q = refl
one_reading l input [] (y ∷ ys) p q = absurd (some_left l input y q.0 q.1 p)
one_reading l input (x ∷ xs) [] p q = absurd (some_left l input x p.0 p.1 q)
one_reading l input (x ∷ xs) (y ∷ ys) p q =
    let f = one_first l input x y p.0 q.0 p.1 q.1 in
    let rest = one_reading l q.0 xs ys (subst (λ (t : List ℕ). Reads l t xs []) f.1 p.2) q.2 in
    ap (λ (z : Line). z ∷ xs) f.0 ∙ ap (λ (zs : List Line). y ∷ zs) rest

wrong_or_line : (l : Language) (bytes : List ℕ) (a : Line) (r : List ℕ) (rest : List ℕ) → BeginsWrong l rest → bytes ≡ rest → ReadsLine l bytes a r → ⊥
wrong_or_line l bytes a r rest w e p = w.wrong a r (subst (λ (t : List ℕ). ReadsLine l t a r) e p)

-- a script has one first line that is wrong
pub one_fault : (l : Language) (input : List ℕ) (xs ys : List Line) (r s : List ℕ) → Reads l input xs r → BeginsWrong l r → Reads l input ys s → BeginsWrong l s → xs ≡ ys
one_fault l input [] [] r s p w q v = refl
one_fault l input [] (y ∷ ys) r s p w q v = absurd (wrong_or_line l input y q.0 r w p q.1)
one_fault l input (x ∷ xs) [] r s p w q v = absurd (wrong_or_line l input x p.0 s v q p.1)
one_fault l input (x ∷ xs) (y ∷ ys) r s p w q v =
    let f = one_first l input x y p.0 q.0 p.1 q.1 in
    let rest = one_fault l q.0 xs ys r s (subst (λ (t : List ℕ). Reads l t xs r) f.1 p.2) w q.2 v in
    ap (λ (z : Line). z ∷ xs) f.0 ∙ ap (λ (zs : List Line). y ∷ zs) rest

-- a script that is read to its end has none
pub no_fault : (l : Language) (input : List ℕ) (xs ys : List Line) (s : List ℕ) → Reads l input xs [] → Reads l input ys s → BeginsWrong l s → ⊥
no_fault l input [] [] s p q v = let zero_long : length s ≡ 0 = ap length (sym q ∙ p) in absurd (omega (arith, zero_long, v.some))
no_fault l input [] (y ∷ ys) s p q v = some_left l input y q.0 q.1 p
no_fault l input (x ∷ xs) [] s p q v = wrong_or_line l input x p.0 s v q p.1
no_fault l input (x ∷ xs) (y ∷ ys) s p q v =
    let f = one_first l input x y p.0 q.0 p.1 q.1 in
    no_fault l q.0 xs ys s (subst (λ (t : List ℕ). Reads l t xs []) f.1 p.2) q.2 v
