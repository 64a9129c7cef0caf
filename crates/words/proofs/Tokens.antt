-- The tokens of the words of a text. `Is` says which words are for a token, and `words` what the words of a text are.
use Rattle.std.proofs.Common.{◌≡◌, ℕ, List, [], ◌∷◌, ◌++◌, refl, ap, ◌∙◌, sym, subst, append_assoc}
use Rattle.words.specs.Words.{AreEach}

pub tokens_push : {T : Type 0} (Is : T → List ℕ → Type 0) (ts : List T) (ws : List (List ℕ)) (t : T) (w : List ℕ) → AreEach Is ts ws → Is t w → AreEach Is (ts ++ t ∷ []) (ws ++ w ∷ [])
tokens_push Is [] [] t w h is = (is, tt)
tokens_push Is [] (v ∷ ws) t w h is = absurd h
tokens_push Is (s ∷ ts) [] t w h is = absurd h
tokens_push Is (s ∷ ts) (v ∷ ws) t w h is = (h.0, tokens_push Is ts ws t w h.1 is)

-- each word of a list is some token
pub next_token : {T : Type 0} (Is : T → List ℕ → Type 0) (ts : List T) (front : List (List ℕ)) (w : List ℕ) (ws : List (List ℕ)) → AreEach Is ts (front ++ w ∷ ws) → (t : T) × Is t w
next_token Is [] [] w ws h = absurd h
next_token Is (t ∷ ts) [] w ws h = (t, h.0)
next_token Is [] (v ∷ front) w ws h = absurd h
next_token Is (t ∷ ts) (v ∷ front) w ws h = next_token Is ts front w ws h.1

-- the words of a text as far as they were read: these tokens are for them, and rest comes after
pub record ReadsTokens {T : Type 0} (Is : T → List ℕ → Type 0) (words : List ℕ → List (List ℕ)) (text : List ℕ) (tokens : List T) (rest : List ℕ) : Type 0 where
  pub front : List (List ℕ)
  pub all : words text ≡ front ++ words rest
  pub are : AreEach Is tokens front

pub tokens_more : {T : Type 0} (Is : T → List ℕ → Type 0) (words : List ℕ → List (List ℕ)) (text : List ℕ) (tokens : List T) (rest word after : List ℕ) (token : T)
    → ReadsTokens Is words text tokens rest → words rest ≡ word ∷ words after → Is token word → ReadsTokens Is words text (tokens ++ token ∷ []) after
tokens_more Is words text tokens rest word after token so_far first is = record {
  front = so_far.front ++ word ∷ [];
  all = so_far.all ∙ ap (λ (ws : List (List ℕ)). so_far.front ++ ws) first ∙ sym (append_assoc so_far.front (word ∷ []) (words after));
  are = tokens_push Is tokens so_far.front token word so_far.are is;
}

-- the last word
pub tokens_last : {T : Type 0} (Is : T → List ℕ → Type 0) (words : List ℕ → List (List ℕ)) (text : List ℕ) (tokens : List T) (rest : List ℕ) (token : T)
    → ReadsTokens Is words text tokens rest → words rest ≡ rest ∷ [] → Is token rest → AreEach Is (tokens ++ token ∷ []) (words text)
tokens_last Is words text tokens rest token so_far last is =
    let whole : words text ≡ so_far.front ++ rest ∷ [] = so_far.all ∙ ap (λ (ws : List (List ℕ)). so_far.front ++ ws) last in
    subst (λ (ws : List (List ℕ)). AreEach Is (tokens ++ token ∷ []) ws) (sym whole) (tokens_push Is tokens so_far.front token rest so_far.are is)

-- a word that is not a token
pub tokens_wrong : {T : Type 0} (Is : T → List ℕ → Type 0) (words : List ℕ → List (List ℕ)) (text : List ℕ) (tokens : List T) (rest word : List ℕ) (after : List (List ℕ))
    → ReadsTokens Is words text tokens rest → words rest ≡ word ∷ after → ((token : T) → Is token word → ⊥) → (others : List T) → AreEach Is others (words text) → ⊥
tokens_wrong Is words text tokens rest word after so_far first none others are =
    let whole : words text ≡ so_far.front ++ word ∷ after = so_far.all ∙ ap (λ (ws : List (List ℕ)). so_far.front ++ ws) first in
    let found = next_token Is others so_far.front word after (subst (λ (ws : List (List ℕ)). AreEach Is others ws) whole are) in
    none found.0 found.1

-- where a word is for one token, words are for one list of tokens
pub one_list : {T : Type 0} (Is : T → List ℕ → Type 0) → ((s t : T) (w : List ℕ) → Is s w → Is t w → s ≡ t) → (ss ts : List T) (ws : List (List ℕ)) → AreEach Is ss ws → AreEach Is ts ws → ss ≡ ts
one_list Is one [] [] ws p q = refl
one_list Is one [] (t ∷ ts) [] p q = absurd q
one_list Is one [] (t ∷ ts) (w ∷ ws) p q = absurd p
one_list Is one (s ∷ ss) [] [] p q = absurd p
one_list Is one (s ∷ ss) [] (w ∷ ws) p q = absurd q
one_list Is one (s ∷ ss) (t ∷ ts) [] p q = absurd p
one_list Is one (s ∷ ss) (t ∷ ts) (w ∷ ws) p q = rw (one s t w p.0 q.0, one_list Is one ss ts ws p.1 q.1) refl
