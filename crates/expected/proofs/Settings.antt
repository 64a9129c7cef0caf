-- What a first line says of the number of processors.
use Rattle.std.proofs.Common.{◌≡◌, ℕ, List, [], ◌∷◌, Some, None, sym, subst, ◌∙◌, refl}
use Rattle.std.specs.Prelude.{codes}
use Rattle.grammar.specs.declared.line.Language.TheVariants.{Script}
use Rattle.grammar.specs.declared.line.Line.TheVariants.{Skipped}
use Rattle.grammar.specs.declared.token.Token.{Token}
use Rattle.grammar.specs.declared.token.Token.TheVariants.{Number}
use Rattle.grammar.specs.Words.{AreTokens}
use Rattle.grammar.specs.Spelling.{IsNothing, Spells}
use Rattle.grammar.proofs.Tokens.{one_list}
use Rattle.expected.specs.Cases.{Case, Nothing, Cpus, Asks, CpusLine, SaysCpus, IsCase}
use Rattle.expected.proofs.Cuts.{skipped_no_order}

pub same_words : (text : List ℕ) (a b : List (List ℕ)) → CpusLine text a → CpusLine text b → a ≡ b
same_words text a b p q = let e : codes "#" ∷ codes "cpus" ∷ a ≡ codes "#" ∷ codes "cpus" ∷ b = sym p ∙ q in cc

-- the words after # and cpus are one list of tokens
pub says_one : (text : List ℕ) (words : List (List ℕ)) (tokens : List Token) (count : ℕ) → CpusLine text words → AreTokens tokens words → SaysCpus text count → tokens ≡ Number count ∷ []
says_one text words tokens count line are says =
    one_list tokens (Number count ∷ []) words are (subst (λ (ws : List (List ℕ)). AreTokens (Number count ∷ []) ws) (same_words text says.words words says.line line) says.number)

pub says_some : (text : List ℕ) (words : List (List ℕ)) (count : ℕ) → CpusLine text words → SaysCpus text count → AreTokens (Number count ∷ []) words
says_some text words count line says = subst (λ (ws : List (List ℕ)). AreTokens (Number count ∷ []) ws) (same_words text says.words words says.line line) says.number

-- such a line is a comment
cpus_skipped : (text : List ℕ) (words : List (List ℕ)) → CpusLine text words → Spells Script text Skipped
cpus_skipped text words line = subst IsNothing (sym line) refl

pub wrong_cpus : (number : ℕ) (text : List ℕ) (words : List (List ℕ)) → number ≡ 1 → CpusLine text words → ((count : ℕ) → SaysCpus text count → ⊥) → (case : Case) → IsCase number text case → ⊥
wrong_cpus number text words one line none Nothing p = p.0 one words line
wrong_cpus number text words one line none (Cpus count) p = none count p.1
wrong_cpus number text words one line none (Asks order None) p = skipped_no_order text order (cpus_skipped text words line) p
wrong_cpus number text words one line none (Asks order (Some answer)) p = p.other Skipped (cpus_skipped text words line)
