use Rattle.std.proofs.Common.{◌≡◌, ℕ, List, [], ◌++◌, ap, ◌∙◌}
use Rattle.audit.proofs.summary.certified_line.Goals as goal

joined : (t0 t1 t2 t3 one two three : List ℕ) → t0 ≡ [] → t1 ≡ t0 ++ one → t2 ≡ t1 ++ two → t3 ≡ t2 ++ three → t3 ≡ one ++ two ++ three
joined t0 t1 t2 t3 one two three none a b c = c ∙ ap (λ (t : List ℕ). t ++ three) (b ∙ ap (λ (t : List ℕ). t ++ two) (a ∙ ap (λ (t : List ℕ). t ++ one) none))

pub returns : goal.returns
returns c =
    joined _ _ _ _ _ _ _ c.new-text.ensures.bytes (rw c.missing_word.ensures at c.in_ok-add_number.ensures) (rw c.twice_word.ensures at c.in_ok-add_number-2.ensures) (rw c.unknown_word.ensures at c.in_ok-add_number-3.ensures)
